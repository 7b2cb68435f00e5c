use Rattle.std.proofs.Common.{ap, ◌∙◌, map}
use Rattle.std.specs.declared.alloc.Global.{Global}
use Rattle.std.specs.declared.vec.Vec.{Vec}
use Rattle.bs_top.proofs.Sweeping.{more_words, with_none, with_one}
use Rattle.bs_words.specs.Machine.{word_of}
use Rattle.bs_words.specs.declared.machine.MachineWord.{MachineWord}
use Rattle.bs_top.proofs.commands.sweep.words_of.Goals as goal
use Rattle.bs_top.proofs.commands.sweep.words_of.Goals.{in-Some+in_ok-push, in_default}

pub loop-name-preserved : goal.loop-name-preserved
loop-name-preserved c =
    let names = c.args.names.now in
    let i = c.loop-name.name-index in
    let words = c.loop-name.words.items in
    let o = c.machine_word.result in
    let new = c.match-machine_word.words.items in
    let is = c.text.ensures ∙ c.name-item.is in
    elim c.match-machine_word.branch [
      | in-Some+in_ok-push w ↦
          let pushed = ap (λ (words : Vec MachineWord Global). words.items) w.words-is ∙ w.in_ok-push.ensures.items in
          more_words names i c.text.result.now c.name-item.result o words new c.loop-name-test.true is c.machine_word.ensures c.loop-name.invariant (with_one words new w.in-Some.word o w.in-Some.is pushed)
      | in_default w ↦
          let kept = ap (λ (words : Vec MachineWord Global). map word_of words.items) w.words-is in
          more_words names i c.text.result.now c.name-item.result o words new c.loop-name-test.true is c.machine_word.ensures c.loop-name.invariant (kept ∙ with_none words o w.in_default.is)
    ]
