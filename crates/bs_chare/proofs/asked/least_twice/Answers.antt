use Rattle.std.proofs.Common.{◌≡◌, ◌+◌, None, Some, sym, ap, subst, ◌∙◌, take, get_or, is_some, arith, false, true, ◌≤◌}
use Rattle.std.proofs.lemmas.List.{take_all}
use Rattle.bs_chare.specs.Asked.{IsLeastTwice, times}
use Rattle.bs_chare.proofs.Askers.{has, OneMore, IsListed, set_more, one_more, first_met, met_again}
use Rattle.bs_chare.proofs.asked.least_twice.Goals.{in-None, in-Some}
use Rattle.bs_chare.proofs.asked.least_twice.Goals as goal

pub loop-one-preserved : goal.loop-one-preserved
loop-one-preserved c =
    let l = c.loop-one in
    let x = c.one-item.result in
    let met = times (take l.one-index c.args.asked.now) in
    let new = times (take (l.one-index + 1) c.args.asked.now) in
    let more : OneMore x.key met new = subst (λ y. OneMore y.key met new) (sym c.one-item.is) (one_more c.args.asked.now l.one-index x c.loop-one-test.true) in
    let listed : IsListed (has c.insert.new.self) new = set_more l.keys c.insert.new.self x.key met new c.in_ok-insert.ensures.updates more l.invariant.listed in
    elim c.match-branch-2.branch [
      | in-None w ↦
          let free : has l.keys x.key ≡ false = ap is_some (sym c.in_ok-insert.ensures.old ∙ w.in-None.is) in
          record { listed = listed; least = subst (IsLeastTwice new) (sym w.least-is) (first_met x.key met new more ((l.invariant.listed x.key).1 free) l.least l.invariant.least) }
      | in-Some w ↦
          let known : has l.keys x.key ≡ true = ap is_some (sym c.in_ok-insert.ensures.old ∙ w.in-Some.is) in
          let one : 1 ≤ met x.key = (l.invariant.listed x.key).0 known in
          record { listed = listed; least = subst (IsLeastTwice new) (sym (w.least-is ∙ ap Some w.lesser.ensures)) (met_again x.key met new more one l.least l.invariant.least) }
    ]

pub returns : goal.returns
returns c =
    let l = c.loop-one in
    subst (λ xs. IsLeastTwice (times xs) l.least) (take_all l.one-index c.args.asked.now (omega (arith, c.loop-one-test.false))) l.invariant.least
