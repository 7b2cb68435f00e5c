use Rattle.std.proofs.Common.{◌≡◌, ◌++◌, ◌∷◌, [], ℕ, ◌<◌, false, rules, arith, ap, ◌∙◌, subst, get_or, get_or-set_other, get_or-set_same}
use mathlib.Core.Logic.{dite}
use mathlib.Core.Option.{some}
use native.Mathlib.Decide.{ℕ_discrete}
use lib.ListN.{get_elem?}
use Rattle.std.specs.Prelude.{slice_set}
use Rattle.std.specs.Slots.{slots_filled, slots_counts}
use Rattle.bs_floor.proofs.Gathering.{take_more_at}
use Rattle.bs_floor.proofs.floor.emptied.Goals as goal

pub loop-i-preserved : goal.loop-i-preserved
loop-i-preserved g c =
    let i = c.loop-i.invariant in
    let t = c.take.ensures in
    let k : ℕ = c.loop-i.i in
    let old = c.loop-i.closed.slots in
    let at = subst (λ l. get_elem? l k ≡ some c.take.result) i.1 t.value in
    let cap = i.3 in
    let low = c.loop-i-test.true in (
      c.push_reserved.ensures.items ∙ ap (λ l. l ++ c.take.result ∷ []) i.0 ∙ take_more_at _ k c.take.result at,
      t.others.0 ∙ i.1,
      t.others.2 ∙ i.2,
      search rules,
      λ j le lt. ap (λ l. get_or l j false) t.others.1 ∙ get_or-set_other (slots_filled old) k j false false (λ e. omega arith) ∙ i.4 j (omega arith) (subst (λ (z : ℕ). j < z) t.others.2 lt),
      λ j lt. dite (ℕ_discrete j k)
          (λ e. let counts = slots_counts old in let end = c.slot_count-i-end.ensures in let n2 = i.2 in
          ap (λ l. get_or l j false) t.others.1 ∙ ap (λ (z : ℕ). get_or (slice_set (slots_filled old) k false) z false) e ∙ get_or-set_same (slots_filled old) k false false (omega arith))
          (λ other. ap (λ l. get_or l j false) t.others.1 ∙ get_or-set_other (slots_filled old) k j false false other ∙ i.5 j (omega arith)),
    )
