use Rattle.std.proofs.Common.{◌≡◌, ◌+◌, ◌∷◌, [], List, map, drop, get_or, subst, sym, arith}
use Rattle.std.proofs.Math.ListN.{drop_of_length-le}
use Rattle.std.specs.List.Sorted.{IsStrictlySortedBy}
use Rattle.std.proofs.lemmas.List.{drop_more}
use Rattle.bs_schedule.proofs.Places.{place_mem}
use Rattle.bs_line.specs.declared.corrections.Correction.{Correction}
use Rattle.bs_settle.specs.Changes.{AreOrdered}
use Rattle.bs_line.proofs.Keys.{key_cmp}
use Rattle.bs_settle.proofs.Sorted.{AreSorted, Entry, all_sorted, one_sorted}
use Rattle.bs_settle.proofs.gathering.in_order.Goals as goal

pub loop-correction-preserved : goal.loop-correction-preserved
loop-correction-preserved c =
    let all = c.args.gathered.now in
    let k = c.loop-correction.correction-index in
    let item : Correction = get_or all k (record { mail = record { row = 0; index = 0 }; to = 0; was = record { 0 = 0 }; tick = record { 0 = 0 } }) in
    let before : AreSorted all (item ∷ drop (k + 1) all) c.loop-correction.sorted.entries = subst (λ left. AreSorted all left c.loop-correction.sorted.entries) (drop_more all k _ c.loop-correction-test.true) c.loop-correction.invariant in
    let entries = c.in_ok-insert.ensures.entries in
    let ordered = subst (λ (es : List Entry). IsStrictlySortedBy key_cmp (map (λ e. e.0) es)) entries c.in_ok-insert.ensures.ordered in
    subst (AreSorted all (drop (k + 1) all)) (sym entries) (one_sorted all (drop (k + 1) all) item c.loop-correction.sorted.entries c.requires (place_mem all k _ c.loop-correction-test.true) before ordered)

pub returns : goal.returns
returns c =
    let all = c.args.gathered.now in
    let none : drop c.loop-correction.correction-index all ≡ [] = drop_of_length-le all (omega (arith, c.loop-correction-test.false)) in
    subst (AreOrdered all) (sym c.in_ok-list.ensures) (all_sorted all c.loop-correction.sorted.entries (subst (λ left. AreSorted all left c.loop-correction.sorted.entries) none c.loop-correction.invariant))
