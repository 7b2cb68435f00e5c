use Rattle.std.proofs.Common.{◌≡◌, ◌<◌, ℕ, ◌+◌, ◌^◌, ◌∙◌, List, Option, Some, None, length, get_or, refl, ap, subst, sym, arith}
use Rattle.std.specs.List.{All, slice_get}
use Rattle.bs_num.specs.declared.ticks.Tick.{Tick}
use Rattle.bs_times.proofs.Causal.{fitted_is_timely}
use Rattle.bs_times.specs.Machine.{machine_of}
use Rattle.bs_times.specs.Times.{IsConsistent}
use Rattle.bs_rows.proofs.Numbered.{rows_few}
use Rattle.bs_rows.specs.Rows.{net_on}
use Rattle.bs_settle.specs.Timed.{numbers}
use Rattle.bs_settle.specs.declared.times.Times.{Times}
use Rattle.bs_times.specs.Net.{Net}
use Rattle.bs_path.specs.Checked.{IsKnown, IsVerdict}
use Rattle.bs_path.specs.Sound.{EndHolds, IsFirstBroken}
use Rattle.std.proofs.lemmas.Bool.{false≢true}
use Rattle.bs_path.specs.declared.rules.ChainRule.TheVariants.{BadEnd}
use Rattle.bs_path.specs.declared.links.ChainRow.{ChainRow}
use Rattle.bs_path.specs.declared.links.Link.TheVariants.{First}
use Rattle.bs_path.specs.declared.rules.ChainRule.{ChainRule}
use Rattle.bs_path.specs.Chain.{start_in, starts_of}
use Rattle.bs_path.proofs.Going.{before_next, broken_end, broken_here, few_places, holds_next, item_there, next_few, next_known, next_start, sound_all, started, sum_next}
use Rattle.bs_path.proofs.Premises.{causal}
use Rattle.bs_path.proofs.Table.{all_early, a_start_each, early_at, the_table}
use Rattle.bs_path.proofs.checking.check_chain.Goals as goal

pub broken_at-requires-clause-each : goal.broken_at-requires-clause-each
broken_at-requires-clause-each c = a_start_each c.args.log.now (machine_of c.args.machine.now) c.args.times.now c.requires.times _ c.as_slice-starts.ensures

pub broken_at-requires-clause-early : goal.broken_at-requires-clause-early
broken_at-requires-clause-early c = all_early c.args.log.now (machine_of c.args.machine.now) c.args.times.now c.requires.times _ c.as_slice-starts.ensures

pub end_holds-requires-clause-each : goal.end_holds-requires-clause-each
end_holds-requires-clause-each c = a_start_each c.args.log.now (machine_of c.args.machine.now) c.args.times.now c.requires.times _ c.as_slice-starts.ensures

pub end_holds-requires-clause-early : goal.end_holds-requires-clause-early
end_holds-requires-clause-early c = all_early c.args.log.now (machine_of c.args.machine.now) c.args.times.now c.requires.times _ c.as_slice-starts.ensures

pub broken_at-requires-clause-table : goal.broken_at-requires-clause-table
broken_at-requires-clause-table c =
    subst (λ xs. IsConsistent (net_on c.args.log.now c.args.machine.now) (start_in (numbers xs))) (sym c.as_slice-starts.ensures)
    (the_table c.args.log.now (machine_of c.args.machine.now) c.args.times.now c.requires.times c.requires.valid (fitted_is_timely c.args.machine.now))

pub overflow_cast-result : goal.overflow_cast-result
overflow_cast-result c = omega (arith, few_places (net_on c.args.log.now c.args.machine.now) (starts_of c.args.times.now) c.loop-place.before c.loop-place.place c.loop-place.invariant.few, rows_few c.args.log.now c.requires.valid)

none : ChainRow
none = record { row = 0; start = 0; step = 0; link = First }

-- the starts are those of the times
of_times : (net : Net) (times : Times) (ticks : List Tick) (last : Option ChainRow) (r : ChainRow) (o : Option ChainRule) → ticks ≡ times.starts → IsVerdict net (start_in (numbers ticks)) last r o → IsVerdict net (starts_of times) last r o
of_times net times ticks last r o e v = subst (λ xs. IsVerdict net (start_in (numbers xs)) last r o) e v

pub returns-in-Some-clause-fault : goal.returns-in-Some-clause-fault
unfolding none
returns-in-Some-clause-fault c =
    let net = net_on c.args.log.now c.args.machine.now in
    let s = starts_of c.args.times.now in
    let rows = c.args.chain.now.rows in
    let k = c.loop-place.place in
    let last = c.loop-place.before in
    let r = get_or c.as_slice-row-items.result.now k none in
    let lt : k < length rows = omega (arith, c.loop-place-test.true, ap length c.as_slice-row-items.ensures) in
    let there : slice_get rows k ≡ Some r = item_there rows c.as_slice-row-items.result.now k none c.as_slice-row-items.ensures c.loop-place-test.true in
    let verdict : IsVerdict net s last r (Some c.in-Some.rule) = subst (IsVerdict net s last r) c.in-Some.is (of_times net c.args.times.now c.as_slice-starts.result.now last r c.broken_at.result c.as_slice-starts.ensures c.broken_at.ensures) in
    broken_here net s c.args.chain.now k r c.in-Some.rule there lt (subst (λ o. IsVerdict net s o r (Some c.in-Some.rule)) c.loop-place.invariant.before verdict) c.loop-place.invariant.holds

pub overflow_add-total : goal.overflow_add-total
unfolding none
overflow_add-total c =
    let net = net_on c.args.log.now c.args.machine.now in
    let s = starts_of c.args.times.now in
    let rows = c.args.chain.now.rows in
    let k = c.loop-place.place in
    let last = c.loop-place.before in
    let r = get_or c.as_slice-row-items.result.now k none in
    let verdict : IsVerdict net s last r None = subst (IsVerdict net s last r) c.in_default.is (of_times net c.args.times.now c.as_slice-starts.result.now last r c.broken_at.result c.as_slice-starts.ensures c.broken_at.ensures) in
    let each = a_start_each c.args.log.now (machine_of c.args.machine.now) c.args.times.now c.requires.times c.args.times.now.starts refl in
    let all = all_early c.args.log.now (machine_of c.args.machine.now) c.args.times.now c.requires.times c.args.times.now.starts refl in
    let known = next_known net (causal c.args.log.now c.args.machine.now c.requires.valid) s r last c.loop-place.invariant.known verdict in
    let early = early_at c.args.times.now.starts r.row all known.0.0 (omega (arith, each, known.0.1)) in
    let sum = next_start net (causal c.args.log.now c.args.machine.now c.requires.valid) s r last c.loop-place.invariant.known verdict in
    omega (arith, known.1, early, sum, c.loop-place.invariant.at)

pub loop-place-preserved : goal.loop-place-preserved
unfolding none
loop-place-preserved c =
    let net = net_on c.args.log.now c.args.machine.now in
    let s = starts_of c.args.times.now in
    let rows = c.args.chain.now.rows in
    let k = c.loop-place.place in
    let last = c.loop-place.before in
    let r = get_or c.as_slice-row-items.result.now k none in
    let net_is_causal = causal c.args.log.now c.args.machine.now c.requires.valid in
    let there : slice_get rows k ≡ Some r = item_there rows c.as_slice-row-items.result.now k none c.as_slice-row-items.ensures c.loop-place-test.true in
    let verdict : IsVerdict net s last r None = subst (IsVerdict net s last r) c.in_default.is (of_times net c.args.times.now c.as_slice-starts.result.now last r c.broken_at.result c.as_slice-starts.ensures c.broken_at.ensures) in
    record {
      before = before_next rows k r there;
      known = next_known net net_is_causal s r last c.loop-place.invariant.known verdict;
      total = sum_next rows k c.loop-place.total r there c.loop-place.invariant.total;
      at = ap (λ t. t + r.step) c.loop-place.invariant.at ∙ next_start net net_is_causal s r last c.loop-place.invariant.known verdict;
      few = next_few net net_is_causal s r last c.loop-place.invariant.known verdict k c.loop-place.invariant.few;
      holds = holds_next net s c.args.chain.now k r there (subst (λ o. IsVerdict net s o r None) c.loop-place.invariant.before verdict) c.loop-place.invariant.holds;
    }

-- the last row started early
total_small : (net : Net) (ticks : List Tick) (total : ℕ) (last : Option ChainRow) → length ticks ≡ net.rows → All (λ (tick : Tick). tick.0 < 2 ^ 109) ticks → IsKnown net (start_in (numbers ticks)) last → total ≡ started last → total < 2 ^ 109
total_small net ticks total None each all known is = omega (arith, is)
total_small net ticks total (Some b) each all known is = omega (arith, is, known.1, early_at ticks b.row all known.0.0 (omega (arith, each, known.0.1)))

pub end_holds-requires-clause-small : goal.end_holds-requires-clause-small
end_holds-requires-clause-small c =
    let each = a_start_each c.args.log.now (machine_of c.args.machine.now) c.args.times.now c.requires.times c.args.times.now.starts refl in
    let all = all_early c.args.log.now (machine_of c.args.machine.now) c.args.times.now c.requires.times c.args.times.now.starts refl in
    total_small (net_on c.args.log.now c.args.machine.now) c.args.times.now.starts c.loop-place.total c.loop-place.before each all c.loop-place.invariant.known c.loop-place.invariant.at

pub overflow_cast-result-else-end_holds : goal.overflow_cast-result-else-end_holds
overflow_cast-result-else-end_holds c = omega (arith, few_places (net_on c.args.log.now c.args.machine.now) (starts_of c.args.times.now) c.loop-place.before c.loop-place.place c.loop-place.invariant.few, rows_few c.args.log.now c.requires.valid, ap length c.as_slice.ensures, ap length c.as_slice-row-items.ensures, c.loop-place-test.false)

pub returns-then-end_holds-clause-ok : goal.returns-then-end_holds-clause-ok
returns-then-end_holds-clause-ok c =
    let net = net_on c.args.log.now c.args.machine.now in
    let chain = c.args.chain.now in
    let last = c.loop-place.before in
    let here : c.loop-place.place ≡ length chain.rows = omega (arith, c.loop-place-test.false, c.loop-place.auto.place-end, ap length c.as_slice-row-items.ensures) in
    let end : EndHolds net (starts_of c.args.times.now) chain last = subst (λ xs. EndHolds net (start_in (numbers xs)) chain last) c.as_slice-starts.ensures (c.if-end_holds.ensures.0 refl) in
    sound_all net (starts_of c.args.times.now) chain c.loop-place.place here last c.loop-place.invariant.before c.loop-place.invariant.holds end

pub returns-else-end_holds-clause-fault : goal.returns-else-end_holds-clause-fault
returns-else-end_holds-clause-fault c =
    let net = net_on c.args.log.now c.args.machine.now in
    let chain = c.args.chain.now in
    let last = c.loop-place.before in
    let here : c.loop-place.place ≡ length chain.rows = omega (arith, c.loop-place-test.false, c.loop-place.auto.place-end, ap length c.as_slice-row-items.ensures) in
    let same : c.loop-place.place ≡ length c.as_slice.result.now = here ∙ sym (ap length c.as_slice.ensures) in
    let fault = broken_end net (starts_of c.args.times.now) chain c.loop-place.place here last c.loop-place.invariant.before c.loop-place.invariant.holds
    (λ (end : EndHolds net (starts_of c.args.times.now) chain last). false≢true (c.if-end_holds.ensures.1 (subst (λ xs. EndHolds net (start_in (numbers xs)) chain last) (sym c.as_slice-starts.ensures) end))) in
    subst (λ k. IsFirstBroken net (starts_of c.args.times.now) chain k BadEnd) same fault
