use Rattle.std.proofs.Common.{◌≡◌, ◌∙◌}
use Rattle.bs_times.specs.Machine.{machine_of}
use Rattle.bs_times.specs.Net.{Starts}
use Rattle.bs_times.specs.Outcomes.{outcome_of}
use Rattle.bs_times.proofs.Small.{few_rows}
use Rattle.bs_times.proofs.Causal.{fitted_is_timely}
use Rattle.bs_settle.specs.Timed.{numbers, starts_from}
use Rattle.bs_report.proofs.SideBySide.{chares_fit, one_outcome, as_many_starts, as_many_ends, outcome_is, reportable}
use Rattle.bs_report.proofs.outcomes.outcome.Goals as goal

pub with_times-requires-clause-chares : goal.with_times-requires-clause-chares
with_times-requires-clause-chares c = rw c.as_slice.ensures (chares_fit c.args.log.now c.args.machine.now.chares c.requires.valid c.requires.fitted)

pub with_times-requires-clause-starts : goal.with_times-requires-clause-starts
with_times-requires-clause-starts c = rw (c.as_slice-2.ensures, c.as_slice.ensures) (as_many_starts c.requires.times.table c.args.log.now.rows c.args.times.now.starts c.requires.times.starts)

pub with_times-requires-clause-ends : goal.with_times-requires-clause-ends
with_times-requires-clause-ends c = rw (c.as_slice-3.ensures, c.as_slice.ensures) (as_many_ends (machine_of c.args.machine.now) c.requires.times.table c.args.log.now.rows c.args.times.now.ends c.requires.times.ends)

-- the outcome is that of each table whose starts these are.
told : (c : goal.After-from_vec-2) (s : Starts) → numbers c.args.times.now.starts ≡ starts_from s 1 c.args.log.now.rows →
    record { rows = c.in_ok-rows.rows; traps = c.from_vec.result; waits = c.from_vec-2.result } ≡ outcome_of c.args.log.now (machine_of c.args.machine.now) s
told c s of_s =
    let times = c.requires.times in
    let m = machine_of c.args.machine.now in
    let log = c.args.log.now in
    let rows = c.in_ok-rows.ensures ∙ rw (c.as_slice.ensures, c.as_slice-2.ensures, c.as_slice-3.ensures) (one_outcome m s times.table log.rows _ _ times.starts times.ends of_s) in
    let traps = c.from_vec.ensures ∙ (c.in_ok-traps.ensures.items_if_clones_equal (λ x y e. e) ∙ c.as_slice-4.ensures) in
    let waits = c.from_vec-2.ensures ∙ (c.in_ok-waits.ensures.items_if_clones_equal (λ x y e. e) ∙ c.as_slice-5.ensures) in
    outcome_is log m s c.in_ok-rows.rows c.from_vec.result c.from_vec-2.result rows traps waits

pub returns-clause-value : goal.returns-clause-value
returns-clause-value c = told c

pub returns-clause-reportable : goal.returns-clause-reportable
returns-clause-reportable c =
    let times = c.requires.times in
    let m = machine_of c.args.machine.now in
    reportable c.args.log.now m times.table _ (few_rows c.args.log.now m c.requires.valid (fitted_is_timely c.args.machine.now)) times.in_range (told c times.table times.starts)
