use Rattle.std.proofs.Common.{◌≡◌, ◌∙◌, ℕ, ap, rules}
use Rattle.bs_rows.specs.Rows.{net_on}
use Rattle.bs_schedule.proofs.Relabel.{whole_schedule}
use Rattle.bs_schedule.specs.Plan.{at}
use Rattle.bs_settle.proofs.Listed.{zeros}
use Rattle.bs_settle.proofs.Whole.{starts_small}
use Rattle.bs_settle.proofs.times.plain_starts.Goals as goal

pub returns-clause-each : goal.returns-clause-each
returns-clause-each c = c.in_ok-starts.ensures.length ∙ c.in_ok-plan.ensures.whole.rows

pub returns-clause-early : goal.returns-clause-early
returns-clause-early c =
    let e = c.deref.ensures.value ∙ c.in_ok-base.ensures.items_if_clones_equal (search rules) in
    let none : (i : ℕ) → at c.deref.result.now i ≡ 0 = λ i. ap (λ xs. at xs i) e ∙ zeros _ i in
    starts_small c.args.log.now c.args.machine.now c.in_ok-plan.plan c.deref.result.now c.in_ok-starts.starts.items c.requires.valid c.in_ok-plan.ensures.whole none c.in_ok-starts.ensures.bound

pub returns-clause-consistent : goal.returns-clause-consistent
returns-clause-consistent c =
    let e = c.deref.ensures.value ∙ c.in_ok-base.ensures.items_if_clones_equal (search rules) in
    let none : (i : ℕ) → at c.deref.result.now i ≡ 0 = λ i. ap (λ xs. at xs i) e ∙ zeros _ i in
    whole_schedule (net_on c.args.log.now c.args.machine.now) c.in_ok-plan.plan c.deref.result.now (at c.in_ok-starts.starts.items) c.in_ok-plan.ensures.whole none c.in_ok-starts.ensures.scheduled
