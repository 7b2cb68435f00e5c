use Rattle.std.proofs.Common.{◌≤◌, ℕ}
use Rattle.bs_schedule.specs.Plan.{at, IsPlan}
use Rattle.bs_schedule.proofs.Course.{Course}
use Rattle.bs_schedule.proofs.timing.schedule.Given as goal

abbrev pub invariant-loop-row : goal.invariant-loop-row
invariant-loop-row l = (ok : IsPlan l.plan) (most : ℕ) → ((i : ℕ) → at l.base i ≤ most) → Course l.plan l.base ok most l.run.starts.items l.run.begun.items l.run.free.items l.run.next.items l.run.queue.keys (λ k. l.row ≤ k) 0

abbrev pub invariant-loop-turn : goal.invariant-loop-turn
invariant-loop-turn l = (ok : IsPlan l.plan) (most : ℕ) → ((i : ℕ) → at l.base i ≤ most) → Course l.plan l.base ok most l.run.starts.items l.run.begun.items l.run.free.items l.run.next.items l.run.queue.keys (λ k. ⊥) l._turn
