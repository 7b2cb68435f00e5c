use Rattle.std.proofs.Common.{◌≡◌, ◌≤◌, ◌+◌, ◌*◌, ◌^◌, ◌∙◌, ℕ, length, map, ap, sym, subst, arith, rules}
use Rattle.std.proofs.lemmas.List.{length-map}
use Rattle.bs_schedule.specs.Plan.{at}
use Rattle.bs_times.specs.Machine.{machine_of}
use Rattle.bs_times.proofs.Causal.{fitted_is_timely}
use Rattle.bs_times.proofs.Small.{short_net}
use Rattle.bs_line.specs.Line.{OutsFit, arrive, base_of, net_at}
use Rattle.bs_line.specs.Places.{differing}
use Rattle.bs_line.proofs.Counted.{differing_self}
use Rattle.bs_line.proofs.Parts.{causal}
use Rattle.bs_line.proofs.Rows.{slots_fit}
use Rattle.bs_line.proofs.Tables.{arrives, arrives_early, base_long, base_small, corrected, outs_fit, slots_long, tabled, times_long}
use Rattle.bs_line.proofs.line.Line.recompute.Goals as goal

pub bases-requires : goal.bases-requires
bases-requires c =
    let s = c.args.self.now in
    let h = c.requires in
    rw (c.as_slice.ensures, c.deref.ensures.value) (λ k lt. slots_fit (net_at s) s.processor s.layout.rows h.layout.rows (causal s.log.now s.machine.now h.valid) s.layout.mails h.layout.comes s.layout.slots (length s.held.items) k h.layout.slots h.held_length lt)

pub schedule-requires : goal.schedule-requires
schedule-requires c =
    let e : c.deref-2.result.now ≡ base_of c.args.self.now.layout.slots c.args.self.now.held.items = c.deref-2.ensures.value ∙ (rw (c.as_slice.ensures, c.deref.ensures.value) at c.in_ok-base.ensures) in
    record {
      is_plan = c.requires.layout.plan.is_plan;
      bases = ap length e ∙ base_long _ _ ∙ slots_long (net_at c.args.self.now) c.args.self.now.processor c.args.self.now.layout c.requires.layout;
      early = λ i. subst (λ b. at b i ≤ 2 ^ 110) (sym e) (base_small _ _ _ (λ k. omega (arith, c.requires.early k)) i);
    }

pub arrivals-requires-clause-fit : goal.arrivals-requires-clause-fit
arrivals-requires-clause-fit c =
    let s = c.args.self.now in
    let h = c.requires in
    let long : length c.deref-3.result.now ≡ length s.layout.rows + 1 = ap length c.deref-3.ensures.value ∙ c.in_ok-starts.ensures.length ∙ times_long (net_at s) s.processor s.layout h.layout in
    subst (λ outs. OutsFit outs (length c.deref-3.result.now)) (sym c.as_slice-2.ensures) (outs_fit (net_at s) s.processor s.layout h.layout (length c.deref-3.result.now) (causal s.log.now s.machine.now h.valid) long)

pub arrivals-requires-clause-small : goal.arrivals-requires-clause-small
arrivals-requires-clause-small c i =
    let e : c.deref-2.result.now ≡ base_of c.args.self.now.layout.slots c.args.self.now.held.items = c.deref-2.ensures.value ∙ (rw (c.as_slice.ensures, c.deref.ensures.value) at c.in_ok-base.ensures) in
    let early : (k : ℕ) → at c.deref-2.result.now k ≤ 2 ^ 110 = λ k. subst (λ b. at b k ≤ 2 ^ 110) (sym e) (base_small _ _ _ (λ j. omega (arith, c.requires.early j)) k) in
    omega (arith, c.in_ok-starts.ensures.bound (2 ^ 110) early i, c.requires.layout.plan.is_plan.rows.few, ap (λ xs. at xs i) c.deref-3.ensures.value)

pub returns-clause-ready : goal.returns-clause-ready
returns-clause-ready c =
    let s = c.args.self.now in
    let h = c.requires in
    let used : c.in_ok-used.used.items ≡ s.held.items = search rules in
    let ticks : c.in_ok-ticks.ticks.items ≡ map (arrive (at c.in_ok-starts.starts.items)) s.layout.outs = rw (c.as_slice-2.ensures, c.deref-3.ensures.value) at c.in_ok-ticks.ensures in
    record {
      valid = h.valid;
      fitted = h.fitted;
      layout = h.layout;
      held_length = h.held_length;
      used_length = ap length used ∙ h.held_length;
      given_length = ap length ticks ∙ length-map s.layout.outs (arrive (at c.in_ok-starts.starts.items));
      starts_length = c.in_ok-starts.ensures.length ∙ times_long (net_at s) s.processor s.layout h.layout;
      early = h.early;
      changed = sym (ap (differing s.held.items) used ∙ differing_self s.held.items);
    }

pub returns-clause-starts : goal.returns-clause-starts
returns-clause-starts c =
    let s = c.args.self.now in
    let h = c.requires in
    let e : c.deref-2.result.now ≡ base_of s.layout.slots s.held.items = c.deref-2.ensures.value ∙ (rw (c.as_slice.ensures, c.deref.ensures.value) at c.in_ok-base.ensures) in
    tabled (net_at s) s.processor s.layout h.layout s.held.items c.in_ok-starts.starts.items (causal s.log.now s.machine.now h.valid) (rw e at c.in_ok-starts.ensures.scheduled)

pub returns-clause-given : goal.returns-clause-given
returns-clause-given c m from =
    let s = c.args.self.now in
    let ticks : c.in_ok-ticks.ticks.items ≡ map (arrive (at c.in_ok-starts.starts.items)) s.layout.outs = rw (c.as_slice-2.ensures, c.deref-3.ensures.value) at c.in_ok-ticks.ensures in
    arrives (net_at s) s.processor s.layout c.requires.layout c.in_ok-starts.starts.items c.in_ok-ticks.ticks.items m ticks from

pub returns-clause-early : goal.returns-clause-early
returns-clause-early c m =
    let s = c.args.self.now in
    let h = c.requires in
    let e : c.deref-2.result.now ≡ base_of s.layout.slots s.held.items = c.deref-2.ensures.value ∙ (rw (c.as_slice.ensures, c.deref.ensures.value) at c.in_ok-base.ensures) in
    let early : (k : ℕ) → at c.deref-2.result.now k ≤ 2 ^ 110 = λ k. subst (λ b. at b k ≤ 2 ^ 110) (sym e) (base_small _ _ _ (λ j. omega (arith, h.early j)) k) in
    let most : ℕ = 2 ^ 110 + length s.layout.plan.times * 2 ^ 65 in
    let ticks : c.in_ok-ticks.ticks.items ≡ map (arrive (at c.in_ok-starts.starts.items)) s.layout.outs = rw (c.as_slice-2.ensures, c.deref-3.ensures.value) at c.in_ok-ticks.ensures in
    omega (arith, arrives_early (net_at s) s.processor s.layout h.layout c.in_ok-starts.starts.items c.in_ok-ticks.ticks.items m most (short_net s.log.now (machine_of s.machine.now) h.valid (fitted_is_timely s.machine.now)) ticks (c.in_ok-starts.ensures.bound (2 ^ 110) early), h.layout.plan.is_plan.rows.few)

pub returns-clause-corrections : goal.returns-clause-corrections
returns-clause-corrections c =
    let s = c.args.self.now in
    let h = c.requires in
    let ticks : c.in_ok-ticks.ticks.items ≡ map (arrive (at c.in_ok-starts.starts.items)) s.layout.outs = rw (c.as_slice-2.ensures, c.deref-3.ensures.value) at c.in_ok-ticks.ensures in
    (rw (c.as_slice-3.ensures, c.deref-4.ensures.value, c.deref-5.ensures.value) at c.in_ok-list.ensures)
    ∙ corrected (net_at s) s.processor s.layout h.layout s.given.items c.in_ok-ticks.ticks.items h.given_length (ap length ticks ∙ length-map s.layout.outs (arrive (at c.in_ok-starts.starts.items)))
