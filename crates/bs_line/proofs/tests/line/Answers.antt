use Rattle.std.proofs.Common.{◌≡◌, inl, inr, ◌∙◌, ℕ, zero, suc, length, replicate, ap, subst, arith, rules}
use Rattle.std.proofs.lemmas.List.{length-replicate}
use Rattle.bs_log.specs.Lists.{Mem}
use Rattle.bs_num.specs.declared.ticks.Tick.{Tick}
use Rattle.bs_times.specs.Machine.{machine_of}
use Rattle.bs_line.proofs.tests.line.Goals as goal

copies_of : (n : ℕ) (x t : Tick) → Mem t (replicate n x) → t ≡ x
copies_of zero x t m = absurd m
copies_of (suc n) x t (inl e) = e
copies_of (suc n) x t (inr m) = copies_of n x t m

pub new-requires-clause-estimates : goal.new-requires-clause-estimates
new-requires-clause-estimates c =
    let is = c.deref.ensures.value ∙ c.in_ok-estimates.ensures.items_if_clones_equal (search rules) in
    record {
      mails = c.in_ok-mails.mails;
      listed = c.in_ok-mails.ensures (machine_of c.args.machine.now);
      each = ap length is ∙ length-replicate _ _ ∙ ap length c.as_slice.ensures;
    }

pub new-requires-clause-early : goal.new-requires-clause-early
new-requires-clause-early c t is =
    let are = c.deref.ensures.value ∙ c.in_ok-estimates.ensures.items_if_clones_equal (search rules) in
    let same = copies_of _ _ t (subst (λ ts. Mem t ts) are is) in
    omega (arith, ap (λ (x : Tick). x.0) same, c.from.ensures, c.ranges.estimate)
