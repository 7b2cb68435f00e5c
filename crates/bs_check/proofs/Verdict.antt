-- What the program is refused for is found at its declarations, or else at its statements.
use Rattle.std.proofs.Common.{◌≡◌, ℕ, true, false, None, Ok, Err, refl}
use Rattle.bs_tree.specs.declared.tree.Program.{Program}
use Rattle.bs_check.specs.declared.fault.Rule.TheVariants.{TwiceDeclared, Limits}
use Rattle.bs_check.specs.declared.fault.CheckFault.{CheckFault}
use Rattle.bs_check.specs.declared.fault.CheckFault.TheVariants.{Refused, Memory}
use Rattle.bs_check.specs.Declarations.{declared_names, has_twice, is_within}
use Rattle.bs_check.specs.Every.{every}
use Rattle.bs_check.specs.Refusal.{declarations_rule, refusal, IsRefused}
use Rattle.bs_check.specs.Walked.{Walked}

pub kept_all : (p : Program) (next : ℕ) → declarations_rule p ≡ None → Walked p 1 (every p.body) (Ok next) → refusal p ≡ None
unfolding refusal
kept_all p next h kept = rw (h, kept.none) refl

pub refused_at : (p : Program) (fault : CheckFault) → declarations_rule p ≡ None → Walked p 1 (every p.body) (Err fault) → IsRefused p fault
unfolding refusal
refused_at p (Refused stmt rule) h found = rw h found
refused_at p Memory h found = found

pub twice_refused : (p : Program) → has_twice (declared_names p) ≡ true → IsRefused p (Refused 0 TwiceDeclared)
unfolding refusal declarations_rule
twice_refused p h = rw h refl

pub limits_refused : (p : Program) → has_twice (declared_names p) ≡ false → is_within p ≡ false → IsRefused p (Refused 0 Limits)
unfolding refusal declarations_rule
limits_refused p h g = rw (h, g) refl

pub declarations_kept : (p : Program) → has_twice (declared_names p) ≡ false → is_within p ≡ true → declarations_rule p ≡ None
unfolding declarations_rule
declarations_kept p h g = rw (h, g) refl
