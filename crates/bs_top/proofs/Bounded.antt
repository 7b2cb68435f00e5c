-- What a step has read stays within the bounds of its command.
use Rattle.std.proofs.Common.{◌≤◌, ℕ, inl, inr, arith, Result, Ok, Err}
use Rattle.bs_desk.specs.Outside.{Outside}
use Rattle.bs_report.specs.declared.faults.Fault.{Fault}
use Rattle.bs_report.specs.declared.faults.Fault.TheVariants as fault
use Rattle.bs_top.specs.Inputs.{file_limit}
use Rattle.bs_top.specs.Causes.{FaultCause, HasRead, IsBound, StepCause}
use Rattle.bs_top.specs.Computing.{Computes, IsComputed}
use Rattle.bs_top.specs.declared.stopped.Stopped.{Stopped}
use Rattle.bs_top.specs.declared.stopped.Stopped.TheVariants.{Refused, NoFile, ReadFault, Memory}

module _ (most : ℕ) (new : Outside) where
  -- a step that computes reads nothing
  fault_computed : (f : Fault) → IsComputed f → HasRead most new → FaultCause most new f
  fault_computed fault.BadWords c h = absurd c
  fault_computed (fault.BadProgram why) c h = h
  fault_computed (fault.CheckFailed why) c h = h
  fault_computed (fault.BadMachine why) c h = h
  fault_computed (fault.BadPlace length) c h = h
  fault_computed (fault.BadLog why) c h = h
  fault_computed (fault.Ambiguous twice) c h = h
  fault_computed (fault.TooLong limit) c h = h
  fault_computed (fault.BudgetSpent spent) c h = h
  fault_computed (fault.TooBig limit) c h = absurd c

  module _ (wide : file_limit ≤ most) where
    pub has_read : HasRead file_limit new → HasRead most new
    has_read h = let l = h.1 in (h.0, omega (arith, l, wide))

    bound : (limit : ℕ) → IsBound file_limit limit → IsBound most limit
    bound limit (inl e) = inl e
    bound limit (inr e) = inl e

    fault_wider : (f : Fault) → FaultCause file_limit new f → FaultCause most new f
    fault_wider fault.BadWords h = h
    fault_wider (fault.BadProgram why) h = has_read h
    fault_wider (fault.CheckFailed why) h = has_read h
    fault_wider (fault.BadMachine why) h = has_read h
    fault_wider (fault.BadPlace length) h = has_read h
    fault_wider (fault.BadLog why) h = has_read h
    fault_wider (fault.Ambiguous twice) h = has_read h
    fault_wider (fault.TooLong limit) h = has_read h
    fault_wider (fault.BudgetSpent spent) h = has_read h
    fault_wider (fault.TooBig limit) h = (h.0, h.1, bound limit h.2)

module _ (most : ℕ) (old new : Outside) where
  pub computed : {A : Type 0} (r : Result A Stopped) → Computes r → HasRead most new → StepCause most old new r
  computed (Ok a) c h = h
  computed (Err (Refused f)) c h = fault_computed most new f c h
  computed (Err NoFile) c h = absurd c
  computed (Err ReadFault) c h = absurd c
  computed (Err Memory) c h = tt

  -- a refusal to read a file of fewer bytes is passed on
  pub stopped : (A B : Type 0) → file_limit ≤ most → (stop : Stopped) → StepCause {A = A} file_limit old new (Err stop) → StepCause {A = B} most old new (Err stop)
  stopped A B wide (Refused f) h = fault_wider most new wide f h
  stopped A B wide NoFile h = h
  stopped A B wide ReadFault h = h
  stopped A B wide Memory h = h
