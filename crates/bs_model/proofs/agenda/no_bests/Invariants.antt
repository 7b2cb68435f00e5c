use Rattle.std.proofs.Common.{◌≡◌, ℕ, Option, Some, None}
use Rattle.bs_model.specs.declared.candidates.Best.{Best}
use Rattle.bs_model.proofs.Pushing.{Pushed}
use Rattle.bs_model.proofs.agenda.no_bests.Given as goal

abbrev pub invariant-loop-chare : goal.invariant-loop-chare
invariant-loop-chare l = Pushed (λ (c : ℕ) (o : Option (Option Best)). o ≡ Some None) l._chare l.bests.items
