-- The same in the words of the verdict.
use Rattle.std.proofs.Common.{◌≡◌, ℕ, List, refl, subst, length}
use Rattle.std.specs.Prelude.{◌↔◌}
use Rattle.bs_tree.specs.declared.tree.Program.{Program}
use Rattle.bs_log.specs.declared.history.History.{History}
use Rattle.bs_log.specs.declared.outcome.Outcome.{Outcome}
use Rattle.bs_log.specs.Collected.{log_of}
use Rattle.bs_semantics.specs.Rounds.{round, CleanAt}
use Rattle.bs_semantics.specs.Verdict.{Verdict, IsVerdict, clean, is_clean, is_twice, is_too_long}
use Rattle.bs_semantics.specs.Serial.{Machine, timed, unclean, IsSerial}
use Rattle.bs_semantics.proofs.Verdicts.{one_verdict}
use Rattle.bs_times.specs.Machine.{IsTimely}
use Rattle.bs_times.specs.Net.{Starts, Causal, net_of}
use Rattle.bs_times.specs.Times.{IsConsistent}
use Rattle.bs_times.specs.Outcomes.{outcome_of}
use Rattle.bs_serial.specs.Times.{IsTold}
use Rattle.bs_serial.proofs.Whole.{causal_net, timed_told, told_at, model_gives, is_unclean}

-- the Clean round of a verdict
pub record CleanRound (p : Program) (limit : ℕ) (hs : List History) : Type 0 where
  pub number : ℕ
  pub clean_there : CleanAt p limit number
  pub is : round p limit number ≡ hs

pub round_of : (p : Program) (limit : ℕ) (v : Verdict) (hs : List History) → IsVerdict p limit v → v ≡ clean hs → CleanRound p limit hs
round_of p limit _ hs (is_too_long n before l) e = absurd (cc)
round_of p limit _ hs (is_twice n before l t is) e = absurd (cc)
round_of p limit _ hs (is_clean n c) e = record { number = n; clean_there = c; is = cc }

module _ (p : Program) (limit : ℕ) (m : Machine) where
  pub causal_log : (hs : List History) → IsTimely m → IsVerdict p limit (clean hs) → Causal (net_of (log_of hs (length p.entries)) m)
  causal_log hs timely v =
      let c = round_of p limit (clean hs) hs v refl in
      subst (λ hs. Causal (net_of (log_of hs (length p.entries)) m)) c.is (causal_net p limit c.number m timely c.clean_there)

  pub verdict_told : (hs : List History) (o : Outcome) → IsTimely m → IsVerdict p limit (clean hs) → IsSerial p limit m (timed o) → IsTold m (log_of hs (length p.entries)) o
  verdict_told hs o timely v g =
      let c = round_of p limit (clean hs) hs v refl in
      let t = timed_told p limit m o timely g in
      subst (λ hs. IsTold m (log_of hs (length p.entries)) o) c.is (told_at p limit m c.number t.0 o c.clean_there t.1 t.2)

  pub verdict_gives : (hs : List History) (s : Starts) → IsTimely m → IsVerdict p limit (clean hs) → IsConsistent (net_of (log_of hs (length p.entries)) m) s → IsSerial p limit m (timed (outcome_of (log_of hs (length p.entries)) m s))
  verdict_gives hs s timely v k =
      let c = round_of p limit (clean hs) hs v refl in
      subst (λ hs. IsConsistent (net_of (log_of hs (length p.entries)) m) s → IsSerial p limit m (timed (outcome_of (log_of hs (length p.entries)) m s))) c.is
      (λ k. model_gives p limit m c.number s timely c.clean_there k) k

  pub verdict_unclean : (v : Verdict) → IsVerdict p limit v → IsSerial p limit m unclean ↔ ((hs : List History) → v ≡ clean hs → ⊥)
  verdict_unclean v is = (
    (λ g hs e. let c = round_of p limit v hs is e in (is_unclean p limit m).0 g c.number c.clean_there),
    (λ f. (is_unclean p limit m).1 (λ n h. f (round p limit n) (one_verdict p limit v (clean (round p limit n)) is (is_clean n h)))),
  )
