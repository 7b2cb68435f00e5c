-- What waves from ticks 0 come to, told of a log on a machine.
use Rattle.std.proofs.Common.{◌≡◌, ◌<◌, ℕ, Bool, List, refl, sym, ◌∙◌, subst, arith, Option, None, Some, Result, Ok, Err}
use Rattle.std.specs.Prelude.{IfErr}
use Rattle.bs_line.specs.declared.corrections.Correction.{Correction}
use Rattle.bs_log.specs.declared.log.Log.{Log}
use Rattle.bs_log.specs.declared.log.MailRef.{MailRef}
use Rattle.bs_machine.specs.Machine.{MachineOf, machine_view}
use Rattle.bs_machine.specs.declared.fitted.Fitted.{Fitted}
use Rattle.bs_settle.specs.Noted.{AreNoted}
use Rattle.bs_settle.specs.Settled.{IsFault, IsSpent, OfWaves, StillAt}
use Rattle.bs_settle.specs.declared.settling.BudgetSpent.{BudgetSpent}
use Rattle.bs_settle.specs.declared.settling.SettleFault.{SettleFault}
use Rattle.bs_settle.specs.declared.settling.SettleFault.TheVariants as settle
use Rattle.bs_times.specs.Machine.{machine_of}
use Rattle.bs_times.specs.Net.{Net, Ticks, net_of}
use Rattle.bs_times.specs.Times.{IsListed, budget}
use Rattle.bs_top.specs.Waves.{AreWavesOn, IsNetOn, IsTooFew, budget_of, most_waves, no_ticks, within}
use Rattle.bs_top.specs.Step.{Told}
use Rattle.bs_top.specs.Stopped.{stopped_for_waves}

pub if_err : {A E : Type 0} (r : Result A E) (P Q : E → Type 0) → ((e : E) → P e → Q e) → IfErr r P → IfErr r Q
if_err (Ok a) P Q to h = tt
if_err (Err e) P Q to h = to e h

-- what holds of the waves from ticks that are all 0 holds of those from no ticks
module _ (net : Net) (ticks : Ticks) (zero : (m : MailRef) → IsListed net m → ticks m ≡ 0) where
  from_none : (P : (ℕ → Ticks) → Type 0) → OfWaves net ticks P → OfWaves net no_ticks P
  from_none P h held waves same = h held waves (λ m l. same m l ∙ sym (zero m l))

  still : (n : ℕ) → StillAt net ticks n → StillAt net no_ticks n
  still n h held waves same = h held waves (λ m l. same m l ∙ sym (zero m l))

  spent : (n : ℕ) (s : BudgetSpent) → IsSpent net ticks n s → IsSpent net no_ticks n s
  spent n s h = record { waves = h.waves; some = h.some; few = h.few; last = λ held waves same. h.last held waves (λ m l. same m l ∙ sym (zero m l)) }

  noted : (n : ℕ) (lists : List (List Correction)) (settled : Bool) → AreNoted net ticks n lists settled → AreNoted net no_ticks n lists settled
  noted n lists settled h = record {
    few = h.few;
    are = λ held waves same. h.are held waves (λ m l. same m l ∙ sym (zero m l));
    begin = h.begin;
    last = h.last;
    whole = h.whole;
    early = h.early;
    ends = h.ends;
    spent = h.spent;
  }

-- where no number of waves is given, none is asked for
pub unbounded : (kept : Log) (m : MachineOf) → within None kept m (Ok tt)
unfolding within
unbounded kept m = refl

-- a log on a machine that was fitted to it
module _ (kept : Log) (fitted : Fitted) (is_fitted : fitted.chares ≡ kept.chares) where
  on_it : (net : Net) → net ≡ net_of kept (machine_of fitted) → IsNetOn kept (machine_view fitted.machine) net
  on_it net is = record { fitted = fitted; is_machine = refl; is_fitted = is_fitted; is_net = is }

  module _ (net : Net) (is : net ≡ net_of kept (machine_of fitted)) (ticks : Ticks) (zero : (m : MailRef) → IsListed net m → ticks m ≡ 0) where
    pub enough : (waves : Option ℕ) → StillAt net ticks (most_waves waves kept) → within waves kept (machine_view fitted.machine) (Ok tt)
    unfolding within
    enough None h = refl
    enough (Some most) h = (net, on_it net is, still net ticks zero most h)

    pub too_few : (most : ℕ) (s : BudgetSpent) → IsSpent net ticks most s → IsTooFew kept (machine_view fitted.machine) most s
    too_few most s h = (net, on_it net is, spent net ticks zero most s h)

    -- a number of waves that is enough isn't spent
    not_few : (s : BudgetSpent) → IsSpent net ticks (budget_of kept) s → ⊥
    not_few s h = let few = subst (λ net. budget_of kept < budget net) is h.few in omega (arith, few)

    pub spends : {A : Type 0} (view : A → Unit {0}) (waves : Option ℕ) (why : SettleFault) → IsFault net ticks (most_waves waves kept) why → Told view (within waves kept (machine_view fitted.machine)) (Err (stopped_for_waves why))
    unfolding within
    spends view waves settle.Memory h = tt
    spends view None (settle.BudgetSpent s) h = absurd (not_few s h)
    spends view (Some most) (settle.BudgetSpent s) h = (s, too_few most s h, refl)

    pub waves_on : (waves : Option ℕ) (lists : List (List Correction)) (settled : Bool) → AreNoted net ticks (most_waves waves kept) lists settled → AreWavesOn waves kept (machine_view fitted.machine) lists settled
    waves_on waves lists settled h = (net, on_it net is, noted net ticks zero (most_waves waves kept) lists settled h)
