-- The arrivals of one pass are estimates.
use Rattle.std.proofs.Common.{◌≡◌, ◌≤◌, ◌^◌, inl, inr, ℕ, suc, Bool, true, false, if◌then◌else◌, List, [], ◌∷◌, length, map, refl, sym, ap, subst, ◌∙◌, arith}
use Rattle.std.proofs.lemmas.Bool.{true≢false}
use Rattle.bs_log.specs.declared.log.Log.{Log}
use Rattle.bs_log.specs.declared.log.MailRef.{MailRef}
use Rattle.bs_log.specs.Valid.{IsValid}
use Rattle.bs_log.specs.Lists.{Mem}
use Rattle.bs_machine.specs.declared.fitted.Fitted.{Fitted}
use Rattle.bs_num.specs.declared.ticks.Tick.{Tick}
use Rattle.bs_schedule.specs.Plan.{at}
use Rattle.bs_times.specs.Times.{IsListed}
use Rattle.bs_times.specs.Racing.{same_mail}
use Rattle.bs_times.proofs.Members.{map_mem}
use Rattle.bs_rows.specs.Rows.{net_on, IsSend}
use Rattle.bs_rows.proofs.Numbered.{mail_sent}
use Rattle.bs_line.specs.Making.{numbers}
use Rattle.bs_line.specs.Places.{AreMails, mail_place}
use Rattle.bs_line.proofs.Ordered.{mail_tests}
use Rattle.bs_settle.specs.Shares.{AreTicksFor, arriving}
use Rattle.bs_settle.proofs.Whole.{travel_small}

-- each message has its tick.
pub tick_placed : (f : MailRef → Tick) (ms : List MailRef) (m : MailRef) → Mem m ms → at (numbers (map f ms)) (mail_place ms m) ≡ (f m).0
tick_placed f [] m is = absurd is
tick_placed f (y ∷ ms) m is = go (same_mail y m) refl is (tick_placed f ms m)
  where
    go : (b : Bool) → same_mail y m ≡ b → Mem m (y ∷ ms) → (Mem m ms → at (numbers (map f ms)) (mail_place ms m) ≡ (f m).0) → at ((f y).0 ∷ numbers (map f ms)) (if b then 0 else suc (mail_place ms m)) ≡ (f m).0
    go true e is ih = ap (λ (x : MailRef). (f x).0) (mail_tests.only y m e)
    go false e (inl q) ih = absurd (true≢false (sym (subst (λ z. same_mail y z ≡ true) (sym q) (mail_tests.itself y)) ∙ e))
    go false e (inr n) ih = ih n

as_many : (f : MailRef → Tick) (ms : List MailRef) → length (map f ms) ≡ length ms
as_many f [] = refl
as_many f (m ∷ ms) = ap suc (as_many f ms)

module _ (log : Log) (fitted : Fitted) (v : IsValid log) (ms : List MailRef) (listed : AreMails (IsListed (net_on log fitted)) ms) where
  pub sends : (m : MailRef) → Mem m ms → IsSend log m
  sends m is = let row = (listed.all m).1 is in mail_sent log row.0 m v row.1.0 row.1.1 row.2

  pub passed_ticks : (starts : List ℕ) → ((i : ℕ) → at starts i ≤ 2 ^ 100) → AreTicksFor (net_on log fitted) ms (map (arriving (net_on log fitted) (at starts)) ms)
  passed_ticks starts early = record {
    listed = listed;
    each = as_many (arriving (net_on log fitted) (at starts)) ms;
    early = λ t is.
        let d = map_mem (arriving (net_on log fitted) (at starts)) t ms is in
        let e = ap (λ (x : Tick). x.0) d.2 in
        omega (arith, e, early d.0.row, travel_small log fitted v d.0 (sends d.0 d.1));
  }
