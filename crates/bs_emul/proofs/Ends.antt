-- Before the first message, and after the last one.
use Rattle.std.proofs.Common.{◌≡◌, ◌<◌, ◌≤◌, inr, ℕ, Bool, true, false, List, [], ◌∷◌, None, Ok, refl, sym, ap, subst, ◌∙◌, length, map, arith}
use Rattle.bs_tree.specs.declared.tree.Program.{Program}
use Rattle.bs_log.specs.declared.history.Message.{Message}
use Rattle.bs_log.specs.declared.history.History.{History}
use Rattle.bs_log.specs.declared.log.Log.{Log}
use Rattle.bs_log.specs.ClosedTest.{LooksClosed}
use Rattle.bs_log.specs.Collected.{log_of}
use Rattle.bs_log.specs.Size.{size_all}
use Rattle.bs_log.specs.Lists.{Apart, Each}
use Rattle.bs_log.specs.Messages.{one_asked, sent}
use Rattle.bs_match.specs.Mail.{lookup}
use Rattle.bs_semantics.specs.Rounds.{Closed, histories, mail_to, round}
use Rattle.bs_semantics.specs.Starting.{AllIn}
use Rattle.bs_semantics.specs.Run.{Lookup, history}
use Rattle.bs_semantics.specs.Verdict.{Verdict, IsVerdict, clean, is_too_long, is_twice, is_clean}
use Rattle.bs_semantics.proofs.Confluence.{closed_clean}
use Rattle.bs_semantics.proofs.LooksClosed.{looks_closed}
use Rattle.bs_chare.specs.declared.chare.Chare.{Chare}
use Rattle.bs_chare.specs.declared.fault.ChareFault.{ChareFault}
use Rattle.bs_chare.specs.Fault.{IsRunFault, history_under}
use Rattle.bs_chare.specs.State.{IsSameChare}
use Rattle.bs_emul.specs.declared.stop.Stop.{Stop}
use Rattle.bs_emul.specs.declared.stop.Stop.TheVariants.{Unclean, Memory}
use Rattle.bs_emul.specs.declared.world.World.{World}
use Rattle.bs_emul.specs.Emulated.{IsCleanLog, AreTooLong}
use Rattle.bs_emul.specs.Reached.{IsReached, NeverClean}
use Rattle.bs_emul.specs.Stop.{stop_of, IsStopped}
use Rattle.bs_emul.specs.World.{IsServed, AreServed, IsWorld, AreDone, Serves}
use Rattle.bs_emul.proofs.Sent.{all_distinct}
use Rattle.bs_emul.proofs.Refusals.{all_short, one_short, asks_once, all_served}
use Rattle.bs_emul.proofs.Chares.{AreBegun, history_of, histories_are, each_asks_once, not_refused}

-- ---- before the first message

none_served : (p : Program) (limit : ℕ) → IsReached p limit [] (sent (histories p limit []))
none_served p limit = record {
  served = λ m i. absurd i;
  queued = λ m i. i;
  all = λ m i. inr i;
  unserved = λ m i j. j;
  distinct = all_distinct p limit [];
  keys = tt;
  clean = λ n h m i. absurd i;
}

module _ (p : Program) (limit : ℕ) (xs : List Chare) (queue : List Message) (b : AreBegun p limit p.chares xs queue) (some : 1 ≤ p.chares) where
  pub all_begun : AreServed p limit [] xs
  all_begun = record { count = b.count; some = some; each = b.each }

  pub all_left : IsReached p limit [] queue
  all_left = subst (IsReached p limit []) (sym (b.left ∙ ap sent (histories_are p limit [] xs all_begun))) (none_served p limit)

-- a chare that is new, and then begun
module _ (p : Program) (limit k : ℕ) (x : Chare) (program : x.accepted.now.program ≡ p) (bound : x.limit ≡ limit) (number : x.number ≡ k) (mail : x.mail ≡ []) where
  empty : lookup x.mail ≡ mail_to [] k
  empty = ap lookup mail ∙ (λ i q. None)

  under_new : history_under x (lookup x.mail) ≡ history p limit k (mail_to [] k)
  under_new = ap (λ q. history q x.limit x.number (lookup x.mail)) program
      ∙ (ap (λ n. history p n x.number (lookup x.mail)) bound
      ∙ (ap (λ c. history p limit c (lookup x.mail)) number
      ∙ ap (λ (l : Lookup). history p limit k l) empty))

  pub begin_never : k < p.chares → (fault : ChareFault) → stop_of fault ≡ Unclean → IsRunFault x.limit (history_under x (lookup x.mail)) fault → NeverClean p limit
  begin_never l fault e f n h =
      let all : AllIn [] (sent (round p limit n)) = λ m i. absurd i in
      not_refused limit (history p limit k (mail_to [] k)) fault e (one_short p limit n h [] all k l) (asks_once p limit n h [] all k l)
      (subst (λ j. IsRunFault j (history p limit k (mail_to [] k)) fault) bound (subst (λ (g : History). IsRunFault x.limit g fault) under_new f))

  pub begins : (y : Chare) → IsSameChare x y → y.begun ≡ true → y.mail ≡ x.mail → IsServed p limit [] k y
  begins y same begun kept = record {
    program = ap (λ a. a.program) same.accepted ∙ program;
    bound = same.limit ∙ bound;
    number = same.number ∙ number;
    begun = begun;
    mail = ap lookup kept ∙ empty;
  }

-- ---- while messages are served

-- nothing was left
pub none_left : (p : Program) (limit : ℕ) (ms : List Message) (w : World) (t : Bool) → t ≡ false → Serves p limit ms (Ok t) w → AreDone p limit w.chares.items
none_left p limit ms w true e s = absurd (cc)
none_left p limit ms w false e s = (ms, s.0.chares, subst (IsReached p limit ms) s.1 s.0.reached)

-- one message more was served
pub one_more : (p : Program) (limit : ℕ) (ms : List Message) (w : World) (t : Bool) → t ≡ true → Serves p limit ms (Ok t) w → (m : Message) × IsWorld p limit (m ∷ ms) w
one_more p limit ms w true e s = s
one_more p limit ms w false e s = absurd (cc)

-- ---- after the last one

-- what is said of a Clean verdict
pub is_never : (p : Program) (limit : ℕ) → NeverClean p limit → (hs : List History) → IsVerdict p limit (clean hs) → ⊥
is_never p limit f hs v = by_verdict (clean hs) refl v
  where
    by_verdict : (w : Verdict) → w ≡ clean hs → IsVerdict p limit w → ⊥
    by_verdict _ e (is_too_long n before l) = cc
    by_verdict _ e (is_twice n before l t a) = cc
    by_verdict _ e (is_clean n h) = f n h

module _ (p : Program) (limit : ℕ) (xs : List Chare) (d : AreDone p limit xs) where
  pub long_never : limit < size_all (map history_of xs) → NeverClean p limit
  long_never l n h =
      let s = all_short p limit n h d.0 (d.2.clean n h) in
      let same = ap size_all (histories_are p limit d.0 xs d.1) in
      omega (arith, l, s, same)

  pub long_stops : (s : Stop) → AreTooLong limit (map history_of xs) s → IsStopped p limit s
  long_stops Unclean l = long_never l
  long_stops Memory l = tt

  module _ (l : size_all (map history_of xs) ≤ limit) where
    closed : Closed p limit (map history_of xs)
    closed =
        let same = histories_are p limit d.0 xs d.1 in
        subst (Closed p limit) (sym same) (all_served p limit d.0 d.2 (subst (λ hs. Each (λ h. Apart one_asked h.asked) hs) same (each_asks_once xs)) (subst (λ hs. size_all hs ≤ limit) same l))

    pub looks : limit ≤ 262144 → 1 ≤ p.chares → p.chares ≤ 65536 → LooksClosed (map history_of xs)
    looks small some few = looks_closed p limit (map history_of xs) small some few closed

    pub logged : (log : Log) → log ≡ log_of (map history_of xs) (length p.entries) → IsCleanLog p limit log
    logged log e =
        let c = closed_clean p limit (map history_of xs) closed in
        (map history_of xs, subst (λ hs. IsVerdict p limit (clean hs)) (sym c.2) (is_clean c.0 c.1), e)
