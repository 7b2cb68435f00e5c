-- What becomes of a round, from what its steps answer.
use Rattle.std.proofs.Common.{◌≡◌, ◌<◌, ◌≤◌, ℕ, zero, suc, ◌+◌, Bool, true, false, List, [], ◌∷◌, Result, Err, refl, sym, ap, subst, ◌∙◌, length, get_or, replicate, arith}
use Rattle.std.proofs.lemmas.List.Sums.{sum_by-cons}
use Rattle.bs_tree.specs.declared.tree.Program.{Program}
use Rattle.bs_log.specs.declared.history.Message.{Message}
use Rattle.bs_log.specs.declared.history.History.{History}
use Rattle.bs_log.specs.Size.{size, size_all}
use Rattle.bs_log.specs.Lists.{Apart}
use Rattle.bs_log.specs.Messages.{one_asked, AreFor}
use Rattle.bs_log.specs.Histories.{no_history, history_at}
use Rattle.bs_match.specs.Mail.{lookup}
use Rattle.bs_semantics.specs.Run.{Lookup}
use Rattle.bs_semantics.specs.Rounds.{mail_to, round}
use Rattle.bs_rounds.specs.declared.stop.Stop.{Stop}
use Rattle.bs_rounds.specs.declared.stop.Stop.TheVariants.{Long, Twice, Memory}
use Rattle.bs_rounds.specs.Asking.{AsksTwice, AreAskedOnce}
use Rattle.bs_rounds.specs.Posting.{Clash, IsPosted, ArePosted, flag, held, sent_by}
use Rattle.bs_rounds.specs.Taking.{IsTaken}
use Rattle.bs_rounds.specs.State.{IsAtRound, IsPassed, Becomes}
use Rattle.bs_rounds.proofs.Begun.{round_count, too_long, targets}
use Rattle.bs_rounds.proofs.Settled.{clash_twice, asked_twice, passed}

-- the same of slices
pub taken_as : (p : Program) (limit : ℕ) (ms ns : List (List Message)) (r : Result ℕ Stop) (hs : List History) → ms ≡ ns → IsTaken p limit ms r hs → IsTaken p limit ns r hs
taken_as p limit ms ns r hs e h = subst (λ (ms : List (List Message)). IsTaken p limit ms r hs) e h

pub asked_as : (marks marks' : List Bool) (hs hs' : List History) (r : Result (Unit {0}) Stop) → marks ≡ marks' → hs ≡ hs' → AreAskedOnce marks hs r → AreAskedOnce marks' hs' r
asked_as marks marks' hs hs' r e q h = subst (λ (hs : List History). AreAskedOnce marks' hs r) q (subst (λ (ms : List Bool). AreAskedOnce ms hs r) e h)

pub posted_as : (marks marks' : List Bool) (hs hs' : List History) (F : ℕ → Lookup) (f : ℕ → Bool) (r : Result (Unit {0}) Stop) (G : ℕ → Lookup) (g : ℕ → Bool) → marks ≡ marks' → hs ≡ hs' → IsPosted (sent_by marks hs) F f r G g → IsPosted (sent_by marks' hs') F f r G g
posted_as marks marks' hs hs' F f r G g e q h = subst (λ (hs : List History). IsPosted (sent_by marks' hs) F f r G g) q (subst (λ (ms : List Bool). IsPosted (sent_by ms hs) F f r G g) e h)

module _ (p : Program) (limit n : ℕ) (mails : List (List Message)) (marks : List Bool) (old : List History) (at : IsAtRound p limit n mails marks old) where
  pub long_becomes : limit ≤ 262144 → (e : Stop) (hs hs' : List History) (mails' : List (List Message)) (marks' : List Bool) → IsTaken p limit mails (Err e) hs → Becomes p limit n (Err e) mails' marks' hs'
  long_becomes small Long hs hs' mails' marks' h = too_long p limit small n mails marks old at h.0 h.1 h.2
  long_becomes small Twice hs hs' mails' marks' h = absurd h
  long_becomes small Memory hs hs' mails' marks' h = tt

  module _ (hs : List History) (is : hs ≡ round p limit n) where
    pub counted : length marks ≡ length hs
    counted = at.marks_count ∙ sym (ap length is ∙ round_count p limit n)

    pub long_now : limit < size_all hs → limit < size_all (round p limit n)
    long_now l = subst (λ (hs : List History). limit < size_all hs) is l

    pub targets_now : limit ≤ 262144 → 1 ≤ p.chares → AreFor (length mails) (sent_by marks hs)
    targets_now small some = subst (λ (hs : List History). AreFor (length mails) (sent_by marks hs)) (sym is) (targets p limit small n mails marks old at some)

    small_now : size_all hs ≤ limit → size_all (round p limit n) ≤ limit
    small_now l = subst (λ (hs : List History). size_all hs ≤ limit) is l

    pub asked_becomes : size_all hs ≤ limit → (e : Stop) (mails' : List (List Message)) (marks' : List Bool) → AreAskedOnce marks hs (Err e) → Becomes p limit n (Err e) mails' marks' hs
    asked_becomes l Long mails' marks' h = absurd h
    asked_becomes l Twice mails' marks' h = record { before = at.before; is_round = is; size = small_now l; twice = asked_twice p limit n mails marks old at (subst AsksTwice is h) }
    asked_becomes l Memory mails' marks' h = tt

    pub posted_becomes : size_all hs ≤ limit → (e : Stop) (f : ℕ → Bool) (G : ℕ → Lookup) (g : ℕ → Bool) (mails' : List (List Message)) (marks' : List Bool) → IsPosted (sent_by marks hs) (held mails) f (Err e) G g → Becomes p limit n (Err e) mails' marks' hs
    posted_becomes l Long f G g mails' marks' h = absurd h
    posted_becomes l Twice f G g mails' marks' h = record { before = at.before; is_round = is; size = small_now l; twice = clash_twice p limit n mails marks old at (subst (λ (hs : List History). Clash (sent_by marks hs) (held mails)) is h) }
    posted_becomes l Memory f G g mails' marks' h = tt

    pub passes : size_all hs ≤ limit → ((c : ℕ) → c < length hs → flag marks c ≡ true → Apart one_asked (history_at hs c).asked)
        → (blank : List Bool) → ((c : ℕ) → flag blank c ≡ false) → (mails' : List (List Message)) (marks' : List Bool) → ArePosted (sent_by marks hs) (held mails) (flag blank) (held mails') (flag marks')
        → length mails' ≡ length mails → length marks' ≡ length mails → IsPassed p limit n mails' marks' hs
    passes l asked blank unmarked mails' marks' posts mails_count marks_count = subst (IsPassed p limit n mails' marks') (sym is)
        (passed p limit n mails marks old at (subst (λ (hs : List History). (c : ℕ) → c < length hs → flag marks c ≡ true → Apart one_asked (history_at hs c).asked) is asked)
        (flag blank) unmarked mails' marks' (subst (λ (hs : List History). ArePosted (sent_by marks hs) (held mails) (flag blank) (held mails') (flag marks')) is posts) (small_now l) mails_count marks_count)

pub get_same : {A : Type 0} (n c : ℕ) (x : A) → get_or (replicate n x) c x ≡ x
get_same zero c x = refl
get_same (suc n) zero x = refl
get_same (suc n) (suc c) x = get_same n c x

get_inside : {A : Type 0} (n c : ℕ) (x d : A) → c < n → get_or (replicate n x) c d ≡ x
get_inside zero c x d l = absurd (omega (arith, l))
get_inside (suc n) zero x d l = refl
get_inside (suc n) (suc c) x d l = get_inside n c x d (omega (arith, l))

count_same : {A : Type 0} (n : ℕ) (x : A) → length (replicate n x) ≡ n
count_same zero x = refl
count_same (suc n) x = ap suc (count_same n x)

pub no_size : (n : ℕ) → size_all (replicate n no_history) ≡ 0
no_size zero = refl
no_size (suc n) =
    let one = sum_by-cons size no_history (replicate n no_history) in
    let more = no_size n in
    omega (arith, one, more)

no_longer : {A : Type 0} (t : Bool) → t ≡ true → t ≡ false → A
no_longer t e q = absurd (cc)

-- before the first round
pub at_start : (p : Program) (limit count : ℕ) → count ≡ p.chares → IsAtRound p limit 0 (replicate count []) (replicate count true) (replicate count no_history)
at_start p limit count e = record {
  before = λ m l. absurd (omega (arith, l));
  mail_is = λ c. ap lookup (get_same count c []);
  stale = λ c l u. no_longer (flag (replicate count true) c) (get_inside count c true false (omega (arith, l, e))) u;
  mails_count = count_same count [] ∙ e;
  marks_count = count_same count true ∙ e;
  histories_count = count_same count no_history ∙ e;
  size = let none = no_size count in omega (arith, none);
}
