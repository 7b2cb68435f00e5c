-- What is decided, from what becomes of a round.
use Rattle.std.proofs.Common.{◌≡◌, ◌<◌, ◌≤◌, ℕ, zero, suc, ◌+◌, Bool, true, false, ◌||◌, List, [], ◌∷◌, Err, refl, sym, ap, subst, ◌∙◌, length, get_or, arith}
use Rattle.std.specs.List.{list_any}
use Rattle.bs_tree.specs.declared.tree.Program.{Program}
use Rattle.bs_log.specs.declared.history.Message.{Message}
use Rattle.bs_log.specs.declared.history.History.{History}
use Rattle.bs_log.specs.Size.{size_all}
use Rattle.bs_log.specs.ClosedTest.{LooksClosed}
use Rattle.bs_semantics.specs.Rounds.{Undecided, CleanAt, round}
use Rattle.bs_semantics.specs.Verdict.{ambiguous, too_long, IsVerdict, is_too_long, is_twice}
use Rattle.bs_semantics.proofs.Confluence.{clean_closed}
use Rattle.bs_semantics.proofs.LooksClosed.{looks_closed}
use Rattle.bs_rounds.specs.declared.answer.Verdict.{Verdict}
use Rattle.bs_rounds.specs.declared.answer.Verdict.TheVariants.{Clean, Ambiguous, TooLong}
use Rattle.bs_rounds.specs.declared.stop.Stop.{Stop}
use Rattle.bs_rounds.specs.declared.stop.Stop.TheVariants.{Long, Twice, Memory}
use Rattle.bs_rounds.specs.Answer.{IsAnswer, twice_of}
use Rattle.bs_rounds.specs.Deciding.{NamesTwice}
use Rattle.bs_rounds.specs.Posting.{flag}
use Rattle.bs_rounds.specs.State.{IsAtRound, IsPassed, IsTwice, Becomes}
use Rattle.bs_rounds.proofs.Begun.{round_count}

module _ (p : Program) (limit n : ℕ) (mails : List (List Message)) (marks : List Bool) (hs : List History) where
  pub long_of : (e : Stop) → e ≡ Long → Becomes p limit n (Err e) mails marks hs → limit < size_all (round p limit n)
  long_of e is h = subst (λ (e : Stop). Becomes p limit n (Err e) mails marks hs) is h

  pub twice_from : (e : Stop) → e ≡ Twice → Becomes p limit n (Err e) mails marks hs → IsTwice p limit n hs
  twice_from e is h = subst (λ (e : Stop). Becomes p limit n (Err e) mails marks hs) is h

  pub clean_of : IsPassed p limit n mails marks hs → ((c : ℕ) → flag marks c ≡ false) → CleanAt p limit n
  clean_of h none = record { before = h.before; size = h.size; once = h.once; same = h.same none }

  pub looks : limit ≤ 262144 → 1 ≤ p.chares → p.chares ≤ 65536 → IsPassed p limit n mails marks hs → ((c : ℕ) → flag marks c ≡ false) → LooksClosed hs
  looks small some few h none = subst LooksClosed (sym h.is_round) (looks_closed p limit (round p limit n) small some few (clean_closed p limit n (clean_of h none)))

  pub goes_on : IsPassed p limit n mails marks hs → (c : ℕ) → flag marks c ≡ true → IsAtRound p limit (suc n) mails marks hs
  goes_on h c t = h.next (record { size = h.size; once = h.once; news = h.news c t })

  pub few : p.chares ≤ 65536 → IsTwice p limit n hs → length hs ≤ 65536
  few l h = subst (λ j. j ≤ 65536) (sym (ap length h.is_round ∙ round_count p limit n)) l

  pub names_answer : (v : Verdict) → IsTwice p limit n hs → NamesTwice hs v → IsAnswer p limit v
  names_answer (Clean log) h names = absurd names
  names_answer (Ambiguous t) h names = is_twice n h.before h.size (twice_of t) (ap ambiguous (sym h.is_round) ∙ names)
  names_answer TooLong h names = absurd names

or_false : (s t : Bool) → (s || t) ≡ false → (s ≡ false) × (t ≡ false)
or_false true t e = absurd (cc)
or_false false t e = (refl, e)

not_true : (P : Bool → Bool) → P true ≡ true → (t : Bool) → P t ≡ false → t ≡ false
not_true P is true e = absurd (cc)
not_true P is false e = refl

-- where no mark is true, none is at any chare
pub none_marked : (P : Bool → Bool) → P true ≡ true → (marks : List Bool) → list_any P marks ≡ false → (c : ℕ) → flag marks c ≡ false
none_marked P is [] e c = refl
none_marked P is (t ∷ marks) e zero = not_true P is t (or_false (P t) (list_any P marks) e).0
none_marked P is (t ∷ marks) e (suc c) = none_marked P is marks (or_false (P t) (list_any P marks) e).1 c

pub record HasMark (marks : List Bool) : Type 0 where
  pub chare : ℕ
  pub is : flag marks chare ≡ true

-- where one is, it stands at a chare
pub some_marked : (P : Bool → Bool) → P false ≡ false → (marks : List Bool) → list_any P marks ≡ true → HasMark marks
some_marked P is [] e = absurd (cc)
some_marked P is (true ∷ marks) e = record { chare = 0; is = refl }
some_marked P is (false ∷ marks) e = let more = some_marked P is marks (sym (ap (λ t. t || list_any P marks) is) ∙ e) in record { chare = suc more.chare; is = more.is }

pub named_as : (hs hs' : List History) (v : Verdict) → hs ≡ hs' → NamesTwice hs v → NamesTwice hs' v
named_as hs hs' v e h = subst (λ (hs : List History). NamesTwice hs v) e h
