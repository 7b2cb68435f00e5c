-- What is kept between two rounds.
use Rattle.std.specs.Prelude.{◌≡◌, ◌≤◌, ◌<◌, ℕ, suc, Bool, true, false, List, [], Some, Result, Ok, Err, length, get_or}
use Rattle.bs_tree.specs.declared.tree.Program.{Program}
use Rattle.bs_log.specs.declared.history.Message.{Message}
use Rattle.bs_log.specs.declared.history.History.{History}
use Rattle.bs_log.specs.Size.{size_all}
use Rattle.bs_log.specs.Lists.{Mem, Apart}
use Rattle.bs_log.specs.Sound.{Once}
use Rattle.bs_log.specs.Messages.{one_asked, sends_of}
use Rattle.bs_log.specs.Histories.{history_at}
use Rattle.bs_semantics.specs.Run.{history}
use Rattle.bs_semantics.specs.Rounds.{SameMail, Undecided, mail_to, mail, round}
use Rattle.bs_rounds.specs.declared.stop.Stop.{Stop}
use Rattle.bs_rounds.specs.declared.stop.Stop.TheVariants.{Long, Twice, Memory}
use Rattle.bs_rounds.specs.Posting.{flag, held}

-- the history of a chare that isn't marked is that under its mail, no key is asked in it twice, and what it sends is held
pub record IsStale (p : Program) (limit : ℕ) (mails : List (List Message)) (hs : List History) (c : ℕ) : Type 0 where
  pub taken : history_at hs c ≡ history p limit c (held mails c)
  pub asked : Apart one_asked (history_at hs c).asked
  pub posted : (m : Message) → Mem m (sends_of (history_at hs c).blocks) → held mails m.sent.to m.sent.key ≡ Some m

-- before round n, which is the first that may be decided: the mails are those of the round, and chares that aren't marked
-- are as they were in the round before
pub record IsAtRound (p : Program) (limit n : ℕ) (mails : List (List Message)) (marks : List Bool) (hs : List History) : Type 0 where
  pub before : (m : ℕ) → m < n → Undecided p limit m
  pub mail_is : (c : ℕ) → held mails c ≡ mail_to (mail p limit n) c
  pub stale : (c : ℕ) → c < p.chares → flag marks c ≡ false → IsStale p limit mails hs c
  pub mails_count : length mails ≡ p.chares
  pub marks_count : length marks ≡ p.chares
  pub histories_count : length hs ≡ p.chares
  pub size : size_all hs ≤ limit

-- after round n, that isn't too long and in which nothing is sent or asked twice: a chare is marked where its mail has
-- news, and if one is, all is as it is before the next round
pub record IsPassed (p : Program) (limit n : ℕ) (mails : List (List Message)) (marks : List Bool) (hs : List History) : Type 0 where
  pub before : (m : ℕ) → m < n → Undecided p limit m
  pub is_round : hs ≡ round p limit n
  pub size : size_all (round p limit n) ≤ limit
  pub once : Once (round p limit n)
  pub same : ((c : ℕ) → flag marks c ≡ false) → SameMail (mail p limit (suc n)) (mail p limit n)
  pub news : (c : ℕ) → flag marks c ≡ true → SameMail (mail p limit (suc n)) (mail p limit n) → ⊥
  pub next : Undecided p limit n → IsAtRound p limit (suc n) mails marks hs

-- in round n a key is sent or asked twice
pub record IsTwice (p : Program) (limit n : ℕ) (hs : List History) : Type 0 where
  pub before : (m : ℕ) → m < n → Undecided p limit m
  pub is_round : hs ≡ round p limit n
  pub size : size_all (round p limit n) ≤ limit
  pub twice : Once (round p limit n) → ⊥

-- what becomes of round n
abbrev pub Becomes : Program → ℕ → ℕ → Result (Unit {0}) Stop → List (List Message) → List Bool → List History → Type 0
Becomes p limit n (Ok u) mails marks hs = IsPassed p limit n mails marks hs
Becomes p limit n (Err Long) mails marks hs = limit < size_all (round p limit n)
Becomes p limit n (Err Twice) mails marks hs = IsTwice p limit n hs
Becomes p limit n (Err Memory) mails marks hs = Unit {0}
