-- What a run and a history gain with more mail: nothing that they had is lost (docs/model.md).
use Rattle.std.specs.Prelude.{◌≡◌, ℕ, true, List, [], ◌∷◌, Some}
use Rattle.bs_tree.specs.declared.tree.Program.{Program}
use Rattle.bs_log.specs.declared.history.Key.{Key}
use Rattle.bs_log.specs.declared.history.Message.{Message}
use Rattle.bs_log.specs.declared.history.Block.{Block}
use Rattle.bs_log.specs.declared.history.Asked.{Asked}
use Rattle.bs_log.specs.declared.history.TrapAt.{TrapAt}
use Rattle.bs_log.specs.declared.history.History.{History}
use Rattle.bs_log.specs.Messages.{sends_of}
use Rattle.bs_semantics.specs.Run.{Lookup, Run, State, Does, history}

-- the one list is the other with gaps
pub data Subsequence (A : Type 0) : List A → List A → Type 0 where
  none : Subsequence A [] []
  keep : (x : A) (xs ys : List A) → Subsequence A xs ys → Subsequence A (x ∷ xs) (x ∷ ys)
  skip : (y : A) (xs ys : List A) → Subsequence A xs ys → Subsequence A xs (y ∷ ys)

-- what the one mail holds, the other holds
abbrev pub PartOf : Lookup → Lookup → Type 0
PartOf a b = (k : Key) (m : Message) → a k ≡ Some m → b k ≡ Some m

-- the blocks, keys asked and traps of the one run are among those of the other, in their order, and where the one has an
-- end the two are one run
pub record RunWithin (r q : Run) : Type 0 where
  pub blocks : Subsequence Block r.blocks q.blocks
  pub asked : Subsequence Asked r.asked q.asked
  pub traps : Subsequence TrapAt r.traps q.traps
  pub same : (e : State) → r.end ≡ Some e → r ≡ q

-- from each state, at each path, the run under a mail is within the run under a larger one
abbrev pub RunGrows : Does → Type 0
RunGrows does = (a b : Lookup) → PartOf a b → (n : ℕ) (path : List ℕ) (s : State) → RunWithin (does a n path s) (does b n path s)

-- the same of histories, and what they send
pub record HistoryWithin (g h : History) : Type 0 where
  pub blocks : Subsequence Block g.blocks h.blocks
  pub sends : Subsequence Message (sends_of g.blocks) (sends_of h.blocks)
  pub asked : Subsequence Asked g.asked h.asked
  pub traps : Subsequence TrapAt g.traps h.traps
  pub same : g.ended ≡ true → g ≡ h

abbrev pub HistoryGrows : Program → ℕ → ℕ → Type 0
HistoryGrows p limit c = (a b : Lookup) → PartOf a b → HistoryWithin (history p limit c a) (history p limit c b)
