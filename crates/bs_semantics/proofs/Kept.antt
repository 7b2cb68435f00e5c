-- A relation of the runs under two mails, kept by each step of a run, holds of the runs of each statement.
use Rattle.std.proofs.Common.{Option, ap, ◌≡◌, refl, Bool, subst₂, ℕ, zero, suc, ◌+◌, List, [], ◌∷◌, ◌++◌, Some, None, Result, Ok, Err, sym, subst, map, ℤ, pos, negsuc}
use Rattle.bs_tree.specs.declared.tree.Program.{Program}
use Rattle.bs_tree.specs.declared.tree.Act.{Act}
use Rattle.bs_tree.specs.declared.tree.Stmt.{Stmt}
use Rattle.bs_tree.specs.declared.tree.Stmt.TheOpen.{Stmt-F}
use Rattle.bs_tree.specs.declared.tree.Stmt.TheFolds.{fold-roll-Stmt, ind-Stmt, map-Stmt}
use Rattle.bs_log.specs.declared.history.Key.{Key}
use Rattle.bs_log.specs.declared.history.Message.{Message}
use Rattle.bs_log.specs.declared.history.TrapAt.{TrapAt}
use Rattle.bs_log.specs.declared.history.TrapKind.{TrapKind}
use Rattle.bs_semantics.specs.Value.{Cells, Value, value_of}
use Rattle.bs_semantics.specs.Acts.{Tally, block_of}
use Rattle.bs_semantics.specs.Layout.{place_of}
use Rattle.bs_semantics.specs.Run.{both, recelled, mix, Lookup, Run, State, Causes, Does, Meant, ends, halts, then_do, with, branch, serial, in_turn, with_cells, join, parts, no_part, overlap, turns, assign, no_step, otherwise, keys_of, ask, took, with_mail, does_step, meant_step, meant}

pub record Closure (p : Program) (this : ℕ) (a b : Lookup) (R : Causes → Run → Run → Type 0) : Type 0 where
  pub ended : (s : State) → R s.causes (ends s) (ends s)
  pub halted : (k : Causes) (ts : List TrapAt) → R k (halts ts) (halts ts)
  pub made : (n : ℕ) (path : List ℕ) (s : State) (acts : List Act) (t : Tally) → block_of p this acts s.cells ≡ Ok t → R s.causes (serial this n path s (Ok t)) (serial this n path s (Ok t))
  pub asked : (n : ℕ) (path : List ℕ) (k : Causes) (ks : List Key) (f g : List Message → Run) → ((ms : List Message) → R (with_mail ms k) (f ms) (g ms)) → R k (ask a n path ks f) (ask b n path ks g)
  pub followed : (k : Causes) (r q : Run) (f g : State → Run) → R k r q → ((s : State) → R s.causes (f s) (g s)) → R k (then_do r f) (then_do q g)
  pub recelled : (k : Causes) (f : Cells → Cells) (r q : Run) → R k r q → R k (with_cells f r) (with_cells f q)
  pub joined : (k : Causes) (w : ℕ → _) (r q r' q' : Run) → R k r q → R k r' q' → R k (join w r r') (join w q q')

-- the first part beside no part
pub first_part : (w : ℕ → Bool) (s : State) (r : Run) → join w (no_part s) r ≡ with_cells (λ cells. mix w 0 cells s.cells) r
first_part w s r = ap (λ e. record { blocks = r.blocks; asked = r.asked; traps = r.traps; waits = r.waits; end = e }) (by_end r.end)
  where
    by_end : (o : Option State) → both w (no_part s).end o ≡ recelled (λ cells. mix w 0 cells s.cells) o
    by_end None = refl
    by_end (Some e) = refl

module _ (p : Program) (limit this : ℕ) (a b : Lookup) (R : Causes → Run → Run → Type 0) (c : Closure p this a b R) where
  abbrev Kept : Does → Type 0
  Kept d = (n : ℕ) (path : List ℕ) (s : State) → R s.causes (d a n path s) (d b n path s)

  abbrev AllKept : List Meant → Type 0
  AllKept [] = Unit {0}
  AllKept (d ∷ ds) = Kept d.does × AllKept ds

  with_kept : {A : Type 0} (k : Causes) (n : ℕ) (path : List ℕ) (v : Result A TrapKind) (f g : A → Run) → ((x : A) → R k (f x) (g x)) → R k (with n path v f) (with n path v g)
  with_kept k n path (Err e) f g h = c.halted k _
  with_kept k n path (Ok v) f g h = h v

  branch_kept : (v : ℤ) (f g f' g' : State → Run) (s : State) → R s.causes (f s) (f' s) → R s.causes (g s) (g' s) → R s.causes (branch v f g s) (branch v f' g' s)
  branch_kept (pos zero) f g f' g' s h k = k
  branch_kept (pos (suc n)) f g f' g' s h k = h
  branch_kept (negsuc n) f g f' g' s h k = h

  in_turn_kept : (ds : List Meant) (k : ℕ) → AllKept ds → Kept (in_turn ds k)
  in_turn_kept [] k h n path s = c.ended s
  in_turn_kept (d ∷ ds) k h n path s = c.followed _ _ _ _ _ (h.0 n (path ++ k ∷ []) s) (λ e. in_turn_kept ds (k + 1) h.1 (n + d.count) path e)

  parts_kept : (r q : Run) (ds : List Meant) (k : ℕ) → AllKept ds → (n : ℕ) (path : List ℕ) (s : State) → R s.causes r q → R s.causes (parts r ds k a n path s) (parts q ds k b n path s)
  parts_kept r q [] k h n path s i = i
  parts_kept r q (d ∷ ds) k h n path s i = parts_kept (join d.writes r (d.does a n (path ++ k ∷ []) s)) (join d.writes q (d.does b n (path ++ k ∷ []) s)) ds (k + 1) h.1 (n + d.count) path s (c.joined s.causes d.writes _ _ _ _ i (h.0 n (path ++ k ∷ []) s))

  overlap_kept : (ds : List Meant) → AllKept ds → Kept (overlap ds)
  overlap_kept [] h n path s = c.ended s
  overlap_kept (d ∷ ds) h n path s = parts_kept _ _ ds 1 h.1 (n + d.count) path s
      (subst₂ (R s.causes) (sym (first_part d.writes s (d.does a n (path ++ 0 ∷ []) s))) (sym (first_part d.writes s (d.does b n (path ++ 0 ∷ []) s)))
      (c.recelled _ (λ cells. mix d.writes 0 cells s.cells) _ _ (h.0 n (path ++ 0 ∷ []) s)))

  abbrev StepKept : (ℕ → List ℕ → (State → Run) → State → Run) → Type 0
  StepKept step = (n : ℕ) (path : List ℕ) (f g : State → Run) → ((s : State) → R s.causes (f s) (g s)) → (s : State) → R s.causes (step n path f s) (step n path g s)

  turns_kept : (m : ℕ) (test : State → Value) (step : ℕ → List ℕ → (State → Run) → State → Run) (ds : List Meant) (k : ℕ) → StepKept step → AllKept ds → Kept (turns m test step ds k)
  turns_kept zero test step ds k t h n path s = with_kept _ _ _ (test s) _ _ (λ v. branch_kept v _ _ _ _ s (c.halted _ _) (c.ended s))
  turns_kept (suc m) test step ds k t h n path s =
      with_kept _ _ _ (test s) _ _ (λ v. branch_kept v _ _ _ _ s
      (c.followed _ _ _ _ _ (in_turn_kept ds 0 h (n + 1) (path ++ k ∷ []) s) (t n path _ _ (turns_kept m test step ds (k + 1) t h n path)))
      (c.ended s))

  assign_kept : (value : State → Value) (at : ℕ) → StepKept (assign value at)
  assign_kept value at n path f g h s = with_kept _ _ _ (value s) _ _ (λ v. h _)

  otherwise_kept : (ds : List Meant) → AllKept ds → Kept (otherwise (Some ds))
  otherwise_kept ds h n path s = in_turn_kept ds 0 h n (path ++ 1 ∷ []) s

  serial_kept : (n : ℕ) (path : List ℕ) (s : State) (acts : List Act) (d : Result Tally TrapKind) → block_of p this acts s.cells ≡ d → R s.causes (serial this n path s d) (serial this n path s d)
  serial_kept n path s acts (Err k) e = c.halted _ _
  serial_kept n path s acts (Ok t) e = c.made n path s acts t e

  abbrev Fine : Stmt → Type 0
  Fine s = Kept (meant p limit this s).does

  all_kept : (es : List ((s : Stmt) × Fine s)) → AllKept (map (meant p limit this) (map (λ e. e.0) es))
  all_kept [] = tt
  all_kept (e ∷ es) = (e.1, all_kept es)

  step_kept : (y : Stmt-F ((s : Stmt) × Fine s)) → Kept (does_step p limit this (map-Stmt Stmt Meant (meant p limit this) (map-Stmt _ Stmt (λ e. e.0) y)))
  step_kept (Stmt-F.Serial acts) n path s = serial_kept n path s acts (block_of p this acts s.cells) refl
  step_kept (Stmt-F.When waits body) n path s = with_kept _ _ _ (keys_of p this waits s.cells) _ _ (λ ks. c.asked _ _ _ _ _ _ (λ ms. in_turn_kept _ 0 (all_kept body) (n + 1) path (took p waits s ms)))
  step_kept (Stmt-F.Overlap body) n path s = overlap_kept _ (all_kept body) (n + 1) path s
  step_kept (Stmt-F.For x first test y step body) n path s =
      assign_kept (λ s. value_of p this first s.cells) (place_of p x).from n path _ _
      (turns_kept (suc limit) (λ s. value_of p this test s.cells) (assign (λ s. value_of p this step s.cells) (place_of p y).from) _ 0
      (assign_kept (λ s. value_of p this step s.cells) (place_of p y).from) (all_kept body) n path) s
  step_kept (Stmt-F.While test body) n path s = turns_kept (suc limit) (λ s. value_of p this test s.cells) no_step _ 0 (λ n path f g h s. h s) (all_kept body) n path s
  step_kept (Stmt-F.If test body None) n path s = with_kept _ _ _ (value_of p this test s.cells) _ _ (λ v. branch_kept v _ _ _ _ s (in_turn_kept _ 0 (all_kept body) (n + 1) (path ++ 0 ∷ []) s) (c.ended s))
  step_kept (Stmt-F.If test body (Some other)) n path s = with_kept _ _ _ (value_of p this test s.cells) _ _ (λ v. branch_kept v _ _ _ _ s (in_turn_kept _ 0 (all_kept body) (n + 1) (path ++ 0 ∷ []) s) (otherwise_kept _ (all_kept other) _ path s))
  step_kept (Stmt-F.Seq body) n path s = in_turn_kept _ 0 (all_kept body) (n + 1) path s

  pub statement_kept : (s : Stmt) → Fine s
  statement_kept = ind-Stmt Fine (λ x y is.
      subst (λ m. Kept m.does) (sym (fold-roll-Stmt Meant (meant_step p limit this) x))
      (subst (λ z. Kept (does_step p limit this (map-Stmt Stmt Meant (meant p limit this) z))) is (step_kept y)))

  pub body_kept : (ss : List Stmt) → AllKept (map (meant p limit this) ss)
  body_kept [] = tt
  body_kept (s ∷ ss) = (statement_kept s, body_kept ss)

  pub list_kept : (ss : List Stmt) (k n : ℕ) (path : List ℕ) (s : State) → R s.causes (in_turn (map (meant p limit this) ss) k a n path s) (in_turn (map (meant p limit this) ss) k b n path s)
  list_kept ss k n path s = in_turn_kept (map (meant p limit this) ss) k (body_kept ss) n path s
