-- A statement that spends makes a block whenever it ends.
use Rattle.std.proofs.Common.{◌≡◌, ◌≤◌, ◌⊎◌, inl, inr, ℕ, zero, suc, ◌+◌, Bool, true, false, ◌||◌, List, [], ◌∷◌, ◌++◌, Option, Some, None, Result, Ok, Err, refl, sym, ap, subst, subst₂, ◌∙◌, map, length, length-append, arith, ℤ, pos, negsuc}
use Rattle.std.proofs.lemmas.Bool.{and_parts}
use Rattle.bs_tree.specs.declared.tree.Program.{Program}
use Rattle.bs_tree.specs.declared.tree.Stmt.{Stmt}
use Rattle.bs_tree.specs.declared.tree.Stmt.TheOpen.{Stmt-F}
use Rattle.bs_tree.specs.declared.tree.Stmt.TheFolds.{fold-roll-Stmt, ind-Stmt, map-Stmt}
use Rattle.bs_log.specs.declared.history.Message.{Message}
use Rattle.bs_log.specs.declared.history.TrapKind.{TrapKind}
use Rattle.bs_semantics.specs.Value.{Cells, value_of}
use Rattle.bs_semantics.specs.Acts.{Tally, block_of}
use Rattle.bs_semantics.specs.Run.{join, Lookup, Run, State, Does, Meant, after, from_end, then_do, with, branch, serial, in_turn, recelled, both, parts, no_part, overlap, held, go_on, took, keys_of, does_step, meant_step, meant}
use Rattle.bs_semantics.specs.Spending.{Spending, any_spends, spending_step, spending}
use Rattle.bs_semantics.proofs.Options.{none_some}

-- a block, if it ends
abbrev pub Costs : Run → Type 0
Costs r = (e : State) → r.end ≡ Some e → 1 ≤ length r.blocks

abbrev pub Spender : Does → Type 0
Spender d = (mail : Lookup) (n : ℕ) (path : List ℕ) (s : State) → Costs (d mail n path s)

or_parts : (x y : Bool) → (x || y) ≡ true → (x ≡ true) ⊎ (y ≡ true)
or_parts true y e = inl refl
or_parts false y e = inr e

first_costs : (r : Run) (f : State → Run) (o : Option State) → r.end ≡ o → Costs r → Costs (after r (from_end o f))
first_costs r f None p h e z = h e z
first_costs r f (Some s) p h e z = let one = h s p in let long = length-append r.blocks (f s).blocks in omega (arith, one, long)

second_costs : (r : Run) (f : State → Run) (o : Option State) → r.end ≡ o → ((s : State) → Costs (f s)) → Costs (after r (from_end o f))
second_costs r f None p h e z = absurd (none_some (sym p ∙ z))
second_costs r f (Some s) p h e z = let one = h s e z in let long = length-append r.blocks (f s).blocks in omega (arith, one, long)

cells_cost : (f : Cells → Cells) (r : Run) (o : Option State) → r.end ≡ o → Costs r → (e : State) → recelled f o ≡ Some e → 1 ≤ length r.blocks
cells_cost f r None p h e z = absurd (none_some z)
cells_cost f r (Some s) p h e z = h s p

side_costs : (r : Run) (f : State → Run) → Costs r ⊎ ((s : State) → Costs (f s)) → Costs (then_do r f)
side_costs r f (inl h) = first_costs r f r.end refl h
side_costs r f (inr h) = second_costs r f r.end refl h

join_costs : (w : ℕ → Bool) (r q : Run) (x y : Option State) → r.end ≡ x → q.end ≡ y → Costs r ⊎ Costs q → (e : State) → both w x y ≡ Some e → 1 ≤ length (r.blocks ++ q.blocks)
join_costs w r q None y a b h e z = absurd (none_some z)
join_costs w r q (Some s) None a b h e z = absurd (none_some z)
join_costs w r q (Some s) (Some t) a b (inl h) e z = let one = h s a in let long = length-append r.blocks q.blocks in omega (arith, one, long)
join_costs w r q (Some s) (Some t) a b (inr h) e z = let one = h t b in let long = length-append r.blocks q.blocks in omega (arith, one, long)

either : {A B C D : Type 0} → A ⊎ B → (A → C) → (B → D) → C ⊎ D
either (inl x) f g = inl (f x)
either (inr y) f g = inr (g y)

or_false : (x : Bool) → (x || false) ≡ true → x ≡ true
or_false true e = refl
or_false false e = e

with_costs : {A : Type 0} (n : ℕ) (path : List ℕ) (v : Result A TrapKind) (f : A → Run) → ((x : A) → Costs (f x)) → Costs (with n path v f)
with_costs n path (Err k) f h e z = absurd (none_some z)
with_costs n path (Ok v) f h e z = h v e z

branch_costs : (v : ℤ) (f g : State → Run) (s : State) → Costs (f s) → Costs (g s) → Costs (branch v f g s)
branch_costs (pos zero) f g s h k = k
branch_costs (pos (suc n)) f g s h k = h
branch_costs (negsuc n) f g s h k = h

go_on_costs : (o : Option (List Message)) (as' : _) (ws : _) (f : List Message → Run) → ((ms : List Message) → Costs (f ms)) → Costs (go_on o as' ws f)
go_on_costs None as' ws f h e z = absurd (none_some z)
go_on_costs (Some ms) as' ws f h e z = h ms e z

serial_costs : (this n : ℕ) (path : List ℕ) (s : State) (d : Result Tally TrapKind) → Costs (serial this n path s d)
serial_costs this n path s (Err k) e z = absurd (none_some z)
serial_costs this n path s (Ok t) e z = let l : 1 ≤ 1 = omega arith in l

module _ (p : Program) (limit this : ℕ) where
  abbrev Spent : Stmt → Type 0
  Spent s = (spending s).spends ≡ true → Spender (meant p limit this s).does

  abbrev Those : Type 0
  Those = List ((s : Stmt) × Spent s)

  abbrev spends_in : Those → Bool
  spends_in es = any_spends (map spending (map (λ e. e.0) es))

  abbrev meant_in : Those → List Meant
  meant_in es = map (meant p limit this) (map (λ e. e.0) es)

  list_spends : (es : Those) (k : ℕ) → spends_in es ≡ true → Spender (in_turn (meant_in es) k)
  list_spends [] k h mail n path s = cc
  list_spends (x ∷ es) k h mail n path s = side_costs _ _ (either (or_parts _ _ h) (λ i. x.1 i mail n (path ++ k ∷ []) s) (λ i t. list_spends es (k + 1) i mail (n + (meant p limit this x.0).count) path t))

  parts_spend : (r : Run) (es : Those) (k : ℕ) → Costs r ⊎ (spends_in es ≡ true) → (mail : Lookup) (n : ℕ) (path : List ℕ) (s : State) → Costs (parts r (meant_in es) k mail n path s)
  parts_spend r [] k (inl h) mail n path s = h
  parts_spend r [] k (inr h) mail n path s = cc
  parts_spend r (x ∷ es) k h mail n path s = parts_spend (join w r q) es (k + 1) (by_side h) mail (n + (meant p limit this x.0).count) path s
    where
      w : ℕ → Bool
      w = (meant p limit this x.0).writes

      q : Run
      q = (meant p limit this x.0).does mail n (path ++ k ∷ []) s

      by_part : ((spending x.0).spends ≡ true) ⊎ (spends_in es ≡ true) → Costs (join w r q) ⊎ (spends_in es ≡ true)
      by_part (inl i) = inl (join_costs w r q r.end q.end refl refl (inr (x.1 i mail n (path ++ k ∷ []) s)))
      by_part (inr i) = inr i

      by_side : Costs r ⊎ (spends_in (x ∷ es) ≡ true) → Costs (join w r q) ⊎ (spends_in es ≡ true)
      by_side (inl i) = inl (join_costs w r q r.end q.end refl refl (inl i))
      by_side (inr i) = by_part (or_parts _ _ i)

  overlap_spends : (es : Those) → spends_in es ≡ true → Spender (overlap (meant_in es))
  overlap_spends [] h mail n path s = cc
  overlap_spends (x ∷ es) h mail n path s = parts_spend (no_part s) (x ∷ es) 0 (inr h) mail n path s

  step_spends : (y : Stmt-F ((s : Stmt) × Spent s)) → (spending_step (map-Stmt Stmt Spending spending (map-Stmt _ Stmt (λ e. e.0) y))).spends ≡ true → Spender (does_step p limit this (map-Stmt Stmt Meant (meant p limit this) (map-Stmt _ Stmt (λ e. e.0) y)))
  step_spends (Stmt-F.Serial acts) h mail n path s = serial_costs this n path s (block_of p this acts s.cells)
  step_spends (Stmt-F.When waits body) h mail n path s =
      with_costs n path (keys_of p this waits s.cells) _ (λ ks. go_on_costs (held mail ks) _ _ _ (λ ms. list_spends body 0 h mail (n + 1) path (took p waits s ms)))
  step_spends (Stmt-F.Overlap body) h mail n path s = overlap_spends body h mail (n + 1) path s
  step_spends (Stmt-F.For x first test y step body) h mail n path s = cc
  step_spends (Stmt-F.While test body) h mail n path s = cc
  step_spends (Stmt-F.If test body None) h mail n path s = cc
  step_spends (Stmt-F.If test body (Some other)) h mail n path s =
      let both = and_parts _ _ h in
      with_costs n path (value_of p this test s.cells) _ (λ v. branch_costs v _ _ s (list_spends body 0 both.0 mail (n + 1) (path ++ 0 ∷ []) s) (list_spends other 0 both.1 mail _ (path ++ 1 ∷ []) s))
  step_spends (Stmt-F.Seq body) h mail n path s = list_spends body 0 h mail (n + 1) path s

  -- spends, and what it does
  abbrev SpentSo : Spending → Meant → Type 0
  SpentSo b d = b.spends ≡ true → Spender d.does

  pub statement_spends : (s : Stmt) → Spent s
  statement_spends = ind-Stmt Spent (λ x y is.
      subst₂ SpentSo (sym (fold-roll-Stmt Spending spending_step x)) (sym (fold-roll-Stmt Meant (meant_step p limit this) x))
      (subst (λ z. SpentSo (spending_step (map-Stmt Stmt Spending spending z)) (meant_step p limit this (map-Stmt Stmt Meant (meant p limit this) z))) is (step_spends y)))

  all_those : List Stmt → Those
  all_those [] = []
  all_those (s ∷ ss) = (s, statement_spends s) ∷ all_those ss

  same_those : (ss : List Stmt) → map (λ e. e.0) (all_those ss) ≡ ss
  unfolding all_those
  same_those [] = refl
  same_those (s ∷ ss) = ap (λ ss. s ∷ ss) (same_those ss)

  pub body_spends : (ss : List Stmt) (k : ℕ) → any_spends (map spending ss) ≡ true → Spender (in_turn (map (meant p limit this) ss) k)
  body_spends ss k = subst (λ ss. any_spends (map spending ss) ≡ true → Spender (in_turn (map (meant p limit this) ss) k)) (same_those ss) (list_spends (all_those ss) k)
