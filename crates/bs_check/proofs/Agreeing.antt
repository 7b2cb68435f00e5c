-- A statement writes a cell exactly where it writes, by name, the variable that has it.
use Rattle.std.proofs.Common.{◌≡◌, ◌⊎◌, inl, inr, ℕ, Bool, true, false, ◌||◌, List, [], ◌∷◌, Some, None, map, refl, sym, subst, subst₂, eqb-true}
use Rattle.std.proofs.lemmas.Cmp.{nat_eq_equiv}
use Rattle.std.specs.Prelude.{◌↔◌}
use Rattle.bs_tree.specs.Reads.{any_true, is_same, any_named, any_wait_writes, any_act_writes, stmt_writes_step, stmt_writes}
use Rattle.bs_tree.specs.Reads as names
use Rattle.bs_tree.specs.declared.tree.NameId.{NameId}
use Rattle.bs_tree.specs.declared.tree.Wait.{Wait}
use Rattle.bs_tree.specs.declared.tree.Act.{Act}
use Rattle.bs_tree.specs.declared.tree.Act.TheOpen.{Act-F}
use Rattle.bs_tree.specs.declared.tree.Act.TheFolds.{fold-roll-Act, ind-Act, map-Act}
use Rattle.bs_tree.specs.declared.tree.Stmt.{Stmt}
use Rattle.bs_tree.specs.declared.tree.Stmt.TheOpen.{Stmt-F}
use Rattle.bs_tree.specs.declared.tree.Stmt.TheFolds.{fold-roll-Stmt, ind-Stmt, map-Stmt}
use Rattle.bs_tree.specs.declared.tree.Program.{Program}
use Rattle.bs_semantics.specs.Layout.{owns}
use Rattle.bs_semantics.specs.Acts.{any_writes}
use Rattle.bs_semantics.specs.Acts as cells
use Rattle.bs_semantics.specs.Run.{Meant, any_part, params_own, waits_own, writes_step, meant_step, meant}
use Rattle.bs_check.specs.Agreeing.{WritesOwner, writes_cell}

either_true : (a b : Bool) → (a || b) ≡ true → (a ≡ true) ⊎ (b ≡ true)
either_true true b h = inl refl
either_true false b h = inr h

left_true : (a b : Bool) → a ≡ true → (a || b) ≡ true
left_true true b h = refl
left_true false b h = absurd (cc)

right_true : (a b : Bool) → b ≡ true → (a || b) ≡ true
right_true true b h = refl
right_true false b h = h

module _ (p : Program) where
  -- a variable of these names has the cell
  record Owner (writes : NameId → Bool) (cell : ℕ) : Type 0 where
    name : NameId
    is_written : writes name ≡ true
    has : owns p name cell ≡ true

  -- what is written by name and what is written by cell
  record Alike (writes : NameId → Bool) (touches : ℕ → Bool) : Type 0 where
    owner : (cell : ℕ) → touches cell ≡ true → Owner writes cell
    cell : (name : NameId) (cell : ℕ) → writes name ≡ true → owns p name cell ≡ true → touches cell ≡ true

  nothing : Alike (λ name. false) (λ cell. false)
  nothing = record { owner = λ cell h. absurd (cc); cell = λ name cell h g. absurd (cc) }

  own : (x : NameId) → Alike (λ name. is_same x name) (λ cell. owns p x cell)
  own x = record {
    owner = λ cell h. record { name = x; is_written = nat_eq_equiv.refl x.0; has = h };
    cell = λ name cell h g. let e = eqb-true x.0 name.0 h in let one : name ≡ x = λ j. record { 0 = sym e j } in subst (λ (z : NameId). owns p z cell ≡ true) one g;
  }

  joined : (f g : NameId → Bool) (v w : ℕ → Bool) → Alike f v → Alike g w → Alike (λ name. f name || g name) (λ cell. v cell || w cell)
  joined f g v w a b = record {
    owner = λ cell h. of (either_true (v cell) (w cell) h);
    cell = λ name cell h o. into name cell o (either_true (f name) (g name) h);
  }
    where
      of : {cell : ℕ} → (v cell ≡ true) ⊎ (w cell ≡ true) → Owner (λ name. f name || g name) cell
      of {cell} (inl h) = let k = a.owner cell h in record { name = k.name; is_written = left_true (f k.name) (g k.name) k.is_written; has = k.has }
      of {cell} (inr h) = let k = b.owner cell h in record { name = k.name; is_written = right_true (f k.name) (g k.name) k.is_written; has = k.has }

      into : (name : NameId) (cell : ℕ) → owns p name cell ≡ true → (f name ≡ true) ⊎ (g name ≡ true) → (v cell || w cell) ≡ true
      into name cell o (inl h) = left_true (v cell) (w cell) (a.cell name cell h o)
      into name cell o (inr h) = right_true (v cell) (w cell) (b.cell name cell h o)

  -- ---- acts

  abbrev ActAlike : Act → Type 0
  ActAlike a = Alike (λ name. names.act_writes name a) (λ cell. cells.act_writes p a cell)

  acts_inside : (es : List ((a : Act) × ActAlike a)) → Alike (λ name. any_true (map (names.act_writes name) (map (λ e. e.0) es))) (λ cell. any_writes (map (cells.act_writes p) (map (λ e. e.0) es)) cell)
  acts_inside [] = nothing
  acts_inside (e ∷ es) = joined _ _ _ _ e.1 (acts_inside es)

  layer_act : (y : Act-F ((a : Act) × ActAlike a)) → Alike (λ name. names.act_writes_step name (map-Act Act Bool (names.act_writes name) (map-Act _ Act (λ e. e.0) y))) (λ cell. cells.act_writes_step p (map-Act Act (ℕ → Bool) (cells.act_writes p) (map-Act _ Act (λ e. e.0) y)) cell)
  layer_act (Act-F.Set x e) = own x
  layer_act (Act-F.SetAt x i e) = own x
  layer_act (Act-F.Send entry reference args target bytes) = nothing
  layer_act (Act-F.Work e) = nothing
  layer_act (Act-F.Emit e) = nothing
  layer_act (Act-F.If test body None) = joined _ _ _ _ (acts_inside body) nothing
  layer_act (Act-F.If test body (Some other)) = joined _ _ _ _ (acts_inside body) (acts_inside other)
  layer_act (Act-F.Repeat times body) = acts_inside body

  act_alike : (a : Act) → ActAlike a
  act_alike = ind-Act ActAlike (λ x y is.
      subst₂ Alike (λ j name. sym (fold-roll-Act Bool (names.act_writes_step name) x) j) (λ j. sym (fold-roll-Act (ℕ → Bool) (cells.act_writes_step p) x) j)
      (subst (λ z. Alike (λ name. names.act_writes_step name (map-Act Act Bool (names.act_writes name) z)) (λ cell. cells.act_writes_step p (map-Act Act (ℕ → Bool) (cells.act_writes p) z) cell)) is (layer_act y)))

  acts_alike : (acts : List Act) → Alike (λ name. any_act_writes name acts) (λ cell. any_writes (map (cells.act_writes p) acts) cell)
  acts_alike [] = nothing
  acts_alike (a ∷ acts) = joined _ _ _ _ (act_alike a) (acts_alike acts)

  -- ---- waits

  params_alike : (params : List NameId) → Alike (λ name. any_named name params) (λ cell. params_own p params cell)
  params_alike [] = nothing
  params_alike (x ∷ params) = joined _ _ _ _ (own x) (params_alike params)

  waits_alike : (waits : List Wait) → Alike (λ name. any_wait_writes name waits) (λ cell. waits_own p waits cell)
  waits_alike [] = nothing
  waits_alike (w ∷ waits) = joined _ _ _ _ (params_alike w.params) (waits_alike waits)

  -- ---- statements

  module _ (limit this : ℕ) where
    abbrev StmtAlike : Stmt → Type 0
    StmtAlike s = Alike (λ name. stmt_writes name s) (λ cell. (meant p limit this s).writes cell)

    inside : (es : List ((s : Stmt) × StmtAlike s)) → Alike (λ name. any_true (map (stmt_writes name) (map (λ e. e.0) es))) (λ cell. any_part (map (meant p limit this) (map (λ e. e.0) es)) cell)
    inside [] = nothing
    inside (e ∷ es) = joined _ _ _ _ e.1 (inside es)

    layer_stmt : (y : Stmt-F ((s : Stmt) × StmtAlike s)) → Alike (λ name. stmt_writes_step name (map-Stmt Stmt Bool (stmt_writes name) (map-Stmt _ Stmt (λ e. e.0) y))) (λ cell. writes_step p (map-Stmt Stmt Meant (meant p limit this) (map-Stmt _ Stmt (λ e. e.0) y)) cell)
    layer_stmt (Stmt-F.Serial acts) = acts_alike acts
    layer_stmt (Stmt-F.When waits body) = joined _ _ _ _ (waits_alike waits) (inside body)
    layer_stmt (Stmt-F.Overlap body) = inside body
    layer_stmt (Stmt-F.For x first test y step body) = joined _ _ _ _ (joined _ _ _ _ (own x) (own y)) (inside body)
    layer_stmt (Stmt-F.While test body) = inside body
    layer_stmt (Stmt-F.If test body None) = joined _ _ _ _ (inside body) nothing
    layer_stmt (Stmt-F.If test body (Some other)) = joined _ _ _ _ (inside body) (inside other)
    layer_stmt (Stmt-F.Seq body) = inside body

    stmt_alike : (s : Stmt) → StmtAlike s
    stmt_alike = ind-Stmt StmtAlike (λ x y is.
        subst₂ Alike (λ j name. sym (fold-roll-Stmt Bool (stmt_writes_step name) x) j) (λ j cell. (sym (fold-roll-Stmt Meant (meant_step p limit this) x) j).writes cell)
        (subst (λ z. Alike (λ name. stmt_writes_step name (map-Stmt Stmt Bool (stmt_writes name) z)) (λ cell. writes_step p (map-Stmt Stmt Meant (meant p limit this) z) cell)) is (layer_stmt y)))

    pub writes_alike : (s : Stmt) (cell : ℕ) → (writes_cell p limit this s cell ≡ true) ↔ WritesOwner p s cell
    writes_alike s cell = (
      (λ h. let k = (stmt_alike s).owner cell h in record { name = k.name; writes = k.is_written; owns = k.has }),
      (λ k. (stmt_alike s).cell k.name cell k.writes k.owns),
    )
