-- What the limits say of the declarations.
use Rattle.std.proofs.Common.{◌≡◌, ◌≤◌, zero, suc, true, List, [], ◌∷◌, length, All, arith}
use Rattle.std.proofs.lemmas.Bool.{and_parts, leb-true}
use Rattle.bs_tree.specs.declared.tree.EntryDecl.{EntryDecl}
use Rattle.bs_tree.specs.declared.tree.Program.{Program}
use Rattle.bs_semantics.specs.Layout.{all_cells}
use Rattle.bs_check.specs.Declarations.{are_counts, are_few_params, are_few_cells, is_within}

few_params : (es : List EntryDecl) → are_few_params es ≡ true → All (λ e. e.params ≤ 16) es
few_params [] h n d k = absurd (omega arith)
few_params (e ∷ es) h zero d k = leb-true _ _ (and_parts _ _ h).0
few_params (e ∷ es) h (suc n) d k = few_params es (and_parts _ _ h).1 n d (omega arith)

pub record Fitting (p : Program) : Type 0 where
  pub least : 1 ≤ p.chares
  pub most : p.chares ≤ 65536
  pub vars : length p.vars ≤ 1000
  pub entries : length p.entries ≤ 1000
  pub params : All (λ e. e.params ≤ 16) p.entries
  pub cells : all_cells p.vars ≤ 65536

pub fitting : (p : Program) → is_within p ≡ true → Fitting p
unfolding is_within are_counts are_few_cells
fitting p h =
    let three = and_parts _ _ h in
    let two = and_parts _ _ three.0 in
    let one = and_parts _ _ two.0 in
    let counts = and_parts _ _ one.0 in
    let others = and_parts _ _ counts.0 in
    let chares = and_parts _ _ others.0 in
    record {
      least = leb-true _ _ chares.0;
      most = leb-true _ _ chares.1;
      vars = leb-true _ _ others.1;
      entries = leb-true _ _ counts.1;
      params = few_params p.entries one.1;
      cells = leb-true _ _ (and_parts _ _ three.1).0;
    }
