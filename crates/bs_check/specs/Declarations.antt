-- What the declarations of a program may break (docs/program-text.md).
use Rattle.std.specs.Prelude.{ℕ, ◌*◌, ◌==◌, nat_le, Bool, true, false, ◌&&◌, ◌||◌, List, [], ◌∷◌, ◌++◌, length, map, Option, Some, None}
use Rattle.bs_tree.specs.declared.tree.VarDecl.{VarDecl}
use Rattle.bs_tree.specs.declared.tree.EntryDecl.{EntryDecl}
use Rattle.bs_tree.specs.declared.tree.Program.{Program}
use Rattle.bs_semantics.specs.Layout.{all_cells}

-- the names of the variables and then those of the entries, which share one space of names
abbrev pub declared_names : Program → List ℕ
declared_names p = map (λ v. v.name.0) p.vars ++ map (λ e. e.name.0) p.entries

abbrev pub stands_among : ℕ → List ℕ → Bool
stands_among n [] = false
stands_among n (m ∷ ms) = (m == n) || stands_among n ms

-- some name stands twice
abbrev pub has_twice : List ℕ → Bool
has_twice [] = false
has_twice (n ∷ ns) = stands_among n ns || has_twice ns

abbrev pub is_between : ℕ → ℕ → ℕ → Bool
is_between low high n = nat_le low n && nat_le n high

abbrev pub is_length : Option ℕ → Bool
is_length None = true
is_length (Some n) = is_between 1 65536 n

abbrev pub are_lengths : List VarDecl → Bool
are_lengths [] = true
are_lengths (v ∷ vs) = is_length v.cells && are_lengths vs

abbrev pub are_few_params : List EntryDecl → Bool
are_few_params [] = true
are_few_params (e ∷ es) = nat_le e.params 16 && are_few_params es

-- how many chares, variables and entries there are
unfoldable pub are_counts : Program → Bool
are_counts p = is_between 1 65536 p.chares && nat_le (length p.vars) 1000 && nat_le (length p.entries) 1000

-- how many cells one chare has, and all together
unfoldable pub are_few_cells : Program → Bool
are_few_cells p = nat_le (all_cells p.vars) 65536 && nat_le (p.chares * all_cells p.vars) 4194304

-- each number of the declarations is within the limits
unfoldable pub is_within : Program → Bool
is_within p = are_counts p && are_few_params p.entries && are_lengths p.vars && are_few_cells p
