-- A program whose acts the tests run.
use Rattle.std.specs.Prelude.{[], ◌∷◌, None, Some}
use Rattle.bs_tree.specs.declared.tree.Name.{Name}
use Rattle.bs_tree.specs.declared.tree.Program.{Program}

-- only the places of the names matter
abbrev unnamed : Name
unnamed = record { 0 = [] }

-- chares 1; var x; var a[3]; entry go(1);
-- body { }
abbrev pub example : Program
example = record {
  chares = 1;
  names = unnamed ∷ unnamed ∷ unnamed ∷ [];
  vars = record { name = record { 0 = 0 }; cells = None } ∷ record { name = record { 0 = 1 }; cells = Some 3 } ∷ [];
  entries = record { name = record { 0 = 2 }; params = 1 } ∷ [];
  body = [];
}
