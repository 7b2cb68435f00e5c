-- What holds of the canonical text of each program.
use Rattle.std.specs.Prelude.{◌≡◌, ℕ, List}
use Rattle.bs_tree.specs.declared.tree.Program.{Program}
use Rattle.bs_parse.specs.Text.{Spells, HasText}
use Rattle.bs_print.specs.Canonical.{text_of}

-- the canonical text of a program that some text spells spells that program
abbrev pub PrintedIsRead : Type 0
PrintedIsRead = (text : List ℕ) (p : Program) → Spells text p → Spells (text_of p) p

-- no two programs have the same canonical text
abbrev pub OneCanonicalText : Type 0
OneCanonicalText = (p q : Program) → HasText p → HasText q → text_of p ≡ text_of q → p ≡ q
