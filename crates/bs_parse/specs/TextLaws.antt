-- Each text has one answer.
use Rattle.std.specs.Prelude.{◌≡◌, ◌⊎◌, ℕ, List}
use Rattle.bs_tree.specs.declared.tree.Program.{Program}
use Rattle.bs_parse.specs.declared.text.ParseFault.{ParseFault}
use Rattle.bs_parse.specs.Text.{Spells, IsFault}

-- two programs that a text spells are the same
abbrev pub OneProgram : Type 0
OneProgram = (text : List ℕ) (p q : Program) → Spells text p → Spells text q → p ≡ q

-- two faults of a text are the same
abbrev pub OneFault : Type 0
OneFault = (text : List ℕ) (f g : ParseFault) → IsFault text f → IsFault text g → f ≡ g

-- no text spells a program and has a fault
abbrev pub NotBoth : Type 0
NotBoth = (text : List ℕ) (p : Program) (fault : ParseFault) → Spells text p → IsFault text fault → ⊥

-- every text spells a program or has a fault
abbrev pub SomeAnswer : Type 0
SomeAnswer = (text : List ℕ) → ((p : Program) × Spells text p) ⊎ ((fault : ParseFault) × IsFault text fault)
