-- What a program text is made of, with its blanks, comments and places left aside.
use Rattle.std.specs.Prelude.{ℕ, ℤ, List}
use Rattle.bs_tree.specs.declared.symbols.Word.{Word}
use Rattle.bs_tree.specs.declared.symbols.Mark.{Mark}

-- a name is its bytes
pub data Symbol : Type 0 where
  name : List ℕ → Symbol
  number : ℤ → Symbol
  word : Word → Symbol
  mark : Mark → Symbol
