-- The reserved words and the marks, numbered in the order of their types, so that they can be compared.
use Rattle.std.specs.Prelude.{ℕ, Bool, nat_eq}
use Rattle.bs_tree.specs.declared.symbols.Word.{Word}
use Rattle.bs_tree.specs.declared.symbols.Word.TheVariants as w
use Rattle.bs_tree.specs.declared.symbols.Mark.{Mark}
use Rattle.bs_tree.specs.declared.symbols.Mark.TheVariants as m

abbrev pub word_number : Word → ℕ
word_number w.Chares = 0
word_number w.Var = 1
word_number w.Entry = 2
word_number w.Body = 3
word_number w.Serial = 4
word_number w.When = 5
word_number w.Overlap = 6
word_number w.For = 7
word_number w.While = 8
word_number w.If = 9
word_number w.Else = 10
word_number w.Send = 11
word_number w.To = 12
word_number w.Bytes = 13
word_number w.Work = 14
word_number w.Emit = 15
word_number w.Repeat = 16
word_number w.This = 17

abbrev pub mark_number : Mark → ℕ
mark_number m.BraceLeft = 0
mark_number m.BraceRight = 1
mark_number m.ParenLeft = 2
mark_number m.ParenRight = 3
mark_number m.BracketLeft = 4
mark_number m.BracketRight = 5
mark_number m.Semicolon = 6
mark_number m.Comma = 7
mark_number m.Assign = 8
mark_number m.Equal = 9
mark_number m.NotEqual = 10
mark_number m.Less = 11
mark_number m.LessEqual = 12
mark_number m.Greater = 13
mark_number m.GreaterEqual = 14
mark_number m.Plus = 15
mark_number m.Minus = 16
mark_number m.Star = 17
mark_number m.Slash = 18
mark_number m.Percent = 19
mark_number m.Not = 20
mark_number m.And = 21
mark_number m.Or = 22

abbrev pub same_word : Word → Word → Bool
same_word a b = nat_eq (word_number a) (word_number b)

abbrev pub same_mark : Mark → Mark → Bool
same_mark a b = nat_eq (mark_number a) (mark_number b)
