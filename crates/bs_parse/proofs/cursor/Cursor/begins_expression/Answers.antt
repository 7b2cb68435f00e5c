use Rattle.std.proofs.Common.{◌≡◌, List, [], ◌∷◌, refl, ◌∙◌}
use Rattle.bs_tree.specs.declared.symbols.Word.{Word}
use Rattle.bs_tree.specs.declared.symbols.Word.TheVariants as w
use Rattle.bs_tree.specs.declared.symbols.Mark.{Mark}
use Rattle.bs_tree.specs.declared.symbols.Mark.TheVariants as m
use Rattle.bs_tree.specs.Rule as g
use Rattle.bs_tree.specs.Rule.{Terminal}
use Rattle.bs_tree.specs.Grammar.{with_commas, index, group, primary, unary, product, sum, comparison, conjunction, disjunction}
use Rattle.bs_parse.specs.Reading.{word, mark, starts, begins}
use Rattle.bs_parse.specs.Seen.{begins_operand}
use Rattle.bs_parse.proofs.cursor.Cursor.begins_expression.Goals as goal

by_word : (v : Word) → begins_operand (word v) ≡ begins (with_commas disjunction) (word v)
unfolding index group primary unary product sum comparison conjunction disjunction
by_word w.Chares = refl
by_word w.Var = refl
by_word w.Entry = refl
by_word w.Body = refl
by_word w.Serial = refl
by_word w.When = refl
by_word w.Overlap = refl
by_word w.For = refl
by_word w.While = refl
by_word w.If = refl
by_word w.Else = refl
by_word w.Send = refl
by_word w.To = refl
by_word w.Bytes = refl
by_word w.Work = refl
by_word w.Emit = refl
by_word w.Repeat = refl
by_word w.This = refl

by_mark : (n : Mark) → begins_operand (mark n) ≡ begins (with_commas disjunction) (mark n)
unfolding index group primary unary product sum comparison conjunction disjunction
by_mark m.BraceLeft = refl
by_mark m.BraceRight = refl
by_mark m.ParenLeft = refl
by_mark m.ParenRight = refl
by_mark m.BracketLeft = refl
by_mark m.BracketRight = refl
by_mark m.Semicolon = refl
by_mark m.Comma = refl
by_mark m.Assign = refl
by_mark m.Equal = refl
by_mark m.NotEqual = refl
by_mark m.Less = refl
by_mark m.LessEqual = refl
by_mark m.Greater = refl
by_mark m.GreaterEqual = refl
by_mark m.Plus = refl
by_mark m.Minus = refl
by_mark m.Star = refl
by_mark m.Slash = refl
by_mark m.Percent = refl
by_mark m.Not = refl
by_mark m.And = refl
by_mark m.Or = refl

same : (ts : List Terminal) → starts begins_operand ts ≡ starts (begins (with_commas disjunction)) ts
unfolding index group primary unary product sum comparison conjunction disjunction
same [] = refl
same (g.name n ∷ ts) = refl
same (g.number z ∷ ts) = refl
same (g.word v ∷ ts) = by_word v
same (g.mark n ∷ ts) = by_mark n

pub returns : goal.returns
returns c = c.has_operand.ensures ∙ same c.args.self.now.rest
