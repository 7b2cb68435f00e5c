-- The one canonical text of a program (docs/program-text.md).
use Rattle.std.specs.Prelude.{ℕ, List, [], ◌∷◌, ◌++◌, map, Option, Some, None, slice_get}
use Rattle.std.specs.List.{flat_map}
use Rattle.bs_tree.specs.Symbol as s
use Rattle.bs_tree.specs.Symbol.{Symbol}
use Rattle.bs_tree.specs.Rule as g
use Rattle.bs_tree.specs.Rule.{Terminal, Item, terminals}
use Rattle.bs_tree.specs.declared.tree.Name.{Name}
use Rattle.bs_tree.specs.declared.tree.Program.{Program}
use Rattle.bs_lex.specs.Symbols.{symbol_text}
use Rattle.bs_lex.specs.Written.{written}
use Rattle.bs_print.specs.Statements.{canonical_items}

-- a name that isn't there has no bytes
abbrev pub bytes_of : Option Name → List ℕ
bytes_of None = []
bytes_of (Some name) = name.0

-- the symbol of a terminal, whose name is found by its number among these
abbrev pub symbol_in : List Name → Terminal → Symbol
symbol_in names (g.name n) = s.name (bytes_of (slice_get names n))
symbol_in names (g.number z) = s.number z
symbol_in names (g.word w) = s.word w
symbol_in names (g.mark m) = s.mark m

-- the symbols of the text
unfoldable pub canonical : Program → List Symbol
canonical p = map (symbol_in p.names) (terminals (canonical_items (p.chares, p.vars, p.entries, p.body)))

-- the symbols with one space between two of them, and LF at the end
unfoldable pub text_of : Program → List ℕ
text_of p = written (canonical p)

-- a symbol with a space behind it
unfoldable pub spaced : Symbol → List ℕ
spaced symbol = symbol_text symbol ++ 32 ∷ []

-- items as text, each with a space behind it
abbrev pub spaced_items : List Name → List Item → List ℕ
spaced_items names items = flat_map (λ item. spaced (symbol_in names item.1)) items
