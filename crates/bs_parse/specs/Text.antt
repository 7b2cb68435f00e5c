-- Which texts spell a program, and what is wrong with one that doesn't (docs/program-text.md).
use Rattle.std.specs.Prelude.{◌≡◌, ℕ, suc, List, [], ◌∷◌, ◌++◌, map, Some, Ok, Err, Bool, ◌||◌, if◌then◌else◌, false, slice_get}
use Rattle.std.specs.Str.{bytes_eq}
use Rattle.bs_tree.specs.Symbol as s
use Rattle.bs_tree.specs.Symbol.{Symbol}
use Rattle.bs_tree.specs.Rule as g
use Rattle.bs_tree.specs.Rule.{Terminal}
use Rattle.bs_tree.specs.Limits.{Reason, unexpected, too_deep, too_many}
use Rattle.bs_tree.specs.Fault.{IsProgram, IsFirstFault}
use Rattle.bs_tree.specs.declared.tree.Name.{Name}
use Rattle.bs_tree.specs.declared.tree.Program.{Program}
use Rattle.bs_lex.specs.declared.token.Token.{Token}
use Rattle.bs_lex.specs.declared.token.LexFault.{LexFault}
use Rattle.bs_lex.specs.declared.token.LexFault.TheVariants as lex
use Rattle.bs_lex.specs.Lexed.{lexed}
use Rattle.bs_lex.specs.Symbols.{symbols}
use Rattle.bs_parse.specs.declared.text.ParseFault.{ParseFault}
use Rattle.bs_parse.specs.declared.text.ParseFault.TheVariants.{Lex, Unexpected, TooDeep, TooManyStatements, Memory}

abbrev pub is_among : List ℕ → List (List ℕ) → Bool
is_among name [] = false
is_among name (known ∷ names) = bytes_eq name known || is_among name names

-- names that are known, and one more if it isn't known yet
abbrev pub known_with : List (List ℕ) → List ℕ → List (List ℕ)
known_with names name = if is_among name names then names else names ++ name ∷ []

-- names that are known, and those of the symbols, each once, in the order of their first appearance
abbrev pub known_after : List (List ℕ) → List Symbol → List (List ℕ)
known_after names [] = names
known_after names (s.name name ∷ rest) = known_after (known_with names name) rest
known_after names (_ ∷ rest) = known_after names rest

abbrev pub names_of : List Symbol → List (List ℕ)
names_of = known_after []

-- the place of a name, counted from 0
abbrev pub place_of : List (List ℕ) → List ℕ → ℕ
place_of [] name = 0
place_of (known ∷ names) name = if bytes_eq name known then 0 else suc (place_of names name)

-- the symbol with a name's place among these in the place of its bytes
abbrev pub numbered : List (List ℕ) → Symbol → Terminal
numbered names (s.name name) = g.name (place_of names name)
numbered names (s.number n) = g.number n
numbered names (s.word w) = g.word w
numbered names (s.mark m) = g.mark m

-- the symbols with their names numbered in the order of their first appearance
abbrev pub terminals_of : List Symbol → List Terminal
terminals_of said = map (numbered (names_of said)) said

abbrev pub as_name : List ℕ → Name
as_name bytes = record { 0 = bytes }

-- the symbols spell this program
pub record SymbolsSpell (said : List Symbol) (program : Program) : Type 0 where
  pub names : program.names ≡ map as_name (names_of said)
  pub is : IsProgram (terminals_of said) (program.chares, program.vars, program.entries, program.body)

-- the text has tokens, and they spell this program
pub record Spells (text : List ℕ) (program : Program) : Type 0 where
  pub tokens : List Token
  pub read : lexed text ≡ Ok tokens
  pub spell : SymbolsSpell (symbols text tokens) program

-- some text spells this program
abbrev pub HasText : Program → Type 0
HasText program = (text : List ℕ) × Spells text program

-- This token of the text, which may be its end, is the first one with a fault of the grammar or the limits.
pub record IsFaultAt (text : List ℕ) (reason : Reason) (token : Token) : Type 0 where
  pub tokens : List Token
  pub read : lexed text ≡ Ok tokens
  pub place : ℕ
  pub first : IsFirstFault (terminals_of (symbols text tokens)) place reason
  pub at : slice_get tokens place ≡ Some token

-- the fault of a token for this reason
abbrev pub fault_at : Reason → Token → ParseFault
fault_at unexpected token = Unexpected token.from token.kind
fault_at too_deep token = TooDeep token.from
fault_at too_many token = TooManyStatements token.from

-- what a text is refused for where its tokens are refused
abbrev pub refused_lexer : LexFault → ParseFault
refused_lexer lex.Memory = Memory
refused_lexer fault = Lex fault

-- what a text is refused for: a fault of its tokens, or else the first token at fault, by the place of its first byte
abbrev pub IsFault : List ℕ → ParseFault → Type 0
IsFault text (Lex fault) = lexed text ≡ Err fault
IsFault text (Unexpected byte kind) = (token : Token) × IsFaultAt text unexpected token × (token.from ≡ byte) × (token.kind ≡ kind)
IsFault text (TooDeep byte) = (token : Token) × IsFaultAt text too_deep token × (token.from ≡ byte)
IsFault text (TooManyStatements byte) = (token : Token) × IsFaultAt text too_many token × (token.from ≡ byte)
IsFault text Memory = ⊥
