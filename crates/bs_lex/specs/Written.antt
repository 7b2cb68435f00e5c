-- Symbols as text, and that reading the text gives the symbols back.
use Rattle.std.specs.Prelude.{◌≡◌, ◌≢◌, ℕ, List, [], ◌∷◌, ◌++◌, Ok, Err, All}
use Rattle.bs_tree.specs.Symbol.{Symbol}
use Rattle.bs_lex.specs.declared.token.Token.{Token}
use Rattle.bs_lex.specs.declared.token.LexFault.TheVariants.{Memory}
use Rattle.bs_lex.specs.Lexed.{lexed}
use Rattle.bs_lex.specs.Symbols.{symbols, symbol_text, IsSymbol}

-- the byte behind a symbol: a space where another symbol follows, and else LF
abbrev pub blank_before : List Symbol → ℕ
blank_before [] = 10
blank_before (next ∷ rest) = 32

-- the texts of symbols, with one space between two of them and LF at the end
abbrev pub written : List Symbol → List ℕ
written [] = []
written (symbol ∷ rest) = symbol_text symbol ++ blank_before rest ∷ written rest

-- a text has tokens, and they say these symbols
abbrev pub IsReadAs : List ℕ → List Symbol → Type 0
IsReadAs text said = (tokens : List Token) × ((lexed text ≡ Ok tokens) × (symbols text tokens ≡ said))

-- symbols that are written are read back
abbrev pub WrittenIsRead : Type 0
WrittenIsRead = (said : List Symbol) → All IsSymbol said → IsReadAs (written said) said

-- no text is at fault for want of memory
abbrev pub NeedsNoMemory : Type 0
NeedsNoMemory = (text : List ℕ) → lexed text ≢ Err Memory
