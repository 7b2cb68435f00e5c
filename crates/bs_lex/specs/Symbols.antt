-- What the tokens of a text say, and where they stand.
use Rattle.std.specs.Prelude.{◌≡◌, ◌≢◌, ℕ, ◌≤◌, ◌<◌, ◌^◌, pos, negsuc, Bool, false, ◌&&◌, List, [], ◌∷◌, Option, Some, None, is_none, IfSome, IsTrue, slice_range}
use Rattle.std.specs.List.{list_all, filter_map}
use Rattle.std.specs.Fmt.{signed_decimal}
use Rattle.bs_tree.specs.Symbol.{Symbol, name, number, word, mark}
use Rattle.bs_lex.specs.declared.token.Token.{Token}
use Rattle.bs_lex.specs.declared.token.TokenKind.{TokenKind}
use Rattle.bs_lex.specs.declared.token.TokenKind.TheVariants.{Name, Number, Word, Mark, End}
use Rattle.bs_lex.specs.Spelling.{is_letter, is_name_byte, word_text, word_named, mark_text}

-- the symbol of a token with this text; the end is none
abbrev pub symbol_as : TokenKind → List ℕ → Option Symbol
symbol_as Name text = Some (name text)
symbol_as (Number n) text = Some (number n)
symbol_as (Word w) text = Some (word w)
symbol_as (Mark m) text = Some (mark m)
symbol_as End text = None

-- the bytes of a token
abbrev pub text_at : List ℕ → Token → List ℕ
text_at text token = slice_range text token.from token.to

-- the symbols of the tokens of a text, in order
abbrev pub symbols : List ℕ → List Token → List Symbol
symbols text tokens = filter_map (λ token. symbol_as token.kind (text_at text token)) tokens

-- how a symbol is written
abbrev pub symbol_text : Symbol → List ℕ
symbol_text (name text) = text
symbol_text (number n) = signed_decimal n
symbol_text (word w) = word_text w
symbol_text (mark m) = mark_text m

-- a letter and then letters, digits and `_`, and no reserved word
abbrev pub is_name : List ℕ → Bool
is_name [] = false
is_name (first ∷ rest) = is_letter first && list_all is_name_byte (first ∷ rest) && is_none (word_named (first ∷ rest))

-- the symbols that a text may hold: numbers are from 0 to 2^63 - 1
abbrev pub IsSymbol : Symbol → Type 0
IsSymbol (name text) = IsTrue (is_name text)
IsSymbol (number (pos n)) = n < 2 ^ 63
IsSymbol (number (negsuc n)) = ⊥
IsSymbol (word w) = Unit {0}
IsSymbol (mark m) = Unit {0}

-- the text is that of a token of the kind; of the end it says nothing
abbrev pub IsSpelledAs : TokenKind → List ℕ → Type 0
IsSpelledAs kind text = IfSome (symbol_as kind text) (λ symbol. (text ≡ symbol_text symbol) × IsSymbol symbol)

-- the token's bytes are those of its symbol
abbrev pub IsSpelled : List ℕ → Token → Type 0
IsSpelled text token = IsSpelledAs token.kind (text_at text token)

-- tokens stand one behind the other from a place of a text on, each has some bytes, and `End` alone,
-- the last one, has none and stands at the end of the text
abbrev pub StandsFrom : ℕ → ℕ → List Token → Type 0
StandsFrom place end [] = ⊥
StandsFrom place end (token ∷ []) = (token.kind ≡ End) × (token.from ≡ end) × (token.to ≡ end) × (place ≤ end)
StandsFrom place end (token ∷ next ∷ rest) = (token.kind ≢ End) × (place ≤ token.from) × (token.from < token.to) × StandsFrom token.to end (next ∷ rest)
