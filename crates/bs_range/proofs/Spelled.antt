-- Each number in the program that a text spells is one of its tokens, which are at most 2^63 - 1.
use Rattle.std.proofs.Common.{◌≡◌, ℕ, ◌^◌, pos, negsuc, Bool, true, false, ◌&&◌, List, [], ◌∷◌, map, Option, Some, None, refl, sym, ap, ◌∙◌, if◌then◌else◌}
use Rattle.std.specs.Prelude.{Ok, Err, IfSome, All}
use Rattle.std.specs.List.{cons_option}
use Rattle.std.specs.Str.{is_utf8}
use Rattle.std.specs.Str.Lossy.{utf8_valid_len}
use Rattle.std.proofs.lemmas.List.Elements.{All-head, All-tail}
use Rattle.bs_tree.specs.declared.tree.Program.{Program}
use Rattle.bs_tree.specs.Symbol as s
use Rattle.bs_tree.specs.Symbol.{Symbol}
use Rattle.bs_log.proofs.ValidTests.{lt_decides}
use Rattle.bs_lex.specs.declared.token.Token.{Token}
use Rattle.bs_lex.specs.declared.token.LexFault.TheVariants as fault
use Rattle.bs_lex.specs.Lexed.{lexed, tokens_from}
use Rattle.bs_lex.specs.Symbols.{symbol_as, text_at, symbols, symbol_text, IsSymbol, IsSpelled}
use Rattle.bs_lex.proofs.Spelled.{tokens_spelled}
use Rattle.bs_parse.specs.Text.{Spells, names_of, numbered}
use Rattle.bs_range.specs.Numbers.{HasSmallNumbers}
use Rattle.bs_range.proofs.NumbersIn.{small_among, small_program}

-- each of some symbols is one that a text may hold
abbrev AreSymbols : List Symbol → Type 0
AreSymbols [] = Unit {0}
AreSymbols (x ∷ xs) = IsSymbol x × AreSymbols xs

one_more : (text : List ℕ) (token : Token) (o : Option Symbol) (rest : List Symbol) → IfSome o (λ symbol. (text_at text token ≡ symbol_text symbol) × IsSymbol symbol) → AreSymbols rest → AreSymbols (cons_option o rest)
one_more text token None rest spelled each = each
one_more text token (Some symbol) rest spelled each = (spelled.1, each)

symbols_of_tokens : (text : List ℕ) (tokens : List Token) → All (IsSpelled text) tokens → AreSymbols (symbols text tokens)
symbols_of_tokens text [] all = tt
symbols_of_tokens text (token ∷ tokens) all =
    one_more text token (symbol_as token.kind (text_at text token)) (symbols text tokens) (All-head (IsSpelled text) token tokens all) (symbols_of_tokens text tokens (All-tail (IsSpelled text) token tokens all))

lexed_from : (text : List ℕ) (tokens : List Token) → lexed text ≡ Ok tokens → tokens_from 0 0 text ≡ Ok tokens
unfolding lexed
lexed_from text tokens h = by (is_utf8 text) h
  where
    by : (b : Bool) → (if b then tokens_from 0 0 text else Err (fault.NotUtf8 (utf8_valid_len text))) ≡ Ok tokens → tokens_from 0 0 text ≡ Ok tokens
    by true h = h
    by false h = cc

small_numbered : (names : List (List ℕ)) (said : List Symbol) → AreSymbols said → small_among (map (numbered names) said) ≡ true
small_numbered names [] h = refl
small_numbered names (s.name name ∷ said) h = small_numbered names said h.1
small_numbered names (s.number (pos n) ∷ said) h = ap (λ b. b && small_among (map (numbered names) said)) ((lt_decides n (2 ^ 63)).1 h.0) ∙ small_numbered names said h.1
small_numbered names (s.number (negsuc n) ∷ said) h = absurd h.0
small_numbered names (s.word w ∷ said) h = small_numbered names said h.1
small_numbered names (s.mark m ∷ said) h = small_numbered names said h.1

pub spelled_small : (text : List ℕ) (p : Program) → Spells text p → HasSmallNumbers p
spelled_small text p h =
    let said = symbols text h.tokens in
    let each = symbols_of_tokens text h.tokens (tokens_spelled text h.tokens (lexed_from text h.tokens h.read)) in
    let is = h.spell.is in
    sym (small_program is.depth is.items (p.chares, p.vars, p.entries, p.body) is.spells) ∙ ap small_among is.is ∙ small_numbered (names_of said) said each
