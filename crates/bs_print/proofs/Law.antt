-- The canonical text of a program that some text spells spells that program.
use Rattle.std.proofs.Common.{◌≡◌, ℕ, Bool, true, false, List, [], ◌∷◌, map, Option, Some, None, refl, sym, ap, subst, ◌∙◌, arith}
use Rattle.std.specs.Prelude.{Ok, Err, IfSome, if◌then◌else◌, All}
use Rattle.std.specs.List.{cons_option}
use Rattle.std.specs.Str.{is_utf8}
use Rattle.std.specs.Str.Lossy.{utf8_valid_len}
use Rattle.std.proofs.lemmas.List.Elements.{All-head, All-tail}
use Rattle.bs_tree.specs.declared.tree.Program.{Program}
use Rattle.bs_tree.specs.Symbol.{Symbol}
use Rattle.bs_tree.specs.Rule.{Terminal, terminals}
use Rattle.bs_tree.specs.Grammar.{Parts}
use Rattle.bs_tree.specs.Limits.{most_allowed, none_yet}
use Rattle.bs_tree.specs.Fault.{IsProgram}
use Rattle.bs_lex.specs.declared.token.Token.{Token}
use Rattle.bs_lex.specs.declared.token.LexFault.TheVariants as fault
use Rattle.bs_lex.specs.Lexed.{lexed, tokens_from}
use Rattle.bs_lex.specs.Symbols.{symbol_as, text_at, symbols, symbol_text, IsSymbol, IsSpelled}
use Rattle.bs_lex.proofs.Spelled.{tokens_spelled}
use Rattle.bs_lex.proofs.WrittenLemmas.{written_is_read}
use Rattle.bs_parse.specs.Text.{names_of, known_after, numbered, terminals_of, as_name, SymbolsSpell}
use Rattle.bs_print.specs.Statements.{canonical_items}
use Rattle.bs_print.specs.Canonical.{symbol_in, canonical, text_of}
use Rattle.bs_print.specs.Law.{PrintedIsRead}
use Rattle.bs_print.proofs.Leaner.{leaves, same_leaves, Lower, fits}
use Rattle.bs_print.proofs.ImprovedStatements.{program_improved}
use Rattle.bs_print.proofs.Names.{Each, each_map, each_both, each_all, each_leaf, each_whole, names_of_leaves, IsKnown, all_known, found_again}

-- ---- the symbols of a text

symbol_of_token : (text : List ℕ) (token : Token) (o : Option Symbol) (rest : List Symbol) → IfSome o (λ symbol. (text_at text token ≡ symbol_text symbol) × IsSymbol symbol) → Each IsSymbol rest → Each IsSymbol (cons_option o rest)
symbol_of_token text token None rest spelled each = each
symbol_of_token text token (Some symbol) rest spelled each = (spelled.1, each)

symbols_of_tokens : (text : List ℕ) (tokens : List Token) → All (IsSpelled text) tokens → Each IsSymbol (symbols text tokens)
symbols_of_tokens text [] all = tt
symbols_of_tokens text (token ∷ tokens) all =
    symbol_of_token text token (symbol_as token.kind (text_at text token)) (symbols text tokens) (All-head (IsSpelled text) token tokens all) (symbols_of_tokens text tokens (All-tail (IsSpelled text) token tokens all))

lexed_from : (text : List ℕ) (tokens : List Token) → lexed text ≡ Ok tokens → tokens_from 0 0 text ≡ Ok tokens
unfolding lexed
lexed_from text tokens h = by (is_utf8 text) h
  where
    by : (b : Bool) → (if b then tokens_from 0 0 text else Err (fault.NotUtf8 (utf8_valid_len text))) ≡ Ok tokens → tokens_from 0 0 text ≡ Ok tokens
    by true h = h
    by false h = cc

text_symbols : (text : List ℕ) (tokens : List Token) → lexed text ≡ Ok tokens → Each IsSymbol (symbols text tokens)
text_symbols text tokens h = symbols_of_tokens text tokens (tokens_spelled text tokens (lexed_from text tokens h))

-- ---- the canonical symbols of a program that some symbols spell

abbrev pub parts_of : Program → Parts
parts_of p = (p.chares, p.vars, p.entries, p.body)

canonical_program : (ts : List Terminal) (parts : Parts) → IsProgram ts parts → IsProgram (terminals (canonical_items parts)) parts
canonical_program ts parts is =
    let better = program_improved is.depth is.items parts is.spells in
    let start : Lower none_yet none_yet = record { brackets = omega arith; operators = refl; statements = refl } in
    record {
      items = canonical_items parts;
      is = refl;
      depth = better.spelled.depth;
      spells = better.spelled.spells;
      allows = (fits most_allowed (canonical_items parts) is.items better.lean none_yet none_yet start is.allows).allows;
    }

canonical_leaves : (ts : List Terminal) (parts : Parts) → IsProgram ts parts → leaves (terminals (canonical_items parts)) ≡ leaves ts
canonical_leaves ts parts is = same_leaves (canonical_items parts) is.items (program_improved is.depth is.items parts is.spells).lean ∙ ap leaves is.is

-- a terminal says a symbol that a text may hold, and has that symbol's number
record Says (names : List (List ℕ)) (t : Terminal) : Type 0 where
  symbol : IsSymbol (symbol_in (map as_name names) t)
  back : numbered names (symbol_in (map as_name names) t) ≡ t

symbol_says : (names : List (List ℕ)) (symbol : Symbol) → IsSymbol symbol → IsKnown names symbol → Says names (numbered names symbol)
symbol_says names symbol is known =
    let again = found_again names symbol known in
    record { symbol = subst IsSymbol (sym again) is; back = ap (numbered names) again }

said_say : (said : List Symbol) → Each IsSymbol said → Each (Says (names_of said)) (terminals_of said)
said_say said each =
    let P : Symbol → Type 0 = λ symbol. IsSymbol symbol × IsKnown (names_of said) symbol in
    each_map (numbered (names_of said)) P (Says (names_of said)) (λ symbol p. symbol_says (names_of said) symbol p.0 p.1) said (each_both IsSymbol (IsKnown (names_of said)) P (λ symbol p q. (p, q)) said each (all_known said))

canonical_say : (said : List Symbol) (parts : Parts) → IsProgram (terminals_of said) parts → Each IsSymbol said → Each (Says (names_of said)) (terminals (canonical_items parts))
canonical_say said parts is each =
    let names = names_of said in
    let here : Each (Says names) (leaves (terminals_of said)) = each_leaf (Says names) (terminals_of said) (said_say said each) in
    each_whole (Says names) (λ w. record { symbol = tt; back = refl }) (λ m. record { symbol = tt; back = refl }) (terminals (canonical_items parts)) (subst (Each (Says names)) (sym (canonical_leaves (terminals_of said) parts is)) here)

-- symbols that are numbered and looked up again
said_again : (names : List (List ℕ)) (said : List Symbol) → Each (IsKnown names) said → map (symbol_in (map as_name names)) (map (numbered names) said) ≡ said
said_again names [] each = refl
said_again names (symbol ∷ said) each = ap (λ s. s ∷ map (symbol_in (map as_name names)) (map (numbered names) said)) (found_again names symbol each.0) ∙ ap (λ rest. symbol ∷ rest) (said_again names said each.1)

numbered_again : (names : List (List ℕ)) (ts : List Terminal) → Each (Says names) ts → map (numbered names) (map (symbol_in (map as_name names)) ts) ≡ ts
numbered_again names [] each = refl
numbered_again names (t ∷ ts) each = ap (λ u. u ∷ map (numbered names) (map (symbol_in (map as_name names)) ts)) each.0.back ∙ ap (λ rest. t ∷ rest) (numbered_again names ts each.1)

abbrev said_of : List (List ℕ) → Parts → List Symbol
said_of names parts = map (symbol_in (map as_name names)) (terminals (canonical_items parts))

same_names : (said : List Symbol) (parts : Parts) → IsProgram (terminals_of said) parts → names_of (said_of (names_of said) parts) ≡ names_of said
same_names said parts is =
    let names = names_of said in
    let look = symbol_in (map as_name names) in
    names_of_leaves (map as_name names) [] (terminals (canonical_items parts))
    ∙ ap (λ ts. known_after [] (map look ts)) (canonical_leaves (terminals_of said) parts is)
    ∙ sym (names_of_leaves (map as_name names) [] (terminals_of said))
    ∙ ap (known_after []) (said_again names said (all_known said))

canonical_is : (said : List Symbol) (p : Program) → p.names ≡ map as_name (names_of said) → canonical p ≡ said_of (names_of said) (parts_of p)
unfolding canonical
canonical_is said p names = ap (λ ns. map (symbol_in ns) (terminals (canonical_items (parts_of p)))) names

canonical_spells : (said : List Symbol) (p : Program) → Each IsSymbol said → SymbolsSpell said p → SymbolsSpell (said_of (names_of said) (parts_of p)) p
canonical_spells said p each spell =
    let names = names_of said in
    let parts = parts_of p in
    let same = same_names said parts spell.is in
    let again = ap (λ ns. map (numbered ns) (said_of names parts)) same ∙ numbered_again names (terminals (canonical_items parts)) (canonical_say said parts spell.is each) in
    record {
      names = spell.names ∙ ap (map as_name) (sym same);
      is = subst (λ ts. IsProgram ts parts) (sym again) (canonical_program (terminals_of said) parts spell.is);
    }

canonical_symbols : (said : List Symbol) (parts : Parts) → IsProgram (terminals_of said) parts → Each IsSymbol said → All IsSymbol (said_of (names_of said) parts)
canonical_symbols said parts is each =
    let names = names_of said in
    each_all IsSymbol (said_of names parts) (each_map (symbol_in (map as_name names)) (Says names) IsSymbol (λ t says. says.symbol) (terminals (canonical_items parts)) (canonical_say said parts is each))

pub printed_read : PrintedIsRead
unfolding text_of
printed_read text p spelled =
    let said = symbols text spelled.tokens in
    let each = text_symbols text spelled.tokens spelled.read in
    let is = canonical_is said p spelled.spell.names in
    let read = written_is_read (canonical p) (subst (All IsSymbol) (sym is) (canonical_symbols said (parts_of p) spelled.spell.is each)) in
    let spell = subst (λ s. SymbolsSpell s p) (sym is) (canonical_spells said p each spelled.spell) in
    record {
      tokens = read.0;
      read = read.1.0;
      spell = subst (λ s. SymbolsSpell s p) (sym read.1.1) spell;
    }
