-- Symbols that are written are read back.
use Rattle.std.proofs.Common.{◌≡◌, ℕ, ◌+◌, ◌-◌, ◌^◌, ◌<◌, ◌==◌, Bool, true, false, not, ◌&&◌, nat_eq, nat_lt, List, [], ◌∷◌, ◌++◌, length, take, drop, refl, sym, ap, ◌∙◌, arith, pos, negsuc}
use Rattle.std.specs.Prelude.{Result, Ok, Option, Some, None, is_none, take_while, codes, if◌then◌else◌, All}
use Rattle.std.specs.List.{starts_with, list_all, cons_option}
use Rattle.std.specs.Str.{IsAscii}
use Rattle.std.specs.Fmt.{decimal}
use Rattle.std.proofs.Math.Seq.{take-append_seam, drop-append_seam}
use Rattle.std.proofs.lemmas.List.{drop-drop, length-append}
use Rattle.std.proofs.lemmas.List.Elements.{All-head, All-tail}
use Rattle.std.proofs.lemmas.Bool.Decides.{nat_tests}
use Rattle.std.proofs.lemmas.Fmt.{IsAscii-decimal}
use Rattle.std.proofs.lemmas.Str.{IsAscii-append, IsUtf8-from_ascii}
use Rattle.std.proofs.lemmas.Str.Ascii.{IsAscii-nil, IsAscii-cons}
use Rattle.bs_num.specs.Decimal.{is_digit, is_plain, number_in}
use Rattle.bs_num.proofs.RoundTrip.{number_read, is_plain-decimal}
use Rattle.bs_tree.specs.Symbol.{Symbol, name, number, word, mark}
use Rattle.bs_tree.specs.declared.symbols.Word.{Word}
use Rattle.bs_tree.specs.declared.symbols.Word.TheVariants.{Chares, Var, Entry, Body, Serial, When, Overlap, For, While, If, Else, Send, To, Bytes, Work, Emit, Repeat, This}
use Rattle.bs_tree.specs.declared.symbols.Mark.{Mark}
use Rattle.bs_tree.specs.declared.symbols.Mark.TheVariants.{BraceLeft, BraceRight, ParenLeft, ParenRight, BracketLeft, BracketRight, Semicolon, Comma, Assign, Equal, NotEqual, Less, LessEqual, Greater, GreaterEqual, Plus, Minus, Star, Slash, Percent, Not, And, Or}
use Rattle.bs_lex.specs.declared.token.Token.{Token}
use Rattle.bs_lex.specs.declared.token.TokenKind.{TokenKind}
use Rattle.bs_lex.specs.declared.token.TokenKind.TheVariants as kind
use Rattle.bs_lex.specs.declared.token.LexFault.{LexFault}
use Rattle.bs_lex.specs.declared.piece.Piece.{Piece}
use Rattle.bs_lex.specs.declared.piece.Piece.TheVariants.{Token as A_Token}
use Rattle.bs_lex.specs.Spelling.{is_blank, is_letter, is_name_byte, word_named, word_text, mark_text}
use Rattle.bs_lex.specs.Lexed.{piece_of, kind_of_name, name_piece, number_piece, go_on, token_at, with_token, tokens_from}
use Rattle.bs_lex.specs.Symbols.{symbol_as, symbols, symbol_text, text_at, is_name, IsSymbol}
use Rattle.bs_lex.specs.Written.{blank_before, written, WrittenIsRead}
use Rattle.bs_lex.proofs.Spelled.{run_first, run_none}
use Rattle.bs_lex.proofs.Steps.{tokens_from-piece, lexed-IsUtf8}

-- what holds before a space and before LF holds before what stands behind a symbol
by_blank : (P : ℕ → Type 0) → P 32 → P 10 → (next : List Symbol) → P (blank_before next)
by_blank P space line_end [] = line_end
by_blank P space line_end (symbol ∷ rest) = space

-- a run ends at a byte that does not pass
run_stops : (test : ℕ → Bool) (run : List ℕ) (byte : ℕ) (rest : List ℕ) → list_all test run ≡ true → test byte ≡ false → take_while test (run ++ byte ∷ rest) ≡ run
run_stops test [] byte rest all stops = run_none test byte rest stops
run_stops test (first ∷ more) byte rest all stops =
    let passes = first_of_two (test first) (list_all test more) all in
    run_first test first (more ++ byte ∷ rest) passes.0 ∙ ap (λ run. first ∷ run) (run_stops test more byte rest passes.1 stops)
  where
    first_of_two : (a b : Bool) → (a && b) ≡ true → (a ≡ true) × (b ≡ true)
    first_of_two true b both = (refl, both)
    first_of_two false b both = absurd (cc)

all_parts : (a b c : Bool) → (a && b && c) ≡ true → (a ≡ true) × (b ≡ true) × (c ≡ true)
all_parts true true true all = (refl, refl, refl)
all_parts true true false all = absurd (cc)
all_parts true false c all = absurd (cc)
all_parts false b c all = absurd (cc)

name_kind : (text : List ℕ) (found : Option Word) → word_named text ≡ found → is_none found ≡ true → kind_of_name found ≡ kind.Name
name_kind text None is none = refl
name_kind text (Some w) is none = absurd (cc)

-- the third and the fourth of some choices
third_of : {A : Type 0} (a b c : Bool) (u v w x : A) → a ≡ false → b ≡ false → c ≡ true → (if a then u else (if b then v else (if c then w else x))) ≡ w
third_of a b c u v w x first second third = rw first (rw second (rw third refl))

fourth_of : {A : Type 0} (a b c d : Bool) (u v w x y : A) → a ≡ false → b ≡ false → c ≡ false → d ≡ true → (if a then u else (if b then v else (if c then w else (if d then x else y)))) ≡ x
fourth_of a b c d u v w x y first second third fourth = rw first (rw second (rw third (rw fourth refl)))

no_comment : (first : ℕ) (rest : List ℕ) → nat_eq 47 first ≡ false → starts_with nat_eq (first ∷ rest) (codes "//") ≡ false
no_comment first rest no_slash = rw no_slash refl

-- a letter begins a name or a word, and no blank and no comment
letters_piece : (first : ℕ) (more : List ℕ) (byte : ℕ) (rest : List ℕ) → is_letter first ≡ true → list_all is_name_byte (first ∷ more) ≡ true → is_name_byte byte ≡ false
    → piece_of ((first ∷ more) ++ byte ∷ rest) ≡ name_piece (first ∷ more)
letters_piece first more byte rest letter all stops =
    let no_blank : is_blank first ≡ false = grind (arith, nat_tests) in
    let no_slash : nat_eq 47 first ≡ false = grind (arith, nat_tests) in
    let left = more ++ byte ∷ rest in
    let bytes = first ∷ left in
    let here : piece_of bytes ≡ name_piece (take_while is_name_byte bytes) =
    third_of (is_blank first) (starts_with nat_eq bytes (codes "//")) (is_letter first) _ _ _ _ no_blank (no_comment first left no_slash) letter in
    here ∙ ap name_piece (run_stops is_name_byte (first ∷ more) byte rest all stops)

named_piece : (text : List ℕ) (byte : ℕ) (rest : List ℕ) → is_name text ≡ true → is_name_byte byte ≡ false → piece_of (text ++ byte ∷ rest) ≡ A_Token kind.Name (length text)
named_piece [] byte rest is stops = absurd (cc)
named_piece (first ∷ more) byte rest is stops =
    let text = first ∷ more in
    let parts = all_parts (is_letter first) (list_all is_name_byte text) (is_none (word_named text)) is in
    letters_piece first more byte rest parts.0 parts.1 stops ∙ ap (λ k. A_Token k (length text)) (name_kind text (word_named text) refl parts.2)

-- ---- numbers

plain_digits : (text : List ℕ) → is_plain text ≡ true → list_all is_digit text ≡ true
plain_digits [] plain = refl
plain_digits (digit ∷ []) plain = rw plain refl
plain_digits (digit ∷ next ∷ rest) plain = second (not (digit == 48)) (list_all is_digit (digit ∷ next ∷ rest)) plain
  where
    second : (a b : Bool) → (a && b) ≡ true → b ≡ true
    second true b both = both
    second false b both = absurd (cc)

digits_piece : (text : List ℕ) (n : ℕ) (byte : ℕ) (rest : List ℕ) → is_plain text ≡ true → number_in (2 ^ 63 - 1) text ≡ Ok n → is_digit byte ≡ false
    → piece_of (text ++ byte ∷ rest) ≡ A_Token (kind.Number (pos n)) (length text)
digits_piece [] n byte rest plain is stops = absurd (cc)
digits_piece (first ∷ more) n byte rest plain is stops =
    let text = first ∷ more in
    let all = plain_digits text plain in
    let digit : is_digit first ≡ true = grind (arith, nat_tests, all) in
    let no_blank : is_blank first ≡ false = grind (arith, nat_tests) in
    let no_slash : nat_eq 47 first ≡ false = grind (arith, nat_tests) in
    let no_letter : is_letter first ≡ false = grind (arith, nat_tests) in
    let run = run_stops is_digit text byte rest all stops in
    let left = more ++ byte ∷ rest in
    let bytes = first ∷ left in
    let as_number : List ℕ → Piece = λ digits. number_piece (number_in (2 ^ 63 - 1) digits) (length digits) in
    let here : piece_of bytes ≡ as_number (take_while is_digit bytes) =
    fourth_of (is_blank first) (starts_with nat_eq bytes (codes "//")) (is_letter first) (is_digit first) _ _ _ _ _ no_blank (no_comment first left no_slash) no_letter digit in
    here ∙ ap as_number run ∙ ap (λ r. number_piece r (length text)) is

-- ---- words and marks

word_piece : (w : Word) (next : List Symbol) (rest : List ℕ) → piece_of (word_text w ++ blank_before next ∷ rest) ≡ A_Token (kind.Word w) (length (word_text w))
word_piece Chares next rest = by_blank (λ b. piece_of (word_text Chares ++ b ∷ rest) ≡ A_Token (kind.Word Chares) (length (word_text Chares))) refl refl next
word_piece Var next rest = by_blank (λ b. piece_of (word_text Var ++ b ∷ rest) ≡ A_Token (kind.Word Var) (length (word_text Var))) refl refl next
word_piece Entry next rest = by_blank (λ b. piece_of (word_text Entry ++ b ∷ rest) ≡ A_Token (kind.Word Entry) (length (word_text Entry))) refl refl next
word_piece Body next rest = by_blank (λ b. piece_of (word_text Body ++ b ∷ rest) ≡ A_Token (kind.Word Body) (length (word_text Body))) refl refl next
word_piece Serial next rest = by_blank (λ b. piece_of (word_text Serial ++ b ∷ rest) ≡ A_Token (kind.Word Serial) (length (word_text Serial))) refl refl next
word_piece When next rest = by_blank (λ b. piece_of (word_text When ++ b ∷ rest) ≡ A_Token (kind.Word When) (length (word_text When))) refl refl next
word_piece Overlap next rest = by_blank (λ b. piece_of (word_text Overlap ++ b ∷ rest) ≡ A_Token (kind.Word Overlap) (length (word_text Overlap))) refl refl next
word_piece For next rest = by_blank (λ b. piece_of (word_text For ++ b ∷ rest) ≡ A_Token (kind.Word For) (length (word_text For))) refl refl next
word_piece While next rest = by_blank (λ b. piece_of (word_text While ++ b ∷ rest) ≡ A_Token (kind.Word While) (length (word_text While))) refl refl next
word_piece If next rest = by_blank (λ b. piece_of (word_text If ++ b ∷ rest) ≡ A_Token (kind.Word If) (length (word_text If))) refl refl next
word_piece Else next rest = by_blank (λ b. piece_of (word_text Else ++ b ∷ rest) ≡ A_Token (kind.Word Else) (length (word_text Else))) refl refl next
word_piece Send next rest = by_blank (λ b. piece_of (word_text Send ++ b ∷ rest) ≡ A_Token (kind.Word Send) (length (word_text Send))) refl refl next
word_piece To next rest = by_blank (λ b. piece_of (word_text To ++ b ∷ rest) ≡ A_Token (kind.Word To) (length (word_text To))) refl refl next
word_piece Bytes next rest = by_blank (λ b. piece_of (word_text Bytes ++ b ∷ rest) ≡ A_Token (kind.Word Bytes) (length (word_text Bytes))) refl refl next
word_piece Work next rest = by_blank (λ b. piece_of (word_text Work ++ b ∷ rest) ≡ A_Token (kind.Word Work) (length (word_text Work))) refl refl next
word_piece Emit next rest = by_blank (λ b. piece_of (word_text Emit ++ b ∷ rest) ≡ A_Token (kind.Word Emit) (length (word_text Emit))) refl refl next
word_piece Repeat next rest = by_blank (λ b. piece_of (word_text Repeat ++ b ∷ rest) ≡ A_Token (kind.Word Repeat) (length (word_text Repeat))) refl refl next
word_piece This next rest = by_blank (λ b. piece_of (word_text This ++ b ∷ rest) ≡ A_Token (kind.Word This) (length (word_text This))) refl refl next

mark_piece_of : (m : Mark) (next : List Symbol) (rest : List ℕ) → piece_of (mark_text m ++ blank_before next ∷ rest) ≡ A_Token (kind.Mark m) (length (mark_text m))
mark_piece_of BraceLeft next rest = by_blank (λ b. piece_of (mark_text BraceLeft ++ b ∷ rest) ≡ A_Token (kind.Mark BraceLeft) (length (mark_text BraceLeft))) refl refl next
mark_piece_of BraceRight next rest = by_blank (λ b. piece_of (mark_text BraceRight ++ b ∷ rest) ≡ A_Token (kind.Mark BraceRight) (length (mark_text BraceRight))) refl refl next
mark_piece_of ParenLeft next rest = by_blank (λ b. piece_of (mark_text ParenLeft ++ b ∷ rest) ≡ A_Token (kind.Mark ParenLeft) (length (mark_text ParenLeft))) refl refl next
mark_piece_of ParenRight next rest = by_blank (λ b. piece_of (mark_text ParenRight ++ b ∷ rest) ≡ A_Token (kind.Mark ParenRight) (length (mark_text ParenRight))) refl refl next
mark_piece_of BracketLeft next rest = by_blank (λ b. piece_of (mark_text BracketLeft ++ b ∷ rest) ≡ A_Token (kind.Mark BracketLeft) (length (mark_text BracketLeft))) refl refl next
mark_piece_of BracketRight next rest = by_blank (λ b. piece_of (mark_text BracketRight ++ b ∷ rest) ≡ A_Token (kind.Mark BracketRight) (length (mark_text BracketRight))) refl refl next
mark_piece_of Semicolon next rest = by_blank (λ b. piece_of (mark_text Semicolon ++ b ∷ rest) ≡ A_Token (kind.Mark Semicolon) (length (mark_text Semicolon))) refl refl next
mark_piece_of Comma next rest = by_blank (λ b. piece_of (mark_text Comma ++ b ∷ rest) ≡ A_Token (kind.Mark Comma) (length (mark_text Comma))) refl refl next
mark_piece_of Assign next rest = by_blank (λ b. piece_of (mark_text Assign ++ b ∷ rest) ≡ A_Token (kind.Mark Assign) (length (mark_text Assign))) refl refl next
mark_piece_of Equal next rest = by_blank (λ b. piece_of (mark_text Equal ++ b ∷ rest) ≡ A_Token (kind.Mark Equal) (length (mark_text Equal))) refl refl next
mark_piece_of NotEqual next rest = by_blank (λ b. piece_of (mark_text NotEqual ++ b ∷ rest) ≡ A_Token (kind.Mark NotEqual) (length (mark_text NotEqual))) refl refl next
mark_piece_of Less next rest = by_blank (λ b. piece_of (mark_text Less ++ b ∷ rest) ≡ A_Token (kind.Mark Less) (length (mark_text Less))) refl refl next
mark_piece_of LessEqual next rest = by_blank (λ b. piece_of (mark_text LessEqual ++ b ∷ rest) ≡ A_Token (kind.Mark LessEqual) (length (mark_text LessEqual))) refl refl next
mark_piece_of Greater next rest = by_blank (λ b. piece_of (mark_text Greater ++ b ∷ rest) ≡ A_Token (kind.Mark Greater) (length (mark_text Greater))) refl refl next
mark_piece_of GreaterEqual next rest = by_blank (λ b. piece_of (mark_text GreaterEqual ++ b ∷ rest) ≡ A_Token (kind.Mark GreaterEqual) (length (mark_text GreaterEqual))) refl refl next
mark_piece_of Plus next rest = by_blank (λ b. piece_of (mark_text Plus ++ b ∷ rest) ≡ A_Token (kind.Mark Plus) (length (mark_text Plus))) refl refl next
mark_piece_of Minus next rest = by_blank (λ b. piece_of (mark_text Minus ++ b ∷ rest) ≡ A_Token (kind.Mark Minus) (length (mark_text Minus))) refl refl next
mark_piece_of Star next rest = by_blank (λ b. piece_of (mark_text Star ++ b ∷ rest) ≡ A_Token (kind.Mark Star) (length (mark_text Star))) refl refl next
mark_piece_of Slash next rest = by_blank (λ b. piece_of (mark_text Slash ++ b ∷ rest) ≡ A_Token (kind.Mark Slash) (length (mark_text Slash))) refl refl next
mark_piece_of Percent next rest = by_blank (λ b. piece_of (mark_text Percent ++ b ∷ rest) ≡ A_Token (kind.Mark Percent) (length (mark_text Percent))) refl refl next
mark_piece_of Not next rest = by_blank (λ b. piece_of (mark_text Not ++ b ∷ rest) ≡ A_Token (kind.Mark Not) (length (mark_text Not))) refl refl next
mark_piece_of And next rest = by_blank (λ b. piece_of (mark_text And ++ b ∷ rest) ≡ A_Token (kind.Mark And) (length (mark_text And))) refl refl next
mark_piece_of Or next rest = by_blank (λ b. piece_of (mark_text Or ++ b ∷ rest) ≡ A_Token (kind.Mark Or) (length (mark_text Or))) refl refl next

-- ---- all symbols

kind_of : Symbol → TokenKind
kind_of (name text) = kind.Name
kind_of (number n) = kind.Number n
kind_of (word w) = kind.Word w
kind_of (mark m) = kind.Mark m

symbol_piece : (symbol : Symbol) (next : List Symbol) (rest : List ℕ) → IsSymbol symbol → piece_of (symbol_text symbol ++ blank_before next ∷ rest) ≡ A_Token (kind_of symbol) (length (symbol_text symbol))
unfolding kind_of
symbol_piece (name text) next rest is = by_blank (λ b. piece_of (text ++ b ∷ rest) ≡ A_Token kind.Name (length text)) (named_piece text 32 rest is refl) (named_piece text 10 rest is refl) next
symbol_piece (number (pos n)) next rest is =
    let plain = is_plain-decimal n (omega arith) in
    let read = number_read (2 ^ 63 - 1) n (omega arith) (omega arith) in
    by_blank (λ b. piece_of (decimal n ++ b ∷ rest) ≡ A_Token (kind.Number (pos n)) (length (decimal n)))
    (digits_piece (decimal n) n 32 rest plain read refl) (digits_piece (decimal n) n 10 rest plain read refl) next
symbol_piece (number (negsuc n)) next rest is = absurd is
symbol_piece (word w) next rest is = word_piece w next rest
symbol_piece (mark m) next rest is = mark_piece_of m next rest

-- the tokens of symbols that are written from a place on
tokens_of : ℕ → List Symbol → List Token
tokens_of place [] = token_at kind.End place 0 ∷ []
tokens_of place (symbol ∷ rest) = token_at (kind_of symbol) place (length (symbol_text symbol)) ∷ tokens_of (place + length (symbol_text symbol) + 1) rest

-- behind a symbol stands one blank
blank_passed : (place : ℕ) (next : List Symbol) (rest : List ℕ) → tokens_from place 0 (blank_before next ∷ rest) ≡ tokens_from (place + 1) 0 rest
blank_passed place next rest = by_blank (λ b. tokens_from place 0 (b ∷ rest) ≡ tokens_from (place + 1) 0 rest)
    (tokens_from-piece place (32 ∷ rest) (omega arith)) (tokens_from-piece place (10 ∷ rest) (omega arith)) next

symbol_passed : (place : ℕ) (symbol : Symbol) (next : List Symbol) (rest : List ℕ) → IsSymbol symbol
    → tokens_from place 0 (symbol_text symbol ++ blank_before next ∷ rest) ≡ with_token (token_at (kind_of symbol) place (length (symbol_text symbol))) (tokens_from (place + length (symbol_text symbol) + 1) 0 rest)
symbol_passed place symbol next rest is =
    let text = symbol_text symbol in
    let n = length text in
    let bytes = text ++ blank_before next ∷ rest in
    let some : 0 < length bytes = omega (arith, length-append text (blank_before next ∷ rest)) in
    let behind : ℕ → Result (List Token) LexFault = λ k. tokens_from (place + k) 0 (drop k bytes) in
    tokens_from-piece place bytes some
    ∙ ap (λ piece. go_on place piece behind) (symbol_piece symbol next rest is)
    ∙ ap (λ left. with_token (token_at (kind_of symbol) place n) (tokens_from (place + n) 0 left)) (drop-append_seam text (blank_before next ∷ rest))
    ∙ ap (with_token (token_at (kind_of symbol) place n)) (blank_passed (place + n) next rest)

written_read : (place : ℕ) (said : List Symbol) → All IsSymbol said → tokens_from place 0 (written said) ≡ Ok (tokens_of place said)
unfolding tokens_from tokens_of
written_read place [] all = refl
written_read place (symbol ∷ rest) all =
    symbol_passed place symbol rest (written rest) (All-head IsSymbol symbol rest all)
    ∙ ap (with_token (token_at (kind_of symbol) place (length (symbol_text symbol)))) (written_read (place + length (symbol_text symbol) + 1) rest (All-tail IsSymbol symbol rest all))

symbol_same : (symbol : Symbol) → symbol_as (kind_of symbol) (symbol_text symbol) ≡ Some symbol
unfolding kind_of
symbol_same (name text) = refl
symbol_same (number n) = refl
symbol_same (word w) = refl
symbol_same (mark m) = refl

written_said : (text : List ℕ) (place : ℕ) (said : List Symbol) → drop place text ≡ written said → symbols text (tokens_of place said) ≡ said
unfolding tokens_of
written_said text place [] here = refl
written_said text place (symbol ∷ rest) here =
    let bytes = symbol_text symbol in
    let n = length bytes in
    let tail = blank_before rest ∷ written rest in
    let size : place + n - place ≡ n = omega arith in
    let sliced : text_at text (token_at (kind_of symbol) place n) ≡ bytes =
    ap (λ k. take k (drop place text)) size ∙ ap (take n) here ∙ take-append_seam bytes tail in
    let behind : drop (place + n + 1) text ≡ written rest =
    sym (drop-drop 1 (place + n) text) ∙ ap (drop 1) (sym (drop-drop n place text) ∙ ap (drop n) here ∙ drop-append_seam bytes tail) in
    ap (λ o. cons_option o (symbols text (tokens_of (place + n + 1) rest))) (ap (symbol_as (kind_of symbol)) sliced ∙ symbol_same symbol)
    ∙ ap (λ ss. symbol ∷ ss) (written_said text (place + n + 1) rest behind)

-- ---- what is written is ASCII

below_128 : (bytes : List ℕ) → list_all (λ b. nat_lt b 128) bytes ≡ true → IsAscii bytes
below_128 [] all = IsAscii-nil
below_128 (byte ∷ rest) all = by_head (nat_lt byte 128) refl all (below_128 rest)
  where
    by_head : (b : Bool) → nat_lt byte 128 ≡ b → (b && list_all (λ b. nat_lt b 128) rest) ≡ true → (list_all (λ b. nat_lt b 128) rest ≡ true → IsAscii rest) → IsAscii (byte ∷ rest)
    by_head true small both more = IsAscii-cons byte rest (grind (arith, nat_tests)) (more both)
    by_head false large both more = absurd (cc)

name_below : (byte : ℕ) → is_name_byte byte ≡ true → byte < 128
name_below byte is = grind (arith, nat_tests)

names_below : (bytes : List ℕ) → list_all is_name_byte bytes ≡ true → IsAscii bytes
names_below [] all = IsAscii-nil
names_below (byte ∷ rest) all = by_head (is_name_byte byte) refl all (names_below rest)
  where
    by_head : (b : Bool) → is_name_byte byte ≡ b → (b && list_all is_name_byte rest) ≡ true → (list_all is_name_byte rest ≡ true → IsAscii rest) → IsAscii (byte ∷ rest)
    by_head true passes both more = IsAscii-cons byte rest (name_below byte passes) (more both)
    by_head false fails both more = absurd (cc)

name_ascii : (text : List ℕ) → is_name text ≡ true → IsAscii text
name_ascii [] is = absurd (cc)
name_ascii (first ∷ more) is =
    let text = first ∷ more in
    names_below text (all_parts (is_letter first) (list_all is_name_byte text) (is_none (word_named text)) is).1

word_ascii : (w : Word) → list_all (λ b. nat_lt b 128) (word_text w) ≡ true
word_ascii Chares = refl
word_ascii Var = refl
word_ascii Entry = refl
word_ascii Body = refl
word_ascii Serial = refl
word_ascii When = refl
word_ascii Overlap = refl
word_ascii For = refl
word_ascii While = refl
word_ascii If = refl
word_ascii Else = refl
word_ascii Send = refl
word_ascii To = refl
word_ascii Bytes = refl
word_ascii Work = refl
word_ascii Emit = refl
word_ascii Repeat = refl
word_ascii This = refl

mark_ascii : (m : Mark) → list_all (λ b. nat_lt b 128) (mark_text m) ≡ true
mark_ascii BraceLeft = refl
mark_ascii BraceRight = refl
mark_ascii ParenLeft = refl
mark_ascii ParenRight = refl
mark_ascii BracketLeft = refl
mark_ascii BracketRight = refl
mark_ascii Semicolon = refl
mark_ascii Comma = refl
mark_ascii Assign = refl
mark_ascii Equal = refl
mark_ascii NotEqual = refl
mark_ascii Less = refl
mark_ascii LessEqual = refl
mark_ascii Greater = refl
mark_ascii GreaterEqual = refl
mark_ascii Plus = refl
mark_ascii Minus = refl
mark_ascii Star = refl
mark_ascii Slash = refl
mark_ascii Percent = refl
mark_ascii Not = refl
mark_ascii And = refl
mark_ascii Or = refl

symbol_ascii : (symbol : Symbol) → IsSymbol symbol → IsAscii (symbol_text symbol)
symbol_ascii (name text) is = name_ascii text is
symbol_ascii (number (pos n)) is = IsAscii-decimal n (omega arith)
symbol_ascii (number (negsuc n)) is = absurd is
symbol_ascii (word w) is = below_128 (word_text w) (word_ascii w)
symbol_ascii (mark m) is = below_128 (mark_text m) (mark_ascii m)

written_ascii : (said : List Symbol) → All IsSymbol said → IsAscii (written said)
written_ascii [] all = IsAscii-nil
written_ascii (symbol ∷ rest) all =
    let more = written_ascii rest (All-tail IsSymbol symbol rest all) in
    let small : blank_before rest < 128 = by_blank (λ b. b < 128) (omega arith) (omega arith) rest in
    IsAscii-append (symbol_text symbol) (blank_before rest ∷ written rest) (symbol_ascii symbol (All-head IsSymbol symbol rest all)) (IsAscii-cons (blank_before rest) (written rest) small more)

pub written_is_read : WrittenIsRead
written_is_read said all =
    let text = written said in
    (tokens_of 0 said, (lexed-IsUtf8 text (IsUtf8-from_ascii text (written_ascii said all)) ∙ written_read 0 said all, written_said text 0 said refl))
