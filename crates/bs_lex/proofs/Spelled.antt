-- The bytes of a piece are those of its symbol.
use Rattle.std.proofs.Common.{◌≡◌, ◌≢◌, ℕ, ◌+◌, ◌-◌, ◌^◌, ◌≤◌, Bool, true, false, ◌&&◌, cond, nat_eq, List, [], ◌∷◌, length, take, drop, refl, sym, subst, ap, ◌∙◌, arith, lit<}
use Rattle.std.specs.Prelude.{Result, Ok, Err, Option, Some, None, IfOk, is_none, take_while, codes, All}
use Rattle.std.specs.List.{starts_with, list_all}
use Rattle.std.specs.Str.{bytes_eq}
use Rattle.std.specs.Fmt.{decimal}
use Rattle.std.proofs.Math.Seq.{take-append_seam}
use Rattle.std.proofs.lemmas.List.{drop-drop}
use Rattle.std.proofs.lemmas.List.Folds.{length-prefix_len}
use Rattle.std.proofs.lemmas.List.Sums.{take_while-cons}
use Rattle.std.proofs.lemmas.List.Elements.{All-nil, All-cons}
use Rattle.std.proofs.lemmas.Slice.Eq.{bytes_eq-Decides}
use Rattle.bs_num.specs.Decimal.{is_digit, number_in}
use Rattle.bs_num.specs.declared.fault.NumFault.{NumFault}
use Rattle.bs_num.proofs.RoundTrip.{number_printed, number_most}
use Rattle.bs_tree.specs.declared.symbols.Word.{Word}
use Rattle.bs_tree.specs.declared.symbols.Mark.{Mark}
use Rattle.bs_lex.specs.declared.token.Token.{Token}
use Rattle.bs_lex.specs.declared.token.TokenKind.{TokenKind}
use Rattle.bs_lex.specs.declared.token.TokenKind.TheVariants as kind
use Rattle.bs_lex.specs.declared.piece.Piece.{Piece}
use Rattle.bs_lex.specs.declared.piece.Piece.TheVariants.{Gap, Token as A_Token, BadNumber, BadCharacter}
use Rattle.bs_lex.specs.Spelling.{is_blank, is_letter, is_name_byte, word_named, words, word_text, mark_text, mark_at}
use Rattle.bs_lex.specs.Lexed.{piece_of, kind_of_name, name_piece, number_piece, mark_piece, token_at, tokens_from}
use Rattle.bs_lex.specs.Symbols.{IsSpelledAs, IsSpelled, is_name}
use Rattle.bs_lex.proofs.Pieces.{by_test, found_passes, mark_begins}
use Rattle.bs_lex.proofs.Induction.{Goes, tokens_hold}

-- a token is not the end, and its bytes are those of its symbol
abbrev pub IsSpelledPiece : List ℕ → Piece → Type 0
IsSpelledPiece bytes (Gap n) = Unit {0}
IsSpelledPiece bytes (A_Token kind' n) = (kind' ≢ kind.End) × IsSpelledAs kind' (take n bytes)
IsSpelledPiece bytes BadNumber = Unit {0}
IsSpelledPiece bytes BadCharacter = Unit {0}

-- the front that a run covers is the run
run_front : (test : ℕ → Bool) (bytes : List ℕ) → take (length (take_while test bytes)) bytes ≡ take_while test bytes
run_front test bytes = ap (λ n. take n bytes) (length-prefix_len test bytes)

-- a run, by its first byte
pub run_first : (test : ℕ → Bool) (byte : ℕ) (rest : List ℕ) → test byte ≡ true → take_while test (byte ∷ rest) ≡ byte ∷ take_while test rest
run_first test byte rest passes = take_while-cons test byte rest ∙ ap (λ b. cond b (byte ∷ take_while test rest) []) passes

pub run_none : (test : ℕ → Bool) (byte : ℕ) (rest : List ℕ) → test byte ≡ false → take_while test (byte ∷ rest) ≡ []
run_none test byte rest fails = take_while-cons test byte rest ∙ ap (λ b. cond b (byte ∷ take_while test rest) []) fails

-- each byte of a run passes
pub run_passes : (test : ℕ → Bool) (bytes : List ℕ) → list_all test (take_while test bytes) ≡ true
run_passes test [] = refl
run_passes test (byte ∷ rest) = by_head (test byte) refl (run_passes test rest)
  where
    by_head : (b : Bool) → test byte ≡ b → list_all test (take_while test rest) ≡ true → list_all test (take_while test (byte ∷ rest)) ≡ true
    by_head true passes more =
        let all : list_all test (byte ∷ take_while test rest) ≡ true = rw passes more in
        subst (λ run. list_all test run ≡ true) (sym (run_first test byte rest passes)) all
    by_head false fails more = ap (list_all test) (run_none test byte rest fails)

word_spelled : (text : List ℕ) (word : Word) → word_named text ≡ Some word → text ≡ word_text word
word_spelled text word found =
    let passes = found_passes (λ w. bytes_eq text (word_text w)) words word found in
    (bytes_eq-Decides text (word_text word)).0 passes

all_three : (a b c : Bool) → a ≡ true → b ≡ true → c ≡ true → (a && b && c) ≡ true
all_three a b c first second third = rw first (rw second (rw third refl))

name_spelled : (first : ℕ) (rest : List ℕ) (found : Option Word) → is_letter first ≡ true → list_all is_name_byte (first ∷ rest) ≡ true → word_named (first ∷ rest) ≡ found
    → (kind_of_name found ≢ kind.End) × IsSpelledAs (kind_of_name found) (first ∷ rest)
name_spelled first rest (Some word) letter all is = (λ bad. absurd (cc), (word_spelled (first ∷ rest) word is, tt))
name_spelled first rest None letter all is =
    let name : is_name (first ∷ rest) ≡ true = all_three (is_letter first) (list_all is_name_byte (first ∷ rest)) (is_none (word_named (first ∷ rest))) letter all (ap is_none is) in
    (λ bad. absurd (cc), (refl, name))

digits_spelled : (digits : List ℕ) (read : Result ℕ NumFault) → IfOk read (λ n. decimal n ≡ digits) → IfOk read (λ n. n ≤ 2 ^ 63 - 1) → (bytes : List ℕ) → take (length digits) bytes ≡ digits
    → IsSpelledPiece bytes (number_piece read (length digits))
digits_spelled digits (Ok n) printed most bytes front = (λ bad. absurd (cc), (front ∙ sym printed, omega arith))
digits_spelled digits (Err fault) printed most bytes front = tt

mark_spelled : (bytes : List ℕ) (found : Option Mark) → mark_at bytes ≡ found → IsSpelledPiece bytes (mark_piece found)
mark_spelled bytes None is = tt
mark_spelled bytes (Some mark) is =
    let text = mark_text mark in
    (λ bad. absurd (cc), (ap (take (length text)) (mark_begins bytes mark is) ∙ take-append_seam text (drop (length text) bytes), tt))

word_or_name : (first : ℕ) (rest : List ℕ) → is_letter first ≡ true → IsSpelledPiece (first ∷ rest) (name_piece (take_while is_name_byte (first ∷ rest)))
word_or_name first rest letter =
    let bytes = first ∷ rest in
    let name = take_while is_name_byte bytes in
    let begins : is_name_byte first ≡ true = rw letter refl in
    let is : name ≡ first ∷ take_while is_name_byte rest = run_first is_name_byte first rest begins in
    let all : list_all is_name_byte name ≡ true = run_passes is_name_byte bytes in
    let spelled = name_spelled first (take_while is_name_byte rest) (word_named name) letter (subst (λ t. list_all is_name_byte t ≡ true) is all) (ap word_named (sym is)) in
    (spelled.0, subst (IsSpelledAs (kind_of_name (word_named name))) (sym (run_front is_name_byte bytes ∙ is)) spelled.1)

pub piece_spelled : (bytes : List ℕ) → IsSpelledPiece bytes (piece_of bytes)
piece_spelled [] = tt
piece_spelled (first ∷ rest) =
    let bytes = first ∷ rest in
    let P : Piece → Type 0 = IsSpelledPiece bytes in
    let digits = take_while is_digit bytes in
    by_test P (is_blank first) _ _ (λ _. tt)
    (λ _. by_test P (starts_with nat_eq bytes (codes "//")) _ _ (λ _. tt)
    (λ _. by_test P (is_letter first) _ _ (word_or_name first rest)
    (λ _. by_test P (is_digit first) _ _
    (λ _. digits_spelled digits (number_in (2 ^ 63 - 1) digits) (number_printed (2 ^ 63 - 1) digits (lit< tt)) (number_most (2 ^ 63 - 1) digits) bytes (run_front is_digit bytes))
    (λ _. mark_spelled bytes (mark_at bytes) refl))))

-- ---- all tokens of a text

abbrev SpelledIn : List ℕ → ℕ → ℕ → List ℕ → List Token → Type 0
SpelledIn text place within bytes tokens = drop place text ≡ bytes → All (IsSpelled text) tokens

next_bytes : (text : List ℕ) (place byte : ℕ) (rest : List ℕ) → drop place text ≡ byte ∷ rest → drop (place + 1) text ≡ rest
next_bytes text place byte rest is = sym (drop-drop 1 place text) ∙ ap (drop 1) is

token_spelled : (text : List ℕ) (place n byte : ℕ) (rest : List ℕ) (kind' : TokenKind) → piece_of (byte ∷ rest) ≡ A_Token kind' n → drop place text ≡ byte ∷ rest → IsSpelled text (token_at kind' place n)
token_spelled text place n byte rest kind' is here =
    let spelled = subst (IsSpelledPiece (byte ∷ rest)) is (piece_spelled (byte ∷ rest)) in
    let size : place + n - place ≡ n = omega arith in
    subst (IsSpelledAs kind') (sym (ap (λ k. take k (drop place text)) size ∙ ap (take n) here)) spelled.1

spelled_goes : (text : List ℕ) → Goes (SpelledIn text)
spelled_goes text = record {
  last = λ place within here. All-cons (IsSpelled text) (token_at kind.End place 0) [] tt (All-nil (IsSpelled text));
  passed = λ place within byte rest tokens spelled here. spelled (next_bytes text place byte rest here);
  gap = λ place n byte rest tokens is spelled here. spelled (next_bytes text place byte rest here);
  token = λ place n byte rest tokens kind' is spelled here.
      All-cons (IsSpelled text) (token_at kind' place n) tokens (token_spelled text place n byte rest kind' is here) (spelled (next_bytes text place byte rest here));
}

pub tokens_spelled : (text : List ℕ) (tokens : List Token) → tokens_from 0 0 text ≡ Ok tokens → All (IsSpelled text) tokens
tokens_spelled text tokens found = tokens_hold (SpelledIn text) (spelled_goes text) 0 0 text tokens found refl
