-- Reading goes from piece to piece.
use Rattle.std.proofs.Common.{◌≡◌, ℕ, zero, suc, ◌+◌, ◌-◌, ◌≤◌, ◌<◌, List, [], ◌∷◌, ◌++◌, length, take, drop, length-drop, refl, sym, ap, ◌∙◌, subst, arith, append_assoc}
use Rattle.std.specs.Prelude.{Result, Ok, Err, Bool, true, false}
use Rattle.std.specs.Str.{IsUtf8, is_utf8}
use Rattle.std.specs.Str.Lossy.{utf8_valid_len}
use Rattle.std.proofs.lemmas.Str.{IsUtf8-from_is_utf8, is_utf8-from_IsUtf8}
use Rattle.std.proofs.lemmas.List.{take_rest, drop-drop}
use Rattle.std.proofs.Math.ListN.{drop_of_length-le}
use Rattle.bs_lex.specs.declared.token.Token.{Token}
use Rattle.bs_lex.specs.declared.token.LexFault.{LexFault}
use Rattle.bs_lex.specs.declared.token.LexFault.TheVariants as fault
use Rattle.bs_lex.specs.declared.token.TokenKind.TheVariants as kind
use Rattle.bs_lex.specs.declared.piece.Piece.{Piece}
use Rattle.bs_lex.specs.declared.piece.Piece.TheVariants.{Gap, Token as A_Token, BadNumber, BadCharacter}
use Rattle.bs_lex.specs.Lexed.{piece_of, go_on, token_at, with_token, tokens_from, lexed}
use Rattle.bs_lex.proofs.Pieces.{IsWithin, piece_within}

-- bytes of what stands before them are passed over
pub tokens_from-skip : (place within : ℕ) (bytes : List ℕ) → within ≤ length bytes → tokens_from place within bytes ≡ tokens_from (place + within) 0 (drop within bytes)
unfolding tokens_from
tokens_from-skip place zero bytes fits = let same : place ≡ place + 0 = omega arith in ap (λ p. tokens_from p 0 bytes) same
tokens_from-skip place (suc within) [] fits = absurd (omega arith)
tokens_from-skip place (suc within) (byte ∷ rest) fits =
    let same : place + 1 + within ≡ place + suc within = omega arith in
    tokens_from-skip (place + 1) within rest (omega arith) ∙ ap (λ p. tokens_from p 0 (drop within rest)) same

-- behind a piece stands what stands behind so many bytes
behind : (place length' byte : ℕ) (rest : List ℕ) → 1 ≤ length' → length' ≤ length (byte ∷ rest)
    → tokens_from (place + 1) (length' - 1) rest ≡ tokens_from (place + length') 0 (drop length' (byte ∷ rest))
behind place zero byte rest some fits = absurd (omega arith)
behind place (suc n) byte rest some fits =
    let less : suc n - 1 ≡ n = omega arith in
    let same : place + 1 + n ≡ place + suc n = omega arith in
    ap (λ k. tokens_from (place + 1) k rest) less ∙ tokens_from-skip (place + 1) n rest (omega arith) ∙ ap (λ p. tokens_from p 0 (drop n rest)) same

by_piece : (place byte : ℕ) (rest : List ℕ) (piece : Piece) → IsWithin piece (length (byte ∷ rest))
    → go_on place piece (λ n. tokens_from (place + 1) (n - 1) rest) ≡ go_on place piece (λ n. tokens_from (place + n) 0 (drop n (byte ∷ rest)))
by_piece place byte rest (Gap n) within = behind place n byte rest within.0 within.1
by_piece place byte rest (A_Token kind n) within = ap (with_token (token_at kind place n)) (behind place n byte rest within.0 within.1)
by_piece place byte rest BadNumber within = refl
by_piece place byte rest BadCharacter within = refl

-- the tokens of some bytes are the first piece and the tokens behind it
pub tokens_from-piece : (place : ℕ) (bytes : List ℕ) → 0 < length bytes
    → tokens_from place 0 bytes ≡ go_on place (piece_of bytes) (λ n. tokens_from (place + n) 0 (drop n bytes))
unfolding tokens_from
tokens_from-piece place [] some = absurd (omega arith)
tokens_from-piece place (byte ∷ rest) some = by_piece place byte rest (piece_of (byte ∷ rest)) (piece_within (byte ∷ rest))

go_on-same : (place : ℕ) (piece : Piece) (f g : ℕ → Result (List Token) LexFault) → ((n : ℕ) → f n ≡ g n) → go_on place piece f ≡ go_on place piece g
go_on-same place (Gap n) f g same = same n
go_on-same place (A_Token kind n) f g same = ap (with_token (token_at kind place n)) (same n)
go_on-same place BadNumber f g same = refl
go_on-same place BadCharacter f g same = refl

-- the piece at a place of a text: it ends in the text, and is followed by the tokens behind it
pub record IsStep (text : List ℕ) (at : ℕ) (piece : Piece) : Type 0 where
  pub within : IsWithin piece (length text - at)
  pub tokens : tokens_from at 0 (drop at text) ≡ go_on at piece (λ n. tokens_from (at + n) 0 (drop (at + n) text))

pub step : (text : List ℕ) (at : ℕ) (piece : Piece) → at < length text → piece ≡ piece_of (take (length text - at) (drop at text)) → IsStep text at piece
step text at piece inside is =
    let here : piece_of (drop at text) ≡ piece = sym (is ∙ ap piece_of (take_rest text at)) in
    let size = length-drop at text in
    let some : 0 < length (drop at text) = omega (arith, size) in
    let behind_it : ℕ → ℕ → Result (List Token) LexFault = λ place n. tokens_from (place + n) 0 (drop n (drop place text)) in
    record {
      within = subst (λ p. IsWithin p (length text - at)) here (subst (λ n. IsWithin (piece_of (drop at text)) n) size (piece_within (drop at text)));
      tokens = tokens_from-piece at (drop at text) some
          ∙ ap (λ p. go_on at p (behind_it at)) here
          ∙ go_on-same at piece (behind_it at) (λ n. tokens_from (at + n) 0 (drop (at + n) text)) (λ n. ap (tokens_from (at + n) 0) (drop-drop n at text));
    }

-- ---- the tokens that were found so far, and those of the rest

abbrev pub after : List Token → Result (List Token) LexFault → Result (List Token) LexFault
after done (Ok tokens) = Ok (done ++ tokens)
after done (Err fault) = Err fault

after-with_token : (done : List Token) (token : Token) (found : Result (List Token) LexFault) → after done (with_token token found) ≡ after (done ++ token ∷ []) found
after-with_token done token (Ok tokens) = ap Ok (sym (append_assoc done (token ∷ []) tokens))
after-with_token done token (Err fault) = refl

-- behind all bytes there is only the end
pub ended : (text : List ℕ) (at : ℕ) → length text ≤ at → tokens_from at 0 (drop at text) ≡ Ok (token_at kind.End at 0 ∷ [])
unfolding tokens_from
ended text at all = rw (drop_of_length-le text all) refl

-- a token that is put behind those that were found
pub after_push : (done done' : List Token) (token pushed : Token) (here rest whole : Result (List Token) LexFault)
    → done' ≡ done ++ pushed ∷ [] → pushed ≡ token → here ≡ with_token token rest → after done here ≡ whole → after done' rest ≡ whole
after_push done done' token pushed here rest whole longer same front so_far =
    ap (λ d. after d rest) (longer ∙ ap (λ t. done ++ t ∷ []) same) ∙ sym (after-with_token done token rest) ∙ ap (after done) (sym front) ∙ so_far

-- ---- whole texts

pub lexed-IsUtf8 : (text : List ℕ) → IsUtf8 text → lexed text ≡ tokens_from 0 0 text
unfolding lexed
lexed-IsUtf8 text valid = rw (is_utf8-from_IsUtf8 text valid) refl

not_utf8 : (text : List ℕ) → ¬ (IsUtf8 text) → (b : Bool) → is_utf8 text ≡ b → b ≡ false
not_utf8 text invalid true is = absurd (invalid (IsUtf8-from_is_utf8 text is))
not_utf8 text invalid false is = refl

pub lexed-not_utf8 : (text : List ℕ) → ¬ (IsUtf8 text) → lexed text ≡ Err (fault.NotUtf8 (utf8_valid_len text))
unfolding lexed
lexed-not_utf8 text invalid = rw (not_utf8 text invalid (is_utf8 text) refl) refl
