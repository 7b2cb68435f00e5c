-- Where tokens stand.
use Rattle.std.proofs.Common.{◌≡◌, ◌≢◌, ℕ, suc, ◌+◌, ◌-◌, ◌≤◌, ◌<◌, List, [], ◌∷◌, length, refl, subst, arith}
use Rattle.std.specs.Prelude.{Ok}
use Rattle.bs_lex.specs.declared.token.Token.{Token}
use Rattle.bs_lex.specs.declared.token.TokenKind.{TokenKind}
use Rattle.bs_lex.specs.declared.token.TokenKind.TheVariants as kind
use Rattle.bs_lex.specs.declared.piece.Piece.{Piece}
use Rattle.bs_lex.specs.declared.piece.Piece.TheVariants.{Gap, Token as A_Token}
use Rattle.bs_lex.specs.Lexed.{piece_of, token_at, tokens_from}
use Rattle.bs_lex.specs.Symbols.{StandsFrom}
use Rattle.bs_lex.proofs.Pieces.{IsWithin, piece_within}
use Rattle.bs_lex.proofs.Spelled.{IsSpelledPiece, piece_spelled}
use Rattle.bs_lex.proofs.Induction.{Goes, tokens_hold}

-- tokens that stand from a place on stand from an earlier place on
earlier : (place' place end : ℕ) (tokens : List Token) → place' ≤ place → StandsFrom place end tokens → StandsFrom place' end tokens
earlier place' place end [] less stands = stands
earlier place' place end (token ∷ []) less stands = (stands.0, stands.1, stands.2, omega (arith, stands.3))
earlier place' place end (token ∷ next ∷ rest) less stands = (stands.0, omega (arith, stands.1), stands.2, stands.3)

-- a token before others
before : (place end : ℕ) (token : Token) (tokens : List Token) → token.kind ≢ kind.End → place ≤ token.from → token.from < token.to
    → StandsFrom token.to end tokens → StandsFrom place end (token ∷ tokens)
before place end token [] no_end behind some stands = absurd stands
before place end token (next ∷ rest) no_end behind some stands = (no_end, behind, some, stands)

abbrev Stands : ℕ → ℕ → List ℕ → List Token → Type 0
Stands place within bytes tokens = within ≤ length bytes → StandsFrom (place + within) (place + length bytes) tokens

-- the piece at some bytes, with its length
within_at : (bytes : List ℕ) (piece : Piece) → piece_of bytes ≡ piece → IsWithin piece (length bytes)
within_at bytes piece is = subst (λ p. IsWithin p (length bytes)) is (piece_within bytes)

-- no piece is the end
not_end : (bytes : List ℕ) (kind' : TokenKind) (n : ℕ) → piece_of bytes ≡ A_Token kind' n → kind' ≢ kind.End
not_end bytes kind' n is = (subst (IsSpelledPiece bytes) is (piece_spelled bytes)).0

stands_goes : Goes Stands
stands_goes = record {
  last = λ place within fits. (refl, omega arith, omega arith, omega arith);
  passed = λ place within byte rest tokens stands fits.
      let here : StandsFrom (place + 1 + within) (place + 1 + length rest) tokens = stands (omega arith) in
      let from : place + 1 + within ≡ place + suc within = omega arith in
      let to : place + 1 + length rest ≡ place + length (byte ∷ rest) = omega arith in
      subst (λ p. StandsFrom p (place + length (byte ∷ rest)) tokens) from (subst (λ e. StandsFrom (place + 1 + within) e tokens) to here);
  gap = λ place n byte rest tokens is stands fits.
      let within = within_at (byte ∷ rest) (Gap n) is in
      let here : StandsFrom (place + 1 + (n - 1)) (place + 1 + length rest) tokens = stands (omega (arith, within.1)) in
      let to : place + 1 + length rest ≡ place + length (byte ∷ rest) = omega arith in
      earlier (place + 0) (place + 1 + (n - 1)) (place + length (byte ∷ rest)) tokens (omega arith) (subst (λ e. StandsFrom (place + 1 + (n - 1)) e tokens) to here);
  token = λ place n byte rest tokens kind' is stands fits.
      let within = within_at (byte ∷ rest) (A_Token kind' n) is in
      let here : StandsFrom (place + 1 + (n - 1)) (place + 1 + length rest) tokens = stands (omega (arith, within.1)) in
      let to : place + 1 + length rest ≡ place + length (byte ∷ rest) = omega arith in
      let from : place + 1 + (n - 1) ≡ place + n = omega (arith, within.0) in
      before (place + 0) (place + length (byte ∷ rest)) (token_at kind' place n) tokens (not_end (byte ∷ rest) kind' n is) (omega arith) (omega (arith, within.0))
      (subst (λ p. StandsFrom p (place + length (byte ∷ rest)) tokens) from (subst (λ e. StandsFrom (place + 1 + (n - 1)) e tokens) to here));
}

pub tokens_stand : (text : List ℕ) (tokens : List Token) → tokens_from 0 0 text ≡ Ok tokens → StandsFrom 0 (length text) tokens
tokens_stand text tokens found =
    let same : 0 + length text ≡ length text = omega arith in
    subst (λ e. StandsFrom 0 e tokens) same (tokens_hold Stands stands_goes 0 0 text tokens found (omega arith))
