-- What holds of the tokens of a text, by induction on its bytes.
use Rattle.std.proofs.Common.{◌≡◌, ℕ, zero, suc, ◌+◌, ◌-◌, List, [], ◌∷◌, refl, subst}
use Rattle.std.specs.Prelude.{Result, Ok, Err}
use Rattle.bs_lex.specs.declared.token.Token.{Token}
use Rattle.bs_lex.specs.declared.token.TokenKind.{TokenKind}
use Rattle.bs_lex.specs.declared.token.TokenKind.TheVariants as kind
use Rattle.bs_lex.specs.declared.token.LexFault.{LexFault}
use Rattle.bs_lex.specs.declared.piece.Piece.{Piece}
use Rattle.bs_lex.specs.declared.piece.Piece.TheVariants.{Gap, Token as A_Token, BadNumber, BadCharacter}
use Rattle.bs_lex.specs.Lexed.{piece_of, go_on, token_at, with_token, tokens_from}

-- a fact on place, bytes that are passed over, bytes and tokens that goes from piece to piece
pub record Goes (P : ℕ → ℕ → List ℕ → List Token → Type 0) : Type 0 where
  pub last : (place within : ℕ) → P place within [] (token_at kind.End place 0 ∷ [])
  pub passed : (place within byte : ℕ) (rest : List ℕ) (tokens : List Token) → P (place + 1) within rest tokens → P place (suc within) (byte ∷ rest) tokens
  pub gap : (place length byte : ℕ) (rest : List ℕ) (tokens : List Token) → piece_of (byte ∷ rest) ≡ Gap length
      → P (place + 1) (length - 1) rest tokens → P place 0 (byte ∷ rest) tokens
  pub token : (place length byte : ℕ) (rest : List ℕ) (tokens : List Token) (kind' : TokenKind) → piece_of (byte ∷ rest) ≡ A_Token kind' length
      → P (place + 1) (length - 1) rest tokens → P place 0 (byte ∷ rest) (token_at kind' place length ∷ tokens)

by_found : (P : List Token → Type 0) (Q : List Token → Type 0) (token : Token) (found : Result (List Token) LexFault) (tokens : List Token)
    → ((ts : List Token) → Q ts → P (token ∷ ts)) → ((ts : List Token) → found ≡ Ok ts → Q ts) → with_token token found ≡ Ok tokens → P tokens
by_found P Q token (Ok ts) tokens more rest is = let same : (token ∷ ts) ≡ tokens = cc in subst P same (more ts (rest ts refl))
by_found P Q token (Err fault) tokens more rest is = absurd (cc)

by_piece : (P : ℕ → ℕ → List ℕ → List Token → Type 0) → Goes P → (place byte : ℕ) (rest : List ℕ) (tokens : List Token) (piece : Piece) → piece_of (byte ∷ rest) ≡ piece
    → ((within : ℕ) (ts : List Token) → tokens_from (place + 1) within rest ≡ Ok ts → P (place + 1) within rest ts)
    → go_on place piece (λ n. tokens_from (place + 1) (n - 1) rest) ≡ Ok tokens → P place 0 (byte ∷ rest) tokens
by_piece P goes place byte rest tokens (Gap n) is later found = goes.gap place n byte rest tokens is (later (n - 1) tokens found)
by_piece P goes place byte rest tokens (A_Token kind' n) is later found =
    by_found (P place 0 (byte ∷ rest)) (P (place + 1) (n - 1) rest) (token_at kind' place n) (tokens_from (place + 1) (n - 1) rest) tokens
    (λ ts holds. goes.token place n byte rest ts kind' is holds) (λ ts. later (n - 1) ts) found
by_piece P goes place byte rest tokens BadNumber is later found = absurd (cc)
by_piece P goes place byte rest tokens BadCharacter is later found = absurd (cc)

pub tokens_hold : (P : ℕ → ℕ → List ℕ → List Token → Type 0) → Goes P
    → (place within : ℕ) (bytes : List ℕ) (tokens : List Token) → tokens_from place within bytes ≡ Ok tokens → P place within bytes tokens
unfolding tokens_from
tokens_hold P goes place within [] tokens found = let same : (token_at kind.End place 0 ∷ []) ≡ tokens = cc in subst (P place within []) same (goes.last place within)
tokens_hold P goes place (suc within) (byte ∷ rest) tokens found = goes.passed place within byte rest tokens (tokens_hold P goes (place + 1) within rest tokens found)
tokens_hold P goes place zero (byte ∷ rest) tokens found =
    by_piece P goes place byte rest tokens (piece_of (byte ∷ rest)) refl (λ within ts. tokens_hold P goes (place + 1) within rest ts) found
