-- The fault of a text is never the want of memory.
use Rattle.std.proofs.Common.{◌≢◌, ℕ, zero, suc, ◌+◌, ◌-◌, Bool, true, false, List, [], ◌∷◌}
use Rattle.std.specs.Prelude.{Result, Ok, Err, if◌then◌else◌}
use Rattle.std.specs.Str.{is_utf8}
use Rattle.std.specs.Str.Lossy.{utf8_valid_len}
use Rattle.bs_lex.specs.declared.token.Token.{Token}
use Rattle.bs_lex.specs.declared.token.LexFault.{LexFault}
use Rattle.bs_lex.specs.declared.token.LexFault.TheVariants as fault
use Rattle.bs_lex.specs.declared.piece.Piece.{Piece}
use Rattle.bs_lex.specs.declared.piece.Piece.TheVariants.{Gap, Token as A_Token, BadNumber, BadCharacter}
use Rattle.bs_lex.specs.Lexed.{piece_of, go_on, token_at, with_token, tokens_from, lexed}
use Rattle.bs_lex.specs.Written.{NeedsNoMemory}

more_no_memory : (token : Token) (found : Result (List Token) LexFault) → found ≢ Err fault.Memory → with_token token found ≢ Err fault.Memory
more_no_memory token (Ok tokens) no_memory bad = absurd (cc)
more_no_memory token (Err fault') no_memory bad = no_memory bad

go_on_no_memory : (place : ℕ) (piece : Piece) (behind : ℕ → Result (List Token) LexFault) → ((n : ℕ) → behind n ≢ Err fault.Memory) → go_on place piece behind ≢ Err fault.Memory
go_on_no_memory place (Gap n) behind no_memory bad = no_memory n bad
go_on_no_memory place (A_Token kind n) behind no_memory bad = more_no_memory (token_at kind place n) (behind n) (no_memory n) bad
go_on_no_memory place BadNumber behind no_memory bad = absurd (cc)
go_on_no_memory place BadCharacter behind no_memory bad = absurd (cc)

tokens_no_memory : (place within : ℕ) (bytes : List ℕ) → tokens_from place within bytes ≢ Err fault.Memory
unfolding tokens_from
tokens_no_memory place within [] bad = absurd (cc)
tokens_no_memory place (suc within) (byte ∷ rest) bad = tokens_no_memory (place + 1) within rest bad
tokens_no_memory place zero (byte ∷ rest) bad = go_on_no_memory place (piece_of (byte ∷ rest)) (λ n. tokens_from (place + 1) (n - 1) rest) (λ n. tokens_no_memory (place + 1) (n - 1) rest) bad

by_utf8 : (text : List ℕ) (valid : Bool) → (if valid then tokens_from 0 0 text else Err (fault.NotUtf8 (utf8_valid_len text))) ≢ Err fault.Memory
by_utf8 text true bad = tokens_no_memory 0 0 text bad
by_utf8 text false bad = absurd (cc)

pub needs_no_memory : NeedsNoMemory
unfolding lexed
needs_no_memory text = by_utf8 text (is_utf8 text)
