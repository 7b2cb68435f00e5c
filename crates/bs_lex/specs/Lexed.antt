-- The tokens of a text.
use Rattle.std.specs.Prelude.{ℕ, zero, suc, ◌+◌, ◌-◌, ◌^◌, ◌==◌, nat_eq, not, List, [], ◌∷◌, length, take_while, Option, Some, None, Result, Ok, Err, pos, codes, if◌then◌else◌}
use Rattle.std.specs.List.{starts_with}
use Rattle.std.specs.Str.{is_utf8}
use Rattle.std.specs.Str.Lossy.{utf8_valid_len}
use Rattle.bs_num.specs.Decimal.{is_digit, number_in}
use Rattle.bs_num.specs.declared.fault.NumFault.{NumFault}
use Rattle.bs_tree.specs.declared.symbols.Word.{Word}
use Rattle.bs_tree.specs.declared.symbols.Mark.{Mark}
use Rattle.bs_lex.specs.declared.token.Token.{Token}
use Rattle.bs_lex.specs.declared.token.TokenKind.{TokenKind}
use Rattle.bs_lex.specs.declared.token.TokenKind.TheVariants as kind
use Rattle.bs_lex.specs.declared.token.LexFault.{LexFault}
use Rattle.bs_lex.specs.declared.token.LexFault.TheVariants as fault
use Rattle.bs_lex.specs.declared.piece.Piece.{Piece}
use Rattle.bs_lex.specs.declared.piece.Piece.TheVariants.{Gap, Token as A_Token, BadNumber, BadCharacter}
use Rattle.bs_lex.specs.Spelling.{is_blank, is_letter, is_name_byte, word_named, mark_text, mark_at}

-- letters, digits and `_` are a reserved word or a name
abbrev pub kind_of_name : Option Word → TokenKind
kind_of_name (Some word) = kind.Word word
kind_of_name None = kind.Name

abbrev pub name_piece : List ℕ → Piece
name_piece name = A_Token (kind_of_name (word_named name)) (length name)

-- digits are a number unless more than one of them begin with `0`, or their value is above 2^63 - 1
abbrev pub number_piece : Result ℕ NumFault → ℕ → Piece
number_piece (Ok n) length = A_Token (kind.Number (pos n)) length
number_piece (Err fault) length = BadNumber

abbrev pub mark_piece : Option Mark → Piece
mark_piece (Some mark) = A_Token (kind.Mark mark) (length (mark_text mark))
mark_piece None = BadCharacter

-- what bytes begin with: a blank, a comment up to the LF, or a token, each as long as possible
abbrev pub piece_of : List ℕ → Piece
piece_of [] = BadCharacter
piece_of (first ∷ rest) = let bytes = first ∷ rest in
    if is_blank first then Gap 1
    else (if starts_with nat_eq bytes (codes "//") then Gap (length (take_while (λ byte. not (byte == 10)) bytes))
    else (if is_letter first then name_piece (take_while is_name_byte bytes)
    else (if is_digit first then number_piece (number_in (2 ^ 63 - 1) (take_while is_digit bytes)) (length (take_while is_digit bytes))
    else mark_piece (mark_at bytes))))

-- a token at a place, of so many bytes
abbrev pub token_at : TokenKind → ℕ → ℕ → Token
token_at kind place length = record { kind = kind; from = place; to = place + length }

abbrev pub with_token : Token → Result (List Token) LexFault → Result (List Token) LexFault
with_token token (Ok tokens) = Ok (token ∷ tokens)
with_token token (Err fault) = Err fault

-- what stands at a place, and then what comes behind so many bytes
abbrev pub go_on : ℕ → Piece → (ℕ → Result (List Token) LexFault) → Result (List Token) LexFault
go_on place (Gap length) behind = behind length
go_on place (A_Token kind length) behind = with_token (token_at kind place length) (behind length)
go_on place BadNumber behind = Err (fault.BadNumber place)
go_on place BadCharacter behind = Err (fault.BadCharacter place)

-- the tokens of the bytes from a place on, the first `within` of which belong to what stands before them
unfoldable pub tokens_from : ℕ → ℕ → List ℕ → Result (List Token) LexFault
tokens_from place within [] = Ok (token_at kind.End place 0 ∷ [])
tokens_from place (suc within) (byte ∷ rest) = tokens_from (place + 1) within rest
tokens_from place zero (byte ∷ rest) = go_on place (piece_of (byte ∷ rest)) (λ length. tokens_from (place + 1) (length - 1) rest)

-- the tokens of a text, or its first fault
unfoldable pub lexed : List ℕ → Result (List Token) LexFault
lexed text = if is_utf8 text then tokens_from 0 0 text else Err (fault.NotUtf8 (utf8_valid_len text))
