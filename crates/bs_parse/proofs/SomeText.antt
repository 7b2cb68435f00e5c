-- A text has an answer.
use Rattle.std.proofs.Common.{◌≡◌, ◌⊎◌, ℕ, ◌-◌, List, [], ◌∷◌, length, map, Result, Some, Ok, Err, inl, inr, refl, get_or, Bool, true, false, if◌then◌else◌}
use Rattle.std.specs.Str.{is_utf8}
use Rattle.std.specs.Str.Lossy.{utf8_valid_len}
use Rattle.std.proofs.lemmas.Option.{slice_get-get_or}
use Rattle.bs_tree.specs.Rule.{Terminal}
use Rattle.bs_tree.specs.Limits.{Reason, most_allowed, unexpected}
use Rattle.bs_tree.specs.Grammar.{Parts}
use Rattle.bs_tree.specs.Fault.{IsFirstFault, IsProgram}
use Rattle.bs_tree.specs.declared.tree.Program.{Program}
use Rattle.bs_lex.specs.Lexed.{lexed, tokens_from}
use Rattle.bs_lex.specs.Symbols.{StandsFrom, symbols}
use Rattle.bs_lex.specs.declared.token.LexFault.{LexFault}
use Rattle.bs_lex.specs.declared.token.LexFault.TheVariants as lex
use Rattle.bs_lex.specs.declared.token.Token.{Token}
use Rattle.bs_lex.specs.declared.token.TokenKind.TheVariants as kind
use Rattle.bs_lex.proofs.Spans.{tokens_stand}
use Rattle.bs_parse.specs.Reading.{Outcome, got, bad}
use Rattle.bs_parse.specs.Text.{IsFault, Spells, as_name, fault_at, names_of, terminals_of}
use Rattle.bs_parse.specs.TextLaws.{SomeAnswer}
use Rattle.bs_parse.specs.declared.text.ParseFault.{ParseFault}
use Rattle.bs_parse.specs.declared.text.ParseFault.TheVariants.{Lex}
use Rattle.bs_parse.proofs.Exact.{is_fault, is_program, is_trailing, whole}
use Rattle.bs_parse.proofs.Told.{fault_told, fault_within}

abbrev Answered : List ℕ → Type 0
Answered text = ((p : Program) × Spells text p) ⊎ ((fault : ParseFault) × IsFault text fault)

-- tokens stand one behind the other to the end of their text
lexed_stand : (text : List ℕ) (tokens : List Token) → lexed text ≡ Ok tokens → StandsFrom 0 (length text) tokens
unfolding lexed
lexed_stand text tokens read = tokens_stand text tokens (from (is_utf8 text) read)
  where
    from : (t : Bool) → (if t then tokens_from 0 0 text else Err (lex.NotUtf8 (utf8_valid_len text))) ≡ Ok tokens → tokens_from 0 0 text ≡ Ok tokens
    from true is = is
    from false is = absurd (cc)

module _ (text : List ℕ) (tokens : List Token) (read : lexed text ≡ Ok tokens) where
  abbrev terminals : List Terminal
  terminals = terminals_of (symbols text tokens)

  faulty : (place : ℕ) (reason : Reason) → IsFirstFault terminals place reason → Answered text
  faulty place reason first =
      let within = fault_within text tokens terminals place reason (lexed_stand text tokens read) refl first in
      let none : Token = record { kind = kind.Name; from = 0; to = 0 } in
      let token = get_or tokens place none in
      inr (fault_at reason token, fault_told text tokens terminals read refl place reason token first (slice_get-get_or tokens place none within))

  spelled : (parts : Parts) → IsProgram terminals parts → Answered text
  spelled parts is = inl (
    record { chares = parts.0; names = map as_name (names_of (symbols text tokens)); vars = parts.1; entries = parts.2; body = parts.3 },
    record { tokens = tokens; read = read; spell = record { names = refl; is = is } },
  )

  by_outcome : (outcome : Outcome Parts) → whole most_allowed terminals ≡ outcome → Answered text
  by_outcome (got parts end []) is = spelled parts (is_program terminals parts end is)
  by_outcome (got parts end (t ∷ rest)) is = faulty (length terminals - length (t ∷ rest)) unexpected (is_trailing terminals parts end t rest is)
  by_outcome (bad reason rest) is = faulty (length terminals - length rest) reason (is_fault terminals reason rest is)

by_tokens : (text : List ℕ) (result : Result (List Token) LexFault) → lexed text ≡ result → Answered text
by_tokens text (Ok tokens) read = by_outcome text tokens read (whole most_allowed (terminals_of (symbols text tokens))) refl
by_tokens text (Err cause) read = inr (Lex cause, read)

pub some : SomeAnswer
some text = by_tokens text (lexed text) refl
