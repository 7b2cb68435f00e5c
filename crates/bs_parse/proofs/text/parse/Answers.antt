use Rattle.std.proofs.Common.{◌≡◌, Ok, map, get_or, sym, ap, subst, ◌∙◌, inl, ⊎_elim}
use Rattle.std.proofs.lemmas.Option.{slice_get-get_or}
use Rattle.bs_tree.specs.Grammar.{Parts}
use Rattle.bs_tree.specs.Fault.{IsFirstFault}
use Rattle.bs_lex.specs.declared.token.Token.{Token}
use Rattle.bs_lex.specs.declared.token.TokenKind.TheVariants.{Name}
use Rattle.bs_lex.specs.Symbols.{symbols}
use Rattle.bs_parse.specs.Text.{terminals_of, fault_at, IsFault}
use Rattle.bs_parse.specs.Seen.{terminal, reason_of}
use Rattle.bs_parse.proofs.Told.{stands_within, fault_within, spelled_so, fault_told, same_program}
use Rattle.bs_parse.proofs.text.parse.Goals as goal

pub lexemes-requires : goal.lexemes-requires
lexemes-requires c = rw c.as_slice.ensures (stands_within c.args.text.now 0 c.in_ok-tokens.tokens c.in_ok-tokens.ensures.stand)

pub returns-in-Ok-clause-only : goal.returns-in-Ok-clause-only
returns-in-Ok-clause-only c = λ p s.
    let x = spelled_so c.args.text.now c.as_slice.result.now (map terminal c.as_slice-2.result.now) (c.in_ok-tokens.ensures.ok ∙ ap Ok (sym c.as_slice.ensures)) (ap (map terminal) c.as_slice-2.ensures ∙ c.in_ok-lexemes.ensures.0) p s in
    let parts : Parts = (c.in-Ok.chares, c.in-Ok.vars, c.in-Ok.entries, c.in-Ok.body) in
    let same : parts ≡ (p.chares, p.vars, p.entries, p.body) = ⊎_elim (λ e. cc) (λ e. absurd (cc)) (c.in-Ok.ensures.only (p.chares, p.vars, p.entries, p.body) x.1) in
    inl (ap Ok (same_program parts c.in_ok-lexemes.names p same (x.0 ∙ sym c.in_ok-lexemes.ensures.1)))

pub bounds-as_slice-place : goal.bounds-as_slice-place
bounds-as_slice-place c =
    let text = c.args.text.now in
    let tokens = c.in_ok-tokens.tokens in
    let is = ap (map terminal) c.as_slice-2.ensures ∙ c.in_ok-lexemes.ensures.0 ∙ ap (λ us. terminals_of (symbols text us)) c.as_slice.ensures in
    let f : IsFirstFault (map terminal c.as_slice-2.result.now) c.in-Err-At.place (reason_of c.in-Err-At.reason) = rw c.in-Err-At.field-0-is at c.in-Err-At.ensures.fault in
    rw (c.in-Err-At.place-is, c.as_slice-in-Err-At.ensures) (fault_within text tokens (map terminal c.as_slice-2.result.now) c.in-Err-At.place (reason_of c.in-Err-At.reason) c.in_ok-tokens.ensures.stand is f)

pub returns-clause-only : goal.returns-clause-only
returns-clause-only c = λ p s.
    let x = spelled_so c.args.text.now c.as_slice.result.now (map terminal c.as_slice-2.result.now) (c.in_ok-tokens.ensures.ok ∙ ap Ok (sym c.as_slice.ensures)) (ap (map terminal) c.as_slice-2.ensures ∙ c.in_ok-lexemes.ensures.0) p s in
    let o = rw c.in-Err-At.field-0-is at (c.in-Err-At.ensures.only (p.chares, p.vars, p.entries, p.body) x.1) in
    absurd (⊎_elim (λ e. cc) (λ e. cc) o)

pub returns-clause-err : goal.returns-clause-err
returns-clause-err c = λ some.
    let text = c.args.text.now in
    let tokens = c.in_ok-tokens.tokens in
    let is = ap (map terminal) c.as_slice-2.ensures ∙ c.in_ok-lexemes.ensures.0 ∙ ap (λ us. terminals_of (symbols text us)) c.as_slice.ensures in
    let f : IsFirstFault (map terminal c.as_slice-2.result.now) c.in-Err-At.place (reason_of c.in-Err-At.reason) = rw c.in-Err-At.field-0-is at c.in-Err-At.ensures.fault in
    let within = fault_within text tokens (map terminal c.as_slice-2.result.now) c.in-Err-At.place (reason_of c.in-Err-At.reason) c.in_ok-tokens.ensures.stand is f in
    let none : Token = record { kind = Name; from = 0; to = 0 } in
    let token = get_or tokens c.in-Err-At.place none in
    let told = fault_told text tokens (map terminal c.as_slice-2.result.now) c.in_ok-tokens.ensures.ok is c.in-Err-At.place (reason_of c.in-Err-At.reason) token f (slice_get-get_or tokens c.in-Err-At.place none within) in
    let same : c.fault_at.result ≡ fault_at (reason_of c.in-Err-At.reason) token = rw (c.in-Err-At.place-is, c.in-Err-At.reason-is, c.as_slice-in-Err-At.ensures) at c.fault_at.ensures in
    subst (IsFault text) (sym same) told
