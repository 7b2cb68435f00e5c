-- A text has one answer.
use Rattle.std.proofs.Common.{◌≡◌, ℕ, List, Option, Some, Result, Ok, Err, refl, sym, ap, subst, ◌∙◌}
use Rattle.std.specs.Prelude.{slice_get}
use Rattle.bs_tree.specs.Rule.{Terminal}
use Rattle.bs_tree.specs.Grammar.{Parts}
use Rattle.bs_tree.specs.Limits.{Reason, unexpected, too_deep, too_many}
use Rattle.bs_tree.specs.Fault.{IsProgram, IsFirstFault}
use Rattle.bs_lex.specs.declared.token.LexFault.{LexFault}
use Rattle.bs_lex.specs.declared.token.Token.{Token}
use Rattle.bs_lex.specs.Lexed.{lexed}
use Rattle.bs_lex.specs.Symbols.{symbols}
use Rattle.bs_parse.specs.declared.text.ParseFault.{ParseFault}
use Rattle.bs_parse.specs.declared.text.ParseFault.TheVariants.{Lex, Unexpected, TooDeep, TooManyStatements, Memory}
use Rattle.bs_parse.specs.Text.{terminals_of, IsFaultAt, IsFault, fault_at}
use Rattle.bs_parse.specs.TextLaws.{OneProgram, OneFault, NotBoth}
use Rattle.bs_parse.proofs.Basics.{got_value}
use Rattle.bs_parse.proofs.Exact.{is_read}
use Rattle.bs_parse.proofs.OneFault.{one_first, none_of_program}
use Rattle.bs_parse.proofs.Told.{spelled_so, same_program}

-- ---- programs

same_parts : (ts : List Terminal) (p q : Parts) → IsProgram ts p → IsProgram ts q → p ≡ q
same_parts ts p q s u = got_value (sym (is_read ts p s).1 ∙ (is_read ts q u).1)

pub one : OneProgram
one text p q s u =
    let x = spelled_so text u.tokens (terminals_of (symbols text u.tokens)) u.read refl p s in
    let parts = same_parts (terminals_of (symbols text u.tokens)) (q.chares, q.vars, q.entries, q.body) (p.chares, p.vars, p.entries, p.body) u.spell.is x.1 in
    sym (same_program (q.chares, q.vars, q.entries, q.body) q.names p parts (x.0 ∙ sym u.spell.names))

-- ---- faults

-- a fault of the tokens, or that of one token of the text
data Seen (text : List ℕ) (fault : ParseFault) : Type 0 where
  of_tokens : (cause : LexFault) → lexed text ≡ Err cause → fault ≡ Lex cause → Seen text fault
  of_token : (reason : Reason) (token : Token) → IsFaultAt text reason token → fault ≡ fault_at reason token → Seen text fault

seen : (text : List ℕ) (fault : ParseFault) → IsFault text fault → Seen text fault
seen text (Lex cause) h = of_tokens cause h refl
seen text (Unexpected byte kind) h = of_token unexpected h.0 h.1 (λ j. Unexpected (sym h.2 j) (sym h.3 j))
seen text (TooDeep byte) h = of_token too_deep h.0 h.1 (λ j. TooDeep (sym h.2 j))
seen text (TooManyStatements byte) h = of_token too_many h.0 h.1 (λ j. TooManyStatements (sym h.2 j))
seen text Memory h = absurd h

same_tokens : (text : List ℕ) (us ts : List Token) → lexed text ≡ Ok us → lexed text ≡ Ok ts → us ≡ ts
same_tokens text us ts e f = let both : ◌≡◌ {A = Result (List Token) LexFault} (Ok us) (Ok ts) = sym e ∙ f in cc

no_tokens : (text : List ℕ) (us : List Token) (cause : LexFault) → lexed text ≡ Ok us → lexed text ≡ Err cause → ⊥
no_tokens text us cause e f = let both : ◌≡◌ {A = Result (List Token) LexFault} (Ok us) (Err cause) = sym e ∙ f in absurd (cc)

same_cause : (text : List ℕ) (a b : LexFault) → lexed text ≡ Err a → lexed text ≡ Err b → a ≡ b
same_cause text a b e f = let both : ◌≡◌ {A = Result (List Token) LexFault} (Err a) (Err b) = sym e ∙ f in cc

same_token : (text : List ℕ) (a b : Reason) (t u : Token) → IsFaultAt text a t → IsFaultAt text b u → fault_at a t ≡ fault_at b u
same_token text a b t u x y =
    let tokens : y.tokens ≡ x.tokens = same_tokens text y.tokens x.tokens y.read x.read in
    let first = subst (λ us. IsFirstFault (terminals_of (symbols text us)) y.place b) tokens y.first in
    let one = one_first (terminals_of (symbols text x.tokens)) x.place y.place a b x.first first in
    let at : slice_get x.tokens x.place ≡ Some u = ap (slice_get x.tokens) one.0 ∙ ap (λ us. slice_get us y.place) (sym tokens) ∙ y.at in
    let both : ◌≡◌ {A = Option Token} (Some t) (Some u) = sym x.at ∙ at in
    let same : t ≡ u = cc in
    λ j. fault_at (one.1 j) (same j)

pub one_fault : OneFault
one_fault text f g x y = by (seen text f x) (seen text g y)
  where
    by : Seen text f → Seen text g → f ≡ g
    by (of_tokens a e is) (of_tokens b e' is') = is ∙ ap Lex (same_cause text a b e e') ∙ sym is'
    by (of_tokens a e is) (of_token b u y is') = absurd (no_tokens text y.tokens a y.read e)
    by (of_token a t x is) (of_tokens b e is') = absurd (no_tokens text x.tokens b x.read e)
    by (of_token a t x is) (of_token b u y is') = is ∙ same_token text a b t u x y ∙ sym is'

pub not_both : NotBoth
not_both text p f s x = by (seen text f x)
  where
    by : Seen text f → ⊥
    by (of_tokens a e is) = no_tokens text s.tokens a s.read e
    by (of_token reason t x is) =
        let so = spelled_so text x.tokens (terminals_of (symbols text x.tokens)) x.read refl p s in
        none_of_program (terminals_of (symbols text x.tokens)) x.place reason (p.chares, p.vars, p.entries, p.body) so.1 x.first
