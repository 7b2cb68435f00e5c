-- From the lexemes of a text back to the text.
use Rattle.std.proofs.Common.{◌≡◌, ℕ, suc, ◌+◌, ◌<◌, ◌≤◌, List, [], ◌∷◌, ◌++◌, length, map, Option, Some, None, Ok, Err, refl, sym, ap, subst, ◌∙◌, arith, length-append}
use Rattle.std.specs.Prelude.{slice_get}
use Rattle.std.specs.List.{All}
use Rattle.std.proofs.lemmas.List.{length-map}
use Rattle.std.proofs.lemmas.List.Elements.{All-cons, All-nil}
use Rattle.bs_tree.specs.Rule.{Terminal, terminals}
use Rattle.bs_tree.specs.Grammar.{Parts}
use Rattle.bs_tree.specs.Limits.{Reason, unexpected, too_deep, too_many}
use Rattle.bs_tree.specs.Fault.{IsProgram, IsFirstFault}
use Rattle.bs_tree.specs.declared.tree.Name.{Name}
use Rattle.bs_tree.specs.declared.tree.Program.{Program}
use Rattle.bs_lex.specs.declared.token.Token.{Token}
use Rattle.bs_lex.specs.declared.token.TokenKind.{TokenKind}
use Rattle.bs_lex.specs.declared.token.TokenKind.TheVariants as kind
use Rattle.bs_lex.specs.Lexed.{lexed}
use Rattle.bs_lex.specs.Symbols.{symbols, StandsFrom}
use Rattle.bs_parse.specs.Text.{names_of, numbered, terminals_of, as_name, Spells, IsFaultAt, IsFault, fault_at}
use Rattle.bs_parse.specs.Naming.{IsWithin}

-- ---- where tokens stand

stands_before : (place end : ℕ) (tokens : List Token) → StandsFrom place end tokens → place ≤ end
stands_before place end [] h = absurd h
stands_before place end (token ∷ []) h = h.3
stands_before place end (token ∷ next ∷ rest) h = let behind = stands_before token.to end (next ∷ rest) h.3 in omega arith

pub stands_within : (text : List ℕ) (place : ℕ) (tokens : List Token) → StandsFrom place (length text) tokens → All (IsWithin text) tokens
stands_within text place [] h = absurd h
stands_within text place (token ∷ []) h = All-cons (IsWithin text) token [] (omega arith, omega arith) (All-nil (IsWithin text))
stands_within text place (token ∷ next ∷ rest) h =
    let behind = stands_before token.to (length text) (next ∷ rest) h.3 in
    All-cons (IsWithin text) token (next ∷ rest) (omega arith, omega arith) (stands_within text token.to (next ∷ rest) h.3)

-- each token but the end has a symbol
pub symbols_count : (text : List ℕ) (place end : ℕ) (tokens : List Token) → StandsFrom place end tokens → suc (length (symbols text tokens)) ≡ length tokens
symbols_count text place end [] h = absurd h
symbols_count text place end (token ∷ []) h = rw h.0 refl
symbols_count text place end (token ∷ next ∷ rest) h = by token.kind refl (symbols_count text token.to end (next ∷ rest) h.3)
  where
    by : (k : TokenKind) → token.kind ≡ k → suc (length (symbols text (next ∷ rest))) ≡ length (next ∷ rest) → suc (length (symbols text (token ∷ next ∷ rest))) ≡ length (token ∷ next ∷ rest)
    by kind.Name e more = rw e (ap suc more)
    by (kind.Number n) e more = rw e (ap suc more)
    by (kind.Word w) e more = rw e (ap suc more)
    by (kind.Mark m) e more = rw e (ap suc more)
    by kind.End e more = absurd (h.0 e)

pub fault_within : (text : List ℕ) (tokens : List Token) (ts : List Terminal) (place : ℕ) (reason : Reason) → StandsFrom 0 (length text) tokens → ts ≡ terminals_of (symbols text tokens) → IsFirstFault ts place reason → place < length tokens
fault_within text tokens ts place reason stand is f =
    omega (arith, symbols_count text 0 (length text) tokens stand, ap length is, ap length f.is, length-append (terminals f.before) f.rest, length-map f.before (λ item. item.1), f.at, length-map (symbols text tokens) (numbered (names_of (symbols text tokens))))

-- ---- what a text spells, and its fault

module _ (text : List ℕ) (tokens : List Token) (ts : List Terminal) (read : lexed text ≡ Ok tokens) (is : ts ≡ terminals_of (symbols text tokens)) where
  pub spelled_so : (p : Program) → Spells text p → (p.names ≡ map as_name (names_of (symbols text tokens))) × IsProgram ts (p.chares, p.vars, p.entries, p.body)
  spelled_so p s =
      let same : s.tokens ≡ tokens = let both : ◌≡◌ {A = Rattle.std.proofs.Common.Result (List Token) _} (Ok s.tokens) (Ok tokens) = sym s.read ∙ read in cc in (
        s.spell.names ∙ ap (λ us. map as_name (names_of (symbols text us))) same,
        subst (λ us. IsProgram us (p.chares, p.vars, p.entries, p.body)) (ap (λ us. terminals_of (symbols text us)) same ∙ sym is) s.spell.is,
      )

  pub fault_told : (place : ℕ) (reason : Reason) (token : Token) → IsFirstFault ts place reason → slice_get tokens place ≡ Some token → IsFault text (fault_at reason token)
  fault_told place reason token f at =
      let first : IsFirstFault (terminals_of (symbols text tokens)) place reason = subst (λ us. IsFirstFault us place reason) is f in
      let it : IsFaultAt text reason token = record { tokens = tokens; read = read; place = place; first = first; at = at } in
      by reason it
    where
      by : (r : Reason) → IsFaultAt text r token → IsFault text (fault_at r token)
      by unexpected x = (token, x, refl, refl)
      by too_deep x = (token, x, refl)
      by too_many x = (token, x, refl)

pub same_program : (parts : Parts) (names : List Name) (p : Program) → parts ≡ (p.chares, p.vars, p.entries, p.body) → p.names ≡ names → ◌≡◌ {A = Program} (record { chares = parts.0; names = names; vars = parts.1; entries = parts.2; body = parts.3 }) p
same_program parts names p e n = λ j. record { chares = (e j).0; names = sym n j; vars = (e j).1; entries = (e j).2; body = (e j).3 }
