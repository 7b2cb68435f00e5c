-- The size and the names of what is spelled within the limits.
use Rattle.std.proofs.Common.{◌≡◌, ℕ, ◌≤◌, ◌<◌, List, length, sym, ap, subst, ◌∙◌, arith}
use Rattle.std.specs.List.{Contains}
use Rattle.std.proofs.lemmas.List.{length-map}
use Rattle.bs_tree.specs.Rule.{Terminal}
use Rattle.bs_tree.specs.Grammar.{Parts}
use Rattle.bs_tree.specs.Limits.{most_allowed, none_yet}
use Rattle.bs_tree.specs.Fault.{IsProgram}
use Rattle.bs_tree.specs.Count.{statements_in}
use Rattle.bs_tree.specs.declared.tree.Program.{Program}
use Rattle.bs_lex.specs.Symbols.{symbols}
use Rattle.bs_parse.specs.Names.{names_among, names_in_program}
use Rattle.bs_parse.specs.Text.{Spells, names_of, terminals_of, as_name}
use Rattle.bs_parse.proofs.NamesIn.{names_of_program}
use Rattle.bs_parse.proofs.Openings.{statements_of_program, openings_within}
use Rattle.bs_parse.proofs.Places.{numbers_below, numbers_used}

pub few_statements : (ts : List Terminal) (parts : Parts) → IsProgram ts parts → statements_in parts.3 ≤ 10000
few_statements ts parts p = omega (arith, statements_of_program p.depth p.items parts p.spells, openings_within most_allowed none_yet p.items p.allows (omega arith))

pub same_names : (ts : List Terminal) (parts : Parts) → IsProgram ts parts → names_among ts ≡ names_in_program parts
same_names ts parts p = ap names_among (sym p.is) ∙ names_of_program p.depth p.items parts p.spells

abbrev parts_of : Program → Parts
parts_of p = (p.chares, p.vars, p.entries, p.body)

pub few_in_text : (text : List ℕ) (p : Program) → Spells text p → statements_in p.body ≤ 10000
few_in_text text p s = few_statements (terminals_of (symbols text s.tokens)) (parts_of p) s.spell.is

names_in_text : (text : List ℕ) (p : Program) (s : Spells text p) → names_among (terminals_of (symbols text s.tokens)) ≡ names_in_program (parts_of p)
names_in_text text p s = same_names (terminals_of (symbols text s.tokens)) (parts_of p) s.spell.is

names_counted : (text : List ℕ) (p : Program) (s : Spells text p) → length p.names ≡ length (names_of (symbols text s.tokens))
names_counted text p s = ap length s.spell.names ∙ length-map (names_of (symbols text s.tokens)) as_name

pub known_in_text : (text : List ℕ) (p : Program) (n : ℕ) → Spells text p → Contains (names_in_program (parts_of p)) n → n < length p.names
known_in_text text p n s h = omega (arith, numbers_below (symbols text s.tokens) n (subst (λ ns. Contains ns n) (sym (names_in_text text p s)) h), names_counted text p s)

pub used_in_text : (text : List ℕ) (p : Program) (n : ℕ) → Spells text p → n < length p.names → Contains (names_in_program (parts_of p)) n
used_in_text text p n s lt = subst (λ ns. Contains ns n) (names_in_text text p s) (numbers_used (symbols text s.tokens) n (omega (arith, lt, names_counted text p s)))
