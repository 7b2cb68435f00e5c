-- A program that some text spells is whole.
use Rattle.std.proofs.Common.{◌≡◌, ◌≤◌, ◌<◌, ℕ, zero, suc, List, [], ◌∷◌, ◌++◌, length, refl, ◌∙◌, arith}
use Rattle.std.proofs.lemmas.List.{length-append}
use Rattle.std.specs.Prelude.{slice_index_or}
use Rattle.std.specs.List.{Contains}
use Rattle.bs_check.specs.Refusal.{IsWhole}
use Rattle.bs_parse.specs.Names.{names_in_body, names_in_program, names_of_entries, names_of_variables}
use Rattle.bs_tree.specs.Count.{statements_in}
use Rattle.bs_tree.specs.declared.tree.EntryDecl.{EntryDecl}
use Rattle.bs_tree.specs.declared.tree.VarDecl.{VarDecl}
use Rattle.bs_tree.specs.declared.tree.Program.{Program}

keep_at : (xs ys : List ℕ) (k x : ℕ) → k < length xs → slice_index_or (xs ++ ys) k x ≡ slice_index_or xs k x
keep_at [] ys k x l = absurd (omega (arith, l))
keep_at (a ∷ xs) ys zero x l = refl
keep_at (a ∷ xs) ys (suc k) x l = keep_at xs ys k x (omega (arith, l))

keep : (xs ys : List ℕ) (x : ℕ) → Contains xs x → Contains (xs ++ ys) x
keep xs ys x h = let n = length-append xs ys in let l = h.1 in (h.0, omega (arith, n, l), keep_at xs ys h.0 x h.1 ∙ h.2)

skip : (xs ys : List ℕ) (x : ℕ) → Contains ys x → Contains (xs ++ ys) x
skip [] ys x h = h
skip (a ∷ xs) ys x h = let r = skip xs ys x h in let l = r.1 in (suc r.0, omega (arith, l), r.2)

variable_is_named : (vars : List VarDecl) (k : ℕ) (d : VarDecl) → k < length vars → Contains (names_of_variables vars) (slice_index_or vars k d).name.0
variable_is_named [] k d l = absurd (omega (arith, l))
variable_is_named (v ∷ vars) zero d l = (0, omega arith, refl)
variable_is_named (v ∷ vars) (suc k) d l = let r = variable_is_named vars k d (omega (arith, l)) in let m = r.1 in (suc r.0, omega (arith, m), r.2)

entry_is_named : (entries : List EntryDecl) (k : ℕ) (d : EntryDecl) → k < length entries → Contains (names_of_entries entries) (slice_index_or entries k d).name.0
entry_is_named [] k d l = absurd (omega (arith, l))
entry_is_named (e ∷ entries) zero d l = (0, omega arith, refl)
entry_is_named (e ∷ entries) (suc k) d l = let r = entry_is_named entries k d (omega (arith, l)) in let m = r.1 in (suc r.0, omega (arith, m), r.2)

pub is_whole : (p : Program) → statements_in p.body ≤ 10000
    → ((n : ℕ) → Contains (names_in_program (p.chares, p.vars, p.entries, p.body)) n → n < length p.names) → IsWhole p
is_whole p few known = record {
  statements = few;
  vars = λ k d l. known (slice_index_or p.vars k d).name.0
      (keep (names_of_variables p.vars ++ names_of_entries p.entries) (names_in_body p.body) _ (keep (names_of_variables p.vars) (names_of_entries p.entries) _ (variable_is_named p.vars k d l)));
  entries = λ k d l. known (slice_index_or p.entries k d).name.0
      (keep (names_of_variables p.vars ++ names_of_entries p.entries) (names_in_body p.body) _ (skip (names_of_variables p.vars) (names_of_entries p.entries) _ (entry_is_named p.entries k d l)));
}
