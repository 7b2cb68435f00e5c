-- The rows at the end: an option without a value that was not used gets a row that says so.
use Rattle.std.proofs.Common.{◌≡◌, ◌∙◌, Bool, cond, true, false, refl, sym, ap, List, [], ◌∷◌, ◌++◌, take, drop, codes, Option, Some, None, inl, inr, true≢false}
use Rattle.std.specs.Option.{option_map, option_and_then}
use Rattle.std.specs.List.{fold, list_all}
use Rattle.std.specs.Prelude.{slice_get, find}
use Rattle.std.specs.Str.{bytes_eq}
use Rattle.std.proofs.lemmas.Bool.{and_parts, cases_Bool}
use Rattle.std.proofs.lemmas.Option.{none-some}
use Rattle.clap.specs.Walk.{Row, Rule, Text, default_rows, with_default, has_row, reading_by, one_of, more_values}
use Rattle.clap.specs.Values.{read_as}
use Rattle.clap.specs.Takes.{is_given}
use Rattle.clap.specs.declared.builder.value_parser.Reading.{Reading}
use Rattle.clap.specs.declared.builder.value_parser.Reading.TheVariants.{AsWritten}
use Rattle.clap.specs.declared.parser.matches.ValueSource.TheVariants.{DefaultValue}
use Rattle.bs_words.specs.Plain.{is_empty}
use Rattle.bs_words.proofs.Uses.{Use, rows, lookup, at_none, has_none, found}
use Rattle.bs_words.proofs.Turns.{expect_flag}
use Rattle.bs_words.proofs.Walks.{rules}

-- what an option that has no value gets for one
abbrev pub flag_text : Bool → Text
flag_text true = codes "true"
flag_text false = codes "false"

abbrev default_row : Row
default_row = record { id = codes "spans"; values = codes "false" ∷ []; count = None; source = Some DefaultValue; reading = AsWritten }

-- the rows of the uses, and where the option was not used its row
abbrev pub rows_with : Bool → List Use → List Row
rows_with true us = rows us
rows_with false us = rows us ++ default_row ∷ []

same_both : {A : Type 0} (k : Bool) (x : A) → cond k x x ≡ x
same_both true x = refl
same_both false x = refl

no_default : (t : Text) (how : Reading) (ds : List Text) (rs : List Row) → is_empty ds ≡ true → default_rows t how ds rs ≡ rs
no_default t how [] rs e = refl
no_default t how (d ∷ ds) rs e = absurd (true≢false (sym e))

no_defaults : (all : List Rule) (rs : List Row) → list_all (λ (a : Rule). is_empty a.defaults) all ≡ true → fold with_default rs all ≡ rs
no_defaults [] rs e = refl
no_defaults (a ∷ all) rs e =
    let both = and_parts (is_empty a.defaults) (list_all (λ (x : Rule). is_empty x.defaults) all) e in
    ap (λ x. fold with_default x all) (ap (cond (has_row a.id rs) rs) (no_default a.id (reading_by a) a.defaults rs both.0) ∙ same_both (has_row a.id rs) rs) ∙ no_defaults all rs both.1

has_some : (k : Text) (us : List Use) (vs : List Text) → lookup k us ≡ Some vs → has_row k (rows us) ≡ true
has_some k [] vs e = absurd (none-some vs e)
has_some k (u ∷ us) vs e = elim (cases_Bool (bytes_eq u.0 k)) [
  | inl same ↦ rw same refl
  | inr other ↦ rw other (has_some k us vs (rw other at e))
]

abbrev spans_default : List Row → List Row
spans_default rs = cond (has_row (codes "spans") rs) rs (default_rows (codes "spans") AsWritten (codes "false" ∷ []) rs)

-- no other argument has a default value
one_default : (rs : List Row) → fold with_default rs rules ≡ spans_default rs
one_default rs = ap (λ x. fold with_default x (drop 4 rules)) (no_defaults (take 4 rules) rs refl) ∙ no_defaults (drop 5 rules) (spans_default rs) refl

pub defaults_are : (k : Bool) (us : List Use) → lookup (codes "spans") us ≡ expect_flag k → fold with_default (rows us) rules ≡ rows_with k us
defaults_are true us e = one_default (rows us) ∙ rw (has_some (codes "spans") us _ e) refl
defaults_are false us e = one_default (rows us) ∙ rw (has_none (codes "spans") us e) (at_none (codes "spans") (more_values DefaultValue (codes "false" ∷ [])) (default_row ∷ []) us e)

-- ---- what the rows say

pub given_row : (k : Bool) (t : Text) (us : List Use) (vs : List Text) → lookup t us ≡ Some vs → is_given t (rows_with k us) ≡ true
given_row k t [] vs e = absurd (none-some vs e)
given_row true t (u ∷ us) vs e = elim (cases_Bool (bytes_eq u.0 t)) [
  | inl same ↦ rw same refl
  | inr other ↦ rw other (given_row true t us vs (rw other at e))
]
given_row false t (u ∷ us) vs e = elim (cases_Bool (bytes_eq u.0 t)) [
  | inl same ↦ rw same refl
  | inr other ↦ rw other (given_row false t us vs (rw other at e))
]

-- the row of a key that is no such option
pub found_with : (k : Bool) (t : Text) (us : List Use) → bytes_eq (codes "spans") t ≡ false
    → option_map (λ (r : Row). r.values) (find (λ (r : Row). bytes_eq r.id t) (rows_with k us)) ≡ lookup t us
found_with true t us miss = found t us
found_with false t [] miss = rw miss refl
found_with false t (u ∷ us) miss = elim (cases_Bool (bytes_eq u.0 t)) [
  | inl same ↦ rw same refl
  | inr other ↦ rw other (found_with false t us miss)
]

one_used : (t : Text) (us : List Use) (v : Text) → lookup t us ≡ Some (v ∷ []) → one_of t (rows us) ≡ Some v
one_used t [] v e = absurd (none-some _ e)
one_used t (u ∷ us) v e = elim (cases_Bool (bytes_eq u.0 t)) [
  | inl same ↦ rw same (ap (option_and_then (λ vs. option_map (read_as AsWritten) (slice_get vs 0))) (rw same at e))
  | inr other ↦ rw other (one_used t us v (rw other at e))
]

one_default_row : (us : List Use) → lookup (codes "spans") us ≡ None → one_of (codes "spans") (rows us ++ default_row ∷ []) ≡ Some (codes "false")
one_default_row [] e = refl
one_default_row (u ∷ us) e = elim (cases_Bool (bytes_eq u.0 (codes "spans"))) [
  | inl same ↦ absurd (none-some u.1 (sym (rw same at e)))
  | inr other ↦ rw other (one_default_row us (rw other at e))
]

pub one_with : (k : Bool) (us : List Use) → lookup (codes "spans") us ≡ expect_flag k → one_of (codes "spans") (rows_with k us) ≡ Some (flag_text k)
one_with true us e = one_used (codes "spans") us (codes "true") e
one_with false us e = one_default_row us e

-- what the parser says of the option
pub flag_is : (k said : Bool) (t : Option Text) → t ≡ Some (flag_text k) → (t ≡ Some (codes "true") → said ≡ true) → (t ≡ Some (codes "false") → said ≡ false) → said ≡ k
flag_is true said t e on off = on e
flag_is false said t e on off = off e
