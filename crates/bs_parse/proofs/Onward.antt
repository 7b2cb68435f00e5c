-- One turn of a loop that reads any number of a rule.
use Rattle.std.proofs.Common.{◌≡◌, ℕ, zero, suc, ◌-◌, List, [], ◌∷◌, ◌++◌, append_assoc, Err, true, false, refl, sym, ap, subst, ◌∙◌}
use Rattle.bs_tree.specs.Rule.{Terminal, Rule}
use Rattle.bs_tree.specs.Limits.{most_allowed, Reason}
use Rattle.bs_parse.specs.Reading.{Outcome, got, bad, and_then, turns, starts, begins, read, reading}
use Rattle.bs_tree.specs.Rule.{many}
use Rattle.bs_tree.specs.Grammar.{as_it_is}
use Rattle.bs_parse.specs.declared.cursor.Stop.{Stop}
use Rattle.bs_parse.specs.declared.cursor.Stop.TheVariants.{Memory, At}
use Rattle.bs_parse.specs.Seen.{Input, by_rule, onward, further, Follows, reason_of}

abbrev part : {B : Type 0} (r : Rule B) (depth : ℕ) (i : Input) → Outcome B
part r depth i = read most_allowed (reading most_allowed depth) r i.counts i.rest

module _ {A B : Type 0} (r : Rule B) (depth : ℕ) (i : Input) where
  pub onward_ends : (n : ℕ) (f : List B → A) → starts (begins r) i.rest ≡ false → onward r depth n f i ≡ got (f []) i.counts i.rest
  onward_ends zero f e = refl
  onward_ends (suc n) f e = rw e refl

  pub onward_refused : (n m : ℕ) (f : List B → A) (reason : Reason) (ts : List Terminal) → n ≡ suc m → starts (begins r) i.rest ≡ true → part r depth i ≡ bad reason ts → onward r depth n f i ≡ bad reason ts
  onward_refused n m f reason ts is e p = rw (is, e, p) refl

  shifted : (o : Outcome (List B)) (b : B) (f h : List B → A) → ((bs : List B) → f (b ∷ bs) ≡ h bs)
      → and_then (and_then (and_then o (λ bs counts ts. got (b ∷ bs) counts ts)) (λ bs counts ts. got bs counts ts)) (λ bs counts ts. got (f bs) counts ts) ≡ and_then (and_then o (λ bs counts ts. got bs counts ts)) (λ bs counts ts. got (h bs) counts ts)
  shifted (got bs counts ts) b f h e = ap (λ a. got a counts ts) (e bs)
  shifted (bad reason ts) b f h e = refl

  pub onward_turn : (n m : ℕ) (f h : List B → A) (j : Input) (b : B) → n ≡ suc m → starts (begins r) i.rest ≡ true → part r depth i ≡ got b j.counts j.rest → ((bs : List B) → f (b ∷ bs) ≡ h bs) → onward r depth m h j ≡ onward r depth n f i
  onward_turn n m f h j b is e p eq = sym (rw (is, e, p) (shifted (turns (read most_allowed (reading most_allowed depth) r) (begins r) m j.counts j.rest) b f h eq))

-- ---- turns of the loops, by what their functions say

at_depth : {A : Type 0} (r : Rule A) (i fn : Input) (b : A) (j : Input) → i.counts.brackets ≡ fn.counts.brackets → by_rule r i ≡ got b j.counts j.rest → read most_allowed (reading most_allowed (64 - fn.counts.brackets)) r i.counts i.rest ≡ got b j.counts j.rest
at_depth r i fn b j same p = subst (λ n. read most_allowed (reading most_allowed (64 - n)) r i.counts i.rest ≡ got b j.counts j.rest) same p

pub turned : {A B : Type 0} (r : Rule B) (fn i j : Input) (n m : ℕ) (f h : List B → A) (b : B) → n ≡ suc m → starts (begins r) i.rest ≡ true → i.counts.brackets ≡ fn.counts.brackets → by_rule r i ≡ got b j.counts j.rest → ((bs : List B) → f (b ∷ bs) ≡ h bs)
    → onward r (64 - fn.counts.brackets) m h j ≡ onward r (64 - fn.counts.brackets) n f i
turned r fn i j n m f h b is e same p eq = onward_turn r (64 - fn.counts.brackets) i n m f h j b is e (at_depth r i fn b j same p) eq

further_shifted : {A B : Type 0} (o : Outcome (List B)) (b : B) (f h : List B → A) → ((bs : List B) → f (b ∷ bs) ≡ h bs)
    → and_then (and_then o (λ bs counts ts. got (b ∷ bs) counts ts)) (λ bs counts ts. got (f bs) counts ts) ≡ and_then o (λ bs counts ts. got (h bs) counts ts)
further_shifted (got bs counts ts) b f h e = ap (λ a. got a counts ts) (e bs)
further_shifted (bad reason ts) b f h e = refl

pub further_turned : {A B : Type 0} (r : Rule B) (fn i j : Input) (n m : ℕ) (f h : List B → A) (b : B) → n ≡ suc m → starts (begins r) i.rest ≡ true → i.counts.brackets ≡ fn.counts.brackets → by_rule r i ≡ got b j.counts j.rest → ((bs : List B) → f (b ∷ bs) ≡ h bs)
    → further r (64 - fn.counts.brackets) m h j ≡ further r (64 - fn.counts.brackets) n f i
further_turned r fn i j n m f h b is e same p eq =
    let q = at_depth r i fn b j same p in
    sym (rw (is, e, q) (further_shifted (turns (read most_allowed (reading most_allowed (64 - fn.counts.brackets)) r) (begins r) m j.counts j.rest) b f h eq))

-- a list with one more item
pub pushed : {A : Type 0} (xs ys : List A) (b : A) (bs : List A) → ys ≡ xs ++ b ∷ [] → xs ++ (b ∷ bs) ≡ ys ++ bs
pushed xs ys b bs e = sym (ap (λ zs. zs ++ bs) e ∙ append_assoc xs (b ∷ []) bs)

-- where one of them stops
pub further_stops : {B : Type 0} (r : Rule B) (fn i j : Input) (n m : ℕ) (f : List B → List B) (stop : Stop) → n ≡ suc m → starts (begins r) i.rest ≡ true → i.counts.brackets ≡ fn.counts.brackets → Follows r (Err stop) i j
    → further r (64 - fn.counts.brackets) n f i ≡ by_rule (many as_it_is r) fn → Follows (many as_it_is r) (Err stop) fn j
further_stops r fn i j n m f Memory is e same p h = tt
further_stops r fn i j n m f (At reason) is e same p h =
    let q : read most_allowed (reading most_allowed (64 - fn.counts.brackets)) r i.counts i.rest ≡ bad (reason_of reason) j.rest = subst (λ n. read most_allowed (reading most_allowed (64 - n)) r i.counts i.rest ≡ bad (reason_of reason) j.rest) same p in
    let out : further r (64 - fn.counts.brackets) n f i ≡ bad (reason_of reason) j.rest = rw (is, e, q) refl in
    sym h ∙ out
