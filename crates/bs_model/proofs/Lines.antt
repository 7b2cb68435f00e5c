-- A line, as a number is taken out of it or put in.
use Rattle.std.proofs.Common.{◌≡◌, ◌<◌, ◌⊎◌, inl, inr, ◌↔◌, ℕ, Option, Some, None, Bool, true, false, IsTrue, List, [], ◌∷◌, length, refl, sym, ap, ◌∙◌, arith, eq-eqb}
use Rattle.std.specs.BTreeSet.{contains, Updates, IsLowerBound}
use Rattle.std.specs.BTreeMap.{is_at}
use Rattle.std.specs.List.{list_any}
use Rattle.std.proofs.lemmas.Bool.{cases_Bool, cases_eq, cond-true, cond-false, ne_eqb}
use Rattle.bs_model.specs.declared.line.Line.{Line}
use Rattle.bs_model.specs.Line.{IsChanged, IsFirst, IsLine, key_cmp, put_at}
use Rattle.bs_model.proofs.Keys.{same_key, other_key, key_up}

pub put_same : (f : ℕ → Option ℕ) (number : ℕ) (o : Option ℕ) (n : ℕ) → n ≡ number → put_at f number o n ≡ o
put_same f number o n e = cond-true _ _ _ (eq-eqb n number e)

pub put_other : (f : ℕ → Option ℕ) (number : ℕ) (o : Option ℕ) (n : ℕ) → (n ≡ number → ⊥) → put_at f number o n ≡ f n
put_other f number o n e = cond-false _ _ _ (ne_eqb n number e)

-- a line stands for the ticks that each number has
pub line_same : (f g : ℕ → Option ℕ) (line : Line) → ((n : ℕ) → g n ≡ f n) → IsLine f line → IsLine g line
line_same f g line e h t = (λ k. e t.1 ∙ (h t).0 k, λ k. (h t).1 (sym (e t.1) ∙ k))

module _ (f : ℕ → Option ℕ) (old new : Line) (number tick : ℕ) (is : IsLine f old) where
  abbrev key : ℕ × ℕ
  key = (tick, number)

  -- a key that is another one, though its number is the same
  apart : (t : ℕ × ℕ) → (key ≡ t → ⊥) → t.1 ≡ number → t.0 ≡ tick → ⊥
  apart t other n k = other (λ i. (sym k i, sym n i))

  module _ (updates : Updates key_cmp old.keys new.keys key false) (at : f number ≡ Some tick) where
    without : (t : ℕ × ℕ) → (is_at (key_cmp key) t ≡ true) ⊎ (is_at (key_cmp key) t ≡ false) → (t.1 ≡ number) ⊎ (t.1 ≡ number → ⊥) → IsTrue (contains key_cmp new.keys t) ↔ (put_at f number None t.1 ≡ Some t.0)
    without t (inl e) n =
        let gone : contains key_cmp new.keys t ≡ false = updates.0 t ∙ cond-true _ _ _ e in
        let same = ap (λ (k : ℕ × ℕ). k.1) (sym (same_key key t e)) in
        let none = put_same f number None t.1 same in
        (λ k. absurd (cc), λ k. absurd (cc))
    without t (inr e) (inl n) =
        let kept : contains key_cmp new.keys t ≡ contains key_cmp old.keys t = updates.0 t ∙ cond-false _ _ _ e in
        let none = put_same f number None t.1 n in
        let there = ap f n ∙ at in
        (λ k. let has = (is t).0 (sym kept ∙ k) in let one : t.0 ≡ tick = cc in absurd (apart t (other_key key t e) n one), λ k. absurd (cc))
    without t (inr e) (inr n) =
        let kept : contains key_cmp new.keys t ≡ contains key_cmp old.keys t = updates.0 t ∙ cond-false _ _ _ e in
        let same = put_other f number None t.1 n in
        (λ k. same ∙ (is t).0 (sym kept ∙ k), λ k. kept ∙ (is t).1 (sym same ∙ k))

    pub taken_out : IsLine (put_at f number None) new
    taken_out t = without t (cases_Bool (is_at (key_cmp key) t)) (cases_eq t.1 number)

  module _ (updates : Updates key_cmp old.keys new.keys key true) (at : f number ≡ None) where
    within : (t : ℕ × ℕ) → (is_at (key_cmp key) t ≡ true) ⊎ (is_at (key_cmp key) t ≡ false) → (t.1 ≡ number) ⊎ (t.1 ≡ number → ⊥) → IsTrue (contains key_cmp new.keys t) ↔ (put_at f number (Some tick) t.1 ≡ Some t.0)
    within t (inl e) n =
        let there : contains key_cmp new.keys t ≡ true = updates.0 t ∙ cond-true _ _ _ e in
        let one = ap (λ (k : ℕ × ℕ). k.1) (sym (same_key key t e)) in
        let two = ap (λ (k : ℕ × ℕ). k.0) (same_key key t e) in
        (λ k. put_same f number (Some tick) t.1 one ∙ ap (λ x. Some x) two, λ k. there)
    within t (inr e) (inl n) =
        let kept : contains key_cmp new.keys t ≡ contains key_cmp old.keys t = updates.0 t ∙ cond-false _ _ _ e in
        let none = ap f n ∙ at in
        let some = put_same f number (Some tick) t.1 n in
        (λ k. let has = (is t).0 (sym kept ∙ k) in absurd (cc), λ k. let one : t.0 ≡ tick = cc in absurd (apart t (other_key key t e) n one))
    within t (inr e) (inr n) =
        let kept : contains key_cmp new.keys t ≡ contains key_cmp old.keys t = updates.0 t ∙ cond-false _ _ _ e in
        let same = put_other f number (Some tick) t.1 n in
        (λ k. same ∙ (is t).0 (sym kept ∙ k), λ k. kept ∙ (is t).1 (sym same ∙ k))

    pub put_in : IsLine (put_at f number (Some tick)) new
    put_in t = within t (cases_Bool (is_at (key_cmp key) t)) (cases_eq t.1 number)

-- a number of the tick that it had, and then of another one
pub changed : (f g : ℕ → Option ℕ) (number : ℕ) (tick : Option ℕ) (line : Line) → IsChanged f g number tick → IsLine (put_at (put_at f number None) number tick) line → IsLine g line
changed f g number tick line c = line_same _ g line (λ n. by_case n (cases_eq n number))
  where
    by_case : (n : ℕ) → (n ≡ number) ⊎ (n ≡ number → ⊥) → g n ≡ put_at (put_at f number None) number tick n
    by_case n (inl e) = ap g e ∙ (c.at ∙ sym (put_same (put_at f number None) number tick n e))
    by_case n (inr e) = c.others n e ∙ (sym (put_other f number None n e) ∙ sym (put_other (put_at f number None) number tick n e))

-- the first key of a line is the first one
pub first_some : (f : ℕ → Option ℕ) (line : Line) (t : ℕ × ℕ) → IsLine f line → IsTrue (contains key_cmp line.keys t) → IsLowerBound key_cmp line.keys t → IsFirst f (Some t)
first_some f line t is has low = record {
  is = (is t).0 has;
  least = λ n tick e. key_up t (tick, n) (low (tick, n) ((is (tick, n)).1 e));
}

pub first_none : (f : ℕ → Option ℕ) (line : Line) → IsLine f line → (0 < length line.keys.keys → ⊥) → IsFirst f None
first_none f line is none n = by_case (f n) refl
  where
    in_none : (p : ℕ × ℕ → Bool) (ks : List (ℕ × ℕ)) → (0 < length ks → ⊥) → list_any p ks ≡ false
    in_none p [] h = refl
    in_none p (k ∷ ks) h = absurd (h (omega arith))

    by_case : (o : Option ℕ) → f n ≡ o → o ≡ None
    by_case None e = refl
    by_case (Some tick) e = let has = (is (tick, n)).1 e in let not = in_none (is_at (key_cmp (tick, n))) line.keys.keys none in absurd (cc)
