-- What the search finds is the first line that breaks a rule.
use Rattle.std.proofs.Common.{◌≡◌, ◌<◌, ◌⊎◌, inl, inr, ℕ, zero, suc, ◌+◌, List, [], ◌∷◌, Option, Some, None, Result, Ok, Err, IfOk, refl, sym, ap, subst, ◌∙◌, arith}
use Rattle.bs_log.specs.declared.log.Log.{Log}
use Rattle.bs_logcheck.specs.declared.rule.LogRule.{LogRule}
use Rattle.bs_logcheck.specs.declared.rule.LogRule.TheVariants.{BadLine, BadReference, BadDepth, TwiceUsed, Limits}
use Rattle.bs_logcheck.specs.declared.rule.Broken.{Broken}
use Rattle.bs_logcheck.specs.Lines.{Line, IsAt, all_lines}
use Rattle.bs_logcheck.specs.Rules.{Keeps, Breaks, rule_number, IsUpTo, IsFirstBroken, IsSound}
use Rattle.bs_logcheck.specs.Faults.{fault}
use Rattle.bs_logcheck.specs.Searched.{or_later, first_from, first_of, Finds}
use Rattle.bs_logcheck.proofs.Kept.{IsLeast, fault_is}
use Rattle.bs_logcheck.proofs.Lined.{all_lined}

-- the line at which the search stops
record Stops (l : Log) (n : ℕ) (xs : List Line) (b : Broken) : Type 0 where
  place : ℕ
  number_is : b.line ≡ n + place
  line : Line
  is_there : IsAt xs place line
  rule : IsLeast l line (Some b.rule)
  before : (q : ℕ) (y : Line) → q < place → IsAt xs q y → (r : LogRule) → Keeps l y r

abbrev Ends : Log → ℕ → List Line → Option Broken → Type 0
Ends l n xs None = (q : ℕ) (y : Line) → IsAt xs q y → (r : LogRule) → Keeps l y r
Ends l n xs (Some b) = Stops l n xs b

first_ends : (l : Log) (n : ℕ) (xs : List Line) → Ends l n xs (first_from l n xs)
first_ends l n [] = λ q y i. absurd i
first_ends l n (x ∷ xs) = by (fault l x) (fault_is l x) (first_from l (n + 1) xs) (first_ends l (n + 1) xs)
  where
    by_place : ((r : LogRule) → Keeps l x r) → (p : ℕ) → ((q : ℕ) (y : Line) → q < p → IsAt xs q y → (r : LogRule) → Keeps l y r) → (q : ℕ) (y : Line) → q < suc p → IsAt (x ∷ xs) q y → (r : LogRule) → Keeps l y r
    by_place k p h zero y w i r = subst (λ z. Keeps l z r) i (k r)
    by_place k p h (suc q) y w i r = h q y (omega arith) i r

    none_here : ((r : LogRule) → Keeps l x r) → ((q : ℕ) (y : Line) → IsAt xs q y → (r : LogRule) → Keeps l y r) → (q : ℕ) (y : Line) → IsAt (x ∷ xs) q y → (r : LogRule) → Keeps l y r
    none_here k h zero y i r = subst (λ z. Keeps l z r) i (k r)
    none_here k h (suc q) y i r = h q y i r

    by : (o : Option LogRule) → IsLeast l x o → (later : Option Broken) → Ends l (n + 1) xs later → Ends l n (x ∷ xs) (or_later n o later)
    by (Some r) least later e = record {
      place = 0;
      number_is = omega arith;
      line = x;
      is_there = refl;
      rule = least;
      before = λ q y w. absurd (omega arith);
    }
    by None kept None e = none_here kept e
    by None kept (Some b) e = let at = e.number_is in record {
      place = suc e.place;
      number_is = omega (arith, at);
      line = e.line;
      is_there = e.is_there;
      rule = e.rule;
      before = by_place kept e.place e.before;
    }

same_at : (xs : List Line) (p : ℕ) (x y : Line) → IsAt xs p x → IsAt xs p y → x ≡ y
same_at [] p x y i j = absurd i
same_at (z ∷ zs) zero x y i j = sym i ∙ j
same_at (z ∷ zs) (suc p) x y i j = same_at zs p x y i j

order : (m n : ℕ) → (m < n) ⊎ ((m ≡ n) ⊎ (n < m))
order zero zero = inr (inl refl)
order zero (suc n) = inl (omega arith)
order (suc m) zero = inr (inr (omega arith))
order (suc m) (suc n) = by (order m n)
  where
    by : (m < n) ⊎ ((m ≡ n) ⊎ (n < m)) → (suc m < suc n) ⊎ ((suc m ≡ suc n) ⊎ (suc n < suc m))
    by (inl h) = inl (omega arith)
    by (inr (inl e)) = inr (inl (ap suc e))
    by (inr (inr h)) = inr (inr (omega arith))

abbrev Answers : Log → Option Broken → Type 0
Answers l None = IsSound l
Answers l (Some b) = IsFirstBroken l b.line b.rule

answers : (l : Log) (o : Option Broken) → Ends l 3 (all_lines l) o → Answers l o
answers l None e = λ n r b. b.broken (e b.is_line.place b.line b.is_line.is_there r)
answers l (Some b) s = record {
  breaks = record { line = s.line; is_line = record { place = s.place; number_is = s.number_is; is_there = s.is_there }; broken = s.rule.0 };
  first = λ n r k. by n r k (order s.place k.is_line.place);
}
  where
    by : (n : ℕ) (r : LogRule) (k : Breaks l n r) → (s.place < k.is_line.place) ⊎ ((s.place ≡ k.is_line.place) ⊎ (k.is_line.place < s.place)) → IsUpTo b.line b.rule n r
    by n r k (inl h) = let a = s.number_is in let c = k.is_line.number_is in inl (omega (arith, a, c, h))
    by n r k (inr (inl e)) =
        let a = s.number_is in let c = k.is_line.number_is in
        let there = subst (λ p. IsAt (all_lines l) p k.line) (sym e) k.is_line.is_there in
        let same = same_at (all_lines l) s.place k.line s.line there s.is_there in
        inr (omega (arith, a, c, e), s.rule.1 r (subst (λ z. Keeps l z r → ⊥) same k.broken))
    by n r k (inr (inr h)) = absurd (k.broken (s.before k.is_line.place k.line h k.is_line.is_there r))

same_rule : (r s : LogRule) → rule_number r ≡ rule_number s → r ≡ s
same_rule BadLine BadLine e = refl
same_rule BadReference BadReference e = refl
same_rule BadDepth BadDepth e = refl
same_rule TwiceUsed TwiceUsed e = refl
same_rule Limits Limits e = refl
same_rule _ _ e = absurd (omega (arith, e))

-- at most one
pub only_one : (l : Log) (m n : ℕ) (r s : LogRule) → IsFirstBroken l m r → IsFirstBroken l n s → (m ≡ n) × (r ≡ s)
only_one l m n r s f g = by (f.first n s g.breaks) (g.first m r f.breaks)
  where
    by : IsUpTo m r n s → IsUpTo n s m r → (m ≡ n) × (r ≡ s)
    by (inl h) (inl k) = absurd (omega arith)
    by (inl h) (inr k) = absurd (let e = k.0 in omega (arith, h, e))
    by (inr h) (inl k) = absurd (let e = h.0 in omega (arith, k, e))
    by (inr h) (inr k) = (h.0, same_rule r s (let a = h.1 in let b = k.1 in omega (arith, a, b)))

finds_from : (l : Log) (o : Option Broken) → Answers l o → Finds l o
finds_from l None h = record {
  sound = (λ e. h, λ s. refl);
  first = λ n r. (λ e. absurd (cc), λ f. absurd (h n r f.breaks));
}
finds_from l (Some b) h = record {
  sound = (λ e. absurd (cc), λ s. absurd (s b.line b.rule h.breaks));
  first = λ n r. (λ e. subst (Answers l) e h, λ f. let o = only_one l b.line n b.rule r h f in ap (λ (x : Broken). Some x) (λ i. record { line = o.0 i; rule = o.1 i }));
}

pub finds : (l : Log) → Finds l (first_of l)
finds l = finds_from l (first_of l) (subst (Answers l) (sym (all_lined l)) (answers l (first_from l 3 (all_lines l)) (first_ends l 3 (all_lines l))))

pub found_is : {E : Type 0} (l : Log) (found : Result (Option Broken) E) → IfOk found (λ b. b ≡ first_of l) → IfOk found (λ b. Finds l b)
found_is l (Ok b) e = subst (Finds l) (sym e) (finds l)
found_is l (Err f) e = tt
