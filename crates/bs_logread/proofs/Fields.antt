-- A number that is read is the one that is spelled, and one that is spelled is read.
use Rattle.std.proofs.Common.{◌≡◌, ◌≤◌, ◌<◌, ℕ, suc, ◌-◌, ◌^◌, ◌==◌, ℤ, pos, negsuc, nat_le, nat_lt, Bool, true, false, not, ◌&&◌, ◌||◌, neg_ℤ, lit<, zero, if◌then◌else◌, List, [], ◌∷◌, ◌++◌, Option, Some, None, Result, Ok, Err, refl, sym, ap, ◌∙◌, arith}
use Rattle.std.specs.Prelude.{IfOk}
use Rattle.std.specs.List.{list_all}
use Rattle.std.specs.Int.{w64}
use Rattle.std.specs.Int.RustNames.{FitsSigned}
use Rattle.std.specs.Fmt.{decimal, signed_decimal}
use Rattle.std.proofs.lemmas.Option.{cond_some, same_Some, some_pair_parts}
use Rattle.std.proofs.lemmas.Bool.Decides.{nat_tests}
use Rattle.bs_num.specs.declared.fault.NumFault.{NumFault}
use Rattle.bs_num.specs.declared.fault.NumFault.TheVariants.{NotANumber, TooLarge}
use Rattle.bs_num.specs.Decimal.{is_digit, is_plain, value_of, number_in, signed_in, from_zero, below_zero}
use Rattle.bs_num.proofs.RoundTrip.{is_plain-decimal, number_printed, number_most, number_read, signed_read, signed_printed}
use Rattle.bs_log.specs.declared.history.TrapKind.{TrapKind}
use Rattle.bs_log.specs.declared.history.TrapKind.TheVariants.{Overflow, ZeroDivisor, Index, Target, WorkRange, BytesRange, CostRange, Steps}
use Rattle.bs_log.specs.ValidTest.{is_from, is_word}
use Rattle.bs_logtext.specs.Text.{kind_number}
use Rattle.bs_logread.specs.Words.{◌>>=◌, with_first, cut, behind, not_below, number_of, number_before, read_one, signed_of, signed_before}
use Rattle.bs_logread.specs.Line.{is_small}
use Rattle.bs_logread.specs.Spelled.{kind_of}

-- ---- options and tests

pub bind_some : {A B : Type 0} (o : Option A) (f : A → Option B) (y : B) → (o >>= f) ≡ Some y → (x : A) × (o ≡ Some x) × (f x ≡ Some y)
bind_some (Some x) f y e = (x, refl, e)
bind_some None f y e = absurd (cc)

pub both : {a b : Bool} → a ≡ true → b ≡ true → (a && b) ≡ true
both p q = rw p q

pub parted : (a b : Bool) → (a && b) ≡ true → (a ≡ true) × (b ≡ true)
parted true b e = (refl, e)
parted false b e = absurd (cc)

pub from_bounds : (least most n : ℕ) → least ≤ n → n ≤ most → is_from least most n ≡ true
from_bounds least most n p q =
    let a : nat_le least n ≡ true = grind (arith, nat_tests) in
    let b : nat_le n most ≡ true = grind (arith, nat_tests) in
    both a b

pub bounds : (least most n : ℕ) → is_from least most n ≡ true → (least ≤ n) × (n ≤ most)
bounds least most n e =
    let p = parted (nat_le least n) (nat_le n most) e in
    let a = p.0 in
    let b = p.1 in
    (grind (arith, nat_tests, a), grind (arith, nat_tests, b))

pub small_from : (n : ℕ) → is_from 0 (2 ^ 32 - 1) n ≡ true → is_small n ≡ true
small_from n e = let b = bounds 0 (2 ^ 32 - 1) n e in let c : n < 2 ^ 32 = omega (arith, b.1) in grind (arith, nat_tests)

pub small_to : (n : ℕ) → is_small n ≡ true → is_from 0 (2 ^ 32 - 1) n ≡ true
small_to n e = let c : n < 2 ^ 32 = grind (arith, nat_tests) in from_bounds 0 (2 ^ 32 - 1) n (omega arith) (omega (arith, c))

pub upto_from : (n : ℕ) → is_from 0 (2 ^ 30) n ≡ true → nat_le n (2 ^ 30) ≡ true
upto_from n e = (parted (nat_le 0 n) (nat_le n (2 ^ 30)) e).1

pub upto_to : (n : ℕ) → nat_le n (2 ^ 30) ≡ true → is_from 0 (2 ^ 30) n ≡ true
upto_to n e = let c : n ≤ 2 ^ 30 = grind (arith, nat_tests) in from_bounds 0 (2 ^ 30) n (omega arith) c

-- ---- bytes that aren't the mark

abbrev pub is_other : ℕ → ℕ → Bool
is_other mark b = not (b == mark)

-- no mark stands in the text
abbrev pub Lacks : ℕ → List ℕ → Type 0
Lacks mark text = list_all (is_other mark) text ≡ true

pub lacks_join : (mark : ℕ) (xs ys : List ℕ) → Lacks mark xs → Lacks mark ys → Lacks mark (xs ++ ys)
lacks_join mark [] ys p q = q
lacks_join mark (x ∷ xs) ys p q = let h = parted (is_other mark x) (list_all (is_other mark) xs) p in both h.0 (lacks_join mark xs ys h.1 q)

digit_is_other : (mark b : ℕ) → mark < 45 → is_digit b ≡ true → is_other mark b ≡ true
digit_is_other mark b m d =
    let h = parted (nat_le 48 b) (nat_le b 57) d in
    let a = h.0 in
    let least : 48 ≤ b = grind (arith, nat_tests, a) in
    let apart : (b == mark) ≡ false = grind (arith, nat_tests) in
    rw apart refl

digits_lack : (mark : ℕ) (xs : List ℕ) → mark < 45 → list_all is_digit xs ≡ true → Lacks mark xs
digits_lack mark [] m h = refl
digits_lack mark (x ∷ xs) m h = let p = parted (is_digit x) (list_all is_digit xs) h in both (digit_is_other mark x m p.0) (digits_lack mark xs m p.1)

plain_lacks : (mark : ℕ) (xs : List ℕ) → mark < 45 → is_plain xs ≡ true → Lacks mark xs
plain_lacks mark [] m h = refl
plain_lacks mark (x ∷ []) m h = both (digit_is_other mark x m h) refl
plain_lacks mark (x ∷ y ∷ xs) m h = digits_lack mark (x ∷ y ∷ xs) m (parted (not (x == 48)) (list_all is_digit (x ∷ y ∷ xs)) h).1

pub decimal_lacks : (mark n : ℕ) → mark < 45 → n < 2 ^ 64 → Lacks mark (decimal n)
decimal_lacks mark n m h = plain_lacks mark (decimal n) m (is_plain-decimal n h)

pub signed_lacks : (mark : ℕ) (z : ℤ) → mark < 45 → is_word z ≡ true → Lacks mark (signed_decimal z)
signed_lacks mark (pos n) m h = let k : n < 2 ^ 63 = grind (arith, nat_tests) in decimal_lacks mark n m (omega (arith, k))
signed_lacks mark (negsuc n) m h =
    let k : n < 2 ^ 63 = grind (arith, nat_tests) in
    let apart : (45 == mark) ≡ false = grind (arith, nat_tests) in
    let first : is_other mark 45 ≡ true = rw apart refl in
    both first (decimal_lacks mark (suc n) m (omega (arith, k)))

-- ---- a text that is cut

pub cut_front : (mark : ℕ) (xs rest : List ℕ) → Lacks mark xs → cut mark (xs ++ mark ∷ rest) ≡ Some (xs, rest)
cut_front mark [] rest h = let same : (mark == mark) ≡ true = grind (arith, nat_tests) in rw same refl
cut_front mark (x ∷ xs) rest h =
    let p = parted (is_other mark x) (list_all (is_other mark) xs) h in
    by (x == mark) p.0 (cut_front mark xs rest p.1)
  where
    by : (t : Bool) → not t ≡ true → cut mark (xs ++ mark ∷ rest) ≡ Some (xs, rest) → (if t then Some ([], xs ++ mark ∷ rest) else with_first x (cut mark (xs ++ mark ∷ rest))) ≡ Some (x ∷ xs, rest)
    by true o c = absurd (cc)
    by false o c = ap (with_first x) c

pub cut_parts : (mark : ℕ) (bs xs rest : List ℕ) → cut mark bs ≡ Some (xs, rest) → bs ≡ xs ++ mark ∷ rest
cut_parts mark [] xs rest e = absurd (cc)
cut_parts mark (b ∷ bs) xs rest e = by (b == mark) refl (cut mark bs) refl (cut_parts mark bs) e
  where
    by : (t : Bool) → (b == mark) ≡ t → (o : Option (List ℕ × List ℕ)) → cut mark bs ≡ o → ((ys end : List ℕ) → cut mark bs ≡ Some (ys, end) → bs ≡ ys ++ mark ∷ end) → (if t then Some ([], bs) else with_first b o) ≡ Some (xs, rest) → b ∷ bs ≡ xs ++ mark ∷ rest
    by true is o c more e =
        let q = some_pair_parts [] xs bs rest e in
        let m : b ≡ mark = grind (arith, nat_tests) in
        rw (← q.0) (rw (m, q.1) refl)
    by false is None c more e = absurd (cc)
    by false is (Some p) c more e =
        let q = some_pair_parts (b ∷ p.0) xs p.1 rest e in
        rw (← q.0, ← q.1) (ap (λ (t : List ℕ). b ∷ t) (more p.0 p.1 c))

pub behind_parts : (word text rest : List ℕ) → behind word text ≡ Some rest → text ≡ word ++ rest
behind_parts [] text rest e = same_Some text rest e
behind_parts (w ∷ ws) [] rest e = absurd (cc)
behind_parts (w ∷ ws) (b ∷ bs) rest e = by (w == b) refl (behind_parts ws bs rest) e
  where
    by : (t : Bool) → (w == b) ≡ t → (behind ws bs ≡ Some rest → bs ≡ ws ++ rest) → (if t then behind ws bs else None) ≡ Some rest → b ∷ bs ≡ w ∷ ws ++ rest
    by true is more e = let same : b ≡ w = grind (arith, nat_tests) in rw same (ap (λ (t : List ℕ). w ∷ t) (more e))
    by false is more e = absurd (cc)

-- ---- numbers

pub number_of_takes : (least most : ℕ) (text : List ℕ) (n : ℕ) → most < 2 ^ 64 → number_of least most text ≡ Some n → (text ≡ decimal n) × (is_from least most n ≡ true)
unfolding number_of
number_of_takes least most text n fits e = by (number_in most text) (number_printed most text fits) (number_most most text) e
  where
    by : (r : Result ℕ NumFault) → IfOk r (λ m. decimal m ≡ text) → IfOk r (λ m. m ≤ most) → not_below least r ≡ Some n → (text ≡ decimal n) × (is_from least most n ≡ true)
    by (Ok m) p q e =
        let g = cond_some (nat_le least m) m n e in
        let low = g.0 in
        let at_least : least ≤ m = grind (arith, nat_tests, low) in
        (sym p ∙ ap decimal g.1, ap (is_from least most) (sym g.1) ∙ from_bounds least most m at_least q)
    by (Err fault) p q e = absurd (cc)

pub number_of_again : (least most n : ℕ) → most < 2 ^ 64 → is_from least most n ≡ true → number_of least most (decimal n) ≡ Some n
unfolding number_of
number_of_again least most n fits e =
    let b = bounds least most n e in
    let low : nat_le least n ≡ true = (parted (nat_le least n) (nat_le n most) e).0 in
    ap (not_below least) (number_read most n fits b.1) ∙ rw low refl

pub number_before_takes : (least most : ℕ) (text : List ℕ) (n : ℕ) (rest : List ℕ) → most < 2 ^ 64 → number_before least most text ≡ Some (n, rest) → (text ≡ decimal n ++ 32 ∷ rest) × (is_from least most n ≡ true)
unfolding number_before
number_before_takes least most text n rest fits e =
    let a = bind_some (cut 32 text) (λ p. number_of least most p.0 >>= λ n. Some (n, p.1)) (n, rest) e in
    let b = bind_some (number_of least most a.0.0) (λ n. Some (n, a.0.1)) (n, rest) a.2 in
    let both_are = same_Some (b.0, a.0.1) (n, rest) b.2 in
    let n_is : b.0 ≡ n = ap (λ (p : ℕ × List ℕ). p.0) both_are in
    let rest_is : a.0.1 ≡ rest = ap (λ (p : ℕ × List ℕ). p.1) both_are in
    let parts = cut_parts 32 text a.0.0 a.0.1 a.1 in
    let t = number_of_takes least most a.0.0 b.0 fits b.1 in
    (parts ∙ (ap (λ (x : List ℕ). x ++ 32 ∷ a.0.1) (t.0 ∙ ap decimal n_is) ∙ ap (λ (x : List ℕ). decimal n ++ 32 ∷ x) rest_is), ap (is_from least most) (sym n_is) ∙ t.1)

pub number_before_again : (least most n : ℕ) (rest : List ℕ) → most < 2 ^ 64 → is_from least most n ≡ true → number_before least most (decimal n ++ 32 ∷ rest) ≡ Some (n, rest)
unfolding number_before
number_before_again least most n rest fits e =
    let b = bounds least most n e in
    rw (cut_front 32 (decimal n) rest (decimal_lacks 32 n (lit< tt) (omega (arith, b.1))), number_of_again least most n fits e) refl

-- ---- numbers with a sign

word_fits : (z : ℤ) → is_word z ≡ true → FitsSigned w64 z
word_fits (pos n) e = let k : n < 2 ^ 63 = grind (arith, nat_tests) in omega (arith, k)
word_fits (negsuc n) e = let k : n < 2 ^ 63 = grind (arith, nat_tests) in omega (arith, k)

below_range : (n : ℕ) (plain none over : Bool) → (n == 0) ≡ none → nat_lt (2 ^ 63) n ≡ over
    → IfOk (if not plain || none then Err NotANumber else (if over then Err TooLarge else Ok (neg_ℤ (pos n)))) (λ z. is_word z ≡ true)
below_range n false none over a b = tt
below_range n true true over a b = tt
below_range n true false true a b = tt
below_range zero true false false a b = absurd (cc)
below_range (suc n) true false false a b = grind (arith, nat_tests)

from_range : (r : Result ℕ NumFault) → IfOk r (λ n. n ≤ 2 ^ 63 - 1) → IfOk (from_zero r) (λ z. is_word z ≡ true)
from_range (Ok n) h = let k : n < 2 ^ 63 = omega (arith, h) in grind (arith, nat_tests)
from_range (Err fault) h = tt

signed_range : (text : List ℕ) → IfOk (signed_in text) (λ z. is_word z ≡ true)
signed_range [] = tt
signed_range (first ∷ rest) = by (first == 45)
  where
    by : (t : Bool) → IfOk (if t then below_zero rest else from_zero (number_in (2 ^ 63 - 1) (first ∷ rest))) (λ z. is_word z ≡ true)
    by true = below_range (value_of rest) (is_plain rest) (value_of rest == 0) (nat_lt (2 ^ 63) (value_of rest)) refl refl
    by false = from_range (number_in (2 ^ 63 - 1) (first ∷ rest)) (number_most (2 ^ 63 - 1) (first ∷ rest))

pub signed_of_takes : (text : List ℕ) (z : ℤ) → signed_of text ≡ Some z → (text ≡ signed_decimal z) × (is_word z ≡ true)
unfolding signed_of
signed_of_takes text z e = by (signed_in text) (signed_range text) (signed_printed text) e
  where
    by : (r : Result ℤ NumFault) → IfOk r (λ m. is_word m ≡ true) → IfOk r (λ m. signed_decimal m ≡ text) → read_one r ≡ Some z → (text ≡ signed_decimal z) × (is_word z ≡ true)
    by (Ok m) h p e = let q = same_Some m z e in (sym p ∙ ap signed_decimal q, ap is_word (sym q) ∙ h)
    by (Err fault) h p e = absurd (cc)

pub signed_of_again : (z : ℤ) → is_word z ≡ true → signed_of (signed_decimal z) ≡ Some z
unfolding signed_of
signed_of_again z e = ap read_one (signed_read z (word_fits z e))

pub signed_before_takes : (text : List ℕ) (z : ℤ) (rest : List ℕ) → signed_before text ≡ Some (z, rest) → (text ≡ signed_decimal z ++ 32 ∷ rest) × (is_word z ≡ true)
unfolding signed_before
signed_before_takes text z rest e =
    let a = bind_some (cut 32 text) (λ p. signed_of p.0 >>= λ z. Some (z, p.1)) (z, rest) e in
    let b = bind_some (signed_of a.0.0) (λ z. Some (z, a.0.1)) (z, rest) a.2 in
    let both_are = same_Some (b.0, a.0.1) (z, rest) b.2 in
    let z_is : b.0 ≡ z = ap (λ (p : ℤ × List ℕ). p.0) both_are in
    let rest_is : a.0.1 ≡ rest = ap (λ (p : ℤ × List ℕ). p.1) both_are in
    let parts = cut_parts 32 text a.0.0 a.0.1 a.1 in
    let t = signed_of_takes a.0.0 b.0 b.1 in
    (parts ∙ (ap (λ (x : List ℕ). x ++ 32 ∷ a.0.1) (t.0 ∙ ap signed_decimal z_is) ∙ ap (λ (x : List ℕ). signed_decimal z ++ 32 ∷ x) rest_is), ap is_word (sym z_is) ∙ t.1)

pub signed_before_again : (z : ℤ) (rest : List ℕ) → is_word z ≡ true → signed_before (signed_decimal z ++ 32 ∷ rest) ≡ Some (z, rest)
unfolding signed_before
signed_before_again z rest e = rw (cut_front 32 (signed_decimal z) rest (signed_lacks 32 z (lit< tt) e), signed_of_again z e) refl

-- ---- reasons to stop

pub kind_again : (k : TrapKind) → kind_of (kind_number k) ≡ k
kind_again Overflow = refl
kind_again ZeroDivisor = refl
kind_again Index = refl
kind_again Target = refl
kind_again WorkRange = refl
kind_again BytesRange = refl
kind_again CostRange = refl
kind_again Steps = refl

pub kind_in : (k : TrapKind) → is_from 1 8 (kind_number k) ≡ true
kind_in Overflow = refl
kind_in ZeroDivisor = refl
kind_in Index = refl
kind_in Target = refl
kind_in WorkRange = refl
kind_in BytesRange = refl
kind_in CostRange = refl
kind_in Steps = refl

pub kind_back : (n : ℕ) → is_from 1 8 n ≡ true → n ≡ kind_number (kind_of n)
kind_back zero r = absurd (cc)
kind_back (suc zero) r = refl
kind_back (suc (suc zero)) r = refl
kind_back (suc (suc (suc zero))) r = refl
kind_back (suc (suc (suc (suc zero)))) r = refl
kind_back (suc (suc (suc (suc (suc zero))))) r = refl
kind_back (suc (suc (suc (suc (suc (suc zero)))))) r = refl
kind_back (suc (suc (suc (suc (suc (suc (suc zero))))))) r = refl
kind_back (suc (suc (suc (suc (suc (suc (suc (suc n)))))))) r = let b = bounds 1 8 (suc (suc (suc (suc (suc (suc (suc (suc n)))))))) r in let none : n ≡ 0 = omega (arith, b.1) in rw none refl
