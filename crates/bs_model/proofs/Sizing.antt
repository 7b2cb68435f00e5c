-- The size of histories together, when one is made anew or pushed.
use Rattle.std.proofs.Common.{◌≡◌, ◌≤◌, ◌<◌, ◌⊎◌, inl, inr, ℕ, zero, suc, ◌+◌, ◌*◌, false, List, [], ◌∷◌, ◌++◌, Some, length, get_or, slice_get, set, refl, sym, ap, subst, ◌∙◌, arith}
use Rattle.std.proofs.lemmas.Bool.{cases_eq}
use Rattle.std.proofs.lemmas.Option.{slice_get-get_or, slice_get_within}
use Rattle.std.proofs.lemmas.List.Sums.{sum_by-append, sum_by-cons, sum_by-set}
use Rattle.bs_log.specs.declared.history.History.{History}
use Rattle.bs_log.specs.Size.{size, size_all}
use Rattle.bs_model.proofs.Places.{get_set_other, get_set_same}

pub size_at : (hs : List History) (c : ℕ) (d : History) → c < length hs → size (get_or hs c d) ≤ size_all hs
size_at hs c d l = let one = sum_by-set size hs c (record { blocks = []; asked = []; waits = []; traps = []; ended = false }) d l in omega (arith, one)

pub size_set : (hs : List History) (c : ℕ) (h d : History) → c < length hs → size_all (set hs c h) + size (get_or hs c d) ≡ size_all hs + size h
size_set hs c h d l = sum_by-set size hs c h d l

pub size_push : (hs : List History) (h : History) → size_all (hs ++ h ∷ []) ≡ size_all hs + size h
size_push hs h =
    let both = sum_by-append size hs (h ∷ []) in
    let one = sum_by-cons size h [] in
    omega (arith, both, one)

-- none is longer than the greatest limit
abbrev pub AreLow : List History → Type 0
AreLow hs = (c : ℕ) (h : History) → slice_get hs c ≡ Some h → size h ≤ 262144

pub low_all : (hs : List History) → AreLow hs → size_all hs ≤ 262144 * length hs
low_all [] low = omega arith
low_all (h ∷ hs) low =
    let one = sum_by-cons size h hs in
    let first = low zero h refl in
    let rest = low_all hs (λ c x e. low (suc c) x e) in
    omega (arith, one, first, rest)

pub low_set : (hs : List History) (k : ℕ) (h : History) → k < length hs → size h ≤ 262144 → AreLow hs → AreLow (set hs k h)
low_set hs k h l few low c x e = by_case (cases_eq k c)
  where
    by_case : (k ≡ c) ⊎ (k ≡ c → ⊥) → size x ≤ 262144
    by_case (inl same) =
        let one = get_set_same hs k h l in
        let two : slice_get (set hs k h) k ≡ Some x = subst (λ c. slice_get (set hs k h) c ≡ Some x) (sym same) e in
        let is : h ≡ x = cc in
        subst (λ h. size h ≤ 262144) is few
    by_case (inr other) = low c x (sym (get_set_other hs k c h other) ∙ e)

pub low_one : (hs : List History) (limit : ℕ) → limit ≤ 262144 → size_all hs ≤ limit → AreLow hs
low_one hs limit small most c h e =
    let l = slice_get_within hs c h e in
    let at = size_at hs c h l in
    let one = slice_get-get_or hs c h l in
    let is : h ≡ get_or hs c h = cc in
    let same = ap size is in
    omega (arith, at, same, most, small)
