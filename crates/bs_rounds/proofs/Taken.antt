-- Histories that are taken one by one.
use Rattle.std.proofs.Common.{◌≡◌, ◌⊎◌, ◌<◌, ◌≤◌, inl, inr, ℕ, zero, suc, ◌+◌, Bool, false, List, [], ◌∷◌, refl, sym, ap, subst, ◌∙◌, length, get_or, set, map, sum_by, arith}
use Rattle.std.proofs.lemmas.Bool.{cases_lt}
use Rattle.std.proofs.lemmas.List.{get_or-set_same, get_or-set_other, ext_get_or}
use Rattle.std.proofs.lemmas.List.Sums.{sum_by-set}
use Rattle.bs_tree.specs.declared.tree.Program.{Program}
use Rattle.bs_log.specs.declared.history.Message.{Message}
use Rattle.bs_log.specs.declared.history.History.{History}
use Rattle.bs_log.specs.Size.{size, size_all}
use Rattle.bs_log.specs.Histories.{no_history, history_at}
use Rattle.bs_semantics.specs.Run.{history}
use Rattle.bs_semantics.specs.Rounds.{from_to, chares}
use Rattle.bs_rounds.specs.Posting.{flag, held}
use Rattle.bs_rounds.specs.Taking.{histories_under}

pub size_at : (hs : List History) (c : ℕ) → c < length hs → size (history_at hs c) ≤ size_all hs
size_at hs c l = let one = sum_by-set size hs c no_history no_history l in omega (arith, one)

pub size_set : (hs : List History) (c : ℕ) (h : History) → c < length hs → size_all (set hs c h) + size (history_at hs c) ≡ size_all hs + size h
size_set hs c h l = sum_by-set size hs c h no_history l

pub count_from : (f : ℕ → History) (n k : ℕ) → length (map f (from_to k n)) ≡ n
count_from f zero k = refl
count_from f (suc n) k = ap suc (count_from f n (k + 1))

pub nth_from : (f : ℕ → History) (n k c : ℕ) (d : History) → c < n → get_or (map f (from_to k n)) c d ≡ f (k + c)
nth_from f zero k c d l = absurd (omega (arith, l))
nth_from f (suc n) k zero d l = let e : k ≡ k + 0 = omega arith in ap f e
nth_from f (suc n) k (suc c) d l = let e : (k + 1) + c ≡ k + suc c = omega arith in nth_from f n (k + 1) c d (omega (arith, l)) ∙ ap f e

pub nth : (f : ℕ → History) (n c : ℕ) (d : History) → c < n → get_or (map f (from_to 0 n)) c d ≡ f c
nth f n c d l = let e : 0 + c ≡ c = omega arith in nth_from f n 0 c d l ∙ ap f e

pub each_is : (f : ℕ → History) (n : ℕ) (hs : List History) → length hs ≡ n → ((c : ℕ) → c < n → history_at hs c ≡ f c) → hs ≡ map f (from_to 0 n)
each_is f n hs e h = ext_get_or no_history hs (map f (from_to 0 n)) (e ∙ sym (count_from f n 0)) (λ c l. let k : c < n = omega (arith, e, l) in h c k ∙ sym (nth f n c no_history k))

-- what holds of the chares before c and of those that aren't marked
abbrev pub SoFar : (ℕ → Type 0) → ℕ → List Bool → ℕ → Type 0
SoFar P n marks i = (c : ℕ) → c < n → (c < i) ⊎ (flag marks c ≡ false) → P c

abbrev pub IsRight : (ℕ → History) → List History → ℕ → Type 0
IsRight f hs c = history_at hs c ≡ f c

pub one_skipped : (f : ℕ → History) (n : ℕ) (marks : List Bool) (hs : List History) (i : ℕ) → SoFar (IsRight f hs) n marks i → flag marks i ≡ false → SoFar (IsRight f hs) n marks (i + 1)
one_skipped f n marks hs i h e c l (inr u) = h c l (inr u)
one_skipped f n marks hs i h e c l (inl k) = by_order (cases_lt c i)
  where
    by_order : (c < i) ⊎ (i ≤ c) → IsRight f hs c
    by_order (inl m) = h c l (inl m)
    by_order (inr m) = let q : i ≡ c = omega (arith, k, m) in h c l (inr (subst (λ c. flag marks c ≡ false) q e))

pub one_taken : (f : ℕ → History) (n : ℕ) (marks : List Bool) (hs : List History) (i : ℕ) (h : History) → i < length hs → SoFar (IsRight f hs) n marks i → h ≡ f i → SoFar (IsRight f (set hs i h)) n marks (i + 1)
one_taken f n marks hs i h w s e c l k = by_order k (cases_lt c i) (cases_lt i c)
  where
    other : (c ≡ i → ⊥) → (c < i) ⊎ (flag marks c ≡ false) → IsRight f (set hs i h) c
    other d k = get_or-set_other hs i c h no_history d ∙ s c l k

    by_order : (c < i + 1) ⊎ (flag marks c ≡ false) → (c < i) ⊎ (i ≤ c) → (i < c) ⊎ (c ≤ i) → IsRight f (set hs i h) c
    by_order k (inl m) o = other (λ q. omega (arith, q, m)) (inl m)
    by_order (inl k) (inr m) (inl o) = absurd (omega (arith, k, o))
    by_order (inr u) (inr m) (inl o) = other (λ q. omega (arith, q, o)) (inr u)
    by_order k (inr m) (inr o) = let q : i ≡ c = omega (arith, m, o) in subst (IsRight f (set hs i h)) q (get_or-set_same hs i h no_history w ∙ e)

pub all_taken : (f : ℕ → History) (n : ℕ) (marks : List Bool) (hs : List History) (i : ℕ) → n ≤ i → length hs ≡ n → SoFar (IsRight f hs) n marks i → hs ≡ map f (from_to 0 n)
all_taken f n marks hs i l e s = each_is f n hs e (λ c k. s c k (inl (omega (arith, l, k))))
