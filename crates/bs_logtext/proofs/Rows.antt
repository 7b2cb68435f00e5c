-- The rows of a log by their numbers.
use Rattle.std.proofs.Common.{◌≡◌, inl, inr, ℕ, zero, suc, ◌+◌, ◌-◌, ◌==◌, Bool, true, false, if◌then◌else◌, List, [], ◌∷◌, ◌++◌, Some, None, refl, sym, ap, subst, ◌∙◌, length, map, get_or, slice_get, arith}
use Rattle.std.proofs.lemmas.Bool.Decides.{nat_tests}
use Rattle.bs_log.specs.declared.history.Block.{Block}
use Rattle.bs_log.specs.declared.history.History.{History}
use Rattle.bs_log.specs.declared.log.Row.{Row}
use Rattle.bs_log.specs.Messages.{same_path}
use Rattle.bs_log.specs.Checks.{has_path}
use Rattle.bs_log.specs.Collected.{place, number_of, row_of, rows_from}
use Rattle.bs_log.specs.Linked.{IsAt, firsts_from}
use Rattle.bs_log.specs.Valid.{numbered, EachFrom}
use Rattle.bs_log.specs.Lists.{Mem}
use Rattle.bs_log.specs.Rising.{Rising}
use Rattle.bs_log.proofs.ClosedTests.{same_path_is, lt_is}
use Rattle.bs_log.proofs.Links.{has_member}
use Rattle.bs_log.proofs.Numbers.{number_is, not_below_itself}
use Rattle.bs_log.proofs.Order.{least}

-- an item at its place, counted from 0
abbrev pub At : {A : Type 0} → List A → ℕ → A → Type 0
At [] i y = ⊥
At (x ∷ xs) zero y = x ≡ y
At (x ∷ xs) (suc i) y = At xs i y

pub member_at : {A : Type 0} (xs : List A) (y : A) → Mem y xs → (i : ℕ) × At xs i y
member_at [] y m = absurd m
member_at (x ∷ xs) y (inl e) = (0, sym e)
member_at (x ∷ xs) y (inr m) = let r = member_at xs y m in (suc r.0, r.1)

pub at_member : {A : Type 0} (xs : List A) (i : ℕ) (y : A) → At xs i y → Mem y xs
at_member [] i y a = absurd a
at_member (x ∷ xs) zero y a = inl (sym a)
at_member (x ∷ xs) (suc i) y a = inr (at_member xs i y a)

front_at : {A B : Type 0} (f : A → B) (xs : List A) (ys : List B) (i : ℕ) (y : A) → At xs i y → At (map f xs ++ ys) i (f y)
front_at f [] ys i y a = absurd a
front_at f (x ∷ xs) ys zero y a = ap f a
front_at f (x ∷ xs) ys (suc i) y a = front_at f xs ys i y a

behind_at : {A B : Type 0} (f : A → B) (xs : List A) (ys : List B) (i j : ℕ) (y : B) → j ≡ length xs + i → At ys i y → At (map f xs ++ ys) j y
behind_at f [] ys i j y e a = let q : i ≡ j = omega arith in subst (λ k. At ys k y) q a
behind_at f (x ∷ xs) ys i zero y e a = absurd (omega arith)
behind_at f (x ∷ xs) ys i (suc j) y e a = behind_at f xs ys i j y (omega arith) a

get_at : {A : Type 0} (xs : List A) (i : ℕ) (y : A) → At xs i y → slice_get xs i ≡ Some y
get_at [] i y a = absurd a
get_at (x ∷ xs) zero y a = ap Some a
get_at (x ∷ xs) (suc i) y a = get_at xs i y a

pub numbered_at : {A : Type 0} (xs : List A) (n i : ℕ) (y : A) → n ≡ i + 1 → At xs i y → numbered xs n ≡ Some y
numbered_at xs n i y e a =
    let no : (n == 0) ≡ false = grind (arith, nat_tests) in
    let k : n - 1 ≡ i = omega arith in
    ap (λ b. if b then None else slice_get xs (n - 1)) no ∙ ap (λ z. slice_get xs z) k ∙ get_at xs i y a

-- in blocks that rise, a block stands at the place of its path
path_is : (bs : List Block) (i : ℕ) (x : Block) → At bs i x → has_path bs x.path ≡ true
path_is bs i x a = has_member bs x x.path (at_member bs i x a) refl

place_at : (bs : List Block) (i : ℕ) (x : Block) → Rising bs → At bs i x → place (λ b. same_path b.path x.path) bs ≡ i
place_at [] i x r a = absurd a
place_at (y ∷ ys) zero x r a =
    let same : same_path y.path x.path ≡ true = (same_path_is y.path x.path).1 (ap (λ (b : Block). b.path) a) in
    ap (λ b. if b then 0 else suc (place (λ b. same_path b.path x.path) ys)) same
place_at (y ∷ ys) (suc i) x r a = by (same_path y.path x.path) refl (place_at ys i x r.1 a)
  where
    by : (b : Bool) → same_path y.path x.path ≡ b → place (λ b. same_path b.path x.path) ys ≡ i → (if same_path y.path x.path then 0 else suc (place (λ b. same_path b.path x.path) ys)) ≡ suc i
    by true e p = absurd (not_below_itself y.path x.path ((same_path_is y.path x.path).0 e) ((lt_is _).1 (r.0 x (at_member ys i x a))))
    by false e p = ap (λ b. if b then 0 else suc (place (λ b. same_path b.path x.path) ys)) e ∙ ap suc p

pub number_at : (hs : List History) (c : ℕ) (h : History) (i : ℕ) (x : Block) → IsAt hs c h → Rising h.blocks → At h.blocks i x → number_of hs c x.path ≡ get_or (firsts_from 0 hs) c 0 + i + 1
number_at hs c h i x k r a = number_is hs c h x.path 0 k (path_is h.blocks i x a) ∙ ap (λ z. get_or (firsts_from 0 hs) c 0 + z + 1) (place_at h.blocks i x r a)

-- the row of a block
row_at : (all hs : List History) (k n j i m c : ℕ) (h : History) (x : Block) → c ≡ k + j → IsAt hs j h → At h.blocks i x → n + m ≡ get_or (firsts_from n hs) j 0 + i → At (rows_from all k hs) m (row_of all c x)
row_at all [] k n j i m c h x q t a e = absurd t
row_at all (y ∷ ys) k n zero i m c h x q t a e =
    let at : i ≡ m = omega arith in
    let here : k ≡ c = omega arith in
    subst (λ z. At (map (row_of all k) y.blocks ++ rows_from all (k + 1) ys) z (row_of all c x)) at
    (subst (λ z. At (map (row_of all k) y.blocks ++ rows_from all (k + 1) ys) i (row_of all z x)) here
    (front_at (row_of all k) y.blocks (rows_from all (k + 1) ys) i x (subst (λ (z : History). At z.blocks i x) (sym t) a)))
row_at all (y ∷ ys) k n (suc j) i m c h x q t a e =
    let low = least (n + length y.blocks) ys j h t in
    let rest : m ≡ length y.blocks + (m - length y.blocks) = omega (arith, low) in
    behind_at (row_of all k) y.blocks (rows_from all (k + 1) ys) (m - length y.blocks) m (row_of all c x) rest
    (row_at all ys (k + 1) (n + length y.blocks) j i (m - length y.blocks) c h x (omega arith) t a (omega (arith, low, e)))

pub row_is : (hs : List History) (c : ℕ) (h : History) (x : Block) → IsAt hs c h → Rising h.blocks → Mem x h.blocks → numbered (rows_from hs 0 hs) (number_of hs c x.path) ≡ Some (row_of hs c x)
row_is hs c h x t r m =
    let i = member_at h.blocks x m in
    let n = number_at hs c h i.0 x t r i.1 in
    numbered_at (rows_from hs 0 hs) (number_of hs c x.path) (get_or (firsts_from 0 hs) c 0 + i.0) (row_of hs c x) n
    (row_at hs hs 0 0 c i.0 (get_or (firsts_from 0 hs) c 0 + i.0) c h x (omega arith) t i.1 (omega arith))

-- what holds of the row of each block, with its number, holds of each row
each_block : (P : ℕ → Row → Type 0) (all : List History) (c : ℕ) (bs : List Block) (rest : List Row) (n : ℕ) → ((i : ℕ) (x : Block) → At bs i x → P (n + i + 1) (row_of all c x)) → EachFrom P (n + length bs + 1) rest
    → EachFrom P (n + 1) (map (row_of all c) bs ++ rest)
each_block P all c [] rest n f g = let e : n + 0 + 1 ≡ n + 1 = omega arith in subst (λ z. EachFrom P z rest) e g
each_block P all c (b ∷ bs) rest n f g = (
  (let e : n + 0 + 1 ≡ n + 1 = omega arith in subst (λ z. P z (row_of all c b)) e (f 0 b refl)),
  each_block P all c bs rest (n + 1)
      (λ i x a. let e : n + suc i + 1 ≡ n + 1 + i + 1 = omega arith in subst (λ z. P z (row_of all c x)) e (f (suc i) x a))
      (let e : n + suc (length bs) + 1 ≡ n + 1 + length bs + 1 = omega arith in subst (λ z. EachFrom P z rest) e g),
)

each_history : (P : ℕ → Row → Type 0) (all hs : List History) (k n : ℕ) → ((j c : ℕ) (h : History) (i : ℕ) (x : Block) → c ≡ k + j → IsAt hs j h → At h.blocks i x → P (get_or (firsts_from n hs) j 0 + i + 1) (row_of all c x)) → EachFrom P (n + 1) (rows_from all k hs)
each_history P all [] k n f = tt
each_history P all (h ∷ hs) k n f = each_block P all k h.blocks (rows_from all (k + 1) hs) n (λ i x a. f 0 k h i x (omega arith) refl a)
    (each_history P all hs (k + 1) (n + length h.blocks) (λ j c g i x q t a. f (suc j) c g i x (omega arith) t a))

pub each_row : (P : ℕ → Row → Type 0) (hs : List History) → ((c : ℕ) (h : History) → IsAt hs c h → Rising h.blocks) → ((c : ℕ) (h : History) (x : Block) → IsAt hs c h → Mem x h.blocks → P (number_of hs c x.path) (row_of hs c x)) → EachFrom P 1 (rows_from hs 0 hs)
each_row P hs r f = each_history P hs hs 0 0 one
  where
    one : (j c : ℕ) (h : History) (i : ℕ) (x : Block) → c ≡ 0 + j → IsAt hs j h → At h.blocks i x → P (get_or (firsts_from 0 hs) j 0 + i + 1) (row_of hs c x)
    one j c h i x q t a =
        let e : j ≡ c = omega arith in
        subst (λ z. P (get_or (firsts_from 0 hs) j 0 + i + 1) (row_of hs z x)) e
        (subst (λ z. P z (row_of hs j x)) (number_at hs j h i x t (r j h t) a) (f j h x t (at_member h.blocks i x a)))
