-- The lists of waves, one after the other.
use Rattle.std.proofs.Common.{◌≡◌, ◌≢◌, ◌≤◌, ◌<◌, ◌+◌, ◌⊎◌, inl, inr, ℕ, suc, true, false, List, [], ◌∷◌, ◌++◌, Option, Some, is_none, length, length-append, refl, sym, ap, subst, ◌∙◌, arith}
use Rattle.std.specs.List.{slice_get}
use Rattle.std.proofs.lemmas.Bool.{true≢false}
use Rattle.std.proofs.lemmas.Option.{slice_get_within}
use Rattle.bs_log.specs.Lists.{Mem}
use Rattle.bs_times.specs.Net.{Net, Ticks, Causal}
use Rattle.bs_times.specs.Times.{IsWave}
use Rattle.bs_times.specs.Racing.{Raced}
use Rattle.bs_times.proofs.Members.{mem_cases, mem_left, mem_right}
use Rattle.bs_line.specs.declared.corrections.Correction.{Correction}
use Rattle.bs_settle.specs.declared.field.Field.{Field}
use Rattle.bs_settle.specs.Changes.{AreChanges, ChangesRise}
use Rattle.bs_settle.specs.Field.{IsField, net_in, ticks_of, world_of}
use Rattle.bs_settle.specs.Noted.{AreListsOf, AreNoted, IsListOf}
use Rattle.bs_rows.specs.Rows.{net_on}
use Rattle.bs_settle.specs.Settled.{ChangesAt, OfWaves}
use Rattle.bs_settle.proofs.Columns.{item_last, item_left, last_place, one_item}
use Rattle.bs_settle.proofs.Premises.{causal}
use Rattle.bs_settle.proofs.Waved.{changes_same}
use Rattle.bs_settle.proofs.Within.{AreDone, next_ticks}

-- the lists of the first n waves, each of which changes a tick
pub record AreSoFar (net : Net) (estimates : Ticks) (n : ℕ) (lists : List (List Correction)) : Type 0 where
  pub long : length lists ≡ n
  pub are : AreListsOf net estimates lists
  pub changing : (list : List Correction) → Mem list lists → list ≢ []

pub none_so_far : (net : Net) (estimates : Ticks) → AreSoFar net estimates 0 []
none_so_far net estimates = record { long = refl; are = λ ticks waves begin k list e. absurd (omega (arith, slice_get_within {A = List Correction} [] k list e)); changing = λ list m. absurd m }

-- the lists with that of one wave more.
lists_more : (net : Net) (estimates : Ticks) (n : ℕ) (lists : List (List Correction)) (list : List Correction) → length lists ≡ n → AreListsOf net estimates lists → OfWaves net estimates (λ ticks. IsListOf net (ticks n) (ticks (suc n)) list) → AreListsOf net estimates (lists ++ list ∷ [])
lists_more net estimates n lists list long are next ticks waves begin k x e = go (last_place (length lists) k (omega (arith, slice_get_within (lists ++ list ∷ []) k x e, length-append lists (list ∷ []))))
  where
    go : (k < length lists) ⊎ (k ≡ length lists) → IsListOf net (ticks k) (ticks (suc k)) x
    go (inl lt) = are ticks waves begin k x (sym (item_left lists (list ∷ []) k lt) ∙ e)
    go (inr q) =
        let same : list ≡ x = one_item (slice_get (lists ++ list ∷ []) k) list x (ap (slice_get (lists ++ list ∷ [])) q ∙ item_last lists list) e in
        subst (λ j. IsListOf net (ticks j) (ticks (suc j)) x) (sym long ∙ sym q) (subst (λ y. IsListOf net (ticks n) (ticks (suc n)) y) same (next ticks waves begin))

longer : (lists : List (List Correction)) (list : List Correction) (n : ℕ) → length lists ≡ n → length (lists ++ list ∷ []) ≡ n + 1
longer lists list n e = omega (arith, length-append lists (list ∷ []), e)

-- after a wave that changes a tick.
pub one_so_far : (net : Net) (estimates : Ticks) (n : ℕ) (lists : List (List Correction)) (list : List Correction) → AreSoFar net estimates n lists → OfWaves net estimates (λ ticks. IsListOf net (ticks n) (ticks (suc n)) list) → list ≢ [] → AreSoFar net estimates (n + 1) (lists ++ list ∷ [])
one_so_far net estimates n lists list so next some = record {
  long = longer lists list n so.long;
  are = lists_more net estimates n lists list so.long so.are next;
  changing = λ x m. go x (mem_cases x lists (list ∷ []) m);
}
  where
    go : (x : List Correction) → Mem x lists ⊎ Mem x (list ∷ []) → x ≢ []
    go x (inl m) = so.changing x m
    go x (inr (inl e)) = λ q. some (sym e ∙ q)
    go x (inr (inr m)) = absurd m

-- after one that changes none.
pub still_noted : (net : Net) (estimates : Ticks) (n most : ℕ) (lists : List (List Correction)) (list : List Correction) → AreSoFar net estimates n lists → OfWaves net estimates (λ ticks. IsListOf net (ticks n) (ticks (suc n)) list) → list ≡ [] → n < most → AreNoted net estimates most (lists ++ list ∷ []) true
still_noted net estimates n most lists list so next none less = record {
  few = omega (arith, longer lists list n so.long, less);
  are = lists_more net estimates n lists list so.long so.are next;
  begin = lists;
  last = list;
  whole = refl;
  early = so.changing;
  ends = λ e. none;
  spent = λ e. absurd (true≢false e);
}

pub cons_some : {A : Type 0} (xs : List A) (y : A) (ys : List A) → xs ≡ y ∷ ys → xs ≢ []
cons_some xs y ys e none = absurd (omega (arith, ap length e, ap length none))

-- all but the last of a list, and the last
record IsParted {A : Type 0} (xs : List A) : Type 0 where
  begin : List A
  last : A
  whole : xs ≡ begin ++ last ∷ []

parted : {A : Type 0} (xs : List A) → 1 ≤ length xs → IsParted xs
parted [] some = absurd (omega (arith, some))
parted {A} (x ∷ xs) some = go xs (parted xs)
  where
    go : (ys : List A) → (1 ≤ length ys → IsParted ys) → IsParted (x ∷ ys)
    go [] ih = record { begin = []; last = x; whole = refl }
    go (y ∷ ys) ih = let p = ih (omega arith) in record { begin = x ∷ p.begin; last = p.last; whole = ap (λ zs. x ∷ zs) p.whole }

-- after the last wave of the budget.
pub spent_noted : (net : Net) (estimates : Ticks) (most : ℕ) (lists : List (List Correction)) → AreSoFar net estimates most lists → 1 ≤ most → AreNoted net estimates most lists false
spent_noted net estimates most lists so some = record {
  few = omega (arith, so.long);
  are = so.are;
  begin = p.begin;
  last = p.last;
  whole = p.whole;
  early = λ list m. so.changing list (subst (λ xs. Mem list xs) (sym p.whole) (mem_left list p.begin (p.last ∷ []) m));
  ends = λ e. absurd (true≢false (sym e));
  spent = λ e. (so.long, so.changing p.last (subst (λ xs. Mem p.last xs) (sym p.whole) (mem_right p.last p.begin (p.last ∷ []) (inl refl))));
}
  where
    p : IsParted lists
    p = parted lists (omega (arith, so.long, some))

-- ---- fields

-- the list of the next wave.
pub next_list : (s now next : Field) (n : ℕ) (last : Option Correction) → IsField s → AreDone s now n last → Raced (net_in now) (world_of now) (world_of next) → (list : List Correction) → AreChanges (net_in now) (ticks_of now) (ticks_of next) list → ChangesRise list → OfWaves (net_in s) (ticks_of s) (λ ticks. IsListOf (net_in s) (ticks n) (ticks (suc n)) list)
next_list s now next n last f d raced list changes rises ticks are begin = record {
  changes = changes_same (net_in s) (ticks_of now) (ticks_of next) (ticks n) (ticks (suc n)) list (d.now ticks are begin) (next_ticks (net_in s) c (ticks_of s) (ticks_of now) (ticks_of next) n d.now wave ticks are begin) (subst (λ y. AreChanges y (ticks_of now) (ticks_of next) list) same changes);
  rises = rises;
}
  where
    same : net_in now ≡ net_in s
    same i = net_on (d.log i).now (d.machine i).now

    c : Causal (net_in s)
    c = causal s.log.now s.machine.now f.valid

    wave : IsWave (net_in s) (ticks_of now) (ticks_of next)
    wave = subst (λ y. IsWave y (ticks_of now) (ticks_of next)) same raced.wave

-- what was noted, where the last wave changed a tick first.
pub last_noted : (s now : Field) (most : ℕ) (last : Option Correction) (lists : List (List Correction)) → AreDone s now most last → AreSoFar (net_in s) (ticks_of s) most lists → 1 ≤ most → AreNoted (net_in s) (ticks_of s) most lists (is_none last)
last_noted s now most last lists d so some = go d.last_is
  where
    go : (most ≡ 0) ⊎ ((c : Correction) × (last ≡ Some c) × ChangesAt (net_in s) (ticks_of s) most c.mail c.was.0 c.tick.0) → AreNoted (net_in s) (ticks_of s) most lists (is_none last)
    go (inl e) = absurd (omega (arith, e, some))
    go (inr (c, e, h)) = subst (λ o. AreNoted (net_in s) (ticks_of s) most lists (is_none o)) (sym e) (spent_noted (net_in s) (ticks_of s) most lists so some)
