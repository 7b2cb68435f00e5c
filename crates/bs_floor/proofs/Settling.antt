-- From the counts of what stands in one list to the sentences on all seats' lists.
use Rattle.std.proofs.Common.{◌≡◌, ℕ, zero, suc, ◌+◌, ◌≤◌, List, [], ◌∷◌, ◌++◌, length, refl, sym, ap, ◌∙◌, subst, arith}
use Rattle.std.specs.Prelude.{Some, slice_get}
use mathlib.Core.Logic.{dite}
use native.Mathlib.Decide.{dec_le, ℕ_discrete}
use Rattle.bs_floor.specs.declared.station.Bound.{Bound}
use Rattle.bs_floor.specs.declared.cell.Cell.{Cell}
use Rattle.bs_floor.specs.declared.view.Setup.{Setup}
use Rattle.bs_floor.specs.declared.view.Entry.{Entry}
use Rattle.bs_floor.specs.declared.station.Station as Station
use Rattle.bs_floor.specs.Counting.{below, total, is_at, count, Each}
use Rattle.bs_floor.specs.History.{IsCellOf, IsHistory, AreSends}
use Rattle.bs_floor.specs.Closing.{joined_lists, IsEntryAt, NoTwoAlike, StandsOnce, Settled, PostEnds, ServeEnds, Accounted}
use Rattle.bs_floor.proofs.Lookups.{Some-injective, none_some, as_there, item_below}
use Rattle.bs_floor.proofs.Sums.{total_has, total_two, below_yes, below_no, count_append, at_other, at_same, bit_other, bit_same}

module _ {V : Type 0} (f : V → ℕ) where
  -- a sum that isn't 0 has a part that isn't 0
  some_part : (vs : List V) → 1 ≤ total f vs → (i : ℕ) × (v : V) × (slice_get vs i ≡ Some v) × (1 ≤ f v)
  some_part [] h = absurd (omega arith)
  some_part (x ∷ xs) h = dite (dec_le 1 (f x)) (λ some_x. (0, x, refl, some_x)) (λ none_x. let t = some_part xs (omega arith) in (suc t.0, t.1, t.2, t.3))

module _ {X : Type 0} where
  count_total : (k p : ℕ) (es : List (Entry X)) → count k p es ≡ total (is_at k p) es
  count_total k p [] = refl
  count_total k p (e ∷ es) = ap (λ n. is_at k p e + n) (count_total k p es)

  count_joined : (k p : ℕ) (lists : List (List (Entry X))) → count k p (joined_lists lists) ≡ total (count k p) lists
  count_joined k p [] = refl
  count_joined k p (l ∷ ls) = count_append k p l (joined_lists ls) ∙ ap (λ n. count k p l + n) (count_joined k p ls)

  each_in : (P : Entry X → Type 0) (l : List (Entry X)) (a : ℕ) (e : Entry X) → Each P l → slice_get l a ≡ Some e → P e
  each_in P [] a e all there = none_some e there
  each_in P (x ∷ xs) zero e all there = subst P (Some-injective x e there) all.0
  each_in P (x ∷ xs) (suc a) e all there = each_in P xs a e all.1 there

  each_front : (P : Entry X → Type 0) (xs ys : List (Entry X)) → Each P (xs ++ ys) → Each P xs × Each P ys
  each_front P [] ys all = (tt, all)
  each_front P (x ∷ xs) ys all = let t = each_front P xs ys all.1 in ((all.0, t.0), t.1)

  each_joined : (P : Entry X → Type 0) (lists : List (List (Entry X))) (i a : ℕ) (e : Entry X) → Each P (joined_lists lists) → IsEntryAt lists i a e → P e
  each_joined P [] i a e all at = none_some at.0 at.1
  each_joined P (l ∷ ls) zero a e all at = each_in P l a e (each_front P l (joined_lists ls) all).0 (ap (λ m. slice_get m a) (Some-injective l at.0 at.1) ∙ at.2)
  each_joined P (l ∷ ls) (suc i) a e all at = each_joined P ls i a e (each_front P l (joined_lists ls) all).1 at

  -- an entry counts at its own station and number, and nowhere else
  counts_itself : (k p : ℕ) (e : Entry X) → e.station ≡ k → e.number ≡ p → 1 ≤ is_at k p e
  counts_itself k p e at_station at_number = let here = at_same k p e.station e.number e.content at_station in let one = bit_same e.number p at_number in omega arith

  stands_where_counted : (k p : ℕ) (e : Entry X) → 1 ≤ is_at k p e → (e.station ≡ k) × (e.number ≡ p)
  stands_where_counted k p e counted = dite (ℕ_discrete e.station k)
      (λ here. dite (ℕ_discrete e.number p) (λ same. (here, same)) (λ other. let a = at_same k p e.station e.number e.content here in let b = bit_other e.number p other in absurd (omega arith)))
      (λ apart. let a = at_other k p e.station e.number e.content apart in absurd (omega arith))

  counted_in_list : (k p : ℕ) (l : List (Entry X)) (a : ℕ) (e : Entry X) → slice_get l a ≡ Some e → e.station ≡ k → e.number ≡ p → 1 ≤ count k p l
  counted_in_list k p l a e there at_station at_number =
      let one = counts_itself k p e at_station at_number in
      let has = total_has (is_at k p) l a e (as_there l a e there) in
      let same = count_total k p l in
      omega arith

  -- where each number of each station counts once at most, no two entries have both
  no_two : (lists : List (List (Entry X))) → ((i a : ℕ) (e : Entry X) → IsEntryAt lists i a e → count e.station e.number (joined_lists lists) ≤ 1) → NoTwoAlike lists
  no_two lists once i a j b e f at_e at_f same_station same_number =
      let k = e.station in
      let p = e.number in
      let most = once i a e at_e in
      let sums = count_joined k p lists in
      let in_e = counted_in_list k p at_e.0 a e at_e.2 refl refl in
      let in_f = counted_in_list k p at_f.0 b f at_f.2 (sym same_station) (sym same_number) in
      dite (ℕ_discrete i j)
      (λ same. (
        same,
        dite (ℕ_discrete a b) (λ here. here) (λ apart.
            let one_list : at_f.0 ≡ at_e.0 = Some-injective at_f.0 at_e.0 (sym at_f.1 ∙ ap (slice_get lists) (sym same) ∙ at_e.1) in
            let there : slice_get at_e.0 b ≡ Some f = ap (λ l. slice_get l b) (sym one_list) ∙ at_f.2 in
            let two = total_two (is_at k p) at_e.0 a b e f apart (as_there at_e.0 a e at_e.2) (as_there at_e.0 b f there) in
            let one_e = counts_itself k p e refl refl in
            let one_f = counts_itself k p f (sym same_station) (sym same_number) in
            let inside = total_has (count k p) lists i at_e.0 (as_there lists i at_e.0 at_e.1) in
            let parts = count_total k p at_e.0 in
            absurd (omega arith)),
      ))
      (λ apart. let two = total_two (count k p) lists i j at_e.0 at_f.0 apart (as_there lists i at_e.0 at_e.1) (as_there lists j at_f.0 at_f.1) in absurd (omega arith))

  -- what counts once stands once
  stands : (lists : List (List (Entry X))) (k p : ℕ) → 1 ≤ count k p (joined_lists lists) → (i : ℕ) × (a : ℕ) × (e : Entry X) × IsEntryAt lists i a e × (e.station ≡ k) × (e.number ≡ p)
  stands lists k p counted =
      let sums = count_joined k p lists in
      let in_lists = some_part (count k p) lists (omega arith) in
      let l : List (Entry X) = in_lists.1 in
      let parts = count_total k p l in
      let some_there = in_lists.3 in
      let in_list = some_part (is_at k p) l (omega arith) in
      let is = stands_where_counted k p in_list.1 in_list.3 in
      (in_lists.0, in_list.0, in_list.1, (l, in_lists.2, in_list.2), is.0, is.1)

  as_entry : (lists : List (List (Entry X))) (k p : ℕ) (x : X) (i a : ℕ) (e : Entry X) → NoTwoAlike lists → IsEntryAt lists i a e → e.station ≡ k → e.number ≡ p → e.content ≡ x → StandsOnce lists k p x
  as_entry lists k p x i a e differ at at_station at_number content = record {
    list = i;
    place = a;
    there = subst (IsEntryAt lists i a) (λ m. record { station = at_station m; number = at_number m; content = content m }) at;
    only = λ j b f at_f is_station is_number. differ j b i a f e at_f at (is_station ∙ sym at_station) (is_number ∙ sym at_number);
  }

module _ {S J I : Type 0} (g : Station.Ghosts S J I) where
  history_of : (setup : Setup S) (k : ℕ) (c : Cell S J I) (h : IsCellOf g setup k c) → IsHistory g h.start c
  history_of setup k c h = record {
    few = h.few;
    replayed = h.replayed;
    same_job = h.job ∙ sym h.start_job;
    same_place = h.place ∙ sym h.start_place;
    sound = subst (λ (z : J × ℕ). g.sound z.0 z.1 c.station) (λ i. (sym h.start_job i, sym h.start_place i)) h.sound;
    fitting = subst (λ (z : J × ℕ). Rattle.std.specs.Prelude.All (g.fits z.0 z.1) c.posted) (λ i. (sym h.start_job i, sym h.start_place i)) h.fitting;
  }

  pub settles_all : (setup : Setup S) (posts : List (List (Entry I))) (serves : List (List (Entry (List (Bound I))))) (cells : List (Cell S J I)) → length cells ≡ length setup.stations.value.items
      → Accounted g setup (joined_lists posts) (joined_lists serves) cells → Settled g setup.stations.value.items posts serves cells
  settles_all setup posts serves cells as_many h =
      let most : (p n : ℕ) → below p n ≤ 1 = λ p n. dite (dec_le (suc p) n) (λ low. let z = below_yes p n low in omega arith) (λ high. let z = below_no p n (omega arith) in omega arith) in
      let post_at : (i a : ℕ) (e : Entry I) → IsEntryAt posts i a e → PostEnds g cells e = λ i a e at. each_joined (PostEnds g cells) posts i a e h.posts_stand at in
      let serve_at : (i a : ℕ) (e : Entry (List (Bound I))) → IsEntryAt serves i a e → ServeEnds g setup cells e = λ i a e at. each_joined (ServeEnds g setup cells) serves i a e h.serves_stand at in
      let posts_differ : NoTwoAlike posts = no_two posts (λ i a e at. let is = post_at i a e at in let n = h.posts_once e.station e.number is.0 is.1 in let m = most e.number (length is.0.posted) in omega arith) in
      let serves_differ : NoTwoAlike serves = no_two serves (λ i a e at. let is = serve_at i a e at in let n = h.serves_once e.station e.number is.0 is.1 in let m = most e.number is.0.served in omega arith) in
      record {
        as_many = as_many;
        histories = λ k start c at_start at_cell. let good = h.good k c at_cell in subst (λ (s : S). IsHistory g s c) (Some-injective good.start start (sym good.started ∙ at_start)) (history_of setup k c good);
        posts_differ = posts_differ;
        serves_differ = serves_differ;
        posts_kept = λ i a e at. let is = post_at i a e at in (is.0, is.1, item_below is.0.posted e.number e.content is.2, is.2);
        serves_kept = λ i a e at. let is = serve_at i a e at in (is.0, is.2.start, is.1, is.2.started, is.2.done, is.2.sends_are);
        posted_once = λ k p c x at_cell at_item.
            let n = h.posts_once k p c at_cell in
            let one = below_yes p (length c.posted) (item_below c.posted p x at_item) in
            let t = stands posts k p (omega arith) in
            let e : Entry I = t.2 in
            let is = post_at t.0 t.1 e t.3 in
            let same_cell : is.0 ≡ c = Some-injective is.0 c (sym is.1 ∙ ap (slice_get cells) t.4 ∙ at_cell) in
            as_entry posts k p x t.0 t.1 e posts_differ t.3 t.4 t.5 (Some-injective e.content x (sym is.2 ∙ (λ m. slice_get (same_cell m).posted (t.5 m)) ∙ at_item));
        served_once = λ k n c at_cell low.
            let number = h.serves_once k n c at_cell in
            let one = below_yes n c.served low in
            let t = stands serves k n (omega arith) in
            let e : Entry (List (Bound I)) = t.2 in
            let is = serve_at t.0 t.1 e t.3 in
            let same_cell : is.0 ≡ c = Some-injective is.0 c (sym is.1 ∙ ap (slice_get cells) t.4 ∙ at_cell) in (
              e.content,
              (is.2.start, ap (slice_get setup.stations.value.items) (sym t.4) ∙ is.2.started, subst (λ (z : Cell S J I × ℕ). AreSends g is.2.start z.0.posted z.1 e.content) (λ m. (same_cell m, t.5 m)) is.2.sends_are),
              as_entry serves k n e.content t.0 t.1 e serves_differ t.3 t.4 t.5 refl,
            );
      }
