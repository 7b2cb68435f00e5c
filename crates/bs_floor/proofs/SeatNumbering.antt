-- A seat is split off, or joined, and a floor is opened, or closed.
use Rattle.std.proofs.Common.{◌≡◌, ◌≢◌, ◌⊎◌, ℕ, zero, suc, ◌+◌, ◌<◌, ◌≤◌, List, [], ◌∷◌, ◌++◌, length, get_or, set, eqb, ltb, Bool, refl, sym, ap, ◌∙◌, subst, ⊎_elim, inl, inr, arith, length-set}
use Rattle.std.specs.Prelude.{Option, Some, None, slice_get}
use mathlib.Core.Option.{some, some-injective, some-ne-none}
use mathlib.Core.Logic.{dite}
use native.Mathlib.Decide.{dec_le, ℕ_discrete}
use lib.ListN.{get_elem?}
use Rattle.atomic_table.specs.Table.{State, Splits, Joins, Final, Seen}
use Rattle.atomic_table.proofs.Lists.{at_set, set_here, set_else, at_longer}
use Rattle.bs_floor.specs.declared.station.Bound.{Bound}
use Rattle.bs_floor.specs.declared.cell.Cell.{Cell}
use Rattle.bs_floor.specs.declared.view.SeatView.{SeatView}
use Rattle.bs_floor.specs.declared.view.Setup.{Setup}
use Rattle.bs_floor.specs.declared.view.Entry.{Entry}
use Rattle.bs_floor.specs.declared.view.Turn.{Turn}
use Rattle.bs_floor.specs.declared.station.Station as Station
use Rattle.bs_floor.specs.Closing
use Rattle.bs_floor.specs.Counting
use Rattle.bs_floor.specs.FloorRules
use Rattle.bs_floor.specs.History
use Rattle.bs_floor.specs.SeatViews
use Rattle.bs_floor.proofs.Lookups.{Some-injective, here_below, item_below, as_item}
use Rattle.bs_floor.proofs.Sums.{total_set, total_snoc, total_has, total_two, total_alone, below_yes, below_no, below_more, bit_same, count_append, times_append, Each-append, Each-map}
use Rattle.bs_floor.proofs.TurnSteps.{not_held, has_setup}
use Rattle.bs_floor.proofs.CountSteps.{but, but_here, but_else, pick}

at_end : {A : Type 0} (l : List A) (a b : A) (j : ℕ) → get_elem? (l ++ a ∷ []) j ≡ some b → (get_elem? l j ≡ some b) ⊎ ((j ≡ length l) × (a ≡ b))
at_end [] a b zero e = inr (refl, some-injective a b e)
at_end [] a b (suc j) e = absurd (some-ne-none b (sym e))
at_end (x ∷ xs) a b zero e = inl e
at_end (x ∷ xs) a b (suc j) e = ⊎_elim (λ t. inl t) (λ (t : (j ≡ length xs) × (a ≡ b)). inr (ap suc t.0, t.1)) (at_end xs a b j e)

below_from : (p n : ℕ) → 1 ≤ Counting.below p n → p < n
below_from p n h = dite (dec_le (suc p) n) (λ low. low) (λ high. let z = below_no p n (omega arith) in absurd (omega arith))

below_most : (p n : ℕ) → Counting.below p n ≤ 1
below_most p n = dite (dec_le (suc p) n) (λ low. let z = below_yes p n low in omega arith) (λ high. let z = below_no p n (omega arith) in omega arith)

module _ {S J I : Type 0} (g : Station.Ghosts S J I) (setup : Setup S) where
  abbrev C : Type 0
  C = Cell S J I

  abbrev V : Type 0
  V = SeatView S J I

  abbrev St : Type 0
  St = State C V

  abbrev H : Type 0
  H = Turn S J I

  abbrev Rule : St → Type 0
  Rule = FloorRules.IsFloor g setup

  -- the number of a view with a setup was given out
  given_out : (s : St) (r : Rule s) (j : ℕ) (u : V) (p : Setup S) → get_elem? s.views j ≡ some u → u.setup ≡ Some p → u.number < r.given
  given_out s r j u p at live =
      let k = r.each_seat j u at in
      let own = (k.live p live).3 in
      let has = total_has (λ (x : V). Counting.times u.number x.numbers) s.views j u at in
      let all = r.numbers_once u.number in
      below_from u.number r.given (omega arith)

  pub splits : (id : ℕ) (v : V) (p : Setup S) → v.setup ≡ Some p → 0 < v.given → v.given < setup.seats → Splits Rule id v (SeatViews.giving_view v) (SeatViews.given_view v)
  splits id v p live some_given room s r at =
      let P : ℕ = length s.homes in
      let w : V = SeatViews.giving_view v in
      let n : V = SeatViews.given_view v in
      let L : ℕ = length s.views in
      let vs : List V = set s.views id w ++ n ∷ [] in
      let mine = r.each_seat id v at in
      let gave = mine.gives some_given in
      let there : id < L = here_below s.views id v at in
      let seat_of : ℕ → ℕ = but r.seat_of v.given L in
      let stays : (m : ℕ) → m < r.given → seat_of m ≡ r.seat_of m = λ m low. but_else r.seat_of v.given m L (λ e. let is : v.given ≡ r.given = gave.1 in omega arith) in
      let num_in : (j : ℕ) (u : V) (q : Setup S) → get_elem? s.views j ≡ some u → u.setup ≡ Some q → seat_of u.number ≡ r.seat_of u.number = λ j u q a e. stays u.number (given_out s r j u q a e) in
      record {
        wide = r.wide;
        cells = r.cells;
        seat_of = seat_of;
        given = r.given + 1;
        base = r.base;
        good = r.good;
        posted_is = r.posted_is;
        served_is = r.served_is;
        at_home = r.at_home;
        taken = λ k m low named.
            let t = r.taken k m low named in
            let theirs = r.each_seat (r.seat_of m) t.view t.there in
            let their_setup = has_setup g setup P s.words r.cells r.seat_of r.given r.base (r.seat_of m) t.view t.held theirs t.is_held in
            let same : seat_of m ≡ r.seat_of m = subst (λ (z : ℕ). seat_of z ≡ r.seat_of z) t.number (num_in (r.seat_of m) t.view setup t.there their_setup) in
            dite (ℕ_discrete (r.seat_of m) id)
            (λ e. let one : t.view ≡ v = some-injective _ _ (sym t.there ∙ ap (get_elem? s.views) e ∙ at) in
            record { view = w; there = ap (get_elem? vs) (same ∙ e) ∙ at_longer (set s.views id w) (n ∷ []) id w (set_here s.views id w there); number = ap (λ (y : V). y.number) (sym one) ∙ t.number; held = t.held; is_held = ap (λ (y : V). y.held) (sym one) ∙ t.is_held; station = t.station })
            (λ other. record { view = t.view; there = ap (get_elem? vs) same ∙ at_longer (set s.views id w) (n ∷ []) (r.seat_of m) t.view (set_else s.views id (r.seat_of m) w other ∙ t.there); number = t.number; held = t.held; is_held = t.is_held; station = t.station });
        each_seat = λ j u e. ⊎_elim
            (λ (old : get_elem? (set s.views id w) j ≡ some u). ⊎_elim
            (λ (t : (j ≡ id) × (w ≡ u)). subst (λ (x : ℕ × V). FloorRules.SeatKnows g setup P s.words r.cells seat_of (r.given + 1) r.base x.0 x.1) (λ i. (sym t.0 i, t.1 i)) record {
              live = λ q e'. let l = mine.live q e' in (l.0, num_in id v q at e' ∙ l.1, l.2, l.3);
              spent = λ none_is. not_held p v.setup none_is live;
              gives = λ _. (gave.0, ap (λ (z : ℕ). z + 1) gave.1);
              holds = mine.holds;
              posts = mine.posts;
              serves = mine.serves;
            })
            (λ (t : (j ≢ id) × (get_elem? s.views j ≡ some u)). let k = r.each_seat j u t.1 in record {
              live = λ q e'. let l = k.live q e' in (l.0, num_in j u q t.1 e' ∙ l.1, l.2, l.3);
              spent = k.spent;
              gives = λ some_more. absurd (t.0 ((k.gives some_more).0 ∙ sym gave.0));
              holds = k.holds;
              posts = k.posts;
              serves = k.serves;
            })
            (at_set s.views id j w u old))
            (λ (t : (j ≡ length (set s.views id w)) × (n ≡ u)). subst (λ (x : ℕ × V). FloorRules.SeatKnows g setup P s.words r.cells seat_of (r.given + 1) r.base x.0 x.1) (λ i. (sym (t.0 ∙ length-set s.views id w) i, t.1 i)) record {
              live = λ q e'. ((mine.live q e').0, but_here r.seat_of v.given v.given L refl, room, (let b = bit_same v.given v.given refl in omega arith));
              spent = λ none_is. not_held p v.setup none_is live;
              gives = λ some_more. absurd (omega arith);
              holds = λ h e'. not_held h None refl e';
              posts = tt;
              serves = tt;
            })
            (at_end (set s.views id w) n u j e);
        posts_once = λ k q low. let f : V → ℕ = λ (x : V). Counting.count k q x.posts in let a = total_snoc f (set s.views id w) n in let t = total_set f s.views id v w at in let o = r.posts_once k q low in omega arith;
        serves_once = λ k q low. let f : V → ℕ = λ (x : V). Counting.count k q x.serves in let a = total_snoc f (set s.views id w) n in let t = total_set f s.views id v w at in let o = r.serves_once k q low in omega arith;
        numbers_once = λ m. let f : V → ℕ = λ (x : V). Counting.times m x.numbers in let a = total_snoc f (set s.views id w) n in let t = total_set f s.views id v w at in let o = r.numbers_once m in
            let d = below_more m r.given in let same : Counting.bit (eqb v.given m) ≡ Counting.bit (eqb r.given m) = ap (λ (z : ℕ). Counting.bit (eqb z m)) gave.1 in omega arith;
      }

  pub joins : (id : ℕ) (v : V) (other : ℕ) (w : V) (p q : Setup S) → v.setup ≡ Some p → w.setup ≡ Some q → v.held ≡ None → w.held ≡ None → Joins Rule id v other w (SeatViews.joined_view v w) SeatViews.spent_view
  joins id v other w p q live live' free free' s r at apart there_set =
      let P : ℕ = length s.homes in
      let b : V = SeatViews.joined_view v w in
      let sp : V = SeatViews.spent_view in
      let vs : List V = set s.views id b in
      let at' : get_elem? s.views other ≡ some w = sym (set_else s.views id other b apart) ∙ there_set in
      let mine = r.each_seat id v at in
      let theirs = r.each_seat other w at' in
      let base : ℕ = pick (ltb 0 w.given) id r.base in
      let base_moves : 0 < w.given → base ≡ id = λ some_given. ap (λ (z : Bool). pick z id r.base) (Rattle.std.proofs.lemmas.Bool.lt-ltb 0 w.given some_given) in
      let base_stays : w.given ≤ 0 → base ≡ r.base = λ none_given. ap (λ (z : Bool). pick z id r.base) (Rattle.std.proofs.lemmas.Bool.le-ltb 0 w.given none_given) in
      record {
        wide = r.wide;
        cells = r.cells;
        seat_of = r.seat_of;
        given = r.given;
        base = base;
        good = r.good;
        posted_is = r.posted_is;
        served_is = r.served_is;
        at_home = r.at_home;
        taken = λ k m low named.
            let t = r.taken k m low named in
            let not_v : r.seat_of m ≢ id = λ e. let one : t.view ≡ v = some-injective _ _ (sym t.there ∙ ap (get_elem? s.views) e ∙ at) in not_held t.held v.held free (ap (λ (x : V). x.held) (sym one) ∙ t.is_held) in
            let not_w : r.seat_of m ≢ other = λ e. let one : t.view ≡ w = some-injective _ _ (sym t.there ∙ ap (get_elem? s.views) e ∙ at') in not_held t.held w.held free' (ap (λ (x : V). x.held) (sym one) ∙ t.is_held) in
            record { view = t.view; there = set_else vs other (r.seat_of m) sp not_w ∙ set_else s.views id (r.seat_of m) b not_v ∙ t.there; number = t.number; held = t.held; is_held = t.is_held; station = t.station };
        each_seat = λ j u e. ⊎_elim
            (λ (t : (j ≡ other) × (sp ≡ u)). subst (λ (x : ℕ × V). FloorRules.SeatKnows g setup P s.words r.cells r.seat_of r.given base x.0 x.1) (λ i. (sym t.0 i, t.1 i)) record {
              live = λ z e'. not_held z None refl e';
              spent = λ _. refl;
              gives = λ some_more. absurd (omega arith);
              holds = λ h e'. not_held h None refl e';
              posts = tt;
              serves = tt;
            })
            (λ (t : (j ≢ other) × (get_elem? vs j ≡ some u)). ⊎_elim
            (λ (m : (j ≡ id) × (b ≡ u)). subst (λ (x : ℕ × V). FloorRules.SeatKnows g setup P s.words r.cells r.seat_of r.given base x.0 x.1) (λ i. (sym m.0 i, m.1 i)) record {
              live = λ z e'. let l = mine.live z e' in (l.0, l.1, l.2, (let a = times_append v.number v.numbers w.numbers in let own = l.3 in omega arith));
              spent = λ none_is. not_held p v.setup none_is live;
              gives = λ some_more. dite (dec_le (suc 0) w.given)
                  (λ yes_w.
                  let gw = theirs.gives yes_w in
                  let none_v : v.given ≡ 0 = dite (dec_le (suc 0) v.given) (λ yes_v. absurd (apart (gw.0 ∙ sym (mine.gives yes_v).0))) (λ no_v. omega arith) in
                  (sym (base_moves yes_w), (let is = gw.1 in omega arith)))
                  (λ no_w. let z : w.given ≡ 0 = omega arith in let gv = mine.gives (omega arith) in (gv.0 ∙ sym (base_stays (omega arith)), (let is = gv.1 in omega arith)));
              holds = λ h e'. not_held h v.held free e';
              posts = Each-append (FloorRules.PostStands g P r.cells) v.posts w.posts mine.posts theirs.posts;
              serves = Each-append (FloorRules.ServeStands g setup P r.cells) v.serves w.serves mine.serves theirs.serves;
            })
            (λ (m : (j ≢ id) × (get_elem? s.views j ≡ some u)). let k = r.each_seat j u m.1 in record {
              live = k.live;
              spent = k.spent;
              gives = λ some_more. let gu = k.gives some_more in dite (dec_le (suc 0) w.given)
                  (λ yes_w. absurd (t.0 (gu.0 ∙ sym (theirs.gives yes_w).0)))
                  (λ no_w. (gu.0 ∙ sym (base_stays (omega arith)), gu.1));
              holds = k.holds;
              posts = k.posts;
              serves = k.serves;
            })
            (at_set s.views id j b u t.1))
            (at_set vs other j sp u e);
        posts_once = λ k n low. let f : V → ℕ = λ (x : V). Counting.count k n x.posts in let a = total_set f vs other w sp there_set in let t = total_set f s.views id v b at in let o = r.posts_once k n low in let d = count_append k n v.posts w.posts in omega arith;
        serves_once = λ k n low. let f : V → ℕ = λ (x : V). Counting.count k n x.serves in let a = total_set f vs other w sp there_set in let t = total_set f s.views id v b at in let o = r.serves_once k n low in let d = count_append k n v.serves w.serves in omega arith;
        numbers_once = λ m. let f : V → ℕ = λ (x : V). Counting.times m x.numbers in let a = total_set f vs other w sp there_set in let t = total_set f s.views id v b at in let o = r.numbers_once m in let d = times_append m v.numbers w.numbers in omega arith;
      }

  -- where one view has all numbers, no other view has a setup
  alone : (s : St) (r : Rule s) (id : ℕ) (v : V) → get_elem? s.views id ≡ some v → ((n : ℕ) → n < setup.seats → 1 ≤ Counting.times n v.numbers) → (j : ℕ) (u : V) → j ≢ id → get_elem? s.views j ≡ some u → (q : Setup S) → u.setup ≡ Some q → ⊥
  alone s r id v at all j u apart at' q live =
      let k = (r.each_seat j u at').live q live in
      let own = k.3 in
      let has = all u.number k.2 in
      let two = total_two (λ (x : V). Counting.times u.number x.numbers) s.views j id u v apart at' at in
      let once = r.numbers_once u.number in
      let most = below_most u.number r.given in
      omega arith

  pub closes : (id : ℕ) (v : V) (p : Setup S) (ws : List ℕ) (xs : List C) → v.setup ≡ Some p → v.held ≡ None → ((n : ℕ) → n < setup.seats → 1 ≤ Counting.times n v.numbers) → Final (Seen Rule id v) ws xs → Closing.Accounted g setup v.posts v.serves xs
  closes id v p ws xs live free all final =
      let s : St = final.0 in
      let r : Rule s = final.1.0 in
      let at = final.1.1 in
      let P : ℕ = length s.homes in
      let long : P ≡ length xs = final.3 in
      let mine = r.each_seat id v at in
      let home : (k : ℕ) → k < P → get_elem? s.homes k ≡ some (some (r.cells k)) = λ k low. r.at_home k low (turn_is_zero s r id v at free all k low (get_or s.words k 0) refl) in
      let cell : (k : ℕ) → k < P → slice_get xs k ≡ Some (r.cells k) = λ k low. as_item xs k (r.cells k) (final.4 k (r.cells k) (home k low)) in
      let lower : (k : ℕ) (c : C) → slice_get xs k ≡ Some c → k < P = λ k c e. subst (λ (z : ℕ). k < z) (sym long) (item_below xs k c e) in
      let is : (k : ℕ) (c : C) → slice_get xs k ≡ Some c → r.cells k ≡ c = λ k c e. Some-injective _ _ (sym (cell k (lower k c e)) ∙ e) in
      let zero_else : (f : V → ℕ) → f SeatViews.spent_view ≡ 0 → (j : ℕ) (u : V) → j ≢ id → get_elem? s.views j ≡ some u → f u ≡ 0 = λ f nothing j u apart at'. by_setup s r id v at all f nothing j u apart at' u.setup refl in
      record {
        good = λ k c e. subst (History.IsCellOf g setup k) (is k c e) (r.good k (lower k c e));
        posts_once = λ k q c e. let f : V → ℕ = λ (x : V). Counting.count k q x.posts in sym (total_alone f s.views id v at (zero_else f refl)) ∙ r.posts_once k q (lower k c e) ∙ ap (λ (z : C). Counting.below q (length z.posted)) (is k c e);
        serves_once = λ k q c e. let f : V → ℕ = λ (x : V). Counting.count k q x.serves in sym (total_alone f s.views id v at (zero_else f refl)) ∙ r.serves_once k q (lower k c e) ∙ ap (λ (z : C). Counting.below q z.served) (is k c e);
        posts_stand = Each-map v.posts (λ e h. (r.cells e.station, cell e.station h.0, h.1)) mine.posts;
        serves_stand = Each-map v.serves (λ e h. (r.cells e.station, cell e.station h.0, h.1)) mine.serves;
      }
    where
      turn_is_zero : (s : St) (r : Rule s) (id : ℕ) (v : V) → get_elem? s.views id ≡ some v → v.held ≡ None → ((n : ℕ) → n < setup.seats → 1 ≤ Counting.times n v.numbers) → (k : ℕ) → k < length s.homes → (t : ℕ) → get_or s.words k 0 ≡ t → get_or s.words k 0 ≡ 0
      turn_is_zero s r id v at free all k low zero e = e
      turn_is_zero s r id v at free all k low (suc n) e =
          let t = r.taken k n low e in
          let theirs = r.each_seat (r.seat_of n) t.view t.there in
          let their_setup = has_setup g setup (length s.homes) s.words r.cells r.seat_of r.given r.base (r.seat_of n) t.view t.held theirs t.is_held in
          absurd (alone s r id v at all (r.seat_of n) t.view (λ same. let one : t.view ≡ v = some-injective _ _ (sym t.there ∙ ap (get_elem? s.views) same ∙ at) in not_held t.held v.held free (ap (λ (x : V). x.held) (sym one) ∙ t.is_held)) t.there setup their_setup)

      by_setup : (s : St) (r : Rule s) (id : ℕ) (v : V) → get_elem? s.views id ≡ some v → ((n : ℕ) → n < setup.seats → 1 ≤ Counting.times n v.numbers) → (f : V → ℕ) → f SeatViews.spent_view ≡ 0 → (j : ℕ) (u : V) → j ≢ id → get_elem? s.views j ≡ some u → (o : Option (Setup S)) → u.setup ≡ o → f u ≡ 0
      by_setup s r id v at all f nothing j u apart at' None e = ap f ((r.each_seat j u at').spent e) ∙ nothing
      by_setup s r id v at all f nothing j u apart at' (Some q) e = absurd (alone s r id v at all j u apart at' q e)

module _ {S J I : Type 0} (g : Station.Ghosts S J I) where
  pub settles : (setup known : Setup S) → setup ≡ known → (id : ℕ) (v : SeatView S J I) (ws : List ℕ) (xs cells : List (Cell S J I)) (posts : List (Entry I)) (serves : List (Entry (List (Bound I)))) (numbers : List ℕ) → v.setup ≡ Some known → v.held ≡ None
      → v.posts ≡ posts → v.serves ≡ serves → v.numbers ≡ numbers → ((n : ℕ) → n < known.seats → 1 ≤ Counting.times n numbers) → cells ≡ xs → Final (Seen (FloorRules.IsFloor g setup) id v) ws xs → Closing.Accounted g known posts serves cells
  settles setup known is id v ws xs cells posts serves numbers live free p q n all same final =
      let made = closes g setup id v known ws xs live free (λ m low. subst (λ l. 1 ≤ Counting.times m l) (sym n) (all m (subst (λ (z : Setup S). m < z.seats) is low))) final in
      subst (λ (z : (Setup S × List (Cell S J I)) × (List (Entry I) × List (Entry (List (Bound I))))). Closing.Accounted g z.0.0 z.1.0 z.1.1 z.0.1) (λ i. ((is i, sym same i), (p i, q i))) made
