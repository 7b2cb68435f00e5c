-- The steps that count an item as posted or as served keep the rule.
use Rattle.std.proofs.Common.{◌≡◌, ◌≢◌, ℕ, zero, suc, ◌+◌, ◌%◌, ◌<◌, ◌≤◌, List, [], ◌∷◌, ◌++◌, length, take, get_or, set, eqb, Bool, true, false, refl, sym, ap, ◌∙◌, subst, arith, length-append, length-set, get_or-set_other, get_or-set_same, eq-eqb, ne_eqb}
use Rattle.std.proofs.Math.Nat.{mod-eq_of_lt}
use Rattle.std.specs.Prelude.{Some, All, slice_get}
use Rattle.std.proofs.lemmas.List.Elements.{All-append}
use mathlib.Core.Option.{some, none, some-injective}
use mathlib.Core.Logic.{dite}
use native.Mathlib.Decide.{ℕ_discrete}
use lib.ListN.{get_elem?}
use Rattle.atomic_table.specs.Table.{State, Me, Act, step, stepped, keeps, carried_after, Valid, Allows}
use Rattle.atomic_table.proofs.Lists.{set_here, set_else}
use Rattle.bs_floor.specs.declared.station.Bound.{Bound}
use Rattle.bs_floor.specs.declared.cell.Cell.{Cell}
use Rattle.bs_floor.specs.declared.view.SeatView.{SeatView}
use Rattle.bs_floor.specs.declared.view.Setup.{Setup}
use Rattle.bs_floor.specs.declared.view.Entry.{Entry}
use Rattle.bs_floor.specs.declared.view.Turn.{Turn}
use Rattle.bs_floor.specs.declared.station.Station as Station
use Rattle.bs_floor.specs.Counting
use Rattle.bs_floor.specs.FloorRules
use Rattle.bs_floor.specs.History
use Rattle.bs_floor.specs.SeatSteps
use Rattle.bs_floor.specs.SeatViews
use Rattle.bs_floor.proofs.Lookups.{Some-injective, none_some, append_none, here_below, item_below, item_last, snoc_injective, read_at, take_front}
use Rattle.bs_floor.proofs.Sums.{below_more, count_append, at_other, at_same, Each-append}
use Rattle.bs_floor.proofs.Kept.{Grows, grows_not, posts_on, serves_on, after}
use Rattle.bs_floor.proofs.TurnSteps.{not_held, has_setup, one_holder}

abbrev pub pick : {A : Type 0} → Bool → A → A → A
pick true a b = a
pick false a b = b

-- the function f, but c at k
abbrev pub but : {A : Type 0} → (ℕ → A) → ℕ → A → ℕ → A
but f k c j = pick (eqb j k) c (f j)

pub but_here : {A : Type 0} (f : ℕ → A) (k j : ℕ) (c : A) → j ≡ k → but f k c j ≡ c
but_here f k j c e = ap (λ (b : Bool). pick b c (f j)) (eq-eqb j k e)

pub but_else : {A : Type 0} (f : ℕ → A) (k j : ℕ) (c : A) → j ≢ k → but f k c j ≡ f j
but_else f k j c ne = ap (λ (b : Bool). pick b c (f j)) (ne_eqb j k ne)

all_one : {A : Type 0} (P : A → Type 0) (x : A) → P x → All P (x ∷ [])
all_one P x h zero d low = h
all_one P x h (suc k) d low = absurd (omega arith)

module _ {S J I : Type 0} (g : Station.Ghosts S J I) where
  replay_more : (start : S) (posted : List I) (n : ℕ) (item : I) → slice_get posted n ≡ Some item → History.replay g start (take (suc n) posted) ≡ g.next (History.replay g start (take n posted)) item
  replay_more start [] n item e = none_some item e
  replay_more start (x ∷ xs) zero item e = ap (g.next start) (Some-injective x item e)
  replay_more start (x ∷ xs) (suc n) item e = replay_more (g.next start x) xs n item e

  pub good_more : (setup : Setup S) (k : ℕ) (c : Cell S J I) (x : I) → History.IsCellOf g setup k c → g.fits (History.job_of g setup) k x → History.IsCellOf g setup k (History.with_item g c x)
  good_more setup k c x h fit =
      let few : c.served ≤ length c.posted = h.few in
      let long = length-append c.posted (x ∷ []) in
      record {
        start = h.start;
        started = h.started;
        start_job = h.start_job;
        start_place = h.start_place;
        few = omega arith;
        replayed = h.replayed ∙ ap (History.replay g h.start) (sym (take_front c.posted (x ∷ []) c.served few));
        sound = h.sound;
        job = h.job;
        place = h.place;
        fitting = All-append (g.fits (History.job_of g setup) k) c.posted (x ∷ []) h.fitting (all_one (g.fits (History.job_of g setup) k) x fit);
      }

  module _ (stays_sound : (j : J) (p : ℕ) (s : S) (x : I) → g.job s ≡ j → g.place s ≡ p → g.sound j p s → g.fits j p x → g.sound j p (g.next s x))
      (stays_there : (s : S) (x : I) → (g.job (g.next s x) ≡ g.job s) × (g.place (g.next s x) ≡ g.place s)) where
    pub good_on : (setup : Setup S) (k : ℕ) (c : Cell S J I) (x : I) → History.IsCellOf g setup k c → slice_get c.posted c.served ≡ Some x → History.IsCellOf g setup k (History.with_served g c x)
    good_on setup k c x h is =
        let n : ℕ = c.served in
        let inside : n < length c.posted = item_below c.posted n x is in
        let fit : g.fits (History.job_of g setup) k x = subst (g.fits (History.job_of g setup) k) (read_at c.posted n x x is) (h.fitting n x inside) in
        let moved = stays_there c.station x in
        record {
          start = h.start;
          started = h.started;
          start_job = h.start_job;
          start_place = h.start_place;
          few = omega arith;
          replayed = ap (λ s. g.next s x) h.replayed ∙ sym (replay_more h.start c.posted n x is) ∙ ap (λ (z : ℕ). History.replay g h.start (take z c.posted)) (let e : suc n ≡ n + 1 = omega arith in e);
          sound = stays_sound (History.job_of g setup) k c.station x h.job h.place h.sound fit;
          job = moved.0 ∙ h.job;
          place = moved.1 ∙ h.place;
          fitting = h.fitting;
        }

  module _ (setup : Setup S) where
    abbrev C : Type 0
    C = Cell S J I

    abbrev V : Type 0
    V = SeatView S J I

    abbrev St : Type 0
    St = State C V

    abbrev H : Type 0
    H = Turn S J I

    abbrev Rule : St → Type 0
    Rule = FloorRules.IsFloor g setup

    -- the holder of a station makes its cell c, whose counts are then the words
    recount : (s : St) (r : Rule s) (id i new : ℕ) (v : V) (h : H) (c : C) (posts : List (Entry I)) (serves : List (Entry (List (Bound I)))) → get_elem? s.views id ≡ some v → v.held ≡ Some h → length s.homes ≤ i
        → Grows g setup (length s.homes) h.cell c → History.IsCellOf g setup h.station c
        → ((j : ℕ) → j < length s.homes → j ≢ h.station → length s.homes + j ≢ i) → ((j : ℕ) → j < length s.homes → j ≢ h.station → length s.homes + length s.homes + j ≢ i)
        → get_or (set s.words i new) (length s.homes + h.station) 0 ≡ length c.posted → get_or (set s.words i new) (length s.homes + length s.homes + h.station) 0 ≡ c.served
        → ((cells : ℕ → C) → cells h.station ≡ c → ((j : ℕ) → j < length s.homes → Grows g setup (length s.homes) (r.cells j) (cells j)) → Counting.Each (FloorRules.PostStands g (length s.homes) cells) posts × Counting.Each (FloorRules.ServeStands g setup (length s.homes) cells) serves)
        → ((p : ℕ) → Counting.count h.station p posts + Counting.below p (length h.cell.posted) ≡ Counting.count h.station p v.posts + Counting.below p (length c.posted))
        → ((q p : ℕ) → q ≢ h.station → Counting.count q p posts ≡ Counting.count q p v.posts)
        → ((p : ℕ) → Counting.count h.station p serves + Counting.below p h.cell.served ≡ Counting.count h.station p v.serves + Counting.below p c.served)
        → ((q p : ℕ) → q ≢ h.station → Counting.count q p serves ≡ Counting.count q p v.serves)
        → Rule record { words = set s.words i new; homes = s.homes; views = set s.views id (SeatViews.seat_view v.setup v.number v.numbers v.given (Some (SeatViews.turn_at h.station c)) posts serves v.looks) }
    recount s r id i new v h c posts serves at is high grows good no_posted no_served posted_is served_is marks posts_here posts_else serves_here serves_else =
        let P : ℕ = length s.homes in
        let k : ℕ = h.station in
        let w : V = SeatViews.seat_view v.setup v.number v.numbers v.given (Some (SeatViews.turn_at k c)) posts serves v.looks in
        let ws : List ℕ = set s.words i new in
        let cells : ℕ → C = but r.cells k c in
        let mine = r.each_seat id v at in
        let o = mine.holds h is in
        let low_k : k < P = o.0 in
        let turn : get_or s.words k 0 ≡ suc v.number = o.1 in
        let was : h.cell ≡ r.cells k = o.2 in
        let live = has_setup g setup P s.words r.cells r.seat_of r.given r.base id v h mine is in
        let there : id < length s.views = here_below s.views id v at in
        let here : cells k ≡ c = but_here r.cells k k c refl in
        let turn_word : (j : ℕ) → j < P → get_or ws j 0 ≡ get_or s.words j 0 = λ j low. get_or-set_other s.words i j new 0 (λ e. omega arith) in
        let all_grow : (j : ℕ) → j < P → Grows g setup P (r.cells j) (cells j) = λ j low. dite (ℕ_discrete j k)
        (λ e. subst (λ (z : C × C). Grows g setup P z.0 z.1) (λ m. ((was ∙ ap r.cells (sym e)) m, sym (but_here r.cells k j c e) m)) grows)
        (λ other. grows_not g setup P (r.cells j) (cells j) (but_else r.cells k j c other)) in
        let marked = marks cells here all_grow in
        after g setup P s r id v w ws s.homes cells at (length-set s.words i new) all_grow
        (λ j low. dite (ℕ_discrete j k)
        (λ e. subst (λ (z : ℕ × C). History.IsCellOf g setup z.0 z.1) (λ m. (sym e m, sym (but_here r.cells k j c e) m)) good)
        (λ other. subst (History.IsCellOf g setup j) (sym (but_else r.cells k j c other)) (r.good j low)))
        (λ j low. dite (ℕ_discrete j k)
        (λ e. ap (λ (z : ℕ). get_or ws (P + z) 0) e ∙ posted_is ∙ ap (λ (z : C). length z.posted) (sym (but_here r.cells k j c e)))
        (λ other. get_or-set_other s.words i (P + j) new 0 (no_posted j low other) ∙ r.posted_is j low ∙ ap (λ (z : C). length z.posted) (sym (but_else r.cells k j c other))))
        (λ j low. dite (ℕ_discrete j k)
        (λ e. ap (λ (z : ℕ). get_or ws (P + P + z) 0) e ∙ served_is ∙ ap (λ (z : C). z.served) (sym (but_here r.cells k j c e)))
        (λ other. get_or-set_other s.words i (P + P + j) new 0 (no_served j low other) ∙ r.served_is j low ∙ ap (λ (z : C). z.served) (sym (but_else r.cells k j c other))))
        (λ j low zeroed.
        let zero_there : get_or s.words j 0 ≡ 0 = sym (turn_word j low) ∙ zeroed in
        let other : j ≢ k = λ e. let bad : suc v.number ≡ 0 = sym turn ∙ ap (λ (z : ℕ). get_or s.words z 0) (sym e) ∙ zero_there in omega arith in
        r.at_home j low zero_there ∙ ap (λ (z : C). some (some z)) (sym (but_else r.cells k j c other)))
        (λ j m low named. let t = r.taken j m low (sym (turn_word j low) ∙ named) in dite (ℕ_discrete (r.seat_of m) id)
        (λ e. let one : t.view ≡ v = some-injective _ _ (sym t.there ∙ ap (get_elem? s.views) e ∙ at) in
        let same : t.held ≡ h = Some-injective t.held h (sym t.is_held ∙ ap (λ (y : V). y.held) one ∙ is) in
        record { view = w; there = ap (get_elem? (set s.views id w)) e ∙ set_here s.views id w there; number = ap (λ (y : V). y.number) (sym one) ∙ t.number; held = SeatViews.turn_at k c; is_held = refl; station = ap (λ (y : H). y.station) (sym same) ∙ t.station })
        (λ other. record { view = t.view; there = set_else s.views id (r.seat_of m) w other ∙ t.there; number = t.number; held = t.held; is_held = t.is_held; station = t.station }))
        (λ j u h' apart at' is' low word.
        let other : h'.station ≢ k = λ e. apart (one_holder g setup s r id j v u h h' at is at' is' e) in
        (turn_word h'.station low ∙ word, sym (but_else r.cells k h'.station c other)))
        record {
          live = mine.live;
          spent = λ none_is. not_held setup v.setup none_is live;
          gives = mine.gives;
          holds = λ h' e. subst (λ (y : H). (y.station < P) × (get_or ws y.station 0 ≡ suc v.number) × (y.cell ≡ cells y.station)) (Some-injective (SeatViews.turn_at k c) h' e) (low_k, turn_word k low_k ∙ turn, sym here);
          posts = marked.0;
          serves = marked.1;
        }
        (λ q p low. dite (ℕ_discrete q k)
        (λ e. subst (λ (z : ℕ × (C × C)). Counting.count z.0 p posts + Counting.below p (length z.1.0.posted) ≡ Counting.count z.0 p v.posts + Counting.below p (length z.1.1.posted)) (λ m. (sym e m, ((was ∙ ap r.cells (sym e)) m, sym (but_here r.cells k q c e) m))) (posts_here p))
        (λ other. let a = posts_else q p other in let b : length (cells q).posted ≡ length (r.cells q).posted = ap (λ (z : C). length z.posted) (but_else r.cells k q c other) in let d : Counting.below p (length (cells q).posted) ≡ Counting.below p (length (r.cells q).posted) = ap (Counting.below p) b in omega arith))
        (λ q p low. dite (ℕ_discrete q k)
        (λ e. subst (λ (z : ℕ × (C × C)). Counting.count z.0 p serves + Counting.below p z.1.0.served ≡ Counting.count z.0 p v.serves + Counting.below p z.1.1.served) (λ m. (sym e m, ((was ∙ ap r.cells (sym e)) m, sym (but_here r.cells k q c e) m))) (serves_here p))
        (λ other. let a = serves_else q p other in let b : (cells q).served ≡ (r.cells q).served = ap (λ (z : C). z.served) (but_else r.cells k q c other) in let d : Counting.below p (cells q).served ≡ Counting.below p (r.cells q).served = ap (Counting.below p) b in omega arith))
        refl

    counts_post_at : (n id : ℕ) (me : Me C V) (h : H) (x : I) → me.0.held ≡ Some h → h.station < n → SeatSteps.posted_in_hand g me.1 ≡ h.cell.posted ++ x ∷ [] → g.fits (History.job_of g setup) h.station x → length h.cell.posted + 1 < 18446744073709551616
        → Allows Rule n id me (n + h.station) (λ y. (y + 1) % 18446744073709551616) (SeatSteps.post_added g (step n (n + h.station) 1 0 none) me)
    counts_post_at n id me h x holding below hand fit small s r wide at _ =
        subst (λ (m : ℕ). (w : V) × (a : Act C) × Valid s.homes me.1 a × Rule (stepped s (m + h.station) ((get_or s.words (m + h.station) 0 + 1) % 18446744073709551616) id me.1 w a) × SeatSteps.post_added g (step m (m + h.station) 1 0 none) me (get_or s.words (m + h.station) 0) (w, carried_after me.1 a)) wide
        (
        let P : ℕ = length s.homes in
        let k : ℕ = h.station in
        let v : V = me.0 in
        let mine = r.each_seat id v at in
        let o = mine.holds h holding in
        let low : k < P = o.0 in
        let L : ℕ = length h.cell.posted in
        let y : ℕ = get_or s.words (P + k) 0 in
        let read : y ≡ L = r.posted_is k low ∙ ap (λ (c : C). length c.posted) (sym o.2) in
        let up : (y + 1) % 18446744073709551616 ≡ L + 1 = ap (λ (z : ℕ). (z + 1) % 18446744073709551616) read ∙ mod-eq_of_lt small in
        let c : C = History.with_item g h.cell x in
        let long : length c.posted ≡ L + 1 = length-append h.cell.posted (x ∷ []) ∙ (omega arith) in
        let W : ℕ = length s.words in
        let wide_w : W ≡ P + P + P = r.wide in
        let new : ℕ = (y + 1) % 18446744073709551616 in
        let served_word : get_or s.words (P + P + k) 0 ≡ h.cell.served = r.served_is k low ∙ ap (λ (z : C). z.served) (sym o.2) in (
          SeatSteps.with_post g v h x,
          keeps,
          tt,
          recount s r id (P + k) new v h c (v.posts ++ Counting.entry k L x ∷ []) v.serves at holding (omega arith) record { more = x ∷ []; posted = refl; served = omega arith }
              (good_more setup k h.cell x (subst (History.IsCellOf g setup k) (sym o.2) (r.good k low)) fit) (λ j low_j other e. let bad : j ≢ k = other in omega arith) (λ j low_j other e. omega arith)
              (get_or-set_same s.words (P + k) new 0 (omega arith) ∙ up ∙ sym long) (get_or-set_other s.words (P + k) (P + P + k) new 0 (λ e. omega arith) ∙ served_word)
              (λ cells here grow. (
                Each-append (FloorRules.PostStands g P cells) v.posts (Counting.entry k L x ∷ []) (posts_on g setup P r.cells cells v.posts grow mine.posts) ((low, ap (λ (z : C). slice_get z.posted L) here ∙ item_last h.cell.posted x), tt),
                serves_on g setup P r.cells cells v.serves grow mine.serves,
              ))
              (λ p. let a = count_append k p v.posts (Counting.entry k L x ∷ []) in let b = at_same k p k L x refl in let d = below_more p L in let e : Counting.below p (length c.posted) ≡ Counting.below p (L + 1) = ap (Counting.below p) long in omega arith)
              (λ q p other. let a = count_append q p v.posts (Counting.entry k L x ∷ []) in let b = at_other q p k L x (λ e. other (sym e)) in omega arith)
              (λ p. refl) (λ q p other. refl),
          λ h' x' is' hand'.
              let same : h ≡ h' = Some-injective h h' (sym holding ∙ is') in
              let x_is : x ≡ x' = snoc_injective h.cell.posted x x' (sym hand ∙ hand' ∙ ap (λ (z : H). z.cell.posted ++ x' ∷ []) (sym same)) in
              (read ∙ ap (λ (z : H). length z.cell.posted) same, λ i. (SeatSteps.with_post g v (same i) (x_is i), me.1)),
        ))

    pub counts_post : (n id k : ℕ) (me : Me C V) (h : H) (x : I) → me.0.held ≡ Some h → h.station ≡ k → k < n → SeatSteps.posted_in_hand g me.1 ≡ h.cell.posted ++ x ∷ [] → g.fits (History.job_of g setup) k x → length h.cell.posted + 1 < 18446744073709551616
        → Allows Rule n id me (n + k) (λ y. (y + 1) % 18446744073709551616) (SeatSteps.post_added g (step n (n + k) 1 0 none) me)
    counts_post n id k me h x holding is_k below hand fit small =
        subst (λ (z : ℕ). z < n → g.fits (History.job_of g setup) z x → Allows Rule n id me (n + z) (λ y. (y + 1) % 18446744073709551616) (SeatSteps.post_added g (step n (n + z) 1 0 none) me)) is_k
        (λ low fit'. counts_post_at n id me h x holding low hand fit' small) below fit

    module _ (stays_sound : (j : J) (p : ℕ) (s : S) (x : I) → g.job s ≡ j → g.place s ≡ p → g.sound j p s → g.fits j p x → g.sound j p (g.next s x))
        (stays_there : (s : S) (x : I) → (g.job (g.next s x) ≡ g.job s) × (g.place (g.next s x) ≡ g.place s)) where
      counts_serve_at : (n id : ℕ) (me : Me C V) (h : H) (x : I) → me.0.held ≡ Some h → h.station < n → slice_get h.cell.posted h.cell.served ≡ Some x → length h.cell.posted < 18446744073709551616
          → Allows Rule n id me (n + n + h.station) (λ y. (y + 1) % 18446744073709551616) (SeatSteps.serve_added g (step n (n + n + h.station) 1 0 none) me)
      counts_serve_at n id me h x holding below item small s r wide at _ =
          subst (λ (m : ℕ). (w : V) × (a : Act C) × Valid s.homes me.1 a × Rule (stepped s (m + m + h.station) ((get_or s.words (m + m + h.station) 0 + 1) % 18446744073709551616) id me.1 w a) × SeatSteps.serve_added g (step m (m + m + h.station) 1 0 none) me (get_or s.words (m + m + h.station) 0) (w, carried_after me.1 a)) wide
          (
          let P : ℕ = length s.homes in
          let k : ℕ = h.station in
          let v : V = me.0 in
          let mine = r.each_seat id v at in
          let o = mine.holds h holding in
          let low : k < P = o.0 in
          let L : ℕ = h.cell.served in
          let inside : L < length h.cell.posted = item_below h.cell.posted L x item in
          let y : ℕ = get_or s.words (P + P + k) 0 in
          let read : y ≡ L = r.served_is k low ∙ ap (λ (c : C). c.served) (sym o.2) in
          let fits_word : L + 1 < 18446744073709551616 = omega arith in
          let up : (y + 1) % 18446744073709551616 ≡ L + 1 = ap (λ (z : ℕ). (z + 1) % 18446744073709551616) read ∙ mod-eq_of_lt fits_word in
          let c : C = History.with_served g h.cell x in
          let sends : List (Bound I) = g.sends h.cell.station x in
          let W : ℕ = length s.words in
          let wide_w : W ≡ P + P + P = r.wide in
          let new : ℕ = (y + 1) % 18446744073709551616 in
          let good = subst (History.IsCellOf g setup k) (sym o.2) (r.good k low) in
          let posted_word : get_or s.words (P + k) 0 ≡ length h.cell.posted = r.posted_is k low ∙ ap (λ (z : C). length z.posted) (sym o.2) in (
            SeatSteps.with_serve g v h x,
            keeps,
            tt,
            recount s r id (P + P + k) new v h c v.posts (v.serves ++ Counting.entry k L sends ∷ []) at holding (omega arith) record { more = []; posted = sym (append_none h.cell.posted); served = omega arith } (good_on stays_sound stays_there setup k h.cell x good item)
                (λ j low_j other e. omega arith) (λ j low_j other e. let bad : j ≢ k = other in omega arith) (get_or-set_other s.words (P + P + k) (P + k) new 0 (λ e. omega arith) ∙ posted_word) (get_or-set_same s.words (P + P + k) new 0 (omega arith) ∙ up)
                (λ cells here grow. (
                  posts_on g setup P r.cells cells v.posts grow mine.posts,
                  Each-append (FloorRules.ServeStands g setup P cells) v.serves (Counting.entry k L sends ∷ []) (serves_on g setup P r.cells cells v.serves grow mine.serves) (
                    (
                      low,
                      subst (λ (z : C). History.IsServeOf g setup k z L sends) (sym here) record { start = good.start; started = good.started; done = omega arith; sends_are = record { item = x; item_is = item; sends_are = ap (λ st. g.sends st x) good.replayed } },
                    ),
                    tt,
                  ),
                ))
                (λ p. refl) (λ q p other. refl)
                (λ p. let a = count_append k p v.serves (Counting.entry k L sends ∷ []) in let b = at_same k p k L sends refl in let d = below_more p L in omega arith)
                (λ q p other. let a = count_append q p v.serves (Counting.entry k L sends ∷ []) in let b = at_other q p k L sends (λ e. other (sym e)) in omega arith),
            λ h' x' is' item'.
                let same : h ≡ h' = Some-injective h h' (sym holding ∙ is') in
                let x_is : x ≡ x' = Some-injective x x' (sym item ∙ ap (λ (z : H). slice_get z.cell.posted z.cell.served) same ∙ item') in
                (read ∙ ap (λ (z : H). z.cell.served) same, λ i. (SeatSteps.with_serve g v (same i) (x_is i), me.1)),
          ))

      pub counts_serve : (n id k : ℕ) (me : Me C V) (h : H) (x : I) → me.0.held ≡ Some h → h.station ≡ k → k < n → slice_get h.cell.posted h.cell.served ≡ Some x → length h.cell.posted < 18446744073709551616
          → Allows Rule n id me (n + n + k) (λ y. (y + 1) % 18446744073709551616) (SeatSteps.serve_added g (step n (n + n + k) 1 0 none) me)
      counts_serve n id k me h x holding is_k below item small =
          subst (λ (z : ℕ). z < n → Allows Rule n id me (n + n + z) (λ y. (y + 1) % 18446744073709551616) (SeatSteps.serve_added g (step n (n + n + z) 1 0 none) me)) is_k
          (λ low. counts_serve_at n id me h x holding low item small) below
