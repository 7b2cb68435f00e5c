-- What a whole call leaves of a seat, from what its steps left.
use Rattle.std.proofs.Common.{◌≡◌, ℕ, ◌<◌, ◌≤◌, List, [], ◌∷◌, ◌++◌, length, map, refl, sym, ap, ◌∙◌, subst}
use Rattle.std.specs.Prelude.{None, Some, Result, Ok, Err, IfOk, IfErr}
use Rattle.atomic_table.specs.Seated.{TableId}
use Rattle.bs_floor.specs.declared.station.Bound.{Bound}
use Rattle.bs_floor.specs.declared.cell.Cell.{Cell}
use Rattle.bs_floor.specs.declared.view.SeatView.{SeatView}
use Rattle.bs_floor.specs.declared.view.Setup.{Setup}
use Rattle.bs_floor.specs.declared.view.Look.TheVariants.{Held, Counts}
use Rattle.bs_floor.specs.declared.answers.Served.{Served}
use Rattle.bs_floor.specs.declared.answers.Position.{Position}
use Rattle.bs_floor.specs.declared.answers.PostFault.TheVariants as post
use Rattle.bs_floor.specs.declared.answers.ServeFault.{ServeFault}
use Rattle.bs_floor.specs.declared.answers.ServeFault.TheVariants.{Busy, Idle, Memory}
use Rattle.bs_floor.specs.declared.station.Station as Station
use Rattle.bs_floor.specs.Counting
use Rattle.bs_floor.specs.Hands
use Rattle.bs_floor.specs.History
use Rattle.bs_floor.specs.SeatSteps
use Rattle.bs_floor.specs.SeatViews
use Rattle.bs_floor.specs.Seats
use Rattle.bs_floor.specs.Stations.{AllFit}
use Rattle.bs_floor.proofs.Lookups.{item_below, read_at}

pub map_snoc : {A B : Type 0} (f : A → B) (xs : List A) (x : A) → map f (xs ++ x ∷ []) ≡ map f xs ++ f x ∷ []
map_snoc f [] x = refl
map_snoc f (y ∷ ys) x = ap (λ l. f y ∷ l) (map_snoc f ys x)

module _ {S J I : Type 0} (g : Station.Ghosts S J I) (setup : Setup S) where
  abbrev M : Type 0
  M = SeatSteps.Standing g

  abbrev C : Type 0
  C = Cell S J I

  -- between two calls a seat has no turn, its own number alone, and the positions of its posts
  abbrev pub IsAtRest : ℕ → List Position → M → Type 0
  IsAtRest number positions m = (m.0.held ≡ None) × (m.0.number ≡ number) × (m.1 ≡ []) × (m.0.numbers ≡ number ∷ []) × (positions ≡ map Seats.position_of m.0.posts)

  pub is_free : (number : ℕ) (positions : List Position) (m : M) → m.0.setup ≡ Some setup → IsAtRest number positions m → Hands.HoldsNothing g setup number m
  is_free number positions m live rest = (live, rest.0, rest.1, rest.2)

  pub rests_after_look : (number k by : ℕ) (positions : List Position) (m m' : M) → IsAtRest number positions m → SeatSteps.FindsHeld g setup k by m m' → IsAtRest number positions m'
  rests_after_look number k by positions m m' rest missed = subst (IsAtRest number positions) (sym missed.now) rest

  got_held : (number k : ℕ) (m0 m1 : M) → Hands.HoldsNothing g setup number m0 → (got : SeatSteps.GetsTurn g setup k m0 m1) → Hands.HasInHand g k got.cell m1
  got_held number k m0 m1 free got = (ap (λ m. m.0.held) got.now, ap (λ m. m.1) got.now ∙ ap (λ l. (k, got.cell) ∷ l) free.3)

  pub held_after_post : (k : ℕ) (x : I) (m m' : M) (P : Type 0) (r : Result ℕ I) → IfOk r (λ n. Hands.HasPosted g k x n m m') → IfErr r (λ e. (e ≡ x) × Hands.HasLooked g k m m' × P) → Hands.HasStation g setup k m → (c : C) × Hands.HasInHand g k c m'
  held_after_post k x m m' P (Ok n) done failed h = let t = (done h.cell h.held).2 in (History.with_item g h.cell x, (ap (λ z. z.0.held) t, ap (λ z. z.1) t))
  held_after_post k x m m' P (Err e) done failed h = let t = failed.1 h.cell h.held in (h.cell, (ap (λ z. z.0.held) t ∙ h.held.0, ap (λ z. z.1) t ∙ h.held.1))

  pub held_after_serve : (k : ℕ) (m m' : M) (r : Result (Served I) ServeFault) → IfOk r (λ s. Hands.HasServed g k s.number s.sends m m') → IfErr r (λ e. Hands.HasLooked g k m m' × Hands.HasServeFault g k m e) → Hands.HasStation g setup k m → (c : C) × Hands.HasInHand g k c m'
  held_after_serve k m m' (Ok s) done failed h = let t = done h.cell h.held in (History.with_served g h.cell t.0, (ap (λ z. z.0.held) t.4, ap (λ z. z.1) t.4))
  held_after_serve k m m' (Err e) done failed h = let t = failed.0 h.cell h.held in (h.cell, (ap (λ z. z.0.held) t ∙ h.held.0, ap (λ z. z.1) t ∙ h.held.1))

  module _ (known : Seats.FloorValue S) (is_known : setup ≡ known.1) where
    -- a call that found another seat at the station
    pub held_value : (id id' : TableId) (s : Seats.SeatValue S J I) (number k by : ℕ) (positions : List Position) (m m' : M) → (id, m.0) ≡ s → id' ≡ id → IsAtRest number positions m → SeatSteps.FindsHeld g setup k by m m'
        → Seats.SeesHeld known k by s (id', m'.0)
    held_value id id' s number k by positions m m' e same rest missed = record {
      other = λ is. missed.other (is ∙ ap (λ z. z.1.number) (sym e));
      seat = subst (λ (z : Setup S). by < z.seats) is_known missed.small;
      now = (λ i. (same i, (missed.now i).0)) ∙ ap (λ h. (id, SeatViews.seat_view m.0.setup m.0.number m.0.numbers m.0.given h m.0.posts m.0.serves (m.0.looks ++ Held k by ∷ []))) rest.0 ∙ ap (λ z. Seats.looking z (Held k by)) e;
    }

    module _ (id id' : TableId) (s : Seats.SeatValue S J I) (number k : ℕ) (positions : List Position) (m0 m1 m2 m3 : M) (e : (id, m0.0) ≡ s) (same : id' ≡ id) (live : m0.0.setup ≡ Some setup) (rest : IsAtRest number positions m0)
        (got : SeatSteps.GetsTurn g setup k m0 m1) (put : m3 ≡ (SeatViews.with_held m2.0 None, [])) where
      held_now : Hands.HasInHand g k got.cell m1
      held_now = got_held number k m0 m1 (is_free number positions m0 live rest) got

      pub post_value : (x : I) (n : ℕ) → Hands.HasPosted g k x n m1 m2 → Seats.Posts k x n s (id', m3.0)
      post_value x n done =
          let t = done got.cell held_now in
          let c : C = got.cell in
          let shape : ℕ → SeatView S J I → SeatView S J I = λ q v. SeatViews.seat_view v.setup v.number v.numbers v.given None (v.posts ++ Counting.entry k q x ∷ []) v.serves (v.looks ++ Counts k q c.served ∷ []) in
          let last : m3.0 ≡ shape (length c.posted) m1.0 = ap (λ m. m.0) put ∙ ap (λ m. SeatViews.with_held m.0 None) t.2 in
          let first : shape (length c.posted) m1.0 ≡ shape (length c.posted) m0.0 = ap (λ m. shape (length c.posted) m.0) got.now in
          let all : m3.0 ≡ shape n m0.0 = last ∙ first ∙ ap (λ q. shape q m0.0) (sym t.0) in
          record { served = c.served; few = subst (λ z. c.served ≤ z) (sym t.0) t.1; now = (λ i. (same i, all i)) ∙ ap (λ z. Seats.posting z k n c.served x) e }

      pub looked_value : Hands.HasLooked g k m1 m2 → Seats.SeesCounts k (length got.cell.posted) got.cell.served s (id', m3.0)
      looked_value done =
          let t = done got.cell held_now in
          let c : C = got.cell in
          let shape : SeatView S J I → SeatView S J I = λ v. SeatViews.seat_view v.setup v.number v.numbers v.given None v.posts v.serves (v.looks ++ Counts k (length c.posted) c.served ∷ []) in
          let all : m3.0 ≡ shape m0.0 = ap (λ m. m.0) put ∙ ap (λ m. SeatViews.with_held m.0 None) t ∙ ap (λ m. shape m.0) got.now in
          record { few = got.good.few; now = (λ i. (same i, all i)) ∙ ap (λ z. Seats.looking z (Counts k (length c.posted) c.served)) e }

      pub post_fault : (x y : I) → (y ≡ x) × Hands.HasLooked g k m1 m2 → Seats.PostRefused known k x s (id', m3.0) (post.Memory y)
      post_fault x y done = (done.0, (length got.cell.posted, got.cell.served, looked_value done.1))

      pub rests_after_post : (x : I) (after : List Position) (r : Result ℕ I) → IfOk r (λ n. Hands.HasPosted g k x n m1 m2) → IfOk r (λ n. after ≡ positions ++ record { station = k; number = n } ∷ []) → IfErr r (λ y. (y ≡ x) × Hands.HasLooked g k m1 m2 × (after ≡ positions))
          → IsAtRest number after m3
      rests_after_post x after (Ok n) done position failed =
          let t = done got.cell held_now in
          let posts : m3.0.posts ≡ m0.0.posts ++ Counting.entry k (length got.cell.posted) x ∷ [] = ap (λ m. m.0.posts) put ∙ ap (λ m. m.0.posts) t.2 ∙ ap (λ m. m.0.posts ++ Counting.entry k (length got.cell.posted) x ∷ []) got.now in (
            ap (λ m. m.0.held) put,
            ap (λ m. m.0.number) put ∙ ap (λ m. m.0.number) t.2 ∙ ap (λ m. m.0.number) got.now ∙ rest.1,
            ap (λ m. m.1) put,
            ap (λ m. m.0.numbers) put ∙ ap (λ m. m.0.numbers) t.2 ∙ ap (λ m. m.0.numbers) got.now ∙ rest.3,
            position ∙ (λ i. rest.4 i ++ record { station = k; number = t.0 i } ∷ []) ∙ sym (ap (map Seats.position_of) posts ∙ map_snoc Seats.position_of m0.0.posts (Counting.entry k (length got.cell.posted) x)),
          )
      rests_after_post x after (Err y) done position failed =
          let t = failed.1 got.cell held_now in (
            ap (λ m. m.0.held) put,
            ap (λ m. m.0.number) put ∙ ap (λ m. m.0.number) t ∙ ap (λ m. m.0.number) got.now ∙ rest.1,
            ap (λ m. m.1) put,
            ap (λ m. m.0.numbers) put ∙ ap (λ m. m.0.numbers) t ∙ ap (λ m. m.0.numbers) got.now ∙ rest.3,
            failed.2 ∙ rest.4 ∙ sym (ap (λ m. map Seats.position_of m.0.posts) put ∙ ap (λ m. map Seats.position_of m.0.posts) t ∙ ap (λ m. map Seats.position_of m.0.posts) got.now),
          )

      serve_value : (n : ℕ) (sends : List (Bound I)) → Hands.HasServed g k n sends m1 m2 → Seats.Serves k n sends s (id', m3.0)
      serve_value n sends done =
          let t = done got.cell held_now in
          let c : C = got.cell in
          let shape : ℕ → List (Bound I) → SeatView S J I → SeatView S J I = λ q ss v. SeatViews.seat_view v.setup v.number v.numbers v.given None v.posts (v.serves ++ Counting.entry k q ss ∷ []) (v.looks ++ Counts k (length c.posted) q ∷ []) in
          let last : m3.0 ≡ shape c.served (g.sends c.station t.0) m1.0 = ap (λ m. m.0) put ∙ ap (λ m. SeatViews.with_held m.0 None) t.4 in
          let first : shape c.served (g.sends c.station t.0) m1.0 ≡ shape c.served (g.sends c.station t.0) m0.0 = ap (λ m. shape c.served (g.sends c.station t.0) m.0) got.now in
          let all : m3.0 ≡ shape n sends m0.0 = last ∙ first ∙ (λ i. shape (sym t.1 i) (sym t.3 i) m0.0) in
          record { posted = length c.posted; some_item = subst (λ z. z < length c.posted) (sym t.1) (item_below c.posted c.served t.0 t.2); now = (λ i. (same i, all i)) ∙ ap (λ z. Seats.serving z k (length c.posted) n sends) e }

      pub serve_ok : (r : Result (Served I) ServeFault) → IfOk r (λ t. Hands.HasServed g k t.number t.sends m1 m2) → IfOk r (λ t. Seats.Serves k t.number t.sends s (id', m3.0))
      serve_ok (Ok t) done = serve_value t.number t.sends done
      serve_ok (Err t) done = tt

      pub serve_fits : (sends_fit : (j : J) (p : ℕ) (s : S) (x : I) → g.job s ≡ j → g.place s ≡ p → g.sound j p s → g.fits j p x → AllFit (g.places j) (g.fits j) (g.sends s x)) (places : ℕ) → g.places (History.job_of g setup) ≡ places → (r : Result (Served I) ServeFault)
          → IfOk r (λ t. Hands.HasServed g k t.number t.sends m1 m2) → IfOk r (λ t. AllFit places (g.fits (Seats.job_of g known)) t.sends)
      serve_fits sends_fit places many (Ok served) done =
          let t = done got.cell held_now in
          let c : C = got.cell in
          let j : J = History.job_of g setup in
          let fit : g.fits j k t.0 = subst (g.fits j k) (read_at c.posted c.served t.0 t.0 t.2) (got.good.fitting c.served t.0 (item_below c.posted c.served t.0 t.2)) in
          let sent = subst (AllFit (g.places j) (g.fits j)) (sym t.3) (sends_fit j k c.station t.0 got.good.job got.good.place got.good.sound fit) in
          subst (λ (z : Setup S). AllFit places (g.fits (History.job_of g z)) served.sends) is_known (subst (λ (z : ℕ). AllFit z (g.fits j) served.sends) many sent)
      serve_fits sends_fit places many (Err t) done = tt

      fault_value : (r : ServeFault) → Hands.HasLooked g k m1 m2 → Hands.HasServeFault g k m1 r → Seats.ServeRefused known k s (id', m3.0) r
      fault_value (Busy by) looked fault = absurd (fault got.cell held_now)
      fault_value (Idle p q) looked fault =
          let f = fault got.cell held_now in
          (f.0 ∙ f.2 ∙ sym f.1, subst (λ (z : ℕ × ℕ). Seats.SeesCounts k z.0 z.1 s (id', m3.0)) (λ i. (sym f.0 i, sym f.1 i)) (looked_value looked))
      fault_value Memory looked fault = (length got.cell.posted, got.cell.served, fault got.cell held_now, looked_value looked)

      pub serve_err : (r : Result (Served I) ServeFault) → IfErr r (λ t. Hands.HasLooked g k m1 m2 × Hands.HasServeFault g k m1 t) → IfErr r (λ t. Seats.ServeRefused known k s (id', m3.0) t)
      serve_err (Ok t) done = tt
      serve_err (Err t) done = fault_value t done.0 done.1

      pub rests_after_serve : (r : Result (Served I) ServeFault) → IfOk r (λ t. Hands.HasServed g k t.number t.sends m1 m2) → IfErr r (λ t. Hands.HasLooked g k m1 m2 × Hands.HasServeFault g k m1 t) → IsAtRest number positions m3
      rests_after_serve (Ok t) done failed =
          let it = done got.cell held_now in (
            ap (λ m. m.0.held) put,
            ap (λ m. m.0.number) put ∙ ap (λ m. m.0.number) it.4 ∙ ap (λ m. m.0.number) got.now ∙ rest.1,
            ap (λ m. m.1) put,
            ap (λ m. m.0.numbers) put ∙ ap (λ m. m.0.numbers) it.4 ∙ ap (λ m. m.0.numbers) got.now ∙ rest.3,
            rest.4 ∙ sym (ap (λ m. map Seats.position_of m.0.posts) put ∙ ap (λ m. map Seats.position_of m.0.posts) it.4 ∙ ap (λ m. map Seats.position_of m.0.posts) got.now),
          )
      rests_after_serve (Err t) done failed =
          let it = failed.0 got.cell held_now in (
            ap (λ m. m.0.held) put,
            ap (λ m. m.0.number) put ∙ ap (λ m. m.0.number) it ∙ ap (λ m. m.0.number) got.now ∙ rest.1,
            ap (λ m. m.1) put,
            ap (λ m. m.0.numbers) put ∙ ap (λ m. m.0.numbers) it ∙ ap (λ m. m.0.numbers) got.now ∙ rest.3,
            rest.4 ∙ sym (ap (λ m. map Seats.position_of m.0.posts) put ∙ ap (λ m. map Seats.position_of m.0.posts) it ∙ ap (λ m. map Seats.position_of m.0.posts) got.now),
          )

module _ {S J I : Type 0} (f : Seats.FloorValue S) (k : ℕ) (s t : Seats.SeatValue S J I) where
  abbrev Same : Type 0
  Same = Seats.IsSeatOf f t × (Seats.number_of t ≡ Seats.number_of s)

  abbrev Shape : Type 0
  Shape = Seats.SeatValue S J I

  same_after : (w : Shape) → t ≡ w → w.0 ≡ s.0 → w.1.setup ≡ s.1.setup → w.1.number ≡ s.1.number → Seats.IsSeatOf f s → Same
  same_after w is id setup number own = ((ap (λ (z : Shape). z.0) is ∙ id ∙ own.0, ap (λ (z : Shape). z.1.setup) is ∙ setup ∙ own.1), ap (λ (z : Shape). z.1.number) is ∙ number)

  -- a call leaves a seat with its floor and its number
  pub same_after_serve : (r : Result (Served I) ServeFault) → IfOk r (λ d. Seats.Serves k d.number d.sends s t) → IfErr r (λ e. Seats.ServeRefused f k s t e) → Seats.IsSeatOf f s → Same
  same_after_serve (Ok d) done refused own = same_after (Seats.serving s k done.posted d.number d.sends) done.now refl refl refl own
  same_after_serve (Err (Busy by)) done refused own = same_after (Seats.looking s (Held k by)) refused.now refl refl refl own
  same_after_serve (Err (Idle p n)) done refused own = same_after (Seats.looking s (Counts k p n)) refused.1.now refl refl refl own
  same_after_serve (Err Memory) done refused own = same_after (Seats.looking s (Counts k refused.0 refused.1)) refused.3.now refl refl refl own

  pub same_after_held : (by : ℕ) → Seats.SeesHeld f k by s t → Seats.IsSeatOf f s → Same
  same_after_held by held own = same_after (Seats.looking s (Held k by)) held.now refl refl refl own
