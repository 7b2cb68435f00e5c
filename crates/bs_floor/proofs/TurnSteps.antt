-- Each kind of step keeps the rule.
use Rattle.std.proofs.Common.{◌≡◌, ◌≢◌, ℕ, suc, ◌+◌, ◌-◌, ◌<◌, List, ◌∷◌, length, get_or, set, eqb, refl, sym, ap, ◌∙◌, subst, arith, length-set, get_or-set_other, get_or-set_same}
use Rattle.std.specs.Prelude.{Option, Some, None}
use mathlib.Core.Option.{some, none, some-injective, some-ne-none}
use mathlib.Core.Option as maybe
use mathlib.Core.Logic.{dite}
use native.Mathlib.Decide.{ℕ_discrete}
use lib.ListN.{get_elem?}
use lib.Seq.{set-get_or}
use prog.Atomic.{either}
use Rattle.atomic_table.specs.Table.{State, Me, Act, step, stepped, takes, gives, keeps, carried_after, Valid, Allows}
use Rattle.atomic_table.proofs.Lists.{set_here, set_else, set_again, exchanged}
use Rattle.bs_floor.specs.declared.cell.Cell.{Cell}
use Rattle.bs_floor.specs.declared.view.SeatView.{SeatView}
use Rattle.bs_floor.specs.declared.view.Setup.{Setup}
use Rattle.bs_floor.specs.declared.view.Look.{Look}
use Rattle.bs_floor.specs.declared.view.Look.TheVariants.{Held, Counts}
use Rattle.bs_floor.specs.declared.view.Turn.{Turn}
use Rattle.bs_floor.specs.declared.station.Station as Station
use Rattle.bs_floor.specs.FloorRules
use Rattle.bs_floor.specs.SeatSteps
use Rattle.bs_floor.specs.SeatViews
use Rattle.bs_floor.proofs.Lookups.{Some-injective, none_some, here_below}
use Rattle.bs_floor.proofs.Kept.{grows_not, after}

pub not_held : {X : Type 0} {A : Type 0} (k : A) (h : Option A) → h ≡ None → h ≡ Some k → X
not_held k h free is = none_some k (sym free ∙ is)

module _ {S J I : Type 0} (g : Station.Ghosts S J I) (setup : Setup S) where
  abbrev C : Type 0
  C = Cell S J I

  abbrev V : Type 0
  V = SeatView S J I

  abbrev St : Type 0
  St = State C V

  abbrev H : Type 0
  H = Turn S J I

  abbrev Rule : St → Type 0
  Rule = FloorRules.IsFloor g setup

  held_not : (v : V) (h : H) → v.held ≡ None → v.held ≡ Some h → ⊥
  held_not v h free is = not_held h v.held free is

  -- a seat that holds nothing isn't the one that a turn names
  not_the_holder : (s : St) (r : Rule s) (id : ℕ) (v : V) (k n : ℕ) → get_elem? s.views id ≡ some v → v.held ≡ None → k < length s.homes → get_or s.words k 0 ≡ suc n → r.seat_of n ≢ id
  not_the_holder s r id v k n at free low is same =
      let t = r.taken k n low is in
      let one : t.view ≡ v = some-injective _ _ (sym t.there ∙ ap (get_elem? s.views) same ∙ at) in
      not_held t.held v.held free (ap (λ (x : V). x.held) (sym one) ∙ t.is_held)

  abbrev NoSuch : List ℕ → ℕ → Type 0
  NoSuch ws P = Unit {0}

  -- a step that changes no word, and only what the seat has looked at
  looked : (s : St) (r : Rule s) (i id : ℕ) (v : V) (look : Look) (cs : List (ℕ × C)) → get_elem? s.views id ≡ some v → (p : Setup S) → v.setup ≡ Some p → Rule (stepped s i (get_or s.words i 0) id cs (SeatViews.with_look v look) keeps)
  looked s r i id v look cs at p live =
      let P : ℕ = length s.homes in
      let w : V = SeatViews.with_look v look in
      let mine = r.each_seat id v at in
      let there : id < length s.views = here_below s.views id v at in
      subst (λ (ws : List ℕ). Rule record { words = ws; homes = s.homes; views = set s.views id w }) (sym (set-get_or s.words i 0))
      (after g setup P s r id v w s.words s.homes r.cells at refl (λ k _. grows_not g setup P (r.cells k) (r.cells k) refl) r.good r.posted_is r.served_is r.at_home
      (λ k n low is. let t = r.taken k n low is in dite (ℕ_discrete (r.seat_of n) id)
      (λ e. let one : t.view ≡ v = some-injective _ _ (sym t.there ∙ ap (get_elem? s.views) e ∙ at) in
      record { view = w; there = ap (get_elem? (set s.views id w)) e ∙ set_here s.views id w there; number = ap (λ (y : V). y.number) (sym one) ∙ t.number; held = t.held; is_held = ap (λ (y : V). y.held) (sym one) ∙ t.is_held; station = t.station })
      (λ other. record { view = t.view; there = set_else s.views id (r.seat_of n) w other ∙ t.there; number = t.number; held = t.held; is_held = t.is_held; station = t.station }))
      (λ j u h _ _ _ _ word. (word, refl))
      record { live = mine.live; spent = λ none_is. not_held p v.setup none_is live; gives = mine.gives; holds = mine.holds; posts = mine.posts; serves = mine.serves }
      (λ k q low. refl) (λ k q low. refl) refl)

  pub sees_posted : (n id k : ℕ) (me : Me C V) (h : H) → me.0.held ≡ Some h → h.station ≡ k → Allows Rule n id me (n + k) (λ x. x) (SeatSteps.posted_loaded g (step n (n + k) 0 0 none) me)
  sees_posted n id k me h holding is_k s r wide at small =
      let o = (r.each_seat id me.0 at).holds h holding in
      let read : (m : ℕ) → length s.homes ≡ m → get_or s.words (m + k) 0 ≡ length h.cell.posted = λ m e. subst (λ (z : ℕ). get_or s.words (z + k) 0 ≡ length h.cell.posted) e (ap (λ (z : ℕ). get_or s.words (length s.homes + z) 0) (sym is_k) ∙ r.posted_is h.station o.0 ∙ ap (λ (c : C). length c.posted) (sym o.2)) in (
        me.0,
        keeps,
        tt,
        subst (λ (x : St). Rule x) (λ i. record { words = sym (set-get_or s.words (n + k) 0) i; homes = s.homes; views = sym (set_again s.views id me.0 at) i }) r,
        (refl, λ h' is'. read n wide ∙ ap (λ (x : H). length x.cell.posted) (Some-injective h h' (sym holding ∙ is'))),
      )

  pub sees_served : (n id k : ℕ) (me : Me C V) (h : H) → me.0.held ≡ Some h → h.station ≡ k → (p : Setup S) → me.0.setup ≡ Some p → Allows Rule n id me (n + n + k) (λ x. x) (SeatSteps.served_loaded g (step n (n + n + k) 0 0 none) me)
  sees_served n id k me h holding is_k p live s r wide at small =
      let o = (r.each_seat id me.0 at).holds h holding in
      let read : (m : ℕ) → length s.homes ≡ m → get_or s.words (m + m + k) 0 ≡ h.cell.served = λ m e. subst (λ (z : ℕ). get_or s.words (z + z + k) 0 ≡ h.cell.served) e (ap (λ (z : ℕ). get_or s.words (length s.homes + length s.homes + z) 0) (sym is_k) ∙ r.served_is h.station o.0 ∙ ap (λ (c : C). c.served) (sym o.2)) in
      let look : Look = Counts h.station (length h.cell.posted) h.cell.served in (
        SeatViews.with_look me.0 look,
        keeps,
        tt,
        looked s r (n + n + k) id me.0 look me.1 at p live,
        λ h' is'. let same = Some-injective h h' (sym holding ∙ is') in
            (read n wide ∙ ap (λ (x : H). x.cell.served) same, ap (λ (x : H). (SeatViews.with_look me.0 (Counts x.station (length x.cell.posted) x.cell.served), me.1)) same),
      )

  -- a seat that holds a station has a setup
  pub has_setup : (P : ℕ) (ws : List ℕ) (cells : ℕ → C) (seat_of : ℕ → ℕ) (given base j : ℕ) (v : V) (h : H) → FloorRules.SeatKnows g setup P ws cells seat_of given base j v → v.held ≡ Some h → v.setup ≡ Some setup
  has_setup P ws cells seat_of given base j v h k is = by_case v.setup refl
    where
      by_case : (o : Option (Setup S)) → v.setup ≡ o → v.setup ≡ Some setup
      by_case None e = not_held h v.held (ap (λ (x : V). x.held) (k.spent e)) is
      by_case (Some p) e = e ∙ ap Some (k.live p e).0

  pub goes : (n id k new : ℕ) (me : Me C V) (p : Setup S) → me.0.setup ≡ Some p → me.0.held ≡ None → new ≡ suc me.0.number → k < n → Allows Rule n id me k (λ x. either (eqb x 0) new x) (SeatSteps.turn_tried g (step n k 0 new none) me)
  goes n id k new me p live free is below s r wide at small =
      let x : ℕ = get_or s.words k 0 in
      let P : ℕ = length s.homes in
      let v : V = me.0 in
      let mine = r.each_seat id v at in
      let alive = mine.live p live in
      let there : id < length s.views = here_below s.views id v at in
      let inside : k < P = subst (λ (z : ℕ). k < z) (sym wide) below in
      let W : ℕ = length s.words in
      let long : W ≡ P + P + P = r.wide in
      let inword : k < W = omega arith in
      exchanged x 0 new
      (λ (y : ℕ). (w : V) × (a : Act C) × Valid s.homes me.1 a × Rule (stepped s k y id me.1 w a) × SeatSteps.turn_tried g (step n k 0 new none) me x (w, carried_after me.1 a))
      (λ hit.
      let c : C = r.cells k in
      let w : V = SeatViews.with_held v (Some (SeatViews.turn_at k c)) in
      let ws : List ℕ = set s.words k new in
      let word_here : get_or ws k 0 ≡ suc v.number = get_or-set_same s.words k new 0 inword ∙ is in (
        w,
        takes k c,
        r.at_home k inside hit,
        subst (λ (z : ℕ). FloorRules.IsFloorOf g setup z record { words = ws; homes = set s.homes k none; views = set s.views id w }) (sym (length-set s.homes k none))
            (after g setup P s r id v w ws (set s.homes k none) r.cells at (length-set s.words k new) (λ j _. grows_not g setup P (r.cells j) (r.cells j) refl) r.good
            (λ j low. get_or-set_other s.words k (P + j) new 0 (λ e. omega arith) ∙ r.posted_is j low) (λ j low. get_or-set_other s.words k (P + P + j) new 0 (λ e. omega arith) ∙ r.served_is j low)
            (λ j low zeroed. dite (ℕ_discrete j k)
            (λ e. let bad : get_or ws k 0 ≡ 0 = ap (λ (z : ℕ). get_or ws z 0) (sym e) ∙ zeroed in absurd (omega arith))
            (λ other. set_else s.homes k j none other ∙ r.at_home j low (sym (get_or-set_other s.words k j new 0 other) ∙ zeroed)))
            (λ j m low named. dite (ℕ_discrete j k)
            (λ e. let num : v.number ≡ m = let q = sym word_here ∙ ap (λ (z : ℕ). get_or ws z 0) (sym e) ∙ named in omega arith in
            record { view = w; there = ap (get_elem? (set s.views id w)) (ap r.seat_of (sym num) ∙ alive.1) ∙ set_here s.views id w there; number = num; held = SeatViews.turn_at k c; is_held = refl; station = sym e })
            (λ other. let named' = sym (get_or-set_other s.words k j new 0 other) ∙ named in let old = r.taken j m low named' in
            record { view = old.view; there = set_else s.views id (r.seat_of m) w (not_the_holder s r id v j m at free low named') ∙ old.there; number = old.number; held = old.held; is_held = old.is_held; station = old.station }))
            (λ j u h _ _ _ low word. (get_or-set_other s.words k h.station new 0 (λ e. let bad : x ≡ suc u.number = ap (λ (z : ℕ). get_or s.words z 0) (sym e) ∙ word in absurd (omega arith)) ∙ word, refl))
            record {
              live = mine.live;
              spent = λ none_is. not_held p v.setup none_is live;
              gives = mine.gives;
              holds = λ h e. subst (λ (y : H). (y.station < P) × (get_or ws y.station 0 ≡ suc v.number) × (y.cell ≡ r.cells y.station)) (Some-injective (SeatViews.turn_at k c) h e) (inside, word_here, refl);
              posts = mine.posts;
              serves = mine.serves;
            }
            (λ j q low. refl) (λ j q low. refl) refl),
        λ p' e. ((λ _. subst (λ (z : Setup S). SeatSteps.GetsTurn g z k me (w, (k, c) ∷ me.1)) (sym (mine.live p' e).0) record { cell = c; good = r.good k inside; now = refl }), λ by bad. absurd (omega arith)),
      ))
      (λ miss.
      let w : V = SeatViews.with_look v (Held k (x - 1)) in (
        w,
        keeps,
        tt,
        looked s r k id v (Held k (x - 1)) me.1 at p live,
        λ p' e. (
          (λ hit. absurd (miss hit)),
          λ by is_by.
              let back : x - 1 ≡ by = omega arith in
              let t = r.taken k by inside is_by in
              let theirs = r.each_seat (r.seat_of by) t.view t.there in
              let their_setup = has_setup P s.words r.cells r.seat_of r.given r.base (r.seat_of by) t.view t.held theirs t.is_held in
              subst (λ (z : Setup S). SeatSteps.FindsHeld g z k by me (w, me.1)) (sym (mine.live p' e).0) record {
                small = subst (λ (z : ℕ). z < setup.seats) t.number (theirs.live setup their_setup).2;
                other = λ same. not_the_holder s r id v k by at free inside is_by (ap r.seat_of same ∙ alive.1);
                now = ap (λ (z : ℕ). (SeatViews.with_look v (Held k z), me.1)) back;
              },
        ),
      ))

  -- no other seat has the turn that a seat has
  pub one_holder : (s : St) (r : Rule s) (id j : ℕ) (v u : V) (h h' : H) → get_elem? s.views id ≡ some v → v.held ≡ Some h → get_elem? s.views j ≡ some u → u.held ≡ Some h' → h'.station ≡ h.station → j ≡ id
  one_holder s r id j v u h h' at is at' is' same =
      let P : ℕ = length s.homes in
      let mine = r.each_seat id v at in
      let theirs = r.each_seat j u at' in
      let a = (mine.holds h is).1 in
      let b = (theirs.holds h' is').1 in
      let both : suc u.number ≡ suc v.number = sym b ∙ ap (λ (z : ℕ). get_or s.words z 0) same ∙ a in
      let num : u.number ≡ v.number = omega arith in
      sym (theirs.live setup (has_setup P s.words r.cells r.seat_of r.given r.base j u h' theirs is')).1 ∙ ap r.seat_of num ∙ (mine.live setup (has_setup P s.words r.cells r.seat_of r.given r.base id v h mine is)).1

  pub frees : (n id k : ℕ) (me : Me C V) (h : H) (more : List (ℕ × C)) → me.0.held ≡ Some h → h.station ≡ k → me.1 ≡ (k, h.cell) ∷ more → Allows Rule n id me k (λ _. 0) (λ _ m. SeatSteps.turn_returned g (step n k 0 0 none) me 0 m)
  frees n id k me h more holding is_k carries s r wide at small =
      let P : ℕ = length s.homes in
      let v : V = me.0 in
      let mine = r.each_seat id v at in
      let w : V = SeatViews.with_held v None in
      let there : id < length s.views = here_below s.views id v at in
      let o = mine.holds h holding in
      let inside : k < P = subst (λ (z : ℕ). z < P) is_k o.0 in
      let W : ℕ = length s.words in
      let long : W ≡ P + P + P = r.wide in
      let inword : k < W = omega arith in
      let ws : List ℕ = set s.words k 0 in
      let word_here : get_or ws k 0 ≡ 0 = get_or-set_same s.words k 0 0 inword in
      let c : C = h.cell in
      let c_is : c ≡ r.cells k = o.2 ∙ ap r.cells is_k in
      let live = has_setup P s.words r.cells r.seat_of r.given r.base id v h mine holding in
      let hs : List (maybe.Option C) = set s.homes k (some c) in
      let Goal : List (ℕ × C) → Type 0 = λ cs. Valid s.homes cs gives × Rule (stepped s k 0 id cs w gives) in
      let made : Goal ((k, c) ∷ more) = (
        tt,
        subst (λ (z : ℕ). FloorRules.IsFloorOf g setup z record { words = ws; homes = hs; views = set s.views id w }) (sym (length-set s.homes k (some c)))
            (after g setup P s r id v w ws hs r.cells at (length-set s.words k 0) (λ j _. grows_not g setup P (r.cells j) (r.cells j) refl) r.good
            (λ j low. get_or-set_other s.words k (P + j) 0 0 (λ e. omega arith) ∙ r.posted_is j low) (λ j low. get_or-set_other s.words k (P + P + j) 0 0 (λ e. omega arith) ∙ r.served_is j low)
            (λ j low zeroed. dite (ℕ_discrete j k)
            (λ e. subst (λ (z : ℕ). get_elem? hs z ≡ some (some (r.cells z))) (sym e) (set_here s.homes k (some c) inside ∙ ap (λ (z : C). some (some z)) c_is))
            (λ other. set_else s.homes k j (some c) other ∙ r.at_home j low (sym (get_or-set_other s.words k j 0 0 other) ∙ zeroed)))
            (λ j m low named. dite (ℕ_discrete j k)
            (λ e. let bad : get_or ws k 0 ≡ suc m = ap (λ (z : ℕ). get_or ws z 0) (sym e) ∙ named in absurd (omega arith))
            (λ other. let old = r.taken j m low (sym (get_or-set_other s.words k j 0 0 other) ∙ named) in
            record {
              view = old.view;
              there = set_else s.views id (r.seat_of m) w (λ e. let one : old.view ≡ v = some-injective _ _ (sym old.there ∙ ap (get_elem? s.views) e ∙ at) in
                  let same : old.held ≡ h = Some-injective old.held h (sym old.is_held ∙ ap (λ (y : V). y.held) one ∙ holding) in
                  other (sym old.station ∙ ap (λ (y : H). y.station) same ∙ is_k)) ∙ old.there;
              number = old.number;
              held = old.held;
              is_held = old.is_held;
              station = old.station;
            }))
            (λ j u h' apart at' is' low word. (get_or-set_other s.words k h'.station 0 0 (λ e. apart (one_holder s r id j v u h h' at holding at' is' (e ∙ sym is_k))) ∙ word, refl))
            record { live = mine.live; spent = λ none_is. not_held setup v.setup none_is live; gives = mine.gives; holds = λ h' e. not_held h' None refl e; posts = mine.posts; serves = mine.serves }
            (λ j q low. refl) (λ j q low. refl) refl),
      ) in
      let got = subst Goal (sym carries) made in
      (w, gives, got.0, got.1, refl)
