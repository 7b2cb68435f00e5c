-- A step of one seat, and what it has to show to keep the rule.
use Rattle.std.proofs.Common.{◌≡◌, ◌≢◌, ℕ, suc, ◌+◌, ◌<◌, ◌≤◌, List, [], ◌++◌, length, take, get_or, set, sym, ap, ◌∙◌, subst, ⊎_elim, arith}
use Rattle.std.specs.Prelude.{Some, slice_get}
use mathlib.Core.Option.{some, some-injective, some-ne-none}
use mathlib.Core.Option as maybe
use lib.ListN.{get_elem?}
use Rattle.atomic_table.specs.Table.{State}
use Rattle.atomic_table.proofs.Lists.{at_set}
use Rattle.bs_floor.specs.declared.station.Bound.{Bound}
use Rattle.bs_floor.specs.declared.cell.Cell.{Cell}
use Rattle.bs_floor.specs.declared.view.SeatView.{SeatView}
use Rattle.bs_floor.specs.declared.view.Setup.{Setup}
use Rattle.bs_floor.specs.declared.view.Entry.{Entry}
use Rattle.bs_floor.specs.declared.view.Turn.{Turn}
use Rattle.bs_floor.specs.declared.station.Station as Station
use Rattle.bs_floor.specs.Counting.{below, count, times, Each}
use Rattle.bs_floor.specs.History.{IsCellOf, IsServeOf, replay}
use Rattle.bs_floor.specs.FloorRules.{PostStands, ServeStands, SeatKnows, HasTurn, IsFloorOf}
use Rattle.bs_floor.proofs.Lookups.{append_none, item_below, item_longer, take_front}
use Rattle.bs_floor.proofs.Sums.{total_set, Each-map}

module _ {S J I : Type 0} (g : Station.Ghosts S J I) (setup : Setup S) (P : ℕ) where
  abbrev pub C : Type 0
  C = Cell S J I

  abbrev pub V : Type 0
  V = SeatView S J I

  abbrev pub St : Type 0
  St = State C V

  abbrev pub H : Type 0
  H = Turn S J I

  -- the later cell has the items of the earlier one, and more are served
  pub record Grows (c d : C) : Type 0 where
    pub more : List I
    pub posted : d.posted ≡ c.posted ++ more
    pub served : c.served ≤ d.served

  pub grows_not : (c d : C) → d ≡ c → Grows c d
  grows_not c d e = record { more = []; posted = ap (λ (x : C). x.posted) e ∙ sym (append_none c.posted); served = let s : d.served ≡ c.served = ap (λ (x : C). x.served) e in omega arith }

  posted_on : (c d : C) (n : ℕ) (x : I) → Grows c d → slice_get c.posted n ≡ Some x → slice_get d.posted n ≡ Some x
  posted_on c d n x grows e = ap (λ l. slice_get l n) grows.posted ∙ item_longer c.posted grows.more n x e

  sent_on : (k : ℕ) (c d : C) (n : ℕ) (sends : List (Bound I)) → Grows c d → IsServeOf g setup k c n sends → IsServeOf g setup k d n sends
  sent_on k c d n sends grows h =
      let some_more = grows.served in
      let was = h.done in
      let of = h.sends_are in
      let low : n < length c.posted = item_below c.posted n of.item of.item_is in
      record {
        start = h.start;
        started = h.started;
        done = omega arith;
        sends_are = record {
          item = of.item;
          item_is = posted_on c d n of.item grows of.item_is;
          sends_are = of.sends_are ∙ ap (λ l. g.sends (replay g h.start l) of.item) (sym (ap (take n) grows.posted ∙ take_front c.posted grows.more n (omega arith)));
        };
      }

  pub posts_on : (cells cells' : ℕ → C) (es : List (Entry I)) → ((k : ℕ) → k < P → Grows (cells k) (cells' k)) → Each (PostStands g P cells) es → Each (PostStands g P cells') es
  posts_on cells cells' es grows h = Each-map es (λ e at. (at.0, posted_on (cells e.station) (cells' e.station) e.number e.content (grows e.station at.0) at.1)) h

  pub serves_on : (cells cells' : ℕ → C) (es : List (Entry (List (Bound I)))) → ((k : ℕ) → k < P → Grows (cells k) (cells' k)) → Each (ServeStands g setup P cells) es → Each (ServeStands g setup P cells') es
  serves_on cells cells' es grows h = Each-map es (λ e at. (at.0, sent_on e.station (cells e.station) (cells' e.station) e.number e.content (grows e.station at.0) at.1)) h

  -- what a step of the seat id leads to
  pub after : (s : St) (r : IsFloorOf g setup P s) (id : ℕ) (v w : V) (ws : List ℕ) (hs : List (maybe.Option C)) (cells : ℕ → C) → get_elem? s.views id ≡ some v → length ws ≡ length s.words
      → ((k : ℕ) → k < P → Grows (r.cells k) (cells k)) → ((k : ℕ) → k < P → IsCellOf g setup k (cells k))
      → ((k : ℕ) → k < P → get_or ws (P + k) 0 ≡ length (cells k).posted) → ((k : ℕ) → k < P → get_or ws (P + P + k) 0 ≡ (cells k).served)
      → ((k : ℕ) → k < P → get_or ws k 0 ≡ 0 → get_elem? hs k ≡ some (some (cells k)))
      → ((k n : ℕ) → k < P → get_or ws k 0 ≡ suc n → HasTurn g (set s.views id w) (r.seat_of n) n k)
      → ((j : ℕ) (u : V) (h : H) → j ≢ id → get_elem? s.views j ≡ some u → u.held ≡ Some h → h.station < P → get_or s.words h.station 0 ≡ suc u.number → (get_or ws h.station 0 ≡ suc u.number) × (r.cells h.station ≡ cells h.station))
      → SeatKnows g setup P ws cells r.seat_of r.given r.base id w
      → ((k p : ℕ) → k < P → count k p w.posts + below p (length (r.cells k).posted) ≡ count k p v.posts + below p (length (cells k).posted))
      → ((k p : ℕ) → k < P → count k p w.serves + below p (r.cells k).served ≡ count k p v.serves + below p (cells k).served)
      → w.numbers ≡ v.numbers
      → IsFloorOf g setup P record { words = ws; homes = hs; views = set s.views id w }
  after s r id v w ws hs cells at long grows good posted_is served_is at_home taken others mine posts serves same = record {
    wide = long ∙ r.wide;
    cells = cells;
    seat_of = r.seat_of;
    given = r.given;
    base = r.base;
    good = good;
    posted_is = posted_is;
    served_is = served_is;
    at_home = at_home;
    taken = taken;
    each_seat = λ j u e. ⊎_elim (λ (t : (j ≡ id) × (w ≡ u)). subst (λ (x : ℕ × V). SeatKnows g setup P ws cells r.seat_of r.given r.base x.0 x.1) (λ i. (sym t.0 i, t.1 i)) mine)
        (λ (t : (j ≢ id) × (get_elem? s.views j ≡ some u)). let k = r.each_seat j u t.1 in record {
          live = k.live;
          spent = k.spent;
          gives = k.gives;
          holds = λ h is. let o = k.holds h is in let n = others j u h t.0 t.1 is o.0 o.1 in (o.0, n.0, o.2 ∙ n.1);
          posts = posts_on r.cells cells u.posts grows k.posts;
          serves = serves_on r.cells cells u.serves grows k.serves;
        })
        (at_set s.views id j w u e);
    posts_once = λ k p low. let t = total_set (λ (x : V). count k p x.posts) s.views id v w at in let o = r.posts_once k p low in let d = posts k p low in omega arith;
    serves_once = λ k p low. let t = total_set (λ (x : V). count k p x.serves) s.views id v w at in let o = r.serves_once k p low in let d = serves k p low in omega arith;
    numbers_once = λ n. let t = total_set (λ (x : V). times n x.numbers) s.views id v w at in let o = r.numbers_once n in let d : times n w.numbers ≡ times n v.numbers = ap (times n) same in omega arith;
  }
