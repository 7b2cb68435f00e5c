-- A new floor meets its rule.
use Rattle.std.proofs.Common.{◌≡◌, ℕ, zero, suc, ◌+◌, ◌<◌, List, [], ◌∷◌, length, map, get_or, refl, sym, ap, ◌∙◌, subst, arith}
use Rattle.std.specs.Prelude.{Some, None, slice_get, replicate}
use Rattle.std.proofs.lemmas.List.{length-map}
use Rattle.std.proofs.lemmas.List.Elements.{All-nil}
use mathlib.Core.Option.{some, some-injective, some-ne-none}
use lib.ListN.{get_elem?}
use Rattle.atomic_table.specs.Table.{opening}
use Rattle.atomic_table.proofs.Lists.{at_map}
use Rattle.bs_floor.specs.declared.cell.Cell.{Cell}
use Rattle.bs_floor.specs.declared.view.SeatView.{SeatView}
use Rattle.bs_floor.specs.declared.view.Setup.{Setup}
use Rattle.bs_floor.specs.declared.station.Station as Station
use Rattle.bs_floor.specs.FloorRules
use Rattle.bs_floor.specs.History
use Rattle.bs_floor.specs.SeatViews
use Rattle.bs_floor.proofs.Sums.{below_no, below_more}
use Rattle.bs_floor.proofs.TurnSteps.{not_held}
use Rattle.bs_floor.proofs.Lookups.{Some-injective, item_is, read_at, as_there}

abbrev pub zero_word : ℕ
zero_word = 0

pub zeros_read : (n k : ℕ) → get_or (replicate n zero_word) k 0 ≡ zero_word
zeros_read zero k = refl
zeros_read (suc n) zero = refl
zeros_read (suc n) (suc k) = zeros_read n k

module _ {S J I : Type 0} (g : Station.Ghosts S J I) where
  pub opens : (stations : List S) (setup : Setup S) (words : List ℕ) → History.FormFloor g stations → setup.stations.value.items ≡ stations → slice_get stations 0 ≡ Some setup.first.value → 0 < setup.seats
      → words ≡ replicate (length stations + length stations + length stations) zero_word → length words ≡ length stations + length stations + length stations
      → FloorRules.IsFloor g setup (opening words (map (History.fresh_cell g) stations) (SeatViews.first_view setup))
  opens stations setup words ready all first some_seat zeroed long =
      let n : ℕ = length stations in
      let made : List (Cell S J I) = map (History.fresh_cell g) stations in
      let wide : length (map some made) ≡ n = length-map made some ∙ length-map stations (History.fresh_cell g) in
      let job : g.job setup.first.value ≡ ready.job = (ready.each 0 setup.first.value first).0 in
      let read : (k : ℕ) → get_or words k 0 ≡ 0 = λ k. ap (λ (l : List ℕ). get_or l k 0) zeroed ∙ zeros_read (n + n + n) k in
      let station : ℕ → S = λ k. get_or stations k setup.first.value in
      let it : (k : ℕ) → k < n → slice_get stations k ≡ Some (station k) = λ k low. let t = item_is stations k low in t.1 ∙ ap Some (sym (read_at stations k setup.first.value t.0 t.1)) in
      subst (λ (z : ℕ). FloorRules.IsFloorOf g setup z (opening words made (SeatViews.first_view setup))) (sym wide) record {
        wide = long;
        cells = λ k. History.fresh_cell g (station k);
        seat_of = λ _. 0;
        given = 1;
        base = 0;
        good = λ k low. let is = ready.each k (station k) (it k low) in record {
          start = station k;
          started = ap (λ (l : List S). slice_get l k) all ∙ it k low;
          start_job = is.0 ∙ sym job;
          start_place = is.1;
          few = omega arith;
          replayed = refl;
          sound = subst (λ (j : J). g.sound j k (station k)) (sym job) is.2;
          job = is.0 ∙ sym job;
          place = is.1;
          fitting = All-nil _;
        };
        posted_is = λ k low. read (n + k);
        served_is = λ k low. read (n + n + k);
        at_home = λ k low _. at_map some made k (History.fresh_cell g (station k)) (at_map (History.fresh_cell g) stations k (station k) (as_there stations k (station k) (it k low)));
        taken = λ k m low named. let bad : 0 ≡ suc m = sym (read k) ∙ named in absurd (omega arith);
        each_seat = λ j v e. one j v e;
        posts_once = λ k p low. let z = below_no p 0 (omega arith) in omega arith;
        serves_once = λ k p low. let z = below_no p 0 (omega arith) in omega arith;
        numbers_once = λ m. let a = below_more m 0 in let z = below_no m 0 (omega arith) in omega arith;
      }
    where
      one : (j : ℕ) (v : SeatView S J I) → get_elem? (SeatViews.first_view setup ∷ []) j ≡ some v → FloorRules.SeatKnows g setup (length stations) words (λ k. History.fresh_cell g (get_or stations k setup.first.value)) (λ _. 0) 1 0 j v
      one zero v e = subst (FloorRules.SeatKnows g setup (length stations) words (λ k. History.fresh_cell g (get_or stations k setup.first.value)) (λ _. 0) 1 0 0) (some-injective _ _ e) record {
        live = λ p is. (sym (Some-injective setup p is), refl, some_seat, omega arith);
        spent = λ none_is. not_held setup (Some setup) none_is refl;
        gives = λ _. (refl, refl);
        holds = λ h is. not_held h None refl is;
        posts = tt;
        serves = tt;
      }
      one (suc j) v e = absurd (some-ne-none v (sym e))
