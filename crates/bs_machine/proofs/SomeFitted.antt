-- The machines that files and words give lie within their ranges, so they can be fitted.
use Rattle.std.proofs.Common.{◌≡◌, ◌≤◌, ◌^◌, ◌*◌, ◌-◌, ℕ, ℤ, pos, negsuc, suc, Bool, true, false, ◌&&◌, nat_le, nat_lt, if◌then◌else◌, not, List, [], ◌∷◌, length, Option, Some, None, Ok, Err, refl, sym, ap, subst, ◌∙◌, arith, option_map}
use Rattle.std.specs.Prelude.{IsTrue, option_and_then, codes}
use Rattle.std.specs.List.{list_all}
use Rattle.std.proofs.lemmas.Bool.{and_from, and_parts}
use Rattle.std.proofs.lemmas.Bool.Decides.{nat_tests}
use Rattle.toml.specs.Data.{Data, Items, Members, as_array, as_integer, item, no_items}
use Rattle.bs_net.specs.Home.{has_length, is_within}
use Rattle.bs_net.specs.Range.{IsCosts, are_sizes, is_size, is_torus, most_processors, processors_in}
use Rattle.bs_net.specs.declared.place.Place.{Place}
use Rattle.bs_net.specs.declared.place.Place.TheVariants.{Block, Cycle, Listed}
use Rattle.bs_net.proofs.Hops.{parts_of}
use Rattle.bs_machine.specs.Answer.{Answer, ◌>>=◌}
use Rattle.bs_machine.specs.File.{costs_at, keys_given, keys_known, machine_in, machine_of_root, one_to_six, place_at, processors_at, root_of, sizes_at, speed_at, values_in}
use Rattle.bs_machine.specs.Machine.{CostsOf, MachineOf, SpeedOf, flat_in, flat_of, machine_view}
use Rattle.bs_machine.specs.Values.{are_within, is_listed, is_text, list_at, number_at, numbers_in, or_out_of_range, value_at, within}
use Rattle.bs_machine.specs.declared.fault.MachineFault.TheVariants.{OutOfRange}
use Rattle.bs_machine.specs.declared.fitted.Fitted.{Fitted}
use Rattle.bs_machine.specs.declared.key.MachineKey.{MachineKey}
use Rattle.bs_machine.specs.declared.key.MachineKey.TheVariants as key

-- the numbers of a machine are in their ranges
record IsSound (m : MachineOf) : Type 0 where
  torus : is_torus m.sizes m.per_node ≡ true
  homes : is_within m.place (processors_in m.sizes m.per_node) ≡ true
  num : (1 ≤ m.speed.num) × (m.speed.num ≤ 65535)
  den : (1 ≤ m.speed.den) × (m.speed.den ≤ 65535)
  costs : IsCosts m.costs.own m.costs.local m.costs.base m.costs.hop m.costs.num m.costs.den

fitted : (m : MachineOf) (chares : ℕ) → IsSound m → 1 ≤ chares → chares ≤ 65536 → IsTrue (has_length m.place chares) → (f : Fitted) × (machine_view f.machine ≡ m) × (f.chares ≡ chares)
fitted m chares s some few fits = (
  record {
    machine = record {
      torus = record { sizes = m.sizes; per_node = m.per_node; in_range = s.torus };
      place = m.place;
      speed = record { num = m.speed.num; den = m.speed.den; num_in_range = s.num; den_in_range = s.den };
      costs = record { own = m.costs.own; local = m.costs.local; base = m.costs.base; hop = m.costs.hop; num = m.costs.num; den = m.costs.den; in_range = s.costs };
      homes_within = s.homes;
    };
    chares = chares;
    chares_in_range = (some, few);
    place_fits = fits;
  },
  refl,
  refl,
)

-- ---- the values of a file

ok_is : {A : Type 0} (a b : A) → ◌≡◌ {A = Answer A} (Ok a) (Ok b) → a ≡ b
ok_is a b e = cc

some_is : {A : Type 0} (a b : A) → Some a ≡ Some b → a ≡ b
some_is a b e = cc

then_is : {A B : Type 0} (a : Answer A) (f : A → Answer B) (b : B) → (a >>= f) ≡ Ok b → (x : A) × (a ≡ Ok x) × (f x ≡ Ok b)
then_is (Ok x) f b e = (x, refl, e)
then_is (Err why) f b e = absurd (cc)

there : {A : Type 0} (k : MachineKey) (given : Option ℤ) (o : Option A) (a : A) → or_out_of_range k given o ≡ Ok a → o ≡ Some a
there k given None a e = absurd (cc)
there k given (Some b) a e = ap (λ x. Some x) (ok_is b a e)

given_first : {A B : Type 0} (o : Option A) (f : A → Option B) (b : B) → option_and_then f o ≡ Some b → (a : A) × (o ≡ Some a) × (f a ≡ Some b)
given_first None f b e = absurd (cc)
given_first (Some a) f b e = (a, refl, e)

mapped : {A B : Type 0} (f : A → B) (o : Option A) (b : B) → option_map f o ≡ Some b → (a : A) × (o ≡ Some a) × (f a ≡ b)
mapped f None b e = absurd (cc)
mapped f (Some a) b e = (a, refl, some_is (f a) b e)

if_some : {A : Type 0} (t : Bool) (a b : A) → (if t then Some a else None) ≡ Some b → (t ≡ true) × (a ≡ b)
if_some true a b e = (refl, some_is a b e)
if_some false a b e = absurd (cc)

-- a number within a range
abbrev lies : ℕ → ℕ → ℕ → Bool
lies low high n = nat_le low n && nat_le n high

one_within : (low high : ℕ) (given : Option ℤ) (n : ℕ) → within low high given ≡ Some n → lies low high n ≡ true
one_within low high None n e = absurd (cc)
one_within low high (Some (negsuc m)) n e = absurd (cc)
one_within low high (Some (pos m)) n e = let h = if_some (lies low high m) m n e in ap (lies low high) (sym h.1) ∙ h.0

le_of : (m n : ℕ) → nat_le m n ≡ true → m ≤ n
le_of m n e = grind (arith, nat_tests)

number_range : (k : MachineKey) (low high : ℕ) (root : Members) (n : ℕ) → number_at k low high root ≡ Ok n → (low ≤ n) × (n ≤ high)
number_range k low high root n e =
    let given = option_and_then as_integer (value_at k root) in
    let both = and_parts (nat_le low n) (nat_le n high) (one_within low high given n (there k given (within low high given) n e)) in
    (le_of low n both.0, le_of n high both.1)

all_within : (low high : ℕ) (items : Items) (ns : List ℕ) → numbers_in low high items ≡ Some ns → are_within low high ns ≡ true
all_within low high no_items ns e = ap (are_within low high) (sym (some_is [] ns e))
all_within low high (item value rest) ns e =
    let first = given_first (within low high (as_integer value)) (λ n. option_map (λ ms. n ∷ ms) (numbers_in low high rest)) ns e in
    let more = mapped (λ ms. first.0 ∷ ms) (numbers_in low high rest) ns first.2 in
    ap (are_within low high) (sym more.2) ∙ and_from (lies low high first.0) (are_within low high more.0) (one_within low high (as_integer value) first.0 first.1) (all_within low high rest more.0 more.1)

list_within : (k : MachineKey) (low high : ℕ) (root : Members) (ns : List ℕ) → list_at k low high root ≡ Some ns → are_within low high ns ≡ true
list_within k low high root ns e =
    let items = given_first (option_and_then as_array (value_at k root)) (numbers_in low high) ns e in
    all_within low high items.0 ns items.2

sizes_are : (root : Members) (sizes : List ℕ) → sizes_at root ≡ Ok sizes → are_sizes sizes ≡ true
sizes_are root sizes e =
    let listed = list_at key.TorusSizes 1 65536 root in
    let some = given_first listed one_to_six sizes (there key.TorusSizes None (option_and_then one_to_six listed) sizes e) in
    let long = if_some (nat_le 1 (length some.0) && nat_le (length some.0) 6) some.0 sizes some.2 in
    let both = and_parts (nat_le 1 (length some.0)) (nat_le (length some.0) 6) long.0 in
    let all = list_within key.TorusSizes 1 65536 root some.0 some.1 in
    subst (λ ns. are_sizes ns ≡ true) long.1 (rw (both.0, both.1, all) refl)

processors_are : (sizes : List ℕ) (per_node processors : ℕ) → processors_at sizes per_node ≡ Ok processors → (nat_le (processors_in sizes per_node) most_processors ≡ true) × (processors_in sizes per_node ≡ processors)
processors_are sizes per_node processors e = by (nat_le (processors_in sizes per_node) most_processors) refl e
  where
    by : (t : Bool) → nat_le (processors_in sizes per_node) most_processors ≡ t → (if t then Ok (processors_in sizes per_node) else Err (OutOfRange key.TorusPerNode None)) ≡ Ok processors
        → (nat_le (processors_in sizes per_node) most_processors ≡ true) × (processors_in sizes per_node ≡ processors)
    by true is e = (is, ok_is (processors_in sizes per_node) processors e)
    by false is e = absurd (cc)

lt_of : (home processors : ℕ) → 1 ≤ processors → lies 0 (processors - 1) home ≡ true → nat_lt home processors ≡ true
lt_of home processors some e =
    let both = and_parts (nat_le 0 home) (nat_le home (processors - 1)) e in
    let le = le_of home (processors - 1) both.1 in
    let lt : suc home ≤ processors = omega (arith, le, some) in
    grind (arith, nat_tests)

homes_are : (processors : ℕ) (homes : List ℕ) → 1 ≤ processors → are_within 0 (processors - 1) homes ≡ true → list_all (λ home. nat_lt home processors) homes ≡ true
homes_are processors [] some e = refl
homes_are processors (home ∷ homes) some e =
    let both = and_parts (lies 0 (processors - 1) home) (are_within 0 (processors - 1) homes) e in
    and_from (nat_lt home processors) (list_all (λ home. nat_lt home processors) homes) (lt_of home processors some both.0) (homes_are processors homes some both.1)

place_is : (processors : ℕ) (root : Members) (place : Place) → 1 ≤ processors → place_at processors root ≡ Ok place → is_within place processors ≡ true
place_is processors root place some e = by (is_text (codes "block") (value_at key.PlaceKind root)) (is_text (codes "cycle") (value_at key.PlaceKind root)) (is_listed root) e
  where
    by_list : or_out_of_range key.PlaceList None (option_map Listed (list_at key.PlaceList 0 (processors - 1) root)) ≡ Ok place → is_within place processors ≡ true
    by_list h =
        let homes = mapped Listed (list_at key.PlaceList 0 (processors - 1) root) place (there key.PlaceList None (option_map Listed (list_at key.PlaceList 0 (processors - 1) root)) place h) in
        subst (λ p. is_within p processors ≡ true) homes.2 (homes_are processors homes.0 some (list_within key.PlaceList 0 (processors - 1) root homes.0 homes.1))

    by : (block cycle listed : Bool) → (if block then Ok Block
        else (if cycle then Ok Cycle
        else (if listed then or_out_of_range key.PlaceList None (option_map Listed (list_at key.PlaceList 0 (processors - 1) root))
        else Err (OutOfRange key.PlaceKind None)))) ≡ Ok place → is_within place processors ≡ true
    by true cycle listed h = subst (λ p. is_within p processors ≡ true) (ok_is Block place h) refl
    by false true listed h = subst (λ p. is_within p processors ≡ true) (ok_is Cycle place h) refl
    by false false true h = by_list h
    by false false false h = absurd (cc)

speed_is : (root : Members) (speed : SpeedOf) → speed_at root ≡ Ok speed → ((1 ≤ speed.num) × (speed.num ≤ 65535)) × ((1 ≤ speed.den) × (speed.den ≤ 65535))
speed_is root speed e =
    let num = then_is (number_at key.SpeedNum 1 65535 root) (λ num. number_at key.SpeedDen 1 65535 root >>= (λ den. Ok (record { num = num; den = den }))) speed e in
    let den = then_is (number_at key.SpeedDen 1 65535 root) (λ den. Ok (record { num = num.0; den = den })) speed num.2 in
    subst (λ (s : SpeedOf). ((1 ≤ s.num) × (s.num ≤ 65535)) × ((1 ≤ s.den) × (s.den ≤ 65535))) (ok_is (record { num = num.0; den = den.0 }) speed den.2)
    (number_range key.SpeedNum 1 65535 root num.0 num.1, number_range key.SpeedDen 1 65535 root den.0 den.1)

abbrev AreCosts : CostsOf → Type 0
AreCosts c = IsCosts c.own c.local c.base c.hop c.num c.den

module _ (root : Members) where
  abbrev with_den : ℕ → ℕ → ℕ → ℕ → ℕ → ℕ → Answer CostsOf
  with_den own local base hop num den = Ok (record { own = own; local = local; base = base; hop = hop; num = num; den = den })

  abbrev with_num : ℕ → ℕ → ℕ → ℕ → ℕ → Answer CostsOf
  with_num own local base hop num = number_at key.LatencyBytesDen 1 65535 root >>= with_den own local base hop num

  abbrev with_hop : ℕ → ℕ → ℕ → ℕ → Answer CostsOf
  with_hop own local base hop = number_at key.LatencyBytesNum 0 256 root >>= with_num own local base hop

  abbrev with_base : ℕ → ℕ → ℕ → Answer CostsOf
  with_base own local base = number_at key.LatencyHop 0 4194304 root >>= with_hop own local base

  abbrev with_local : ℕ → ℕ → Answer CostsOf
  with_local own local = number_at key.LatencyBase 1 (2 ^ 38) root >>= with_base own local

  abbrev with_own : ℕ → Answer CostsOf
  with_own own = number_at key.LatencyLocal 1 (2 ^ 38) root >>= with_local own

  costs_are : (costs : CostsOf) → costs_at root ≡ Ok costs → AreCosts costs
  costs_are costs e =
      let own = then_is (number_at key.LatencySelf 1 (2 ^ 38) root) with_own costs e in
      let local = then_is (number_at key.LatencyLocal 1 (2 ^ 38) root) (with_local own.0) costs own.2 in
      let base = then_is (number_at key.LatencyBase 1 (2 ^ 38) root) (with_base own.0 local.0) costs local.2 in
      let hop = then_is (number_at key.LatencyHop 0 4194304 root) (with_hop own.0 local.0 base.0) costs base.2 in
      let num = then_is (number_at key.LatencyBytesNum 0 256 root) (with_num own.0 local.0 base.0 hop.0) costs hop.2 in
      let den = then_is (number_at key.LatencyBytesDen 1 65535 root) (with_den own.0 local.0 base.0 hop.0 num.0) costs num.2 in
      subst AreCosts (ok_is (record { own = own.0; local = local.0; base = base.0; hop = hop.0; num = num.0; den = den.0 }) costs den.2)
      (record {
        own = number_range key.LatencySelf 1 (2 ^ 38) root own.0 own.1;
        local = number_range key.LatencyLocal 1 (2 ^ 38) root local.0 local.1;
        base = number_range key.LatencyBase 1 (2 ^ 38) root base.0 base.1;
        hop = (number_range key.LatencyHop 0 4194304 root hop.0 hop.1).1;
        num = (number_range key.LatencyBytesNum 0 256 root num.0 num.1).1;
        den = number_range key.LatencyBytesDen 1 65535 root den.0 den.1;
      })

  -- ---- the machine of these values

  abbrev with_costs : List ℕ → ℕ → Place → SpeedOf → CostsOf → Answer MachineOf
  with_costs sizes per_node place speed costs = Ok (record { sizes = sizes; per_node = per_node; place = place; speed = speed; costs = costs })

  abbrev with_speed : List ℕ → ℕ → Place → SpeedOf → Answer MachineOf
  with_speed sizes per_node place speed = costs_at root >>= with_costs sizes per_node place speed

  abbrev with_place : List ℕ → ℕ → Place → Answer MachineOf
  with_place sizes per_node place = speed_at root >>= with_speed sizes per_node place

  abbrev with_processors : List ℕ → ℕ → ℕ → Answer MachineOf
  with_processors sizes per_node processors = place_at processors root >>= with_place sizes per_node

  abbrev with_node : List ℕ → ℕ → Answer MachineOf
  with_node sizes per_node = processors_at sizes per_node >>= with_processors sizes per_node

  abbrev with_sizes : List ℕ → Answer MachineOf
  with_sizes sizes = number_at key.TorusPerNode 1 65536 root >>= with_node sizes

  lies_of : (low high n : ℕ) → (low ≤ n) × (n ≤ high) → lies low high n ≡ true
  lies_of low high n h =
      let below = h.0 in let above = h.1 in
      and_from (nat_le low n) (nat_le n high) (grind (arith, nat_tests)) (grind (arith, nat_tests))

  is_sound : (m : MachineOf) → values_in root ≡ Ok m → IsSound m
  is_sound m e =
      let sizes = then_is (sizes_at root) with_sizes m e in
      let node = then_is (number_at key.TorusPerNode 1 65536 root) (with_node sizes.0) m sizes.2 in
      let processors = then_is (processors_at sizes.0 node.0) (with_processors sizes.0 node.0) m node.2 in
      let place = then_is (place_at processors.0 root) (with_place sizes.0 node.0) m processors.2 in
      let speed = then_is (speed_at root) (with_speed sizes.0 node.0 place.0) m place.2 in
      let costs = then_is (costs_at root) (with_costs sizes.0 node.0 place.0 speed.0) m speed.2 in
      let count = processors_are sizes.0 node.0 processors.0 processors.1 in
      let size = lies_of 1 65536 node.0 (number_range key.TorusPerNode 1 65536 root node.0 node.1) in
      let torus : is_torus sizes.0 node.0 ≡ true = rw (sizes_are root sizes.0 sizes.1, size, count.0) refl in
      let parts = parts_of sizes.0 node.0 torus in
      let some : 1 ≤ processors_in sizes.0 node.0 = omega (arith, parts.nodes, parts.enough) in
      let homes = place_is processors.0 root place.0 (subst (λ n. 1 ≤ n) count.1 some) place.1 in
      let fast = speed_is root speed.0 speed.1 in
      subst IsSound (ok_is (record { sizes = sizes.0; per_node = node.0; place = place.0; speed = speed.0; costs = costs.0 }) m costs.2)
      (record {
        torus = torus;
        homes = subst (λ n. is_within place.0 n ≡ true) (sym count.1) homes;
        num = fast.0;
        den = fast.1;
        costs = costs_are costs.0 costs.1;
      })

root_sound : (o : Option Members) (m : MachineOf) → machine_of_root o ≡ Ok m → IsSound m
root_sound None m e = absurd (cc)
root_sound (Some root) m e =
    let known = then_is (keys_known root) (λ _. keys_given root >>= (λ _. values_in root)) m e in
    let given = then_is (keys_given root) (λ _. values_in root) m known.2 in
    is_sound root m given.2

pub fitted_file : (bytes : List ℕ) (m : MachineOf) (chares : ℕ) → machine_in bytes ≡ Ok m → 1 ≤ chares → chares ≤ 65536 → IsTrue (has_length m.place chares) → (f : Fitted) × (machine_view f.machine ≡ m) × (f.chares ≡ chares)
fitted_file bytes m chares e = fitted m chares (root_sound (root_of bytes) m e)

-- ---- flat machines

flat_sound : (processors latency : ℕ) (m : MachineOf) → flat_in processors latency ≡ Ok m → IsSound m
flat_sound processors latency m e = by (lies 1 65536 processors) (lies 1 (2 ^ 38) latency) refl refl e
  where
    by : (a b : Bool) → lies 1 65536 processors ≡ a → lies 1 (2 ^ 38) latency ≡ b
        → (if not a then Err (OutOfRange key.TorusSizes None) else (if not b then Err (OutOfRange key.LatencyBase None) else Ok (flat_of processors latency))) ≡ Ok m → IsSound m
    by false b p q h = absurd (cc)
    by true false p q h = absurd (cc)
    by true true p q h =
        let few = and_parts (nat_le 1 processors) (nat_le processors 65536) p in
        let quick = and_parts (nat_le 1 latency) (nat_le latency (2 ^ 38)) q in
        let ticks : (1 ≤ latency) × (latency ≤ 2 ^ 38) = (le_of 1 latency quick.0, le_of latency (2 ^ 38) quick.1) in
        let most : processors_in (processors ∷ []) 1 ≤ 65536 = omega (arith, le_of processors 65536 few.1) in
        let count : nat_le (processors_in (processors ∷ []) 1) most_processors ≡ true = grind (arith, nat_tests) in
        subst IsSound (ok_is (flat_of processors latency) m h)
        (record {
          torus = rw (p, count) refl;
          homes = refl;
          num = (omega arith, omega arith);
          den = (omega arith, omega arith);
          costs = record { own = ticks; local = ticks; base = ticks; hop = omega arith; num = omega arith; den = (omega arith, omega arith) };
        })

pub fitted_flat : (processors latency : ℕ) (m : MachineOf) (chares : ℕ) → flat_in processors latency ≡ Ok m → 1 ≤ chares → chares ≤ 65536 → IsTrue (has_length m.place chares) → (f : Fitted) × (machine_view f.machine ≡ m) × (f.chares ≡ chares)
fitted_flat processors latency m chares e = fitted m chares (flat_sound processors latency m e)
