-- From given ticks there is one point, and its times are those from any ticks.
use Rattle.std.proofs.Common.{◌≡◌, ◌≤◌, ◌<◌, ◌+◌, ℕ, suc, List, [], ◌∷◌, length, map, refl, ap, sym, subst, ◌∙◌, arith}
use Rattle.bs_log.specs.declared.log.Log.{Log}
use Rattle.bs_log.specs.declared.log.Row.{Row}
use Rattle.bs_log.specs.Valid.{IsValid}
use Rattle.bs_machine.specs.declared.fitted.Fitted.{Fitted}
use Rattle.bs_num.specs.declared.ticks.Tick.{Tick}
use Rattle.bs_line.specs.Making.{numbers}
use Rattle.bs_rows.specs.Rows.{net_on}
use Rattle.bs_semantics.specs.Serial.{Machine}
use Rattle.bs_settle.specs.declared.times.Times.{Times}
use Rattle.bs_settle.specs.Settled.{SettlesAt}
use Rattle.bs_settle.specs.Shares.{AreEarly}
use Rattle.bs_settle.specs.Timed.{AreTimes, ends_from, starts_from}
use Rattle.bs_settle.proofs.FirstStill.{one_first, some_first}
use Rattle.bs_settle.proofs.Premises.{causal, short}
use Rattle.bs_times.specs.Budget.{budget_of}
use Rattle.bs_times.specs.Machine.{machine_of}
use Rattle.bs_times.specs.Net.{Net, Starts, Ticks, Causal}
use Rattle.bs_times.specs.Times.{IsConsistent, SameTicks, arrival, budget}
use Rattle.bs_times.proofs.Causal.{fitted_is_timely}
use Rattle.bs_times.proofs.Exists.{consistent_exists}
use Rattle.bs_times.proofs.Small.{small_ends}
use Rattle.bs_times.proofs.Unique.{one_consistent_table}
use Rattle.bs_whatif.specs.declared.points.Point.{Point}
use Rattle.bs_whatif.specs.Points.{AreTicksOf, IsPoint, tick_at}
use Rattle.bs_whatif.proofs.Ticks.{one_ticks, same_ticks, settles_from, some_ticks, ticks_placed}

-- ---- ticks and their numbers

abbrev tick : ℕ → Tick
tick n = record { 0 = n }

ticks_back : (ticks : List Tick) → map tick (numbers ticks) ≡ ticks
ticks_back [] = refl
ticks_back (t ∷ ts) = ap (λ us. t ∷ us) (ticks_back ts)

numbers_back : (ns : List ℕ) → numbers (map tick ns) ≡ ns
numbers_back [] = refl
numbers_back (n ∷ ns) = ap (λ ms. n ∷ ms) (numbers_back ns)

one_list : (a b : List Tick) → numbers a ≡ numbers b → a ≡ b
one_list a b e = sym (ticks_back a) ∙ ap (map tick) e ∙ ticks_back b

same_starts : (s z : Starts) (k : ℕ) (rows : List Row) → ((j : ℕ) → j < length rows → s (k + j) ≡ z (k + j)) → starts_from s k rows ≡ starts_from z k rows
same_starts s z k [] each = refl
same_starts s z k (r ∷ rs) each =
    let first : s k ≡ z k = subst (λ n. s n ≡ z n) (omega arith) (each 0 (omega arith)) in
    let rest = same_starts s z (k + 1) rs (λ j lt. subst (λ n. s n ≡ z n) (omega arith) (each (suc j) (omega (arith, lt)))) in
    λ i. first i ∷ rest i

same_ends : (m : Machine) (s z : Starts) (k : ℕ) (rows : List Row) → ((j : ℕ) → j < length rows → s (k + j) ≡ z (k + j)) → ends_from m s k rows ≡ ends_from m z k rows
same_ends m s z k [] each = refl
same_ends m s z k (r ∷ rs) each =
    let first : s k ≡ z k = subst (λ n. s n ≡ z n) (omega arith) (each 0 (omega arith)) in
    let rest = same_ends m s z (k + 1) rs (λ j lt. subst (λ n. s n ≡ z n) (omega arith) (each (suc j) (omega (arith, lt)))) in
    λ i. (first i + m.duration r.cost) ∷ rest i

-- estimates that have one list are the same.
pub one_estimate : (net : Net) (a b : Ticks) (list : List Tick) → AreTicksOf net a list → AreTicksOf net b list → SameTicks net a b
one_estimate net a b list h k m is = sym (ticks_placed net a list h h.mails h.listed m is) ∙ ticks_placed net b list k h.mails h.listed m is

module _ (log : Log) (m : Fitted) (v : IsValid log) where
  abbrev net : Net
  net = net_on log m

  c : Causal net
  c = causal log m v

  same_table : (s z : Starts) → IsConsistent net s → IsConsistent net z → (j : ℕ) → j < length log.rows → s (1 + j) ≡ z (1 + j)
  same_table s z h k j lt = one_consistent_table net c s z h k (1 + j) (omega arith, omega (arith, lt))

  -- there is one pair of starts and ends.
  pub one_times : (a b : Times) → AreTimes log (machine_of m) a → AreTimes log (machine_of m) b → a ≡ b
  one_times a b h k = λ i. record { starts = starts i; ends = ends i }
    where
      each : (j : ℕ) → j < length log.rows → h.table (1 + j) ≡ k.table (1 + j)
      each = same_table h.table k.table h.is_consistent k.is_consistent

      starts : a.starts ≡ b.starts
      starts = one_list a.starts b.starts (h.starts ∙ same_starts h.table k.table 1 log.rows each ∙ sym k.starts)

      ends : a.ends ≡ b.ends
      ends = one_list a.ends b.ends (h.ends ∙ same_ends (machine_of m) h.table k.table 1 log.rows each ∙ sym k.ends)

  some_times : (s : Starts) → IsConsistent net s → (times : Times) × AreTimes log (machine_of m) times
  some_times s table = (
    record { starts = map tick (starts_from s 1 log.rows); ends = map tick (ends_from (machine_of m) s 1 log.rows) },
    record {
      table = s;
      is_consistent = table;
      starts = numbers_back (starts_from s 1 log.rows);
      ends = numbers_back (ends_from (machine_of m) s 1 log.rows);
      in_range = λ i has.
          let early = small_ends log (machine_of m) v (fitted_is_timely m) s table i has in
          let long = c.duration i has in
          let brief = (short log m v).duration i has in
          record {
            starts_early = omega (arith, early);
            takes_time = omega (arith, long);
            is_short = omega (arith, brief);
            ends_early = omega (arith, early);
          };
    },
  )

  -- the same from all ticks.
  pub same_point : (before other : List Tick) (p q : Point) → IsPoint log m before p → IsPoint log m other q → (p.times ≡ q.times) × (p.ticks ≡ q.ticks)
  same_point before other p q h k =
      let table = consistent_exists net c in
      (one_times p.times q.times h.times k.times, one_ticks net (arrival net table.0) p.ticks q.ticks (h.ticks table.0 table.1) (k.ticks table.0 table.1))

  one_waves : (before : List Tick) (p : Point) → AreEarly net before → IsPoint log m before p → (n : ℕ) (estimates : Ticks) → AreTicksOf net estimates before → SettlesAt net estimates n → p.waves ≡ n
  one_waves before p early h n estimates are settles = one_first net c estimates estimates p.waves n (λ k l. refl) (h.waves estimates are) settles

  pub one_point : (before : List Tick) (p q : Point) → AreEarly net before → IsPoint log m before p → IsPoint log m before q → p ≡ q
  one_point before p q early h k = λ i. record { times = same.0 i; ticks = same.1 i; waves = waves i }
    where
      same : (p.times ≡ q.times) × (p.ticks ≡ q.ticks)
      same = same_point before before p q h k

      waves : p.waves ≡ q.waves
      waves = let e = some_ticks net before early in one_waves before p early h q.waves e.0 e.1 (k.waves e.0 e.1)

  pub few_waves : (before : List Tick) (p : Point) → AreEarly net before → IsPoint log m before p → p.waves ≤ budget_of log
  few_waves before p early h =
      let e = some_ticks net before early in
      let first = some_first net c e.0 in
      let one = one_waves before p early h first.0 e.0 e.1 first.2 in
      omega (arith, first.1, one)

  pub some_point : (before : List Tick) → AreEarly net before → (p : Point) × IsPoint log m before p
  some_point before early = (
    record { times = times.0; ticks = map (tick_at (arrival net table.0)) early.each.mails; waves = first.0 },
    record {
      times = times.1;
      ticks = λ s h. same_ticks net (arrival net table.0) (arrival net s) (map (tick_at (arrival net table.0)) early.each.mails)
          (λ k l. ap (λ x. x + net.travel k) (one_consistent_table net c table.0 s table.1 h k.row (c.mail l.0 k l.1 l.2).0))
          (record { mails = early.each.mails; listed = early.each.listed; are = refl });
      waves = λ estimates are. settles_from net e.0 estimates first.0 (one_estimate net e.0 estimates before e.1 are) first.2;
    },
  )
    where
      table : (s : Starts) × IsConsistent net s
      table = consistent_exists net c

      times : (times : Times) × AreTimes log (machine_of m) times
      times = some_times table.0 table.1

      e : (ticks : Ticks) × AreTicksOf net ticks before
      e = some_ticks net before early

      first : (n : ℕ) × (n ≤ budget net) × SettlesAt net e.0 n
      first = some_first net c e.0
