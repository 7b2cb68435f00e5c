-- The numbers of a valid log's net and of its outcome are small.
use Rattle.std.proofs.Common.{◌≡◌, ℕ, suc, ◌+◌, ◌^◌, ◌<◌, ◌≤◌, List, [], ◌∷◌, length, get_or, refl, ap, subst, arith, sum_by}
use Rattle.std.specs.List.{All}
use Rattle.std.proofs.lemmas.List.Elements.{All-nil, All-cons}
use Rattle.std.proofs.lemmas.List.Sums.{sum_by-cons}
use Rattle.bs_log.specs.declared.history.Sent.{Sent}
use Rattle.bs_log.specs.declared.log.MailRef.{MailRef}
use Rattle.bs_log.specs.declared.log.Row.{Row}
use Rattle.bs_log.specs.declared.log.Log.{Log}
use Rattle.bs_log.specs.declared.outcome.OutRow.{OutRow}
use Rattle.bs_log.specs.Valid.{row_lines, IsValid}
use Rattle.bs_semantics.specs.Serial.{Machine}
use Rattle.bs_times.specs.Machine.{IsTimely}
use Rattle.bs_times.specs.Net.{Starts, HasRow, no_row, no_send, row_of, sent_of, net_of}
use Rattle.bs_times.specs.Times.{IsConsistent, IsListed, arrival}
use Rattle.bs_times.specs.Outcomes.{out_row, out_rows, outcome_of}
use Rattle.bs_times.specs.Bounds.{IsShort, IsSmall}
use Rattle.bs_times.proofs.Found.{numbered_is, found, row_fits, send_fits, mail_cause}
use Rattle.bs_times.proofs.Causal.{causal_net}
use Rattle.bs_times.proofs.Bounds.{arrivals_early, ends_early}

a_line_each : (rs : List Row) → length rs ≤ sum_by row_lines rs
a_line_each [] = omega arith
a_line_each (r ∷ rs) = omega (arith, a_line_each rs, sum_by-cons row_lines r rs)

pub out_count : (m : Machine) (s : Starts) (k : ℕ) (rs : List Row) → length (out_rows m s k rs) ≡ length rs
out_count m s k [] = refl
out_count m s k (r ∷ rs) = ap suc (out_count m s (k + 1) rs)

-- what holds of each row and its number holds of all that comes of them.
pub all_out : (P : OutRow → Type 0) (m : Machine) (s : Starts) (k : ℕ) (rs : List Row) → ((n : ℕ) → n < length rs → P (out_row m s (k + n) (get_or rs n no_row))) → All P (out_rows m s k rs)
all_out P m s k [] h = All-nil P
all_out P m s k (r ∷ rs) h = All-cons P (out_row m s k r) (out_rows m s (k + 1) rs)
    (subst (λ j. P (out_row m s j r)) (omega arith) (h 0 (omega arith)))
    (all_out P m s (k + 1) rs (λ n lt. subst (λ j. P (out_row m s j (get_or rs n no_row))) (omega arith) (h (suc n) (omega (arith, lt)))))

module _ (log : Log) (machine : Machine) (v : IsValid log) (t : IsTimely machine) where
  pub few_rows : length log.rows ≤ 262144
  few_rows = omega (arith, a_line_each log.rows, v.lines)

  short_travel : (m : MailRef) → IsListed (net_of log machine) m → (net_of log machine).travel m < 2 ^ 49
  short_travel m listed =
      let has = listed.1 in
      let sender = mail_cause log listed.0 m v has.0 has.1 listed.2 in
      let send = found (λ (s : Sent). s.to ≡ (row_of log listed.0).chare) (row_of log m.row).sends no_send m.index sender.holds in
      let fits = send_fits log m v sender.some sender.most send.some send.most in
      let way = t.latency (machine.home (row_of log m.row).chare) (machine.home (sent_of log m).to) (sent_of log m).bytes fits.bytes in
      let offset = t.duration (sent_of log m).offset fits.offset.least_is fits.offset.most_is in
      omega (arith, way.1, offset.1)

  pub short_net : IsShort (net_of log machine)
  short_net = record {
    rows = few_rows;
    depth = λ i has. let depth = (row_fits log i v has.0 has.1).ranges.depth in (depth.least_is, depth.most_is);
    duration = λ i has. let cost = (row_fits log i v has.0 has.1).ranges.cost in (t.duration (row_of log i).cost cost.least_is cost.most_is).1;
    travel = short_travel;
  }

  pub small_ends : (s : Starts) → IsConsistent (net_of log machine) s → (i : ℕ) → HasRow (net_of log machine) i → s i + machine.duration (row_of log i).cost < 2 ^ 109
  small_ends = ends_early (net_of log machine) (causal_net log machine v t) short_net

  pub small_arrivals : (s : Starts) → IsConsistent (net_of log machine) s → (m : MailRef) → IsListed (net_of log machine) m → arrival (net_of log machine) s m < 2 ^ 107
  small_arrivals = arrivals_early (net_of log machine) (causal_net log machine v t) short_net

  small_row : (s : Starts) → IsConsistent (net_of log machine) s → (i : ℕ) → HasRow (net_of log machine) i → IsSmall (out_row machine s i (row_of log i))
  small_row s table i has =
      let some = (causal_net log machine v t).duration i has in
      let most = short_net.duration i has in
      let early = small_ends s table i has in
      (omega (arith, some), omega (arith, most), omega (arith, early))

  pub small_outcome : (s : Starts) → IsConsistent (net_of log machine) s → (length (outcome_of log machine s).rows ≤ 262144) × All IsSmall (outcome_of log machine s).rows
  small_outcome s table = (
    omega (arith, few_rows, out_count machine s 1 log.rows),
    all_out IsSmall machine s 1 log.rows (λ n lt. subst (λ r. IsSmall (out_row machine s (1 + n) r)) (numbered_is log.rows n no_row) (there n lt)),
  )
    where
      there : (n : ℕ) → n < length log.rows → IsSmall (out_row machine s (1 + n) (row_of log (suc n)))
      there n lt = let e : suc n ≡ 1 + n = omega arith in subst (λ k. IsSmall (out_row machine s k (row_of log (suc n)))) e (small_row s table (suc n) (omega arith, omega (arith, lt)))
