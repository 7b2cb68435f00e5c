-- The plan of a valid log is one, and has all rows.
use Rattle.std.proofs.Common.{◌≡◌, ◌≤◌, ◌<◌, ◌⊎◌, inl, inr, ◌^◌, ℕ, zero, suc, ◌+◌, ◌*◌, List, [], length, get_or, map, subst, sym, ap, ◌∙◌, arith}
use Rattle.bs_log.specs.declared.log.MailRef.{MailRef}
use Rattle.bs_log.specs.declared.log.Log.{Log}
use Rattle.bs_log.specs.Valid.{IsValid}
use Rattle.bs_log.specs.Lists.{Mem}
use Rattle.bs_machine.specs.declared.fitted.Fitted.{Fitted}
use Rattle.bs_machine.specs.Fitted.{processors_of}
use Rattle.bs_machine.proofs.Bounds.{has_bounds}
use Rattle.bs_schedule.specs.declared.plan.Cause.{Cause}
use Rattle.bs_schedule.specs.declared.plan.Plan.{Plan}
use Rattle.bs_schedule.specs.Plan.{AreRows, at}
use Rattle.bs_schedule.specs.Whole.{IsWholePlan, block_cause, mail_cause, causes_in}
use Rattle.bs_times.specs.Machine.{machine_of}
use Rattle.bs_times.specs.Net.{Causal, HasRow, row_of, sent_of}
use Rattle.bs_times.specs.Times.{IsConsistent}
use Rattle.bs_times.proofs.Causal.{causal_net, fitted_is_timely}
use Rattle.bs_times.proofs.Found.{row_fits, send_fits}
use Rattle.bs_times.proofs.Members.{cases_le, mem_cases, map_mem}
use Rattle.bs_settle.specs.declared.times.Times.{Times}
use Rattle.bs_settle.specs.Timed.{AreTimes, ends_from, numbers, starts_from}
use Rattle.bs_rows.specs.Rows.{net_on, IsSend}
use Rattle.bs_rows.proofs.Numbered.{rows_few, mail_sent}
use Rattle.bs_settle.specs.Planned.{by_row}
use Rattle.bs_settle.proofs.Listed.{by_row_at, by_row_first, by_row_long, by_row_past}

pub home_below : (m : Fitted) (chare : ℕ) → chare < m.chares → (machine_of m).home chare < processors_of m
unfolding machine_of
home_below m chare lt = (has_bounds m).home chare lt

module _ (log : Log) (m : Fitted) (v : IsValid log) where
  causal : Causal (net_on log m)
  causal = causal_net log (machine_of m) v (fitted_is_timely m)

  pub duration_range : (i : ℕ) → HasRow (net_on log m) i → (1 ≤ (net_on log m).duration i) × ((net_on log m).duration i < 2 ^ 48)
  duration_range i has =
      let cost = (row_fits log i v has.0 has.1).ranges.cost in
      (fitted_is_timely m).duration (row_of log i).cost cost.least_is cost.most_is

  pub travel_small : (k : MailRef) → IsSend log k → (net_on log m).travel k < 2 ^ 49
  travel_small k is =
      let fits = send_fits log k v is.row_some is.row_most is.index_some is.index_most in
      let lasts = (fitted_is_timely m).duration (sent_of log k).offset fits.offset.least_is fits.offset.most_is in
      let way = (fitted_is_timely m).latency ((machine_of m).home (row_of log k.row).chare) ((machine_of m).home (sent_of log k).to) (sent_of log k).bytes fits.bytes in
      omega (arith, lasts.1, way.1)

  abbrev IsCause : ℕ → Cause → Type 0
  IsCause i c = (1 ≤ c.row) × (c.row ≤ length log.rows) × (1 ≤ c.delay) × (c.delay ≤ 2 ^ 64) × ((net_on log m).depth c.row < (net_on log m).depth i)

  cause_fits : (i : ℕ) (c : Cause) → HasRow (net_on log m) i → Mem c (map (block_cause (net_on log m)) (row_of log i).after) ⊎ Mem c (map (mail_cause (net_on log m)) (row_of log i).mail) → IsCause i c
  cause_fits i c has (inl k) =
      let d = map_mem (block_cause (net_on log m)) c (row_of log i).after k in
      let known = causal.after i d.0 has d.1 in
      let range = duration_range d.0 known.0 in
      rw d.2 (known.0.0, known.0.1, range.0, omega (arith, range.1), known.2)
  cause_fits i c has (inr k) =
      let d = map_mem (mail_cause (net_on log m)) c (row_of log i).mail k in
      let known = causal.mail i d.0 has d.1 in
      let small = travel_small d.0 (mail_sent log i d.0 v has.0 has.1 d.1) in
      rw d.2 (known.0.0, known.0.1, causal.travel i d.0 has d.1, omega (arith, small), known.1)

  cause : (i : ℕ) (c : Cause) → i ≤ length log.rows → Mem c (get_or (by_row [] (causes_in (net_on log m)) (length log.rows)) i []) → IsCause i c
  cause zero c most k = absurd (subst (λ cs. Mem c cs) (by_row_first [] (causes_in (net_on log m)) (length log.rows) []) k)
  cause (suc i) c most k =
      let some : 1 ≤ suc i = omega arith in
      let here : Mem c (causes_in (net_on log m) (suc i)) = subst (λ cs. Mem c cs) (by_row_at [] (causes_in (net_on log m)) (length log.rows) (suc i) [] some most) k in
      cause_fits (suc i) c (some, most) (mem_cases c (map (block_cause (net_on log m)) (row_of log (suc i)).after) (map (mail_cause (net_on log m)) (row_of log (suc i)).mail) here)

  short : (i : ℕ) → (i ≤ length log.rows) ⊎ (length log.rows < i) → at (by_row 0 (net_on log m).duration (length log.rows)) i ≤ 2 ^ 64
  short i (inr past) = let e = by_row_past 0 (net_on log m).duration (length log.rows) i 0 past in omega (arith, e)
  short zero (inl le) = let e = by_row_first 0 (net_on log m).duration (length log.rows) 0 in omega (arith, e)
  short (suc i) (inl le) =
      let some : 1 ≤ suc i = omega arith in
      let e = by_row_at 0 (net_on log m).duration (length log.rows) (suc i) 0 some le in
      omega (arith, e, (duration_range (suc i) (some, le)).1)

  pub are_rows : m.chares ≡ log.chares → AreRows (processors_of m) (by_row 0 (net_on log m).home (length log.rows)) (by_row 0 (net_on log m).duration (length log.rows)) (by_row [] (causes_in (net_on log m)) (length log.rows))
  are_rows fits = record {
    depth = (net_on log m).depth;
    some = omega (arith, long);
    few = omega (arith, long, rows_few log v);
    as_many_homes = by_row_long 0 (net_on log m).home (length log.rows) ∙ sym long;
    as_many_causes = by_row_long [] (causes_in (net_on log m)) (length log.rows) ∙ sym long;
    home = λ i some lt. home i some (omega (arith, lt, long));
    short = λ i. short i (cases_le i (length log.rows));
    cause = λ i c lt k. let d = cause i c (omega (arith, lt, long)) k in (d.0, omega (arith, d.1, long), d.2, d.3, d.4);
  }
    where
      long : length (by_row 0 (net_on log m).duration (length log.rows)) ≡ length log.rows + 1
      long = by_row_long 0 (net_on log m).duration (length log.rows)

      home : (i : ℕ) → 1 ≤ i → i ≤ length log.rows → at (by_row 0 (net_on log m).home (length log.rows)) i < processors_of m
      home i some most = rw (by_row_at 0 (net_on log m).home (length log.rows) i 0 some most) (home_below m (row_of log i).chare (omega (arith, (row_fits log i v some most).chare, fits)))

pub whole : (log : Log) (m : Fitted) (plan : Plan) → plan.homes ≡ by_row 0 (net_on log m).home (length log.rows) → plan.times ≡ by_row 0 (net_on log m).duration (length log.rows) → plan.causes ≡ by_row [] (causes_in (net_on log m)) (length log.rows) → IsWholePlan (net_on log m) plan
whole log m plan homes times causes = record {
  rows = ap length times ∙ by_row_long 0 (net_on log m).duration (length log.rows);
  homes = λ i has. ap (λ xs. at xs i) homes ∙ by_row_at 0 (net_on log m).home (length log.rows) i 0 has.0 has.1;
  times = λ i has. ap (λ xs. at xs i) times ∙ by_row_at 0 (net_on log m).duration (length log.rows) i 0 has.0 has.1;
  causes = λ i has. ap (λ xs. get_or xs i []) causes ∙ by_row_at [] (causes_in (net_on log m)) (length log.rows) i [] has.0 has.1;
}

pub starts_small : (log : Log) (m : Fitted) (plan : Plan) (base starts : List ℕ) → IsValid log → IsWholePlan (net_on log m) plan → ((i : ℕ) → at base i ≡ 0) → ((most : ℕ) → ((i : ℕ) → at base i ≤ most) → (i : ℕ) → at starts i ≤ most + length plan.times * 2 ^ 65) → (i : ℕ) → at starts i ≤ 2 ^ 100
starts_small log m plan base starts v w zeros bound i = omega (arith, bound 0 (λ k. omega (arith, zeros k)) i, w.rows, rows_few log v)

pub are_times : (log : Log) (m : Fitted) (starts : List ℕ) (times : Times) → IsValid log → IsConsistent (net_on log m) (at starts) → ((i : ℕ) → at starts i ≤ 2 ^ 100) → numbers times.starts ≡ starts_from (at starts) 1 log.rows → numbers times.ends ≡ ends_from (machine_of m) (at starts) 1 log.rows → AreTimes log (machine_of m) times
are_times log m starts times v is small begins ends = record {
  table = at starts;
  is_consistent = is;
  starts = begins;
  ends = ends;
  in_range = λ i has.
      let lasts = duration_range log m v i has in
      record {
        starts_early = omega (arith, small i);
        takes_time = omega (arith, lasts.0);
        is_short = omega (arith, lasts.1);
        ends_early = omega (arith, small i, lasts.1);
      };
}
