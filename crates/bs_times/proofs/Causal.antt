-- A valid log has a causal net on every timely machine.
use Rattle.std.proofs.Common.{◌≡◌, ◌≤◌, ◌<◌, ℕ, ap, arith}
use Rattle.bs_log.specs.declared.history.Sent.{Sent}
use Rattle.bs_log.specs.declared.log.MailRef.{MailRef}
use Rattle.bs_log.specs.declared.log.Log.{Log}
use Rattle.bs_log.specs.Valid.{IsValid}
use Rattle.bs_log.specs.Lists.{Mem}
use Rattle.bs_machine.specs.declared.fitted.Fitted.{Fitted}
use Rattle.bs_machine.proofs.Bounds.{has_bounds}
use Rattle.bs_semantics.specs.Serial.{Machine}
use Rattle.bs_times.specs.Machine.{IsTimely, machine_of}
use Rattle.bs_times.specs.Net.{Causal, HasRow, net_of, no_send, row_of, sent_of}
use Rattle.bs_times.proofs.Found.{found, row_fits, send_fits, block_cause, mail_cause, after_deepest, mail_deepest}

pub fitted_is_timely : (m : Fitted) → IsTimely (machine_of m)
unfolding machine_of
fitted_is_timely m = record { latency = (has_bounds m).latency; duration = (has_bounds m).duration }

module _ (log : Log) (machine : Machine) (v : IsValid log) (t : IsTimely machine) where
  duration : (i : ℕ) → HasRow (net_of log machine) i → 1 ≤ (net_of log machine).duration i
  duration i has =
      let cost = (row_fits log i v has.0 has.1).ranges.cost in
      (t.duration (row_of log i).cost cost.least_is cost.most_is).0

  travel : (i : ℕ) (m : MailRef) → HasRow (net_of log machine) i → Mem m (row_of log i).mail → 1 ≤ (net_of log machine).travel m
  travel i m has k =
      let sender = mail_cause log i m v has.0 has.1 k in
      let send = found (λ (s : Sent). s.to ≡ (row_of log i).chare) (row_of log m.row).sends no_send m.index sender.holds in
      let fits = send_fits log m v sender.some sender.most send.some send.most in
      let way = t.latency (machine.home (row_of log m.row).chare) (machine.home (sent_of log m).to) (sent_of log m).bytes fits.bytes in
      omega (arith, way.0)

  after : (i x : ℕ) → HasRow (net_of log machine) i → Mem x (row_of log i).after → HasRow (net_of log machine) x × (machine.home (row_of log x).chare ≡ machine.home (row_of log i).chare) × ((row_of log x).depth < (row_of log i).depth)
  after i x has k =
      let cause = block_cause log i x v has.0 has.1 k in
      ((cause.some, cause.most), ap machine.home cause.holds, omega (arith, after_deepest log (row_of log i) x k, (row_fits log i v has.0 has.1).depth))

  mail : (i : ℕ) (m : MailRef) → HasRow (net_of log machine) i → Mem m (row_of log i).mail → HasRow (net_of log machine) m.row × ((row_of log m.row).depth < (row_of log i).depth) × (machine.home (sent_of log m).to ≡ machine.home (row_of log i).chare)
  mail i m has k =
      let sender = mail_cause log i m v has.0 has.1 k in
      let send = found (λ (s : Sent). s.to ≡ (row_of log i).chare) (row_of log m.row).sends no_send m.index sender.holds in
      ((sender.some, sender.most), omega (arith, mail_deepest log (row_of log i) m k, (row_fits log i v has.0 has.1).depth), ap machine.home send.holds)

  pub causal_net : Causal (net_of log machine)
  causal_net = record { duration = duration; travel = travel; after = after; mail = mail }
