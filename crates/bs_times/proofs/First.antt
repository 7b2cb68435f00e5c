-- In the consistent table causes come first.
use Rattle.std.proofs.Common.{ℕ, ◌<◌, ◌≤◌, refl, arith}
use Rattle.bs_log.specs.declared.log.MailRef.{MailRef}
use Rattle.bs_log.specs.Lists.{Mem}
use Rattle.bs_times.specs.Net.{Net, Starts, HasRow, Causal}
use Rattle.bs_times.specs.Times.{IsConsistent, arrival, end_of, ready}
use Rattle.bs_times.proofs.Order.{packed}
use Rattle.bs_times.proofs.Ready.{after_ready, mail_ready}

module _ (net : Net) (c : Causal net) (s : Starts) (table : IsConsistent net s) where
  -- a row starts at its ready tick or later.
  not_before : (i : ℕ) → HasRow net i → ready net (arrival net s) s i ≤ s i
  not_before i has = (packed net (net.home i) (arrival net s) s (table (net.home i))).ready i (has, refl)

  pub block_first : (i x : ℕ) → HasRow net i → Mem x (net.after i) → (end_of net s x ≤ s i) × (s x < s i)
  block_first i x has m =
      let ends = after_ready net (arrival net s) s i x m in
      let takes = c.duration x (c.after i x has m).0 in
      (omega (arith, ends, not_before i has), omega (arith, ends, takes, not_before i has))

  pub message_first : (i : ℕ) (m : MailRef) → HasRow net i → Mem m (net.mail i) → (arrival net s m ≤ s i) × (s m.row < s i)
  message_first i m has k =
      let comes = mail_ready net (arrival net s) s i m k in
      let takes = c.travel i m has k in
      (omega (arith, comes, not_before i has), omega (arith, comes, takes, not_before i has))
