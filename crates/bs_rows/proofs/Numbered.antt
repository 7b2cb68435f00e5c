-- Rows, causes and sends of a valid log are there.
use Rattle.std.proofs.Common.{◌≡◌, ◌≤◌, ◌<◌, ℕ, zero, suc, ◌-◌, List, [], ◌∷◌, length, get_or, unwrap_or, ap, ◌∙◌, arith}
use Rattle.std.specs.List.{sum_by}
use Rattle.std.proofs.lemmas.List.Sums.{sum_by-cons}
use Rattle.bs_log.specs.declared.history.Sent.{Sent}
use Rattle.bs_log.specs.declared.log.MailRef.{MailRef}
use Rattle.bs_log.specs.declared.log.Row.{Row}
use Rattle.bs_log.specs.declared.log.Log.{Log}
use Rattle.bs_log.specs.Valid.{numbered, row_lines, SendFits, IsValid}
use Rattle.bs_log.specs.Lists.{Mem}
use Rattle.bs_log.proofs.Numbers.{mem_at}
use Rattle.bs_times.specs.Net.{no_send, row_of, sent_of}
use Rattle.bs_times.proofs.Found.{numbered_is, found, send_fits, block_cause, mail_cause}
use Rattle.bs_rows.specs.Rows.{IsSend}

rows_lines : (rows : List Row) → length rows ≤ sum_by row_lines rows
rows_lines [] = omega arith
rows_lines (r ∷ rs) = omega (arith, rows_lines rs, sum_by-cons row_lines r rs)

pub rows_few : (log : Log) → IsValid log → length log.rows ≤ 262144
rows_few log v = omega (arith, v.lines, rows_lines log.rows)

pub item_is : {A : Type 0} (xs : List A) (n : ℕ) (d : A) → 1 ≤ n → unwrap_or (numbered xs n) d ≡ get_or xs (n - 1) d
item_is xs zero d some = absurd (omega (arith, some))
item_is xs (suc n) d some = numbered_is xs n d ∙ ap (λ k. get_or xs k d) (omega arith)

pub block_found : (log : Log) (i k d : ℕ) → IsValid log → 1 ≤ i → i ≤ length log.rows → k < length (row_of log i).after → (1 ≤ get_or (row_of log i).after k d) × (get_or (row_of log i).after k d ≤ length log.rows)
block_found log i k d v some most lt =
    let cause = block_cause log i (get_or (row_of log i).after k d) v some most (mem_at (row_of log i).after k d lt) in
    (cause.some, cause.most)

pub mail_sent : (log : Log) (i : ℕ) (m : MailRef) → IsValid log → 1 ≤ i → i ≤ length log.rows → Mem m (row_of log i).mail → IsSend log m
mail_sent log i m v some most k =
    let sender = mail_cause log i m v some most k in
    let send = found (λ (s : Sent). s.to ≡ (row_of log i).chare) (row_of log m.row).sends no_send m.index sender.holds in
    record { row_some = sender.some; row_most = sender.most; index_some = send.some; index_most = send.most }

pub mail_found : (log : Log) (i k : ℕ) (d : MailRef) → IsValid log → 1 ≤ i → i ≤ length log.rows → k < length (row_of log i).mail → IsSend log (get_or (row_of log i).mail k d)
mail_found log i k d v some most lt = mail_sent log i (get_or (row_of log i).mail k d) v some most (mem_at (row_of log i).mail k d lt)

pub sent_fits : (log : Log) (m : MailRef) → IsValid log → IsSend log m → SendFits log (row_of log m.row).cost (sent_of log m)
sent_fits log m v is = send_fits log m v is.row_some is.row_most is.index_some is.index_most
