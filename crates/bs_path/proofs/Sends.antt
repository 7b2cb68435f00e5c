-- A message that a link of a row names is sent.
use Rattle.std.proofs.Common.{ℕ}
use Rattle.bs_log.specs.declared.log.Log.{Log}
use Rattle.bs_log.specs.Valid.{IsValid}
use Rattle.bs_machine.specs.declared.fitted.Fitted.{Fitted}
use Rattle.bs_rows.proofs.Numbered.{mail_sent}
use Rattle.bs_rows.specs.Rows.{net_on}
use Rattle.bs_times.specs.Net.{Starts, HasRow}
use Rattle.bs_path.specs.declared.links.Link.{Link}
use Rattle.bs_path.specs.declared.links.Link.TheVariants as link
use Rattle.bs_path.specs.Checked.{NamesSend}
use Rattle.bs_path.specs.Sound.{Leads}

pub names_send : (log : Log) (m : Fitted) → IsValid log → (s : Starts) (j i : ℕ) (l : Link) → HasRow (net_on log m) i → Leads (net_on log m) s j i l → NamesSend log l
names_send log m v s j i link.First has h = absurd h
names_send log m v s j i (link.Processor k) has h = tt
names_send log m v s j i (link.After k) has h = tt
names_send log m v s j i (link.Mail n) has h = mail_sent log i n v has.0 has.1 h.1
