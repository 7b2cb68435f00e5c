-- The rows and sends of a log on a machine (docs/model.md).
use Rattle.std.specs.Prelude.{◌≤◌, length}
use Rattle.bs_log.specs.declared.log.MailRef.{MailRef}
use Rattle.bs_log.specs.declared.log.Log.{Log}
use Rattle.bs_machine.specs.declared.fitted.Fitted.{Fitted}
use Rattle.bs_times.specs.Machine.{machine_of}
use Rattle.bs_times.specs.Net.{Net, net_of, row_of}

-- the net of a log on a fitted machine
abbrev pub net_on : Log → Fitted → Net
net_on log machine = net_of log (machine_of machine)

-- the row and the send of a message are there
pub record IsSend (log : Log) (m : MailRef) : Type 0 where
  pub row_some : 1 ≤ m.row
  pub row_most : m.row ≤ length log.rows
  pub index_some : 1 ≤ m.index
  pub index_most : m.index ≤ length (row_of log m.row).sends
