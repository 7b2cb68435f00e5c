use Rattle.std.proofs.Common.{arith}
use Rattle.bs_settle.specs.Timed.{numbers}
use Rattle.bs_times.specs.Machine.{machine_of}
use Rattle.bs_times.specs.Net.{row_of}
use Rattle.bs_report.specs.Trace.{mail_line, start_in}
use Rattle.bs_report.proofs.Written.{one_send}
use Rattle.bs_report.proofs.traces.write_sends.Goals as goal

pub loop-place-preserved : goal.loop-place-preserved
loop-place-preserved c =
    one_send (mail_line c.args.log.now (machine_of c.args.machine.now) (start_in (numbers c.args.starts.now))) c.args.row c.loop-place.place (row_of c.args.log.now c.args.row).sends _ _ _
    (omega (arith, c.loop-place-test.true, c.sends-place-end.ensures.value)) c.in_ok-write_mail.ensures c.loop-place.invariant
