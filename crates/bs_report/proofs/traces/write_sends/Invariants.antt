use Rattle.std.proofs.Common.{◌≡◌, ◌+◌, ◌++◌, drop, string_bytes}
use Rattle.std.specs.List.{flat_map}
use Rattle.bs_settle.specs.Timed.{numbers}
use Rattle.bs_times.specs.Machine.{machine_of}
use Rattle.bs_times.specs.Net.{row_of}
use Rattle.bs_report.specs.Trace.{mail_line, mails_from, start_in}
use Rattle.bs_report.proofs.traces.write_sends.Given as goal

abbrev pub invariant-loop-place : goal.invariant-loop-place
invariant-loop-place l =
    string_bytes l.text ++ flat_map (mail_line l.log (machine_of l.machine) (start_in (numbers l.starts))) (mails_from l.row (l.place + 1) (drop l.place (row_of l.log l.row).sends))
    ≡ string_bytes l.initial.text ++ flat_map (mail_line l.log (machine_of l.machine) (start_in (numbers l.starts))) (mails_from l.row 1 (row_of l.log l.row).sends)
