use Rattle.std.proofs.Common.{◌≡◌, ◌++◌, ◌∙◌, None, map, length, string_bytes, ap}
use Rattle.bs_rows.specs.Rows.{net_on}
use Rattle.bs_settle.specs.Timed.{numbers}
use Rattle.bs_times.specs.Machine.{machine_of}
use Rattle.bs_report.specs.Headed.{headed}
use Rattle.bs_report.specs.Trace.{run_lines, start_in, trace_from, trace_text, traced_rows}
use Rattle.bs_report.proofs.Causes.{a_start_each, all_early}
use Rattle.bs_report.proofs.Heads.{headed_rows}
use Rattle.bs_report.proofs.Written.{two_parts}
use Rattle.bs_report.proofs.traces.trace.Goals as goal

pub runs-requires-clause-each : goal.runs-requires-clause-each
runs-requires-clause-each c = a_start_each c.args.log.now (machine_of c.args.machine.now) c.args.times.now c.requires.times _ c.as_slice-starts.ensures

pub runs-requires-clause-early : goal.runs-requires-clause-early
runs-requires-clause-early c = all_early c.args.log.now (machine_of c.args.machine.now) c.args.times.now c.requires.times _ c.as_slice-starts.ensures

pub write_mails-requires-clause-each : goal.write_mails-requires-clause-each
write_mails-requires-clause-each c = a_start_each c.args.log.now (machine_of c.args.machine.now) c.args.times.now c.requires.times _ c.as_slice-starts.ensures

pub write_mails-requires-clause-early : goal.write_mails-requires-clause-early
write_mails-requires-clause-early c = all_early c.args.log.now (machine_of c.args.machine.now) c.args.times.now c.requires.times _ c.as_slice-starts.ensures

pub returns : goal.returns
unfolding trace_text
returns c =
    let net = net_on c.args.log.now c.args.machine.now in
    let s = start_in (numbers c.as_slice-starts.result.now) in
    let rows = traced_rows net s (length c.args.log.now.rows) in
    let runs : headed None (map (λ entry. entry.1) c.in_ok-runs.runs.entries) ≡ run_lines rows
    = ap (headed None) c.in_ok-runs.ensures ∙ headed_rows net s (length c.args.log.now.rows) in
    ap (λ bytes. bytes.items) c.into_bytes.ensures.value
    ∙ two_parts _ (run_lines rows) _ _ _ c.new-text.ensures.bytes
    (c.in_ok-write_runs.ensures ∙ ap (λ lines. string_bytes c.new-text.result ++ lines) runs)
    c.in_ok-write_mails.ensures
    ∙ ap (λ ticks. trace_from c.args.log.now (machine_of c.args.machine.now) (start_in ticks)) (ap numbers c.as_slice-starts.ensures)
