use Rattle.std.proofs.Common.{refl, None, ap, ◌∙◌}
use Rattle.bs_report.specs.Trace.{trace_text}
use Rattle.bs_times.specs.Machine.{machine_of}
use Rattle.bs_top.specs.Targets.{output}
use Rattle.bs_top.specs.declared.reply.Ending.TheVariants.{Run}
use Rattle.bs_top.proofs.commands.trace.trace_at.Goals as goal

pub trace-requires-clause-times : goal.trace-requires-clause-times
trace-requires-clause-times c =
    let times = c.requires.times in
    record { table = times.table; starts = times.starts; ends = times.ends; in_range = times.in_range }

pub returns : goal.returns
returns c =
    let times = c.requires.times in
    record {
      fitted = c.args.fitted.now;
      starts = times.table;
      is_machine = refl;
      is_fitted = c.requires.chares;
      is_consistent = times.is_consistent;
      is_said = λ i. record {
        ending = Run (c.end.ensures i);
        note = None;
        target = output;
        text = (c.in_ok-text.ensures ∙ ap (trace_text c.args.log.now (machine_of c.args.fitted.now)) times.starts) i;
      };
    }
