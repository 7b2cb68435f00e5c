use Rattle.std.proofs.Common.{◌≡◌, ◌++◌, string_bytes}
use Rattle.std.specs.List.{All, flat_map}
use Rattle.bs_report.specs.Loads.{IsShare, load_line}
use Rattle.bs_report.proofs.processors.write_loads.Given as goal

abbrev pub invariant-loop-processor : goal.invariant-loop-processor
invariant-loop-processor l = record {
  written :
      string_bytes l.text ++ flat_map (load_line l.span) l.processor-iterator ≡ string_bytes l.initial.text ++ flat_map (load_line l.span) l.loads.entries;
  shares : All (IsShare l.span) l.processor-iterator;
}
