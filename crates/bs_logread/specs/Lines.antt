-- The lines of a log.
use Rattle.std.specs.Prelude.{List, [], ◌∷◌, ◌++◌, map, length}
use Rattle.std.specs.List.{flat_map}
use Rattle.bs_log.specs.declared.log.Row.{Row}
use Rattle.bs_log.specs.declared.log.Log.{Log}
use Rattle.bs_logread.specs.declared.lines.Counts.{Counts}
use Rattle.bs_logread.specs.declared.lines.Head.{Head}
use Rattle.bs_logread.specs.declared.lines.Line.{Line}
use Rattle.bs_logread.specs.declared.lines.Line.TheVariants as l

abbrev pub head_of : Row → Head
head_of r = record { chare = r.chare; stmt = r.stmt; depth = r.depth; cost = r.cost }

-- a row, its causes, its values and its sends
abbrev pub row_parts : Row → List Line
row_parts r = l.Row (head_of r) ∷ (map l.After r.after ++ (map l.Mail r.mail ++ (map l.Emit r.emits ++ map l.Send r.sends)))

abbrev pub counts_of : Log → Counts
counts_of log = record { chares = log.chares; entries = log.entries; rows = length log.rows }

unfoldable pub log_lines : Log → List Line
log_lines log = l.Version ∷ l.Counts (counts_of log) ∷ (flat_map row_parts log.rows ++ (map l.Trap log.traps ++ (map l.Wait log.waits ++ l.End ∷ [])))
