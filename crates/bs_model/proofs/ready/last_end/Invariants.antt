use Rattle.std.proofs.Common.{◌≡◌, drop}
use Rattle.bs_model.specs.Ready.{ends_in}
use Rattle.bs_model.proofs.Readies.{raised}
use Rattle.bs_model.proofs.ready.last_end.Given as goal

abbrev pub invariant-loop-path : goal.invariant-loop-path
invariant-loop-path l = raised l.latest (ends_in l.book l.chare (drop l.path-index l.paths)) ≡ ends_in l.book l.chare l.paths
