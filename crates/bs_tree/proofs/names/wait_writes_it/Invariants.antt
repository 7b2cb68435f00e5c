use Rattle.std.proofs.Common.{◌≡◌, drop}
use Rattle.bs_tree.specs.Reads.{any_named}
use Rattle.bs_tree.proofs.names.wait_writes_it.Given as goal

abbrev pub invariant-loop-param : goal.invariant-loop-param
invariant-loop-param l = any_named l.name (drop l.param-index l.param-items) ≡ any_named l.name l.wait.params
