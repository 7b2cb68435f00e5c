use Rattle.std.proofs.Common.{◌≡◌, max, drop}
use Rattle.bs_model.specs.Ready.{arrivals_in}
use Rattle.bs_model.proofs.ready.last_arrival.Given as goal

abbrev pub invariant-loop-origin : goal.invariant-loop-origin
invariant-loop-origin l = max l.latest (arrivals_in l.machine l.book l.chare (drop l.origin-index l.origins)) ≡ arrivals_in l.machine l.book l.chare l.origins
