use Rattle.std.proofs.Common.{◌≡◌, vec_len}
use Rattle.bs_block.specs.Draft.{undone, AllExist}
use Rattle.bs_block.proofs.draft.Draft.give_back.Given as goal

abbrev pub invariant-loop-was : goal.invariant-loop-was
invariant-loop-was l = record {
  this : l.env.this ≡ l.fn.self.now.this;
  before : undone l.held.items l.env.cells ≡ l.fn.self.before;
  exist : AllExist l.held.items l.env.cells;
}

abbrev pub decreases-loop-was : goal.decreases-loop-was
decreases-loop-was l = vec_len l.held
