use Rattle.std.proofs.Common.{◌∙◌, length}
use Rattle.bs_log.specs.Collected.{log_of}
use Rattle.bs_log.proofs.Links.{few_blocks, linked}
use Rattle.bs_log.proofs.collected.collect.Goals as goal

pub firsts-requires : goal.firsts-requires
firsts-requires c = few_blocks c.args.histories.now c.requires.size

pub rows-requires-clause-numbering : goal.rows-requires-clause-numbering
rows-requires-clause-numbering c = record { is = c.as_slice.ensures.value ∙ c.in_ok-firsts.ensures; few = few_blocks c.args.histories.now c.requires.size }

pub rows-requires-clause-linked : goal.rows-requires-clause-linked
rows-requires-clause-linked c = linked c.args.histories.now c.requires

pub returns : goal.returns
unfolding log_of
returns c = λ j. record {
  chares = length c.args.histories.now;
  entries = c.args.entries;
  rows = c.in_ok-rows.ensures j;
  traps = c.in_ok-traps.ensures j;
  waits = c.in_ok-waits.ensures j;
}
