use Rattle.std.proofs.Common.{rules}
use Rattle.std.proofs.lemmas.List.Sorted.{IsPartitionPoint-from_clause}
use Rattle.bs_log.specs.Messages.{is_below}
use Rattle.bs_log.proofs.ClosedTests.{rising_is}
use Rattle.bs_log.proofs.Numbers.{parted, below_first}
use Rattle.bs_log.proofs.numbering.place_in.Goals as goal

pub returns : goal.returns
returns c =
    let xs = c.args.blocks.now in
    let p = c.args.path.now in
    let rising = (rising_is xs).0 c.requires.rises in
    let at = c.partition_point.ensures in
    parted p xs c.partition_point.result rising c.requires.has at.bound
    (IsPartitionPoint-from_clause (λ b. is_below b.path p) xs c.partition_point.result at.partitioned (below_first p xs rising) (λ a r f called. search rules))
