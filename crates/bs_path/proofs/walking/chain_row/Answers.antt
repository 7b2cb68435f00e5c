use Rattle.std.proofs.Common.{subst, sym}
use Rattle.std.specs.BTreeMap.{get}
use Rattle.bs_rows.specs.Rows.{net_on}
use Rattle.bs_settle.specs.Timed.{numbers}
use Rattle.bs_times.proofs.Found.{row_fits}
use Rattle.bs_path.specs.Chain.{IsLinkOf, start_in}
use Rattle.bs_path.specs.Ended.{key_cmp}
use Rattle.bs_path.proofs.FirstLink.{link_is}
use Rattle.bs_path.proofs.Premises.{causal}
use Rattle.bs_path.proofs.walking.chain_row.Goals as goal

pub step-requires-clause-link : goal.step-requires-clause-link
step-requires-clause-link c =
    let net = net_on c.args.log.now c.args.machine.now in
    let s = start_in (numbers c.args.starts.now) in
    let i = c.args.number in
    let rises = (row_fits c.args.log.now i c.requires.valid c.requires.row.0 c.requires.row.1).rises in
    subst (IsLinkOf net s i) (sym c.link_of-link.ensures)
    (link_is net (causal c.args.log.now c.args.machine.now c.requires.valid) s c.requires.table i c.requires.row rises.after rises.mail (get key_cmp c.args.ended.now (net.home i, s i)) (c.requires.ended (net.home i) (s i)))

pub returns-clause-link : goal.returns-clause-link
returns-clause-link c =
    let net = net_on c.args.log.now c.args.machine.now in
    let s = start_in (numbers c.args.starts.now) in
    let i = c.args.number in
    let rises = (row_fits c.args.log.now i c.requires.valid c.requires.row.0 c.requires.row.1).rises in
    subst (IsLinkOf net s i) (sym c.link_of-link.ensures)
    (link_is net (causal c.args.log.now c.args.machine.now c.requires.valid) s c.requires.table i c.requires.row rises.after rises.mail (get key_cmp c.args.ended.now (net.home i, s i)) (c.requires.ended (net.home i) (s i)))
