use Rattle.std.proofs.Common.{◌≡◌, ◌∙◌, Some, sym, arith}
use Rattle.bs_rows.specs.Rows.{net_on}
use Rattle.bs_settle.specs.Timed.{numbers}
use Rattle.bs_path.proofs.Premises.{causal}
use Rattle.bs_path.specs.Chain.{comes_from, start_in}
use Rattle.bs_path.proofs.OneLink.{named}
use Rattle.bs_path.proofs.walking.step.Goals as goal

pub start-requires-in-Some-clause-some : goal.start-requires-in-Some-clause-some
start-requires-in-Some-clause-some c =
    let net = net_on c.args.log.now c.args.machine.now in
    let e : comes_from c.args.link ≡ Some c.in-Some.before = sym c.comes_from.ensures ∙ c.in-Some.is in
    (named net (causal c.args.log.now c.args.machine.now c.requires.valid) (start_in (numbers c.args.starts.now)) c.args.number c.in-Some.before c.args.link c.requires.row c.requires.link.fits e).0.0

pub start-requires-in-Some-clause-most : goal.start-requires-in-Some-clause-most
start-requires-in-Some-clause-most c =
    let net = net_on c.args.log.now c.args.machine.now in
    let e : comes_from c.args.link ≡ Some c.in-Some.before = sym c.comes_from.ensures ∙ c.in-Some.is in
    omega (arith, c.requires.each, (named net (causal c.args.log.now c.args.machine.now c.requires.valid) (start_in (numbers c.args.starts.now)) c.args.number c.in-Some.before c.args.link c.requires.row c.requires.link.fits e).0.1)
