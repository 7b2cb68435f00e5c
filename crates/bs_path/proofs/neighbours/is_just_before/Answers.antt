use Rattle.std.proofs.Common.{◌≡◌, ◌+◌, ◌∙◌, sym, eq-eqb}
use Rattle.bs_rows.specs.Rows.{net_on}
use Rattle.bs_settle.specs.Timed.{numbers}
use Rattle.bs_path.specs.Chain.{start_in}
use Rattle.bs_path.proofs.Apart.{just_before}
use Rattle.bs_path.proofs.Premises.{causal}
use Rattle.bs_path.proofs.neighbours.is_just_before.Goals as goal

pub returns-then-end-start : goal.returns-then-end-start
returns-then-end-start c =
    let net = net_on c.args.log.now c.args.machine.now in
    let s = start_in (numbers c.args.starts.now) in
    let home : net.home c.args.before ≡ net.home c.args.number = sym c.home.ensures.value ∙ c.if-home.false ∙ c.home-2.ensures.value in
    let ends : s c.args.before + net.duration c.args.before ≡ s c.args.number = sym c.end.ensures ∙ c.if-end-start.true ∙ c.start.ensures.value in
    (λ t. just_before net (causal c.args.log.now c.args.machine.now c.requires.valid) s c.requires.table c.args.number c.args.before (c.requires.before, home) ends, λ h. eq-eqb _ _ c.if-end-start.true)
