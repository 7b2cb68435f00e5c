use Rattle.std.proofs.Common.{◌<◌, List, All, None, subst, arith}
use Rattle.std.proofs.lemmas.List.{take_all}
use Rattle.std.proofs.lemmas.List.Elements.{All-more}
use Rattle.bs_tree.specs.declared.tree.VarDecl.{VarDecl}
use Rattle.bs_check.proofs.tests.names_vars.Goals as goal

pub loop-var-init : goal.loop-var-init
loop-var-init c k d l = absurd (omega arith)

pub loop-var-preserved : goal.loop-var-preserved
loop-var-preserved c = All-more (λ x. x.name.0 < c.args.count) c.args.vars.now c.loop-var.var-index (record { name = record { 0 = 0 }; cells = None }) c.loop-var-test.true c.loop-var.invariant (omega arith)

pub returns : goal.returns
returns c is =
    let whole = take_all c.loop-var.var-index c.args.vars.now c.loop-var-test.false in
    subst (λ (xs : List VarDecl). All (λ x. x.name.0 < c.args.count) xs) whole c.loop-var.invariant
