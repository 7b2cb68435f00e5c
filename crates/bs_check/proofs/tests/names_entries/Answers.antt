use Rattle.std.proofs.Common.{◌<◌, List, All, subst, arith}
use Rattle.std.proofs.lemmas.List.{take_all}
use Rattle.std.proofs.lemmas.List.Elements.{All-more}
use Rattle.bs_tree.specs.declared.tree.EntryDecl.{EntryDecl}
use Rattle.bs_check.proofs.tests.names_entries.Goals as goal

pub loop-entry-init : goal.loop-entry-init
loop-entry-init c k d l = absurd (omega arith)

pub loop-entry-preserved : goal.loop-entry-preserved
loop-entry-preserved c = All-more (λ x. x.name.0 < c.args.count) c.args.entries.now c.loop-entry.entry-index (record { name = record { 0 = 0 }; params = 0 }) c.loop-entry-test.true c.loop-entry.invariant (omega arith)

pub returns : goal.returns
returns c is =
    let whole = take_all c.loop-entry.entry-index c.args.entries.now c.loop-entry-test.false in
    subst (λ (xs : List EntryDecl). All (λ x. x.name.0 < c.args.count) xs) whole c.loop-entry.invariant
