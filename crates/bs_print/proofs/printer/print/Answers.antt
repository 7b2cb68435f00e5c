use Rattle.std.proofs.Common.{rules, sym, ◌∙◌}
use Rattle.bs_tree.specs.Rule.{outside, mark}
use Rattle.bs_tree.specs.declared.symbols.Mark.TheVariants as m
use Rattle.bs_print.specs.Canonical.{text_of, canonical}
use Rattle.bs_print.specs.Statements.{canonical_items, front_items}
use Rattle.bs_print.proofs.Pieces.{written_last}
use Rattle.bs_print.proofs.printer.print.Goals as goal

pub returns : goal.returns
unfolding text_of canonical canonical_items
returns c =
    let p = c.args.program.now in
    (search rules) ∙ sym (written_last p.names (front_items (p.chares, p.vars, p.entries, p.body)) (outside, mark m.BraceRight))
