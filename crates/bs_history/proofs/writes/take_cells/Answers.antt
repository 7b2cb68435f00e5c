use Rattle.std.proofs.Common.{arith, refl, ap, length, length-set, get_or, ◌∙◌}
use Rattle.std.specs.Prelude.{pos}
use Rattle.bs_history.proofs.Takings.{span_begins, span_next}
use Rattle.bs_history.proofs.writes.take_cells.Goals as goal

pub loop-cell-init : goal.loop-cell-init
loop-cell-init c =
    record { this = refl; made = c.requires.made; end = refl; taken = span_begins c.args.from c.args.part.now.cells c.args.env.now.cells }

pub loop-cell-preserved : goal.loop-cell-preserved
loop-cell-preserved c =
    let inv = c.loop-cell.invariant in
    let at = c.loop-cell.cell in
    let xs = c.args.part.now.cells in
    let ys = c.args.env.now.cells in
    let now = c.loop-cell.env.cells in
    let test = c.loop-cell-test.true in
    let within = c.requires.within in
    let part = c.requires.part.cells in
    let old = c.requires.made.cells in
    let count = length-set now at (get_or xs at (pos 0)) in
    let cells = ap (λ e. e.cells) c.take_cell.ensures in
    let this = ap (λ e. e.this) c.take_cell.ensures in
    record {
      this = this ∙ inv.this;
      made = record { chare = omega (arith, this, inv.made.chare); cells = ap length cells ∙ (count ∙ inv.made.cells) };
      end = refl;
      taken = cells ∙ span_next c.args.from at xs ys now c.loop-cell.auto.cell (omega (arith, test, within, part)) (omega (arith, test, within, old)) inv.taken;
    }
