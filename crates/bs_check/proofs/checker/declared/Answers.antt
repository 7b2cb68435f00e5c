use Rattle.std.proofs.Common.{◌∙◌, sym, arith}
use Rattle.bs_check.proofs.Fitting.{fitting}
use Rattle.bs_check.proofs.Verdict.{twice_refused, limits_refused, declarations_kept}
use Rattle.bs_check.proofs.checker.declared.Goals as goal

pub returns-then-branch-clause-err : goal.returns-then-branch-clause-err
returns-then-branch-clause-err c other = twice_refused c.args.program (sym c.in_ok-declares_twice.ensures ∙ c.if-branch.true)

pub returns-then-not-keeps_limits-clause-err : goal.returns-then-not-keeps_limits-clause-err
returns-then-not-keeps_limits-clause-err c other =
    limits_refused c.args.program (sym c.in_ok-declares_twice.ensures ∙ c.if-branch.false) (sym c.keeps_limits.ensures ∙ c.if-not-keeps_limits.true)

pub overflow_cast-cells : goal.overflow_cast-cells
overflow_cast-cells c =
    let few = (fitting c.args.program (sym c.keeps_limits.ensures ∙ c.if-not-keeps_limits.false)).cells in
    let cells = rw c.as_slice.ensures at c.cells_of-cells.ensures in
    omega (arith, few, cells)

pub invariant_of-result : goal.invariant_of-result
invariant_of-result c =
    let kept = sym c.keeps_limits.ensures ∙ c.if-not-keeps_limits.false in
    let few = (fitting c.args.program kept).cells in
    let cells = rw c.as_slice.ensures at c.cells_of-cells.ensures in
    record {
      is_table = c.in_ok-kinds.ensures;
      has_cells = omega (arith, few, cells);
      is_whole = c.requires;
      is_within = kept;
    }

pub returns-clause-ok : goal.returns-clause-ok
returns-clause-ok c = declarations_kept c.args.program (sym c.in_ok-declares_twice.ensures ∙ c.if-branch.false) (sym c.keeps_limits.ensures ∙ c.if-not-keeps_limits.false)
