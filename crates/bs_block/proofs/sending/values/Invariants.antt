use Rattle.std.proofs.Common.{◌≡◌, true, map, drop}
use Rattle.bs_check.specs.Known.{all_true, is_known}
use Rattle.bs_semantics.specs.Acts.{values_of}
use Rattle.bs_semantics.specs.Value.{value_of}
use Rattle.bs_block.proofs.Values.{after_values}
use Rattle.bs_block.proofs.sending.values.Given as goal

abbrev pub invariant-loop-expr : goal.invariant-loop-expr
invariant-loop-expr l = record {
  known : all_true (map (is_known l.accepted.program) (drop l.expr-index l.args)) ≡ true;
  so_far : after_values l.values (values_of (map (value_of l.accepted.program l.draft.now.this) (drop l.expr-index l.args)) l.draft.now.cells) ≡ values_of (map (value_of l.accepted.program l.draft.now.this) l.args) l.draft.now.cells;
}
