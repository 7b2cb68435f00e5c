use Rattle.std.proofs.Common.{refl, get_or, ◌∙◌}
use Rattle.bs_check.specs.Known.{is_scalar}
use Rattle.bs_block.proofs.Items.{each_left}
use Rattle.std.proofs.lemmas.List.{drop_more}
use Rattle.bs_semantics.specs.Layout.{owns}
use Rattle.bs_semantics.specs.Run.{params_own}
use Rattle.bs_history.proofs.Takings.{left_next, left_done}
use Rattle.bs_history.proofs.writes.take_scalars.Goals as goal

pub returns-clause-taken : goal.returns-clause-taken
returns-clause-taken c =
    let p = c.args.accepted.now.program in
    left_done (owns p) (params_own p) refl (λ x xs. refl) c.args.part.now c.args.env.now c.args.names.now c.loop-name.name-index c.loop-name.env c.loop-name-test.false c.loop-name.invariant.this c.loop-name.invariant.left

pub loop-name-preserved : goal.loop-name-preserved
loop-name-preserved c =
    let p = c.args.accepted.now.program in
    let xs = c.args.names.now in
    let i = c.loop-name.name-index in
    let x = get_or xs i (record { 0 = 0 }) in
    let inv = c.loop-name.invariant in
    let l = c.loop-name-test.true in
    let d = drop_more xs i (record { 0 = 0 }) l in
    let done = c.take_scalar.ensures in
    record {
      fits = (each_left (is_scalar p) xs i x d inv.fits).1;
      this = done.taken.this ∙ inv.this;
      made = done.made;
      left = left_next (owns p) (params_own p) refl (λ x xs. refl) c.args.part.now c.args.env.now xs i x c.loop-name.env c.take_scalar.new.env d done.taken inv.left;
    }
