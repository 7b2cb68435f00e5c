use Rattle.std.proofs.Common.{refl, ap, sym, ◌∙◌}
use Rattle.bs_check.specs.Fits.{is_wait_fit}
use Rattle.bs_block.proofs.Items.{each_left}
use Rattle.bs_history.proofs.Turns.{next_item}
use Rattle.bs_semantics.specs.Run.{params_own, waits_own}
use Rattle.bs_history.proofs.Takings.{left_next, left_done, takes_as}
use Rattle.bs_history.proofs.writes.take_waits.Goals as goal

pub returns-clause-taken : goal.returns-clause-taken
returns-clause-taken c =
    let p = c.args.accepted.now.program in
    left_done (λ w. params_own p w.params) (waits_own p) refl (λ x xs. refl) c.args.part.now c.args.env.now c.args.waits.now c.loop-wait.wait-index c.loop-wait.env c.loop-wait-test.false c.loop-wait.invariant.this c.loop-wait.invariant.left

pub loop-wait-preserved : goal.loop-wait-preserved
loop-wait-preserved c =
    let p = c.args.accepted.now.program in
    let xs = c.args.waits.now in
    let i = c.loop-wait.wait-index in
    let x = c.wait-item.result in
    let inv = c.loop-wait.invariant in
    let d = next_item xs i x c.loop-wait-test.true c.wait-item.is in
    let done = c.take_scalars.ensures in
    let taken = takes_as (params_own p c.as_slice.result.now) (params_own p x.params) c.args.part.now c.loop-wait.env c.take_scalars.new.env (sym (ap (params_own p) c.as_slice.ensures)) done.taken in
    record {
      fits = (each_left (is_wait_fit p) xs i x d inv.fits).1;
      this = done.taken.this ∙ inv.this;
      made = done.made;
      left = left_next (λ w. params_own p w.params) (waits_own p) refl (λ x xs. refl) c.args.part.now c.args.env.now xs i x c.loop-wait.env c.take_scalars.new.env d taken inv.left;
    }
