use Rattle.std.proofs.Common.{◌≡◌, ◌≤◌, ◌+◌, ◌∙◌, length, suc, max, Some, sym, ap, subst, arith}
use Rattle.bs_rows.specs.Rows.{net_on}
use Rattle.bs_settle.specs.Timed.{numbers}
use Rattle.bs_times.specs.Times.{end_of, greatest_to}
use Rattle.bs_path.specs.Chain.{start_in}
use Rattle.bs_path.specs.Ended.{EndsLast}
use Rattle.bs_path.proofs.Latest.{kept, later}
use Rattle.bs_path.proofs.Premises.{causal}
use Rattle.bs_path.proofs.searching.last_row.Goals as goal
use Rattle.bs_path.proofs.searching.last_row.Goals.{then-latest-tick, else-latest-tick}

pub loop-place-preserved : goal.loop-place-preserved
loop-place-preserved c =
    let net = net_on c.args.log.now c.args.machine.now in
    let s = start_in (numbers c.args.starts.now) in
    let n = c.loop-place.place in
    let next : suc n ≡ n + 1 = omega arith in
    let most : n + 1 ≤ length c.args.log.now.rows = omega (arith, c.loop-place-test.true, c.count-place-end.ensures.value) in
    let end : end_of net s (suc n) ≡ c.end-tick.result = ap (end_of net s) next ∙ sym c.end-tick.ensures in
    let was : c.loop-place.latest ≡ greatest_to (end_of net s) n = c.loop-place.invariant.latest in
    let grown : greatest_to (end_of net s) (n + 1) ≡ max (greatest_to (end_of net s) n) (end_of net s (suc n)) = ap (greatest_to (end_of net s)) (sym next) in
    elim c.if-latest-tick.branch [
      | then-latest-tick w ↦ record {
        latest = omega (arith, w.latest-is, w.if-latest-tick.true, grown, end, was);
        last = subst (EndsLast net s (n + 1)) (sym w.last-is) (subst (λ k. EndsLast net s k (Some k)) next (later net s n c.loop-place.last c.loop-place.invariant.last (omega (arith, w.if-latest-tick.true, end, was))));
        within = most;
      }
      | else-latest-tick w ↦ record {
        latest = omega (arith, w.latest-is, w.if-latest-tick.false, grown, end, was);
        last = subst (EndsLast net s (n + 1)) (sym w.last-is) (subst (λ k. EndsLast net s k c.loop-place.last) next (kept net s (causal c.args.log.now c.args.machine.now c.requires.valid) n c.loop-place.last (omega arith, omega (arith, most)) c.loop-place.invariant.last (omega (arith, w.if-latest-tick.false, end, was))));
        within = most;
      }
    ]
