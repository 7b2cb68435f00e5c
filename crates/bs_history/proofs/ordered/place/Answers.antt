use Rattle.std.proofs.Common.{◌≡◌, ◌-◌, arith, le_refl, length, subst, zero-le}
use Rattle.bs_history.proofs.Places.{PutBefore, put_less, put_equal, put_greater, put_first, put_last, take_last, drop_last}
use Rattle.bs_history.proofs.ordered.place.Goals as goal

pub loop-at-init : goal.loop-at-init
loop-at-init g c = record { within = le_refl (length c.args.items.now); put = put_last (g.T.Ordered.order) c.args.item.now c.args.items.now }

pub loop-at-preserved : goal.loop-at-preserved
loop-at-preserved g c =
    let inv = c.loop-at.invariant in
    let xs = c.args.items.now in
    let t = take_last xs c.loop-at.at c.index-items-at.result c.loop-at-test.true inv.within c.index-items-at.is in
    let d = drop_last xs c.loop-at.at c.index-items-at.result c.loop-at-test.true inv.within c.index-items-at.is in
    record {
      within = omega (arith, inv.within);
      put = put_greater (g.T.Ordered.order) c.args.item.now xs (c.loop-at.at - 1) c.loop-at.at c.index-items-at.result t d inv.put (c.in-Greater.ensures);
    }

pub returns-in-Less : goal.returns-in-Less
returns-in-Less g c =
    let inv = c.loop-at.invariant in
    let xs = c.args.items.now in
    let t = take_last xs c.loop-at.at c.index-items-at.result c.loop-at-test.true inv.within c.index-items-at.is in
    let d = drop_last xs c.loop-at.at c.index-items-at.result c.loop-at-test.true inv.within c.index-items-at.is in
    (inv.within, put_less (g.T.Ordered.order) c.args.item.now xs (c.loop-at.at - 1) c.loop-at.at c.index-items-at.result t d inv.put (c.in-Less.ensures))

pub returns-in-Equal : goal.returns-in-Equal
returns-in-Equal g c =
    let inv = c.loop-at.invariant in
    let xs = c.args.items.now in
    let t = take_last xs c.loop-at.at c.index-items-at.result c.loop-at-test.true inv.within c.index-items-at.is in
    let d = drop_last xs c.loop-at.at c.index-items-at.result c.loop-at-test.true inv.within c.index-items-at.is in
    put_equal (g.T.Ordered.order) c.args.item.now xs (c.loop-at.at - 1) c.loop-at.at c.index-items-at.result t d inv.put (c.in-Equal.ensures)

pub returns : goal.returns
returns g c =
    let none : c.loop-at.at ≡ 0 = omega (arith, c.loop-at-test.false) in
    (zero-le, put_first (g.T.Ordered.order) c.args.item.now c.args.items.now (subst (λ k. PutBefore (g.T.Ordered.order) c.args.item.now c.args.items.now k) none c.loop-at.invariant.put))
