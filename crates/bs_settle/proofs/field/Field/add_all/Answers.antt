use Rattle.std.proofs.Common.{◌≡◌, ◌<◌, ◌∙◌, length, refl, subst, sym, arith}
use Rattle.std.proofs.lemmas.Option.{slice_get_read}
use Rattle.bs_machine.specs.Fitted.{processors_of}
use Rattle.bs_settle.specs.Field.{net_in}
use Rattle.bs_settle.specs.Making.{AddsLine, AreLinesTo, IsWholeShare}
use Rattle.bs_rows.specs.Rows.{net_on}
use Rattle.bs_settle.proofs.Made.{line_added}
use Rattle.bs_settle.proofs.Shared.{whole_share}
use Rattle.bs_settle.proofs.field.Field.add_all.Goals as goal

pub add-requires-clause-share : goal.add-requires-clause-share
add-requires-clause-share c =
    let s = c.args.self.now in
    let now = c.loop-processor.self in
    let k = c.loop-processor.processor in
    let x = c.index-shares-processor.result in
    let mails = c.requires.whole.0 in
    let ticks = c.requires.whole.1 in
    let w = c.requires.whole.2 in
    let lt : k < length c.args.shares.now = omega (arith, c.loop-processor-test.true, c.processors-processor-end.ensures.value, w.shares_are.many_of) in
    let here = slice_get_read c.args.shares.now (length c.args.shares.now) k x refl lt c.index-shares-processor.is in
    let same : net_in now ≡ net_in s = λ i. net_on (c.loop-processor.invariant.0 i).now (c.loop-processor.invariant.1 i).now in
    subst (λ n. IsWholeShare n k x) (sym same) (whole_share (net_in s) k mails ticks x w.ticks_for.listed w.ticks_for.each w.ticks_for.early (w.shares_are.each k x here))

pub loop-processor-preserved : goal.loop-processor-preserved
loop-processor-preserved c =
    let s = c.args.self.now in
    let now = c.loop-processor.self in
    let k = c.loop-processor.processor in
    let x = c.index-shares-processor.result in
    let same : net_in now ≡ net_in s = λ i. net_on (c.loop-processor.invariant.0 i).now (c.loop-processor.invariant.1 i).now in
    let adds = subst (λ n. AddsLine n k x now c.add.new.self) same c.in_ok-add.ensures.adds in (
      c.add.ensures.log ∙ c.loop-processor.invariant.0,
      c.add.ensures.machine ∙ c.loop-processor.invariant.1,
      λ mails ticks w.
          let lt : k < length c.args.shares.now = omega (arith, c.loop-processor-test.true, c.processors-processor-end.ensures.value, w.shares_are.many_of) in
          let here = slice_get_read c.args.shares.now (length c.args.shares.now) k x refl lt c.index-shares-processor.is in
          line_added (net_in s) mails ticks k x now c.add.new.self w.ticks_for.listed w.ticks_for.each w.ticks_for.early (w.shares_are.each k x here) (c.loop-processor.invariant.2 mails ticks w) adds,
    )

pub returns-clause-made : goal.returns-clause-made
returns-clause-made c mails ticks w =
    let s = c.args.self.now in
    let e : c.loop-processor.processor ≡ processors_of s.machine.now = omega (arith, c.loop-processor-test.false, c.loop-processor.auto.processor-end, c.processors-processor-end.ensures.value) in
    subst (λ n. AreLinesTo (net_in s) mails ticks n c.loop-processor.self.places.items c.loop-processor.self.lines.items) e (c.loop-processor.invariant.2 mails ticks w)
