use Rattle.std.proofs.Common.{◌<◌, ◌∙◌, length, ap, sym, arith}
use Rattle.std.proofs.lemmas.List.{get_or_read}
use Rattle.bs_log.specs.declared.log.MailRef.{MailRef}
use Rattle.bs_schedule.specs.Plan.{at}
use Rattle.bs_line.proofs.Dirty.{least_at, moved_at, place_is}
use Rattle.bs_line.proofs.line.Line.differs.Goals as goal

pub returns-then-index : goal.returns-then-index
returns-then-index c =
    let s = c.args.self.now in
    let k = c.loop-place.place in
    let none : MailRef = record { row = 0; index = 0 } in
    let lt : k < length s.layout.mails = omega (arith, c.loop-place-test.true, ap length c.as_slice-mails.ensures) in
    let in_held : k < length s.held.items = omega (arith, lt, c.requires.held_length) in
    let in_used : k < length s.used.items = omega (arith, lt, c.requires.used_length) in
    let place = place_is s c.requires k none lt in
    let kept = get_or_read s.used.items _ _ in_used c.index-then-index.ensures 0 in
    let due = get_or_read s.held.items _ _ in_held c.index-then-index-2.ensures 0 in
    let held = get_or_read s.held.items _ _ in_held c.index.ensures 0 in
    let used = get_or_read s.used.items _ _ in_used c.index-in-loop-place.ensures 0 in
    rw c.as_slice-mails.ensures (record {
      begun = c.if-not-self.false;
      moved = moved_at s c.requires k none lt (λ e. c.if-index.true (held ∙ e ∙ sym used));
      kept = kept ∙ ap (at s.used.items) (sym place);
      due = due ∙ ap (at s.held.items) (sym place);
      least = least_at s c.requires k none lt c.loop-place.invariant;
    })
