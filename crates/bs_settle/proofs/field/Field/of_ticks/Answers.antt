use Rattle.std.proofs.Common.{subst, sym}
use Rattle.bs_machine.specs.Fitted.{processors_of}
use Rattle.bs_rows.specs.Rows.{net_on}
use Rattle.bs_settle.specs.Shares.{AreWhole}
use Rattle.bs_settle.proofs.Made.{new_field, new_ticks, none_begun}
use Rattle.bs_settle.proofs.field.Field.of_ticks.Goals as goal

pub add_all-requires-clause-whole : goal.add_all-requires-clause-whole
add_all-requires-clause-whole c = (c.args.mails.now, c.args.ticks.now, subst (AreWhole (net_on c.args.log.now c.args.machine.now) (processors_of c.args.machine.now) c.args.mails.now c.args.ticks.now) (sym c.deref.ensures.value) c.in_ok-shares.ensures)

pub returns-clause-field : goal.returns-clause-field
returns-clause-field c =
    let f = c.add_all.new.self in
    let t = c.requires.ticks in
    let w = subst (AreWhole (net_on c.args.log.now c.args.machine.now) (processors_of c.args.machine.now) c.args.mails.now c.args.ticks.now) (sym c.deref.ensures.value) c.in_ok-shares.ensures in
    let made = c.in_ok-add_all.ensures.made c.args.mails.now c.args.ticks.now w in
    new_field f c.args.log.now c.args.machine.now c.args.mails.now c.args.ticks.now (λ i. (c.add_all.ensures.log i).now) (λ i. (c.add_all.ensures.machine i).now) c.requires.valid c.requires.fitted t.listed t.each t.early made

pub returns-clause-ticks : goal.returns-clause-ticks
returns-clause-ticks c =
    let f = c.add_all.new.self in
    let t = c.requires.ticks in
    let w = subst (AreWhole (net_on c.args.log.now c.args.machine.now) (processors_of c.args.machine.now) c.args.mails.now c.args.ticks.now) (sym c.deref.ensures.value) c.in_ok-shares.ensures in
    let made = c.in_ok-add_all.ensures.made c.args.mails.now c.args.ticks.now w in
    new_ticks f c.args.log.now c.args.machine.now c.args.mails.now c.args.ticks.now (λ i. (c.add_all.ensures.log i).now) (λ i. (c.add_all.ensures.machine i).now) c.requires.valid c.requires.fitted t.listed t.each t.early made

pub returns-clause-begun : goal.returns-clause-begun
returns-clause-begun c p =
    let f = c.add_all.new.self in
    let net = net_on c.args.log.now c.args.machine.now in
    let w = subst (AreWhole net (processors_of c.args.machine.now) c.args.mails.now c.args.ticks.now) (sym c.deref.ensures.value) c.in_ok-shares.ensures in
    none_begun net c.args.mails.now c.args.ticks.now (processors_of c.args.machine.now) f.places.items f.lines.items (c.in_ok-add_all.ensures.made c.args.mails.now c.args.ticks.now w) p
