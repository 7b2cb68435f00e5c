use Rattle.std.proofs.Common.{length, ap, refl, subst, sym, arith}
use Rattle.bs_schedule.specs.Plan.{at}
use Rattle.bs_settle.specs.Changes.{AreApart}
use Rattle.bs_settle.specs.Field.{given_of, net_in}
use Rattle.bs_settle.specs.Lines.{given_in}
use Rattle.bs_settle.proofs.Premises.{causal}
use Rattle.bs_settle.proofs.Waved.{all_fresh, changes_apart, changes_refreshed, either_refreshed, lines_refreshed}
use Rattle.bs_settle.proofs.field.Field.changes.Goals as goal

pub returns-in_err-refresh_all-clause-refreshed : goal.returns-in_err-refresh_all-clause-refreshed
returns-in_err-refresh_all-clause-refreshed c =
    let s = c.args.self.now in
    let net = net_in s in
    let places = s.places.items in
    let old = s.lines.items in
    let new = c.refresh_all.new.lines.items in
    let list = c.refresh_all.new.gathered.items in
    let cause = causal s.log.now s.machine.now c.requires.field.valid in
    let a = c.requires.field.lines in
    let some = c.refresh_all.ensures.some net places a in
    record {
      same = record { log = refl; machine = refl; places = refl };
      lines = lines_refreshed net places old new some.0 list cause a some.1;
      held = λ m. ap (λ xs. at xs (at places (net.goes_to m))) (some.1.held m);
      either = either_refreshed net places old new some.0 list cause a some.1;
      changes = changes_refreshed net places old new some.0 list cause a some.1;
    }

pub returns-in_err-list-clause-refreshed : goal.returns-in_err-list-clause-refreshed
returns-in_err-list-clause-refreshed c =
    let s = c.args.self.now in
    let net = net_in s in
    let places = s.places.items in
    let old = s.lines.items in
    let new = c.refresh_all.new.lines.items in
    let list = c.refresh_all.new.gathered.items in
    let cause = causal s.log.now s.machine.now c.requires.field.valid in
    let a = c.requires.field.lines in
    let some = c.refresh_all.ensures.some net places a in
    record {
      same = record { log = refl; machine = refl; places = refl };
      lines = lines_refreshed net places old new some.0 list cause a some.1;
      held = λ m. ap (λ xs. at xs (at places (net.goes_to m))) (some.1.held m);
      either = either_refreshed net places old new some.0 list cause a some.1;
      changes = changes_refreshed net places old new some.0 list cause a some.1;
    }

pub in_order-requires : goal.in_order-requires
in_order-requires c =
    let s = c.args.self.now in
    let net = net_in s in
    let cause = causal s.log.now s.machine.now c.requires.field.valid in
    let a = c.requires.field.lines in
    let some = c.refresh_all.ensures.some net s.places.items a in
    let new = c.refresh_all.new.lines.items in
    subst AreApart (sym c.deref.ensures.value) (changes_apart net (given_of s) (given_in net s.places.items new) c.refresh_all.new.gathered.items (changes_refreshed net s.places.items s.lines.items new some.0 c.refresh_all.new.gathered.items cause a some.1))

pub returns-clause-refreshed : goal.returns-clause-refreshed
returns-clause-refreshed c =
    let s = c.args.self.now in
    let net = net_in s in
    let places = s.places.items in
    let old = s.lines.items in
    let new = c.refresh_all.new.lines.items in
    let list = c.refresh_all.new.gathered.items in
    let cause = causal s.log.now s.machine.now c.requires.field.valid in
    let a = c.requires.field.lines in
    let some = c.refresh_all.ensures.some net places a in
    record {
      same = record { log = refl; machine = refl; places = refl };
      lines = lines_refreshed net places old new some.0 list cause a some.1;
      held = λ m. ap (λ xs. at xs (at places (net.goes_to m))) (some.1.held m);
      either = either_refreshed net places old new some.0 list cause a some.1;
      changes = changes_refreshed net places old new some.0 list cause a some.1;
    }

pub returns-clause-fresh : goal.returns-clause-fresh
returns-clause-fresh c =
    let s = c.args.self.now in
    let net = net_in s in
    let places = s.places.items in
    let cause = causal s.log.now s.machine.now c.requires.field.valid in
    let a = c.requires.field.lines in
    let all = c.in_ok-refresh_all.ensures.all net places a in
    all_fresh net places s.lines.items c.refresh_all.new.lines.items (length s.lines.items) c.refresh_all.new.gathered.items cause a all (omega arith)
