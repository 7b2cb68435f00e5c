use Rattle.std.proofs.Common.{◌≡◌, ◌<◌, ◌+◌, ◌^◌, ◌∙◌, [], ◌∷◌, length, map, replicate, ap, sym, subst, rules}
use Rattle.std.proofs.lemmas.List.{length-map, length-replicate}
use Rattle.bs_times.specs.Net.{Net}
use Rattle.bs_schedule.specs.Plan.{at}
use Rattle.bs_line.specs.declared.layout.Out.{Out}
use Rattle.bs_rows.specs.Rows.{net_on}
use Rattle.bs_line.specs.Layout.{ComesTo, GoesFrom, local_causes, out_of, slots_of}
use Rattle.bs_line.specs.Making.{AreRowsOn, mails_of, ticks_of}
use Rattle.bs_line.specs.Places.{AreMails, differing}
use Rattle.bs_line.proofs.Counted.{differing_self}
use Rattle.bs_line.proofs.Parts.{are_rows, as_many, outs_mails, ticks_early}
use Rattle.bs_line.proofs.line.Line.of_rows.Goals as goal

pub new-requires : goal.new-requires
new-requires c =
    let log = c.args.log.now in
    let m = c.args.machine.now in
    let rows : AreRowsOn (net_on log m) c.args.rows = record { processor = c.args.processor; those = c.requires.rows } in
    let homes : c.in_ok-homes.homes ≡ 0 ∷ map (λ i. 0) c.args.rows = rw c.as_slice.ensures at c.in_ok-homes.ensures in
    let times : c.in_ok-times.times ≡ 0 ∷ map (net_on log m).duration c.args.rows = rw c.as_slice-2.ensures at c.in_ok-times.ensures in
    let causes : c.in_ok-causes.causes ≡ [] ∷ map (local_causes (net_on log m) c.args.rows) c.args.rows = rw c.as_slice-3.ensures at c.in_ok-causes.ensures in
    rw (homes, times, causes) (are_rows log m c.requires.valid c.args.rows rows)

pub slots-requires-clause-coming : goal.slots-requires-clause-coming
slots-requires-clause-coming c =
    let mails : c.as_slice-5.result.now ≡ mails_of c.args.comes.now = c.as_slice-5.ensures ∙ c.in_ok-mails.ensures in
    rw (c.as_slice-4.ensures, mails) (c.args.machine.now, record { processor = c.args.processor; those = c.requires.rows; comes = c.requires.comes })

pub returns-clause-sends : goal.returns-clause-sends
returns-clause-sends c = ap (map (λ (o : Out). o.mail)) c.in_ok-outs.ensures ∙ outs_mails (net_on c.args.log.now c.args.machine.now) c.as_slice-6.result.now (mails_of c.args.goes.now)

pub returns-clause-ready : goal.returns-clause-ready
returns-clause-ready c =
    let log = c.args.log.now in
    let m = c.args.machine.now in
    let net : Net = net_on log m in
    let homes : c.in_ok-homes.homes ≡ 0 ∷ map (λ i. 0) c.args.rows = rw c.as_slice.ensures at c.in_ok-homes.ensures in
    let times : c.in_ok-times.times ≡ 0 ∷ map net.duration c.args.rows = rw c.as_slice-2.ensures at c.in_ok-times.ensures in
    let causes : c.in_ok-causes.causes ≡ [] ∷ map (local_causes net c.args.rows) c.args.rows = rw c.as_slice-3.ensures at c.in_ok-causes.ensures in
    let slots : c.in_ok-slots.slots ≡ [] ∷ map (slots_of net c.in_ok-mails.mails) c.args.rows = rw (c.as_slice-4.ensures, c.as_slice-5.ensures) at c.in_ok-slots.ensures in
    let outs : c.in_ok-outs.outs ≡ map (out_of net c.args.rows) (mails_of c.args.goes.now) = rw c.as_slice-6.ensures at c.in_ok-outs.ensures in
    let sends : map (λ (o : Out). o.mail) c.in_ok-outs.outs ≡ mails_of c.args.goes.now = ap (map (λ (o : Out). o.mail)) outs ∙ outs_mails net c.args.rows (mails_of c.args.goes.now) in
    let held : c.in_ok-held.held.items ≡ ticks_of c.args.comes.now = c.in_ok-held.ensures in
    let used : c.in_ok-used.used.items ≡ ticks_of c.args.comes.now = c.in_ok-used.ensures in
    let starts : c.in_ok-starts.starts.items ≡ replicate (length c.as_slice-7.result.now + 1) 0 = c.in_ok-starts.ensures.items_if_clones_equal (search rules) in
    let begins : length c.in_ok-starts.starts.items ≡ length c.as_slice-7.result.now + 1 = ap length starts ∙ length-replicate (length c.as_slice-7.result.now + 1) 0 in
    record {
      valid = c.requires.valid;
      fitted = c.requires.fitted;
      layout = record {
        rows = c.requires.rows;
        plan = record {
          is_plan = c.in_ok-plan.ensures.plan;
          homes = c.in_ok-plan.ensures.homes ∙ homes;
          times = c.in_ok-plan.ensures.times ∙ times;
          causes = c.in_ok-plan.ensures.causes ∙ causes;
        };
        comes = subst (AreMails (ComesTo net c.args.processor)) (sym c.in_ok-mails.ensures) c.requires.comes;
        slots = slots;
        goes = subst (AreMails (GoesFrom net c.args.processor)) (sym sends) c.requires.goes;
        outs = outs ∙ ap (map (out_of net c.args.rows)) (sym sends);
      };
      held_length = ap length held ∙ as_many c.args.comes.now ∙ sym (ap length c.in_ok-mails.ensures);
      used_length = ap length used ∙ as_many c.args.comes.now ∙ sym (ap length c.in_ok-mails.ensures);
      given_length = ap length c.in_ok-given.ensures ∙ as_many c.args.goes.now ∙ sym (ap length sends) ∙ length-map c.in_ok-outs.outs (λ (o : Out). o.mail);
      starts_length = begins ∙ ap (λ xs. length xs + 1) c.as_slice-7.ensures;
      early = λ i. subst (λ xs. at xs i < 2 ^ 110) (sym held) (ticks_early c.args.comes.now c.requires.early i);
      changed = sym (ap (differing c.in_ok-held.held.items) (used ∙ sym held) ∙ differing_self c.in_ok-held.held.items);
    }
