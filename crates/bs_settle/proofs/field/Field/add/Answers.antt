use Rattle.std.proofs.Common.{◌≡◌, ◌++◌, ◌∙◌, ◌∷◌, [], inr, length, ap, subst, arith, rules}
use Rattle.std.proofs.lemmas.Grind.{common_steps}
use Rattle.bs_log.specs.Lists.{Mem}
use Rattle.bs_times.specs.Times.{HasLine}
use Rattle.bs_settle.specs.Field.{net_in}
use Rattle.bs_settle.specs.Making.{IsMade}
use Rattle.bs_rows.specs.Rows.{net_on}
use Rattle.bs_settle.proofs.Added.{some_row}
use Rattle.bs_settle.proofs.field.Field.add.Goals as goal

pub of_rows-requires-clause-early : goal.of_rows-requires-clause-early
of_rows-requires-clause-early c e m = c.requires.share.early e (subst (λ es. Mem e es) c.as_slice-comes.ensures m)

pub returns-clause-adds : goal.returns-clause-adds
returns-clause-adds c =
    let s = c.args.self.now in
    let did = c.in_ok-line.ensures in
    let pushed : c.push.new.self.items ≡ s.places.items ++ length s.lines.items ∷ [] = search rules in
    let empty : length c.args.share.now.rows ≡ 0 → ⊥ = grind (arith, common_steps) in
    let row = some_row c.args.share.now.rows empty in
    let has : HasLine (net_in s) c.args.processor = (row.0, (c.requires.share.rows.all row.0).1 row.1) in
    let made : IsMade (net_in s) c.args.processor c.args.share.now c.in_ok-line.line = record {
      ready = did.ready;
      same = λ i. net_on (did.log i) (did.machine i);
      processor = did.processor;
      mails = search rules;
      sends = search rules;
      held = search rules;
      given = search rules;
      begun = did.begun;
    } in
    record {
      places = ap (λ v. v.items) c.keep.ensures.places ∙ pushed;
      line = inr (c.in_ok-line.line, c.in_ok-keep.ensures.lines, made, has);
    }
