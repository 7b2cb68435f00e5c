use Rattle.std.proofs.Common.{refl, sym, ◌∙◌}
use Rattle.bs_logread.proofs.Ends.{none_uncut, none_read, none_placed, first_line, stands}
use Rattle.bs_logread.proofs.Fields.{both}
use Rattle.bs_logread.proofs.reading.next_line.Goals as goal

pub returns-in_default-clause-err : goal.returns-in_default-clause-err
returns-in_default-clause-err c = (refl, none_uncut c.args.progress c.args.rest.now c.in_default.ensures)

pub returns-in_default-line_of-clause-err : goal.returns-in_default-line_of-clause-err
returns-in_default-line_of-clause-err c = (refl, none_read c.args.progress c.args.rest.now c.in-Some.text.now c.in-Some.others.now c.in-Some.ensures c.in_default-line_of.ensures)

pub returns-then-not-has_place-clause-err : goal.returns-then-not-has_place-clause-err
returns-then-not-has_place-clause-err c = (
  refl,
  none_placed c.args.progress c.args.rest.now c.in-Some-line_of.line c.in-Some.others.now
      (first_line c.args.rest.now c.in-Some.text.now c.in-Some.others.now c.in-Some-line_of.line c.in-Some.ensures c.in-Some-line_of.ensures) (sym c.has_place.ensures ∙ c.if-not-has_place.true),
)

pub returns-then-not-is_within-clause-err : goal.returns-then-not-is_within-clause-err
returns-then-not-is_within-clause-err c =
    let f = first_line c.args.rest.now c.in-Some.text.now c.in-Some.others.now c.in-Some-line_of.line c.in-Some.ensures c.in-Some-line_of.ensures in
    (refl, (c.in-Some-line_of.line, c.in-Some.others.now, f.is, stands c.args.progress c.in-Some-line_of.line f.range (sym c.has_place.ensures ∙ c.if-not-has_place.false), (sym c.is_within.ensures ∙ c.if-not-is_within.true)))

pub returns-clause-ok : goal.returns-clause-ok
returns-clause-ok c =
    let f = first_line c.args.rest.now c.in-Some.text.now c.in-Some.others.now c.in-Some-line_of.line c.in-Some.ensures c.in-Some-line_of.ensures in
    (f.is, both (stands c.args.progress c.in-Some-line_of.line f.range (sym c.has_place.ensures ∙ c.if-not-has_place.false)) (sym c.is_within.ensures ∙ c.if-not-is_within.false))
