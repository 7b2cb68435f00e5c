use Rattle.std.proofs.Common.{◌∙◌, ap, arith}
use Rattle.bs_check.specs.Touches.{after_parts, size}
use Rattle.bs_check.proofs.Clashes.{shared_is}
use Rattle.bs_check.proofs.interference.interference.Goals as goal

pub returns-clause-rule : goal.returns-clause-rule
returns-clause-rule c =
    let start = c.start.ensures in
    c.first_shared.ensures ∙ shared_is c.note_parts.new.touches (size c.args.touches.now) c.args.vars.now c.args.parts.now c.requires.names
    (λ name l. c.note_parts.ensures.parts name (omega (arith, l, start.size)) ∙ ap (after_parts name 0 c.args.parts.now) (start.nothing name)) 0

pub first_shared-requires-clause-flagged : goal.first_shared-requires-clause-flagged
first_shared-requires-clause-flagged c = c.note_parts.ensures.follows.flagged c.start.ensures.flagged
