use Rattle.std.proofs.Common.{◌-◌, Some, refl, arith, ap, sym, ◌∙◌}
use Rattle.bs_floor.proofs.AtWords.{had_cell}
use Rattle.bs_floor.proofs.WholeCalls.{is_free, rests_after_look, held_after_post, held_value, same_after_held}
use Rattle.bs_floor.proofs.floor.Floor.post.Goals as goal

pub overflow_cast-by : goal.overflow_cast-by
overflow_cast-by g c =
    let missed = c.take-found.ensures.missed (c.take-found.result - 1) (omega arith) in
    let v = c.self.invariant in
    let small = missed.small in
    omega (arith, v)

pub invariant_of-seat : goal.invariant_of-seat
invariant_of-seat g c = rests_after_look g.S.Station _ _ _ _ _ _ _ c.seat.invariant (c.take-found.ensures.missed (c.take-found.result - 1) (omega arith))

pub returns-then-found-ne0-clause-err : goal.returns-then-found-ne0-clause-err
returns-then-found-ne0-clause-err g c = (refl, held_value g.S.Station _ c.args.self.now (ap (λ f. f.1) c.self.view_is) _ _ _ _ _ _ _ _ _ c.seat.view_is c.take-found.ensures.own.0 c.seat.invariant (c.take-found.ensures.missed (c.take-found.result - 1) (omega arith)))

pub post_held-answer-requires-clause-held : goal.post_held-answer-requires-clause-held
post_held-answer-requires-clause-held g c =
    let h = had_cell g.S.Station _ _ _ _ _ (is_free g.S.Station _ _ _ c.seat.inside.seat.me (ap (λ s. s.1.setup) c.seat.view_is ∙ c.requires.seat.1 ∙ ap (λ f. Some f.1) (sym c.self.view_is)) c.seat.invariant) (c.take-found.ensures.got c.if-found-ne0.false) in
    (h.0, h.1)

pub put-requires-clause-held : goal.put-requires-clause-held
put-requires-clause-held g c =
    let h = had_cell g.S.Station _ _ _ _ _ (is_free g.S.Station _ _ _ c.seat.inside.seat.me (ap (λ s. s.1.setup) c.seat.view_is ∙ c.requires.seat.1 ∙ ap (λ f. Some f.1) (sym c.self.view_is)) c.seat.invariant) (c.take-found.ensures.got c.if-found-ne0.false) in
    held_after_post g.S.Station _ _ c.args.item _ _ _ c.post_held-answer.result c.post_held-answer.ensures.ok c.post_held-answer.ensures.err h.0

pub returns-then-found-ne0-clause-same : goal.returns-then-found-ne0-clause-same
returns-then-found-ne0-clause-same g c = same_after_held _ _ _ _ _ (returns-then-found-ne0-clause-err g c).1 c.requires.seat
