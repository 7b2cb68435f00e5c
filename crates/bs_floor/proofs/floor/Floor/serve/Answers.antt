use Rattle.std.proofs.Common.{◌-◌, Some, rules, arith, ap, sym, ◌∙◌}
use Rattle.bs_floor.proofs.AtWords.{had_cell}
use Rattle.bs_floor.proofs.WholeCalls.{is_free, rests_after_look, held_after_serve, held_value, same_after_held, serve_ok, serve_fits, serve_err, rests_after_serve, same_after_serve}
use Rattle.bs_floor.proofs.floor.Floor.serve.Goals as goal

pub overflow_cast-by : goal.overflow_cast-by
overflow_cast-by g c =
    let missed = c.take-found.ensures.missed (c.take-found.result - 1) (omega arith) in
    let v = c.self.invariant in
    let small = missed.small in
    omega (arith, v)

pub invariant_of-seat : goal.invariant_of-seat
invariant_of-seat g c = rests_after_look g.S.Station _ _ _ _ _ _ _ c.seat.invariant (c.take-found.ensures.missed (c.take-found.result - 1) (omega arith))

pub returns-then-found-ne0-clause-err : goal.returns-then-found-ne0-clause-err
returns-then-found-ne0-clause-err g c = held_value g.S.Station _ c.args.self.now (ap (λ f. f.1) c.self.view_is) _ _ _ _ _ _ _ _ _ c.seat.view_is c.take-found.ensures.own.0 c.seat.invariant (c.take-found.ensures.missed (c.take-found.result - 1) (omega arith))

pub serve_held-answer-requires-clause-held : goal.serve_held-answer-requires-clause-held
serve_held-answer-requires-clause-held g c =
    let h = had_cell g.S.Station _ _ _ _ _ (is_free g.S.Station _ _ _ c.seat.inside.seat.me (ap (λ s. s.1.setup) c.seat.view_is ∙ c.requires.seat.1 ∙ ap (λ f. Some f.1) (sym c.self.view_is)) c.seat.invariant) (c.take-found.ensures.got c.if-found-ne0.false) in
    (h.0, h.1)

pub put-requires-clause-held : goal.put-requires-clause-held
put-requires-clause-held g c =
    let h = had_cell g.S.Station _ _ _ _ _ (is_free g.S.Station _ _ _ c.seat.inside.seat.me (ap (λ s. s.1.setup) c.seat.view_is ∙ c.requires.seat.1 ∙ ap (λ f. Some f.1) (sym c.self.view_is)) c.seat.invariant) (c.take-found.ensures.got c.if-found-ne0.false) in
    held_after_serve g.S.Station _ _ _ _ c.serve_held-answer.result c.serve_held-answer.ensures.ok c.serve_held-answer.ensures.err h.0

pub invariant_of-seat-2 : goal.invariant_of-seat-2
invariant_of-seat-2 g c = rests_after_serve g.S.Station _ c.args.self.now (ap (λ f. f.1) c.self.view_is) _ _ _ _ _ _ _ _ _ _ c.seat.view_is (c.put.ensures.own.0 ∙ c.serve_held-answer.ensures.own.0 ∙ c.take-found.ensures.own.0) (ap (λ s. s.1.setup) c.seat.view_is ∙ c.requires.seat.1 ∙ ap (λ f. Some f.1) (sym c.self.view_is)) c.seat.invariant (c.take-found.ensures.got c.if-found-ne0.false) c.put.ensures.free c.serve_held-answer.result c.serve_held-answer.ensures.ok c.serve_held-answer.ensures.err

pub returns-clause-ok : goal.returns-clause-ok
returns-clause-ok g c = serve_ok g.S.Station _ c.args.self.now (ap (λ f. f.1) c.self.view_is) _ _ _ _ _ _ _ _ _ _ c.seat.view_is (c.put.ensures.own.0 ∙ c.serve_held-answer.ensures.own.0 ∙ c.take-found.ensures.own.0) (ap (λ s. s.1.setup) c.seat.view_is ∙ c.requires.seat.1 ∙ ap (λ f. Some f.1) (sym c.self.view_is)) c.seat.invariant (c.take-found.ensures.got c.if-found-ne0.false) c.put.ensures.free c.serve_held-answer.result c.serve_held-answer.ensures.ok

pub returns-clause-fitting : goal.returns-clause-fitting
returns-clause-fitting g c =
    let v = c.self.invariant in
    serve_fits g.S.Station _ c.args.self.now (ap (λ f. f.1) c.self.view_is) _ _ _ _ _ _ _ _ _ _ c.seat.view_is (c.put.ensures.own.0 ∙ c.serve_held-answer.ensures.own.0 ∙ c.take-found.ensures.own.0) (ap (λ s. s.1.setup) c.seat.view_is ∙ c.requires.seat.1 ∙ ap (λ f. Some f.1) (sym c.self.view_is)) c.seat.invariant (c.take-found.ensures.got c.if-found-ne0.false) c.put.ensures.free g.met.S.Station.sends_fit _ (v.8 ∙ v.1 ∙ ap (λ f. Rattle.std.proofs.Common.length f.1.stations.value.items) c.self.view_is) c.serve_held-answer.result c.serve_held-answer.ensures.ok

pub returns-clause-err : goal.returns-clause-err
returns-clause-err g c = serve_err g.S.Station _ c.args.self.now (ap (λ f. f.1) c.self.view_is) _ _ _ _ _ _ _ _ _ _ c.seat.view_is (c.put.ensures.own.0 ∙ c.serve_held-answer.ensures.own.0 ∙ c.take-found.ensures.own.0) (ap (λ s. s.1.setup) c.seat.view_is ∙ c.requires.seat.1 ∙ ap (λ f. Some f.1) (sym c.self.view_is)) c.seat.invariant (c.take-found.ensures.got c.if-found-ne0.false) c.put.ensures.free c.serve_held-answer.result c.serve_held-answer.ensures.err

pub returns-clause-same : goal.returns-clause-same
returns-clause-same g c = same_after_serve _ _ _ _ c.serve_held-answer.result (returns-clause-ok g c) (returns-clause-err g c) c.requires.seat

pub returns-then-found-ne0-clause-same : goal.returns-then-found-ne0-clause-same
returns-then-found-ne0-clause-same g c = same_after_held _ _ _ _ _ (returns-then-found-ne0-clause-err g c) c.requires.seat
