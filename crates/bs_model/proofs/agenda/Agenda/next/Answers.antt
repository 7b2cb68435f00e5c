use Rattle.std.proofs.Common.{◌≡◌, Some, None, slice_get, refl, sym, ap, subst, ◌∙◌, arith}
use Rattle.std.proofs.lemmas.Option.{slice_get_read, slice_get_within}
use Rattle.bs_model.specs.Agenda.{turn_at}
use Rattle.bs_model.specs.Next.{IsLeast}
use Rattle.bs_model.proofs.Agendas.{its_best, next_is, none_next, turn_is, turned}
use Rattle.bs_model.proofs.agenda.Agenda.next.Goals as goal

pub returns-in_err-start : goal.returns-in_err-start
returns-in_err-start c = λ m is.
    let a = c.args.self.now in
    subst (IsLeast m a.ends.items a.bests.items) (sym c.from_residual.ensures) (none_next m a is (c.in_err-start.ensures.first (turn_at a.ends.items a.lines.items) is.turns))

pub index-requires : goal.index-requires
index-requires c =
    let a = c.args.self.now in
    let m = c.requires.0 in
    let is = c.requires.1 in
    let turn = c.in_ok-start.ensures.first (turn_at a.ends.items a.lines.items) is.turns in
    let low = turned m a is c.in_ok-start.processor c.in_ok-start.start turn.is in
    omega (arith, low, a.lines.ok.0)

pub returns-in_err-chare : goal.returns-in_err-chare
returns-in_err-chare c = λ m is.
    let a = c.args.self.now in
    let q = c.in_ok-start.processor in
    let start = c.in_ok-start.start in
    let turn = c.in_ok-start.ensures.first (turn_at a.ends.items a.lines.items) is.turns in
    let line = c.index.result.now in
    let here : slice_get a.lines.items q ≡ Some line = slice_get_read a.lines.items _ q line refl (turned m a is q start turn.is) c.index.ensures in
    let none = turn_is m a is q start line None turn.is here c.in_err-chare.ensures.value in
    absurd (cc)

pub index-requires-2 : goal.index-requires-2
index-requires-2 c =
    let a = c.args.self.now in
    let m = c.requires.0 in
    let is = c.requires.1 in
    let q = c.in_ok-start.processor in
    let start = c.in_ok-start.start in
    let turn = c.in_ok-start.ensures.first (turn_at a.ends.items a.lines.items) is.turns in
    let line = c.index.result.now in
    let here : slice_get a.lines.items q ≡ Some line = slice_get_read a.lines.items _ q line refl (turned m a is q start turn.is) c.index.ensures in
    let best = its_best m a is start q turn line here c.in_ok-chare.field-0-0 c.in_ok-chare.chare c.in_ok-chare.ensures.value in
    let low = slice_get_within a.bests.items c.in_ok-chare.chare (Some best.best) best.found in
    omega (arith, low, a.bests.ok.0)

pub returns-in_err-best : goal.returns-in_err-best
returns-in_err-best c = λ m is.
    let a = c.args.self.now in
    let q = c.in_ok-start.processor in
    let start = c.in_ok-start.start in
    let turn = c.in_ok-start.ensures.first (turn_at a.ends.items a.lines.items) is.turns in
    let line = c.index.result.now in
    let here : slice_get a.lines.items q ≡ Some line = slice_get_read a.lines.items _ q line refl (turned m a is q start turn.is) c.index.ensures in
    let best = its_best m a is start q turn line here c.in_ok-chare.field-0-0 c.in_ok-chare.chare c.in_ok-chare.ensures.value in
    let low = slice_get_within a.bests.items c.in_ok-chare.chare (Some best.best) best.found in
    let at = slice_get_read a.bests.items _ c.in_ok-chare.chare c.index-2.result.now refl low c.index-2.ensures in
    let found = best.found in
    let none = c.in_err-best.was in
    absurd (cc)

pub returns : goal.returns
returns c = λ m is.
    let a = c.args.self.now in
    let q = c.in_ok-start.processor in
    let start = c.in_ok-start.start in
    let turn = c.in_ok-start.ensures.first (turn_at a.ends.items a.lines.items) is.turns in
    let line = c.index.result.now in
    let here : slice_get a.lines.items q ≡ Some line = slice_get_read a.lines.items _ q line refl (turned m a is q start turn.is) c.index.ensures in
    let best = its_best m a is start q turn line here c.in_ok-chare.field-0-0 c.in_ok-chare.chare c.in_ok-chare.ensures.value in
    let low = slice_get_within a.bests.items c.in_ok-chare.chare (Some best.best) best.found in
    let at = slice_get_read a.bests.items _ c.in_ok-chare.chare c.index-2.result.now refl low c.index-2.ensures in
    next_is m a is start q turn line here c.in_ok-chare.field-0-0 c.in_ok-chare.chare c.in_ok-chare.ensures.value c.in_ok-best.best (at ∙ ap (λ b. Some b) c.in_ok-best.was)
