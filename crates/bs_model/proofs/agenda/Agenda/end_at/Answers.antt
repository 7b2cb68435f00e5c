use Rattle.std.proofs.Common.{◌≡◌, ◌<◌, ℕ, Option, length, slice_get, get_or, Some, refl, sym, ap, subst, ◌∙◌, arith}
use Rattle.std.proofs.lemmas.Option.{slice_get_read}
use Rattle.std.proofs.lemmas.Result.{on_ok_weaker}
use Rattle.std.specs.Vec.{with_item}
use Rattle.bs_machine.specs.declared.fitted.Fitted.{Fitted}
use Rattle.bs_model.specs.Agenda.{IsAgenda, start_of}
use Rattle.bs_model.specs.Line.{IsChanged, IsLine, first_of}
use Rattle.bs_model.proofs.Agendas.{end_put, one_item, read}
use Rattle.bs_model.proofs.agenda.Agenda.end_at.Goals as goal

pub returns-clause-agenda : goal.returns-clause-agenda
returns-clause-agenda c =
    let a = c.args.self.now in
    let q = c.args.processor in
    let end = c.args.end in
    let turns = c.change.new.self in
    let line = c.index.result.now in
    let low = c.requires.processor in
    let ends_count = c.requires.agenda.1.ends in
    let lines_count = c.requires.agenda.1.count in
    let in_lines : q < length a.lines.items = omega (arith, low, ends_count, lines_count) in
    let here : slice_get a.lines.items q ≡ Some line = slice_get_read a.lines.items _ q line refl in_lines c.index.ensures in
    let last : c.index-2.result.now ≡ get_or a.ends.items q 0 = read a.ends.items q c.index-2.result.now 0 low c.index-2.ensures in
    let same : c.index-3.result.now ≡ line = one_item a.lines.items q c.index-3.result.now line in_lines c.index-3.ensures c.index.ensures in
    let before : c.start-before.result ≡ start_of (get_or a.ends.items q 0) (first_of line) = c.start-before.ensures.value ∙ ap (λ e. start_of e (first_of line)) last in
    let after : c.start-after.result ≡ start_of end (first_of line) = c.start-after.ensures.value ∙ ap (λ l. start_of end (first_of l)) same in
    let follows : ((f g : ℕ → Option ℕ) → IsLine f a.turns → f q ≡ c.start-before.result → IsChanged f g q c.start-after.result → IsLine g turns)
    → (m : Fitted) → IsAgenda m a → IsAgenda m (record { ends = with_item a.ends q end; bests = a.bests; lines = a.lines; turns = turns }) =
    λ h m is. end_put m a is q end line turns low here (λ f g keys at to. h f g keys (at ∙ sym before) (subst (IsChanged f g q) (sym after) to)) in
    on_ok_weaker _ follows c.change.ensures
