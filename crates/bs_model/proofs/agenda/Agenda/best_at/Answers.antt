use Rattle.std.proofs.Common.{◌≡◌, ◌<◌, ℕ, Option, length, slice_get, slice_set, get_or, Some, refl, sym, ap, subst, ◌∙◌, arith}
use Rattle.std.proofs.lemmas.List.{length-set, get_or-set_same}
use Rattle.std.proofs.lemmas.Option.{slice_get_read}
use Rattle.std.proofs.lemmas.Result.{on_ok_weaker}
use Rattle.std.specs.Vec.{with_item}
use Rattle.bs_model.specs.Agenda.{IsAgenda, ready_of, start_of}
use Rattle.bs_model.specs.Line.{IsChanged, IsFirst, IsLine, first_of}
use Rattle.bs_model.proofs.Agendas.{best_put, one_item, read}
use Rattle.bs_model.proofs.agenda.Agenda.best_at.Goals as goal

pub returns-clause-agenda : goal.returns-clause-agenda
returns-clause-agenda c =
    let m = c.args.machine.now in
    let a = c.args.self.now in
    let is = c.requires.agenda in
    let d = c.args.chare in
    let best = c.args.best in
    let q = c.home-processor.result in
    let new = c.change.new.self in
    let turns = c.change-2.new.self in
    let lines = a.lines.items in
    let line = c.index.result.now in
    let below = c.home-processor.ensures.below in
    let ends_count = is.ends in
    let lines_count = is.count in
    let bests_count = is.bests in
    let chare_low = c.requires.chare in
    let in_ends : q < length a.ends.items = omega (arith, below, ends_count) in
    let in_lines : q < length lines = omega (arith, below, lines_count) in
    let in_bests : d < length a.bests.items = omega (arith, chare_low, bests_count) in
    let here : slice_get lines q ≡ Some line = slice_get_read lines _ q line refl in_lines c.index.ensures in
    let at : slice_get a.bests.items d ≡ Some c.index-2.result.now = slice_get_read a.bests.items _ d c.index-2.result.now refl in_bests c.index-2.ensures in
    let last : c.index-end.result.now ≡ get_or a.ends.items q 0 = read a.ends.items q c.index-end.result.now 0 in_ends c.index-end.ensures in
    let same : c.index_mut-2.result.now ≡ line = one_item lines q c.index_mut-2.result.now line in_lines c.index_mut-2.ensures.value c.index.ensures in
    let in_new : q < length (slice_set lines q new) = let k = length-set lines q new in omega (arith, in_lines, k) in
    let taken : c.index-3.result.now ≡ new = one_item (slice_set lines q new) q c.index-3.result.now new in_new c.index-3.ensures (sym (get_or-set_same lines q new new in_lines)) in
    let before : c.start-before.result ≡ start_of (get_or a.ends.items q 0) (first_of line) = c.start-before.ensures.value ∙ ap (λ e. start_of e (first_of line)) last in
    let after : c.start-after.result ≡ start_of (get_or a.ends.items q 0) (first_of new) = c.start-after.ensures.value ∙ (λ i. start_of (last i) (first_of (taken i))) in
    let put : (f g : ℕ → Option ℕ) → IsLine f line → f d ≡ ready_of c.index-2.result.now → IsChanged f g d (ready_of best) → IsLine g new =
    λ f g keys is_old to. c.in_ok-change.ensures f g (subst (λ l. IsLine f l) (sym same) keys) (is_old ∙ sym c.ready-old.ensures) (subst (IsChanged f g d) (sym c.ready.ensures) to) in
    let follows : ((f g : ℕ → Option ℕ) → IsLine f a.turns → f q ≡ c.start-before.result → IsChanged f g q c.start-after.result → IsLine g turns)
    → IsAgenda m (record { ends = a.ends; bests = with_item a.bests d best; lines = with_item a.lines q new; turns = turns }) =
    λ h. best_put m a is d q (sym c.home-processor.ensures.value) c.index-2.result.now best at line new turns here put (λ f keys. subst (λ l. IsFirst f (first_of l)) taken (c.start-after.ensures.first f (subst (IsLine f) (sym taken) keys)))
    (λ f g keys is_before to. h f g keys (is_before ∙ sym before) (subst (IsChanged f g q) (sym after) to)) in
    on_ok_weaker _ follows c.change-2.ensures
