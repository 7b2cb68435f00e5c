use Rattle.std.proofs.Common.{◌≡◌, ◌≤◌, ◌<◌, ◌∷◌, ℕ, Some, inl, set as list_set, get_or, length, slice_get, refl, ap, sym, subst, ◌∙◌, arith}
use Rattle.std.proofs.lemmas.List.{length-set}
use Rattle.std.proofs.lemmas.Result.{err_from_is_err_and}
use Rattle.bs_log.specs.Size.{size}
use Rattle.bs_semantics.specs.Run.{Lookup, history}
use Rattle.bs_match.specs.Mail.{lookup}
use Rattle.bs_model.specs.But.{HoldsBut}
use Rattle.bs_model.specs.Mails.{history_at}
use Rattle.bs_model.proofs.But.{but_rest}
use Rattle.bs_model.proofs.Delivery.{mail_here}
use Rattle.bs_model.proofs.Denying.{denies_also}
use Rattle.bs_model.proofs.Places.{get_set_other, get_set_same}
use Rattle.bs_model.proofs.Sizing.{low_all, low_one, low_set, size_at, size_set}
use Rattle.bs_model.proofs.mails.renew.Goals as goal

pub loop-chare-init : goal.loop-chare-init
loop-chare-init c =
    let iterated = c.into_iter-chare-iterator.ensures.into_iter_gives.0 in
    let P = λ (c' : ℕ). slice_get c.args.histories.now c' ≡ history_at c.args.accepted.now.program c.args.limit c.args.mails.now c' in
    record {
      count = c.requires.lengths;
      histories = subst (λ cs. HoldsBut cs (length c.args.mails.now) P) (sym iterated) c.requires.kept;
      together = c.requires.size.is;
      low = low_one c.args.histories.now c.args.limit c.requires.limit (omega (arith, c.requires.size.is, c.requires.size.most));
    }

pub bounds-mails-place : goal.bounds-mails-place
bounds-mails-place c =
    let P = λ (c' : ℕ). slice_get c.loop-chare.histories c' ≡ history_at c.args.accepted.now.program c.args.limit c.args.mails.now c' in
    (subst (λ cs. HoldsBut cs (length c.args.mails.now) P) c.in-Some.ensures.steps c.loop-chare.invariant.histories).within c.in-Some.chare.now (inl refl)

pub take-requires-clause-chare : goal.take-requires-clause-chare
take-requires-clause-chare c =
    let P = λ (c' : ℕ). slice_get c.loop-chare.histories c' ≡ history_at c.args.accepted.now.program c.args.limit c.args.mails.now c' in
    let lt : c.in-Some.chare.now < length c.args.mails.now = (subst (λ cs. HoldsBut cs (length c.args.mails.now) P) c.in-Some.ensures.steps c.loop-chare.invariant.histories).within c.in-Some.chare.now (inl refl) in
    omega (arith, lt, c.requires.chares)

pub take-requires-clause-shallow : goal.take-requires-clause-shallow
take-requires-clause-shallow c =
    let P = λ (c' : ℕ). slice_get c.loop-chare.histories c' ≡ history_at c.args.accepted.now.program c.args.limit c.args.mails.now c' in
    let k = c.in-Some.chare.now in
    let lt : k < length c.args.mails.now = (subst (λ cs. HoldsBut cs (length c.args.mails.now) P) c.in-Some.ensures.steps c.loop-chare.invariant.histories).within k (inl refl) in
    let same = mail_here c.args.mails.now k c.index-mails-place.result lt ∙ ap lookup (sym c.index-mails-place.is) in
    λ key m e. c.requires.shallow k key m (ap (λ (l : Lookup). l key) same ∙ e)

pub returns-in_err-taken-clause-stopped : goal.returns-in_err-taken-clause-stopped
returns-in_err-taken-clause-stopped c =
    let P = λ (c' : ℕ). slice_get c.loop-chare.histories c' ≡ history_at c.args.accepted.now.program c.args.limit c.args.mails.now c' in
    let k = c.in-Some.chare.now in
    let lt : k < length c.args.mails.now = (subst (λ cs. HoldsBut cs (length c.args.mails.now) P) c.in-Some.ensures.steps c.loop-chare.invariant.histories).within k (inl refl) in
    let same = mail_here c.args.mails.now k c.index-mails-place.result lt ∙ ap lookup (sym c.index-mails-place.is) in
    let given = err_from_is_err_and c.from_residual.result c.from_residual.ensures.1 in
    rw (given.1, given.2)
    (denies_also _ _ (λ h. subst (λ (l : Lookup). size (history c.args.accepted.now.program c.args.limit k l) ≤ c.args.limit) same (h.each k lt)) c.in_err-taken.field-0.0 c.in_err-taken.ensures.stopped)

pub bounds-histories-place : goal.bounds-histories-place
bounds-histories-place c =
    let P = λ (c' : ℕ). slice_get c.loop-chare.histories c' ≡ history_at c.args.accepted.now.program c.args.limit c.args.mails.now c' in
    let lt : c.in-Some.chare.now < length c.args.mails.now = (subst (λ cs. HoldsBut cs (length c.args.mails.now) P) c.in-Some.ensures.steps c.loop-chare.invariant.histories).within c.in-Some.chare.now (inl refl) in
    omega (arith, lt, c.loop-chare.invariant.count)

pub overflow_sub-together : goal.overflow_sub-together
overflow_sub-together c =
    let P = λ (c' : ℕ). slice_get c.loop-chare.histories c' ≡ history_at c.args.accepted.now.program c.args.limit c.args.mails.now c' in
    let k = c.in-Some.chare.now in
    let hs = c.loop-chare.histories in
    let there = c.index-histories-place.result in
    let lt : k < length c.args.mails.now = (subst (λ cs. HoldsBut cs (length c.args.mails.now) P) c.in-Some.ensures.steps c.loop-chare.invariant.histories).within k (inl refl) in
    let in_hs : k < length hs = omega (arith, lt, c.loop-chare.invariant.count) in
    let at = size_at hs k there in_hs in
    let here : size there ≡ size (get_or hs k there) = ap size c.index-histories-place.is in
    omega (arith, at, here, c.size.ensures, c.loop-chare.invariant.together)

pub bounds-histories-place-in-loop-chare : goal.bounds-histories-place-in-loop-chare
bounds-histories-place-in-loop-chare c =
    let P = λ (c' : ℕ). slice_get c.loop-chare.histories c' ≡ history_at c.args.accepted.now.program c.args.limit c.args.mails.now c' in
    let lt : c.in-Some.chare.now < length c.args.mails.now = (subst (λ cs. HoldsBut cs (length c.args.mails.now) P) c.in-Some.ensures.steps c.loop-chare.invariant.histories).within c.in-Some.chare.now (inl refl) in
    omega (arith, lt, c.loop-chare.invariant.count)

pub overflow_add-together : goal.overflow_add-together
overflow_add-together c =
    let most = low_all c.loop-chare.histories c.loop-chare.invariant.low in
    let short = c.in_ok-taken.ensures.short in
    omega (arith, most, short, c.size-in-loop-chare.ensures, c.loop-chare.invariant.together, c.loop-chare.invariant.count, c.requires.chares, c.requires.limit)

pub loop-chare-preserved : goal.loop-chare-preserved
loop-chare-preserved c =
    let p = c.args.accepted.now.program in
    let limit = c.args.limit in
    let mails = c.args.mails.now in
    let k = c.in-Some.chare.now in
    let rest = c.next.new.self in
    let hs = c.loop-chare.histories in
    let inv = c.loop-chare.invariant in
    let taken = c.in_ok-taken.taken in
    let there = c.index-histories-place.result in
    let P = λ (c' : ℕ). slice_get hs c' ≡ history_at p limit mails c' in
    let but : HoldsBut (k ∷ rest) (length mails) P = subst (λ cs. HoldsBut cs (length mails) P) c.in-Some.ensures.steps inv.histories in
    let lt : k < length mails = but.within k (inl refl) in
    let in_hs : k < length hs = omega (arith, lt, inv.count) in
    let same = sym (mail_here mails k c.index-mails-place.result lt ∙ ap lookup (sym c.index-mails-place.is)) in
    let now : slice_get (list_set hs k taken) k ≡ history_at p limit mails k = get_set_same hs k taken in_hs ∙ ap (λ h. Some h) (c.in_ok-taken.ensures.taken ∙ ap (history p limit k) same) in
    let size_is = size_set hs k taken there in_hs in
    let at = size_at hs k there in_hs in
    let here : size there ≡ size (get_or hs k there) = ap size c.index-histories-place.is in
    let short = c.in_ok-taken.ensures.short in
    record {
      count = length-set hs k taken ∙ inv.count;
      histories = but_rest k rest (length mails) P (λ (c' : ℕ). slice_get (list_set hs k taken) c' ≡ history_at p limit mails c') but (λ d other e. get_set_other hs k d taken other ∙ e) now;
      together = omega (arith, size_is, at, here, short, c.size.ensures, c.size-in-loop-chare.ensures, inv.together, c.loop-chare.auto.together-fits, c.requires.limit);
      low = low_set hs k taken in_hs (omega (arith, short, c.requires.limit)) inv.low;
    }
