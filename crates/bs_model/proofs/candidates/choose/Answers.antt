use Rattle.std.proofs.Common.{◌<◌, List, Option, Some, inl, length, slice_get, slice_set, refl, ap, sym, subst, ◌∙◌, arith}
use Rattle.std.proofs.lemmas.Option.{slice_get_read}
use Rattle.bs_log.specs.declared.history.History.{History}
use Rattle.bs_model.specs.declared.candidates.Best.{Best}
use Rattle.bs_model.specs.But.{HoldsBut}
use Rattle.bs_model.specs.Next.{IsBest, best_among, best_at}
use Rattle.bs_model.specs.Ready.{candidate_in}
use Rattle.bs_model.proofs.But.{but_rest}
use Rattle.bs_model.proofs.Places.{get_set_other, get_set_same}
use Rattle.bs_model.proofs.candidates.choose.Goals as goal

pub bounds-histories-chare : goal.bounds-histories-chare
bounds-histories-chare c =
    let k = c.in-Some.chare.now in
    let hs = c.args.histories.now in
    let but = subst (λ cs. HoldsBut cs (length hs) (best_at c.args.machine.now c.args.book.now hs c.loop-chare.agenda.bests.items)) c.in-Some.ensures.steps c.loop-chare.invariant.bests in
    but.within k (inl refl)

pub best_block-requires-clause-chare : goal.best_block-requires-clause-chare
best_block-requires-clause-chare c =
    let k = c.in-Some.chare.now in
    let hs = c.args.histories.now in
    let but = subst (λ cs. HoldsBut cs (length hs) (best_at c.args.machine.now c.args.book.now hs c.loop-chare.agenda.bests.items)) c.in-Some.ensures.steps c.loop-chare.invariant.bests in
    let low : k < length hs = but.within k (inl refl) in
    omega (arith, low, c.requires.chares)

pub best_at-requires-clause-chare : goal.best_at-requires-clause-chare
best_at-requires-clause-chare c =
    let k = c.in-Some.chare.now in
    let hs = c.args.histories.now in
    let but = subst (λ cs. HoldsBut cs (length hs) (best_at c.args.machine.now c.args.book.now hs c.loop-chare.agenda.bests.items)) c.in-Some.ensures.steps c.loop-chare.invariant.bests in
    let low : k < length hs = but.within k (inl refl) in
    omega (arith, low, c.requires.chares)

pub loop-chare-preserved : goal.loop-chare-preserved
loop-chare-preserved c =
    let m = c.args.machine.now in
    let book = c.args.book.now in
    let hs = c.args.histories.now in
    let k = c.in-Some.chare.now in
    let rest = c.next.new.self in
    let bests = c.loop-chare.agenda.bests.items in
    let best = c.in_ok-best.best in
    let but = subst (λ cs. HoldsBut cs (length hs) (best_at m book hs bests)) c.in-Some.ensures.steps c.loop-chare.invariant.bests in
    let low : k < length hs = but.within k (inl refl) in
    let count = c.loop-chare.invariant.agenda.bests in
    let here = get_set_same bests k best (omega (arith, low, count, c.requires.chares)) in
    let its_best : best_among m book k (slice_get hs k) (Some best) =
    subst (λ (o : Option History). best_among m book k o (Some best)) (sym (slice_get_read hs _ k c.index-histories-chare.result refl low c.index-histories-chare.is))
    (subst (λ xs. IsBest (candidate_in m book k) xs best) (c.as_slice-blocks.ensures ∙ ap (λ (h : History). h.blocks) (sym c.index-histories-chare.is)) c.in_ok-best.ensures) in
    record {
      bests = subst (λ (bests : List (Option Best)). HoldsBut rest (length hs) (best_at m book hs bests)) (sym c.in_ok-best_at.ensures.bests)
          (but_rest k rest (length hs) (best_at m book hs bests) (best_at m book hs (slice_set bests k best)) but
          (λ d other p. subst (λ (o : Option (Option Best)). best_among m book d (slice_get hs d) o) (sym (get_set_other bests k d best other)) p)
          (subst (λ (o : Option (Option Best)). best_among m book k (slice_get hs k) o) (sym here) its_best));
      ends = c.in_ok-best_at.ensures.ends ∙ c.loop-chare.invariant.ends;
      agenda = c.in_ok-best_at.ensures.agenda;
    }
