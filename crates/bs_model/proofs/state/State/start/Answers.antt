use Rattle.std.proofs.Common.{◌≡◌, ◌≤◌, ◌+◌, ◌^◌, List, ◌∷◌, length, slice_get, slice_set, refl, sym, ap, subst, ◌∙◌, arith}
use Rattle.std.specs.BTreeSet.{insert_key}
use Rattle.std.specs.Ordering.{nat_cmp}
use Rattle.std.proofs.lemmas.List.{with_items_is}
use Rattle.std.proofs.lemmas.Result.{err_from_is_err_and}
use Rattle.bs_log.specs.declared.history.Block.{Block}
use Rattle.bs_log.specs.declared.history.Message.{Message}
use Rattle.bs_log.specs.declared.history.History.{History}
use Rattle.bs_log.specs.Messages.{AreFor}
use Rattle.bs_machine.specs.Fitted.{home_of, duration_of}
use Rattle.bs_semantics.specs.Run.{history}
use Rattle.bs_semantics.specs.Rounds.{mail_to}
use Rattle.bs_semantics.specs.Serial.{messages}
use Rattle.bs_model.specs.Book.{keyed, put_key}
use Rattle.bs_model.specs.But.{HoldsBut}
use Rattle.bs_model.specs.Mails.{AreDelivered, AreHistories, AreKept, AreShallow, AreShort, CanDeliver, history_at}
use Rattle.bs_model.specs.Next.{AreBest, best_at}
use Rattle.bs_model.specs.State.{begun_of}
use Rattle.bs_model.proofs.Choosing.{home_is}
use Rattle.bs_model.proofs.Denying.{denies_also}
use Rattle.bs_model.proofs.Entries.{key_of}
use Rattle.bs_model.proofs.Places.{count_numbers}
use Rattle.bs_model.proofs.Following.{now, block_is, place_low, cost_now, start_early, processor_low, targets_now, delivers_now, short_now, histories_now, shallow_now, booked_now, bests_kept, follows_now}
use Rattle.bs_model.proofs.state.State.start.Goals as goal

pub block_at-block-requires : goal.block_at-block-requires
block_at-block-requires c =
    let p = c.args.accepted.now.program in
    let limit = c.args.limit in
    let m = c.args.machine.now in
    let small = c.requires.limit.1 in
    let same = c.requires.chares in
    let s = c.args.self in
    let nx = c.args.next in
    let least = c.requires.least in
    let bs = c.requires.follows.0 in
    let f = c.requires.follows.1 in
    let few = c.requires.follows.2 in
    place_low p limit m small same bs s f few nx least c.index.result.now c.index.ensures

pub begin-requires-clause-cost : goal.begin-requires-clause-cost
begin-requires-clause-cost c =
    let p = c.args.accepted.now.program in
    let limit = c.args.limit in
    let m = c.args.machine.now in
    let small = c.requires.limit.1 in
    let same = c.requires.chares in
    let s = c.args.self in
    let nx = c.args.next in
    let least = c.requires.least in
    let bs = c.requires.follows.0 in
    let f = c.requires.follows.1 in
    let few = c.requires.follows.2 in
    let x_is = block_is p limit m small same bs s f few nx least c.index.result.now c.block_at-block.result.now c.index.ensures c.block_at-block.ensures in
    subst (λ (x : Block). (1 ≤ x.cost) × (x.cost ≤ 2 ^ 32)) (sym x_is) (cost_now p limit m small same bs s f few nx least)

pub begin-requires-clause-early : goal.begin-requires-clause-early
begin-requires-clause-early c =
    let p = c.args.accepted.now.program in
    let limit = c.args.limit in
    let m = c.args.machine.now in
    let small = c.requires.limit.1 in
    let same = c.requires.chares in
    let s = c.args.self in
    let nx = c.args.next in
    let least = c.requires.least in
    let bs = c.requires.follows.0 in
    let f = c.requires.follows.1 in
    let few = c.requires.follows.2 in
    start_early p limit m small same bs s f few nx least

pub end_at-requires-clause-processor : goal.end_at-requires-clause-processor
end_at-requires-clause-processor c =
    let p = c.args.accepted.now.program in
    let limit = c.args.limit in
    let m = c.args.machine.now in
    let small = c.requires.limit.1 in
    let same = c.requires.chares in
    let s = c.args.self in
    let nx = c.args.next in
    let least = c.requires.least in
    let bs = c.requires.follows.0 in
    let f = c.requires.follows.1 in
    let few = c.requires.follows.2 in
    processor_low p limit m small same bs s f few nx least

pub end_at-requires-clause-agenda : goal.end_at-requires-clause-agenda
end_at-requires-clause-agenda c = (c.args.machine.now, c.requires.follows.1.agenda)

pub deliver-requires : goal.deliver-requires
deliver-requires c =
    let p = c.args.accepted.now.program in
    let limit = c.args.limit in
    let m = c.args.machine.now in
    let small = c.requires.limit.1 in
    let same = c.requires.chares in
    let s = c.args.self in
    let nx = c.args.next in
    let least = c.requires.least in
    let bs = c.requires.follows.0 in
    let f = c.requires.follows.1 in
    let few = c.requires.follows.2 in
    let x_is = block_is p limit m small same bs s f few nx least c.index.result.now c.block_at-block.result.now c.index.ensures c.block_at-block.ensures in
    let sent_is : c.in_ok-messages.messages.items ≡ (now p limit m small same bs s f few nx least).block.sends = c.in_ok-messages.ensures ∙ (c.as_slice.ensures ∙ ap (λ (x : Block). x.sends) x_is) in
    let are : AreFor (length s.mails.items) c.in_ok-messages.messages.items = subst (λ ms. AreFor (length s.mails.items) ms) (sym sent_is) (targets_now p limit m small same bs s f few nx least) in
    subst (λ (old : List (List Message)). AreFor (length old) c.in_ok-messages.messages.items) (sym c.deref_mut.ensures.value) are

pub returns-in_err-changed-clause-stopped : goal.returns-in_err-changed-clause-stopped
returns-in_err-changed-clause-stopped c =
    let p = c.args.accepted.now.program in
    let limit = c.args.limit in
    let m = c.args.machine.now in
    let small = c.requires.limit.1 in
    let same = c.requires.chares in
    let s = c.args.self in
    let nx = c.args.next in
    let least = c.requires.least in
    let bs = c.requires.follows.0 in
    let f = c.requires.follows.1 in
    let few = c.requires.follows.2 in
    let x_is = block_is p limit m small same bs s f few nx least c.index.result.now c.block_at-block.result.now c.index.ensures c.block_at-block.ensures in
    let sent_is : c.in_ok-messages.messages.items ≡ (now p limit m small same bs s f few nx least).block.sends = c.in_ok-messages.ensures ∙ (c.as_slice.ensures ∙ ap (λ (x : Block). x.sends) x_is) in
    let given = err_from_is_err_and c.from_residual-in_err-changed.result c.from_residual-in_err-changed.ensures.1 in
    rw (given.1, given.2)
    (denies_also _ _
    (λ h. subst (λ old. CanDeliver limit old c.in_ok-messages.messages.items) (sym c.deref_mut.ensures.value)
    (subst (λ ms. CanDeliver limit s.mails.items ms) (sym sent_is) (delivers_now p limit m small same bs s f few nx least h)))
    c.in_err-changed.field-0.0 c.in_err-changed.ensures.stopped)

pub renew-requires-clause-lengths : goal.renew-requires-clause-lengths
renew-requires-clause-lengths c =
    let p = c.args.accepted.now.program in
    let limit = c.args.limit in
    let m = c.args.machine.now in
    let small = c.requires.limit.1 in
    let same = c.requires.chares in
    let s = c.args.self in
    let nx = c.args.next in
    let least = c.requires.least in
    let bs = c.requires.follows.0 in
    let f = c.requires.follows.1 in
    let few = c.requires.follows.2 in
    let x_is = block_is p limit m small same bs s f few nx least c.index.result.now c.block_at-block.result.now c.index.ensures c.block_at-block.ensures in
    let sent_is : c.in_ok-messages.messages.items ≡ (now p limit m small same bs s f few nx least).block.sends = c.in_ok-messages.ensures ∙ (c.as_slice.ensures ∙ ap (λ (x : Block). x.sends) x_is) in
    let old_mails = c.deref_mut.ensures.value in
    let can : CanDeliver limit s.mails.items (now p limit m small same bs s f few nx least).block.sends =
    subst (λ old. CanDeliver limit old (now p limit m small same bs s f few nx least).block.sends) old_mails
    (subst (λ ms. CanDeliver limit c.deref_mut.result.now ms) sent_is c.in_ok-changed.ensures.given) in
    let delivered : AreDelivered s.mails.items (now p limit m small same bs s f few nx least).block.sends c.deliver.new.mails =
    subst (λ old. AreDelivered old (now p limit m small same bs s f few nx least).block.sends c.deliver.new.mails) old_mails
    (subst (λ ms. AreDelivered c.deref_mut.result.now ms c.deliver.new.mails) sent_is c.in_ok-changed.ensures.delivered) in
    let kept : AreKept s.mails.items c.in_ok-changed.changed.keys c.deliver.new.mails = subst (λ old. AreKept old c.in_ok-changed.changed.keys c.deliver.new.mails) old_mails c.in_ok-changed.ensures.heard in
    let new_mails : c.deref.result.now ≡ c.deliver.new.mails = c.deref.ensures.value ∙ with_items_is s.mails c.deliver.new.mails (delivered.count ∙ sym s.mails.ok.0) in
    let old_count : length s.histories.items ≡ p.chares = ap (λ hs. length hs) f.histories ∙ count_numbers (λ c'. history p limit c' (mail_to (messages bs) c')) p.chares 0 in
    let e2 = ap (λ (xs : List History). length xs) c.deref_mut-2.ensures.value in
    let e3 = ap (λ (xs : List (List Message)). length xs) new_mails in
    let k2 = delivered.count in
    let k3 = f.chares in
    omega (arith, e2, e3, old_count, k2, k3)

pub renew-requires-clause-shallow : goal.renew-requires-clause-shallow
renew-requires-clause-shallow c =
    let p = c.args.accepted.now.program in
    let limit = c.args.limit in
    let m = c.args.machine.now in
    let small = c.requires.limit.1 in
    let same = c.requires.chares in
    let s = c.args.self in
    let nx = c.args.next in
    let least = c.requires.least in
    let bs = c.requires.follows.0 in
    let f = c.requires.follows.1 in
    let few = c.requires.follows.2 in
    let x_is = block_is p limit m small same bs s f few nx least c.index.result.now c.block_at-block.result.now c.index.ensures c.block_at-block.ensures in
    let sent_is : c.in_ok-messages.messages.items ≡ (now p limit m small same bs s f few nx least).block.sends = c.in_ok-messages.ensures ∙ (c.as_slice.ensures ∙ ap (λ (x : Block). x.sends) x_is) in
    let old_mails = c.deref_mut.ensures.value in
    let can : CanDeliver limit s.mails.items (now p limit m small same bs s f few nx least).block.sends =
    subst (λ old. CanDeliver limit old (now p limit m small same bs s f few nx least).block.sends) old_mails
    (subst (λ ms. CanDeliver limit c.deref_mut.result.now ms) sent_is c.in_ok-changed.ensures.given) in
    let delivered : AreDelivered s.mails.items (now p limit m small same bs s f few nx least).block.sends c.deliver.new.mails =
    subst (λ old. AreDelivered old (now p limit m small same bs s f few nx least).block.sends c.deliver.new.mails) old_mails
    (subst (λ ms. AreDelivered c.deref_mut.result.now ms c.deliver.new.mails) sent_is c.in_ok-changed.ensures.delivered) in
    let kept : AreKept s.mails.items c.in_ok-changed.changed.keys c.deliver.new.mails = subst (λ old. AreKept old c.in_ok-changed.changed.keys c.deliver.new.mails) old_mails c.in_ok-changed.ensures.heard in
    let new_mails : c.deref.result.now ≡ c.deliver.new.mails = c.deref.ensures.value ∙ with_items_is s.mails c.deliver.new.mails (delivered.count ∙ sym s.mails.ok.0) in
    subst AreShallow (sym new_mails) (shallow_now p limit m small same bs s f few nx least can c.deliver.new.mails delivered)

pub returns-in_err-size-clause-stopped : goal.returns-in_err-size-clause-stopped
returns-in_err-size-clause-stopped c =
    let p = c.args.accepted.now.program in
    let limit = c.args.limit in
    let m = c.args.machine.now in
    let small = c.requires.limit.1 in
    let same = c.requires.chares in
    let s = c.args.self in
    let nx = c.args.next in
    let least = c.requires.least in
    let bs = c.requires.follows.0 in
    let f = c.requires.follows.1 in
    let few = c.requires.follows.2 in
    let x_is = block_is p limit m small same bs s f few nx least c.index.result.now c.block_at-block.result.now c.index.ensures c.block_at-block.ensures in
    let sent_is : c.in_ok-messages.messages.items ≡ (now p limit m small same bs s f few nx least).block.sends = c.in_ok-messages.ensures ∙ (c.as_slice.ensures ∙ ap (λ (x : Block). x.sends) x_is) in
    let old_mails = c.deref_mut.ensures.value in
    let can : CanDeliver limit s.mails.items (now p limit m small same bs s f few nx least).block.sends =
    subst (λ old. CanDeliver limit old (now p limit m small same bs s f few nx least).block.sends) old_mails
    (subst (λ ms. CanDeliver limit c.deref_mut.result.now ms) sent_is c.in_ok-changed.ensures.given) in
    let delivered : AreDelivered s.mails.items (now p limit m small same bs s f few nx least).block.sends c.deliver.new.mails =
    subst (λ old. AreDelivered old (now p limit m small same bs s f few nx least).block.sends c.deliver.new.mails) old_mails
    (subst (λ ms. AreDelivered c.deref_mut.result.now ms c.deliver.new.mails) sent_is c.in_ok-changed.ensures.delivered) in
    let kept : AreKept s.mails.items c.in_ok-changed.changed.keys c.deliver.new.mails = subst (λ old. AreKept old c.in_ok-changed.changed.keys c.deliver.new.mails) old_mails c.in_ok-changed.ensures.heard in
    let new_mails : c.deref.result.now ≡ c.deliver.new.mails = c.deref.ensures.value ∙ with_items_is s.mails c.deliver.new.mails (delivered.count ∙ sym s.mails.ok.0) in
    let given = err_from_is_err_and c.from_residual-in_err-size.result c.from_residual-in_err-size.ensures.1 in
    rw (given.1, given.2)
    (denies_also _ _ (λ h. subst (AreShort p limit) (sym new_mails) (short_now p limit m small same bs s f few nx least c.deliver.new.mails delivered h)) c.in_err-size.field-0.0 c.in_err-size.ensures.stopped)

pub renew-requires-clause-kept : goal.renew-requires-clause-kept
renew-requires-clause-kept c =
    let p = c.args.accepted.now.program in
    let limit = c.args.limit in
    let m = c.args.machine.now in
    let small = c.requires.limit.1 in
    let same = c.requires.chares in
    let s = c.args.self in
    let nx = c.args.next in
    let least = c.requires.least in
    let bs = c.requires.follows.0 in
    let f = c.requires.follows.1 in
    let few = c.requires.follows.2 in
    let x_is = block_is p limit m small same bs s f few nx least c.index.result.now c.block_at-block.result.now c.index.ensures c.block_at-block.ensures in
    let sent_is : c.in_ok-messages.messages.items ≡ (now p limit m small same bs s f few nx least).block.sends = c.in_ok-messages.ensures ∙ (c.as_slice.ensures ∙ ap (λ (x : Block). x.sends) x_is) in
    let old_mails = c.deref_mut.ensures.value in
    let can : CanDeliver limit s.mails.items (now p limit m small same bs s f few nx least).block.sends =
    subst (λ old. CanDeliver limit old (now p limit m small same bs s f few nx least).block.sends) old_mails
    (subst (λ ms. CanDeliver limit c.deref_mut.result.now ms) sent_is c.in_ok-changed.ensures.given) in
    let delivered : AreDelivered s.mails.items (now p limit m small same bs s f few nx least).block.sends c.deliver.new.mails =
    subst (λ old. AreDelivered old (now p limit m small same bs s f few nx least).block.sends c.deliver.new.mails) old_mails
    (subst (λ ms. AreDelivered c.deref_mut.result.now ms c.deliver.new.mails) sent_is c.in_ok-changed.ensures.delivered) in
    let kept : AreKept s.mails.items c.in_ok-changed.changed.keys c.deliver.new.mails = subst (λ old. AreKept old c.in_ok-changed.changed.keys c.deliver.new.mails) old_mails c.in_ok-changed.ensures.heard in
    let new_mails : c.deref.result.now ≡ c.deliver.new.mails = c.deref.ensures.value ∙ with_items_is s.mails c.deliver.new.mails (delivered.count ∙ sym s.mails.ok.0) in
    let but = histories_now p limit m small same bs s f few nx least c.deliver.new.mails c.in_ok-changed.changed.keys delivered kept in
    let count : length s.mails.items ≡ length c.deref.result.now = sym delivered.count ∙ ap (λ (xs : List (List Message)). length xs) (sym new_mails) in
    subst (λ n. HoldsBut c.in_ok-changed.changed.keys n (λ c'. slice_get c.deref_mut-2.result.now c' ≡ history_at p limit c.deref.result.now c')) count
    (subst (λ (hs : List History). HoldsBut c.in_ok-changed.changed.keys (length s.mails.items) (λ c'. slice_get hs c' ≡ history_at p limit c.deref.result.now c')) (sym c.deref_mut-2.ensures.value)
    (subst (λ ms. HoldsBut c.in_ok-changed.changed.keys (length s.mails.items) (λ c'. slice_get s.histories.items c' ≡ history_at p limit ms c')) (sym new_mails) but))

pub choose-requires-clause-booked : goal.choose-requires-clause-booked
choose-requires-clause-booked c =
    let p = c.args.accepted.now.program in
    let limit = c.args.limit in
    let m = c.args.machine.now in
    let small = c.requires.limit.1 in
    let same = c.requires.chares in
    let s = c.args.self in
    let nx = c.args.next in
    let least = c.requires.least in
    let bs = c.requires.follows.0 in
    let f = c.requires.follows.1 in
    let few = c.requires.follows.2 in
    let x_is = block_is p limit m small same bs s f few nx least c.index.result.now c.block_at-block.result.now c.index.ensures c.block_at-block.ensures in
    let begun_is : c.in_ok-begun.begun ≡ begun_of m (now p limit m small same bs s f few nx least) = c.in_ok-begun.ensures ∙ ap (λ (x : Block). begun_of m (record { chare = nx.chare; block = x; start = nx.start })) x_is in
    let book_is : keyed c.put.new.self ≡ put_key (key_of (now p limit m small same bs s f few nx least)) (begun_of m (now p limit m small same bs s f few nx least)) (keyed s.book) = c.in_ok-put.ensures ∙ (λ i. put_key ((begun_is i).row.chare ∷ (x_is i).path.0) (begun_is i) (keyed s.book)) in
    let sent_is : c.in_ok-messages.messages.items ≡ (now p limit m small same bs s f few nx least).block.sends = c.in_ok-messages.ensures ∙ (c.as_slice.ensures ∙ ap (λ (x : Block). x.sends) x_is) in
    let old_mails = c.deref_mut.ensures.value in
    let can : CanDeliver limit s.mails.items (now p limit m small same bs s f few nx least).block.sends =
    subst (λ old. CanDeliver limit old (now p limit m small same bs s f few nx least).block.sends) old_mails
    (subst (λ ms. CanDeliver limit c.deref_mut.result.now ms) sent_is c.in_ok-changed.ensures.given) in
    booked_now p limit m small same bs s f few nx least can c.put.new.self book_is

pub choose-requires-clause-kept : goal.choose-requires-clause-kept
choose-requires-clause-kept c =
    let p = c.args.accepted.now.program in
    let limit = c.args.limit in
    let m = c.args.machine.now in
    let small = c.requires.limit.1 in
    let same = c.requires.chares in
    let s = c.args.self in
    let nx = c.args.next in
    let least = c.requires.least in
    let bs = c.requires.follows.0 in
    let f = c.requires.follows.1 in
    let few = c.requires.follows.2 in
    let x_is = block_is p limit m small same bs s f few nx least c.index.result.now c.block_at-block.result.now c.index.ensures c.block_at-block.ensures in
    let begun_is : c.in_ok-begun.begun ≡ begun_of m (now p limit m small same bs s f few nx least) = c.in_ok-begun.ensures ∙ ap (λ (x : Block). begun_of m (record { chare = nx.chare; block = x; start = nx.start })) x_is in
    let book_is : keyed c.put.new.self ≡ put_key (key_of (now p limit m small same bs s f few nx least)) (begun_of m (now p limit m small same bs s f few nx least)) (keyed s.book) = c.in_ok-put.ensures ∙ (λ i. put_key ((begun_is i).row.chare ∷ (x_is i).path.0) (begun_is i) (keyed s.book)) in
    let sent_is : c.in_ok-messages.messages.items ≡ (now p limit m small same bs s f few nx least).block.sends = c.in_ok-messages.ensures ∙ (c.as_slice.ensures ∙ ap (λ (x : Block). x.sends) x_is) in
    let old_mails = c.deref_mut.ensures.value in
    let can : CanDeliver limit s.mails.items (now p limit m small same bs s f few nx least).block.sends =
    subst (λ old. CanDeliver limit old (now p limit m small same bs s f few nx least).block.sends) old_mails
    (subst (λ ms. CanDeliver limit c.deref_mut.result.now ms) sent_is c.in_ok-changed.ensures.given) in
    let delivered : AreDelivered s.mails.items (now p limit m small same bs s f few nx least).block.sends c.deliver.new.mails =
    subst (λ old. AreDelivered old (now p limit m small same bs s f few nx least).block.sends c.deliver.new.mails) old_mails
    (subst (λ ms. AreDelivered c.deref_mut.result.now ms c.deliver.new.mails) sent_is c.in_ok-changed.ensures.delivered) in
    let kept : AreKept s.mails.items c.in_ok-changed.changed.keys c.deliver.new.mails = subst (λ old. AreKept old c.in_ok-changed.changed.keys c.deliver.new.mails) old_mails c.in_ok-changed.ensures.heard in
    let new_mails : c.deref.result.now ≡ c.deliver.new.mails = c.deref.ensures.value ∙ with_items_is s.mails c.deliver.new.mails (delivered.count ∙ sym s.mails.ok.0) in
    let are : AreHistories p limit c.deliver.new.mails c.renew.new.histories = subst (λ ms. AreHistories p limit ms c.renew.new.histories) new_mails c.in_ok-size.ensures.taken in
    let old_count : length s.histories.items ≡ p.chares = ap (λ hs. length hs) f.histories ∙ count_numbers (λ c'. history p limit c' (mail_to (messages bs) c')) p.chares 0 in
    let same_items = with_items_is s.histories c.renew.new.histories (are.count ∙ (delivered.count ∙ (f.chares ∙ (sym old_count ∙ sym s.histories.ok.0)))) in
    let new_histories : c.deref-2.result.now ≡ c.renew.new.histories = c.deref-2.ensures.value ∙ same_items in
    let but = bests_kept p limit m small same bs s f few nx least can c.put.new.self book_is c.deliver.new.mails c.in_ok-changed.changed.keys delivered kept c.renew.new.histories are in
    subst (λ cs. HoldsBut cs (length c.deref-2.result.now) (best_at m c.put.new.self c.deref-2.result.now c.end_at.new.self.bests.items)) (sym c.in_ok-list.ensures)
    (subst (λ (hs : List History). HoldsBut (insert_key nat_cmp c.in_ok-changed.changed.keys nx.chare) (length hs) (best_at m c.put.new.self hs c.end_at.new.self.bests.items)) (sym new_histories)
    (subst (λ bests. HoldsBut (insert_key nat_cmp c.in_ok-changed.changed.keys nx.chare) (length c.renew.new.histories) (best_at m c.put.new.self c.renew.new.histories bests)) (sym c.in_ok-end_at.ensures.bests) but))

pub choose-requires-clause-agenda : goal.choose-requires-clause-agenda
choose-requires-clause-agenda c = c.in_ok-end_at.ensures.agenda c.args.machine.now c.requires.follows.1.agenda

pub returns-clause-follows : goal.returns-clause-follows
returns-clause-follows c =
    λ bs f few.
    let p = c.args.accepted.now.program in
    let limit = c.args.limit in
    let m = c.args.machine.now in
    let small = c.requires.limit.1 in
    let same = c.requires.chares in
    let s = c.args.self in
    let nx = c.args.next in
    let least = c.requires.least in
    let x_is = block_is p limit m small same bs s f few nx least c.index.result.now c.block_at-block.result.now c.index.ensures c.block_at-block.ensures in
    let begun_is : c.in_ok-begun.begun ≡ begun_of m (now p limit m small same bs s f few nx least) = c.in_ok-begun.ensures ∙ ap (λ (x : Block). begun_of m (record { chare = nx.chare; block = x; start = nx.start })) x_is in
    let book_is : keyed c.put.new.self ≡ put_key (key_of (now p limit m small same bs s f few nx least)) (begun_of m (now p limit m small same bs s f few nx least)) (keyed s.book) = c.in_ok-put.ensures ∙ (λ i. put_key ((begun_is i).row.chare ∷ (x_is i).path.0) (begun_is i) (keyed s.book)) in
    let sent_is : c.in_ok-messages.messages.items ≡ (now p limit m small same bs s f few nx least).block.sends = c.in_ok-messages.ensures ∙ (c.as_slice.ensures ∙ ap (λ (x : Block). x.sends) x_is) in
    let old_mails = c.deref_mut.ensures.value in
    let can : CanDeliver limit s.mails.items (now p limit m small same bs s f few nx least).block.sends =
    subst (λ old. CanDeliver limit old (now p limit m small same bs s f few nx least).block.sends) old_mails
    (subst (λ ms. CanDeliver limit c.deref_mut.result.now ms) sent_is c.in_ok-changed.ensures.given) in
    let delivered : AreDelivered s.mails.items (now p limit m small same bs s f few nx least).block.sends c.deliver.new.mails =
    subst (λ old. AreDelivered old (now p limit m small same bs s f few nx least).block.sends c.deliver.new.mails) old_mails
    (subst (λ ms. AreDelivered c.deref_mut.result.now ms c.deliver.new.mails) sent_is c.in_ok-changed.ensures.delivered) in
    let kept : AreKept s.mails.items c.in_ok-changed.changed.keys c.deliver.new.mails = subst (λ old. AreKept old c.in_ok-changed.changed.keys c.deliver.new.mails) old_mails c.in_ok-changed.ensures.heard in
    let new_mails : c.deref.result.now ≡ c.deliver.new.mails = c.deref.ensures.value ∙ with_items_is s.mails c.deliver.new.mails (delivered.count ∙ sym s.mails.ok.0) in
    let are : AreHistories p limit c.deliver.new.mails c.renew.new.histories = subst (λ ms. AreHistories p limit ms c.renew.new.histories) new_mails c.in_ok-size.ensures.taken in
    let old_count : length s.histories.items ≡ p.chares = ap (λ hs. length hs) f.histories ∙ count_numbers (λ c'. history p limit c' (mail_to (messages bs) c')) p.chares 0 in
    let same_items = with_items_is s.histories c.renew.new.histories (are.count ∙ (delivered.count ∙ (f.chares ∙ (sym old_count ∙ sym s.histories.ok.0)))) in
    let new_histories : c.deref-2.result.now ≡ c.renew.new.histories = c.deref-2.ensures.value ∙ same_items in
    let size_is = c.in_ok-size.ensures.size in
    let home = home_is p limit m bs s f nx least same in
    let ends_are : slice_set s.agenda.ends.items nx.processor c.in_ok-begun.begun.row.end ≡ slice_set s.agenda.ends.items (home_of m nx.chare) (nx.start + duration_of m (now p limit m small same bs s f few nx least).block.cost) = λ i. slice_set s.agenda.ends.items (home i) ((begun_is i).row.end) in
    let bests_are : AreBest m c.put.new.self c.renew.new.histories c.choose.new.agenda.bests.items = subst (λ (hs : List History). AreBest m c.put.new.self hs c.choose.new.agenda.bests.items) new_histories c.in_ok-choose.ensures.bests in
    let mail_items = with_items_is s.mails c.deliver.new.mails (delivered.count ∙ sym s.mails.ok.0) in (
      now p limit m small same bs s f few nx least,
      follows_now p limit m small same bs s f few nx least can c.put.new.self book_is c.deliver.new.mails c.in_ok-changed.changed.keys delivered kept c.renew.new.histories are _ refl (c.in_ok-choose.ensures.ends ∙ (c.in_ok-end_at.ensures.ends ∙ ends_are)) mail_items same_items size_is bests_are c.in_ok-choose.ensures.agenda,
    )
