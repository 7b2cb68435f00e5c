-- Where no block can start and no key is asked for twice, the histories are a closed set, and so the verdict is Clean. And
-- where it is, no key is asked for twice.
use Rattle.std.proofs.Common.{◌≡◌, ◌≤◌, inl, inr, ℕ, Bool, true, false, List, [], ◌∷◌, refl, sym, ap, subst, ◌∙◌, arith}
use Rattle.bs_tree.specs.declared.tree.Program.{Program}
use Rattle.bs_log.specs.declared.history.Message.{Message}
use Rattle.bs_log.specs.Size.{size_all}
use Rattle.bs_log.specs.Lists.{InOrder, Mem, Apart}
use Rattle.bs_log.specs.Messages.{one_key, sent}
use Rattle.bs_machine.specs.declared.fitted.Fitted.{Fitted}
use Rattle.bs_rounds.proofs.OneOrigin.{Differ, origins_differ}
use Rattle.bs_semantics.specs.Rounds.{chares, mail_to}
use Rattle.bs_semantics.specs.Serial.{Started, messages, histories_at}
use Rattle.bs_semantics.specs.Starting.{AllIn, NoneEnabled}
use Rattle.bs_semantics.proofs.Confluence.{closed_clean}
use Rattle.bs_semantics.proofs.Distinct.{Distinct}
use Rattle.bs_semantics.proofs.Mails.{hits, hits_at}
use Rattle.bs_semantics.proofs.Options.{some_same}
use Rattle.bs_semantics.proofs.Reached.{reached_clean}
use Rattle.bs_semantics.proofs.Sets.{from_block}
use Rattle.bs_semantics.proofs.Starting.{in_messages, started, stuck_closed}
use Rattle.bs_times.specs.Machine.{machine_of}
use Rattle.bs_model.specs.declared.state.State.{State}
use Rattle.bs_model.specs.Asking.{AskOnce}
use Rattle.bs_model.specs.State.{Follows}
use Rattle.bs_model.specs.Stop.{HasCleanRound}
use Rattle.bs_model.proofs.Running.{keys_apart, are_blocks, reached}

-- no two messages that differ by their origins are the same
distinct_of : (ms : List Message) → InOrder Differ ms → Distinct ms
distinct_of [] h = tt
distinct_of (m ∷ ms) h = ((λ y i e. h.0 y i (ap (λ m. m.origin) e)), distinct_of ms h.1)

-- different messages that are all in a list whose keys are apart have keys apart
apart_in : (xs ys : List Message) → Distinct xs → AllIn xs ys → Apart one_key ys → Apart one_key xs
apart_in [] ys d f k = tt
apart_in (x ∷ xs) ys d f k = ((λ y i. by_test y i (one_key x y) refl), apart_in xs ys d.1 (λ y i. f y (inr i)) k)
  where
    by_test : (y : Message) → Mem y xs → (t : Bool) → one_key x y ≡ t → t ≡ false
    by_test y i true e = absurd (d.0 y i (some_same (sym (hits_at ys k x (f x (inl refl)) y.sent.to y.sent.key e) ∙ hits ys k y (f y (inr i)))))
    by_test y i false e = refl

module _ (p : Program) (limit : ℕ) (m : Fitted) (bs : List Started) (s : State) (f : Follows p limit m bs s) where
  -- all that the histories send was sent
  all_begun : NoneEnabled p limit bs → AllIn (sent (histories_at p limit bs)) (messages bs)
  all_begun none a i =
      let from = from_block p limit (mail_to (messages bs)) (chares p) a i in
      let d = started p limit bs (are_blocks p limit (machine_of m) bs f.started) none from.chare from.is_chare from.block from.is_block in
      in_messages d.started bs a d.is_in (subst (λ x. Mem a x.sends) (sym d.block) from.is_sent)

  small : size_all (histories_at p limit bs) ≤ limit
  small =
      let is = f.size.is in
      let most = f.size.most in
      let same = ap size_all f.histories in
      omega (arith, is, most, same)

  pub has_clean_round : NoneEnabled p limit bs → AskOnce s.histories.items → HasCleanRound p limit
  has_clean_round none asked =
      let hs = histories_at p limit bs in
      let distinct = distinct_of (sent hs) (origins_differ p limit (mail_to (messages bs)) p.chares 0) in
      let once = apart_in (sent hs) (messages bs) distinct (all_begun none) (keys_apart p limit (machine_of m) bs f.started) in
      let c = closed_clean p limit hs (stuck_closed p limit bs (are_blocks p limit (machine_of m) bs f.started) none (record { size = small; once = record { sent = once; asked = subst AskOnce f.histories asked } })) in
      (c.0, c.1)

  pub asks_once : HasCleanRound p limit → AskOnce s.histories.items
  asks_once h =
      let clean = reached_clean p limit (machine_of m) h.0 h.1 bs (reached p limit (machine_of m) h.0 h.1 bs f.started) in
      subst AskOnce (sym f.histories) (clean.once).asked
