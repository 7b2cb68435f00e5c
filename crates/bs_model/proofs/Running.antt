-- What blocks are that were started one after the other: blocks of the histories, each once, whose messages have keys of
-- their own; and where the verdict is Clean, a state that the model reaches.
use Rattle.std.proofs.Common.{◌≡◌, ◌≤◌, ◌⊎◌, inl, inr, ℕ, List, ◌∷◌, Ordering, Less, Equal, Greater, refl, sym, ap₂, subst, ◌∙◌, nat_cmp}
use Rattle.std.specs.Ordering.{ordering_then}
use Rattle.std.specs.Cmp.Lexicographic.{slice_cmp}
use Rattle.std.proofs.lemmas.Map.Lookups.{exact_bytes, exact_unsigned}
use Rattle.bs_tree.specs.declared.tree.Program.{Program}
use Rattle.bs_log.specs.declared.history.Message.{Message}
use Rattle.bs_log.specs.declared.history.Block.{Block}
use Rattle.bs_log.specs.Lists.{Mem, Apart, InOrder}
use Rattle.bs_log.specs.Messages.{one_key}
use Rattle.bs_semantics.specs.Run.{history}
use Rattle.bs_semantics.specs.Rounds.{CleanAt, chares, mail_to}
use Rattle.bs_semantics.specs.Growth.{PartOf}
use Rattle.bs_semantics.specs.Serial.{Machine, Started, messages, find, started_cmp}
use Rattle.bs_semantics.specs.Starting.{AreBlocks}
use Rattle.bs_semantics.specs.Reached.{IsReached, begins, goes_on}
use Rattle.bs_semantics.proofs.Find.{finds}
use Rattle.bs_semantics.proofs.Growth.{grows_whole}
use Rattle.bs_semantics.proofs.Mails.{part_in}
use Rattle.bs_semantics.proofs.Members.{mem_right, mem_cases}
use Rattle.bs_semantics.proofs.Options.{none_some}
use Rattle.bs_semantics.proofs.Reached.{reached_clean}
use Rattle.bs_semantics.proofs.Subsequences.{member}
use Rattle.bs_model.specs.Started.{AreStarted, none_yet, one_more}

module _ (p : Program) (limit : ℕ) (m : Machine) where
  pub keys_apart : (bs : List Started) → AreStarted p limit m bs → Apart one_key (messages bs)
  keys_apart _ none_yet = tt
  keys_apart _ (one_more bs b s next to) = to.keys

  pub all_low : (bs : List Started) → AreStarted p limit m bs → (a : Message) → Mem a (messages bs) → a.origin.depth ≤ limit
  all_low _ none_yet a i = absurd i
  all_low _ (one_more bs b s next to) a i = by_side (mem_cases a b.block.sends (messages bs) i) (all_low bs s a)
    where
      by_side : Mem a b.block.sends ⊎ Mem a (messages bs) → (Mem a (messages bs) → a.origin.depth ≤ limit) → a.origin.depth ≤ limit
      by_side (inl j) f = to.low a j
      by_side (inr j) f = f j

  -- a block of a history stays one with more mail
  pub are_blocks : (bs : List Started) → AreStarted p limit m bs → AreBlocks p limit bs
  are_blocks _ none_yet d i = absurd i
  are_blocks _ (one_more bs b s next to) d i = by_place i (are_blocks bs s d)
    where
      more : (c : ℕ) → PartOf (mail_to (messages bs) c) (mail_to (messages (b ∷ bs)) c)
      more = part_in (messages bs) (messages (b ∷ bs)) to.keys (λ a j. mem_right a b.block.sends (messages bs) j)

      grown : (c : ℕ) (x : Block) → Mem x (history p limit c (mail_to (messages bs) c)).blocks → Mem x (history p limit c (mail_to (messages (b ∷ bs)) c)).blocks
      grown c x j = member x _ _ (grows_whole p limit c (mail_to (messages bs) c) (mail_to (messages (b ∷ bs)) c) (more c)).blocks j

      Fits : Started → Type 0
      Fits e = Mem e.chare (chares p) × Mem e.block (history p limit e.chare (mail_to (messages (b ∷ bs)) e.chare)).blocks

      by_place : Mem d (b ∷ bs) → (Mem d bs → Mem d.chare (chares p) × Mem d.block (history p limit d.chare (mail_to (messages bs) d.chare)).blocks) → Fits d
      by_place (inl q) f = let e = next.candidate.enabled in subst Fits (sym q) (e.chare, grown b.chare b.block e.block)
      by_place (inr j) f = let a = f j in (a.0, grown d.chare d.block a.1)

  then_parts : (o u : Ordering) → ordering_then o u ≡ Equal → (o ≡ Equal) × (u ≡ Equal)
  then_parts Less u e = absurd (cc)
  then_parts Equal u e = (refl, e)
  then_parts Greater u e = absurd (cc)

  -- no block is started twice
  pub differ : (bs : List Started) → AreStarted p limit m bs → InOrder (λ x y. started_cmp m x y ≡ Equal → ⊥) bs
  differ _ none_yet = tt
  differ _ (one_more bs b s next to) = ((λ d i e. again d i (then_parts (nat_cmp b.chare d.chare) _ e)), differ bs s)
    where
      again : (d : Started) → Mem d bs → (nat_cmp b.chare d.chare ≡ Equal) × (slice_cmp nat_cmp b.block.path.0 d.block.path.0 ≡ Equal) → ⊥
      again d i e =
          let f = finds bs d i in
          let same : find bs b.chare b.block.path.0 ≡ find bs d.chare d.block.path.0 = ap₂ (find bs) (exact_unsigned _ _ e.0) (exact_bytes _ _ e.1) in
          none_some (sym next.candidate.enabled.fresh ∙ same ∙ f.is)

  pub reached : (n : ℕ) → CleanAt p limit n → (bs : List Started) → AreStarted p limit m bs → IsReached p limit m bs
  reached n clean _ none_yet = begins
  reached n clean _ (one_more bs b s next to) = let r = reached n clean bs s in goes_on bs b r (reached_clean p limit m n clean bs r) next
