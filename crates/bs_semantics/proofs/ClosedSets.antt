-- Closed sets pass the test.
use Rattle.std.proofs.Common.{◌≡◌, ◌≤◌, ◌⊎◌, inl, inr, ℕ, zero, suc, ◌+◌, Bool, true, false, List, [], ◌∷◌, refl, sym, ap, subst, ◌∙◌, map, length}
use Rattle.bs_tree.specs.declared.tree.Program.{Program}
use Rattle.bs_tree.specs.declared.tree.Path.{Path}
use Rattle.bs_log.specs.declared.history.Message.{Message}
use Rattle.bs_log.specs.declared.history.Block.{Block}
use Rattle.bs_log.specs.declared.history.History.{History}
use Rattle.bs_semantics.specs.Acts.{Parcel}
use Rattle.bs_semantics.specs.Run.{Lookup, signed, history}
use Rattle.bs_semantics.specs.Rounds.{mail_to, from_to, histories, Closed, SameMessages}
use Rattle.bs_log.specs.Size.{size_all}
use Rattle.bs_log.specs.Lists.{Mem, Apart}
use Rattle.bs_log.specs.Sound.{Once, CausesBefore, Numbered, IsSound, AreSound}
use Rattle.bs_log.specs.Messages.{is_for, one_key, sent}
use Rattle.bs_semantics.specs.Orderly.{EachRestsOn}
use Rattle.bs_semantics.specs.ClosedTest.{Passes}
use Rattle.bs_semantics.proofs.Options.{none_some}
use Rattle.bs_semantics.proofs.Mails.{found, hits_at, is_for_is, same_messages}
use Rattle.bs_semantics.proofs.Rising.{run_rising}
use Rattle.bs_semantics.proofs.Rests.{run_earlier, run_came, run_lacks}
use Rattle.bs_semantics.proofs.Signed.{run_signed}
use Rattle.bs_semantics.proofs.Sets.{under}
use Rattle.bs_semantics.proofs.Confluence.{same_histories}

-- a path of a list of blocks is one of these blocks' paths
pub record PathOf (bs : List Block) (q : Path) : Type 0 where
  pub block : Block
  pub is_in : Mem block bs
  pub is : q ≡ block.path

pub path_of : (bs : List Block) (q : Path) → Mem q (map (λ b. b.path) bs) → PathOf bs q
path_of [] q m = absurd m
path_of (b ∷ bs) q (inl e) = record { block = b; is_in = inl refl; is = e }
path_of (b ∷ bs) q (inr m) = let h = path_of bs q m in record { block = h.block; is_in = inr h.is_in; is = h.is }

causes_before : (P : Block → Type 0) (Q : Path → Type 0) → ((b : Block) → P b → Q b.path) → (xs : List Block) → EachRestsOn P xs → CausesBefore Q xs
causes_before P Q f [] h = tt
causes_before P Q f (x ∷ xs) h = (
  (λ q m. let p = path_of (h.0).causes q (subst (Mem q) (h.0).after m) in subst Q (sym p.is) (f p.block ((h.0).known p.block p.is_in))),
  causes_before _ _ step xs h.1,
)
  where
    step : (b : Block) → (b ≡ x) ⊎ P b → (b.path ≡ x.path) ⊎ Q b.path
    step b (inl e) = inl (ap (λ b. b.path) e)
    step b (inr m) = inr (f b m)

numbered_signed : (c : ℕ) (x : Block) (k : ℕ) (ps : List Parcel) → Numbered c x k (signed c x.path.0 x.depth k ps)
numbered_signed c x k [] = tt
numbered_signed c x k (p ∷ ps) = (refl, numbered_signed c x (k + 1) ps)

false_or : (t : Bool) → (t ≡ true → ⊥) → t ≡ false
false_or true h = absurd (h refl)
false_or false h = refl

module _ (p : Program) (limit : ℕ) (all : List Message) (apart : Apart one_key all) (hs : List History) (is_sent : sent hs ≡ all) where
  sound_one : (c : ℕ) → IsSound hs c (history p limit c (mail_to all c))
  sound_one c = record {
    rising = run_rising p limit c (mail_to all c);
    causes = causes_before _ _ (λ b m. m) _ (run_earlier p limit c (mail_to all c));
    sends = λ x m. let s = run_signed p limit c (mail_to all c) x m in subst (Numbered c x 1) (sym s.sends) (numbered_signed c x 1 s.parcels);
    mail = λ x m o i.
        let k = run_came (mail_to all c) p limit c x m o i in
        let f = found all c k.key k.message k.is_held in
        record { message = k.message; is_sent = subst (Mem k.message) (sym is_sent) f.0; to = (is_for_is c k.key k.message f.1).0; origin = k.is_from };
    waits = λ w m n i. false_or (is_for c w.key n) (λ t.
        none_some (sym (run_lacks (mail_to all c) p limit c w m) ∙ hits_at all apart n (subst (Mem n) is_sent i) c w.key t));
  }

  sound_from : (n c : ℕ) → AreSound hs c (under p limit (mail_to all) (from_to c n))
  sound_from zero c = tt
  sound_from (suc n) c = (sound_one c, sound_from n (c + 1))

count : (p : Program) (limit : ℕ) (f : ℕ → Lookup) (n c : ℕ) → length (under p limit f (from_to c n)) ≡ n
count p limit f zero c = refl
count p limit f (suc n) c = ap suc (count p limit f n (c + 1))

pub passes : (p : Program) (limit : ℕ) (hs : List History) → Closed p limit hs → Passes p limit hs
passes p limit hs h = record {
  count = ap length h.same ∙ count p limit (mail_to (sent hs)) p.chares 0;
  sound = subst (AreSound hs 0) (sym h.same) (sound_from p limit (sent hs) (h.once).sent hs refl p.chares 0);
  once = h.once;
  size = h.size;
}

pub any_order : (p : Program) (limit : ℕ) (ms : List Message) (hs : List History) → hs ≡ histories p limit ms → Once hs → size_all hs ≤ limit → SameMessages ms (sent hs) → Closed p limit hs
any_order p limit ms hs e o s m = record { same = e ∙ same_histories p limit ms (sent hs) (same_messages ms (sent hs) o.sent m.of_a m.of_b); once = o; size = s }
