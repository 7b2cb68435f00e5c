-- What holds of a chare before and after a step.
use Rattle.std.proofs.Common.{◌≡◌, ◌≤◌, ℕ, Bool, true, false, List, [], Result, Ok, Err, OnOk, OnErr, refl, sym, ap, ap₂, subst, ◌∙◌, inl}
use Rattle.bs_tree.specs.declared.tree.Program.{Program}
use Rattle.bs_log.specs.declared.history.Message.{Message}
use Rattle.bs_log.specs.declared.history.Block.{Block}
use Rattle.bs_log.specs.declared.history.History.{History}
use Rattle.bs_log.specs.Lists.{Mem}
use Rattle.bs_log.specs.Messages.{sends_of}
use Rattle.bs_log.specs.Histories.{no_history}
use Rattle.bs_match.specs.Mail.{lookup, with_message}
use Rattle.bs_semantics.specs.Run.{Lookup, history}
use Rattle.bs_semantics.specs.Growth.{PartOf}
use Rattle.bs_semantics.proofs.Subsequences.{empty}
use Rattle.bs_chare.specs.Chare.{IsProper, HoldsProper, told}
use Rattle.bs_chare.specs.News.{AreNews, fresh}
use Rattle.bs_chare.proofs.Mails.{proper_with}
use Rattle.bs_chare.proofs.NewSends.{history_news}

-- a chare that isn't begun tells the same under each mail
pub told_idle : (t : Bool) (p : Program) (limit c : ℕ) (a b : Lookup) (h : History) → t ≡ false → h ≡ told t p limit c a → h ≡ told t p limit c b
told_idle false p limit c a b h e q = q
told_idle true p limit c a b h e q = absurd (cc)

-- one that is begun tells its history
pub told_begun : (t : Bool) (p : Program) (limit c : ℕ) (a : Lookup) → t ≡ true → told t p limit c a ≡ history p limit c a
told_begun true p limit c a e = refl
told_begun false p limit c a e = absurd (cc)

-- the mail is proper whether or not the message was put
pub proper_after : (c : ℕ) (old new : List Message) (m : Message) {E : Type 0} (r : Result (Unit {0}) E) → HoldsProper c (lookup old) → IsProper c m → OnOk r (lookup new ≡ with_message m (lookup old)) → OnErr r (new ≡ old) → HoldsProper c (lookup new)
proper_after c old new m (Ok u) h p held same = proper_with c (lookup old) (lookup new) m h p held
proper_after c old new m (Err e) h p held same = subst (λ ms. HoldsProper c (lookup ms)) (sym same) h

pub on_err : {T E P : Type 0} (r : Result T E) → P → OnErr r P
on_err (Ok x) p = tt
on_err (Err e) p = p

pub no_news : (ms news : List Message) → news ≡ [] → AreNews ms ms news
no_news ms news e = subst (AreNews ms ms) (sym e) (record { order = empty ms; unsent = λ m i j. i; all = λ m i. inl i })

-- what a chare sends newly, where its mail grew
pub sent_newly : (p : Program) (limit c : ℕ) (a b : Lookup) (g h : History) (before blocks : List Block) (news : List Message) → PartOf a b → g ≡ history p limit c a → h ≡ history p limit c b
    → before ≡ g.blocks → blocks ≡ h.blocks → news ≡ fresh before blocks → AreNews (sends_of g.blocks) (sends_of h.blocks) news
sent_newly p limit c a b g h before blocks news w ge he be ke e =
    subst (AreNews (sends_of g.blocks) (sends_of h.blocks)) (sym (e ∙ ap₂ fresh be ke))
    (subst (λ (x : History). AreNews (sends_of x.blocks) (sends_of h.blocks) (fresh x.blocks h.blocks)) (sym ge)
    (subst (λ (x : History). AreNews (sends_of (history p limit c a).blocks) (sends_of x.blocks) (fresh (history p limit c a).blocks x.blocks)) (sym he) (history_news p limit c a b w)))
