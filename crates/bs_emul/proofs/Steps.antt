-- A step of a chare among all.
use Rattle.std.proofs.Common.{◌≡◌, ◌<◌, inl, ℕ, ◌==◌, ◌&&◌, Bool, true, false, if◌then◌else◌, List, ◌∷◌, ◌++◌, Option, Some, None, IsSome, refl, sym, ap, subst, ◌∙◌, length, slice_get, slice_set, arith}
use Rattle.std.proofs.lemmas.Cmp.{nat_eq_equiv}
use Rattle.bs_tree.specs.declared.tree.Program.{Program}
use Rattle.bs_log.specs.declared.history.Message.{Message}
use Rattle.bs_log.specs.declared.history.History.{History}
use Rattle.bs_log.specs.Messages.{same_key, sends_of}
use Rattle.bs_match.specs.Mail.{lookup, with_message}
use Rattle.bs_semantics.specs.Run.{Lookup, history}
use Rattle.bs_semantics.specs.Rounds.{mail_to}
use Rattle.bs_chare.specs.declared.chare.Chare.{Chare}
use Rattle.bs_chare.specs.declared.fault.ChareFault.{ChareFault}
use Rattle.bs_chare.specs.declared.fault.ChareFault.TheVariants.{TwoSent, TwoAsked, Long, Memory}
use Rattle.bs_chare.specs.Fault.{IsRunFault, IsRefused, history_under}
use Rattle.bs_chare.specs.News.{AreNews}
use Rattle.bs_chare.specs.State.{IsSameChare}
use Rattle.bs_emul.specs.declared.stop.Stop.{Stop}
use Rattle.bs_emul.specs.declared.stop.Stop.TheVariants as stop
use Rattle.bs_emul.specs.Reached.{IsReached, NeverClean}
use Rattle.bs_emul.specs.Stop.{stop_of, IsStopped}
use Rattle.bs_emul.specs.World.{IsServed, AreServed}
use Rattle.bs_emul.proofs.Sent.{target}
use Rattle.bs_emul.proofs.Serving.{serves}
use Rattle.bs_emul.proofs.Refusals.{one_short, asks_once, not_deep, not_twice, next_in_round}
use Rattle.bs_emul.proofs.Chares.{history_is, one_serves, not_refused}

same_chare : (m : Message) (o : Option Message) (s t : Bool) → s ≡ true → (if t then Some m else o) ≡ (if s && t then Some m else o)
same_chare m o true t e = refl
same_chare m o false t e = absurd (cc)

-- the mail of its chare with the message
with_it : (ms : List Message) (m : Message) → with_message m (mail_to ms m.sent.to) ≡ mail_to (m ∷ ms) m.sent.to
with_it ms m = λ i k. same_chare m (mail_to ms m.sent.to k) (m.sent.to == m.sent.to) (same_key m.sent.key k) (nat_eq_equiv.refl m.sent.to) i

-- a chare's history under a mail is that of its number
pub under_is : (p : Program) (limit : ℕ) (ms : List Message) (c : ℕ) (x : Chare) → IsServed p limit ms c x → (a b : Lookup) → a ≡ b → history_under x a ≡ history p limit c b
under_is p limit ms c x s a b e =
    ap (λ q. history q x.limit x.number a) s.program
    ∙ (ap (λ n. history p n x.number a) s.bound
    ∙ (ap (λ c. history p limit c a) s.number
    ∙ ap (λ (l : Lookup). history p limit c l) e))

some_is : (o : Option Message) → IsSome o → ((y : Message) → o ≡ Some y → ⊥) → ⊥
some_is None h f = cc
some_is (Some y) h f = f y refl

-- nothing is said where memory is wanting
pub stopped_if : (p : Program) (limit : ℕ) (s : Stop) → (s ≡ stop.Unclean → NeverClean p limit) → IsStopped p limit s
stopped_if p limit stop.Unclean f = f refl
stopped_if p limit stop.Memory f = tt

module _ (p : Program) (limit : ℕ) (ms : List Message) (m : Message) (queue : List Message) (xs : List Chare) (w : AreServed p limit ms xs) (r : IsReached p limit ms (m ∷ queue)) where
  some : m.sent.to < p.chares
  some = target p limit ms w.some m (r.queued m (inl refl))

  pub in_range : m.sent.to < length xs
  in_range = let l = some in let count = w.count in omega (arith, l, count)

  pub deep_never : limit < m.origin.depth → NeverClean p limit
  deep_never l n h = let low = not_deep p limit ms m queue r n h in omega (arith, l, low)

  module _ (x : Chare) (at : slice_get xs m.sent.to ≡ Some x) where
    pub its : IsServed p limit ms m.sent.to x
    its = w.each m.sent.to x at

    mail_is : with_message m (lookup x.mail) ≡ mail_to (m ∷ ms) m.sent.to
    mail_is = ap (with_message m) its.mail ∙ with_it ms m

    held_is : (o : Option Message) → lookup x.mail m.sent.key ≡ o → mail_to ms m.sent.to m.sent.key ≡ o
    held_is o e = ap (λ (l : Lookup). l m.sent.key) (sym its.mail) ∙ e

    run_never : (fault : ChareFault) → stop_of fault ≡ stop.Unclean → IsRunFault x.limit (history_under x (with_message m (lookup x.mail))) fault → NeverClean p limit
    run_never fault e f n h =
        let all = next_in_round p limit ms m queue r n h in
        let now = subst (λ (g : History). IsRunFault x.limit g fault) (under_is p limit ms m.sent.to x its (with_message m (lookup x.mail)) (mail_to (m ∷ ms) m.sent.to) mail_is) f in
        not_refused limit (history p limit m.sent.to (mail_to (m ∷ ms) m.sent.to)) fault e (one_short p limit n h (m ∷ ms) all m.sent.to some) (asks_once p limit n h (m ∷ ms) all m.sent.to some)
        (subst (λ k. IsRunFault k (history p limit m.sent.to (mail_to (m ∷ ms) m.sent.to)) fault) its.bound now)

    pub refuses : (fault : ChareFault) → stop_of fault ≡ stop.Unclean → IsRefused x m fault → NeverClean p limit
    refuses (TwoSent back) e f n h = some_is (mail_to ms m.sent.to m.sent.key) (subst (λ (o : Option Message). IsSome o) (sym (held_is _ refl)) f.1) (λ y q. not_twice p limit ms m queue r n h y q)
    refuses (TwoAsked k a b) e f n h = run_never (TwoAsked k a b) e f.1 n h
    refuses Long e f n h = run_never Long e f.1 n h
    refuses Memory e f n h = absurd (cc)

    module _ (y : Chare) (free : lookup x.mail m.sent.key ≡ None) (held : lookup y.mail ≡ with_message m (lookup x.mail)) (begun : y.begun ≡ x.begun) (same : IsSameChare x y) where
      served : IsServed p limit (m ∷ ms) m.sent.to y
      served = record {
        program = ap (λ a. a.program) same.accepted ∙ its.program;
        bound = same.limit ∙ its.bound;
        number = same.number ∙ its.number;
        begun = begun ∙ its.begun;
        mail = held ∙ mail_is;
      }

      pub chares_after : AreServed p limit (m ∷ ms) (slice_set xs m.sent.to y)
      chares_after = one_serves p limit ms m xs y w served

      pub reached_after : (news : List Message) → AreNews (sends_of x.history.blocks) (sends_of y.history.blocks) news → IsReached p limit (m ∷ ms) (queue ++ news)
      reached_after news given =
          let before = history_is p limit ms m.sent.to x its in
          let after = history_is p limit (m ∷ ms) m.sent.to y served in
          let are : AreNews (sends_of (history p limit m.sent.to (mail_to ms m.sent.to)).blocks) (sends_of (history p limit m.sent.to (mail_to (m ∷ ms) m.sent.to)).blocks) news = subst (λ (g : History). AreNews (sends_of g.blocks) (sends_of (history p limit m.sent.to (mail_to (m ∷ ms) m.sent.to)).blocks) news) before
          (subst (λ (g : History). AreNews (sends_of x.history.blocks) (sends_of g.blocks) news) after given) in
          serves p limit ms m (held_is None free) some news are.order are.unsent are.all queue r
