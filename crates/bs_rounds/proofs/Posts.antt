-- Messages that are put into mails, one list after another.
use Rattle.std.proofs.Common.{◌≡◌, ◌⊎◌, inl, inr, ℕ, Bool, true, false, List, [], ◌∷◌, ◌++◌, Option, Some, None, Result, Ok, Err, refl, sym, ap, subst, ◌∙◌, ◌<◌}
use Rattle.bs_log.specs.declared.history.Key.{Key}
use Rattle.bs_log.specs.declared.history.Message.{Message}
use Rattle.bs_log.specs.Lists.{Mem}
use Rattle.bs_log.specs.Messages.{AreFor}
use Rattle.bs_semantics.specs.Run.{Lookup}
use Rattle.bs_semantics.proofs.Members.{mem_left, mem_right, mem_cases}
use Rattle.bs_semantics.proofs.Options.{none_some}
use Rattle.bs_rounds.specs.declared.stop.Stop.{Stop}
use Rattle.bs_rounds.specs.declared.stop.Stop.TheVariants.{Long, Twice, Memory}
use Rattle.bs_rounds.specs.Posting.{IsOneOf, IsKnown, HasNews, ArePosted, Clash, IsPosted}

pub posted_none : (F : ℕ → Lookup) (f : ℕ → Bool) → ArePosted [] F f F f
posted_none F f = record {
  stays = λ c k m e. e;
  from = λ c k m e. inl e;
  known = λ m i. absurd i;
  marked = λ c e. e;
  same = λ c e. refl;
  news = λ c e. inl e;
}

one_left : (ms ns : List Message) (c : ℕ) (k : Key) (m : Message) → IsOneOf ms c k m → IsOneOf (ms ++ ns) c k m
one_left ms ns c k m o = record { member = mem_left m ms ns o.member; to = o.to; key = o.key }

one_right : (ms ns : List Message) (c : ℕ) (k : Key) (m : Message) → IsOneOf ns c k m → IsOneOf (ms ++ ns) c k m
one_right ms ns c k m o = record { member = mem_right m ms ns o.member; to = o.to; key = o.key }

stays_none : (a b : Lookup) (k : Key) → ((m : Message) → a k ≡ Some m → b k ≡ Some m) → b k ≡ None → a k ≡ None
stays_none a b k f e = by_case (a k) refl
  where
    by_case : (o : Option Message) → a k ≡ o → a k ≡ None
    by_case None q = q
    by_case (Some m) q = absurd (none_some (sym e ∙ f m q))

true_or_false : (t : Bool) → (t ≡ true) ⊎ (t ≡ false)
true_or_false true = inl refl
true_or_false false = inr refl

no_longer : {A : Type 0} (t : Bool) → t ≡ true → t ≡ false → A
no_longer t e q = absurd (cc)

module _ (ms ns : List Message) (F : ℕ → Lookup) (f : ℕ → Bool) (G : ℕ → Lookup) (g : ℕ → Bool) (first : ArePosted ms F f G g) where
  pub posts_on : (H : ℕ → Lookup) (h : ℕ → Bool) → ArePosted ns G g H h → ArePosted (ms ++ ns) F f H h
  posts_on H h second = record {
    stays = λ c k m e. second.stays c k m (first.stays c k m e);
    from = λ c k m e. came c k m (second.from c k m e);
    known = λ m i. known m (mem_cases m ms ns i);
    marked = λ c e. second.marked c (first.marked c e);
    same = λ c e. same c e (true_or_false (g c));
    news = λ c e. news c (second.news c e);
  }
    where
      came : (c : ℕ) (k : Key) (m : Message) → (G c k ≡ Some m) ⊎ IsOneOf ns c k m → (F c k ≡ Some m) ⊎ IsOneOf (ms ++ ns) c k m
      came c k m (inl e) = before (first.from c k m e)
        where
          before : (F c k ≡ Some m) ⊎ IsOneOf ms c k m → (F c k ≡ Some m) ⊎ IsOneOf (ms ++ ns) c k m
          before (inl e) = inl e
          before (inr o) = inr (one_left ms ns c k m o)
      came c k m (inr o) = inr (one_right ms ns c k m o)

      known : (m : Message) → Mem m ms ⊎ Mem m ns → IsKnown H m
      known m (inl i) = let k = first.known m i in record { message = k.message; is_held = second.stays m.sent.to m.sent.key k.message k.is_held; origin = k.origin }
      known m (inr i) = second.known m i

      same : (c : ℕ) → h c ≡ false → (g c ≡ true) ⊎ (g c ≡ false) → F c ≡ H c
      same c e (inl t) = no_longer (h c) (second.marked c t) e
      same c e (inr t) = first.same c t ∙ second.same c e

      news : (c : ℕ) → (g c ≡ true) ⊎ HasNews (G c) (H c) → (f c ≡ true) ⊎ HasNews (F c) (H c)
      news c (inl e) = before (first.news c e)
        where
          before : (f c ≡ true) ⊎ HasNews (F c) (G c) → (f c ≡ true) ⊎ HasNews (F c) (H c)
          before (inl e) = inl e
          before (inr n) = inr (record { key = n.key; message = n.message; was = n.was; is = second.stays c n.key n.message n.is })
      news c (inr n) = inr (record { key = n.key; message = n.message; was = stays_none (F c) (G c) n.key (first.stays c n.key) n.was; is = n.is })

  clash_on : Clash ns G → Clash (ms ++ ns) F
  clash_on k = record { first = k.first; second = k.second; is_first = came k.is_first; is_second = mem_right k.second ms ns k.is_second; differ = k.differ }
    where
      before : (F k.second.sent.to k.second.sent.key ≡ Some k.first) ⊎ IsOneOf ms k.second.sent.to k.second.sent.key k.first → (F k.second.sent.to k.second.sent.key ≡ Some k.first) ⊎ IsOneOf (ms ++ ns) k.second.sent.to k.second.sent.key k.first
      before (inl e) = inl e
      before (inr o) = inr (one_left ms ns _ _ _ o)

      came : (G k.second.sent.to k.second.sent.key ≡ Some k.first) ⊎ IsOneOf ns k.second.sent.to k.second.sent.key k.first → (F k.second.sent.to k.second.sent.key ≡ Some k.first) ⊎ IsOneOf (ms ++ ns) k.second.sent.to k.second.sent.key k.first
      came (inl e) = before (first.from _ _ _ e)
      came (inr o) = inr (one_right ms ns _ _ _ o)

  -- after what was put comes what becomes of the rest
  pub goes_on : (r : Result (Unit {0}) Stop) (H : ℕ → Lookup) (h : ℕ → Bool) → IsPosted ns G g r H h → IsPosted (ms ++ ns) F f r H h
  goes_on (Ok u) H h p = posts_on H h p
  goes_on (Err Long) H h p = p
  goes_on (Err Twice) H h p = clash_on p
  goes_on (Err Memory) H h p = tt

-- what comes after a clash doesn't matter
pub breaks : (ms ns : List Message) (F : ℕ → Lookup) (f : ℕ → Bool) (e : Stop) (G : ℕ → Lookup) (g : ℕ → Bool) (H : ℕ → Lookup) (h : ℕ → Bool) → IsPosted ms F f (Err e) G g → IsPosted (ms ++ ns) F f (Err e) H h
breaks ms ns F f Long G g H h p = p
breaks ms ns F f Twice G g H h p = record { first = p.first; second = p.second; is_first = came p.is_first; is_second = mem_left p.second ms ns p.is_second; differ = p.differ }
  where
    came : (F p.second.sent.to p.second.sent.key ≡ Some p.first) ⊎ IsOneOf ms p.second.sent.to p.second.sent.key p.first → (F p.second.sent.to p.second.sent.key ≡ Some p.first) ⊎ IsOneOf (ms ++ ns) p.second.sent.to p.second.sent.key p.first
    came (inl e) = inl e
    came (inr o) = inr (one_left ms ns _ _ _ o)
breaks ms ns F f Memory G g H h p = tt

-- what becomes of the rest, from some mails on, is what becomes of all
abbrev pub Follows : List Message → (ℕ → Lookup) → (ℕ → Bool) → List Message → (ℕ → Lookup) → (ℕ → Bool) → Type 0
Follows all F f rest G g = (r : Result (Unit {0}) Stop) (H : ℕ → Lookup) (h : ℕ → Bool) → IsPosted rest G g r H h → IsPosted all F f r H h

module _ (all : List Message) (F : ℕ → Lookup) (f : ℕ → Bool) (rest ms ns : List Message) (G : ℕ → Lookup) (g : ℕ → Bool) (next : rest ≡ ms ++ ns) (follows : Follows all F f rest G g) where
  pub follows_on : (H : ℕ → Lookup) (h : ℕ → Bool) → ArePosted ms G g H h → Follows all F f ns H h
  follows_on H h first r J j p = follows r J j (subst (λ xs. IsPosted xs G g r J j) (sym next) (goes_on ms ns G g H h first r J j p))

  pub follows_to : (e : Stop) (H : ℕ → Lookup) (h : ℕ → Bool) → IsPosted ms G g (Err e) H h → IsPosted all F f (Err e) H h
  follows_to e H h p = follows (Err e) H h (subst (λ xs. IsPosted xs G g (Err e) H h) (sym next) (breaks ms ns G g e H h H h p))

pub follows_end : (all : List Message) (F : ℕ → Lookup) (f : ℕ → Bool) (rest : List Message) (G : ℕ → Lookup) (g : ℕ → Bool) → rest ≡ [] → Follows all F f rest G g → ArePosted all F f G g
follows_end all F f rest G g none follows = follows (Ok tt) G g (subst (λ xs. ArePosted xs G g G g) (sym none) (posted_none G g))

pub first_for : (count : ℕ) (rest ms ns : List Message) → rest ≡ ms ++ ns → AreFor count rest → AreFor count ms
first_for count rest ms ns e t m i = t m (subst (Mem m) (sym e) (mem_left m ms ns i))

pub rest_for : (count : ℕ) (rest ms ns : List Message) → rest ≡ ms ++ ns → AreFor count rest → AreFor count ns
rest_for count rest ms ns e t m i = t m (subst (Mem m) (sym e) (mem_right m ms ns i))

pub same_for : (count after : ℕ) (ms : List Message) → after ≡ count → AreFor count ms → AreFor after ms
same_for count after ms e t = subst (λ n. AreFor n ms) (sym e) t
