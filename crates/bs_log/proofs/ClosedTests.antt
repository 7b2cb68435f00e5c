-- The test of histories by themselves decides what it means.
use Rattle.std.proofs.Common.{◌≡◌, ◌≤◌, ◌⊎◌, inl, inr, ℕ, ◌+◌, ◌==◌, Bool, true, false, ◌&&◌, List, [], ◌∷◌, ◌++◌, refl, sym, ap, subst, ◌∙◌, length, nat_le, sum_by, count_by}
use Rattle.std.specs.Bool.{Decides}
use Rattle.std.specs.List.{list_all}
use Rattle.std.specs.Ordering.{is_lt, nat_cmp}
use Rattle.std.specs.Cmp.Lexicographic.{slice_cmp}
use Rattle.std.specs.declared.cmp.Ordering.{Ordering}
use Rattle.std.specs.declared.cmp.Ordering.TheVariants.{Less, Equal, Greater}
use Rattle.std.proofs.lemmas.Bool.{false≢true}
use Rattle.std.proofs.lemmas.Bool.Decides.{Decides-and, Decides-or, Decides-like, Decides-at, Decides-eqb}
use Rattle.std.proofs.lemmas.Cmp.{nat_list_cmp_total, int_eq_equiv, nat_eq_equiv}
use Rattle.std.proofs.lemmas.Slice.Eq.{bytes_eq-Decides}
use Rattle.std.proofs.lemmas.List.Sums.{sum_by-cons, sum_by-append}
use Rattle.std.proofs.lemmas.List.Folds.{list_any-append}
use Rattle.bs_tree.specs.declared.tree.Path.{Path}
use Rattle.bs_log.specs.declared.history.Key.{Key}
use Rattle.bs_log.specs.declared.history.Origin.{Origin}
use Rattle.bs_log.specs.declared.history.Message.{Message}
use Rattle.bs_log.specs.declared.history.Block.{Block}
use Rattle.bs_log.specs.declared.history.WaitAt.{WaitAt}
use Rattle.bs_log.specs.declared.history.History.{History}
use Rattle.bs_log.specs.Size.{size_all}
use Rattle.bs_log.specs.Messages.{same_path, same_key, same_origin, is_below, is_for, sends_of, sent, times_by, times_in, times_of, times_sent, one_key, one_asked}
use Rattle.bs_log.specs.Checks.{rise_after, rise, has_path, causes_known, is_signed, are_signed, came_from, block_sends, history_sends, some_send, mail_is_sent, block_is_sound, is_lacking, is_sound, are_sound, asks_once, is_sent_once, block_sends_once, sends_once, keys_are_apart, is_small, passes}
use Rattle.bs_log.specs.ClosedTest.{LooksClosed}
use Rattle.bs_log.specs.Lists.{Mem, Apart, Each}
use Rattle.bs_log.specs.Paths.{IsBelow}
use Rattle.bs_log.specs.Rising.{Rising}
use Rattle.bs_log.specs.Sound.{CausesBefore, Numbered, SentTo, IsSound, AreSound, Once}
use Rattle.bs_log.proofs.Decided.{SomeOf, never, le_is, all_each, all_as_each, any_some, none_is, apart_is, apart_from, apart_to}

-- paths, origins and keys

path_is : (p q : Path) → p.0 ≡ q.0 → p ≡ q
path_is p q e = let f : List ℕ → Path = λ l. record { 0 = l } in ap f e

pub same_path_is : (p q : Path) → Decides (same_path p q) (p ≡ q)
same_path_is p q = Decides-like _ (path_is p q) (ap (λ (r : Path). r.0)) (bytes_eq-Decides p.0 q.0)

same_origin_is : (a b : Origin) → Decides (same_origin a b) (a ≡ b)
same_origin_is a b = Decides-like _ whole parts (Decides-and _ _ (Decides-eqb a.chare b.chare) (Decides-and _ _ (same_path_is a.path b.path) (Decides-and _ _ (Decides-eqb a.index b.index) (Decides-eqb a.depth b.depth))))
  where
    whole : (a.chare ≡ b.chare) × ((a.path ≡ b.path) × ((a.index ≡ b.index) × (a.depth ≡ b.depth))) → a ≡ b
    whole h = λ j. record { chare = h.0 j; path = (h.1).0 j; index = ((h.1).1).0 j; depth = ((h.1).1).1 j }

    parts : a ≡ b → (a.chare ≡ b.chare) × ((a.path ≡ b.path) × ((a.index ≡ b.index) × (a.depth ≡ b.depth)))
    parts e = (ap (λ o. o.chare) e, (ap (λ o. o.path) e, (ap (λ o. o.index) e, ap (λ o. o.depth) e)))

pub both_true : (x y : Bool) → x ≡ true → y ≡ true → (x && y) ≡ true
both_true true y e f = f
both_true false y e f = absurd (false≢true e)

pub and_alike : (x x' y y' : Bool) → x ≡ x' → y ≡ y' → (x && y) ≡ (x' && y')
and_alike x x' y y' e f = λ j. e j && f j

pub key_itself : (k : Key) → same_key k k ≡ true
key_itself k = both_true _ _ (nat_eq_equiv.refl k.entry) (int_eq_equiv.refl k.reference)

pub key_symm : (a b : Key) → same_key a b ≡ same_key b a
key_symm a b = and_alike _ _ _ _ (nat_eq_equiv.symm a.entry b.entry) (int_eq_equiv.symm a.reference b.reference)

message_itself : (m : Message) → one_key m m ≡ true
message_itself m = both_true _ _ (nat_eq_equiv.refl m.sent.to) (key_itself m.sent.key)

pub message_symm : (a b : Message) → one_key a b ≡ one_key b a
message_symm a b = and_alike _ _ _ _ (nat_eq_equiv.symm a.sent.to b.sent.to) (key_symm a.sent.key b.sent.key)

-- the paths rise

pub lt_is : (o : Ordering) → Decides (is_lt o) (o ≡ Less)
lt_is Less = (λ e. refl, λ e. refl)
lt_is Equal = (λ e. absurd (false≢true e), λ e. ap is_lt e)
lt_is Greater = (λ e. absurd (false≢true e), λ e. ap is_lt e)

rises_after : (p : Path) (xs : List Block) → Decides (rise_after p xs) (((y : Block) → Mem y xs → IsBelow p.0 y.path.0) × Rising xs)
rises_after p [] = (λ e. (λ y m. absurd m, tt), λ h. refl)
rises_after p (x ∷ xs) = Decides-like _ more parts (Decides-and (is_below p x.path) (rise_after x.path xs) (lt_is (slice_cmp nat_cmp p.0 x.path.0)) (rises_after x.path xs))
  where
    below_all : IsBelow p.0 x.path.0 → ((y : Block) → Mem y xs → IsBelow x.path.0 y.path.0) → (y : Block) → Mem y (x ∷ xs) → IsBelow p.0 y.path.0
    below_all b h y (inl e) = subst (λ (z : Block). IsBelow p.0 z.path.0) (sym e) b
    below_all b h y (inr m) = nat_list_cmp_total.trans p.0 x.path.0 y.path.0 b (h y m)

    more : IsBelow p.0 x.path.0 × (((y : Block) → Mem y xs → IsBelow x.path.0 y.path.0) × Rising xs) → ((y : Block) → Mem y (x ∷ xs) → IsBelow p.0 y.path.0) × Rising (x ∷ xs)
    more h = (below_all h.0 (h.1).0, h.1)

    parts : ((y : Block) → Mem y (x ∷ xs) → IsBelow p.0 y.path.0) × Rising (x ∷ xs) → IsBelow p.0 x.path.0 × (((y : Block) → Mem y xs → IsBelow x.path.0 y.path.0) × Rising xs)
    parts k = (k.0 x (inl refl), k.1)

pub rising_is : (xs : List Block) → Decides (rise xs) (Rising xs)
unfolding rise
rising_is [] = (λ e. tt, λ h. refl)
rising_is (x ∷ xs) = rises_after x.path xs

-- each block cause is known

module _ (before : List Block) (x : Block) (P : Path → Type 0) (d : (q : Path) → Decides (has_path before q) (P q)) where
  one_more : (q : Path) → Decides (has_path (before ++ x ∷ []) q) ((q ≡ x.path) ⊎ P q)
  one_more q = Decides-at _ _ (list_any-append (λ (b : Block). same_path b.path q) before (x ∷ [])) (Decides-like _ turned back (Decides-or _ _ (d q) (Decides-or _ _ (same_path_is x.path q) never)))
    where
      turned : P q ⊎ ((x.path ≡ q) ⊎ ⊥) → (q ≡ x.path) ⊎ P q
      turned (inl h) = inr h
      turned (inr (inl e)) = inl (sym e)
      turned (inr (inr h)) = absurd h

      back : (q ≡ x.path) ⊎ P q → P q ⊎ ((x.path ≡ q) ⊎ ⊥)
      back (inl e) = inr (inl (sym e))
      back (inr h) = inl h

causes_is : (before xs : List Block) (P : Path → Type 0) → ((q : Path) → Decides (has_path before q) (P q)) → Decides (causes_known before xs) (CausesBefore P xs)
unfolding causes_known
causes_is before [] P d = (λ e. tt, λ h. refl)
causes_is before (x ∷ xs) P d = Decides-and (list_all (has_path before) x.after) (causes_known (before ++ x ∷ []) xs) (all_each (has_path before) P d x.after) (causes_is (before ++ x ∷ []) xs (λ q. (q ≡ x.path) ⊎ P q) (one_more before x P d))

-- messages are signed

signed_is : (c : ℕ) (x : Block) (k : ℕ) (ms : List Message) → Decides (are_signed c x k ms) (Numbered c x k ms)
unfolding are_signed
signed_is c x k [] = (λ e. tt, λ h. refl)
signed_is c x k (m ∷ ms) = Decides-and (is_signed c x k m) (are_signed c x (k + 1) ms) (same_origin_is m.origin (record { chare = c; path = x.path; index = k; depth = x.depth })) (signed_is c x (k + 1) ms)

-- what is sent

pub in_front : {X : Type 0} (m : X) (xs ys : List X) → Mem m xs → Mem m (xs ++ ys)
in_front m [] ys i = absurd i
in_front m (x ∷ xs) ys (inl e) = inl e
in_front m (x ∷ xs) ys (inr i) = inr (in_front m xs ys i)

pub behind : {X : Type 0} (m : X) (xs ys : List X) → Mem m ys → Mem m (xs ++ ys)
behind m [] ys i = i
behind m (x ∷ xs) ys i = inr (behind m xs ys i)

pub either : {X : Type 0} (m : X) (xs ys : List X) → Mem m (xs ++ ys) → Mem m xs ⊎ Mem m ys
either m [] ys i = inr i
either m (x ∷ xs) ys (inl e) = inl (inl e)
either {X} m (x ∷ xs) ys (inr i) = further (either m xs ys i)
  where
    further : Mem m xs ⊎ Mem m ys → Mem m (x ∷ xs) ⊎ Mem m ys
    further (inl h) = inl (inr h)
    further (inr h) = inr h

by_block : (bs : List Block) (b : Block) (m : Message) → Mem b bs → Mem m b.sends → Mem m (sends_of bs)
by_block [] b m i k = absurd i
by_block (x ∷ xs) b m (inl e) i = in_front m x.sends (sends_of xs) (subst (λ (z : Block). Mem m z.sends) e i)
by_block (x ∷ xs) b m (inr k) i = behind m x.sends (sends_of xs) (by_block xs b m k i)

by_history : (hs : List History) (h : History) (m : Message) → Mem h hs → Mem m (sends_of h.blocks) → Mem m (sent hs)
by_history [] h m i k = absurd i
by_history (x ∷ xs) h m (inl e) i = in_front m (sends_of x.blocks) (sent xs) (subst (λ (z : History). Mem m (sends_of z.blocks)) e i)
by_history (x ∷ xs) h m (inr k) i = behind m (sends_of x.blocks) (sent xs) (by_history xs h m k i)

pub its_block : (bs : List Block) (m : Message) → Mem m (sends_of bs) → SomeOf (λ b. Mem m b.sends) bs
its_block [] m i = absurd i
its_block (x ∷ xs) m i = which (either m x.sends (sends_of xs) i) (its_block xs m)
  where
    which : Mem m x.sends ⊎ Mem m (sends_of xs) → (Mem m (sends_of xs) → SomeOf (λ b. Mem m b.sends) xs) → SomeOf (λ b. Mem m b.sends) (x ∷ xs)
    which (inl k) f = record { one = x; is_in = inl refl; holds = k }
    which (inr k) f = let s = f k in record { one = s.one; is_in = inr s.is_in; holds = s.holds }

pub its_history : (hs : List History) (m : Message) → Mem m (sent hs) → SomeOf (λ h. Mem m (sends_of h.blocks)) hs
its_history [] m i = absurd i
its_history (x ∷ xs) m i = which (either m (sends_of x.blocks) (sent xs) i) (its_history xs m)
  where
    which : Mem m (sends_of x.blocks) ⊎ Mem m (sent xs) → (Mem m (sent xs) → SomeOf (λ h. Mem m (sends_of h.blocks)) xs) → SomeOf (λ h. Mem m (sends_of h.blocks)) (x ∷ xs)
    which (inl k) f = record { one = x; is_in = inl refl; holds = k }
    which (inr k) f = let s = f k in record { one = s.one; is_in = inr s.is_in; holds = s.holds }

-- what came by the mail was sent

module _ (c : ℕ) (o : Origin) where
  came_is : (m : Message) → Decides (came_from c o m) ((m.sent.to ≡ c) × (m.origin ≡ o))
  came_is m = Decides-and _ _ (Decides-eqb m.sent.to c) (same_origin_is m.origin o)

  send_is : (hs : List History) → Decides (some_send hs c o) (SentTo hs c o)
  unfolding some_send
  send_is hs = Decides-like _ given found (any_some (history_sends c o) (λ h. SomeOf (λ b. SomeOf (λ m. (m.sent.to ≡ c) × (m.origin ≡ o)) b.sends) h.blocks)
      (λ h. any_some (block_sends c o) (λ b. SomeOf (λ m. (m.sent.to ≡ c) × (m.origin ≡ o)) b.sends)
      (λ b. any_some (came_from c o) (λ m. (m.sent.to ≡ c) × (m.origin ≡ o)) came_is b.sends) h.blocks) hs)
    where
      given : SomeOf (λ h. SomeOf (λ b. SomeOf (λ m. (m.sent.to ≡ c) × (m.origin ≡ o)) b.sends) h.blocks) hs → SentTo hs c o
      given s = let t = s.holds in let u = t.holds in record {
        message = u.one;
        is_sent = by_history hs s.one u.one s.is_in (by_block (s.one).blocks t.one u.one t.is_in u.is_in);
        to = (u.holds).0;
        origin = (u.holds).1;
      }

      found : SentTo hs c o → SomeOf (λ h. SomeOf (λ b. SomeOf (λ m. (m.sent.to ≡ c) × (m.origin ≡ o)) b.sends) h.blocks) hs
      found s =
          let h = its_history hs s.message s.is_sent in
          let b = its_block (h.one).blocks s.message h.holds in
          record { one = h.one; is_in = h.is_in; holds = record { one = b.one; is_in = b.is_in; holds = record { one = s.message; is_in = b.holds; holds = (s.to, s.origin) } } }

-- how often a key is sent

times_in_is : (c : ℕ) (k : Key) (bs : List Block) → times_in c k bs ≡ count_by (is_for c k) (sends_of bs)
times_in_is c k [] = refl
times_in_is c k (b ∷ bs) = sum_by-cons (times_by c k) b bs ∙ ap (λ n. times_by c k b + n) (times_in_is c k bs) ∙ sym (sum_by-append _ b.sends (sends_of bs))

times_sum : (c : ℕ) (k : Key) (hs : List History) → sum_by (times_of c k) hs ≡ count_by (is_for c k) (sent hs)
times_sum c k [] = refl
times_sum c k (h ∷ hs) = sum_by-cons (times_of c k) h hs ∙ (λ j. times_in_is c k h.blocks j + times_sum c k hs j) ∙ sym (sum_by-append _ (sends_of h.blocks) (sent hs))

times_is : (c : ℕ) (k : Key) (hs : List History) → times_sent hs c k ≡ count_by (is_for c k) (sent hs)
unfolding times_sent
times_is c k hs = times_sum c k hs

-- one history, and all

lacking_is : (hs : List History) (c : ℕ) (w : WaitAt) → Decides (is_lacking hs c w) ((m : Message) → Mem m (sent hs) → is_for c w.key m ≡ false)
lacking_is hs c w = Decides-at _ _ (ap (λ n. n == 0) (times_is c w.key hs)) (none_is (is_for c w.key) (sent hs))

block_is : (hs : List History) (c : ℕ) (x : Block) → Decides (block_is_sound hs c x) (Numbered c x 1 x.sends × ((o : Origin) → Mem o x.mail → SentTo hs c o))
block_is hs c x = Decides-and (are_signed c x 1 x.sends) (mail_is_sent hs c x) (signed_is c x 1 x.sends) (all_each (some_send hs c) (SentTo hs c) (λ o. send_is c o hs) x.mail)

abbrev SoundParts : List History → ℕ → History → Type 0
SoundParts hs c h = Rising h.blocks × (CausesBefore (λ q. ⊥) h.blocks × (((x : Block) → Mem x h.blocks → Numbered c x 1 x.sends × ((o : Origin) → Mem o x.mail → SentTo hs c o)) × ((w : WaitAt) → Mem w h.waits → (m : Message) → Mem m (sent hs) → is_for c w.key m ≡ false)))

sound_is : (hs : List History) (c : ℕ) (h : History) → Decides (is_sound hs c h) (IsSound hs c h)
unfolding is_sound
sound_is hs c h = Decides-like _ whole parts
    (Decides-and _ _ (rising_is h.blocks)
    (Decides-and _ _ (causes_is [] h.blocks (λ q. ⊥) (λ q. never))
    (Decides-and _ _ (all_each (block_is_sound hs c) (λ x. Numbered c x 1 x.sends × ((o : Origin) → Mem o x.mail → SentTo hs c o)) (block_is hs c) h.blocks)
    (all_each (is_lacking hs c) (λ w. (m : Message) → Mem m (sent hs) → is_for c w.key m ≡ false) (lacking_is hs c) h.waits))))
  where
    whole : SoundParts hs c h → IsSound hs c h
    whole p = record {
      rising = p.0;
      causes = (p.1).0;
      sends = λ x m. (((p.1).1).0 x m).0;
      mail = λ x m. (((p.1).1).0 x m).1;
      waits = ((p.1).1).1;
    }

    parts : IsSound hs c h → SoundParts hs c h
    parts s = (s.rising, (s.causes, ((λ x m. (s.sends x m, s.mail x m)), s.waits)))

are_sound_is : (all : List History) (c : ℕ) (hs : List History) → Decides (are_sound all c hs) (AreSound all c hs)
unfolding are_sound
are_sound_is all c [] = (λ e. tt, λ h. refl)
are_sound_is all c (h ∷ hs) = Decides-and (is_sound all c h) (are_sound all (c + 1) hs) (sound_is all c h) (are_sound_is all (c + 1) hs)

-- each key is asked and sent once

asks_is : (h : History) → Decides (asks_once h) (Apart one_asked h.asked)
asks_is h = apart_is one_asked (λ a. key_itself a.key) (λ a b. key_symm a.key b.key) h.asked

sent_once_is : (hs : List History) (m : Message) → Decides (is_sent_once hs m) (count_by (λ y. one_key y m) (sent hs) ≤ 1)
sent_once_is hs m = Decides-at _ _ (ap (λ n. nat_le n 1) (times_is m.sent.to m.sent.key hs)) (le_is _ 1)

abbrev SentParts : List History → Type 0
SentParts hs = (h : History) → Mem h hs → (x : Block) → Mem x h.blocks → (m : Message) → Mem m x.sends → count_by (λ y. one_key y m) (sent hs) ≤ 1

all_sent_is : (hs : List History) → Decides (list_all (sends_once hs) hs) (Apart one_key (sent hs))
all_sent_is hs = Decides-like _ whole parts
    (all_each (sends_once hs) (λ h. (x : Block) → Mem x h.blocks → (m : Message) → Mem m x.sends → count_by (λ y. one_key y m) (sent hs) ≤ 1)
    (λ h. all_each (block_sends_once hs) (λ x. (m : Message) → Mem m x.sends → count_by (λ y. one_key y m) (sent hs) ≤ 1)
    (λ x. all_each (is_sent_once hs) (λ m. count_by (λ y. one_key y m) (sent hs) ≤ 1) (sent_once_is hs) x.sends) h.blocks) hs)
  where
    once : SentParts hs → (m : Message) → Mem m (sent hs) → count_by (λ y. one_key y m) (sent hs) ≤ 1
    once p m i =
        let h = its_history hs m i in
        let b = its_block (h.one).blocks m h.holds in
        p h.one h.is_in b.one b.is_in m b.holds

    whole : SentParts hs → Apart one_key (sent hs)
    whole p = apart_from one_key message_itself message_symm (sent hs) (once p)

    parts : Apart one_key (sent hs) → SentParts hs
    parts a h i x k m j = apart_to one_key message_itself message_symm (sent hs) a m (by_history hs h m i (by_block h.blocks x m k j))

once_is : (hs : List History) → Decides (keys_are_apart hs) (Once hs)
unfolding keys_are_apart
once_is hs = Decides-like _ whole parts (Decides-and _ _ (all_as_each asks_once (λ h. Apart one_asked h.asked) asks_is hs) (all_sent_is hs))
  where
    whole : Each (λ h. Apart one_asked h.asked) hs × Apart one_key (sent hs) → Once hs
    whole p = record { sent = p.1; asked = p.0 }

    parts : Once hs → Each (λ h. Apart one_asked h.asked) hs × Apart one_key (sent hs)
    parts o = (o.asked, o.sent)

small_is : (hs : List History) → Decides (is_small hs) ((1 ≤ length hs) × ((length hs ≤ 65536) × (size_all hs ≤ 262144)))
unfolding is_small
small_is hs = Decides-and _ _ (le_is 1 (length hs)) (Decides-and _ _ (le_is (length hs) 65536) (le_is (size_all hs) 262144))

abbrev AllParts : List History → Type 0
AllParts hs = ((1 ≤ length hs) × ((length hs ≤ 65536) × (size_all hs ≤ 262144))) × (AreSound hs 0 hs × Once hs)

pub passes_is : (hs : List History) → Decides (passes hs) (LooksClosed hs)
unfolding passes
passes_is hs = Decides-like _ whole parts (Decides-and _ _ (small_is hs) (Decides-and _ _ (are_sound_is hs 0 hs) (once_is hs)))
  where
    whole : AllParts hs → LooksClosed hs
    whole p = record { some = (p.0).0; count = ((p.0).1).0; sound = (p.1).0; once = (p.1).1; size = ((p.0).1).1 }

    parts : LooksClosed hs → AllParts hs
    parts l = ((l.some, (l.count, l.size)), (l.sound, l.once))
