-- The chares of a program while messages are served.
use Rattle.std.proofs.Common.{◌≡◌, ◌≤◌, inl, inr, ℕ, zero, suc, ◌+◌, ◌==◌, Bool, true, false, cond, List, [], ◌∷◌, ◌++◌, Some, refl, sym, ap, ap₂, subst, ◌∙◌, length, map, filter, slice_get, slice_set, arith, append_assoc, append-nil, eqb-true}
use Rattle.std.proofs.lemmas.Bool.{eqb-false}
use Rattle.std.proofs.lemmas.List.{length-set, length_push}
use Rattle.bs_tree.specs.declared.tree.Program.{Program}
use Rattle.bs_log.specs.declared.history.Key.{Key}
use Rattle.bs_log.specs.declared.history.Message.{Message}
use Rattle.bs_log.specs.declared.history.Asked.{Asked}
use Rattle.bs_log.specs.declared.history.History.{History}
use Rattle.bs_log.specs.Size.{size}
use Rattle.bs_log.specs.Lists.{Mem, Apart, Each}
use Rattle.bs_log.specs.Messages.{one_asked, same_key, sends_of, sent}
use Rattle.bs_match.specs.Mail.{lookup}
use Rattle.bs_match.proofs.Keys.{same_key_is, same_key_refl}
use Rattle.bs_semantics.specs.Run.{Lookup, history}
use Rattle.bs_semantics.specs.Rounds.{from_to, histories, mail_to}
use Rattle.bs_chare.specs.declared.chare.Chare.{Chare}
use Rattle.bs_chare.specs.declared.fault.ChareFault.{ChareFault}
use Rattle.bs_chare.specs.declared.fault.ChareFault.TheVariants.{TwoSent, TwoAsked, Long, Memory}
use Rattle.bs_chare.specs.Asked.{askers}
use Rattle.bs_chare.specs.Chare.{told}
use Rattle.bs_chare.specs.Fault.{IsRunFault}
use Rattle.bs_emul.specs.declared.stop.Stop.TheVariants.{Unclean}
use Rattle.bs_emul.specs.Stop.{stop_of}
use Rattle.bs_emul.specs.World.{IsServed, AreServed}
use Rattle.bs_emul.proofs.Serving.{elsewhere}

-- ---- their histories

abbrev pub history_of : Chare → History
history_of x = x.history

pub history_is : (p : Program) (limit : ℕ) (ms : List Message) (c : ℕ) (x : Chare) → IsServed p limit ms c x → x.history ≡ history p limit c (mail_to ms c)
history_is p limit ms c x s = x.is_told
    ∙ (ap (λ t. told t x.accepted.now.program x.limit x.number (lookup x.mail)) s.begun
    ∙ (ap (λ q. history q x.limit x.number (lookup x.mail)) s.program
    ∙ (ap (λ n. history p n x.number (lookup x.mail)) s.bound
    ∙ (ap (λ c. history p limit c (lookup x.mail)) s.number
    ∙ ap (λ (l : Lookup). history p limit c l) s.mail))))

told_from : (f : ℕ → History) (n k : ℕ) (xs : List Chare) → length xs ≡ n → ((i : ℕ) (x : Chare) → slice_get xs i ≡ Some x → x.history ≡ f (k + i)) → map history_of xs ≡ map f (from_to k n)
told_from f zero k [] e h = refl
told_from f zero k (x ∷ xs) e h = absurd (omega (arith, e))
told_from f (suc n) k [] e h = absurd (omega (arith, e))
told_from f (suc n) k (x ∷ xs) e h =
    let at : k + 0 ≡ k = omega arith in
    ap₂ (λ y ys. y ∷ ys) (h 0 x refl ∙ ap f at) (told_from f n (k + 1) xs (omega (arith, e)) (λ i y q. let next : k + suc i ≡ (k + 1) + i = omega arith in h (suc i) y q ∙ ap f next))

pub histories_are : (p : Program) (limit : ℕ) (ms : List Message) (xs : List Chare) → AreServed p limit ms xs → map history_of xs ≡ histories p limit ms
histories_are p limit ms xs s = told_from (λ c. history p limit c (mail_to ms c)) p.chares 0 xs s.count (λ i x e. let at : i ≡ 0 + i = omega arith in history_is p limit ms i x (s.each i x e) ∙ ap (λ c. history p limit c (mail_to ms c)) at)

pub each_asks_once : (xs : List Chare) → Each (λ h. Apart one_asked h.asked) (map history_of xs)
each_asks_once [] = tt
each_asks_once (x ∷ xs) = (x.asks_once, each_asks_once xs)

-- ---- one of them serves a message

get_same : {A : Type 0} (xs : List A) (i : ℕ) (v x : A) → slice_get (slice_set xs i v) i ≡ Some x → v ≡ x
get_same [] i v x e = absurd (cc)
get_same (y ∷ xs) zero v x e = cc
get_same (y ∷ xs) (suc i) v x e = get_same xs i v x e

get_other : {A : Type 0} (xs : List A) (i j : ℕ) (v : A) → (i ≡ j → ⊥) → slice_get (slice_set xs i v) j ≡ slice_get xs j
get_other [] i j v h = refl
get_other (x ∷ xs) zero zero v h = absurd (h refl)
get_other (x ∷ xs) zero (suc j) v h = refl
get_other (x ∷ xs) (suc i) zero v h = refl
get_other (x ∷ xs) (suc i) (suc j) v h = get_other xs i j v (λ e. h (ap suc e))

-- a message is no mail of the others
stays : (p : Program) (limit : ℕ) (ms : List Message) (m : Message) (c : ℕ) (x : Chare) → (m.sent.to ≡ c → ⊥) → IsServed p limit ms c x → IsServed p limit (m ∷ ms) c x
stays p limit ms m c x n s = record { program = s.program; bound = s.bound; number = s.number; begun = s.begun; mail = s.mail ∙ sym (elsewhere ms m c n) }

pub one_serves : (p : Program) (limit : ℕ) (ms : List Message) (m : Message) (xs : List Chare) (x : Chare) → AreServed p limit ms xs → IsServed p limit (m ∷ ms) m.sent.to x → AreServed p limit (m ∷ ms) (slice_set xs m.sent.to x)
one_serves p limit ms m xs x s h = record { count = length-set xs m.sent.to x ∙ s.count; some = s.some; each = λ c y e. by_test c y e (m.sent.to == c) refl }
  where
    by_test : (c : ℕ) (y : Chare) → slice_get (slice_set xs m.sent.to x) c ≡ Some y → (t : Bool) → (m.sent.to == c) ≡ t → IsServed p limit (m ∷ ms) c y
    by_test c y e true t =
        let at : m.sent.to ≡ c = eqb-true _ _ t in
        let same : x ≡ y = get_same xs m.sent.to x y (subst (λ c. slice_get (slice_set xs m.sent.to x) c ≡ Some y) (sym at) e) in
        subst (λ y. IsServed p limit (m ∷ ms) c y) same (subst (λ c. IsServed p limit (m ∷ ms) c x) at h)
    by_test c y e false t =
        let n = eqb-false _ _ t in
        stays p limit ms m c y n (s.each c y (sym (get_other xs m.sent.to c x n) ∙ e))

-- ---- they are begun, one after the other

-- the chares before number k are begun, and what they send is left
pub record AreBegun (p : Program) (limit k : ℕ) (xs : List Chare) (queue : List Message) : Type 0 where
  pub count : length xs ≡ k
  pub each : (c : ℕ) (x : Chare) → slice_get xs c ≡ Some x → IsServed p limit [] c x
  pub left : queue ≡ sent (map history_of xs)

get_pushed : (P : ℕ → Chare → Type 0) (xs : List Chare) (x : Chare) (k : ℕ) → ((c : ℕ) (y : Chare) → slice_get xs c ≡ Some y → P (k + c) y) → P (k + length xs) x → (c : ℕ) (y : Chare) → slice_get (xs ++ x ∷ []) c ≡ Some y → P (k + c) y
get_pushed P [] x k h p zero y e = let same : x ≡ y = cc in subst (P (k + 0)) same p
get_pushed P [] x k h p (suc c) y e = absurd (cc)
get_pushed P (z ∷ xs) x k h p zero y e = h 0 y e
get_pushed P (z ∷ xs) x k h p (suc c) y e =
    let next : (i : ℕ) → k + suc i ≡ (k + 1) + i = λ i. omega arith in
    subst (λ n. P n y) (sym (next c)) (get_pushed P xs x (k + 1) (λ i w q. subst (λ n. P n w) (next i) (h (suc i) w q)) (subst (λ n. P n x) (next (length xs)) p) c y e)

sent_pushed : (xs : List Chare) (x : Chare) → sent (map history_of (xs ++ x ∷ [])) ≡ sent (map history_of xs) ++ sends_of x.history.blocks
sent_pushed [] x = append-nil (sends_of x.history.blocks)
sent_pushed (y ∷ xs) x = ap (λ ms. sends_of y.history.blocks ++ ms) (sent_pushed xs x) ∙ sym (append_assoc (sends_of y.history.blocks) (sent (map history_of xs)) (sends_of x.history.blocks))

pub one_begins : (p : Program) (limit k : ℕ) (xs : List Chare) (queue : List Message) (x : Chare) → AreBegun p limit k xs queue → IsServed p limit [] k x → AreBegun p limit (k + 1) (xs ++ x ∷ []) (queue ++ sends_of x.history.blocks)
one_begins p limit k xs queue x b s = record {
  count = length_push xs x ∙ ap (λ n. n + 1) b.count;
  each = λ c y e.
      let zero_add : (i : ℕ) → i ≡ 0 + i = λ i. omega arith in
      subst (λ n. IsServed p limit [] n y) (sym (zero_add c)) (get_pushed (IsServed p limit []) xs x 0 (λ i w q. subst (λ n. IsServed p limit [] n w) (zero_add i) (b.each i w q)) (subst (λ n. IsServed p limit [] n x) (sym b.count ∙ zero_add (length xs)) s) c y e);
  left = ap (λ ms. ms ++ sends_of x.history.blocks) b.left ∙ sym (sent_pushed xs x);
}

-- ---- they refuse

none_asks : (f : Asked → Bool) (xs : List Asked) → ((y : Asked) → Mem y xs → f y ≡ false) → length (filter f xs) ≤ 0
none_asks f [] h = omega arith
none_asks f (x ∷ xs) h = by_test (f x) (h x (inl refl)) (none_asks f xs (λ y i. h y (inr i)))
  where
    by_test : (t : Bool) → t ≡ false → length (filter f xs) ≤ 0 → length (cond t (x ∷ filter f xs) (filter f xs)) ≤ 0
    by_test true e l = absurd (cc)
    by_test false e l = l

-- of keys that are apart none is asked for twice
asked_once : (k : Key) (xs : List Asked) → Apart one_asked xs → length (askers k xs) ≤ 1
asked_once k [] h = omega arith
asked_once k (x ∷ xs) h = by_test (same_key x.key k) refl (asked_once k xs h.1)
  where
    other : same_key x.key k ≡ true → (y : Asked) → Mem y xs → same_key y.key k ≡ false
    other e y i = by_key (same_key y.key k) refl
      where
        by_key : (t : Bool) → same_key y.key k ≡ t → t ≡ false
        by_key true q =
            let same : x.key ≡ y.key = same_key_is x.key k e ∙ sym (same_key_is y.key k q) in
            let apart = h.0 y i in
            let itself : same_key x.key y.key ≡ true = ap (same_key x.key) (sym same) ∙ same_key_refl x.key in
            absurd (cc)
        by_key false q = refl

    by_test : (t : Bool) → same_key x.key k ≡ t → length (askers k xs) ≤ 1 → length (cond t (x ∷ askers k xs) (askers k xs)) ≤ 1
    by_test true e l = let none = none_asks (λ a. same_key a.key k) xs (other e) in omega (arith, none)
    by_test false e l = l

-- a history that isn't too long, and asks for no key twice, isn't refused
pub not_refused : (limit : ℕ) (h : History) (fault : ChareFault) → stop_of fault ≡ Unclean → size h ≤ limit → Apart one_asked h.asked → IsRunFault limit h fault → ⊥
not_refused limit h (TwoSent m) e small apart r = r
not_refused limit h (TwoAsked k p q) e small apart r =
    let one = asked_once k h.asked apart in
    let are = r.1.askers_are in
    let two = ap length are.are in
    omega (arith, one, two)
not_refused limit h Long e small apart r = omega (arith, small, r)
not_refused limit h Memory e small apart r = cc
