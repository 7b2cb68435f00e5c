-- Tables that agree on early ready ticks agree on early starts; so there is one table.
use Rattle.std.proofs.Common.{◌≡◌, ℕ, zero, suc, ◌+◌, ◌<◌, ◌≤◌, ◌⊎◌, inl, inr, refl, sym, arith}
use Rattle.bs_log.specs.declared.log.MailRef.{MailRef}
use Rattle.bs_log.specs.Lists.{Mem}
use Rattle.bs_times.specs.Net.{Net, Starts, Ticks, HasRow, Causal}
use Rattle.bs_times.specs.Times.{Comes, IsOn, IsTable, IsConsistent, arrival, ready}
use Rattle.bs_times.proofs.Order.{Packed, packed, comes_ready, comes_same}
use Rattle.bs_times.proofs.Ready.{after_ready, mail_ready, ready_most}

-- where the rows that are ready before t are ready at the same ticks, none of them starts later in z than in s
no_later : (net : Net) (p t : ℕ) (r s q z : Starts) → Causal net → Packed net p r s → Packed net p q z → ((i : ℕ) → IsOn net p i → r i < t → r i ≡ q i) → (v i : ℕ) → IsOn net p i → s i < v → r i < t → s i ≤ z i
no_later net p t r s q z c a b same zero i on below early = omega arith
no_later net p t r s q z c a b same (suc v) i on below early = go (λ j. no_later net p t r s q z c a b same v j) (a.cause i on)
  where
    go : ((j : ℕ) → IsOn net p j → s j < v → r j < t → s j ≤ z j) → (s i ≡ r i) ⊎ ((j : ℕ) × IsOn net p j × Comes r j i × (s i ≡ s j + net.duration j)) → s i ≤ z i
    go ih (inl e) = omega (arith, same i on early, b.ready i on)
    go ih (inr d) =
        let long : 1 ≤ net.duration d.0 = c.duration d.0 d.1.0 in
        let before : r d.0 < t = omega (arith, comes_ready r d.0 i d.2) in
        let there : Comes q d.0 i = comes_same r q d.0 i (same d.0 d.1 before) (same i on early) d.2 in
        let less : s d.0 < v = omega (arith, d.3, long, below) in
        omega (arith, d.3, ih d.0 d.1 less before, b.follows d.0 i d.1 on there)

-- what is early in either is the same in both
abbrev pub Agree : Net → ℕ → Starts → Starts → Type 0
Agree net t r q = (i : ℕ) → HasRow net i → (r i < t) ⊎ (q i < t) → r i ≡ q i

pub turn : (net : Net) (t : ℕ) (r q : Starts) → Agree net t r q → Agree net t q r
turn net t r q h i on (inl e) = sym (h i on (inr e))
turn net t r q h i on (inr e) = sym (h i on (inl e))

pub early_starts : (net : Net) (t : ℕ) (held kept : Ticks) (s z : Starts) → Causal net → IsTable net held s → IsTable net kept z → Agree net t (ready net held s) (ready net kept z) → (i : ℕ) → HasRow net i → (ready net held s i < t) ⊎ (ready net kept z i < t) → s i ≡ z i
early_starts net t held kept s z c a b agree i row early =
    let p : ℕ = net.home i in
    let e : ready net held s i ≡ ready net kept z i = agree i row early in
    let r : ready net held s i < t = both early e in
    let one : s i ≤ z i = no_later net p t _ s _ z c (packed net p held s (a p)) (packed net p kept z (b p)) (λ j on h. agree j on.0 (inl h)) (suc (s i)) i (row, refl) (omega arith) r in
    let two : z i ≤ s i = no_later net p t _ z _ s c (packed net p kept z (b p)) (packed net p held s (a p)) (λ j on h. sym (agree j on.0 (inr h))) (suc (z i)) i (row, refl) (omega arith) (omega (arith, e, r)) in
    omega (arith, one, two)
  where
    both : (ready net held s i < t) ⊎ (ready net kept z i < t) → ready net held s i ≡ ready net kept z i → ready net held s i < t
    both (inl h) e = h
    both (inr h) e = omega (arith, h, e)

-- and the ticks of messages that are early
abbrev Ticks-Agree : Net → ℕ → Ticks → Ticks → Type 0
Ticks-Agree net t held kept = (i : ℕ) (m : MailRef) → HasRow net i → Mem m (net.mail i) → (held m ≤ t) ⊎ (kept m ≤ t) → held m ≡ kept m

abbrev Same : Net → ℕ → Ticks → Ticks → Starts → Starts → Type 0
Same net t held kept s z = Agree net t (ready net held s) (ready net kept z) × ((i : ℕ) → HasRow net i → (ready net held s i < t) ⊎ (ready net kept z i < t) → s i ≡ z i)

pub at_ready : (net : Net) (held : Ticks) (s : Starts) → IsTable net held s → (i : ℕ) → HasRow net i → ready net held s i ≤ s i
at_ready net held s a i row = (packed net (net.home i) held s (a (net.home i))).ready i (row, refl)

no_more : (net : Net) (t : ℕ) (held kept : Ticks) (s z : Starts) → Causal net → IsTable net held s → Same net t held kept s z → Ticks-Agree net t held kept → (i : ℕ) → HasRow net i → ready net held s i ≤ t → ready net kept z i ≤ ready net held s i
no_more net t held kept s z c a same ticks i row early = ready_most net kept z i (ready net held s i)
    (λ x m.
    let given : s x + net.duration x ≤ ready net held s i = after_ready net held s i x m in
    let has : HasRow net x = (c.after i x row m).0 in
    let long : 1 ≤ net.duration x = c.duration x has in
    let begun : ready net held s x ≤ s x = at_ready net held s a x has in
    let e : s x ≡ z x = same.1 x has (inl (omega (arith, given, long, begun, early))) in
    omega (arith, given, e))
    (λ m k.
    let given : held m ≤ ready net held s i = mail_ready net held s i m k in
    let e : held m ≡ kept m = ticks i m row k (inl (omega (arith, given, early))) in
    omega (arith, given, e))

next : (net : Net) (held kept : Ticks) (s z : Starts) → Causal net → IsTable net held s → IsTable net kept z → (t : ℕ) → Ticks-Agree net t held kept → Same net t held kept s z → Same net (suc t) held kept s z
next net held kept s z c a b t ticks before = (agree, early_starts net (suc t) held kept s z c a b agree)
  where
    swap : {A B : Type 0} → A ⊎ B → B ⊎ A
    swap (inl x) = inr x
    swap (inr x) = inl x

    turned : Same net t kept held z s
    turned = (turn net t _ _ before.0, λ i row h. sym (before.1 i row (swap h)))

    other : Ticks-Agree net t kept held
    other i m row k h = sym (ticks i m row k (swap h))

    agree : Agree net (suc t) (ready net held s) (ready net kept z)
    agree i row (inl h) =
        let one : ready net kept z i ≤ ready net held s i = no_more net t held kept s z c a before ticks i row (omega arith) in
        let two : ready net held s i ≤ ready net kept z i = no_more net t kept held z s c b turned other i row (omega (arith, one, h)) in
        omega (arith, one, two)
    agree i row (inr h) =
        let two : ready net held s i ≤ ready net kept z i = no_more net t kept held z s c b turned other i row (omega arith) in
        let one : ready net kept z i ≤ ready net held s i = no_more net t held kept s z c a before ticks i row (omega (arith, two, h)) in
        omega (arith, one, two)

same_below : (net : Net) (held kept : Ticks) (s z : Starts) → Causal net → IsTable net held s → IsTable net kept z → ((t : ℕ) → Same net t held kept s z → Ticks-Agree net t held kept) → (t : ℕ) → Same net t held kept s z
same_below net held kept s z c a b ticks zero = (λ i row h. absurd (none i h), λ i row h. absurd (none i h))
  where
    none : (i : ℕ) → (ready net held s i < 0) ⊎ (ready net kept z i < 0) → ⊥
    none i (inl h) = omega arith
    none i (inr h) = omega arith
same_below net held kept s z c a b ticks (suc t) =
    let before : Same net t held kept s z = same_below net held kept s z c a b ticks t in
    next net held kept s z c a b t (ticks t before) before

pub one_table : (net : Net) → Causal net → (held : Ticks) (s z : Starts) → IsTable net held s → IsTable net held z → (i : ℕ) → HasRow net i → s i ≡ z i
one_table net c held s z a b i row = (same_below net held held s z c a b (λ t same j m r k h. refl) (suc (ready net held s i))).1 i row (inl (omega arith))

pub one_consistent_table : (net : Net) → Causal net → (s z : Starts) → IsConsistent net s → IsConsistent net z → (i : ℕ) → HasRow net i → s i ≡ z i
one_consistent_table net c s z a b i row = (same_below net (arrival net s) (arrival net z) s z c a b ticks (suc (ready net (arrival net s) s i))).1 i row (inl (omega arith))
  where
    ticks : (t : ℕ) → Same net t (arrival net s) (arrival net z) s z → Ticks-Agree net t (arrival net s) (arrival net z)
    ticks t same j m r k (inl h) =
        let has : HasRow net m.row = (c.mail j m r k).0 in
        let far : 1 ≤ net.travel m = c.travel j m r k in
        let e : s m.row ≡ z m.row = same.1 m.row has (inl (omega (arith, h, far, at_ready net _ s a m.row has))) in
        omega (arith, e)
    ticks t same j m r k (inr h) =
        let has : HasRow net m.row = (c.mail j m r k).0 in
        let far : 1 ≤ net.travel m = c.travel j m r k in
        let e : s m.row ≡ z m.row = same.1 m.row has (inr (omega (arith, h, far, at_ready net _ z b m.row has))) in
        omega (arith, e)
