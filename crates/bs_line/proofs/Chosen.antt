-- The rows of a processor, one after another, and the messages that rows list.
use Rattle.std.proofs.Common.{◌≡◌, ◌≤◌, ◌<◌, ◌+◌, ◌⊎◌, inl, inr, ◌↔◌, ◌++◌, ℕ, suc, List, [], ◌∷◌, length, get_or, refl, sym, ap, subst, ◌∙◌, ◌==◌, append-nil, arith}
use Rattle.std.proofs.lemmas.Bool.{cases_eq, cases_lt, eq-eqb, ne_eqb}
use Rattle.bs_log.specs.declared.log.MailRef.{MailRef}
use Rattle.bs_log.specs.declared.log.Log.{Log}
use Rattle.bs_log.specs.Lists.{Mem, InOrder}
use Rattle.bs_semantics.specs.Serial.{Machine}
use Rattle.bs_times.specs.Net.{Net, HasRow, net_of, no_row, row_of}
use Rattle.bs_times.specs.Times.{IsListed, IsOn}
use Rattle.bs_times.proofs.Found.{numbered_is}
use Rattle.bs_times.proofs.Members.{mem_cases, mem_left, mem_right}
use Rattle.bs_line.specs.Listing.{HasAdded, keyed, row_if}
use Rattle.bs_line.specs.Places.{AreMails, AreThose}

in_order_push : {A : Type 0} (R : A → A → Type 0) (xs : List A) (x : A) → InOrder R xs → ((y : A) → Mem y xs → R y x) → InOrder R (xs ++ x ∷ [])
in_order_push R [] x o h = (λ y m. absurd m, tt)
in_order_push {A} R (y ∷ ys) x o h = (above, in_order_push R ys x o.1 (λ z m. h z (inr m)))
  where
    one : (z : A) → Mem z ys ⊎ Mem z (x ∷ []) → R y z
    one z (inl m) = o.0 z m
    one z (inr (inl e)) = subst (λ w. R y w) (sym e) (h y (inl refl))
    one z (inr (inr m)) = absurd m

    above : (z : A) → Mem z (ys ++ x ∷ []) → R y z
    above z m = one z (mem_cases z ys (x ∷ []) m)

module _ (net : Net) (p : ℕ) where
  abbrev pub UpTo : ℕ → ℕ → Type 0
  UpTo n i = IsOn net p i × (i ≤ n)

  last : (n i : ℕ) → i ≤ n + 1 → (i ≤ n) ⊎ (i ≡ n + 1)
  last n i le = grind arith

  pub those_none : AreThose (UpTo 0) []
  those_none = record { rises = tt; all = λ i. (λ d. omega (arith, d.0.0.0, d.1), λ m. absurd m) }

  pub those_more : (n : ℕ) (rows new : List ℕ) → AreThose (UpTo n) rows → IsOn net p (n + 1) → new ≡ rows ++ (n + 1) ∷ [] → AreThose (UpTo (n + 1)) new
  those_more n rows new h on e = rw e (record {
    rises = in_order_push (λ i j. i < j) rows (n + 1) h.rises (λ y m. let d = (h.all y).1 m in omega (arith, d.1));
    all = λ i. (λ d. there i d (last n i d.1), λ m. back i (mem_cases i rows ((n + 1) ∷ []) m));
  })
    where
      there : (i : ℕ) → UpTo (n + 1) i → (i ≤ n) ⊎ (i ≡ n + 1) → Mem i (rows ++ (n + 1) ∷ [])
      there i d (inl le) = mem_left i rows ((n + 1) ∷ []) ((h.all i).0 (d.0, le))
      there i d (inr q) = mem_right i rows ((n + 1) ∷ []) (inl q)

      back : (i : ℕ) → Mem i rows ⊎ Mem i ((n + 1) ∷ []) → UpTo (n + 1) i
      back i (inl m) = let d = (h.all i).1 m in (d.0, omega (arith, d.1))
      back i (inr (inl q)) = (subst (IsOn net p) (sym q) on, omega (arith, q))
      back i (inr (inr m)) = absurd m

  pub those_same : (n : ℕ) (rows : List ℕ) → AreThose (UpTo n) rows → (IsOn net p (n + 1) → ⊥) → AreThose (UpTo (n + 1)) rows
  those_same n rows h off = record { rises = h.rises; all = λ i. (λ d. there i d (last n i d.1), λ m. let d = (h.all i).1 m in (d.0, omega (arith, d.1))) }
    where
      there : (i : ℕ) → UpTo (n + 1) i → (i ≤ n) ⊎ (i ≡ n + 1) → Mem i rows
      there i d (inl le) = (h.all i).0 (d.0, le)
      there i d (inr q) = absurd (off (subst (IsOn net p) q d.0))

  -- the next row is added where it is on the processor.
  pub those_next : (n h : ℕ) (rows new : List ℕ) → AreThose (UpTo n) rows → HasRow net (n + 1) → h ≡ net.home (n + 1) → new ≡ rows ++ row_if (h == p) (n + 1) → AreThose (UpTo (n + 1)) new
  those_next n h rows new those has is e = go (cases_eq h p)
    where
      go : (h ≡ p) ⊎ (h ≡ p → ⊥) → AreThose (UpTo (n + 1)) new
      go (inl on) = those_more n rows new those (has, sym is ∙ on) (e ∙ ap (λ b. rows ++ row_if b (n + 1)) (eq-eqb h p on))
      go (inr off) = subst (AreThose (UpTo (n + 1))) (sym (e ∙ ap (λ b. rows ++ row_if b (n + 1)) (ne_eqb h p off) ∙ append-nil rows)) (those_same n rows those (λ on. off (is ∙ on.1)))

  pub those_all : (n : ℕ) (rows : List ℕ) → AreThose (UpTo n) rows → net.rows ≤ n → AreThose (IsOn net p) rows
  those_all n rows h le = record { rises = h.rises; all = λ i. (λ on. (h.all i).0 (on, omega (arith, on.0.1, le)), λ m. ((h.all i).1 m).0) }

-- ---- listed messages

pub row_next : (log : Log) (k : ℕ) → get_or log.rows k no_row ≡ row_of log (k + 1)
row_next log k = let e : suc k ≡ k + 1 = omega arith in sym (numbered_is log.rows k no_row) ∙ ap (row_of log) e

-- a message that one of the first n rows lists.
abbrev pub ListedTo : Log → ℕ → MailRef → Type 0
ListedTo log n m = (i : ℕ) × (1 ≤ i) × (i ≤ n) × Mem m (row_of log i).mail

abbrev pub KeysTo : Log → ℕ → List (ℕ × ℕ) → Type 0
KeysTo log n keys = (m : MailRef) → Mem (keyed m) keys ↔ ListedTo log n m

pub keys_none : (log : Log) → KeysTo log 0 []
keys_none log m = (λ k. absurd k, λ d. omega (arith, d.1, d.2))

pub keys_more : (log : Log) (n : ℕ) (old new : List (ℕ × ℕ)) → KeysTo log n old → HasAdded (row_of log (n + 1)).mail old new → KeysTo log (n + 1) new
keys_more log n old new h added m = (λ k. there ((added m).0 k), λ d. (added m).1 (back d (cases_lt d.0 (n + 1))))
  where
    there : Mem (keyed m) old ⊎ Mem m (row_of log (n + 1)).mail → ListedTo log (n + 1) m
    there (inl k) = let d = (h m).0 k in (d.0, d.1, omega (arith, d.2), d.3)
    there (inr k) = (n + 1, omega arith, omega arith, k)

    back : (d : ListedTo log (n + 1) m) → (d.0 < n + 1) ⊎ (n + 1 ≤ d.0) → Mem (keyed m) old ⊎ Mem m (row_of log (n + 1)).mail
    back d (inl lt) = inl ((h m).1 (d.0, d.1, omega (arith, lt), d.3))
    back d (inr le) = let e : d.0 ≡ n + 1 = omega (arith, le, d.2) in inr (subst (λ i. Mem m (row_of log i).mail) e d.3)

pub keys_all : (log : Log) (machine : Machine) (n : ℕ) (keys : List (ℕ × ℕ)) (mails : List MailRef) → length log.rows ≡ n → KeysTo log n keys → AreMails (λ m. Mem (keyed m) keys) mails → AreMails (IsListed (net_of log machine)) mails
keys_all log machine n keys mails l h are = record {
  rises = are.rises;
  all = λ m. (
    λ d. (are.all m).0 ((h m).1 (d.0, d.1.0, omega (arith, d.1.1, l), d.2)),
    λ k. let d = (h m).0 ((are.all m).1 k) in (d.0, (d.1, omega (arith, d.2, l)), d.3),
  );
}
