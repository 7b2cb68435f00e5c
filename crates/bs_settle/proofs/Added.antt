-- Shares to which something is added.
use Rattle.std.proofs.Common.{◌≡◌, ◌≢◌, ◌≤◌, ◌<◌, ◌+◌, ◌++◌, ◌==◌, ◌⊎◌, inl, inr, ℕ, List, [], ◌∷◌, Some, length, get_or, set, refl, sym, ap, subst, ◌∙◌, append-nil, arith}
use Rattle.std.specs.List.{slice_get}
use Rattle.std.proofs.lemmas.List.{length-append, length-set}
use Rattle.std.proofs.lemmas.Option.{slice_get_within}
use Rattle.bs_log.specs.declared.log.MailRef.{MailRef}
use Rattle.bs_num.specs.declared.ticks.Tick.{Tick}
use Rattle.bs_log.specs.Lists.{Mem}
use Rattle.bs_times.specs.Net.{Net, HasRow}
use Rattle.bs_times.specs.Times.{IsOn}
use Rattle.bs_line.specs.declared.making.Estimate.{Estimate}
use Rattle.bs_line.specs.Listing.{row_if}
use Rattle.bs_line.specs.Making.{kept, kept_one}
use Rattle.bs_line.specs.Places.{AreThose}
use Rattle.bs_settle.specs.declared.shares.Share.{Share}
use Rattle.bs_settle.specs.Shares.{AreAdded, AreShares, IsAdded, IsShareOf, from_test, to_test}
use Rattle.bs_settle.proofs.Columns.{each_after, item_last, item_left, last_place, one_item}
use Rattle.bs_line.proofs.Kept.{kept_more}
use Rattle.bs_line.proofs.Chosen.{those_next, those_none}

-- something is added to the share at place k, and nothing to others.
pub added_one : (old : List Share) (k : ℕ) (a b : Share) (rows : ℕ → List ℕ) (comes goes : ℕ → List Estimate) → slice_get old k ≡ Some a → IsAdded a b (rows k) (comes k) (goes k) → ((p : ℕ) → p ≢ k → (rows p ≡ []) × (comes p ≡ []) × (goes p ≡ [])) → AreAdded old (set old k b) rows comes goes
added_one old k a b rows comes goes here is none = record {
  long = length-set old k b;
  each = each_after (λ p y. (x : Share) × (slice_get old p ≡ Some x) × IsAdded x y (rows p) (comes p) (goes p)) old k b (a, here, is)
      (λ p x n e. (
        x,
        e,
        record {
          rows_are = sym (append-nil x.rows) ∙ ap (λ xs. x.rows ++ xs) (sym (none p n).0);
          comes_are = sym (append-nil x.comes) ∙ ap (λ xs. x.comes ++ xs) (sym (none p n).1);
          goes_are = sym (append-nil x.goes) ∙ ap (λ xs. x.goes ++ xs) (sym (none p n).2);
        },
      )) (slice_get_within old k a here);
}

-- the next row goes to its processor.
pub row_shared : (net : Net) (many n h : ℕ) (mails : List MailRef) (ticks : List Tick) (old new : List Share) → HasRow net (n + 1) → h ≡ net.home (n + 1) → AreShares net many n 0 mails ticks old → AreAdded old new (λ p. row_if (h == p) (n + 1)) (λ p. []) (λ p. []) → AreShares net many (n + 1) 0 mails ticks new
row_shared net many n h mails ticks old new has is s d = record {
  many_of = d.long ∙ s.many_of;
  each = λ p b e.
      let x = d.each p b e in
      let was : IsShareOf net p n 0 mails ticks x.0 = s.each p x.0 x.1 in
      record {
        rows = those_next net p n h x.0.rows b.rows was.rows has is x.2.rows_are;
        comes = ap (λ xs. xs ++ kept (to_test net p) mails ticks) (x.2.comes_are ∙ append-nil x.0.comes) ∙ was.comes;
        goes = ap (λ xs. xs ++ kept (from_test net p) mails ticks) (x.2.goes_are ∙ append-nil x.0.goes) ∙ was.goes;
      };
}

-- the next message goes to the processor that it comes to, and to that of its sender.
pub mail_shared : (net : Net) (many n k to from : ℕ) (mails : List MailRef) (ticks : List Tick) (d : MailRef) (t : Tick) (old mid new : List Share) → k < length mails → length ticks ≡ length mails → to ≡ net.goes_to (get_or mails k d) → from ≡ net.home (get_or mails k d).row → AreShares net many n k mails ticks old → AreAdded old mid (λ p. []) (λ p. kept_one (to == p) (get_or mails k d) (get_or ticks k t)) (λ p. []) → AreAdded mid new (λ p. []) (λ p. []) (λ p. kept_one (from == p) (get_or mails k d) (get_or ticks k t)) → AreShares net many n (k + 1) mails ticks new
mail_shared net many n k to from mails ticks d t old mid new lt l goes comes s x y = record {
  many_of = y.long ∙ x.long ∙ s.many_of;
  each = λ p b e.
      let v = y.each p b e in
      let u = x.each p v.0 v.1 in
      let was : IsShareOf net p n k mails ticks u.0 = s.each p u.0 u.1 in
      record {
        rows = rw (v.2.rows_are ∙ append-nil v.0.rows ∙ u.2.rows_are ∙ append-nil u.0.rows) was.rows;
        comes = kept_more (to_test net p) mails ticks k d t (to == p) u.0.comes b.comes (kept (to_test net p) mails ticks) lt l (ap (λ q. q == p) goes) was.comes (v.2.comes_are ∙ append-nil v.0.comes ∙ u.2.comes_are);
        goes = kept_more (from_test net p) mails ticks k d t (from == p) u.0.goes b.goes (kept (from_test net p) mails ticks) lt l (ap (λ q. q == p) comes) was.goes (v.2.goes_are ∙ ap (λ xs. xs ++ kept_one (from == p) (get_or mails k d) (get_or ticks k t)) (u.2.goes_are ∙ append-nil u.0.goes));
      };
}

-- a share of nothing more.
pub nothing_more : (net : Net) (n : ℕ) (mails : List MailRef) (ticks : List Tick) (shares : List Share) (nothing : Share) → nothing.rows ≡ [] → nothing.comes ≡ [] → nothing.goes ≡ [] → AreShares net n 0 0 mails ticks shares → AreShares net (n + 1) 0 0 mails ticks (shares ++ nothing ∷ [])
nothing_more net n mails ticks shares nothing rows comes goes s = record {
  many_of = grown ∙ ap (λ k. k + 1) s.many_of;
  each = λ p share e. each p share e (last_place (length shares) p (omega (arith, slice_get_within (shares ++ nothing ∷ []) p share e, grown)));
}
  where
    grown : length (shares ++ nothing ∷ []) ≡ length shares + 1
    grown = length-append shares (nothing ∷ [])

    none : (p : ℕ) → IsShareOf net p 0 0 mails ticks nothing
    none p = record {
      rows = subst (AreThose (λ i. IsOn net p i × (i ≤ 0))) (sym rows) (those_none net p);
      comes = ap (λ xs. xs ++ kept (to_test net p) mails ticks) comes;
      goes = ap (λ xs. xs ++ kept (from_test net p) mails ticks) goes;
    }

    each : (p : ℕ) (share : Share) → slice_get (shares ++ nothing ∷ []) p ≡ Some share → (p < length shares) ⊎ (p ≡ length shares) → IsShareOf net p 0 0 mails ticks share
    each p share e (inl lt) = s.each p share (sym (item_left shares (nothing ∷ []) p lt) ∙ e)
    each p share e (inr q) = subst (IsShareOf net p 0 0 mails ticks) (one_item (slice_get (shares ++ nothing ∷ []) p) nothing share (ap (slice_get (shares ++ nothing ∷ [])) q ∙ item_last shares nothing) e) (none p)

-- rows that aren't none have one.
pub some_row : (rows : List ℕ) → (length rows ≡ 0 → ⊥) → (i : ℕ) × Mem i rows
some_row [] n = absurd (n refl)
some_row (i ∷ rows) n = (i, inl refl)
