-- What comes of lines that were recomputed: a wave.
use Rattle.std.proofs.Common.{◌≡◌, ◌≢◌, ◌≤◌, ◌<◌, ◌+◌, ◌⊎◌, inl, inr, ℕ, Bool, true, false, if◌then◌else◌, List, [], ◌∷◌, Some, get_or, length, map, refl, sym, ap, subst, ◌∙◌, arith}
use Rattle.std.specs.List.{slice_get}
use Rattle.std.proofs.lemmas.Bool.{cases_Bool, cases_eq, true≢false}
use Rattle.std.proofs.lemmas.Option.{slice_get_within}
use Rattle.bs_log.specs.declared.log.MailRef.{MailRef}
use Rattle.bs_log.specs.Lists.{Mem}
use Rattle.bs_times.specs.Net.{Net, Ticks, Causal}
use Rattle.bs_times.specs.Times.{HasLine, IsLine, IsListed, IsTable, arrival}
use Rattle.bs_times.specs.Racing.{IsDirty, IsEven, IsUpToDate, Raced, same_mail}
use Rattle.bs_times.specs.Bounds.{AllFit, Fits, IsShort}
use Rattle.bs_times.proofs.Bounds.{line_fits}
use Rattle.bs_times.proofs.Listed.{empty_line, row_or_not}
use Rattle.bs_times.proofs.Members.{cases_le}
use Rattle.bs_times.proofs.Moved.{line_moved}
use Rattle.bs_times.proofs.Racing.{mail_tells}
use Rattle.bs_schedule.specs.Plan.{at}
use Rattle.bs_line.specs.declared.corrections.Correction.{Correction}
use Rattle.bs_line.specs.declared.line.Line.{Line}
use Rattle.bs_line.specs.Line.{given_of, starts_of, used_of}
use Rattle.bs_settle.specs.Changes.{AreApart, AreChanges, AreOrdered, HasChange, IsChange, held_after}
use Rattle.bs_settle.specs.Gathering.{AreRefreshed, IsLineChange}
use Rattle.bs_settle.specs.Lines.{AreLines, IsCurrent, IsFresh, IsLineOf, begun_in, given_in, held_in, starts_in, used_in, world_in}
use Rattle.bs_settle.proofs.Columns.{one_item, picked, some_item}
use Rattle.bs_settle.proofs.Held.{same_itself}
use Rattle.bs_settle.proofs.Lines.{Found, begun_at, found, given_at, held_at, line_same, receiver, sender, start_at, used_at}

-- ---- corrections

-- those of one message are the same.
pub one_change : (net : Net) (old new : Ticks) (c d : Correction) → IsChange net old new c → IsChange net old new d → c.mail ≡ d.mail → c ≡ d
one_change net old new c d x y e =
    let to : c.to ≡ d.to = x.to ∙ ap net.goes_to e ∙ sym y.to in
    let was : c.was.0 ≡ d.was.0 = x.was ∙ ap old e ∙ sym y.was in
    let tick : c.tick.0 ≡ d.tick.0 = x.tick ∙ ap new e ∙ sym y.tick in
    λ i. record { mail = e i; to = to i; was = record { 0 = was i }; tick = record { 0 = tick i } }

pub changes_apart : (net : Net) (old new : Ticks) (cs : List Correction) → AreChanges net old new cs → AreApart cs
changes_apart net old new cs h c d m n e = one_change net old new c d (h.sound c m) (h.sound d n) e

-- the same changes in another order.
pub changes_ordered : (net : Net) (old new : Ticks) (cs list : List Correction) → AreChanges net old new cs → AreOrdered cs list → AreChanges net old new list
changes_ordered net old new cs list h o = record {
  sound = λ c m. h.sound c ((o.same c).0 m);
  all = λ m l n. let d = h.all m l n in (d.0, (o.same d.0).1 d.1, d.2);
}

-- the same changes of ticks that are the same.
pub changes_same : (net : Net) (old new was now : Ticks) (cs : List Correction) → ((m : MailRef) → IsListed net m → was m ≡ old m) → ((m : MailRef) → IsListed net m → now m ≡ new m) → AreChanges net old new cs → AreChanges net was now cs
changes_same net old new was now cs e f h = record {
  sound = λ c m. let x = h.sound c m in record {
    listed = x.listed;
    to = x.to;
    was = x.was ∙ sym (e c.mail x.listed);
    tick = x.tick ∙ sym (f c.mail x.listed);
    differs = λ q. x.differs (sym (e c.mail x.listed) ∙ q ∙ f c.mail x.listed);
  };
  all = λ m l n. h.all m l (λ q. n (e m l ∙ q ∙ sym (f m l)));
}

-- a message is held at u after corrections that all have u for it, if it was or if there is one.
pub held_is : (cs : List Correction) (m : MailRef) (tick u : ℕ) → ((c : Correction) → Mem c cs → c.mail ≡ m → c.tick.0 ≡ u) → (tick ≡ u) ⊎ HasChange cs m → held_after cs m tick ≡ u
held_is [] m tick u h (inl e) = e
held_is [] m tick u h (inr d) = absurd d.1
held_is (c ∷ cs) m tick u h d = go (λ t e. held_is cs m t u (λ x n q. h x (inr n) q) e) (same_mail c.mail m) (mail_tells c.mail m) refl d
  where
    other : same_mail c.mail m ≡ false → (tick ≡ u) ⊎ HasChange (c ∷ cs) m → (tick ≡ u) ⊎ HasChange cs m
    other e (inl q) = inl q
    other e (inr d) = at d.1
      where
        at : Mem d.0 (c ∷ cs) → (tick ≡ u) ⊎ HasChange cs m
        at (inl p) =
            let q : c.mail ≡ m = ap (λ (x : Correction). x.mail) (sym p) ∙ d.2 in
            absurd (true≢false (sym (same_itself m) ∙ ap (λ x. same_mail x m) (sym q) ∙ e))
        at (inr n) = inr (d.0, n, d.2)

    go : ((t : ℕ) → (t ≡ u) ⊎ HasChange cs m → held_after cs m t ≡ u) → (b : Bool) → ((same_mail c.mail m ≡ true) × (c.mail ≡ m)) ⊎ (same_mail c.mail m ≡ false) → same_mail c.mail m ≡ b → (tick ≡ u) ⊎ HasChange (c ∷ cs) m → held_after cs m (if b then c.tick.0 else tick) ≡ u
    go ih true (inl s) e d = ih c.tick.0 (inl (h c (inl refl) s.1))
    go ih true (inr s) e d = absurd (true≢false (sym e ∙ s))
    go ih false s e d = ih tick (other e d)

-- ---- lines of which some were recomputed

module _ (net : Net) (places : List ℕ) (old new : List Line) (n : ℕ) (list : List Correction) (c : Causal net) (a : AreLines net places old) (r : AreRefreshed net n old new list) where
  -- what a line was.
  was : (k : ℕ) (line : Line) → slice_get new k ≡ Some line → (x : Line) × (slice_get old k ≡ Some x)
  was k line e = some_item old k (omega (arith, slice_get_within new k line e, r.length))

  same_processor : (k : ℕ) (x line : Line) → slice_get old k ≡ Some x → slice_get new k ≡ Some line → line.processor ≡ x.processor
  same_processor k x line e f =
      sym (picked (λ (l : Line). l.processor) new k line 0 f)
      ∙ ap (λ xs. at xs k) r.processors
      ∙ picked (λ (l : Line). l.processor) old k x 0 e

  unless : (k : ℕ) (line : Line) → slice_get new k ≡ Some line → n ≤ k → slice_get old k ≡ Some line
  unless k line e le = sym (r.rest k le) ∙ e

  pub lines_refreshed : AreLines net places new
  lines_refreshed = record {
    each = λ k line e. let x = was k line e in (is k line e x.0 x.1 (cases_le n k), ap (at places) (same_processor k x.0 line x.1 e) ∙ (a.each k x.0 x.1).1);
    within = λ p has. ((a.within p has).0, omega (arith, (a.within p has).1, r.length));
    there = λ p has line e. let x = was (at places p) line e in same_processor (at places p) x.0 line x.1 e ∙ a.there p has x.0 x.1;
  }
    where
      is : (k : ℕ) (line : Line) → slice_get new k ≡ Some line → (x : Line) → slice_get old k ≡ Some x → (n ≤ k) ⊎ (k < n) → IsLineOf net line
      is k line e x f (inl le) = (a.each k line (unless k line e le)).0
      is k line e x f (inr lt) = (r.line k x line f e lt).0

  pub either_refreshed : (k : ℕ) (line : Line) → slice_get new k ≡ Some line → (slice_get old k ≡ Some line) ⊎ IsFresh net line
  either_refreshed k line e = go (was k line e) (cases_le n k)
    where
      go : ((x : Line) × (slice_get old k ≡ Some x)) → (n ≤ k) ⊎ (k < n) → (slice_get old k ≡ Some line) ⊎ IsFresh net line
      go x (inl le) = inl (unless k line e le)
      go x (inr lt) = inr (r.line k x.0 line x.1 e lt).1

  pub all_fresh : length old ≤ n → (k : ℕ) (line : Line) → slice_get new k ≡ Some line → IsFresh net line
  all_fresh le k line e = let x = was k line e in (r.line k x.0 line x.1 e (omega (arith, le, slice_get_within old k x.0 x.1))).1

  pub changes_refreshed : AreChanges net (given_in net places old) (given_in net places new) list
  changes_refreshed = record { sound = λ d m. sound d (r.sound d m); all = all }
    where
      sound : (d : Correction) → ((k : ℕ) × (x y : Line) × (k < n) × (slice_get old k ≡ Some x) × (slice_get new k ≡ Some y) × IsLineChange net x y d) → IsChange net (given_in net places old) (given_in net places new) d
      sound d (k, x, y, lt, e, f, h) =
          let place : at places (net.home d.mail.row) ≡ k = ap (at places) h.goes.1 ∙ (a.each k x e).1 in
          let before : given_in net places old d.mail ≡ given_of x d.mail = given_at net places old d.mail x (ap (slice_get old) place ∙ e) in
          let after : given_in net places new d.mail ≡ given_of y d.mail = given_at net places new d.mail y (ap (slice_get new) place ∙ f) in
          record {
            listed = h.goes.0;
            to = h.to;
            was = h.was ∙ sym before;
            tick = h.tick ∙ sym after;
            differs = λ q. h.differs (sym before ∙ q ∙ after);
          }

      all : (m : MailRef) → IsListed net m → given_in net places old m ≢ given_in net places new m → HasChange list m
      all m l differs =
          let x = sender net places old c a m l in
          let y = some_item new (at places (net.home m.row)) (omega (arith, slice_get_within old (at places (net.home m.row)) x.line x.here, r.length)) in
          let before : given_in net places old m ≡ given_of x.line m = given_at net places old m x.line x.here in
          let after : given_in net places new m ≡ given_of y.0 m = given_at net places new m y.0 y.1 in
          go x y (λ q. differs (before ∙ q ∙ sym after)) (cases_le n (at places (net.home m.row)))
        where
          go : (x : Found net places old (net.home m.row)) (y : (line : Line) × (slice_get new (at places (net.home m.row)) ≡ Some line)) → given_of x.line m ≢ given_of y.0 m → (n ≤ at places (net.home m.row)) ⊎ (at places (net.home m.row) < n) → HasChange list m
          go x y other (inl le) = absurd (other (ap (λ (l : Line). given_of l m) (one_item (slice_get old (at places (net.home m.row))) x.line y.0 x.here (unless (at places (net.home m.row)) y.0 y.1 le))))
          go x y other (inr lt) = r.all (at places (net.home m.row)) x.line y.0 lt x.here y.1 m (l, sym x.processor) other

-- ---- lines as they are after their recomputation

module _ (net : Net) (places : List ℕ) (lines : List Line) (c : Causal net) (a : AreLines net places lines) where
  -- where the line of processor p stands.
  here_for : (p q : ℕ) (x : Found net places lines p) → q ≡ p → slice_get lines (at places q) ≡ Some x.line
  here_for p q x e = ap (λ k. slice_get lines (at places k)) e ∙ x.here

  pub is_even : ((m : MailRef) → IsListed net m → held_in net places lines m ≡ given_in net places lines m) → IsEven net (world_in net places lines)
  is_even as_given = record { as_given = as_given; up_to_date = up_to_date }
    where
      up_to_date : (p : ℕ) → HasLine net p → (IsDirty net (world_in net places lines) p → ⊥) → IsUpToDate net (world_in net places lines) p
      up_to_date p has clean = go (found net places lines a p has)
        where
          go : Found net places lines p → IsUpToDate net (world_in net places lines) p
          go x = record {
            table = starts_of x.line;
            line = line_moved net p (used_of x.line) (held_in net places lines) (starts_of x.line) (starts_of x.line) c (λ m l g. same m l g (cases_eq (held_in net places lines m) (used_in net places lines m))) (λ i on. refl) (line_same net x.line.processor p (used_of x.line) (used_of x.line) (starts_of x.line) (starts_of x.line) (sym x.processor) refl refl current.table);
            gave = λ m l g. given_at net places lines m x.line (here_for p (net.home m.row) x g) ∙ current.gave m (l, g ∙ sym x.processor);
          }
            where
              begun : (x.line.begun ≡ true) ⊎ (x.line.begun ≡ false) → x.line.begun ≡ true
              begun (inl e) = e
              begun (inr e) = absurd (clean (inl (has, begun_at places lines p x.line x.here ∙ e)))

              current : IsCurrent net x.line
              current = x.is.current (begun (cases_Bool x.line.begun))

              same : (m : MailRef) → IsListed net m → net.goes_to m ≡ p → (held_in net places lines m ≡ used_in net places lines m) ⊎ (held_in net places lines m ≡ used_in net places lines m → ⊥) → used_of x.line m ≡ held_in net places lines m
              same m l g (inl e) = sym (used_at net places lines m x.line (here_for p (net.goes_to m) x g)) ∙ sym e
              same m l g (inr n) = absurd (clean (inr (m, l, g, n)))

  -- a fresh line used what is held.
  used_here : (p : ℕ) (x : Found net places lines p) → IsFresh net x.line → (m : MailRef) → IsListed net m → net.goes_to m ≡ p → used_of x.line m ≡ held_in net places lines m
  used_here p x fresh m l g = fresh.used m (l, g ∙ sym x.processor) ∙ sym (held_at net places lines m x.line (here_for p (net.goes_to m) x g))

  module _ (fresh : (k : ℕ) (line : Line) → slice_get lines k ≡ Some line → IsFresh net line) where
    pub fresh_table : IsTable net (held_in net places lines) (starts_in net places lines)
    fresh_table p = go (row_or_not net p)
      where
        at_line : Found net places lines p → IsLine net p (held_in net places lines) (starts_in net places lines)
        at_line x =
            let f = fresh (at places p) x.line x.here in
            let current : IsCurrent net x.line = x.is.current f.begun in
            line_moved net p (used_of x.line) (held_in net places lines) (starts_of x.line) (starts_in net places lines) c (λ m l g. used_here p x f m l g) (λ i on. sym (start_at net places lines i x.line (here_for p (net.home i) x on.1))) (line_same net x.line.processor p (used_of x.line) (used_of x.line) (starts_of x.line) (starts_of x.line) (sym x.processor) refl refl current.table)

        go : HasLine net p ⊎ (HasLine net p → ⊥) → IsLine net p (held_in net places lines) (starts_in net places lines)
        go (inl has) = at_line (found net places lines a p has)
        go (inr none) = empty_line net p (held_in net places lines) (starts_in net places lines) none

    pub fresh_gives : (m : MailRef) → IsListed net m → given_in net places lines m ≡ arrival net (starts_in net places lines) m
    fresh_gives m l =
        let x = sender net places lines c a m l in
        let current : IsCurrent net x.line = x.is.current (fresh (at places (net.home m.row)) x.line x.here).begun in
        given_at net places lines m x.line x.here ∙ current.gave m (l, sym x.processor) ∙ ap (λ s. s + net.travel m) (sym (start_at net places lines m.row x.line x.here))

    pub fresh_used : (m : MailRef) → IsListed net m → used_in net places lines m ≡ held_in net places lines m
    fresh_used m l =
        let x = receiver net places lines c a m l in
        used_at net places lines m x.line x.here ∙ used_here (net.goes_to m) x (fresh (at places (net.goes_to m)) x.line x.here) m l refl

    pub fresh_begun : (p : ℕ) → HasLine net p → begun_in places lines p ≡ true
    fresh_begun p has =
        let x = found net places lines a p has in
        begun_at places lines p x.line x.here ∙ (fresh (at places p) x.line x.here).begun

  -- what is given isn't above the bounds of what is held, where it was so before.
  pub given_fits : (short : IsShort net) (old : List Line) → ((m : MailRef) → held_in net places lines m ≡ held_in net places old m) → ((k : ℕ) (line : Line) → slice_get lines k ≡ Some line → (slice_get old k ≡ Some line) ⊎ IsFresh net line) → ((m : MailRef) → IsListed net m → held_in net places old m ≡ given_in net places old m) → (most : ℕ) → AllFit net most (held_in net places old) → AllFit net most (given_in net places lines)
  given_fits short old held either as_given most fits m l = go (sender net places lines c a m l)
    where
      go : Found net places lines (net.home m.row) → Fits net most m (given_in net places lines m)
      go x = which (either (at places (net.home m.row)) x.line x.here)
        where
          given : given_in net places lines m ≡ given_of x.line m
          given = given_at net places lines m x.line x.here

          which : (slice_get old (at places (net.home m.row)) ≡ Some x.line) ⊎ IsFresh net x.line → Fits net most m (given_in net places lines m)
          which (inl e) = subst (Fits net most m) (as_given m l ∙ given_at net places old m x.line e ∙ sym given) (fits m l)
          which (inr f) =
              let current : IsCurrent net x.line = x.is.current f.begun in
              subst (Fits net most m) (sym (given ∙ current.gave m (l, sym x.processor)))
              (line_fits net c short x.line.processor most (used_of x.line) (starts_of x.line) current.table (λ k j g. subst (Fits net most k) (sym (used_here (net.home m.row) x f k j (g ∙ x.processor) ∙ held k)) (fits k j)) m l (sym x.processor))

-- ---- a wave

-- lines, the same after the recomputation, and the same again after the changes are held.
module _ (net : Net) (places : List ℕ) (old mid new : List Line) (c : Causal net) (a : AreLines net places mid) (b : AreLines net places new)
    (held : (m : MailRef) → held_in net places mid m ≡ held_in net places old m)
    (fresh : (k : ℕ) (line : Line) → slice_get mid k ≡ Some line → IsFresh net line)
    (used : (m : MailRef) → map (λ line. used_of line m) new ≡ map (λ line. used_of line m) mid)
    (given : (m : MailRef) → map (λ line. given_of line m) new ≡ map (λ line. given_of line m) mid)
    (begun : map (λ line. line.begun) new ≡ map (λ line. line.begun) mid)
    (sets : (m : MailRef) → IsListed net m → held_in net places new m ≡ given_in net places mid m) where
  pub raced : Raced net (world_in net places old) (world_in net places new)
  raced = record {
    wave = record {
      table = starts_in net places mid;
      lines = subst (λ (h : Ticks). IsTable net h (starts_in net places mid)) (λ i m. held m i) (fresh_table net places mid c a fresh);
      arrives = λ m l. sets m l ∙ fresh_gives net places mid c a fresh m l;
    };
    even = is_even net places new c b (λ m l. sets m l ∙ sym (ap (λ xs. at xs (at places (net.home m.row))) (given m)));
    used = λ m l. ap (λ xs. at xs (at places (net.goes_to m))) (used m) ∙ fresh_used net places mid c a fresh m l ∙ held m;
    begun = λ p has. ap (λ xs. get_or xs (at places p) false) begun ∙ fresh_begun net places mid c a fresh p has;
  }
