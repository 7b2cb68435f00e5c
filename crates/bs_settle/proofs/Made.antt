-- Lines that are made one after another, from what falls to each processor.
use Rattle.std.proofs.Common.{◌≡◌, ◌<◌, ◌+◌, ◌-◌, ◌++◌, ◌^◌, ◌⊎◌, inl, inr, ℕ, zero, suc, false, List, [], ◌∷◌, Some, length, get_or, map, refl, sym, ap, subst, ◌∙◌, arith}
use Rattle.std.specs.List.{slice_get}
use Rattle.std.proofs.lemmas.Bool.{true≢false}
use Rattle.std.proofs.Math.ListN.{get_or-append}
use Rattle.std.proofs.Math.Seq.{get_or-append_seam}
use Rattle.std.proofs.lemmas.List.{length-append}
use Rattle.std.proofs.lemmas.Option.{slice_get_within}
use Rattle.bs_log.specs.declared.log.Log.{Log}
use Rattle.bs_log.specs.declared.log.MailRef.{MailRef}
use Rattle.bs_log.specs.Valid.{IsValid}
use Rattle.bs_log.specs.Lists.{Mem}
use Rattle.bs_machine.specs.declared.fitted.Fitted.{Fitted}
use Rattle.bs_machine.specs.Fitted.{processors_of}
use Rattle.bs_num.specs.declared.ticks.Tick.{Tick}
use Rattle.bs_times.specs.Net.{Net, Causal, row_of}
use Rattle.bs_times.specs.Times.{HasLine, IsListed}
use Rattle.bs_times.proofs.Found.{row_fits}
use Rattle.bs_schedule.specs.Plan.{at}
use Rattle.bs_line.specs.declared.line.Line.{Line}
use Rattle.bs_line.specs.Making.{numbers}
use Rattle.bs_line.specs.Places.{AreMails, mail_place}
use Rattle.bs_settle.specs.declared.field.Field.{Field}
use Rattle.bs_settle.specs.declared.shares.Share.{Share}
use Rattle.bs_settle.specs.Field.{AreFieldLines, IsField, given_of, net_in, ticks_of}
use Rattle.bs_settle.specs.Lines.{begun_in}
use Rattle.bs_settle.specs.Making.{AddsLine, AreLinesTo, IsMade, IsNew, IsWholeShare}
use Rattle.bs_rows.specs.Rows.{net_on}
use Rattle.bs_settle.specs.Shares.{IsShareOf}
use Rattle.bs_settle.proofs.Columns.{item_last, item_left, last_place, one_item}
use Rattle.bs_settle.proofs.Lines.{given_at, held_at, receiver, sender}
use Rattle.bs_settle.proofs.Premises.{causal}
use Rattle.bs_settle.proofs.Shared.{comes_tick, goes_tick, whole_share}
use Rattle.bs_settle.proofs.Whole.{home_below}

-- ---- lists that grow

at_left : (xs : List ℕ) (y n q : ℕ) → length xs ≡ n → q < n → at (xs ++ y ∷ []) q ≡ at xs q
at_left xs y n q l lt = get_or-append xs (y ∷ []) 0 q (omega (arith, lt, l))

at_last : (xs : List ℕ) (y n : ℕ) → length xs ≡ n → at (xs ++ y ∷ []) n ≡ y
at_last xs y n l = ap (λ k. at (xs ++ y ∷ []) k) (sym l) ∙ get_or-append_seam xs y [] 0

-- ---- a new line

pub is_new : (net : Net) (p : ℕ) (mails : List MailRef) (ticks : List Tick) (share : Share) (line : Line) → AreMails (IsListed net) mails → length ticks ≡ length mails → ((t : Tick) → Mem t ticks → t.0 < 2 ^ 107) → IsShareOf net p net.rows (length mails) mails ticks share → IsMade net p share line → HasLine net p → IsNew net mails ticks line
is_new net p mails ticks share line listed each early s made has = record {
  is = record {
    ready = made.ready;
    same = made.same;
    has = subst (HasLine net) (sym made.processor) has;
    current = λ b. absurd (true≢false (sym b ∙ made.begun));
  };
  begun = made.begun;
  held = λ m comes. (λ i. at (made.held i) (mail_place (made.mails i) m)) ∙ comes_tick net p mails ticks share listed each early s m (comes.1 ∙ made.processor);
  given = λ m goes. (λ i. at (made.given i) (mail_place (made.sends i) m)) ∙ goes_tick net p mails ticks share listed each early s m (goes.1 ∙ made.processor);
}

-- ---- the lines of one processor more

pub no_lines : (net : Net) (mails : List MailRef) (ticks : List Tick) → AreLinesTo net mails ticks 0 [] []
no_lines net mails ticks = record {
  long = refl;
  each = λ k line e. absurd (omega (arith, slice_get_within [] k line e));
  within = λ p lt. absurd (omega (arith, lt));
  there = λ p lt. absurd (omega (arith, lt));
}

module _ (net : Net) (mails : List MailRef) (ticks : List Tick) (n : ℕ) (places : List ℕ) (lines : List Line) (a : AreLinesTo net mails ticks n places lines) where
  abbrev longer : List ℕ
  longer = places ++ length lines ∷ []

  long : length longer ≡ n + 1
  long = length-append places (length lines ∷ []) ∙ ap (λ k. k + 1) a.long

  -- a processor without rows.
  pub none_more : (HasLine net n → ⊥) → AreLinesTo net mails ticks (n + 1) (places ++ length lines ∷ []) lines
  none_more none = record {
    long = long;
    each = λ k line e. let x = a.each k line e in (x.0, at_left places (length lines) n line.processor a.long x.2 ∙ x.1, omega (arith, x.2));
    within = λ p lt has. within p has (last_place n p lt);
    there = λ p lt has line e. there p has line e (last_place n p lt);
  }
    where
      within : (p : ℕ) → HasLine net p → (p < n) ⊎ (p ≡ n) → at longer p < length lines
      within p has (inl lt) = omega (arith, a.within p lt has, at_left places (length lines) n p a.long lt)
      within p has (inr e) = absurd (none (subst (HasLine net) e has))

      there : (p : ℕ) → HasLine net p → (line : Line) → slice_get lines (at longer p) ≡ Some line → (p < n) ⊎ (p ≡ n) → line.processor ≡ p
      there p has line e (inl lt) = a.there p lt has line (ap (slice_get lines) (sym (at_left places (length lines) n p a.long lt)) ∙ e)
      there p has line e (inr q) = absurd (none (subst (HasLine net) q has))

  -- a processor with rows.
  pub one_more : (new : Line) → IsNew net mails ticks new → new.processor ≡ n → AreLinesTo net mails ticks (n + 1) (places ++ length lines ∷ []) (lines ++ new ∷ [])
  one_more new is processor = record {
    long = long;
    each = λ k line e. each k line e (last_place (length lines) k (omega (arith, slice_get_within more k line e, grown)));
    within = λ p lt has. within p has (last_place n p lt);
    there = λ p lt has line e. there p has line e (last_place n p lt);
  }
    where
      more : List Line
      more = lines ++ new ∷ []

      grown : length more ≡ length lines + 1
      grown = length-append lines (new ∷ [])

      new_place : at longer n ≡ length lines
      new_place = at_last places (length lines) n a.long

      each : (k : ℕ) (line : Line) → slice_get more k ≡ Some line → (k < length lines) ⊎ (k ≡ length lines) → IsNew net mails ticks line × (at longer line.processor ≡ k) × (line.processor < n + 1)
      each k line e (inl lt) =
          let x = a.each k line (sym (item_left lines (new ∷ []) k lt) ∙ e) in
          (x.0, at_left places (length lines) n line.processor a.long x.2 ∙ x.1, omega (arith, x.2))
      each k line e (inr q) =
          let same : new ≡ line = one_item (slice_get more k) new line (ap (slice_get more) q ∙ item_last lines new) e in
          (subst (IsNew net mails ticks) same is, ap (λ (l : Line). at longer l.processor) (sym same) ∙ ap (at longer) processor ∙ new_place ∙ sym q, omega (arith, ap (λ (l : Line). l.processor) same, processor))

      within : (p : ℕ) → HasLine net p → (p < n) ⊎ (p ≡ n) → at longer p < length more
      within p has (inl lt) = omega (arith, a.within p lt has, at_left places (length lines) n p a.long lt, grown)
      within p has (inr e) = omega (arith, ap (at longer) e, new_place, grown)

      there : (p : ℕ) → HasLine net p → (line : Line) → slice_get more (at longer p) ≡ Some line → (p < n) ⊎ (p ≡ n) → line.processor ≡ p
      there p has line e (inl lt) =
          let here : at longer p ≡ at places p = at_left places (length lines) n p a.long lt in
          a.there p lt has line (sym (item_left lines (new ∷ []) (at places p) (a.within p lt has)) ∙ ap (slice_get more) (sym here) ∙ e)
      there p has line e (inr q) =
          let place : at longer p ≡ length lines = ap (at longer) q ∙ new_place in
          let same : new ≡ line = one_item (slice_get more (at longer p)) new line (ap (slice_get more) place ∙ item_last lines new) e in
          ap (λ (l : Line). l.processor) (sym same) ∙ processor ∙ sym q

-- the share of a processor gives its line.
pub line_added : (net : Net) (mails : List MailRef) (ticks : List Tick) (n : ℕ) (share : Share) (old new : Field) → AreMails (IsListed net) mails → length ticks ≡ length mails → ((t : Tick) → Mem t ticks → t.0 < 2 ^ 107) → IsShareOf net n net.rows (length mails) mails ticks share → AreLinesTo net mails ticks n old.places.items old.lines.items → AddsLine net n share old new → AreLinesTo net mails ticks (n + 1) new.places.items new.lines.items
line_added net mails ticks n share old new listed each early s a add = go add.line
  where
    whole : IsWholeShare net n share
    whole = whole_share net n mails ticks share listed each early s

    to : (lines : List Line) → new.lines.items ≡ lines → AreLinesTo net mails ticks (n + 1) (old.places.items ++ length old.lines.items ∷ []) lines → AreLinesTo net mails ticks (n + 1) new.places.items new.lines.items
    to lines e h = subst (λ ls. AreLinesTo net mails ticks (n + 1) new.places.items ls) (sym e) (subst (λ ps. AreLinesTo net mails ticks (n + 1) ps lines) (sym add.places) h)

    go : ((share.rows ≡ []) × (new.lines.items ≡ old.lines.items)) ⊎ ((line : Line) × (new.lines.items ≡ old.lines.items ++ line ∷ []) × IsMade net n share line × HasLine net n) → AreLinesTo net mails ticks (n + 1) new.places.items new.lines.items
    go (inl (none, same)) = to old.lines.items same (none_more net mails ticks n old.places.items old.lines.items a (λ has. subst (Mem has.0) none ((whole.rows.all has.0).0 has.1)))
    go (inr (line, more, made, has)) = to (old.lines.items ++ line ∷ []) more (one_more net mails ticks n old.places.items old.lines.items a line (is_new net n mails ticks share line listed each early s made has) made.processor)

-- all lines make a field.
pub field_made : (f : Field) (mails : List MailRef) (ticks : List Tick) → IsValid f.log.now → f.machine.now.chares ≡ f.log.now.chares → AreMails (IsListed (net_in f)) mails → length ticks ≡ length mails → ((t : Tick) → Mem t ticks → t.0 < 2 ^ 107) → AreLinesTo (net_in f) mails ticks (processors_of f.machine.now) f.places.items f.lines.items → IsField f
field_made f mails ticks valid fitted listed each early a = record {
  valid = valid;
  fitted = fitted;
  lines = lines;
  as_given = λ m l. held m l ∙ sym (given m l);
  most = 2 ^ 107 - 1;
  below = omega arith;
  fits = λ m l. let small = tick_early m l in omega (arith, small, held m l);
}
  where
    c : Causal (net_in f)
    c = causal f.log.now f.machine.now valid

    below : (p : ℕ) → HasLine (net_in f) p → p < processors_of f.machine.now
    below p has = subst (λ q. q < processors_of f.machine.now) has.1.1 (home_below f.machine.now (row_of f.log.now has.0).chare (omega (arith, (row_fits f.log.now has.0 valid has.1.0.0 has.1.0.1).chare, fitted)))

    lines : AreFieldLines f
    lines = record {
      each = λ k line e. let x = a.each k line e in (x.0.is, x.1);
      within = λ p has. (omega (arith, below p has, a.long), a.within p (below p has) has);
      there = λ p has. a.there p (below p has) has;
    }

    held : (m : MailRef) → IsListed (net_in f) m → ticks_of f m ≡ at (numbers ticks) (mail_place mails m)
    held m l =
        let x = receiver (net_in f) f.places.items f.lines.items c lines m l in
        held_at (net_in f) f.places.items f.lines.items m x.line x.here ∙ (a.each (at f.places.items ((net_in f).goes_to m)) x.line x.here).0.held m (l, sym x.processor)

    given : (m : MailRef) → IsListed (net_in f) m → given_of f m ≡ at (numbers ticks) (mail_place mails m)
    given m l =
        let x = sender (net_in f) f.places.items f.lines.items c lines m l in
        given_at (net_in f) f.places.items f.lines.items m x.line x.here ∙ (a.each (at f.places.items ((net_in f).home m.row)) x.line x.here).0.given m (l, sym x.processor)

    early_at : (ts : List Tick) → ((t : Tick) → Mem t ts → t.0 < 2 ^ 107) → (i : ℕ) → at (numbers ts) i < 2 ^ 107
    early_at [] h i = omega arith
    early_at (t ∷ ts) h zero = h t (inl refl)
    early_at (t ∷ ts) h (suc i) = early_at ts (λ x m. h x (inr m)) i

    tick_early : (m : MailRef) → IsListed (net_in f) m → at (numbers ticks) (mail_place mails m) < 2 ^ 107
    tick_early m l = early_at ticks early (mail_place mails m)

pub made_ticks : (f : Field) (mails : List MailRef) (ticks : List Tick) → AreFieldLines f → IsValid f.log.now → AreLinesTo (net_in f) mails ticks (processors_of f.machine.now) f.places.items f.lines.items → (m : MailRef) → IsListed (net_in f) m → ticks_of f m ≡ at (numbers ticks) (mail_place mails m)
made_ticks f mails ticks lines valid a m l =
    let x = receiver (net_in f) f.places.items f.lines.items (causal f.log.now f.machine.now valid) lines m l in
    held_at (net_in f) f.places.items f.lines.items m x.line x.here ∙ (a.each (at f.places.items ((net_in f).goes_to m)) x.line x.here).0.held m (l, sym x.processor)

-- none of them was recomputed.
pub none_begun : (net : Net) (mails : List MailRef) (ticks : List Tick) (n : ℕ) (places : List ℕ) (lines : List Line) → AreLinesTo net mails ticks n places lines → (p : ℕ) → begun_in places lines p ≡ false
none_begun net mails ticks n places lines a p = all_false lines (λ k line e. (a.each k line e).0.begun) (at places p)
  where
    all_false : (ls : List Line) → ((k : ℕ) (line : Line) → slice_get ls k ≡ Some line → line.begun ≡ false) → (k : ℕ) → get_or (map (λ (l : Line). l.begun) ls) k false ≡ false
    all_false [] h k = refl
    all_false (l ∷ ls) h zero = h 0 l refl
    all_false (l ∷ ls) h (suc k) = all_false ls (λ j line e. h (suc j) line e) k

-- the same of a log and a machine that are the field's.
module _ (f : Field) (log : Log) (m : Fitted) (mails : List MailRef) (ticks : List Tick) (e : f.log.now ≡ log) (g : f.machine.now ≡ m) (valid : IsValid log) (fitted : m.chares ≡ log.chares) (listed : AreMails (IsListed (net_on log m)) mails) (each : length ticks ≡ length mails) (early : (t : Tick) → Mem t ticks → t.0 < 2 ^ 107) (a : AreLinesTo (net_on log m) mails ticks (processors_of m) f.places.items f.lines.items) where
  same : net_in f ≡ net_on log m
  same i = net_on (e i) (g i)

  here : AreLinesTo (net_in f) mails ticks (processors_of f.machine.now) f.places.items f.lines.items
  here = subst (λ (k : ℕ). AreLinesTo (net_in f) mails ticks k f.places.items f.lines.items) (ap processors_of (sym g)) (subst (λ n. AreLinesTo n mails ticks (processors_of m) f.places.items f.lines.items) (sym same) a)

  pub new_field : IsField f
  new_field = field_made f mails ticks (subst IsValid (sym e) valid) (ap (λ (x : Fitted). x.chares) g ∙ fitted ∙ ap (λ (x : Log). x.chares) (sym e)) (subst (λ n. AreMails (IsListed n) mails) (sym same) listed) each early here

  pub new_ticks : (k : MailRef) → IsListed (net_on log m) k → ticks_of f k ≡ at (numbers ticks) (mail_place mails k)
  new_ticks k l = made_ticks f mails ticks new_field.lines new_field.valid here k (subst (λ n. IsListed n k) (sym same) l)
