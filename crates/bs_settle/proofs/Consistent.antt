-- The starts of a field that is settled are the consistent table.
use Rattle.std.proofs.Common.{◌≡◌, ◌≤◌, ◌<◌, ◌+◌, ◌^◌, ◌⊎◌, inl, inr, ℕ, zero, suc, true, false, List, Some, length, refl, sym, ap, ◌∙◌, arith}
use Rattle.std.specs.List.{slice_get}
use Rattle.std.proofs.lemmas.Bool.{cases_Bool, cases_eq}
use Rattle.bs_log.specs.declared.log.MailRef.{MailRef}
use Rattle.bs_times.specs.Net.{Starts, Causal, HasRow}
use Rattle.bs_times.specs.Times.{HasLine, IsConsistent, IsTable, arrival, end_of}
use Rattle.bs_times.specs.Machine.{machine_of}
use Rattle.bs_times.proofs.Causal.{fitted_is_timely}
use Rattle.bs_times.proofs.Members.{cases_le}
use Rattle.bs_times.proofs.Moved.{line_moved}
use Rattle.bs_times.proofs.Small.{small_ends}
use Rattle.bs_schedule.specs.Plan.{at}
use Rattle.bs_line.specs.declared.line.Line.{Line}
use Rattle.bs_line.specs.Layout.{ComesTo}
use Rattle.bs_line.specs.Line.{held_of, used_of}
use Rattle.bs_settle.specs.declared.field.Field.{Field}
use Rattle.bs_settle.specs.declared.times.Times.{Times}
use Rattle.bs_settle.specs.Field.{IsField, net_in, starts_of, ticks_of, world_of}
use Rattle.bs_settle.specs.Lines.{IsFresh}
use Rattle.bs_settle.specs.Planned.{by_row}
use Rattle.bs_settle.specs.Settled.{IsClean}
use Rattle.bs_settle.specs.Timed.{AreTimes, ends_from, numbers, starts_from}
use Rattle.bs_settle.proofs.Lines.{begun_at, held_at, used_at}
use Rattle.bs_settle.proofs.Listed.{by_row_at, by_row_first, by_row_past}
use Rattle.bs_settle.proofs.Premises.{causal, short}
use Rattle.bs_settle.proofs.Waved.{fresh_gives, fresh_table}

module _ (f : Field) (is : IsField f) (clean : IsClean f) where
  c : Causal (net_in f)
  c = causal f.log.now f.machine.now is.valid

  -- each line was recomputed from what it holds.
  pub clean_fresh : (k : ℕ) (line : Line) → slice_get f.lines.items k ≡ Some line → IsFresh (net_in f) line
  clean_fresh k line e = record { begun = begun (cases_Bool line.begun); used = used }
    where
      has : HasLine (net_in f) line.processor
      has = (is.lines.each k line e).0.has

      place : at f.places.items line.processor ≡ k
      place = (is.lines.each k line e).1

      begun : (line.begun ≡ true) ⊎ (line.begun ≡ false) → line.begun ≡ true
      begun (inl b) = b
      begun (inr b) = absurd (clean line.processor (inl (has, begun_at f.places.items f.lines.items line.processor line (ap (slice_get f.lines.items) place ∙ e) ∙ b)))

      used : (m : MailRef) → ComesTo (net_in f) line.processor m → used_of line m ≡ held_of line m
      used m comes = go (cases_eq ((world_of f).held m) ((world_of f).used m))
        where
          here : slice_get f.lines.items (at f.places.items ((net_in f).goes_to m)) ≡ Some line
          here = ap (λ q. slice_get f.lines.items (at f.places.items q)) comes.1 ∙ ap (slice_get f.lines.items) place ∙ e

          go : ((world_of f).held m ≡ (world_of f).used m) ⊎ ((world_of f).held m ≡ (world_of f).used m → ⊥) → used_of line m ≡ held_of line m
          go (inl q) = sym (used_at (net_in f) f.places.items f.lines.items m line here) ∙ sym q ∙ held_at (net_in f) f.places.items f.lines.items m line here
          go (inr n) = absurd (clean ((net_in f).goes_to m) (inr (m, comes.0, refl, n)))

  table : IsTable (net_in f) (ticks_of f) (starts_of f)
  table = fresh_table (net_in f) f.places.items f.lines.items c is.lines clean_fresh

  -- starts that are those of the rows make a consistent table.
  pub consistent : (s : Starts) → ((i : ℕ) → HasRow (net_in f) i → starts_of f i ≡ s i) → IsConsistent (net_in f) s
  consistent s same p = line_moved (net_in f) p (ticks_of f) (arrival (net_in f) s) (starts_of f) s c
      (λ m l g. is.as_given m l ∙ fresh_gives (net_in f) f.places.items f.lines.items c is.lines clean_fresh m l ∙ ap (λ x. x + (net_in f).travel m) (same m.row (c.mail l.0 m l.1 l.2).0))
      (λ i on. same i on.0)
      (table p)

  listed_starts : (i : ℕ) → HasRow (net_in f) i → starts_of f i ≡ at (by_row 0 (starts_of f) (length f.log.now.rows)) i
  listed_starts i has = sym (by_row_at 0 (starts_of f) (length f.log.now.rows) i 0 has.0 has.1)

  module _ (starts : List ℕ) (e : starts ≡ by_row 0 (starts_of f) (length f.log.now.rows)) where
    same : (i : ℕ) → HasRow (net_in f) i → starts_of f i ≡ at starts i
    same i has = listed_starts i has ∙ ap (λ xs. at xs i) (sym e)

    ends : (i : ℕ) → HasRow (net_in f) i → end_of (net_in f) (at starts) i < 2 ^ 109
    ends i has = small_ends f.log.now (machine_of f.machine.now) is.valid (fitted_is_timely f.machine.now) (at starts) (consistent (at starts) same) i has

    pub starts_early : (i : ℕ) → at starts i < 2 ^ 109
    starts_early i = go i (cases_le i (length f.log.now.rows))
      where
        go : (j : ℕ) → (j ≤ length f.log.now.rows) ⊎ (length f.log.now.rows < j) → at starts j < 2 ^ 109
        go zero (inl le) = let none : at starts 0 ≡ 0 = ap (λ xs. at xs 0) e ∙ by_row_first 0 (starts_of f) (length f.log.now.rows) 0 in omega (arith, none)
        go (suc j) (inl le) = omega (arith, ends (suc j) (omega arith, le))
        go j (inr past) = let none : at starts j ≡ 0 = ap (λ xs. at xs j) e ∙ by_row_past 0 (starts_of f) (length f.log.now.rows) j 0 past in omega (arith, none)

    pub settled_times : (times : Times) → numbers times.starts ≡ starts_from (at starts) 1 f.log.now.rows → numbers times.ends ≡ ends_from (machine_of f.machine.now) (at starts) 1 f.log.now.rows → AreTimes f.log.now (machine_of f.machine.now) times
    settled_times times begins stops = record {
      table = at starts;
      is_consistent = consistent (at starts) same;
      starts = begins;
      ends = stops;
      in_range = λ i has.
          let long = c.duration i has in
          let brief = (short f.log.now f.machine.now is.valid).duration i has in
          record {
            starts_early = omega (arith, ends i has);
            takes_time = omega (arith, long);
            is_short = omega (arith, brief);
            ends_early = omega (arith, ends i has);
          };
    }
