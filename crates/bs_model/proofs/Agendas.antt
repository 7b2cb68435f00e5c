-- The agenda, as an end or a best block is put, and what starts next.
use Rattle.std.proofs.Common.{◌≡◌, ◌≤◌, ◌<◌, ◌⊎◌, inl, inr, ℕ, zero, suc, ◌==◌, max, if◌then◌else◌, List, [], ◌∷◌, Option, Some, None, length, slice_get, slice_set, get_or, refl, sym, ap, subst, ◌∙◌, arith, eq-eqb}
use Rattle.std.specs.Vec.{with_item}
use Rattle.std.proofs.lemmas.Bool.{cases_eq, cases_lt, cond-true, cond-false, ne_eqb}
use Rattle.std.proofs.lemmas.List.{length-set, get_or-set_same, get_or-set_other}
use Rattle.std.proofs.lemmas.Option.{slice_get_read, slice_get-get_or, slice_get_within}
use Rattle.bs_machine.specs.declared.fitted.Fitted.{Fitted}
use Rattle.bs_machine.specs.Fitted.{home_of, processors_of}
use Rattle.bs_machine.proofs.Bounds.{has_bounds}
use Rattle.bs_model.specs.declared.agenda.Agenda.{Agenda}
use Rattle.bs_model.specs.declared.agenda.Next.{Next}
use Rattle.bs_model.specs.declared.candidates.Best.{Best}
use Rattle.bs_model.specs.declared.line.Line.{Line}
use Rattle.bs_model.specs.Agenda.{AreIdle, AreNone, IsAgenda, IsWhole, is_idle, ready_in, ready_of, start_in, start_of, turn_at, waits_at}
use Rattle.bs_model.specs.Line.{IsChanged, IsFirst, IsFirstAt, IsLine, first_of}
use Rattle.bs_model.specs.Next.{IsLeast, IsLeastAt, IsUpTo, next_of}
use Rattle.bs_model.proofs.Lines.{line_same}
use Rattle.bs_model.proofs.Places.{get_set_same, get_set_other}

-- the first of those that have the same ticks
first_same : (f g : ℕ → Option ℕ) (o : Option (ℕ × ℕ)) → ((n : ℕ) → g n ≡ f n) → IsFirst f o → IsFirst g o
first_same f g None e h = λ n. e n ∙ h n
first_same f g (Some t) e h = record { is = e t.1 ∙ h.is; least = λ n tick k. h.least n tick (sym (e n) ∙ k) }

whole_same : (f g : ℕ → Option ℕ) (line : Line) → ((n : ℕ) → g n ≡ f n) → IsWhole f line → IsWhole g line
whole_same f g line e h = record { keys = line_same f g line e h.keys; first = first_same f g (first_of line) e h.first }

-- an item as it is read at its place
pub read : {A : Type 0} (xs : List A) (i : ℕ) (x d : A) → i < length xs → x ≡ get_or xs i x → x ≡ get_or xs i d
read xs i x d l e = let one = slice_get_read xs _ i x refl l e in let two = slice_get-get_or xs i d l in cc

pub one_item : {A : Type 0} (xs : List A) (i : ℕ) (x y : A) → i < length xs → x ≡ get_or xs i x → y ≡ get_or xs i y → x ≡ y
one_item xs i x y l e f = let one = slice_get_read xs _ i x refl l e in let two = slice_get_read xs _ i y refl l f in cc

some_at : {A : Type 0} (xs : List A) (i : ℕ) → i < length xs → (x : A) × (slice_get xs i ≡ Some x)
some_at [] i l = absurd (omega (arith, l))
some_at (x ∷ xs) zero l = (x, refl)
some_at (x ∷ xs) (suc i) l = some_at xs i (omega (arith, l))

waits_here : (m : Fitted) (bests : List (Option Best)) (q c : ℕ) → home_of m c ≡ q → waits_at m bests q c ≡ ready_in (slice_get bests c)
waits_here m bests q c e = cond-true _ _ _ (eq-eqb (home_of m c) q e)

waits_not : (m : Fitted) (bests : List (Option Best)) (q c : ℕ) → (home_of m c ≡ q → ⊥) → waits_at m bests q c ≡ None
waits_not m bests q c e = cond-false _ _ _ (ne_eqb (home_of m c) q e)

-- at first none waits
pub begins : (m : Fitted) (a : Agenda) → length a.ends.items ≡ processors_of m → AreNone m.chares a.bests.items → AreIdle (processors_of m) a.lines.items → IsLine (λ _. None) a.turns → IsAgenda m a
begins m a ends bests lines turns = record {
  ends = ends;
  bests = bests.0;
  count = lines.0;
  lines = λ q line e. whole_same (λ _. None) (waits_at m a.bests.items q) line (waits q) (idle q line e);
  turns = line_same (λ _. None) (turn_at a.ends.items a.lines.items) a.turns (λ q. turn q (slice_get a.lines.items q) refl) turns;
}
  where
    idle : (q : ℕ) (line : Line) → slice_get a.lines.items q ≡ Some line → IsWhole (λ _. None) line
    idle q line e = let w = slice_get_within a.lines.items q line e in let k = lines.0 in subst is_idle e (lines.1 q (omega (arith, w, k)))

    not_ready : (c : ℕ) → (c < m.chares) ⊎ (m.chares ≤ c) → ready_in (slice_get a.bests.items c) ≡ None
    not_ready c (inl l) = ap ready_in (bests.1 c l)
    not_ready c (inr l) = by_case (slice_get a.bests.items c) refl
      where
        by_case : (o : Option (Option Best)) → slice_get a.bests.items c ≡ o → ready_in o ≡ None
        by_case None e = refl
        by_case (Some b) e = let w = slice_get_within a.bests.items c b e in let k = bests.0 in absurd (omega (arith, w, k, l))

    waits : (q c : ℕ) → waits_at m a.bests.items q c ≡ None
    waits q c = by_case (cases_eq (home_of m c) q)
      where
        by_case : (home_of m c ≡ q) ⊎ (home_of m c ≡ q → ⊥) → waits_at m a.bests.items q c ≡ None
        by_case (inl e) = waits_here m a.bests.items q c e ∙ not_ready c (cases_lt c m.chares)
        by_case (inr e) = waits_not m a.bests.items q c e

    none_first : (end : ℕ) (o : Option (ℕ × ℕ)) → IsFirst (λ _. None) o → start_of end o ≡ None
    none_first end None h = refl
    none_first end (Some t) h = let e = h.is in absurd (cc)

    turn : (q : ℕ) (o : Option Line) → slice_get a.lines.items q ≡ o → start_in (get_or a.ends.items q 0) o ≡ None
    turn q None e = refl
    turn q (Some line) e = none_first (get_or a.ends.items q 0) (first_of line) (idle q line e).first

module _ (m : Fitted) (a : Agenda) (holds : IsAgenda m a) where
  abbrev ends : List ℕ
  ends = a.ends.items

  abbrev bests : List (Option Best)
  bests = a.bests.items

  abbrev lines : List Line
  lines = a.lines.items

  pub end_put : (q end : ℕ) (line turns : Line) → q < length ends → slice_get lines q ≡ Some line
      → ((f g : ℕ → Option ℕ) → IsLine f a.turns → f q ≡ start_of (get_or ends q 0) (first_of line) → IsChanged f g q (start_of end (first_of line)) → IsLine g turns)
      → IsAgenda m (record { ends = with_item a.ends q end; bests = a.bests; lines = a.lines; turns = turns })
  end_put q end line turns low here h = record {
    ends = length-set ends q end ∙ holds.ends;
    bests = holds.bests;
    count = holds.count;
    lines = holds.lines;
    turns = h (turn_at ends lines) (turn_at (slice_set ends q end) lines) holds.turns (ap (start_in (get_or ends q 0)) here) (record {
      at = ap (λ o. start_in (get_or (slice_set ends q end) q 0) o) here ∙ ap (λ e. start_of e (first_of line)) (get_or-set_same ends q end 0 low);
      others = λ p other. ap (λ e. start_in e (slice_get lines p)) (get_or-set_other ends q p end 0 other);
    });
  }

  module _ (c home : ℕ) (is_home : home_of m c ≡ home) (old best : Option Best) (at : slice_get bests c ≡ Some old) where
    abbrev new_bests : List (Option Best)
    new_bests = slice_set bests c best

    other_waits : (q d : ℕ) → (d ≡ c → ⊥) → waits_at m new_bests q d ≡ waits_at m bests q d
    other_waits q d other = ap (λ o. if home_of m d == q then ready_in o else None) (get_set_other bests c d best (λ e. other (sym e)))

    elsewhere : (q d : ℕ) → (q ≡ home → ⊥) → (d ≡ c) ⊎ (d ≡ c → ⊥) → waits_at m new_bests q d ≡ waits_at m bests q d
    elsewhere q d apart (inl e) =
        let away : home_of m d ≡ q → ⊥ = λ k. apart (sym k ∙ (ap (home_of m) e ∙ is_home)) in
        waits_not m new_bests q d away ∙ sym (waits_not m bests q d away)
    elsewhere q d apart (inr other) = other_waits q d other

    pub best_put : (line new turns : Line) → slice_get lines home ≡ Some line
        → ((f g : ℕ → Option ℕ) → IsLine f line → f c ≡ ready_of old → IsChanged f g c (ready_of best) → IsLine g new)
        → ((f : ℕ → Option ℕ) → IsLine f new → IsFirst f (first_of new))
        → ((f g : ℕ → Option ℕ) → IsLine f a.turns → f home ≡ start_of (get_or ends home 0) (first_of line) → IsChanged f g home (start_of (get_or ends home 0) (first_of new)) → IsLine g turns)
        → IsAgenda m (record { ends = a.ends; bests = with_item a.bests c best; lines = with_item a.lines home new; turns = turns })
    best_put line new turns here put first turn = record {
      ends = holds.ends;
      bests = length-set bests c best ∙ holds.bests;
      count = length-set lines home new ∙ holds.count;
      lines = λ q l e. by_place q l e (cases_eq q home);
      turns = turn (turn_at ends lines) (turn_at ends (slice_set lines home new)) holds.turns (ap (start_in (get_or ends home 0)) here) (record {
        at = ap (start_in (get_or ends home 0)) new_here;
        others = λ q other. ap (start_in (get_or ends q 0)) (get_set_other lines home q new (λ e. other (sym e)));
      });
    }
      where
        new_here : slice_get (slice_set lines home new) home ≡ Some new
        new_here = get_set_same lines home new (slice_get_within lines home line here)

        keys : IsLine (waits_at m new_bests home) new
        keys = put (waits_at m bests home) (waits_at m new_bests home) (holds.lines home line here).keys (waits_here m bests home c is_home ∙ ap ready_in at) (record {
          at = waits_here m new_bests home c is_home ∙ ap ready_in (get_set_same bests c best (slice_get_within bests c old at));
          others = λ d other. other_waits home d other;
        })

        whole : IsWhole (waits_at m new_bests home) new
        whole = record { keys = keys; first = first (waits_at m new_bests home) keys }

        by_place : (q : ℕ) (l : Line) → slice_get (slice_set lines home new) q ≡ Some l → (q ≡ home) ⊎ (q ≡ home → ⊥) → IsWhole (waits_at m new_bests q) l
        by_place q l e (inl same) =
            let there : slice_get (slice_set lines home new) home ≡ Some l = subst (λ q. slice_get (slice_set lines home new) q ≡ Some l) same e in
            let one : new ≡ l = the_item new l (sym new_here ∙ there) in
            subst (λ l. IsWhole (waits_at m new_bests q) l) one (subst (λ q. IsWhole (waits_at m new_bests q) new) (sym same) whole)
          where
            the_item : (x y : Line) → Some x ≡ Some y → x ≡ y
            the_item x y e = cc
        by_place q l e (inr apart) =
            whole_same (waits_at m bests q) (waits_at m new_bests q) l (λ d. elsewhere q d apart (cases_eq d c)) (holds.lines q l (sym (get_set_other lines home q new (λ k. apart (sym k))) ∙ e))

  -- who waits at a processor has it as home, and a best block that is ready at the tick
  pub record Waited (q c tick : ℕ) : Type 0 where
    pub home : home_of m c ≡ q
    pub best : Best
    pub found : slice_get bests c ≡ Some (Some best)
    pub ready : best.ready ≡ tick

  pub waited : (q c tick : ℕ) → waits_at m bests q c ≡ Some tick → Waited q c tick
  waited q c tick e = by_home (cases_eq (home_of m c) q)
    where
      by_best : home_of m c ≡ q → (o : Option (Option Best)) → slice_get bests c ≡ o → ready_in o ≡ Some tick → Waited q c tick
      by_best h None k r = absurd (cc)
      by_best h (Some None) k r = absurd (cc)
      by_best h (Some (Some b)) k r = record { home = h; best = b; found = k; ready = cc }

      by_home : (home_of m c ≡ q) ⊎ (home_of m c ≡ q → ⊥) → Waited q c tick
      by_home (inl h) = by_best h (slice_get bests c) refl (sym (waits_here m bests q c h) ∙ e)
      by_home (inr h) = let none = waits_not m bests q c h in absurd (cc)

  -- a processor that has its turn has a line, and a first one in it
  pub turned : (q start : ℕ) → turn_at ends lines q ≡ Some start → q < length lines
  turned q start e = by_case (slice_get lines q) refl
    where
      by_case : (o : Option Line) → slice_get lines q ≡ o → q < length lines
      by_case None k = let none = ap (start_in (get_or ends q 0)) k in absurd (cc)
      by_case (Some line) k = slice_get_within lines q line k

  pub turn_is : (q start : ℕ) (line : Line) (o : Option (ℕ × ℕ)) → turn_at ends lines q ≡ Some start → slice_get lines q ≡ Some line → o ≡ first_of line → start_of (get_or ends q 0) o ≡ Some start
  turn_is q start line o e k f = ap (start_of (get_or ends q 0)) f ∙ (sym (ap (start_in (get_or ends q 0)) k) ∙ e)

  -- at the home of a chare that has a best block some chare is the first
  record Turn (d : ℕ) (e : Best) : Type 0 where
    pub tick : ℕ
    pub turn : turn_at ends lines (home_of m d) ≡ Some (max tick (get_or ends (home_of m d) 0))
    pub low : tick ≤ e.ready

  waits : (d : ℕ) (e : Best) → slice_get bests d ≡ Some (Some e) → waits_at m bests (home_of m d) d ≡ Some e.ready
  waits d e k = waits_here m bests (home_of m d) d refl ∙ ap ready_in k

  turn_of : (d : ℕ) (e : Best) → slice_get bests d ≡ Some (Some e) → Turn d e
  turn_of d e k = by_first (first_of line.0) refl whole.first
    where
      low : d < m.chares
      low = let w = slice_get_within bests d (Some e) k in let n = holds.bests in omega (arith, w, n)

      line : (line : Line) × (slice_get lines (home_of m d) ≡ Some line)
      line = some_at lines (home_of m d) (let h = (has_bounds m).home d low in let n = holds.count in omega (arith, h, n))

      whole : IsWhole (waits_at m bests (home_of m d)) line.0
      whole = holds.lines (home_of m d) line.0 line.1

      up : (t n : ℕ) (X : Type 0) → (t < n) ⊎ ((t ≡ n) × X) → t ≤ n
      up t n X (inl l) = omega (arith, l)
      up t n X (inr l) = let e = l.0 in omega (arith, e)

      by_first : (o : Option (ℕ × ℕ)) → first_of line.0 ≡ o → IsFirst (waits_at m bests (home_of m d)) o → Turn d e
      by_first None f h = let none = h d in let some = waits d e k in absurd (cc)
      by_first (Some t) f h = record {
        tick = t.0;
        turn = ap (start_in (get_or ends (home_of m d) 0)) line.1 ∙ ap (start_of (get_or ends (home_of m d) 0)) f;
        low = up t.0 e.ready (t.1 ≤ d) (h.least d e.ready (waits d e k));
      }

  pub none_next : IsFirst (turn_at ends lines) None → IsLeast m ends bests None
  none_next h d e k = let t = turn_of d e k in let some = t.turn in let none = h (home_of m d) in absurd (cc)

  module _ (start q : ℕ) (turn : IsFirstAt (turn_at ends lines) (start, q)) (line : Line) (here : slice_get lines q ≡ Some line) (tick c : ℕ) (first : Some (tick, c) ≡ first_of line) where
    its_first : IsFirstAt (waits_at m bests q) (tick, c)
    its_first = subst (IsFirst (waits_at m bests q)) (sym first) (holds.lines q line here).first

    pub its_best : Waited q c tick
    its_best = waited q c tick its_first.is

    its_start : start ≡ max tick (get_or ends q 0)
    its_start = let e = turn_is q start line (Some (tick, c)) turn.is here first in cc

    module _ (best : Best) (at : slice_get bests c ≡ Some (Some best)) where
      its_ready : best.ready ≡ tick
      its_ready = let w = its_best.found in let r = its_best.ready in let one : its_best.best ≡ best = cc in ap (λ (b : Best). b.ready) (sym one) ∙ r

      abbrev next : Next
      next = record { chare = c; processor = q; best = best; start = start }

      start_is : start ≡ max best.ready (get_or ends (home_of m c) 0)
      start_is = let h = ap (λ q. get_or ends q 0) its_best.home in let r = its_ready in let s = its_start in omega (arith, h, r, s)

      module _ (d : ℕ) (e : Best) (k : slice_get bests d ≡ Some (Some e)) where
        abbrev end : ℕ
        end = get_or ends (home_of m d) 0

        at_one : q ≡ home_of m d → (best.ready < e.ready) ⊎ ((best.ready ≡ e.ready) × (c ≤ d))
        at_one same = by_case (its_first.least d e.ready (subst (λ q. waits_at m bests q d ≡ Some e.ready) (sym same) (waits d e k)))
          where
            by_case : (tick < e.ready) ⊎ ((tick ≡ e.ready) × (c ≤ d)) → (best.ready < e.ready) ⊎ ((best.ready ≡ e.ready) × (c ≤ d))
            by_case (inl l) = let r = its_ready in inl (omega (arith, l, r))
            by_case (inr l) = inr (its_ready ∙ l.0, l.1)

        by_home : q ≤ home_of m d → (q < home_of m d) ⊎ (home_of m d ≤ q) → (q < home_of m d) ⊎ ((q ≡ home_of m d) × ((best.ready < e.ready) ⊎ ((best.ready ≡ e.ready) × (c ≤ d))))
        by_home l (inl k) = inl k
        by_home l (inr k) = let same : q ≡ home_of m d = omega (arith, l, k) in inr (same, at_one same)

        by_start : (t : Turn d e) → start ≡ max t.tick end → q ≤ home_of m d → (start < max e.ready end) ⊎ (max e.ready end ≤ start) → IsUpTo next (next_of m ends d e)
        by_start t s l (inl k) = inl k
        by_start t s l (inr k) = let low = t.low in inr (omega (arith, s, k, low), by_home l (cases_lt q (home_of m d)))

        by_turn : (t : Turn d e) → (start < max t.tick end) ⊎ ((start ≡ max t.tick end) × (q ≤ home_of m d)) → IsUpTo next (next_of m ends d e)
        by_turn t (inl l) = let low = t.low in inl (omega (arith, l, low))
        by_turn t (inr l) = by_start t l.0 l.1 (cases_lt start (max e.ready end))

        up_to : IsUpTo next (next_of m ends d e)
        up_to = let t = turn_of d e k in by_turn t (turn.least (home_of m d) (max t.tick end) t.turn)

      pub next_is : IsLeastAt m ends bests next
      next_is = record {
        is = at;
        next = λ i. record { chare = c; processor = sym its_best.home i; best = best; start = start_is i };
        least = λ d e k. up_to d e k;
      }
