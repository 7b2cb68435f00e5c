-- Where no block can start, the outcome is that of the serial machine model, and it can be reported.
use Rattle.std.proofs.Common.{◌≡◌, ◌≤◌, ◌<◌, ◌⊎◌, inl, inr, ℕ, suc, List, [], ◌∷◌, None, length, get_or, map, refl, sym, ap, subst, ◌∙◌, arith, Ordering, Less, Equal, Greater, Result, Ok, Err, IfOk, IfErr, OnOk}
use Rattle.std.proofs.lemmas.List.{length-map}
use Rattle.bs_tree.specs.declared.tree.Program.{Program}
use Rattle.bs_log.specs.declared.outcome.OutRow.{OutRow}
use Rattle.bs_log.specs.declared.outcome.Outcome.{Outcome}
use Rattle.bs_log.specs.Lists.{Mem}
use Rattle.bs_log.specs.Collected.{traps_from, waits_from}
use Rattle.bs_log.specs.Reportable.{IsTimed, IsReportable}
use Rattle.bs_machine.specs.declared.fitted.Fitted.{Fitted}
use Rattle.bs_machine.proofs.Bounds.{has_bounds}
use Rattle.bs_semantics.specs.Run.{place_by, put, put_all}
use Rattle.bs_semantics.specs.Rounds.{CleanAt}
use Rattle.bs_semantics.specs.Serial.{Started, Machine, Simulated, timed, Gives, starts, ends, histories_at, started_cmp, row_of, rows_of, outcome}
use Rattle.bs_semantics.specs.Starting.{NoneEnabled}
use Rattle.bs_semantics.specs.Reached.{IsReached, begins, goes_on}
use Rattle.bs_semantics.proofs.Reached.{reached_clean}
use Rattle.bs_semantics.proofs.Sorted.{put_all_member}
use Rattle.bs_model.specs.declared.book.Begun.{Begun}
use Rattle.bs_model.specs.declared.state.State.{State}
use Rattle.bs_model.specs.declared.stop.Stop.{Stop}
use Rattle.bs_model.specs.Book.{keyed}
use Rattle.bs_times.specs.Machine.{machine_of}
use Rattle.bs_model.specs.Next.{IsLeast}
use Rattle.bs_model.specs.State.{Follows, entry_of}
use Rattle.bs_model.specs.Stop.{Denies}
use Rattle.bs_model.proofs.Choosing.{best_for}
use Rattle.bs_model.proofs.Counts.{few}
use Rattle.bs_model.proofs.Denying.{denies_also}
use Rattle.bs_model.proofs.Early.{started_low}
use Rattle.bs_model.proofs.Following.{each_of}
use Rattle.bs_model.proofs.Running.{reached}

put_length : {A : Type 0} (cmp : A → A → Ordering) (x : A) (ys : List A) → length (put cmp x ys) ≤ suc (length ys)
put_length cmp x [] = omega arith
put_length cmp x (y ∷ ys) = by_order (cmp x y) (put_length cmp x ys)
  where
    by_order : (o : Ordering) → length (put cmp x ys) ≤ suc (length ys) → length (place_by o x y ys (put cmp x ys)) ≤ suc (length (y ∷ ys))
    by_order Less l = omega arith
    by_order Equal l = omega arith
    by_order Greater l = omega (arith, l)

all_length : {A : Type 0} (cmp : A → A → Ordering) (xs : List A) → length (put_all cmp xs []) ≤ length xs
all_length cmp [] = omega arith
all_length cmp (x ∷ xs) = let one = put_length cmp x (put_all cmp xs []) in let more = all_length cmp xs in omega (arith, one, more)

rows_same : (m : Fitted) (xs : List Started) → map (λ (e : List ℕ × Begun). e.1.row) (map (entry_of m) xs) ≡ map (row_of (machine_of m)) xs
unfolding machine_of
rows_same m [] = refl
rows_same m (x ∷ xs) = ap (λ rows. row_of (machine_of m) x ∷ rows) (rows_same m xs)

-- what a reached state gives, the model gives
gives_first : (p : Program) (limit : ℕ) (m : Machine) (r : Simulated) (bs : List Started) → IsReached p limit m bs → Gives p limit m bs r → Gives p limit m [] r
gives_first p limit m r _ begins g = g
gives_first p limit m r _ (goes_on bs b h clean next) g = gives_first p limit m r bs h (starts bs b r clean next g)

pub none_enabled : (p : Program) (limit : ℕ) (m : Fitted) (bs : List Started) (s : State) → Follows p limit m bs s → IsLeast m s.agenda.ends.items s.agenda.bests.items None → NoneEnabled p limit bs
none_enabled p limit m bs s f none c x e = let b = best_for p limit m bs s f c x e in none c b.best b.is

module _ (p : Program) (limit : ℕ) (m : Fitted) (n : ℕ) (clean : CleanAt p limit n) (small : limit ≤ 262144) (bs : List Started) (s : State) (f : Follows p limit m bs s) where
  its_reached : IsReached p limit (machine_of m) bs
  its_reached = reached p limit (machine_of m) n clean bs f.started

  module _ (o : Outcome) (rows : o.rows ≡ map (λ (e : List ℕ × Begun). e.1.row) (keyed s.book)) (traps : o.traps ≡ traps_from 0 s.histories.items) (waits : o.waits ≡ waits_from 0 s.histories.items) where
    its_rows : o.rows ≡ rows_of (machine_of m) bs
    its_rows = rows ∙ (ap (map (λ (e : List ℕ × Begun). e.1.row)) f.book ∙ rows_same m (put_all (started_cmp (machine_of m)) bs []))

    its_traps : o.traps ≡ traps_from 0 (histories_at p limit bs)
    its_traps = traps ∙ ap (traps_from 0) f.histories

    its_waits : o.waits ≡ waits_from 0 (histories_at p limit bs)
    its_waits = waits ∙ ap (waits_from 0) f.histories

    its_outcome : outcome (machine_of m) p limit bs ≡ o
    its_outcome = λ i. record { rows = sym its_rows i; traps = sym its_traps i; waits = sym its_waits i }

    pub is_serial : IsLeast m s.agenda.ends.items s.agenda.bests.items None → Gives p limit (machine_of m) [] (timed o)
    is_serial none =
        subst (λ o. Gives p limit (machine_of m) [] (timed o)) its_outcome
        (gives_first p limit (machine_of m) _ bs its_reached (ends bs (reached_clean p limit (machine_of m) n clean bs its_reached) (none_enabled p limit m bs s f none)))

    its_time : (b : Started) → Mem b bs ⊎ Mem b [] → IsTimed (row_of (machine_of m) b)
    unfolding machine_of
    its_time b (inl i) =
        let low = started_low p limit m bs f.started b i in
        let count = few p limit (machine_of m) n clean bs its_reached in
        let ends = low.ends in
        let duration = (has_bounds m).duration b.block.cost low.proper.least low.proper.most in
        record { takes_time = omega (arith, duration.0); is_short = omega (arith, duration.1); is_early = omega (arith, ends, count, small) }
    its_time b (inr i) = absurd i

    pub is_reportable : IsReportable o
    is_reportable =
        let count = few p limit (machine_of m) n clean bs its_reached in
        let all = all_length (started_cmp (machine_of m)) bs in
        let rows_count = length-map (put_all (started_cmp (machine_of m)) bs []) (row_of (machine_of m)) in
        let same = ap (λ (rows : List OutRow). length rows) its_rows in
        record {
          is_small = omega (arith, count, all, rows_count, same, small);
          is_timed = subst (λ (rows : List OutRow). (k : ℕ) (d : OutRow) → k < length rows → IsTimed (get_or rows k d)) (sym its_rows)
              (each_of IsTimed (row_of (machine_of m)) (put_all (started_cmp (machine_of m)) bs []) (λ b i. its_time b (put_all_member (started_cmp (machine_of m)) b bs [] i)));
        }

-- facts on what was given, and what follows from them
pub if_given : {A E : Type 0} (P Q R S : A → Type 0) (T : Type 0) → ((a : A) → P a → Q a → R a → T → S a) → (r : Result A E) → IfOk r P → IfOk r Q → IfOk r R → OnOk r T → IfOk r S
if_given P Q R S T f (Ok a) p q r t = f a p q r t
if_given P Q R S T f (Err e) p q r t = tt

pub on_given : {A E : Type 0} (T U : Type 0) → (T → U) → (r : Result A E) → OnOk r T → OnOk r U
on_given T U f (Ok a) t = f t
on_given T U f (Err e) t = tt

pub if_denied : {A : Type 0} (P Q : Type 0) → (Q → P) → (r : Result A Stop) → IfErr r (Denies P) → IfErr r (Denies Q)
if_denied P Q f (Ok a) d = tt
if_denied P Q f (Err s) d = denies_also P Q f s d
