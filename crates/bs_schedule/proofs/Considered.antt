-- One row considered, and a list of rows.
use Rattle.std.proofs.Common.{◌≡◌, ℕ, ◌+◌, ◌<◌, ◌≤◌, Bool, false, IsTrue, IsFalse, List, [], ◌∷◌, ◌++◌, ◌⊎◌, inl, inr, length, take, get_or, slice_index_or, refl, ap, arith}
use Rattle.std.proofs.lemmas.Bool.{both_ways}
use Rattle.std.proofs.lemmas.List.{take_more}
use Rattle.bs_schedule.specs.declared.plan.Cause.{Cause}
use Rattle.bs_schedule.specs.declared.plan.Plan.{Plan}
use Rattle.bs_log.specs.Lists.{Mem}
use Rattle.bs_schedule.specs.Plan.{at, causes_of, due_of}
use Rattle.bs_schedule.specs.Queue.{AllBegun, NextFit, CanStart, Considers, Queues}
use Rattle.bs_times.proofs.Members.{cases_le, mem_left, mem_right, mem_cases}
use Rattle.bs_schedule.proofs.Keys.{insert, insert_has, insert_kept, insert_from}

pub stuck : (plan : Plan) (begun : List Bool) (k place : ℕ) (causes : List Cause) (b : List Bool) → causes ≡ causes_of plan k → b ≡ begun → place < length causes → ((d : Cause) → IsFalse (slice_index_or b (slice_index_or causes place d).row false)) → CanStart plan begun k → ⊥
stuck plan begun k place causes b e f h stops can =
    let d : Cause = record { row = 0; delay = 0 } in
    let all : AllBegun causes 0 (length causes) b = rw (e, f) can in
    both_ways (slice_index_or b (slice_index_or causes place d).row false) (stops d) (all place d (omega arith) h)

pub can_start : (plan : Plan) (begun : List Bool) (next : List ℕ) (k from place : ℕ) (causes : List Cause) (b : List Bool) → causes ≡ causes_of plan k → b ≡ begun → from ≡ at next k → NextFit plan begun next → k < length plan.causes → AllBegun causes from place b → length causes ≤ place → CanStart plan begun k
can_start plan begun next k from place causes b e f g fit has passed h i d low high = go (cases_le (at next k) i)
  where
    go : (at next k ≤ i) ⊎ (i < at next k) → IsTrue (slice_index_or begun (slice_index_or (causes_of plan k) i d).row false)
    go (inl le) = rw (← e, ← f) (passed i d (omega (arith, le, g)) (let l : length causes ≡ length (causes_of plan k) = ap length e in omega (arith, high, l, h)))
    go (inr lt) = (fit k has).1 i d low lt

pub no_queues : (plan : Plan) (base : List ℕ) (starts : List ℕ) (begun : List Bool) (q : List (ℕ × ℕ)) → Queues plan base starts begun [] q q
no_queues plan base starts begun q = record { kept = λ d m. m; added = λ d m. inl m; all = λ k m. absurd m }

pub more : (plan : Plan) (base : List ℕ) (starts : List ℕ) (begun : List Bool) (ks : List ℕ) (k : ℕ) (old q new : List (ℕ × ℕ)) → Queues plan base starts begun ks old q → Considers plan base starts begun k q new → Queues plan base starts begun (ks ++ k ∷ []) old new
more plan base starts begun ks k old q new h (inl c) = rw c.1 (record {
  kept = λ d m. insert_kept q key d (h.kept d m);
  added = λ d m. from d (insert_from q key d m);
  all = λ j m can. has j can (mem_cases j ks (k ∷ []) m);
})
  where
    key : ℕ × ℕ
    key = (due_of plan base (at starts) k, k)

    Come : ℕ × ℕ → Type 0
    Come d = Mem d old ⊎ (Mem d.1 (ks ++ k ∷ []) × CanStart plan begun d.1 × (d.0 ≡ due_of plan base (at starts) d.1))

    wider : (d : ℕ × ℕ) → Mem d old ⊎ (Mem d.1 ks × CanStart plan begun d.1 × (d.0 ≡ due_of plan base (at starts) d.1)) → Mem d old ⊎ (Mem d.1 (ks ++ k ∷ []) × CanStart plan begun d.1 × (d.0 ≡ due_of plan base (at starts) d.1))
    wider d (inl m) = inl m
    wider d (inr m) = inr (mem_left d.1 ks (k ∷ []) m.0, m.1, m.2)

    from : (d : ℕ × ℕ) → Mem d q ⊎ (d ≡ (due_of plan base (at starts) k, k)) → Mem d old ⊎ (Mem d.1 (ks ++ k ∷ []) × CanStart plan begun d.1 × (d.0 ≡ due_of plan base (at starts) d.1))
    from d (inl m) = wider d (h.added d m)
    from d (inr e) = rw e (inr (mem_right k ks (k ∷ []) (inl refl), c.0, refl))

    has : (j : ℕ) → CanStart plan begun j → Mem j ks ⊎ Mem j (k ∷ []) → Mem (due_of plan base (at starts) j, j) (insert q (due_of plan base (at starts) k, k))
    has j can (inl m) = insert_kept q _ _ (h.all j m can)
    has j can (inr (inl e)) = rw e (insert_has q (due_of plan base (at starts) k, k))
    has j can (inr (inr m)) = absurd m
more plan base starts begun ks k old q new h (inr c) = rw c.1 (record {
  kept = h.kept;
  added = λ d m. wider d (h.added d m);
  all = λ j m can. has j can (mem_cases j ks (k ∷ []) m);
})
  where
    wider : (d : ℕ × ℕ) → Mem d old ⊎ (Mem d.1 ks × CanStart plan begun d.1 × (d.0 ≡ due_of plan base (at starts) d.1)) → Mem d old ⊎ (Mem d.1 (ks ++ k ∷ []) × CanStart plan begun d.1 × (d.0 ≡ due_of plan base (at starts) d.1))
    wider d (inl m) = inl m
    wider d (inr m) = inr (mem_left d.1 ks (k ∷ []) m.0, m.1, m.2)

    has : (j : ℕ) → CanStart plan begun j → Mem j ks ⊎ Mem j (k ∷ []) → Mem (due_of plan base (at starts) j, j) q
    has j can (inl m) = h.all j m can
    has j can (inr (inl e)) = absurd (c.0 (rw e at can))
    has j can (inr (inr m)) = absurd m

pub queues_more : (plan : Plan) (base : List ℕ) (starts : List ℕ) (begun : List Bool) (ks : List ℕ) (i k : ℕ) (old q new : List (ℕ × ℕ)) → i < length ks → k ≡ get_or ks i 0 → Queues plan base starts begun (take i ks) old q → Considers plan base starts begun k q new → Queues plan base starts begun (take (i + 1) ks) old new
queues_more plan base starts begun ks i k old q new h e a b = rw (take_more ks i 0 h, ← e) (more plan base starts begun (take i ks) k old q new a b)
