-- What each processor did, one block after another.
use Rattle.std.proofs.Common.{◌≡◌, ◌≢◌, ℕ, ◌+◌, ◌-◌, ◌*◌, ◌^◌, ◌<◌, ◌≤◌, List, [], ◌∷◌, ◌++◌, length, map, max, false, ◌||◌, ◌==◌, unwrap_or, sym, refl, ap, subst, ◌∙◌, arith, get_or, take, append_assoc, append-nil, length-append}
use Rattle.std.specs.Ordering.{nat_cmp}
use Rattle.std.specs.BTreeMap.{insert_entry, is_at}
use Rattle.std.specs.Map.{lookup}
use Rattle.std.specs.List.{All, filter, flat_map, fold, list_any, sum_by}
use Rattle.std.proofs.lemmas.Bool.Decides.{nat_tests}
use Rattle.std.proofs.lemmas.List.Elements.{All-filter, All-map, All-nil, filter-append}
use Rattle.std.proofs.lemmas.List.{take_more}
use Rattle.std.proofs.lemmas.List.Sums.{sum_by-le, sum_by_push, length-filter, count_by-le-length}
use Rattle.bs_log.specs.declared.outcome.OutRow.{OutRow}
use Rattle.bs_log.specs.Reportable.{IsTimed}
use Rattle.bs_report.specs.declared.processors.Load.{Load}
use Rattle.bs_report.specs.Loads.{load_on, loads_of, no_load, load_line, IsShare}
use Rattle.bs_report.specs.Report.{rows_on, duration_of, processors_of, processor_line, span_of, with_number}
use Rattle.bs_report.proofs.Rising.{Rises, rises_more, with_number_comm, insert_into, looked_up, any_more}

pub processors_rise : (rows : List OutRow) → Rises (processors_of rows)
processors_rise [] = tt
processors_rise (row ∷ rows) = rises_more row.processor (processors_of rows) (processors_rise rows)

processors_push : (rows : List OutRow) (row : OutRow) → processors_of (rows ++ row ∷ []) ≡ with_number row.processor (processors_of rows)
processors_push [] row = refl
processors_push (first ∷ rows) row =
    ap (with_number first.processor) (processors_push rows row) ∙ with_number_comm first.processor row.processor (processors_of rows)

-- a processor is among them exactly where a block ran on it
pub processors_any : (k : ℕ) (rows : List OutRow) → list_any (λ p. p == k) (processors_of rows) ≡ list_any (λ row. row.processor == k) rows
processors_any k [] = refl
processors_any k (row ∷ rows) = any_more k row.processor (processors_of rows) ∙ ap (λ b. (row.processor == k) || b) (processors_any k rows)

-- no block ran on a processor that isn't among them
none_on : (k : ℕ) (rows : List OutRow) → list_any (λ row. row.processor == k) rows ≡ false → rows_on k rows ≡ []
none_on k [] none = refl
none_on k (row ∷ rows) none = let others = none_on k rows in grind (arith, nat_tests, others)

absent_load : (k : ℕ) (rows : List OutRow) → list_any (λ p. p == k) (processors_of rows) ≡ false → load_on rows k ≡ no_load
absent_load k rows none =
    let empty = none_on k rows (sym (processors_any k rows) ∙ none) in
    ap (λ on. let load : Load = record { blocks = length on; busy = sum_by duration_of on } in load) empty

-- what the map so far has at a processor
load_before : (k : ℕ) (rows : List OutRow) → unwrap_or (lookup (is_at (nat_cmp k)) (loads_of rows)) no_load ≡ load_on rows k
load_before k rows = looked_up (load_on rows) no_load k (processors_of rows) (absent_load k rows)

rows_same : (rows : List OutRow) (row : OutRow) → rows_on row.processor (rows ++ row ∷ []) ≡ rows_on row.processor rows ++ row ∷ []
rows_same rows row =
    let test = λ (other : OutRow). other.processor == row.processor in
    let one : filter test (row ∷ []) ≡ row ∷ [] = grind (arith, nat_tests) in
    filter-append test rows (row ∷ []) ∙ ap (λ on. rows_on row.processor rows ++ on) one

rows_other : (rows : List OutRow) (row : OutRow) (k : ℕ) → k ≢ row.processor → rows_on k (rows ++ row ∷ []) ≡ rows_on k rows
rows_other rows row k apart =
    let test = λ (other : OutRow). other.processor == k in
    let none : filter test (row ∷ []) ≡ [] = grind (arith, nat_tests) in
    filter-append test rows (row ∷ []) ∙ ap (λ on. rows_on k rows ++ on) none ∙ append-nil (rows_on k rows)

-- the load of some blocks
load_from : List OutRow → Load
load_from on = record { blocks = length on; busy = sum_by duration_of on }

-- one more block is one more block of its own processor
load_same : (rows : List OutRow) (row : OutRow) →
    load_on (rows ++ row ∷ []) row.processor
    ≡ record { blocks = (load_on rows row.processor).blocks + 1; busy = (load_on rows row.processor).busy + (row.end - row.start) }
unfolding load_from
load_same rows row =
    let on = rows_on row.processor rows in
    let more : length (on ++ row ∷ []) ≡ length on + 1 = simp length-append in
    let longer : sum_by duration_of (on ++ row ∷ []) ≡ sum_by duration_of on + (row.end - row.start) = sum_by_push duration_of on row in
    ap load_from (rows_same rows row) ∙ (λ i. record { blocks = more i; busy = longer i })

load_other : (rows : List OutRow) (row : OutRow) (k : ℕ) → k ≢ row.processor → load_on (rows ++ row ∷ []) k ≡ load_on rows k
unfolding load_from
load_other rows row k apart = ap load_from (rows_other rows row k apart)

-- the map with one more block
loads_push : (rows : List OutRow) (row : OutRow) →
    insert_entry nat_cmp (loads_of rows) row.processor (record { blocks = (load_on rows row.processor).blocks + 1; busy = (load_on rows row.processor).busy + (row.end - row.start) })
    ≡ loads_of (rows ++ row ∷ [])
loads_push rows row =
    let all = rows ++ row ∷ [] in
    ap (λ load. insert_entry nat_cmp (loads_of rows) row.processor load) (sym (load_same rows row))
    ∙ insert_into (load_on rows) (load_on all) row.processor (processors_of rows) (processors_rise rows) (load_other rows row)
    ∙ ap (λ ps. map {B = ℕ × Load} (λ p. (p, load_on all p)) ps) (sym (processors_push rows row))

-- one turn of the loop over the blocks
pub loads_more : (rows : List OutRow) (i : ℕ) (row : OutRow) (old new : List (ℕ × Load)) (before : Load) → i < length rows
    → row ≡ get_or rows i row → old ≡ loads_of (take i rows) → before ≡ load_on (take i rows) row.processor
    → new ≡ insert_entry nat_cmp old row.processor (record { blocks = before.blocks + 1; busy = before.busy + (row.end - row.start) })
    → new ≡ loads_of (take (i + 1) rows)
loads_more rows i row old new before within at so was put =
    let one : take (i + 1) rows ≡ take i rows ++ row ∷ [] = take_more rows i row within ∙ ap (λ r. take i rows ++ r ∷ []) (sym at) in
    let put_here : insert_entry nat_cmp old row.processor (record { blocks = before.blocks + 1; busy = before.busy + (row.end - row.start) })
    ≡ insert_entry nat_cmp (loads_of (take i rows)) row.processor
    (record { blocks = (load_on (take i rows) row.processor).blocks + 1; busy = (load_on (take i rows) row.processor).busy + (row.end - row.start) })
    = (λ j. insert_entry nat_cmp (so j) row.processor (record { blocks = (was j).blocks + 1; busy = (was j).busy + (row.end - row.start) })) in
    put ∙ put_here ∙ loads_push (take i rows) row ∙ ap loads_of (sym one)

pub map_before : (entries : List (ℕ × Load)) (rows : List OutRow) (k : ℕ) (load : Load) → entries ≡ loads_of rows
    → load ≡ unwrap_or (lookup (is_at (nat_cmp k)) entries) no_load → load ≡ load_on rows k
map_before entries rows k load so is = is ∙ ap (λ es. unwrap_or (lookup (is_at (nat_cmp k)) es) no_load) so ∙ load_before k rows

-- a processor runs no more blocks than there are
pub blocks_bound : (k : ℕ) (rows : List OutRow) → (load_on rows k).blocks ≤ length rows
blocks_bound k rows = let test = λ (row : OutRow). row.processor == k in omega (arith, length-filter test rows, count_by-le-length test rows)

pub busy_bound : (k : ℕ) (rows : List OutRow) → All IsTimed rows → (load_on rows k).busy ≤ length rows * 2 ^ 48
busy_bound k rows timed =
    let test = λ (row : OutRow). row.processor == k in
    let short : All (λ row. duration_of row ≤ 2 ^ 48) rows = λ i d h. omega (arith, (timed i d h).is_short) in
    omega (arith, sum_by-le duration_of (2 ^ 48) (rows_on k rows) (All-filter test (λ row. duration_of row ≤ 2 ^ 48) rows short), blocks_bound k rows)

latest_le : (rows : List OutRow) (n : ℕ) → n ≤ fold (λ latest row. max latest row.end) n rows
latest_le [] n = omega arith
latest_le (row ∷ rows) n = let more = latest_le rows (max n row.end) in omega (arith, more)

-- the ticks of each processor can be taken as a share of the span
pub loads_share : (rows : List OutRow) → length rows ≤ 262144 → All IsTimed rows → All (IsShare (span_of rows)) (loads_of rows)
loads_share [] small timed = All-nil _
loads_share (row ∷ rows) small timed =
    let first : IsTimed row = timed 0 row (omega arith) in
    let some : 0 < span_of (row ∷ rows) = omega (arith, first.takes_time, latest_le rows (max 0 row.end)) in
    All-map (IsShare (span_of (row ∷ rows))) (λ p. (p, load_on (row ∷ rows) p)) (processors_of (row ∷ rows))
    (λ i d h. let p = get_or (processors_of (row ∷ rows)) i d in
    record { has_span = some; is_small = omega (arith, small, busy_bound p (row ∷ rows) timed) })

lines_along : (rows : List OutRow) (ps : List ℕ) →
    flat_map (load_line (span_of rows)) (map (λ p. (p, load_on rows p)) ps) ≡ flat_map (processor_line rows) ps
lines_along rows [] = refl
lines_along rows (p ∷ ps) = ap (λ text. processor_line rows p ++ text) (lines_along rows ps)

-- the text with one more item written
pub written_more : {X : Type 0} (f : X → List ℕ) (a b all : List ℕ) (left rest : List X) (x : X) → left ≡ x ∷ rest → b ≡ a ++ f x
    → a ++ flat_map f left ≡ all → b ++ flat_map f rest ≡ all
written_more f a b all left rest x is wrote so = rw wrote (append_assoc a (f x) (flat_map f rest) ∙ subst (λ items. a ++ flat_map f items ≡ all) is so)

pub load_lines : (rows : List OutRow) → flat_map (load_line (span_of rows)) (loads_of rows) ≡ flat_map (processor_line rows) (processors_of rows)
load_lines rows = lines_along rows (processors_of rows)
