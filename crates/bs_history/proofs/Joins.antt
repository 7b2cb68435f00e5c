-- A part of an overlap beside those so far.
use Rattle.std.proofs.Common.{◌≡◌, ◌≤◌, ◌<◌, ℕ, ◌+◌, arith, le_trans, List, [], ◌∷◌, ◌++◌, append_assoc, length, length-append, ◌==◌, Err, drop, map, Option, Some, None, Bool, true, false, refl, le_refl, sym, ap, ap₂, ◌∙◌}
use Rattle.std.proofs.lemmas.List.{drop_all}
use Rattle.bs_tree.specs.declared.tree.Stmt.{Stmt}
use Rattle.bs_tree.specs.Count.{statements_of}
use Rattle.bs_semantics.specs.Run.{Lookup, Run, Meant, State as PlainState, both, join, parts, overlap, no_causes}
use Rattle.bs_history.specs.declared.trail.Trail.{Trail}
use Rattle.bs_history.specs.declared.ground.Ground.{Ground}
use Rattle.bs_history.specs.declared.ground.State.{State}
use Rattle.std.proofs.lemmas.List.Sums.{sum_by-append}
use Rattle.bs_log.specs.Size.{block_size}
use Rattle.bs_history.specs.declared.fault.HistoryFault.{HistoryFault}
use Rattle.bs_history.specs.declared.fault.HistoryFault.TheVariants.{Long, Memory}
use Rattle.bs_history.proofs.Trails.{so_far_size}
use Rattle.bs_history.proofs.Lefts.{long_left}
use Rattle.bs_history.specs.Trail.{so_far, run_size}
use Rattle.bs_history.specs.Joined.{IsJoined, bare, state_in}
use Rattle.bs_history.specs.Ground.{IsReady, Left, Did, Runs, means, mail_of, program_of, state_of, stopped, reached}
use Rattle.bs_history.proofs.Meanings.{count_is}

so_far_join : (w : ℕ → Bool) (o : Trail) (r q : Run) → so_far o (join w r q) ≡ join w (so_far o r) q
so_far_join w o r q = λ i. record {
  blocks = sym (append_assoc o.blocks r.blocks q.blocks) i;
  asked = sym (append_assoc o.asked r.asked q.asked) i;
  traps = sym (append_assoc o.traps r.traps q.traps) i;
  waits = sym (append_assoc o.waits r.waits q.waits) i;
  end = both w r.end q.end;
}

parts_after : (o u : Trail) (r q : Run) (ds : List Meant) (k : ℕ) (mail : Lookup) (n : ℕ) (path : List ℕ) (s : PlainState) → so_far o r ≡ so_far u q → so_far o (parts r ds k mail n path s) ≡ so_far u (parts q ds k mail n path s)
parts_after o u r q [] k mail n path s e = e
parts_after o u r q (d ∷ ds) k mail n path s e =
    parts_after o u (join d.writes r (d.does mail n (path ++ k ∷ []) s)) (join d.writes q (d.does mail n (path ++ k ∷ []) s)) ds (k + 1) mail (n + d.count) path s
    (so_far_join d.writes o r _ ∙ (ap (λ x. join d.writes x (d.does mail n (path ++ k ∷ []) s)) e ∙ sym (so_far_join d.writes u q _)))

stopped_is : (b : Bool) (s : State) → stopped b s ≡ bare (reached b s)
stopped_is true s = refl
stopped_is false s = refl

bare_beside : (w : ℕ → Bool) (o u : Trail) (d : Run) (x y z : Option PlainState) → so_far u (bare y) ≡ so_far o d → z ≡ both w x y → so_far o (join w (bare x) d) ≡ so_far u (bare z)
bare_beside w o u d x y z e j =
    let end : both w x d.end ≡ z = ap (λ r. both w x r.end) (sym e) ∙ sym j in
    λ i. record { blocks = (sym e i).blocks; asked = (sym e i).asked; traps = (sym e i).traps; waits = (sym e i).waits; end = end i }

module _ (g : Ground) (xs : List Stmt) (i : ℕ) (x : Stmt) (d : drop i xs ≡ x ∷ drop (i + 1) xs) (whole : Run) (old mid new : Trail) (s part : State) (k n : ℕ) where
  abbrev rest : Option PlainState → ℕ → List ℕ → Run
  rest j n path = parts (bare j) (map (means g) (drop (i + 1) xs)) (k + 1) (mail_of g) n path (state_of s)

  abbrev one : Run
  one = (means g x).does (mail_of g) n (mid.path.items ++ k ∷ []) (state_of s)

  -- a part was run, and joined with those so far
  pub part_on : (j j' : Option PlainState) (ended : Bool) → Left g (parts (bare j) (map (means g) (drop i xs)) k (mail_of g) n mid.path.items (state_of s)) whole old mid s → Did g one mid new part ended →
      j' ≡ both (means g x).writes j (reached ended part) → (n' : ℕ) → n' ≡ n + statements_of x → IsReady g new s → Left g (rest j' n' new.path.items) whole old new s
  part_on j j' ended h r e n' q ready =
      let beside = bare_beside (means g x).writes mid new one j (reached ended part) j' (ap (so_far new) (sym (stopped_is ended part)) ∙ r.run) e in
      let count = ap (λ m. n + m) (count_is (program_of g) g.limit g.this x) ∙ sym q in
      record {
        path = r.path ∙ h.path;
        run = ap₂ (λ n path. so_far new (rest j' n path)) (sym count) r.path
            ∙ (sym (parts_after mid new (join (means g x).writes (bare j) one) (bare j') (map (means g) (drop (i + 1) xs)) (k + 1) (mail_of g) (n + (means g x).count) mid.path.items (state_of s) beside)
            ∙ (sym (ap (λ ys. so_far mid (parts (bare j) (map (means g) ys) k (mail_of g) n mid.path.items (state_of s))) d) ∙ h.run));
        ready = ready;
        more = le_trans h.more r.more;
      }

-- an overlap with a part begins with no part
pub begins : (g : Ground) (xs : List Stmt) → (length xs ≡ 0 → ⊥) → (n : ℕ) (t : Trail) (s joined : State) → joined ≡ record s { causes = no_causes } → IsReady g t s →
    Left g (parts (bare (state_in (Some joined))) (map (means g) xs) 0 (mail_of g) n t.path.items (state_of s)) (overlap (map (means g) xs) (mail_of g) n t.path.items (state_of s)) t t s
begins g [] h n t s joined e ready = absurd (h refl)
begins g (x ∷ xs) h n t s joined e ready = record {
  path = refl;
  run = ap (λ j. so_far t (parts (bare (Some (state_of j))) (map (means g) (x ∷ xs)) 0 (mail_of g) n t.path.items (state_of s))) e;
  ready = ready;
  more = le_refl t.size;
}

-- a state is as ready later, where more is written
pub ready_later : (g : Ground) (old new : Trail) (s s' : State) → IsReady g old s → IsReady g new s' → old.size ≤ new.size → IsReady g new s
ready_later g old new s s' a b l = let k = a.shallow in record { made = a.made; this = a.this; shallow = omega (arith, k, l); within = b.within }

pub joined_later : (g : Ground) (old new : Trail) (j : Option State) (s' : State) → IsJoined g old j → IsReady g new s' → old.size ≤ new.size → IsJoined g new j
joined_later g old new (Some s) s' a b l = ready_later g old new s s' a b l
joined_later g old new None s' a b l = tt

-- no part is left
pub parts_done : (g : Ground) (xs : List Stmt) (i : ℕ) → length xs ≤ i → (whole : Run) (old t : Trail) (s s' : State) (j : Option State) (b : Bool) (k n : ℕ) → state_in j ≡ reached b s' → IsReady g t s' →
    Left g (parts (bare (state_in j)) (map (means g) (drop i xs)) k (mail_of g) n t.path.items (state_of s)) whole old t s → Did g whole old t s' b
parts_done g xs i l whole old t s s' j b k n e ready h = record {
  path = h.path;
  run = ap (so_far t) (stopped_is b s' ∙ ap bare (sym e)) ∙ (sym (ap (λ ys. so_far t (parts (bare (state_in j)) (map (means g) ys) k (mail_of g) n t.path.items (state_of s))) (drop_all i xs l)) ∙ h.run);
  ready = ready;
  more = h.more;
}

join_left : (w : ℕ → Bool) (r q : Run) → run_size r ≤ run_size (join w r q)
join_left w r q =
    let b = sum_by-append block_size r.blocks q.blocks in
    let a = length-append r.asked q.asked in
    let t = length-append r.traps q.traps in
    omega (arith, b, a, t)

join_right : (w : ℕ → Bool) (r q : Run) → run_size q ≤ run_size (join w r q)
join_right w r q =
    let b = sum_by-append block_size r.blocks q.blocks in
    let a = length-append r.asked q.asked in
    let t = length-append r.traps q.traps in
    omega (arith, b, a, t)

parts_size : (r : Run) (ds : List Meant) (k : ℕ) (mail : Lookup) (n : ℕ) (path : List ℕ) (s : PlainState) → run_size r ≤ run_size (parts r ds k mail n path s)
parts_size r [] k mail n path s = le_refl (run_size r)
parts_size r (d ∷ ds) k mail n path s =
    le_trans (join_left d.writes r (d.does mail n (path ++ k ∷ []) s)) (parts_size (join d.writes r (d.does mail n (path ++ k ∷ []) s)) ds (k + 1) mail (n + d.count) path s)

-- a part alone is too much
pub part_long : (g : Ground) (xs : List Stmt) (i : ℕ) (x : Stmt) → drop i xs ≡ x ∷ drop (i + 1) xs → (whole : Run) (old mid : Trail) (s : State) (k n : ℕ) (j : Option PlainState) →
    Left g (parts (bare j) (map (means g) (drop i xs)) k (mail_of g) n mid.path.items (state_of s)) whole old mid s →
    g.room < run_size (so_far mid ((means g x).does (mail_of g) n (mid.path.items ++ k ∷ []) (state_of s))) → g.room < run_size (so_far old whole)
part_long g xs i x d whole old mid s k n j h l =
    let one = (means g x).does (mail_of g) n (mid.path.items ++ k ∷ []) (state_of s) in
    let all = parts (bare j) (map (means g) (drop i xs)) k (mail_of g) n mid.path.items (state_of s) in
    let more = parts (join (means g x).writes (bare j) one) (map (means g) (drop (i + 1) xs)) (k + 1) (mail_of g) (n + (means g x).count) mid.path.items (state_of s) in
    let same : run_size all ≡ run_size more = ap (λ ys. run_size (parts (bare j) (map (means g) ys) k (mail_of g) n mid.path.items (state_of s))) d in
    let a = join_right (means g x).writes (bare j) one in
    let b = parts_size (join (means g x).writes (bare j) one) (map (means g) (drop (i + 1) xs)) (k + 1) (mail_of g) (n + (means g x).count) mid.path.items (state_of s) in
    let c = so_far_size mid one in
    let e = so_far_size mid all in
    long_left g all whole old mid s h (omega (arith, same, a, b, c, e, l))

pub part_err : (g : Ground) (xs : List Stmt) (i : ℕ) (x : Stmt) → drop i xs ≡ x ∷ drop (i + 1) xs → (whole : Run) (old mid new t : Trail) (s part s' : State) (k n : ℕ) (j : Option PlainState) →
    Left g (parts (bare j) (map (means g) (drop i xs)) k (mail_of g) n mid.path.items (state_of s)) whole old mid s → (f : HistoryFault) →
    Runs g ((means g x).does (mail_of g) n (mid.path.items ++ k ∷ []) (state_of s)) mid new part (Err f) → Runs g whole old t s' (Err f)
part_err g xs i x d whole old mid new t s part s' k n j h Long r = part_long g xs i x d whole old mid s k n j h r
part_err g xs i x d whole old mid new t s part s' k n j h Memory r = tt

pub not_empty : (n : ℕ) → false ≡ (n == 0) → n ≡ 0 → ⊥
not_empty n e z = let q : false ≡ true = e ∙ ap (λ m. m == 0) z in absurd (cc)
