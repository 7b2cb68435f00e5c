-- The starts of the serial machine model are the consistent table of the log, and its outcome is the log's at that table.
use Rattle.std.proofs.Common.{◌≡◌, ◌⊎◌, inl, inr, ℕ, zero, suc, ◌+◌, List, [], ◌∷◌, ◌++◌, Less, refl, sym, ap, ap₂, subst, ◌∙◌, map, length, arith}
use Rattle.std.specs.Prelude.{◌↔◌}
use Rattle.bs_tree.specs.declared.tree.Program.{Program}
use Rattle.bs_log.specs.declared.history.Block.{Block}
use Rattle.bs_log.specs.declared.history.History.{History}
use Rattle.bs_log.specs.declared.outcome.Outcome.{Outcome}
use Rattle.bs_log.specs.Collected.{log_of, traps_from, waits_from}
use Rattle.bs_log.specs.Collected as log
use Rattle.bs_log.specs.Lists.{Mem, InOrder}
use Rattle.bs_semantics.specs.Run.{put_all}
use Rattle.bs_semantics.specs.Rounds.{mail_to, round, CleanAt}
use Rattle.bs_semantics.specs.Serial.{Machine, Started, Simulated, timed, unclean, Gives, IsSerial, IsClean, IsEnabled, messages, histories_at, started_cmp, outcome}
use Rattle.bs_semantics.specs.Serial as model
use Rattle.bs_semantics.specs.Starting.{NoneEnabled}
use Rattle.bs_semantics.specs.Reached.{IsReached, begins, Placed, placed, blocks_from}
use Rattle.bs_semantics.proofs.Members.{mem_map, map_of, in_order_map}
use Rattle.bs_semantics.proofs.Sorted.{same_sorted, all_sorted, from_all, into_all}
use Rattle.bs_semantics.proofs.Confluence.{clean_closed, closed_clean, closed_only}
use Rattle.bs_semantics.proofs.Starting.{started, stuck_closed}
use Rattle.bs_semantics.proofs.Reached.{reached_blocks, apart, started_total, is_placed, LastState, last_state, never_unclean}
use Rattle.bs_semantics.proofs.SomeSerial.{some_answer, unclean_answer}
use Rattle.bs_times.specs.Machine.{IsTimely}
use Rattle.bs_times.specs.Net.{Starts, Causal, net_of}
use Rattle.bs_times.specs.Times.{IsConsistent}
use Rattle.bs_times.specs.Outcomes.{out_row, out_rows, outcome_of}
use Rattle.bs_times.proofs.Serial.{run_is_consistent}
use Rattle.bs_times.proofs.Unique.{one_consistent_table}
use Rattle.bs_serial.specs.Times.{log_at, IsTold, IsDue}
use Rattle.bs_serial.proofs.States.{enabled_in_round, enabled_known, enabled_there}
use Rattle.bs_serial.proofs.Rows.{Item, place_cmp, place_total, row_at, all_blocks, in_order, number_item, log_rows}
use Rattle.bs_serial.proofs.Nets.{net, has_row, causal}
use Rattle.bs_serial.proofs.Readies.{row, Tells, started_in}
use Rattle.bs_serial.proofs.Runs.{run_of, none_left, starts_of, tells_of}

-- ---- rows

rows_same : (m : Machine) (all : List History) (s : Starts) (bs : List Started) (k : ℕ) → ((i : ℕ) (b : Started) → Item bs i b → s (k + i) ≡ b.start) → map (model.row_of m) bs ≡ out_rows m s k (map (row_at all) (map placed bs))
unfolding log.row_of
rows_same m all s [] k h = refl
rows_same m all s (b ∷ bs) k h = ap₂ (λ x xs. x ∷ xs) first (rows_same m all s bs (k + 1) (λ i d e. let one : k + 1 + i ≡ k + suc i = omega arith in ap s one ∙ h (suc i) d e))
  where
    first : model.row_of m b ≡ out_row m s k (row_at all (placed b))
    first =
        let zero : k ≡ k + 0 = omega arith in
        let start : b.start ≡ s k = sym (ap s zero ∙ h 0 b refl) in
        λ j. record { chare = b.chare; stmt = b.block.stmt; processor = m.home b.chare; start = start j; end = start j + m.duration b.block.cost; values = b.block.emits }

item_map : {A B : Type 0} (f : A → B) (xs : List A) (i : ℕ) (a : A) → Item xs i a → Item (map f xs) i (f a)
item_map f [] i a e = absurd e
item_map f (x ∷ xs) zero a e = ap f e
item_map f (x ∷ xs) (suc i) a e = item_map f xs i a e

item_of_all : {A : Type 0} (xs : List A) (i : ℕ) (a : A) → Item xs i a → Mem a xs
item_of_all [] i a e = absurd e
item_of_all (x ∷ xs) zero a e = inl (sym e)
item_of_all (x ∷ xs) (suc i) a e = inr (item_of_all xs i a e)

-- ---- the last state

module _ (p : Program) (limit n : ℕ) (m : Machine) (clean : CleanAt p limit n) (entries : ℕ) (bs : List Started) (r : IsReached p limit m bs) (none : NoneEnabled p limit bs) (is : histories_at p limit bs ≡ round p limit n) where
  abbrev sorted : List Started
  sorted = put_all (started_cmp m) bs []

  sorted_rise : InOrder (λ a b. place_cmp a b ≡ Less) (map placed sorted)
  sorted_rise = in_order_map placed (λ a b. started_cmp m a b ≡ Less) (λ a b. place_cmp a b ≡ Less) (λ a b e. e) sorted (all_sorted (started_cmp m) (started_total p limit m bs r) bs)

  of_sorted : (b : Started) → Mem b sorted → Mem b bs
  of_sorted b i = from_all (started_cmp m) (started_total p limit m bs r) bs b i

  is_there : (a : Placed) → Mem a (map placed sorted) → Mem a (all_blocks p limit n m clean)
  is_there a i =
      let o = map_of placed sorted a i in
      subst (λ a. Mem a (all_blocks p limit n m clean)) (sym o.is) (started_in p limit n m clean entries bs r o.from (of_sorted o.from o.is_in))

  is_begun : (a : Placed) → Mem a (all_blocks p limit n m clean) → Mem a (map placed sorted)
  is_begun a i =
      let q = is_placed p limit (mail_to (messages bs)) p.chares 0 a (subst (λ hs. Mem a (blocks_from 0 hs)) (sym is) i) in
      let s = started p limit bs (reached_blocks p limit m bs r) none a.chare q.chare a.block q.block in
      let same : placed s.started ≡ a = λ k. record { chare = s.chare k; block = s.block k } in
      subst (λ a. Mem a (map placed sorted)) same (mem_map placed s.started sorted (into_all (started_cmp m) (started_total p limit m bs r) bs (apart p limit m bs r) s.started s.is_in))

  all_begun : map placed sorted ≡ all_blocks p limit n m clean
  all_begun = same_sorted place_cmp place_total (map placed sorted) (all_blocks p limit n m clean) sorted_rise (in_order p limit n m clean) is_there is_begun

  -- the outcome of these starts is the model's
  outcome_is : (s : Starts) → Tells p limit n m clean entries s bs → outcome m p limit bs ≡ outcome_of (log_of (round p limit n) entries) m s
  unfolding log_of
  outcome_is s tells = λ j. record { rows = rows j; traps = traps j; waits = waits j }
    where
      at : (i : ℕ) (b : Started) → Item sorted i b → s (1 + i) ≡ b.start
      at i b e =
          let num : row p limit n m clean entries b ≡ suc i = number_item p limit n m clean i (placed b) (subst (λ xs. Item xs i (placed b)) all_begun (item_map placed sorted i b e)) in
          let one : 1 + i ≡ suc i = omega arith in
          ap s (one ∙ sym num) ∙ tells b (of_sorted b (item_of_all sorted i b e))

      rows : map (model.row_of m) sorted ≡ out_rows m s 1 (log_of (round p limit n) entries).rows
      rows = rows_same m (round p limit n) s sorted 1 at
          ∙ ap (λ xs. out_rows m s 1 (map (row_at (round p limit n)) xs)) all_begun
          ∙ ap (out_rows m s 1) (sym (log_rows p limit n m clean entries))

      traps : traps_from 0 (histories_at p limit bs) ≡ (log_of (round p limit n) entries).traps
      traps = ap (traps_from 0) is

      waits : waits_from 0 (histories_at p limit bs) ≡ (log_of (round p limit n) entries).waits
      waits = ap (waits_from 0) is

  module _ (timely : IsTimely m) where
    the_causal : Causal (net p limit n m clean entries)
    the_causal = causal p limit n m clean entries timely

    -- the starts of the model are a consistent table
    pub consistent : IsConsistent (net p limit n m clean entries) (starts_of p limit n m clean entries bs)
    consistent = run_is_consistent (net p limit n m clean entries) the_causal (starts_of p limit n m clean entries bs) (map (row p limit n m clean entries) bs)
        (run_of p limit n m clean entries (starts_of p limit n m clean entries bs) bs r (tells_of p limit n m clean entries bs r))
        (none_left p limit n m clean entries bs r none)

    -- so each consistent table tells them
    tells_all : (s : Starts) → IsConsistent (net p limit n m clean entries) s → Tells p limit n m clean entries s bs
    tells_all s c b i =
        one_consistent_table (net p limit n m clean entries) the_causal s (starts_of p limit n m clean entries bs) c consistent (row p limit n m clean entries b)
        (has_row p limit n m clean entries (placed b) (started_in p limit n m clean entries bs r b i))
        ∙ tells_of p limit n m clean entries bs r b i

    pub outcome_told : (s : Starts) → IsConsistent (net p limit n m clean entries) s → outcome m p limit bs ≡ outcome_of (log_of (round p limit n) entries) m s
    outcome_told s c = outcome_is s (tells_all s c)

-- ---- the laws

module _ (p : Program) (limit : ℕ) (m : Machine) where
  abbrev Told : Outcome → Type 0
  Told o = (n : ℕ) × CleanAt p limit n × IsTold m (log_at p limit n) o

  last_told : IsTimely m → (bs : List Started) → IsReached p limit m bs → IsClean p limit bs → NoneEnabled p limit bs → Told (outcome m p limit bs)
  last_told timely bs r is none =
      let c = closed_clean p limit (histories_at p limit bs) (stuck_closed p limit bs (reached_blocks p limit m bs r) none is) in
      let entries = length p.entries in (
        c.0,
        c.1,
        record {
          some = (starts_of p limit c.0 m c.1 entries bs, consistent p limit c.0 m c.1 entries bs r none c.2 timely);
          is = outcome_told p limit c.0 m c.1 entries bs r none c.2 timely;
        },
      )

  pub timed_told : (o : Outcome) → IsTimely m → IsSerial p limit m (timed o) → Told o
  timed_told o timely g = by_case l.is
    where
      l : LastState p limit m (timed o)
      l = last_state p limit m [] (timed o) begins g

      by_case : ((IsClean p limit l.state → ⊥) × (timed o ≡ unclean)) ⊎ (IsClean p limit l.state × NoneEnabled p limit l.state × (timed o ≡ timed (outcome m p limit l.state))) → Told o
      by_case (inl e) = let q = e.1 in absurd (cc)
      by_case (inr e) = let q = e.2 in let same : outcome m p limit l.state ≡ o = cc in subst Told same (last_told timely l.state l.reached e.0 e.1)

  -- what one Clean round tells, each tells
  pub told_at : (n k : ℕ) (o : Outcome) → CleanAt p limit n → CleanAt p limit k → IsTold m (log_at p limit k) o → IsTold m (log_at p limit n) o
  told_at n k o h g t =
      let same : round p limit k ≡ round p limit n = closed_only p limit n (round p limit k) h (clean_closed p limit k g) in
      let entries = length p.entries in
      subst (λ hs. IsTold m (log_of hs entries) o) same t

  pub model_gives : (n : ℕ) (s : Starts) → IsTimely m → CleanAt p limit n → IsConsistent (net_of (log_at p limit n) m) s → IsSerial p limit m (timed (outcome_of (log_at p limit n) m s))
  model_gives n s timely clean c = by_answer a.0 a.1
    where
      a : (r : Simulated) × IsSerial p limit m r
      a = some_answer p limit m

      by_answer : (r : Simulated) → IsSerial p limit m r → IsSerial p limit m (timed (outcome_of (log_at p limit n) m s))
      by_answer unclean g = absurd (never_unclean p limit m n clean g)
      by_answer (timed o) g =
          let t = timed_told o timely g in
          let u = told_at n t.0 o clean t.1 t.2 in
          subst (λ o. IsSerial p limit m (timed o)) (u.is s c) g

  pub is_unclean : IsSerial p limit m unclean ↔ ((n : ℕ) → CleanAt p limit n → ⊥)
  is_unclean = (λ g n h. never_unclean p limit m n h g, λ f. unclean_answer p limit m f)

pub causal_net : (p : Program) (limit n : ℕ) (m : Machine) → IsTimely m → CleanAt p limit n → Causal (net_of (log_at p limit n) m)
causal_net p limit n m timely clean = causal p limit n m clean (length p.entries) timely

-- in a state that the model reaches, the blocks that can be started are those whose causes were
pub enabled_is_due : (p : Program) (limit n : ℕ) (m : Machine) (bs : List Started) → CleanAt p limit n → IsReached p limit m bs → (c : ℕ) (x : Block) → IsEnabled p limit bs c x ↔ IsDue p limit n bs c x
enabled_is_due p limit n m bs clean r c x = (
  (λ e. let k = enabled_known p limit n m clean bs r c x e in record { chare = e.chare; block = enabled_in_round p limit n m clean bs r c x e; fresh = e.fresh; after = λ q i. k.after q i; mail = λ o i. k.mail o i }),
  (λ d. enabled_there p limit n m clean bs r c x d.chare d.block d.fresh (record { after = λ q i. d.after q i; mail = λ o i. d.mail o i })),
)
