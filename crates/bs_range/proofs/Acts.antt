-- Acts keep the numbers of a block in 64 bits: its cells, the values that it emits, and what it sends.
use Rattle.std.proofs.Common.{◌≡◌, ◌⊎◌, inl, inr, ℕ, zero, suc, ◌+◌, ◌-◌, ◌^◌, ℤ, pos, Bool, true, false, if◌then◌else◌, List, [], ◌∷◌, ◌++◌, Some, None, Result, Ok, Err, refl, sym, subst, subst₂, map, length, nat_lt, nat_le, slice_set}
use Rattle.std.proofs.lemmas.Bool.{and_parts}
use Rattle.bs_tree.specs.declared.tree.Program.{Program}
use Rattle.bs_tree.specs.declared.tree.NameId.{NameId}
use Rattle.bs_tree.specs.declared.tree.Expr.{Expr}
use Rattle.bs_tree.specs.declared.tree.Act.{Act}
use Rattle.bs_tree.specs.declared.tree.Act.TheOpen.{Act-F}
use Rattle.bs_tree.specs.declared.tree.Act.TheFolds.{fold-roll-Act, ind-Act, map-Act}
use Rattle.bs_log.specs.declared.history.TrapKind.{TrapKind}
use Rattle.bs_log.specs.declared.history.TrapKind.TheVariants.{Target, BytesRange, WorkRange, CostRange, Steps}
use Rattle.bs_log.specs.Valid.{IsWord}
use Rattle.bs_log.specs.Lists.{Mem}
use Rattle.bs_log.proofs.ClosedTests.{either}
use Rattle.bs_semantics.specs.Layout.{place_of, entry_of}
use Rattle.bs_semantics.specs.Value.{Cells, Value, value_of, is_zero, indexed}
use Rattle.bs_semantics.specs.Acts.{Parcel, Tally, Done, Acting, with_value, stepped, do_all, do_else, times, count_turns, values_of, upto, bytes_value, choose_acts, worked, act_step, act_of, block_of}
use Rattle.bs_check.specs.Known.{all_true}
use Rattle.bs_range.specs.Numbers.{small_in_expression, small_in_expressions, small_in_act, small_in_acts}
use Rattle.bs_range.specs.Numbers as numbers
use Rattle.bs_range.specs.Words.{AreWords}
use Rattle.bs_range.proofs.Values.{value_word, one_word, set_words}

-- the reference and the arguments of what is sent
pub record ParcelHasWords (m : Parcel) : Type 0 where
  pub reference : IsWord m.sent.key.reference
  pub args : AreWords m.args

-- the numbers of a block so far
pub record Good (t : Tally) : Type 0 where
  pub cells : AreWords t.cells
  pub sends : (m : Parcel) → Mem m t.sends → ParcelHasWords m
  pub emits : AreWords t.emits

abbrev GoodDone : Done → Type 0
GoodDone d = (t : Tally) → d ≡ Ok t → Good t

abbrev Keeps : Acting → Type 0
Keeps a = (t : Tally) → Good t → GoodDone (a t)

done : (t : Tally) → Good t → GoodDone (Ok t)
done t g u e = let same : t ≡ u = cc in subst Good same g

value_keeps : {A : Type 0} (v : Result A TrapKind) (f : A → Done) → ((x : A) → v ≡ Ok x → GoodDone (f x)) → GoodDone (with_value v f)
value_keeps (Err k) f h t e = absurd (cc)
value_keeps (Ok x) f h t e = h x refl t e

-- the same cells, sends and values
alike : (t : Tally) (cost steps : ℕ) → Good t → Good (record { cells = t.cells; cost = cost; steps = steps; sends = t.sends; emits = t.emits })
alike t cost steps g = record { cells = g.cells; sends = g.sends; emits = g.emits }

stepped_if : (b : Bool) (t : Tally) (f : Acting) → GoodDone (f (record t { steps = t.steps + 1 })) → GoodDone (if b then f (record t { steps = t.steps + 1 }) else Err Steps)
stepped_if true t f h u e = h u e
stepped_if false t f h u e = absurd (cc)

step_keeps : (t : Tally) (f : Acting) → Good t → Keeps f → GoodDone (stepped t f)
step_keeps t f g h = stepped_if (nat_lt t.steps 100000) t f (h (record t { steps = t.steps + 1 }) (alike t t.cost (t.steps + 1) g))

first_keeps : (d : Done) (f : Acting) → GoodDone d → Keeps f → GoodDone (with_value d f)
first_keeps (Err k) f g h t e = absurd (cc)
first_keeps (Ok x) f g h t e = h x (g x refl) t e

times_keep : (n : ℕ) (ds : List Acting) → Keeps (do_all ds) → Keeps (times n ds)
times_keep zero ds h t g = done t g
times_keep (suc n) ds h t g = step_keeps t _ g (λ u k. first_keeps (do_all ds u) (times n ds) (h u k) (times_keep n ds h))

choose_if : (b : Bool) (f g : Acting) (t : Tally) → GoodDone (f t) → GoodDone (g t) → GoodDone (if b then g t else f t)
choose_if true f g t h k = k
choose_if false f g t h k = h

worked_if : (t : Tally) (n : ℕ) (b : Bool) → Good t → GoodDone (if b then Ok (record t { cost = t.cost + n }) else Err CostRange)
worked_if t n false g u e = absurd (cc)
worked_if t n true g u e = done (record t { cost = t.cost + n }) (alike t (t.cost + n) t.steps g) u e

-- one cell written
set_keeps : (t : Tally) (n : ℕ) (v : ℤ) → Good t → IsWord v → Good (record t { cells = slice_set t.cells n v })
set_keeps t n v g w = record { cells = set_words t.cells n v g.cells w; sends = g.sends; emits = g.emits }

-- one more send
sent_keeps : (t : Tally) (m : Parcel) → Good t → ParcelHasWords m → Good (record t { sends = t.sends ++ m ∷ [] })
sent_keeps t m g w = record { cells = g.cells; sends = λ x i. by_side x (either x t.sends (m ∷ []) i); emits = g.emits }
  where
    by_side : (x : Parcel) → Mem x t.sends ⊎ Mem x (m ∷ []) → ParcelHasWords x
    by_side x (inl i) = g.sends x i
    by_side x (inr (inl e)) = subst ParcelHasWords (sym e) w
    by_side x (inr (inr i)) = absurd i

-- one more value
emit_keeps : (t : Tally) (v : ℤ) → Good t → IsWord v → Good (record t { emits = t.emits ++ v ∷ [] })
emit_keeps t v g w = record { cells = g.cells; sends = g.sends; emits = λ x i. by_side x (either x t.emits (v ∷ []) i) }
  where
    by_side : (x : ℤ) → Mem x t.emits ⊎ Mem x (v ∷ []) → IsWord x
    by_side x (inl i) = g.emits x i
    by_side x (inr (inl e)) = subst IsWord (sym e) w
    by_side x (inr (inr i)) = absurd i

module _ (p : Program) (this : ℕ) (chares : IsWord (pos p.chares)) (own : IsWord (pos this)) where
  values_words : (es : List Expr) → small_in_expressions es ≡ true → (cells : Cells) → AreWords cells → (vs : List ℤ) → values_of (map (value_of p this) es) cells ≡ Ok vs → AreWords vs
  values_words [] h cells w vs e = let same : [] ≡ vs = cc in subst AreWords same (λ v m. absurd m)
  values_words (x ∷ es) h cells w vs e = let both = and_parts _ _ h in by both.0 (values_words es both.1 cells w) (value_of p this x cells) refl (values_of (map (value_of p this) es) cells) refl
    where
      by : small_in_expression x ≡ true → ((us : List ℤ) → values_of (map (value_of p this) es) cells ≡ Ok us → AreWords us) → (r : Value) → value_of p this x cells ≡ r → (rs : Result (List ℤ) TrapKind) → values_of (map (value_of p this) es) cells ≡ rs → AreWords vs
      by h k (Err kind) q rs q' = let bad : Err kind ≡ Ok vs = rw q at e in absurd (cc)
      by h k (Ok v) q (Err kind) q' = let bad : Err kind ≡ Ok vs = rw (q, q') at e in absurd (cc)
      by h k (Ok v) q (Ok us) q' =
          let is : Ok (v ∷ us) ≡ Ok vs = rw (q, q') at e in
          let same : v ∷ us ≡ vs = cc in
          subst AreWords same (one_word v us (value_word p this chares own x h cells w v q) (k us q'))

  abbrev Fine : Act → Type 0
  Fine a = small_in_act a ≡ true → Keeps (act_of p this a)

  abbrev Those : Type 0
  Those = List ((a : Act) × Fine a)

  abbrev small_in : Those → Bool
  small_in es = all_true (map small_in_act (map (λ e. e.0) es))

  abbrev acting_in : Those → List Acting
  acting_in es = map (act_of p this) (map (λ e. e.0) es)

  abbrev parcel : NameId → ℤ → List ℤ → ℕ → ℕ → ℕ → Parcel
  parcel entry r vs to bytes offset = record { sent = record { to = to; key = record { entry = entry_of p entry; reference = r }; bytes = bytes; offset = offset }; args = vs }

  list_keeps : (es : Those) → small_in es ≡ true → Keeps (do_all (acting_in es))
  list_keeps [] h t g = done t g
  list_keeps (x ∷ es) h t g = let both = and_parts _ _ h in first_keeps (act_of p this x.0 t) (do_all (acting_in es)) (x.1 both.0 t g) (list_keeps es both.1)

  -- what an expression in the acts is worth in a good block
  worth : (e : Expr) → small_in_expression e ≡ true → (t : Tally) → Good t → (v : ℤ) → value_of p this e t.cells ≡ Ok v → IsWord v
  worth e h t g = value_word p this chares own e h t.cells g.cells

  act_keeps : (y : Act-F ((a : Act) × Fine a)) → numbers.act_step (map-Act Act Bool small_in_act (map-Act _ Act (λ e. e.0) y)) ≡ true → Keeps (act_step p this (map-Act Act Acting (act_of p this) (map-Act _ Act (λ e. e.0) y)))
  act_keeps (Act-F.Set x e) h t g =
      step_keeps t (λ t. with_value (value_of p this e t.cells) (λ v. Ok (record t { cells = slice_set t.cells (place_of p x).from v }))) g
      (λ t g. value_keeps (value_of p this e t.cells) _ (λ v q. done _ (set_keeps t (place_of p x).from v g (worth e h t g v q))))
  act_keeps (Act-F.SetAt x i e) h t g =
      let both = and_parts _ _ h in
      step_keeps t (λ t. with_value (value_of p this i t.cells) (λ j. with_value (value_of p this e t.cells) (λ v. with_value (indexed (place_of p x).cells j) (λ k. Ok (record t { cells = slice_set t.cells ((place_of p x).from + k) v }))))) g
      (λ t g. value_keeps (value_of p this i t.cells) _ (λ j _. value_keeps (value_of p this e t.cells) _ (λ v q. value_keeps (indexed (place_of p x).cells j) _ (λ k _. done _ (set_keeps t ((place_of p x).from + k) v g (worth e both.1 t g v q))))))
  act_keeps (Act-F.Send entry reference args target bytes) h t g =
      let both = and_parts _ _ h in
      let said = and_parts _ _ both.0 in
      step_keeps t (λ t. with_value (value_of p this reference t.cells) (λ r. with_value (values_of (map (value_of p this) args) t.cells) (λ vs.
      with_value (value_of p this target t.cells) (λ c. with_value (bytes_value p this bytes (length args) t.cells) (λ b.
      with_value (upto (p.chares - 1) Target c) (λ c. with_value (upto (2 ^ 30) BytesRange b) (λ b. Ok (record t { sends = t.sends ++ parcel entry r vs c b t.cost ∷ [] })))))))) g
      (λ t g. value_keeps (value_of p this reference t.cells) _ (λ r q. value_keeps (values_of (map (value_of p this) args) t.cells) _ (λ vs q'.
      value_keeps (value_of p this target t.cells) _ (λ c _. value_keeps (bytes_value p this bytes (length args) t.cells) _ (λ n _.
      value_keeps (upto (p.chares - 1) Target c) _ (λ to _. value_keeps (upto (2 ^ 30) BytesRange n) _ (λ size _.
      done _ (sent_keeps t (parcel entry r vs to size t.cost) g (record { reference = worth reference said.0 t g r q; args = values_words args said.1 t.cells g.cells vs q' })))))))))
  act_keeps (Act-F.Work e) h t g =
      step_keeps t (λ t. with_value (value_of p this e t.cells) (λ v. with_value (upto (2 ^ 30) WorkRange v) (worked t))) g
      (λ t g. value_keeps (value_of p this e t.cells) _ (λ v _. value_keeps (upto (2 ^ 30) WorkRange v) (worked t) (λ n _. worked_if t n (nat_le (t.cost + n) (2 ^ 32)) g)))
  act_keeps (Act-F.Emit e) h t g =
      step_keeps t (λ t. with_value (value_of p this e t.cells) (λ v. Ok (record t { emits = t.emits ++ v ∷ [] }))) g
      (λ t g. value_keeps (value_of p this e t.cells) _ (λ v q. done _ (emit_keeps t v g (worth e h t g v q))))
  act_keeps (Act-F.If e body None) h t g =
      let both = and_parts _ _ h in
      let inner = and_parts _ _ both.1 in
      step_keeps t (λ t. with_value (value_of p this e t.cells) (λ v. choose_acts v (do_all (acting_in body)) (do_else None) t)) g
      (λ t g. value_keeps (value_of p this e t.cells) _ (λ v _. choose_if (is_zero v) (do_all (acting_in body)) (do_else None) t (list_keeps body inner.0 t g) (done t g)))
  act_keeps (Act-F.If e body (Some other)) h t g =
      let both = and_parts _ _ h in
      let inner = and_parts _ _ both.1 in
      step_keeps t (λ t. with_value (value_of p this e t.cells) (λ v. choose_acts v (do_all (acting_in body)) (do_all (acting_in other)) t)) g
      (λ t g. value_keeps (value_of p this e t.cells) _ (λ v _. choose_if (is_zero v) (do_all (acting_in body)) (do_all (acting_in other)) t (list_keeps body inner.0 t g) (list_keeps other inner.1 t g)))
  act_keeps (Act-F.Repeat e body) h t g =
      let both = and_parts _ _ h in
      step_keeps t (λ t. with_value (value_of p this e t.cells) (λ v. times (count_turns v) (acting_in body) t)) g
      (λ t g. value_keeps (value_of p this e t.cells) _ (λ v _. times_keep (count_turns v) (acting_in body) (list_keeps body both.1) t g))

  -- its numbers are small, and what it does
  abbrev KeepsSo : Bool → Acting → Type 0
  KeepsSo b a = b ≡ true → Keeps a

  each_keeps : (a : Act) → Fine a
  each_keeps = ind-Act Fine (λ x y is.
      subst₂ KeepsSo (sym (fold-roll-Act Bool numbers.act_step x)) (sym (fold-roll-Act Acting (act_step p this) x))
      (subst (λ z. KeepsSo (numbers.act_step (map-Act Act Bool small_in_act z)) (act_step p this (map-Act Act Acting (act_of p this) z))) is (act_keeps y)))

  acts_keep : (as' : List Act) → small_in_acts as' ≡ true → Keeps (do_all (map (act_of p this) as'))
  acts_keep [] h t g = done t g
  acts_keep (x ∷ as') h t g = let both = and_parts _ _ h in first_keeps (act_of p this x t) (do_all (map (act_of p this) as')) (each_keeps x both.0 t g) (acts_keep as' both.1)

  pub block_words : (as' : List Act) (cells : Cells) (t : Tally) → small_in_acts as' ≡ true → AreWords cells → block_of p this as' cells ≡ Ok t → Good t
  unfolding block_of
  block_words as' cells t h w e = acts_keep as' h (record { cells = cells; cost = 1; steps = 0; sends = []; emits = [] }) (record { cells = w; sends = λ m i. absurd i; emits = λ v i. absurd i }) t e
