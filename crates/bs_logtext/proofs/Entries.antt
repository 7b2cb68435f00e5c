-- Acts that use names as what they are declared as send to the program's entries alone.
use Rattle.std.proofs.Common.{◌≡◌, ◌<◌, ◌⊎◌, inl, inr, ℕ, zero, suc, ◌+◌, ◌-◌, ◌^◌, ◌==◌, ℤ, Bool, true, false, if◌then◌else◌, List, [], ◌∷◌, ◌++◌, Option, Some, None, Result, Ok, Err, refl, sym, subst, subst₂, map, arith, length, nat_lt, nat_le, slice_set}
use Rattle.std.proofs.lemmas.Bool.{and_parts}
use Rattle.bs_tree.specs.declared.tree.Program.{Program}
use Rattle.bs_tree.specs.declared.tree.NameId.{NameId}
use Rattle.bs_tree.specs.declared.tree.VarDecl.{VarDecl}
use Rattle.bs_tree.specs.declared.tree.EntryDecl.{EntryDecl}
use Rattle.bs_tree.specs.declared.tree.Act.{Act}
use Rattle.bs_tree.specs.declared.tree.Act.TheOpen.{Act-F}
use Rattle.bs_tree.specs.declared.tree.Act.TheFolds.{fold-roll-Act, ind-Act, map-Act}
use Rattle.bs_log.specs.declared.history.TrapKind.{TrapKind}
use Rattle.bs_log.specs.declared.history.TrapKind.TheVariants.{Target, BytesRange, WorkRange, CostRange, Steps}
use Rattle.bs_log.specs.Lists.{Mem}
use Rattle.bs_log.proofs.ClosedTests.{either}
use Rattle.bs_semantics.specs.Layout.{width, place_of, find_entry, entry_of}
use Rattle.bs_semantics.specs.Value.{Cells, value_of, is_zero, indexed}
use Rattle.bs_semantics.specs.Acts.{Parcel, Tally, Done, Acting, with_value, stepped, do_all, do_else, times, count_turns, values_of, upto, bytes_value, choose_acts, worked, act_step, act_of, block_of}
use Rattle.bs_check.specs.declared.kind.Kind.{Kind}
use Rattle.bs_check.specs.declared.kind.Kind.TheVariants.{Entry}
use Rattle.bs_check.specs.Kinds.{kind_from, var_kind, entry_kind, or_entry}
use Rattle.bs_check.specs.Known.{is_entry_kind, is_entry, all_true, known_act_step, is_known_act, are_known}

-- ---- a name that is declared as an entry has the number of one

kind_of_var : (from : ℕ) (cells : Option ℕ) → is_entry_kind (Some (kind_from from cells)) ≡ false
kind_of_var from None = refl
kind_of_var from (Some n) = refl

no_entry : (vs : List VarDecl) (from : ℕ) (name : NameId) → is_entry_kind (var_kind vs from name) ≡ false
no_entry [] from name = refl
no_entry (v ∷ vs) from name = by (v.name.0 == name.0) (no_entry vs (from + width v.cells) name)
  where
    by : (b : Bool) → is_entry_kind (var_kind vs (from + width v.cells) name) ≡ false → is_entry_kind (if b then Some (kind_from from v.cells) else var_kind vs (from + width v.cells) name) ≡ false
    by true n = kind_of_var from v.cells
    by false n = n

numbered_entry : (es : List EntryDecl) (k : ℕ) (name : NameId) → is_entry_kind (entry_kind es k name) ≡ true → find_entry es k name < k + length es
numbered_entry [] k name h = absurd (cc)
numbered_entry (e ∷ es) k name h = by (e.name.0 == name.0) h (numbered_entry es (k + 1) name)
  where
    by : (b : Bool) → is_entry_kind (if b then Some (Entry k e.params) else entry_kind es (k + 1) name) ≡ true → (is_entry_kind (entry_kind es (k + 1) name) ≡ true → find_entry es (k + 1) name < k + 1 + length es) →
        (if b then k else find_entry es (k + 1) name) < k + suc (length es)
    by true h later = omega arith
    by false h later = let l = later h in omega (arith, l)

second_kind : (o q : Option Kind) → is_entry_kind o ≡ false → is_entry_kind (or_entry o q) ≡ true → is_entry_kind q ≡ true
second_kind None q n h = h
second_kind (Some kind) q n h = absurd (cc)

pub entry_within : (p : Program) (name : NameId) → is_entry p name ≡ true → entry_of p name < length p.entries
entry_within p name h =
    let l = numbered_entry p.entries 0 name (second_kind (var_kind p.vars 0 name) (entry_kind p.entries 0 name) (no_entry p.vars 0 name) h) in
    omega (arith, l)

-- ---- what acts send

module _ (p : Program) where
  abbrev pub Good : Tally → Type 0
  Good t = (m : Parcel) → Mem m t.sends → m.sent.key.entry < length p.entries

  abbrev GoodDone : Done → Type 0
  GoodDone d = (t : Tally) → d ≡ Ok t → Good t

  abbrev Keeps : Acting → Type 0
  Keeps a = (t : Tally) → Good t → GoodDone (a t)

  done : (t : Tally) → Good t → GoodDone (Ok t)
  done t g u e = let same : t ≡ u = cc in subst Good same g

  value_keeps : {A : Type 0} (v : Result A TrapKind) (f : A → Done) → ((x : A) → GoodDone (f x)) → GoodDone (with_value v f)
  value_keeps (Err k) f h t e = absurd (cc)
  value_keeps (Ok x) f h t e = h x t e

  stepped_if : (b : Bool) (t : Tally) (f : Acting) → GoodDone (f (record t { steps = t.steps + 1 })) → GoodDone (if b then f (record t { steps = t.steps + 1 }) else Err Steps)
  stepped_if true t f h u e = h u e
  stepped_if false t f h u e = absurd (cc)

  step_keeps : (t : Tally) (f : Acting) → Good t → Keeps f → GoodDone (stepped t f)
  step_keeps t f g h = stepped_if (nat_lt t.steps 100000) t f (h (record t { steps = t.steps + 1 }) g)

  first_keeps : (d : Done) (f : Acting) → GoodDone d → Keeps f → GoodDone (with_value d f)
  first_keeps (Err k) f g h t e = absurd (cc)
  first_keeps (Ok x) f g h t e = h x (g x refl) t e

  times_keep : (n : ℕ) (ds : List Acting) → Keeps (do_all ds) → Keeps (times n ds)
  times_keep zero ds h t g = done t g
  times_keep (suc n) ds h t g = step_keeps t _ g (λ u k. first_keeps (do_all ds u) (times n ds) (h u k) (times_keep n ds h))

  choose_if : (b : Bool) (f g : Acting) (t : Tally) → GoodDone (f t) → GoodDone (g t) → GoodDone (if b then g t else f t)
  choose_if true f g t h k = k
  choose_if false f g t h k = h

  worked_if : (t : Tally) (n : ℕ) (b : Bool) → Good t → GoodDone (if b then Ok (record t { cost = t.cost + n }) else Err CostRange)
  worked_if t n false g u e = absurd (cc)
  worked_if t n true g u e = done (record t { cost = t.cost + n }) g u e

  -- one more send
  sent_keeps : (t : Tally) (m : Parcel) → Good t → m.sent.key.entry < length p.entries → Good (record t { sends = t.sends ++ m ∷ [] })
  sent_keeps t m g l x i = by_side (either x t.sends (m ∷ []) i)
    where
      by_side : Mem x t.sends ⊎ Mem x (m ∷ []) → x.sent.key.entry < length p.entries
      by_side (inl i) = g x i
      by_side (inr (inl e)) = subst (λ (x : Parcel). x.sent.key.entry < length p.entries) (sym e) l
      by_side (inr (inr i)) = absurd i

  module _ (this : ℕ) where
    abbrev Fine : Act → Type 0
    Fine a = is_known_act p a ≡ true → Keeps (act_of p this a)

    abbrev Those : Type 0
    Those = List ((a : Act) × Fine a)

    abbrev known_in : Those → Bool
    known_in es = all_true (map (is_known_act p) (map (λ e. e.0) es))

    abbrev acting_in : Those → List Acting
    acting_in es = map (act_of p this) (map (λ e. e.0) es)

    abbrev parcel : NameId → ℤ → List ℤ → ℕ → ℕ → ℕ → Parcel
    parcel entry r vs to bytes offset = record { sent = record { to = to; key = record { entry = entry_of p entry; reference = r }; bytes = bytes; offset = offset }; args = vs }

    list_keeps : (es : Those) → known_in es ≡ true → Keeps (do_all (acting_in es))
    list_keeps [] h t g = done t g
    list_keeps (x ∷ es) h t g = let both = and_parts _ _ h in first_keeps (act_of p this x.0 t) (do_all (acting_in es)) (x.1 both.0 t g) (list_keeps es both.1)

    act_keeps : (y : Act-F ((a : Act) × Fine a)) → known_act_step p (map-Act Act Bool (is_known_act p) (map-Act _ Act (λ e. e.0) y)) ≡ true → Keeps (act_step p this (map-Act Act Acting (act_of p this) (map-Act _ Act (λ e. e.0) y)))
    act_keeps (Act-F.Set x e) h t g =
        step_keeps t (λ t. with_value (value_of p this e t.cells) (λ v. Ok (record t { cells = slice_set t.cells (place_of p x).from v }))) g
        (λ t g. value_keeps (value_of p this e t.cells) _ (λ v. done _ g))
    act_keeps (Act-F.SetAt x i e) h t g =
        step_keeps t (λ t. with_value (value_of p this i t.cells) (λ j. with_value (value_of p this e t.cells) (λ v. with_value (indexed (place_of p x).cells j) (λ k. Ok (record t { cells = slice_set t.cells ((place_of p x).from + k) v }))))) g
        (λ t g. value_keeps (value_of p this i t.cells) _ (λ j. value_keeps (value_of p this e t.cells) _ (λ v. value_keeps (indexed (place_of p x).cells j) _ (λ k. done _ g))))
    act_keeps (Act-F.Send entry reference args target bytes) h t g =
        let four = and_parts _ _ h in
        let three = and_parts _ _ four.0 in
        let two = and_parts _ _ three.0 in
        let one = and_parts _ _ two.0 in
        step_keeps t (λ t. with_value (value_of p this reference t.cells) (λ r. with_value (values_of (map (value_of p this) args) t.cells) (λ vs.
        with_value (value_of p this target t.cells) (λ c. with_value (bytes_value p this bytes (length args) t.cells) (λ b.
        with_value (upto (p.chares - 1) Target c) (λ c. with_value (upto (2 ^ 30) BytesRange b) (λ b. Ok (record t { sends = t.sends ++ parcel entry r vs c b t.cost ∷ [] })))))))) g
        (λ t g. value_keeps (value_of p this reference t.cells) _ (λ r. value_keeps (values_of (map (value_of p this) args) t.cells) _ (λ vs.
        value_keeps (value_of p this target t.cells) _ (λ c. value_keeps (bytes_value p this bytes (length args) t.cells) _ (λ n.
        value_keeps (upto (p.chares - 1) Target c) _ (λ to. value_keeps (upto (2 ^ 30) BytesRange n) _ (λ size.
        done _ (sent_keeps t (parcel entry r vs to size t.cost) g (entry_within p entry one.0)))))))))
    act_keeps (Act-F.Work e) h t g =
        step_keeps t (λ t. with_value (value_of p this e t.cells) (λ v. with_value (upto (2 ^ 30) WorkRange v) (worked t))) g
        (λ t g. value_keeps (value_of p this e t.cells) _ (λ v. value_keeps (upto (2 ^ 30) WorkRange v) (worked t) (λ n. worked_if t n (nat_le (t.cost + n) (2 ^ 32)) g)))
    act_keeps (Act-F.Emit e) h t g =
        step_keeps t (λ t. with_value (value_of p this e t.cells) (λ v. Ok (record t { emits = t.emits ++ v ∷ [] }))) g
        (λ t g. value_keeps (value_of p this e t.cells) _ (λ v. done _ g))
    act_keeps (Act-F.If e body None) h t g =
        let two = and_parts _ _ h in
        let one = and_parts _ _ two.0 in
        step_keeps t (λ t. with_value (value_of p this e t.cells) (λ v. choose_acts v (do_all (acting_in body)) (do_else None) t)) g
        (λ t g. value_keeps (value_of p this e t.cells) _ (λ v. choose_if (is_zero v) (do_all (acting_in body)) (do_else None) t (list_keeps body one.1 t g) (done t g)))
    act_keeps (Act-F.If e body (Some other)) h t g =
        let two = and_parts _ _ h in
        let one = and_parts _ _ two.0 in
        step_keeps t (λ t. with_value (value_of p this e t.cells) (λ v. choose_acts v (do_all (acting_in body)) (do_all (acting_in other)) t)) g
        (λ t g. value_keeps (value_of p this e t.cells) _ (λ v. choose_if (is_zero v) (do_all (acting_in body)) (do_all (acting_in other)) t (list_keeps body one.1 t g) (list_keeps other two.1 t g)))
    act_keeps (Act-F.Repeat e body) h t g =
        let both = and_parts _ _ h in
        step_keeps t (λ t. with_value (value_of p this e t.cells) (λ v. times (count_turns v) (acting_in body) t)) g
        (λ t g. value_keeps (value_of p this e t.cells) _ (λ v. times_keep (count_turns v) (acting_in body) (list_keeps body both.1) t g))

    -- known, and what it does
    abbrev KeepsSo : Bool → Acting → Type 0
    KeepsSo b a = b ≡ true → Keeps a

    each_keeps : (a : Act) → Fine a
    each_keeps = ind-Act Fine (λ x y is.
        subst₂ KeepsSo (sym (fold-roll-Act Bool (known_act_step p) x)) (sym (fold-roll-Act Acting (act_step p this) x))
        (subst (λ z. KeepsSo (known_act_step p (map-Act Act Bool (is_known_act p) z)) (act_step p this (map-Act Act Acting (act_of p this) z))) is (act_keeps y)))

    acts_keep : (as' : List Act) → are_known p as' ≡ true → Keeps (do_all (map (act_of p this) as'))
    acts_keep [] h t g = done t g
    acts_keep (x ∷ as') h t g = let both = and_parts _ _ h in first_keeps (act_of p this x t) (do_all (map (act_of p this) as')) (each_keeps x both.0 t g) (acts_keep as' both.1)

    pub block_sends : (as' : List Act) (cells : Cells) (t : Tally) → are_known p as' ≡ true → block_of p this as' cells ≡ Ok t → Good t
    unfolding block_of
    block_sends as' cells t h e = acts_keep as' h (record { cells = cells; cost = 1; steps = 0; sends = []; emits = [] }) (λ m i. absurd i) t e
