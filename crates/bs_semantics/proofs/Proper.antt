-- Each act keeps the cost and the sends of a block in range, and the offsets in order; so each block is proper.
use Rattle.std.proofs.Common.{◌≡◌, ◌≤◌, ◌⊎◌, inl, inr, ℕ, zero, suc, ◌+◌, ◌-◌, ◌^◌, ℤ, pos, negsuc, Bool, true, false, if◌then◌else◌, List, [], ◌∷◌, ◌++◌, Option, Some, None, Result, Ok, Err, refl, sym, ap, subst, map, arith, length, nat_lt, nat_le, slice_set}
use Rattle.std.proofs.lemmas.Bool.{leb-true}
use Rattle.bs_tree.specs.declared.tree.Program.{Program}
use Rattle.bs_tree.specs.declared.tree.NameId.{NameId}
use Rattle.bs_tree.specs.declared.tree.Act.{Act}
use Rattle.bs_tree.specs.declared.tree.Act.TheOpen.{Act-F}
use Rattle.bs_tree.specs.declared.tree.Act.TheFolds.{fold-roll-Act, ind-Act, map-Act}
use Rattle.bs_log.specs.declared.history.Sent.{Sent}
use Rattle.bs_log.specs.declared.history.Message.{Message}
use Rattle.bs_log.specs.declared.history.Block.{Block}
use Rattle.bs_log.specs.declared.history.TrapKind.{TrapKind}
use Rattle.bs_log.specs.declared.history.TrapKind.TheVariants.{Target, BytesRange, WorkRange, CostRange, Steps}
use Rattle.bs_log.specs.Lists.{Mem, InOrder}
use Rattle.bs_semantics.specs.Layout.{place_of, entry_of}
use Rattle.bs_semantics.specs.Value.{Cells, value_of, is_zero, indexed}
use Rattle.bs_semantics.specs.Acts.{Parcel, Tally, Done, Acting, with_value, stepped, do_all, do_else, times, count_turns, values_of, upto, bytes_value, choose_acts, worked, act_step, act_of, block_of}
use Rattle.bs_semantics.specs.Run.{Lookup, Run, State, Causes, depth_of, signed, serial, from_end, after, held, go_on, run, start}
use Rattle.bs_semantics.specs.Proper.{IsSend, IsProper}
use Rattle.bs_semantics.proofs.Members.{mem_cases, in_order_both}
use Rattle.bs_semantics.proofs.Kept.{Closure, list_kept}

module _ (p : Program) where
  pub record Good (t : Tally) : Type 0 where
    pub least : 1 ≤ t.cost
    pub most : t.cost ≤ 2 ^ 32
    pub sends : (m : Parcel) → Mem m t.sends → IsSend p t.cost m.sent
    pub offsets : InOrder (λ (a b : Parcel). a.sent.offset ≤ b.sent.offset) t.sends

  abbrev GoodDone : Done → Type 0
  GoodDone d = (t : Tally) → d ≡ Ok t → Good t

  abbrev Keeps : Acting → Type 0
  Keeps a = (t : Tally) → Good t → GoodDone (a t)

  -- the same cost and sends
  alike : (t : Tally) (cells : Cells) (steps : ℕ) (emits : List ℤ) → Good t → Good (record { cells = cells; cost = t.cost; steps = steps; sends = t.sends; emits = emits })
  alike t cells steps emits g = record { least = g.least; most = g.most; sends = g.sends; offsets = g.offsets }

  done : (t : Tally) → Good t → GoodDone (Ok t)
  done t g u e = let same : t ≡ u = cc in subst Good same g

  value_keeps : {A : Type 0} (v : Result A TrapKind) (f : A → Done) → ((x : A) → v ≡ Ok x → GoodDone (f x)) → GoodDone (with_value v f)
  value_keeps (Err k) f h t e = absurd (cc)
  value_keeps (Ok x) f h t e = h x refl t e

  stepped_if : (b : Bool) (t : Tally) (f : Acting) → GoodDone (f (record t { steps = t.steps + 1 })) → GoodDone (if b then f (record t { steps = t.steps + 1 }) else Err Steps)
  stepped_if true t f h u e = h u e
  stepped_if false t f h u e = absurd (cc)

  step_keeps : (t : Tally) (f : Acting) → Good t → Keeps f → GoodDone (stepped t f)
  step_keeps t f g h = stepped_if (nat_lt t.steps 100000) t f (h (record t { steps = t.steps + 1 }) (alike t t.cells (t.steps + 1) t.emits g))

  all_keep : (as' : List Acting) → ((a : Acting) → Mem a as' → Keeps a) → Keeps (do_all as')
  all_keep [] h t g = done t g
  all_keep (a ∷ as') h t g = value_keeps (a t) (do_all as') (λ u e. all_keep as' (λ b m. h b (inr m)) u (h a (inl refl) t g u e))

  times_keep : (n : ℕ) (ds : List Acting) → Keeps (do_all ds) → Keeps (times n ds)
  times_keep zero ds h t g = done t g
  times_keep (suc n) ds h t g = step_keeps t _ g (λ u k. value_keeps (do_all ds u) (times n ds) (λ v e. times_keep n ds h v (h u k v e)))

  choose_if : (b : Bool) (f g : Acting) (t : Tally) → GoodDone (f t) → GoodDone (g t) → GoodDone (if b then g t else f t)
  choose_if true f g t h k = k
  choose_if false f g t h k = h

  abbrev Gave : Result ℕ TrapKind → ℕ → Type 0
  Gave d x = d ≡ Ok x

  within_if : (n v x : ℕ) (k : TrapKind) (b : Bool) → nat_le v n ≡ b → Gave (if b then Ok v else Err k) x → x ≤ n
  within_if n v x k true l e = let same : v ≡ x = cc in subst (λ x. x ≤ n) same (leb-true v n l)
  within_if n v x k false l e = absurd (cc)

  within : (n : ℕ) (k : TrapKind) (v : ℤ) (x : ℕ) → upto n k v ≡ Ok x → x ≤ n
  within n k (negsuc v) x e = absurd (cc)
  within n k (pos v) x e = within_if n v x k (nat_le v n) refl e

  -- one more send, at the cost so far
  sent_keeps : (t : Tally) (m : Parcel) → Good t → m.sent.offset ≡ t.cost → m.sent.bytes ≤ 2 ^ 30 → m.sent.to ≤ p.chares - 1 → Good (record t { sends = t.sends ++ m ∷ [] })
  sent_keeps t m g at b c = record { least = g.least; most = g.most; sends = λ x i. by_side x (mem_cases x t.sends (m ∷ []) i); offsets = in_order_both (λ (a b : Parcel). a.sent.offset ≤ b.sent.offset) t.sends (m ∷ []) g.offsets ((λ y i. absurd i), tt) (λ x y i j. below x y i j) }
    where
      last : IsSend p t.cost m.sent
      last = let l = g.least in record { least = omega (arith, l, at); most = omega (arith, at); bytes = b; target = c }

      by_side : (x : Parcel) → Mem x t.sends ⊎ Mem x (m ∷ []) → IsSend p t.cost x.sent
      by_side x (inl i) = g.sends x i
      by_side x (inr (inl e)) = subst (λ (x : Parcel). IsSend p t.cost x.sent) (sym e) last
      by_side x (inr (inr i)) = absurd i

      below : (x y : Parcel) → Mem x t.sends → Mem y (m ∷ []) → x.sent.offset ≤ y.sent.offset
      below x y i (inl e) = let l = (g.sends x i).most in let q = ap (λ (y : Parcel). y.sent.offset) e in omega (arith, l, q, at)
      below x y i (inr j) = absurd j

  worked_if : (t : Tally) (n : ℕ) (b : Bool) → nat_le (t.cost + n) (2 ^ 32) ≡ b → Good t → GoodDone (if b then Ok (record t { cost = t.cost + n }) else Err CostRange)
  worked_if t n false l g u e = absurd (cc)
  worked_if t n true l g u e = done (record t { cost = t.cost + n }) (record { least = let a = g.least in omega (arith, a); most = leb-true (t.cost + n) (2 ^ 32) l; sends = more; offsets = g.offsets }) u e
    where
      more : (m : Parcel) → Mem m t.sends → IsSend p (t.cost + n) m.sent
      more m i = let s = g.sends m i in let k = s.most in record { least = s.least; most = omega (arith, k); bytes = s.bytes; target = s.target }

  module _ (this : ℕ) where
    abbrev Fine : Act → Type 0
    Fine a = Keeps (act_of p this a)

    acts_in : (es : List ((a : Act) × Fine a)) (a : Acting) → Mem a (map (act_of p this) (map (λ e. e.0) es)) → Keeps a
    acts_in [] a m = absurd m
    acts_in (e ∷ es) a (inl q) = subst Keeps (sym q) e.1
    acts_in (e ∷ es) a (inr m) = acts_in es a m

    abbrev those : List ((a : Act) × Fine a) → List Acting
    those es = map (act_of p this) (map (λ e. e.0) es)

    abbrev parcel : NameId → ℤ → List ℤ → ℕ → ℕ → ℕ → Parcel
    parcel entry r vs to bytes offset = record { sent = record { to = to; key = record { entry = entry_of p entry; reference = r }; bytes = bytes; offset = offset }; args = vs }

    list_keeps : (es : List ((a : Act) × Fine a)) → Keeps (do_all (map (act_of p this) (map (λ e. e.0) es)))
    list_keeps es = all_keep _ (acts_in es)

    act_keeps : (y : Act-F ((a : Act) × Fine a)) → Keeps (act_step p this (map-Act Act Acting (act_of p this) (map-Act _ Act (λ e. e.0) y)))
    act_keeps (Act-F.Set x e) t g =
        step_keeps t (λ t. with_value (value_of p this e t.cells) (λ v. Ok (record t { cells = slice_set t.cells (place_of p x).from v }))) g
        (λ t g. value_keeps (value_of p this e t.cells) _ (λ v q. done _ (alike t _ t.steps t.emits g)))
    act_keeps (Act-F.SetAt x i e) t g =
        step_keeps t (λ t. with_value (value_of p this i t.cells) (λ j. with_value (value_of p this e t.cells) (λ v. with_value (indexed (place_of p x).cells j) (λ k. Ok (record t { cells = slice_set t.cells ((place_of p x).from + k) v }))))) g
        (λ t g. value_keeps (value_of p this i t.cells) _ (λ j q. value_keeps (value_of p this e t.cells) _ (λ v r. value_keeps (indexed (place_of p x).cells j) _ (λ k s. done _ (alike t _ t.steps t.emits g)))))
    act_keeps (Act-F.Send entry reference args target bytes) t g =
        step_keeps t (λ t. with_value (value_of p this reference t.cells) (λ r. with_value (values_of (map (value_of p this) args) t.cells) (λ vs.
        with_value (value_of p this target t.cells) (λ c. with_value (bytes_value p this bytes (length args) t.cells) (λ b.
        with_value (upto (p.chares - 1) Target c) (λ c. with_value (upto (2 ^ 30) BytesRange b) (λ b. Ok (record t { sends = t.sends ++ parcel entry r vs c b t.cost ∷ [] })))))))) g
        (λ t g. value_keeps (value_of p this reference t.cells) _ (λ r a. value_keeps (values_of (map (value_of p this) args) t.cells) _ (λ vs b.
        value_keeps (value_of p this target t.cells) _ (λ c d. value_keeps (bytes_value p this bytes (length args) t.cells) _ (λ n e.
        value_keeps (upto (p.chares - 1) Target c) _ (λ to q. value_keeps (upto (2 ^ 30) BytesRange n) _ (λ size s.
        done _ (sent_keeps t (parcel entry r vs to size t.cost) g refl (within (2 ^ 30) BytesRange n size s) (within (p.chares - 1) Target c to q)))))))))
    act_keeps (Act-F.Work e) t g =
        step_keeps t (λ t. with_value (value_of p this e t.cells) (λ v. with_value (upto (2 ^ 30) WorkRange v) (worked t))) g
        (λ t g. value_keeps (value_of p this e t.cells) _ (λ v q. value_keeps (upto (2 ^ 30) WorkRange v) (worked t) (λ n r. worked_if t n (nat_le (t.cost + n) (2 ^ 32)) refl g)))
    act_keeps (Act-F.Emit e) t g =
        step_keeps t (λ t. with_value (value_of p this e t.cells) (λ v. Ok (record t { emits = t.emits ++ v ∷ [] }))) g
        (λ t g. value_keeps (value_of p this e t.cells) _ (λ v q. done _ (alike t t.cells t.steps _ g)))
    act_keeps (Act-F.If e body None) t g =
        step_keeps t (λ t. with_value (value_of p this e t.cells) (λ v. choose_acts v (do_all (those body)) (do_else None) t)) g
        (λ t g. value_keeps (value_of p this e t.cells) _ (λ v q. choose_if (is_zero v) (do_all (those body)) (do_else None) t (list_keeps body t g) (done t g)))
    act_keeps (Act-F.If e body (Some other)) t g =
        step_keeps t (λ t. with_value (value_of p this e t.cells) (λ v. choose_acts v (do_all (those body)) (do_all (those other)) t)) g
        (λ t g. value_keeps (value_of p this e t.cells) _ (λ v q. choose_if (is_zero v) (do_all (those body)) (do_all (those other)) t (list_keeps body t g) (list_keeps other t g)))
    act_keeps (Act-F.Repeat e body) t g =
        step_keeps t (λ t. with_value (value_of p this e t.cells) (λ v. times (count_turns v) (those body) t)) g
        (λ t g. value_keeps (value_of p this e t.cells) _ (λ v q. times_keep (count_turns v) (those body) (list_keeps body) t g))

    each_keeps : (a : Act) → Fine a
    each_keeps = ind-Act Fine (λ x y is.
        subst Keeps (sym (fold-roll-Act Acting (act_step p this) x))
        (subst (λ z. Keeps (act_step p this (map-Act Act Acting (act_of p this) z))) is (act_keeps y)))

    acts_keep : (as' : List Act) (a : Acting) → Mem a (map (act_of p this) as') → Keeps a
    acts_keep [] a m = absurd m
    acts_keep (x ∷ as') a (inl q) = subst Keeps (sym q) (each_keeps x)
    acts_keep (x ∷ as') a (inr m) = acts_keep as' a m

    pub good_block : (as' : List Act) (cells : Cells) (t : Tally) → block_of p this as' cells ≡ Ok t → Good t
    unfolding block_of
    good_block as' cells t e = all_keep (map (act_of p this) as') (acts_keep as') (record { cells = cells; cost = 1; steps = 0; sends = []; emits = [] })
        (record { least = omega arith; most = omega arith; sends = λ m i. absurd i; offsets = tt }) t e

-- ---- the blocks of a run

numbered_sends : (this : ℕ) (path : List ℕ) (depth k : ℕ) (ps : List Parcel) (P : Sent → Type 0) → ((x : Parcel) → Mem x ps → P x.sent) → (m : Message) → Mem m (signed this path depth k ps) → P m.sent
numbered_sends this path depth k [] P h m i = absurd i
numbered_sends this path depth k (x ∷ ps) P h m (inl e) = subst (λ (m : Message). P m.sent) (sym e) (h x (inl refl))
numbered_sends this path depth k (x ∷ ps) P h m (inr i) = numbered_sends this path depth (k + 1) ps P (λ y j. h y (inr j)) m i

signed_order : (this : ℕ) (path : List ℕ) (depth k : ℕ) (ps : List Parcel) → InOrder (λ (a b : Parcel). a.sent.offset ≤ b.sent.offset) ps → InOrder (λ (a b : Message). a.sent.offset ≤ b.sent.offset) (signed this path depth k ps)
signed_order this path depth k [] h = tt
signed_order this path depth k (x ∷ ps) h = (numbered_sends this path depth (k + 1) ps (λ s. x.sent.offset ≤ s.offset) h.0, signed_order this path depth (k + 1) ps h.1)

module _ (p : Program) where
  abbrev AllProper : Causes → Run → Run → Type 0
  AllProper k r q = (x : Block) → Mem x q.blocks → IsProper p x

  made_proper : (this n : ℕ) (path : List ℕ) (s : State) (acts : List Act) (t : Tally) → block_of p this acts s.cells ≡ Ok t → AllProper s.causes (serial this n path s (Ok t)) (serial this n path s (Ok t))
  made_proper this n path s acts t e x (inr i) = absurd i
  made_proper this n path s acts t e x (inl q) =
      let g = good_block p this acts s.cells t e in
      let depth = suc (depth_of s.causes) in
      subst (IsProper p) (sym q) (record {
        least = g.least;
        most = g.most;
        sends = λ m i. numbered_sends this path depth 1 t.sends (IsSend p t.cost) g.sends m i;
        offsets = signed_order this path depth 1 t.sends g.offsets;
      })

  after_proper : (r : Run) (f : State → Run) → ((x : Block) → Mem x r.blocks → IsProper p x) → ((s : State) (x : Block) → Mem x (f s).blocks → IsProper p x) → (o : Option State) (x : Block) → Mem x (after r (from_end o f)).blocks → IsProper p x
  after_proper r f h i None x m = h x m
  after_proper r f h i (Some s) x m = by_side (mem_cases x r.blocks (f s).blocks m)
    where
      by_side : Mem x r.blocks ⊎ Mem x (f s).blocks → IsProper p x
      by_side (inl m) = h x m
      by_side (inr m) = i s x m

  ask_proper : (o : Option (List Message)) (as' : _) (ws : _) (f : List Message → Run) → ((ms : List Message) (x : Block) → Mem x (f ms).blocks → IsProper p x) → (x : Block) → Mem x (go_on o as' ws f).blocks → IsProper p x
  ask_proper None as' ws f h x m = absurd m
  ask_proper (Some ms) as' ws f h x m = h ms x m

  join_proper : (x : Block) (r q : Run) → ((x : Block) → Mem x r.blocks → IsProper p x) → ((x : Block) → Mem x q.blocks → IsProper p x) → Mem x r.blocks ⊎ Mem x q.blocks → IsProper p x
  join_proper x r q h i (inl m) = h x m
  join_proper x r q h i (inr m) = i x m

  proper_closed : (this : ℕ) (a : Lookup) → Closure p this a a AllProper
  proper_closed this a = record {
    ended = λ s x m. absurd m;
    halted = λ k ts x m. absurd m;
    made = λ n path s acts t is x m. made_proper this n path s acts t is x m;
    asked = λ n path k ks f g h x m. ask_proper (held a ks) _ _ g h x m;
    followed = λ k r q f g h i x m. after_proper q g h i q.end x m;
    recelled = λ k f r q h x m. h x m;
    joined = λ k w r q r' q' h i x m. join_proper x q q' h i (mem_cases x q.blocks q'.blocks m);
  }

  pub run_proper : (limit c : ℕ) (a : Lookup) (x : Block) → Mem x (run p limit c a).blocks → IsProper p x
  run_proper limit c a = list_kept p limit c a a AllProper (proper_closed c a) p.body 0 1 [] (start p)
