-- The lists of a run rise by path, and a run with an end has no trap and no wait.
use Rattle.std.proofs.Common.{◌≡◌, ◌≤◌, ◌<◌, ◌⊎◌, inl, inr, ℕ, zero, suc, ◌+◌, Bool, true, List, [], ◌∷◌, ◌++◌, Option, Some, None, Result, Ok, Err, refl, sym, ap, ap₂, subst, ◌∙◌, map, arith, ℤ, pos, negsuc, append_assoc, append-nil, is_some, Less, nat_cmp, le_refl, lt-ltb}
use Rattle.std.specs.Ordering.{ordering_then}
use Rattle.std.specs.Cmp.Lexicographic.{slice_cmp}
use Rattle.std.proofs.lemmas.Cmp.{tied_itself, nat_cmp_total}
use Rattle.bs_tree.specs.declared.tree.Program.{Program}
use Rattle.bs_tree.specs.declared.tree.Stmt.{Stmt}
use Rattle.bs_tree.specs.declared.tree.Stmt.TheOpen.{Stmt-F}
use Rattle.bs_tree.specs.declared.tree.Stmt.TheFolds.{fold-roll-Stmt, ind-Stmt, map-Stmt}
use Rattle.bs_log.specs.declared.history.Key.{Key}
use Rattle.bs_log.specs.declared.history.Message.{Message}
use Rattle.bs_log.specs.declared.history.Block.{Block}
use Rattle.bs_log.specs.declared.history.Asked.{Asked}
use Rattle.bs_log.specs.declared.history.WaitAt.{WaitAt}
use Rattle.bs_log.specs.declared.history.TrapAt.{TrapAt}
use Rattle.bs_log.specs.declared.history.TrapKind.{TrapKind}
use Rattle.bs_log.specs.Lists.{Mem, InOrder}
use Rattle.bs_log.specs.Paths.{IsBelow, IsUpTo}
use Rattle.bs_semantics.specs.Layout.{place_of}
use Rattle.bs_semantics.specs.Value.{Value, value_of}
use Rattle.bs_semantics.specs.Acts.{Tally, block_of}
use Rattle.bs_semantics.specs.Run.{Lookup, Run, State, Does, Meant, ends, halts, trapped, after, from_end, with, branch, serial, in_turn, both, join, parts, no_part, overlap, turns, assign, no_step, held, missing, all_asked, all_waits, go_on, took, keys_of, set_cell, does_step, meant_step, meant, run, start}
use Rattle.bs_semantics.proofs.Options.{none_some}
use Rattle.bs_semantics.proofs.Members.{mem_cases, in_order_both}

-- ---- paths

pub less_first : (a b : ℕ) → a < b → nat_cmp a b ≡ Less
less_first a b l = rw (lt-ltb a b l) refl

less_paths : (p : List ℕ) (a b : ℕ) (r s : List ℕ) → a < b → IsBelow (p ++ a ∷ r) (p ++ b ∷ s)
less_paths [] a b r s l = ap (λ o. ordering_then o (slice_cmp nat_cmp r s)) (less_first a b l)
less_paths (x ∷ p) a b r s l = ap (λ o. ordering_then o (slice_cmp nat_cmp (p ++ a ∷ r) (p ++ b ∷ s))) (tied_itself nat_cmp_total x) ∙ less_paths p a b r s l

less_longer : (p : List ℕ) (a : ℕ) (r : List ℕ) → IsBelow p (p ++ a ∷ r)
less_longer [] a r = refl
less_longer (x ∷ p) a r = ap (λ o. ordering_then o (slice_cmp nat_cmp p (p ++ a ∷ r))) (tied_itself nat_cmp_total x) ∙ less_longer p a r

-- at a path or below it; below it from the place k on; and below it before the place k
record Under (path a : List ℕ) : Type 0 where
  rest : List ℕ
  is : a ≡ path ++ rest

record From (path : List ℕ) (k : ℕ) (a : List ℕ) : Type 0 where
  place : ℕ
  rest : List ℕ
  least : k ≤ place
  is : a ≡ path ++ place ∷ rest

record To (path : List ℕ) (k : ℕ) (a : List ℕ) : Type 0 where
  place : ℕ
  rest : List ℕ
  most : place < k
  is : a ≡ path ++ place ∷ rest

at_path : (path : List ℕ) → Under path path
at_path path = record { rest = []; is = sym (append-nil path) }

here : (path : List ℕ) (k : ℕ) (a : List ℕ) → Under (path ++ k ∷ []) a → From path k a
here path k a u = record { place = k; rest = u.rest; least = le_refl k; is = u.is ∙ append_assoc path (k ∷ []) u.rest }

above : (path : List ℕ) (k : ℕ) (a : List ℕ) → From path k a → Under path a
above path k a f = record { rest = f.place ∷ f.rest; is = f.is }

inside : (path : List ℕ) (k : ℕ) (a : List ℕ) → Under (path ++ k ∷ []) a → Under path a
inside path k a u = above path k a (here path k a u)

later : (path : List ℕ) (k : ℕ) (a : List ℕ) → From path (k + 1) a → From path k a
later path k a f = let l = f.least in record { place = f.place; rest = f.rest; least = omega (arith, l); is = f.is }

next_to : (path : List ℕ) (k : ℕ) (a b : List ℕ) → Under (path ++ k ∷ []) a → From path (k + 1) b → IsBelow a b
next_to path k a b u f =
    let l = f.least in
    ap₂ (slice_cmp nat_cmp) (u.is ∙ append_assoc path (k ∷ []) u.rest) f.is ∙ less_paths path k f.place u.rest f.rest (omega (arith, l))

then_at : (path : List ℕ) (k : ℕ) (a b : List ℕ) → To path k a → Under (path ++ k ∷ []) b → IsBelow a b
then_at path k a b t u = ap₂ (slice_cmp nat_cmp) t.is (u.is ∙ append_assoc path (k ∷ []) u.rest) ∙ less_paths path t.place k t.rest u.rest t.most

before : (path : List ℕ) (k : ℕ) (a : List ℕ) → To path k a → To path (k + 1) a
before path k a t = let l = t.most in record { place = t.place; rest = t.rest; most = omega (arith, l); is = t.is }

last : (path : List ℕ) (k : ℕ) (a : List ℕ) → Under (path ++ k ∷ []) a → To path (k + 1) a
last path k a u = record { place = k; rest = u.rest; most = omega arith; is = u.is ∙ append_assoc path (k ∷ []) u.rest }

up_to : (path : List ℕ) (k : ℕ) (a : List ℕ) → To path k a → Under path a
up_to path k a t = record { rest = t.place ∷ t.rest; is = t.is }

-- ---- lists that rise in a zone of paths

record Rise {A : Type 0} (f : A → List ℕ) (R : List ℕ → List ℕ → Type 0) (Z : List ℕ → Type 0) (xs : List A) : Type 0 where
  rising : InOrder (λ x y. R (f x) (f y)) xs
  zone : (x : A) → Mem x xs → Z (f x)

module _ {A : Type 0} (f : A → List ℕ) (R : List ℕ → List ℕ → Type 0) where
  nothing : (Z : List ℕ → Type 0) → Rise f R Z []
  nothing Z = record { rising = tt; zone = λ x m. absurd m }

  single : (Z : List ℕ → Type 0) (x : A) → Z (f x) → Rise f R Z (x ∷ [])
  single Z x z = record { rising = ((λ y m. absurd m), tt); zone = λ y m. only y m }
    where
      only : (y : A) → Mem y (x ∷ []) → Z (f y)
      only y (inl e) = subst (λ y. Z (f y)) (sym e) z
      only y (inr m) = absurd m

  wider : (Z W : List ℕ → Type 0) → ((a : List ℕ) → Z a → W a) → (xs : List A) → Rise f R Z xs → Rise f R W xs
  wider Z W g xs h = record { rising = h.rising; zone = λ x m. g (f x) (h.zone x m) }

  one_after : (Z W V : List ℕ → Type 0) → ((a b : List ℕ) → Z a → W b → R a b) → ((a : List ℕ) → Z a → V a) → ((a : List ℕ) → W a → V a) → (xs ys : List A) → Rise f R Z xs → Rise f R W ys → Rise f R V (xs ++ ys)
  one_after Z W V cross g h xs ys i j = record {
    rising = in_order_both (λ x y. R (f x) (f y)) xs ys i.rising j.rising (λ x y m n. cross (f x) (f y) (i.zone x m) (j.zone y n));
    zone = λ x m. by_side x (mem_cases x xs ys m);
  }
    where
      by_side : (x : A) → Mem x xs ⊎ Mem x ys → V (f x)
      by_side x (inl m) = g (f x) (i.zone x m)
      by_side x (inr m) = h (f x) (j.zone x m)

-- ---- runs

-- blocks and keys asked in one zone, traps and waits in another; and none of these where there is an end
record Climb (Z W : List ℕ → Type 0) (r : Run) : Type 0 where
  blocks : Rise (λ b. b.path.0) IsBelow Z r.blocks
  asked : Rise (λ a. a.path.0) IsUpTo Z r.asked
  traps : Rise (λ t. t.path.0) IsBelow W r.traps
  waits : Rise (λ w. w.path.0) IsUpTo W r.waits
  quiet : (e : State) → r.end ≡ Some e → (r.traps ≡ []) × (r.waits ≡ [])

ending : (Z W : List ℕ → Type 0) (s : State) → Climb Z W (ends s)
ending Z W s = record { blocks = nothing _ _ Z; asked = nothing _ _ Z; traps = nothing _ _ W; waits = nothing _ _ W; quiet = λ e z. (refl, refl) }

halting : (Z W : List ℕ → Type 0) → Climb Z W (halts [])
halting Z W = record { blocks = nothing _ _ Z; asked = nothing _ _ Z; traps = nothing _ _ W; waits = nothing _ _ W; quiet = λ e z. absurd (none_some z) }

trapping : (Z W : List ℕ → Type 0) (n : ℕ) (path : List ℕ) (k : TrapKind) → W path → Climb Z W (trapped n path k)
trapping Z W n path k w = record { blocks = nothing _ _ Z; asked = nothing _ _ Z; traps = single _ _ W _ w; waits = nothing _ _ W; quiet = λ e z. absurd (none_some z) }

widen : (Z Z' W W' : List ℕ → Type 0) → ((a : List ℕ) → Z a → Z' a) → ((a : List ℕ) → W a → W' a) → (r : Run) → Climb Z W r → Climb Z' W' r
widen Z Z' W W' g h r c = record {
  blocks = wider _ _ Z Z' g r.blocks c.blocks;
  asked = wider _ _ Z Z' g r.asked c.asked;
  traps = wider _ _ W W' h r.traps c.traps;
  waits = wider _ _ W W' h r.waits c.waits;
  quiet = c.quiet;
}

below_up : (Z W : List ℕ → Type 0) → ((a b : List ℕ) → Z a → W b → IsBelow a b) → (a b : List ℕ) → Z a → W b → IsUpTo a b
below_up Z W h a b z w = inr (h a b z w)

no_more : {A : Type 0} (xs ys : List A) → xs ≡ [] → ys ≡ [] → xs ++ ys ≡ []
no_more xs ys p q = ap₂ (λ xs ys. xs ++ ys) p q

-- a statement at the place k, and those from the next place on
after_climbs : (path : List ℕ) (k : ℕ) (r : Run) (f : State → Run) (o : Option State) → r.end ≡ o → Climb (Under (path ++ k ∷ [])) (Under (path ++ k ∷ [])) r → ((s : State) → Climb (From path (k + 1)) (Under path) (f s)) → Climb (From path k) (Under path) (after r (from_end o f))
after_climbs path k r f None e h i = widen _ _ _ _ (here path k) (inside path k) r h
after_climbs path k r f (Some s) e h i =
    let q = h.quiet s e in
    record {
      blocks = one_after _ _ _ _ (From path k) (next_to path k) (here path k) (later path k) r.blocks (f s).blocks h.blocks (i s).blocks;
      asked = one_after _ _ _ _ (From path k) (below_up _ _ (next_to path k)) (here path k) (later path k) r.asked (f s).asked h.asked (i s).asked;
      traps = subst (λ ts. Rise (λ (t : TrapAt). t.path.0) IsBelow (Under path) (ts ++ (f s).traps)) (sym q.0) (i s).traps;
      waits = subst (λ ws. Rise (λ (w : WaitAt). w.path.0) IsUpTo (Under path) (ws ++ (f s).waits)) (sym q.1) (i s).waits;
      quiet = λ t z. let u = (i s).quiet t z in (no_more _ _ q.0 u.0, no_more _ _ q.1 u.1);
    }

with_climbs : (Z W : List ℕ → Type 0) {A : Type 0} (n : ℕ) (path : List ℕ) (v : Result A TrapKind) (f : A → Run) → W path → ((x : A) → Climb Z W (f x)) → Climb Z W (with n path v f)
with_climbs Z W n path (Err k) f w h = trapping Z W n path k w
with_climbs Z W n path (Ok v) f w h = h v

branch_climbs : (Z W : List ℕ → Type 0) (v : ℤ) (f g : State → Run) (s : State) → Climb Z W (f s) → Climb Z W (g s) → Climb Z W (branch v f g s)
branch_climbs Z W (pos zero) f g s h k = k
branch_climbs Z W (pos (suc n)) f g s h k = h
branch_climbs Z W (negsuc n) f g s h k = h

serial_climbs : (this n : ℕ) (path : List ℕ) (s : State) (d : Result Tally TrapKind) → Climb (Under path) (Under path) (serial this n path s d)
serial_climbs this n path s (Err k) = trapping _ _ n path k (at_path path)
serial_climbs this n path s (Ok t) = record { blocks = single _ _ _ _ (at_path path); asked = nothing _ _ _; traps = nothing _ _ _; waits = nothing _ _ _; quiet = λ e z. (refl, refl) }

-- the keys of one `when` are asked, and waited for, at one path
asked_at : (n : ℕ) (path : List ℕ) (ks : List Key) (a : Asked) → Mem a (all_asked n path ks) → path ≡ a.path.0
asked_at n path [] a m = absurd m
asked_at n path (k ∷ ks) a (inl e) = ap (λ a. a.path.0) (sym e)
asked_at n path (k ∷ ks) a (inr m) = asked_at n path ks a m

asked_rise : (n : ℕ) (path : List ℕ) (ks : List Key) → Rise (λ a. a.path.0) IsUpTo (λ b. path ≡ b) (all_asked n path ks)
asked_rise n path ks = record { rising = order ks; zone = asked_at n path ks }
  where
    order : (ks : List Key) → InOrder (λ (a b : Asked). IsUpTo a.path.0 b.path.0) (all_asked n path ks)
    order [] = tt
    order (k ∷ ks) = ((λ b m. inl (asked_at n path ks b m)), order ks)

waits_at : (n : ℕ) (path : List ℕ) (ks : List Key) (w : WaitAt) → Mem w (all_waits n path ks) → path ≡ w.path.0
waits_at n path [] w m = absurd m
waits_at n path (k ∷ ks) w (inl e) = ap (λ w. w.path.0) (sym e)
waits_at n path (k ∷ ks) w (inr m) = waits_at n path ks w m

waits_rise : (n : ℕ) (path : List ℕ) (ks : List Key) → Rise (λ w. w.path.0) IsUpTo (λ b. path ≡ b) (all_waits n path ks)
waits_rise n path ks = record { rising = order ks; zone = waits_at n path ks }
  where
    order : (ks : List Key) → InOrder (λ (a b : WaitAt). IsUpTo a.path.0 b.path.0) (all_waits n path ks)
    order [] = tt
    order (k ∷ ks) = ((λ b m. inl (waits_at n path ks b m)), order ks)

itself : (path a : List ℕ) → path ≡ a → Under path a
itself path a e = subst (Under path) e (at_path path)

at_first : (path a b : List ℕ) → path ≡ a → From path 0 b → IsUpTo a b
at_first path a b e f = inr (ap₂ (slice_cmp nat_cmp) (sym e) f.is ∙ less_longer path f.place f.rest)

go_on_climbs : (n : ℕ) (path : List ℕ) (ks ls : List Key) (o : Option (List Message)) (f : List Message → Run) → ((ms : List Message) → Climb (From path 0) (Under path) (f ms)) → Climb (Under path) (Under path) (go_on o (all_asked n path ks) (all_waits n path ls) f)
go_on_climbs n path ks ls None f h = record {
  blocks = nothing _ _ _;
  asked = wider _ _ _ _ (itself path) (all_asked n path ks) (asked_rise n path ks);
  traps = nothing _ _ _;
  waits = wider _ _ _ _ (itself path) (all_waits n path ls) (waits_rise n path ls);
  quiet = λ e z. absurd (none_some z);
}
go_on_climbs n path ks ls (Some ms) f h = record {
  blocks = wider _ _ _ _ (above path 0) (f ms).blocks (h ms).blocks;
  asked = one_after _ _ _ _ (Under path) (at_first path) (itself path) (above path 0) (all_asked n path ks) (f ms).asked (asked_rise n path ks) (h ms).asked;
  traps = (h ms).traps;
  waits = (h ms).waits;
  quiet = (h ms).quiet;
}

abbrev Climbs : Does → Type 0
Climbs d = (mail : Lookup) (n : ℕ) (path : List ℕ) (s : State) → Climb (Under path) (Under path) (d mail n path s)

abbrev ClimbsFrom : ℕ → Does → Type 0
ClimbsFrom k d = (mail : Lookup) (n : ℕ) (path : List ℕ) (s : State) → Climb (From path k) (Under path) (d mail n path s)

abbrev AllClimb : List Meant → Type 0
AllClimb [] = Unit {0}
AllClimb (d ∷ ds) = Climbs d.does × AllClimb ds

in_turn_climbs : (ds : List Meant) (k : ℕ) → AllClimb ds → ClimbsFrom k (in_turn ds k)
in_turn_climbs [] k h mail n path s = ending _ _ s
in_turn_climbs (d ∷ ds) k h mail n path s = after_climbs path k _ _ _ refl (h.0 mail n (path ++ k ∷ []) s) (λ t. in_turn_climbs ds (k + 1) h.1 mail (n + d.count) path t)

-- a list of statements as the body of a statement
body_climbs : (ds : List Meant) → AllClimb ds → Climbs (in_turn ds 0)
body_climbs ds h mail n path s = widen _ _ _ _ (above path 0) (λ a u. u) _ (in_turn_climbs ds 0 h mail n path s)

-- the parts before the place k, and the part at it
join_climbs : (path : List ℕ) (k : ℕ) (w : ℕ → Bool) (r q : Run) → Climb (To path k) (To path k) r → Climb (Under (path ++ k ∷ [])) (Under (path ++ k ∷ [])) q → Climb (To path (k + 1)) (To path (k + 1)) (join w r q)
join_climbs path k w r q h i = record {
  blocks = one_after _ _ _ _ (To path (k + 1)) (then_at path k) (before path k) (last path k) r.blocks q.blocks h.blocks i.blocks;
  asked = one_after _ _ _ _ (To path (k + 1)) (below_up _ _ (then_at path k)) (before path k) (last path k) r.asked q.asked h.asked i.asked;
  traps = one_after _ _ _ _ (To path (k + 1)) (then_at path k) (before path k) (last path k) r.traps q.traps h.traps i.traps;
  waits = one_after _ _ _ _ (To path (k + 1)) (below_up _ _ (then_at path k)) (before path k) (last path k) r.waits q.waits h.waits i.waits;
  quiet = λ e z. by_ends r.end q.end refl refl e z;
}
  where
    by_ends : (x y : Option State) → r.end ≡ x → q.end ≡ y → (e : State) → both w x y ≡ Some e → (r.traps ++ q.traps ≡ []) × (r.waits ++ q.waits ≡ [])
    by_ends None y a b e z = absurd (none_some z)
    by_ends (Some s) None a b e z = absurd (none_some z)
    by_ends (Some s) (Some t) a b e z = let one = h.quiet s a in let two = i.quiet t b in (no_more _ _ one.0 two.0, no_more _ _ one.1 two.1)

parts_climb : (r : Run) (ds : List Meant) (k : ℕ) → AllClimb ds → (mail : Lookup) (n : ℕ) (path : List ℕ) (s : State) → Climb (To path k) (To path k) r → Climb (Under path) (Under path) (parts r ds k mail n path s)
parts_climb r [] k h mail n path s i = widen _ _ _ _ (up_to path k) (up_to path k) r i
parts_climb r (d ∷ ds) k h mail n path s i =
    parts_climb (join d.writes r (d.does mail n (path ++ k ∷ []) s)) ds (k + 1) h.1 mail (n + d.count) path s
    (join_climbs path k d.writes r _ i (h.0 mail n (path ++ k ∷ []) s))

overlap_climbs : (ds : List Meant) → AllClimb ds → Climbs (overlap ds)
overlap_climbs [] h mail n path s = ending _ _ s
overlap_climbs (d ∷ ds) h mail n path s = parts_climb (no_part s) (d ∷ ds) 0 h mail n path s (ending _ _ _)

abbrev StepClimbs : (ℕ → List ℕ → (State → Run) → State → Run) → Type 1
StepClimbs step = (Z W : List ℕ → Type 0) (n : ℕ) (path : List ℕ) (f : State → Run) → W path → ((s : State) → Climb Z W (f s)) → (s : State) → Climb Z W (step n path f s)

turns_climb : (m : ℕ) (test : State → Value) (step : ℕ → List ℕ → (State → Run) → State → Run) (ds : List Meant) (k : ℕ) → StepClimbs step → AllClimb ds → ClimbsFrom k (turns m test step ds k)
turns_climb zero test step ds k t h mail n path s = with_climbs _ _ n path (test s) _ (at_path path) (λ v. branch_climbs _ _ v _ _ s (halting _ _) (ending _ _ s))
turns_climb (suc m) test step ds k t h mail n path s =
    with_climbs _ _ n path (test s) _ (at_path path) (λ v. branch_climbs _ _ v _ _ s
    (after_climbs path k _ _ _ refl (body_climbs ds h mail (n + 1) (path ++ k ∷ []) s) (t _ _ n path _ (at_path path) (turns_climb m test step ds (k + 1) t h mail n path)))
    (ending _ _ s))

assign_climbs : (value : State → Value) (at : ℕ) → StepClimbs (assign value at)
assign_climbs value at Z W n path f w h s = with_climbs Z W n path (value s) _ w (λ v. h _)

-- the list in a branch
branch_list : (ds : List Meant) (k : ℕ) → AllClimb ds → (mail : Lookup) (n : ℕ) (path : List ℕ) (s : State) → Climb (Under path) (Under path) (in_turn ds 0 mail n (path ++ k ∷ []) s)
branch_list ds k h mail n path s = widen _ _ _ _ (inside path k) (inside path k) _ (body_climbs ds h mail n (path ++ k ∷ []) s)

module _ (p : Program) (limit this : ℕ) where
  abbrev Fine : Stmt → Type 0
  Fine s = Climbs (meant p limit this s).does

  all_climb : (es : List ((s : Stmt) × Fine s)) → AllClimb (map (meant p limit this) (map (λ e. e.0) es))
  all_climb [] = tt
  all_climb (e ∷ es) = (e.1, all_climb es)

  step_climbs : (y : Stmt-F ((s : Stmt) × Fine s)) → Climbs (does_step p limit this (map-Stmt Stmt Meant (meant p limit this) (map-Stmt _ Stmt (λ e. e.0) y)))
  step_climbs (Stmt-F.Serial acts) mail n path s = serial_climbs this n path s (block_of p this acts s.cells)
  step_climbs (Stmt-F.When waits body) mail n path s =
      with_climbs _ _ n path (keys_of p this waits s.cells) _ (at_path path) (λ ks. go_on_climbs n path ks (missing mail ks) (held mail ks) _ (λ ms. in_turn_climbs _ 0 (all_climb body) mail (n + 1) path (took p waits s ms)))
  step_climbs (Stmt-F.Overlap body) mail n path s = overlap_climbs _ (all_climb body) mail (n + 1) path s
  step_climbs (Stmt-F.For x first test y step body) mail n path s =
      with_climbs _ _ n path (value_of p this first s.cells) _ (at_path path) (λ v. widen _ _ _ _ (above path 0) (λ a u. u) _
      (turns_climb (suc limit) (λ s. value_of p this test s.cells) (assign (λ s. value_of p this step s.cells) (place_of p y).from) _ 0 (assign_climbs (λ s. value_of p this step s.cells) (place_of p y).from) (all_climb body) mail n path (set_cell (place_of p x).from s v)))
  step_climbs (Stmt-F.While test body) mail n path s =
      widen _ _ _ _ (above path 0) (λ a u. u) _ (turns_climb (suc limit) (λ s. value_of p this test s.cells) no_step _ 0 (λ Z W n path f w h s. h s) (all_climb body) mail n path s)
  step_climbs (Stmt-F.If test body None) mail n path s =
      with_climbs _ _ n path (value_of p this test s.cells) _ (at_path path) (λ v. branch_climbs _ _ v _ _ s (branch_list _ 0 (all_climb body) mail (n + 1) path s) (ending _ _ s))
  step_climbs (Stmt-F.If test body (Some other)) mail n path s =
      with_climbs _ _ n path (value_of p this test s.cells) _ (at_path path) (λ v. branch_climbs _ _ v _ _ s (branch_list _ 0 (all_climb body) mail (n + 1) path s) (branch_list _ 1 (all_climb other) mail _ path s))
  step_climbs (Stmt-F.Seq body) mail n path s = body_climbs _ (all_climb body) mail (n + 1) path s

  statement_climbs : (s : Stmt) → Fine s
  statement_climbs = ind-Stmt Fine (λ x y is.
      subst (λ m. Climbs m.does) (sym (fold-roll-Stmt Meant (meant_step p limit this) x))
      (subst (λ z. Climbs (does_step p limit this (map-Stmt Stmt Meant (meant p limit this) z))) is (step_climbs y)))

  statements_climb : (ss : List Stmt) → AllClimb (map (meant p limit this) ss)
  statements_climb [] = tt
  statements_climb (s ∷ ss) = (statement_climbs s, statements_climb ss)

  module _ (mail : Lookup) where
    run_climbs : Climb (From [] 0) (Under []) (run p limit this mail)
    run_climbs = in_turn_climbs (map (meant p limit this) p.body) 0 (statements_climb p.body) mail 1 [] (start p)

    pub run_rising : InOrder (λ (x y : Block). IsBelow x.path.0 y.path.0) (run p limit this mail).blocks
    run_rising = run_climbs.blocks.rising

    pub run_asked : InOrder (λ (x y : Asked). IsUpTo x.path.0 y.path.0) (run p limit this mail).asked
    run_asked = run_climbs.asked.rising

    pub run_traps : InOrder (λ (x y : TrapAt). IsBelow x.path.0 y.path.0) (run p limit this mail).traps
    run_traps = run_climbs.traps.rising

    pub run_waits : InOrder (λ (x y : WaitAt). IsUpTo x.path.0 y.path.0) (run p limit this mail).waits
    run_waits = run_climbs.waits.rising

    pub run_quiet : is_some (run p limit this mail).end ≡ true → ((run p limit this mail).traps ≡ []) × ((run p limit this mail).waits ≡ [])
    run_quiet = by_end (run p limit this mail).end refl
      where
        by_end : (o : Option State) → (run p limit this mail).end ≡ o → is_some o ≡ true → ((run p limit this mail).traps ≡ []) × ((run p limit this mail).waits ≡ [])
        by_end None e t = absurd (cc)
        by_end (Some s) e t = run_climbs.quiet s e
