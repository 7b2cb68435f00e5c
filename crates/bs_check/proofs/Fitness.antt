-- Where no statement among these and those inside them breaks a rule, each of them fits and none is an idle loop.
use Rattle.std.proofs.Common.{◌≡◌, inl, inr, ℕ, ◌+◌, Bool, true, false, not, ◌&&◌, ◌||◌, List, [], ◌∷◌, ◌++◌, Option, Some, None, map, refl, sym, ap, ap₂, subst, subst₂, ◌∙◌}
use Rattle.std.proofs.Math.Bool.{and_assoc}
use Rattle.bs_tree.specs.Reads.{any_true}
use Rattle.bs_tree.specs.Spends.{stmt_spends_step, stmt_spends, any_stmt_spends}
use Rattle.bs_tree.specs.declared.tree.Expr.{Expr}
use Rattle.bs_tree.specs.declared.tree.NameId.{NameId}
use Rattle.bs_tree.specs.declared.tree.Stmt.{Stmt, out-Stmt, roll-Stmt}
use Rattle.bs_tree.specs.declared.tree.Stmt.TheViews.{out-roll-Stmt}
use Rattle.bs_tree.specs.declared.tree.Stmt.TheOpen.{Stmt-F}
use Rattle.bs_tree.specs.declared.tree.Stmt.TheFolds.{fold-roll-Stmt, ind-Stmt, map-Stmt}
use Rattle.bs_tree.specs.declared.tree.Program.{Program}
use Rattle.bs_log.specs.Lists.{Mem}
use Rattle.bs_semantics.specs.Spending.{Spending, any_spends, all_busy, spending_step, spending, HasNoIdleLoop}
use Rattle.bs_check.specs.Every.{Listed, inside_step, listed_step, listed, every}
use Rattle.bs_check.specs.Fits.{is_for_fit, fit_step, is_fit, are_fit}
use Rattle.bs_check.specs.Known.{is_scalar, is_known}
use Rattle.bs_check.specs.Rules.{knows, counts, shares, idles, is_stmt_known, is_stmt_counted, is_idle, interference, where_not, or_next, broken_rule}
use Rattle.bs_check.specs.Refusal.{Broken, or_later, first_broken, declarations_rule, refusal}
use Rattle.bs_check.specs.declared.fault.Rule.{Rule}
use Rattle.bs_check.specs.declared.fault.Rule.TheVariants.{UnknownName, Arity, IdleLoop}
use Rattle.bs_check.proofs.Everything.{self_is}

-- ---- the two meanings of a statement that spends are one

abbrev SpendsAlike : Stmt → Type 0
SpendsAlike s = stmt_spends s ≡ (spending s).spends

abbrev Alikes : Type 0
Alikes = List ((s : Stmt) × SpendsAlike s)

some_spends : (es : Alikes) → any_true (map stmt_spends (map (λ e. e.0) es)) ≡ any_spends (map spending (map (λ e. e.0) es))
some_spends [] = refl
some_spends (e ∷ es) = ap₂ (λ a b. a || b) e.1 (some_spends es)

never : (b : Bool) → (b && false) ≡ false
never true = refl
never false = refl

layer_spends : (y : Stmt-F ((s : Stmt) × SpendsAlike s)) → stmt_spends_step (map-Stmt Stmt Bool stmt_spends (map-Stmt _ Stmt (λ e. e.0) y)) ≡ (spending_step (map-Stmt Stmt Spending spending (map-Stmt _ Stmt (λ e. e.0) y))).spends
layer_spends (Stmt-F.Serial acts) = refl
layer_spends (Stmt-F.When waits body) = some_spends body
layer_spends (Stmt-F.Overlap body) = some_spends body
layer_spends (Stmt-F.For x first test y step body) = refl
layer_spends (Stmt-F.While test body) = refl
layer_spends (Stmt-F.If test body None) = never (any_true (map stmt_spends (map (λ e. e.0) body)))
layer_spends (Stmt-F.If test body (Some other)) = ap₂ (λ a b. a && b) (some_spends body) (some_spends other)
layer_spends (Stmt-F.Seq body) = some_spends body

abbrev SpendsSo : Bool → Spending → Type 0
SpendsSo b s = b ≡ s.spends

pub spends_alike : (s : Stmt) → stmt_spends s ≡ (spending s).spends
spends_alike = ind-Stmt SpendsAlike (λ x y is.
    subst₂ SpendsSo (sym (fold-roll-Stmt Bool stmt_spends_step x)) (sym (fold-roll-Stmt Spending spending_step x))
    (subst (λ z. SpendsSo (stmt_spends_step (map-Stmt Stmt Bool stmt_spends z)) (spending_step (map-Stmt Stmt Spending spending z))) is (layer_spends y)))

-- a list of which some statement spends, by either meaning
pub any_spends_alike : (body : List Stmt) → any_stmt_spends body ≡ any_spends (map spending body)
any_spends_alike [] = refl
any_spends_alike (s ∷ body) = ap₂ (λ a b. a || b) (spends_alike s) (any_spends_alike body)

-- ---- what a statement that breaks no rule keeps

record KeepsRules (p : Program) (x : Stmt-F Stmt) : Type 0 where
  known : knows p x ≡ true
  counted : counts p x ≡ true
  busy : idles x ≡ false

was_kept : (b : Bool) (rule : Rule) (next : Option Rule) → or_next (where_not b rule) next ≡ None → (b ≡ true) × (next ≡ None)
was_kept true rule next h = (refl, h)
was_kept false rule next h = absurd (cc)

was_none : (first next : Option Rule) → or_next first next ≡ None → next ≡ None
was_none None next h = h
was_none (Some rule) next h = absurd (cc)

not_true : (b : Bool) → not b ≡ true → b ≡ false
not_true true h = absurd (cc)
not_true false h = refl

keeps_rules : (p : Program) (x : Stmt-F Stmt) → broken_rule p (roll-Stmt x) ≡ None → KeepsRules p x
unfolding broken_rule is_stmt_known is_stmt_counted is_idle
keeps_rules p x h =
    let s = roll-Stmt x in
    let first = was_kept (is_stmt_known p s) UnknownName _ h in
    let second = was_kept (is_stmt_counted p s) Arity _ first.1 in
    let third = was_none (interference p s) _ second.1 in
    let fourth = was_kept (not (is_idle s)) IdleLoop _ third in
    record {
      known = ap (knows p) (sym (out-roll-Stmt x)) ∙ first.0;
      counted = ap (counts p) (sym (out-roll-Stmt x)) ∙ second.0;
      busy = ap idles (sym (out-roll-Stmt x)) ∙ not_true (is_idle s) fourth.0;
    }

-- ---- no statement of a list breaks a rule

abbrev NoneBroken : Program → List Stmt → Type 0
NoneBroken p [] = Unit {0}
NoneBroken p (s ∷ ss) = (broken_rule p s ≡ None) × NoneBroken p ss

none_here : (n : ℕ) (rule : Option Rule) (later : Option Broken) → or_later n rule later ≡ None → (rule ≡ None) × (later ≡ None)
none_here n None later h = (refl, h)
none_here n (Some rule) later h = absurd (cc)

none_broken : (p : Program) (n : ℕ) (ss : List Stmt) → first_broken p n ss ≡ None → NoneBroken p ss
none_broken p n [] h = tt
none_broken p n (s ∷ ss) h =
    let both = none_here n (broken_rule p s) (first_broken p (n + 1) ss) h in
    (both.0, none_broken p (n + 1) ss both.1)

first_none : (first next : Option Rule) → or_next first next ≡ None → first ≡ None
first_none None next h = refl
first_none (Some rule) next h = absurd (cc)

one_unbroken : (p : Program) (ss : List Stmt) → NoneBroken p ss → (s : Stmt) → Mem s ss → broken_rule p s ≡ None
one_unbroken p [] h s i = absurd i
one_unbroken p (x ∷ ss) h s (inl e) = ap (broken_rule p) e ∙ h.0
one_unbroken p (x ∷ ss) h s (inr i) = one_unbroken p ss h.1 s i

shares_none : (p : Program) (s : Stmt) → broken_rule p s ≡ None → shares p (out-Stmt s) ≡ None
unfolding broken_rule interference
shares_none p s h =
    let first = was_kept (is_stmt_known p s) UnknownName _ h in
    let second = was_kept (is_stmt_counted p s) Arity _ first.1 in
    first_none (interference p s) _ second.1

none_in : (p : Program) (xs ys : List Stmt) → NoneBroken p (xs ++ ys) → NoneBroken p xs × NoneBroken p ys
none_in p [] ys h = (tt, h)
none_in p (x ∷ xs) ys h = let both = none_in p xs ys h.1 in ((h.0, both.0), both.1)

-- ---- a statement that breaks no rule, and has none inside it that does

record Sound (fits : Bool) (spending : Spending) : Type 0 where
  fit : fits ≡ true
  busy : spending.busy ≡ true

module _ (p : Program) where
  abbrev IsSound : Stmt → Type 0
  IsSound s = broken_rule p s ≡ None → NoneBroken p (listed s).inside → Sound (is_fit p s) (spending s)

  abbrev Those : Type 0
  Those = List ((s : Stmt) × IsSound s)

  abbrev plain : Those → List Stmt
  plain es = map (λ e. e.0) es

  record AllSound (body : List Stmt) : Type 0 where
    fit : are_fit p body ≡ true
    busy : all_busy (map spending body) ≡ true

  one_more : (s : Stmt) (body : List Stmt) → Sound (is_fit p s) (spending s) → AllSound body → AllSound (s ∷ body)
  one_more s body h g = record { fit = ap₂ (λ a b. a && b) h.fit g.fit; busy = ap₂ (λ a b. a && b) h.busy g.busy }

  all_sound : (es : Those) → NoneBroken p (every (plain es)) → AllSound (plain es)
  all_sound [] h = record { fit = refl; busy = refl }
  all_sound (e ∷ es) h =
      let both = none_in p (listed e.0).inside (every (plain es)) h.1 in
      one_more e.0 (plain es) (e.1 (ap (broken_rule p) (sym (self_is e.0)) ∙ h.0) both.0) (all_sound es both.1)

  -- a loop whose body isn't idle
  loops : (body : List Stmt) → not (any_stmt_spends body) ≡ false → all_busy (map spending body) ≡ true → (any_spends (map spending body) && all_busy (map spending body)) ≡ true
  loops body h g = ap₂ (λ a b. a && b) (sym (any_spends_alike body) ∙ was_true (any_stmt_spends body) h) g
    where
      was_true : (b : Bool) → not b ≡ false → b ≡ true
      was_true true h = refl
      was_true false h = absurd (cc)

  for_fits : (x : NameId) (first test : Expr) (y : NameId) (step : Expr) → (is_scalar p x && is_known p first && is_known p test && is_scalar p y && is_known p step) ≡ true → is_for_fit p x first test y step ≡ true
  unfolding is_for_fit
  for_fits x first test y step h = sym (and_assoc (is_scalar p x && is_known p first && is_known p test) (is_scalar p y) (is_known p step)) ∙ h

  layer_sound : (y : Stmt-F ((s : Stmt) × IsSound s)) → KeepsRules p (map-Stmt _ Stmt (λ e. e.0) y) → NoneBroken p (inside_step (map-Stmt Stmt Listed listed (map-Stmt _ Stmt (λ e. e.0) y))) →
      Sound (fit_step p (map-Stmt Stmt Bool (is_fit p) (map-Stmt _ Stmt (λ e. e.0) y))) (spending_step (map-Stmt Stmt Spending spending (map-Stmt _ Stmt (λ e. e.0) y)))
  layer_sound (Stmt-F.Serial acts) k h = record { fit = ap₂ (λ a b. a && b) k.known k.counted; busy = refl }
  layer_sound (Stmt-F.When waits body) k h = let all = all_sound body h in record { fit = ap₂ (λ a b. a && b) k.known all.fit; busy = all.busy }
  layer_sound (Stmt-F.Overlap body) k h = let all = all_sound body h in record { fit = all.fit; busy = all.busy }
  layer_sound (Stmt-F.For x first test y step body) k h =
      let all = all_sound body h in
      record { fit = ap₂ (λ a b. a && b) (for_fits x first test y step k.known) all.fit; busy = loops (plain body) k.busy all.busy }
  layer_sound (Stmt-F.While test body) k h =
      let all = all_sound body h in
      record { fit = ap₂ (λ a b. a && b) k.known all.fit; busy = loops (plain body) k.busy all.busy }
  layer_sound (Stmt-F.If test body None) k h =
      let all = all_sound body (none_in p (every (plain body)) [] h).0 in
      record { fit = ap₂ (λ a b. a && b && true) k.known all.fit; busy = all.busy }
  layer_sound (Stmt-F.If test body (Some other)) k h =
      let both = none_in p (every (plain body)) (every (plain other)) h in
      let all = all_sound body both.0 in
      let rest = all_sound other both.1 in
      record { fit = ap₂ (λ a b. a && b) (ap₂ (λ a b. a && b) k.known all.fit) rest.fit; busy = ap₂ (λ a b. a && b) all.busy rest.busy }
  layer_sound (Stmt-F.Seq body) k h = let all = all_sound body h in record { fit = all.fit; busy = all.busy }

  abbrev SoundSo : Stmt-F Stmt → Listed → Bool → Spending → Type 0
  SoundSo x l b s = KeepsRules p x → NoneBroken p l.inside → Sound b s

  rolled : (x : Stmt-F Stmt) → SoundSo x (listed_step (map-Stmt Stmt Listed listed x)) (fit_step p (map-Stmt Stmt Bool (is_fit p) x)) (spending_step (map-Stmt Stmt Spending spending x)) → SoundSo x (listed (roll-Stmt x)) (is_fit p (roll-Stmt x)) (spending (roll-Stmt x))
  rolled x h =
      subst (λ l. SoundSo x l (is_fit p (roll-Stmt x)) (spending (roll-Stmt x))) (sym (fold-roll-Stmt Listed listed_step x))
      (subst₂ (SoundSo x (listed_step (map-Stmt Stmt Listed listed x))) (sym (fold-roll-Stmt Bool (fit_step p) x)) (sym (fold-roll-Stmt Spending spending_step x)) h)

  is_sound : (s : Stmt) → IsSound s
  is_sound = ind-Stmt IsSound (λ x y is unbroken.
      rolled x (subst (λ z. SoundSo z (listed_step (map-Stmt Stmt Listed listed z)) (fit_step p (map-Stmt Stmt Bool (is_fit p) z)) (spending_step (map-Stmt Stmt Spending spending z))) is (layer_sound y)) (keeps_rules p x unbroken))

  body_sound : (body : List Stmt) → NoneBroken p (every body) → AllSound body
  body_sound [] h = record { fit = refl; busy = refl }
  body_sound (s ∷ body) h =
      let both = none_in p (listed s).inside (every body) h.1 in
      one_more s body (is_sound s (ap (broken_rule p) (sym (self_is s)) ∙ h.0) both.0) (body_sound body both.1)

  none_broken_here : refusal p ≡ None → NoneBroken p (every p.body)
  unfolding refusal
  none_broken_here h = none_broken p 1 (every p.body) (none_here 0 (declarations_rule p) (first_broken p 1 (every p.body)) h).1

  unbroken : refusal p ≡ None → AllSound p.body
  unbroken h = body_sound p.body (none_broken_here h)

  -- no statement of an accepted program shares a variable among its parts
  pub none_shares : refusal p ≡ None → (s : Stmt) → Mem s (every p.body) → shares p (out-Stmt s) ≡ None
  none_shares h s i = shares_none p s (one_unbroken p (every p.body) (none_broken_here h) s i)

  -- an accepted program fits
  pub all_fit : refusal p ≡ None → are_fit p p.body ≡ true
  all_fit h = (unbroken h).fit

  -- an accepted program has no idle loop
  pub none_idle : refusal p ≡ None → HasNoIdleLoop p
  none_idle h = (unbroken h).busy
