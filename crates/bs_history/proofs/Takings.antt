-- What is taken from a part: each variable for itself, one after the other.
use Rattle.std.proofs.Common.{◌≡◌, ◌≤◌, ◌<◌, ℕ, ◌+◌, arith, List, [], ◌∷◌, length, get_or, set, drop, Bool, true, false, ◌||◌, Option, Some, map, refl, sym, ap, ◌∙◌}
use Rattle.std.specs.Prelude.{pos}
use Rattle.std.proofs.lemmas.List.{drop_all}
use Rattle.std.proofs.lemmas.Bool.Decides.{nat_tests}
use Rattle.bs_tree.specs.declared.tree.NameId.{NameId}
use Rattle.bs_tree.specs.declared.tree.Wait.{Wait}
use Rattle.bs_tree.specs.declared.tree.Expr.{Expr}
use Rattle.bs_tree.specs.declared.tree.Act.{Act}
use Rattle.bs_tree.specs.declared.tree.Act.TheVariants as a
use Rattle.bs_tree.specs.declared.tree.Act.TheOpen.{Act-F}
use Rattle.bs_tree.specs.declared.tree.Act.TheFolds.{fold-roll-Act}
use Rattle.bs_tree.specs.declared.tree.Stmt.{Stmt}
use Rattle.bs_tree.specs.declared.tree.Stmt.TheVariants as v
use Rattle.bs_tree.specs.declared.tree.Program.{Program}
use Rattle.bs_semantics.specs.Acts.{act_writes, act_writes_step, any_writes}
use Rattle.bs_semantics.specs.Layout.{owns}
use Rattle.bs_semantics.specs.Value.{Cells}
use Rattle.bs_semantics.specs.Run.{any_part, mix, waits_own}
use Rattle.bs_block.specs.Env.{ChareCells}
use Rattle.bs_history.specs.declared.ground.Ground.{Ground}
use Rattle.bs_history.specs.Ground.{means, program_of}
use Rattle.bs_history.specs.Taken.{Takes, between}
use Rattle.bs_history.proofs.Meanings.{meant_for, meant_if, meant_when}
use Rattle.bs_history.proofs.Mixes.{mix_none, mix_or, mix_same, mix_more}

-- nothing is taken
pub takes_none : (part old : ChareCells) → Takes (λ i. false) part old old
takes_none part old = record { this = refl; cells = sym (mix_none 0 part.cells old.cells) }

-- one after the other
pub takes_both : (a b : ℕ → Bool) (part old mid new : ChareCells) → Takes a part old mid → Takes b part mid new → Takes (λ i. a i || b i) part old new
takes_both a b part old mid new h k =
    record { this = k.this ∙ h.this; cells = k.cells ∙ (ap (mix b 0 part.cells) h.cells ∙ sym (mix_or a b 0 part.cells old.cells)) }

-- another way to say what is taken
pub takes_as : (a b : ℕ → Bool) (part old new : ChareCells) → b ≡ a → Takes a part old new → Takes b part old new
takes_as a b part old new e h = record { this = h.this; cells = h.cells ∙ ap (λ w. mix w 0 part.cells old.cells) (sym e) }

-- ---- lists

-- what any item of a list writes
module _ {A : Type 0} (f : A → ℕ → Bool) (any : List A → ℕ → Bool) (none : any [] ≡ (λ i. false)) (more : (x : A) (xs : List A) → any (x ∷ xs) ≡ (λ i. f x i || any xs i)) (part old : ChareCells) (xs : List A) where
  -- what is still to be taken from a place on
  abbrev pub LeftFrom : ℕ → ChareCells → Type 0
  LeftFrom i now = mix (any (drop i xs)) 0 part.cells now.cells ≡ mix (any xs) 0 part.cells old.cells

  pub left_next : (i : ℕ) (x : A) (now new : ChareCells) → drop i xs ≡ x ∷ drop (i + 1) xs → Takes (f x) part now new → LeftFrom i now → LeftFrom (i + 1) new
  left_next i x now new d h q =
      let here = ap any d ∙ more x (drop (i + 1) xs) in
      ap (mix (any (drop (i + 1) xs)) 0 part.cells) h.cells
      ∙ (sym (mix_or (f x) (any (drop (i + 1) xs)) 0 part.cells now.cells)
      ∙ (sym (ap (λ w. mix w 0 part.cells now.cells) here) ∙ q))

  pub left_done : (i : ℕ) (now : ChareCells) → length xs ≤ i → now.this ≡ old.this → LeftFrom i now → Takes (any xs) part old now
  left_done i now l t q =
      let here = ap any (drop_all i xs l) ∙ none in
      record { this = t; cells = sym (mix_none 0 part.cells now.cells) ∙ (sym (ap (λ w. mix w 0 part.cells now.cells) here) ∙ q) }

-- ---- cells that follow one another

between_none : (from j : ℕ) → between from from j ≡ false
between_none from j = grind (arith, nat_tests)

between_last : (from at : ℕ) → from ≤ at → between from (at + 1) (0 + at) ≡ true
between_last from at l = grind (arith, nat_tests)

between_other : (from at j : ℕ) → (j ≡ 0 + at → ⊥) → between from at j ≡ between from (at + 1) j
between_other from at j n = grind (arith, nat_tests)

pub span_begins : (from : ℕ) (xs ys : Cells) → ys ≡ mix (between from from) 0 xs ys
span_begins from xs ys = sym (mix_same (between from from) (λ j. false) 0 xs ys (λ j l. between_none from j) ∙ mix_none 0 xs ys)

pub span_next : (from at : ℕ) (xs ys now : Cells) → from ≤ at → at < length xs → at < length ys → now ≡ mix (between from at) 0 xs ys → set now at (get_or xs at (pos 0)) ≡ mix (between from (at + 1)) 0 xs ys
span_next from at xs ys now f l m e =
    ap (λ zs. set zs at (get_or xs at (pos 0))) e
    ∙ mix_more (between from at) (between from (at + 1)) 0 at xs ys l m (between_last from at f) (between_other from at)

-- ---- acts

module _ (p : Program) (act : Act) where
  pub writes_if : (test : Expr) (body other : List Act) → act ≡ a.If test body (Some other) → act_writes p act ≡ (λ i. any_writes (map (act_writes p) body) i || any_writes (map (act_writes p) other) i)
  writes_if test body other e = ap (act_writes p) (e ∙ sym (a.rolls-If test body (Some other))) ∙ fold-roll-Act (ℕ → Bool) (act_writes_step p) (Act-F.If test body (Some other))

  pub writes_send : (x : NameId) (r : Expr) (vs : List Expr) (to : Expr) (bytes : Option Expr) → act ≡ a.Send x r vs to bytes → act_writes p act ≡ (λ i. false)
  writes_send x r vs to bytes e = ap (act_writes p) (e ∙ sym (a.rolls-Send x r vs to bytes)) ∙ fold-roll-Act (ℕ → Bool) (act_writes_step p) (Act-F.Send x r vs to bytes)

  pub writes_work : (x : Expr) → act ≡ a.Work x → act_writes p act ≡ (λ i. false)
  writes_work x e = ap (act_writes p) (e ∙ sym (a.rolls-Work x)) ∙ fold-roll-Act (ℕ → Bool) (act_writes_step p) (Act-F.Work x)

  pub writes_emit : (x : Expr) → act ≡ a.Emit x → act_writes p act ≡ (λ i. false)
  writes_emit x e = ap (act_writes p) (e ∙ sym (a.rolls-Emit x)) ∙ fold-roll-Act (ℕ → Bool) (act_writes_step p) (Act-F.Emit x)

-- ---- statements

module _ (g : Ground) (s : Stmt) where
  abbrev any : List Stmt → ℕ → Bool
  any body = any_part (map (means g) body)

  pub when_writes : (waits : List Wait) (body : List Stmt) → s ≡ v.When waits body → (means g s).writes ≡ (λ i. waits_own (program_of g) waits i || any body i)
  when_writes waits body e = ap (λ m. m.writes) (meant_when (program_of g) g.limit g.this s waits body e)

  pub for_writes : (x : NameId) (first test : Expr) (y : NameId) (step : Expr) (body : List Stmt) → s ≡ v.For x first test y step body → (means g s).writes ≡ (λ i. owns (program_of g) x i || owns (program_of g) y i || any body i)
  for_writes x first test y step body e = ap (λ m. m.writes) (meant_for (program_of g) g.limit g.this s x first test y step body e)

  pub if_writes : (test : Expr) (body other : List Stmt) → s ≡ v.If test body (Some other) → (means g s).writes ≡ (λ i. any body i || any other i)
  if_writes test body other e = ap (λ m. m.writes) (meant_if (program_of g) g.limit g.this s test body other e)
