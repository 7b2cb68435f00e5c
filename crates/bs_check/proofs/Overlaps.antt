-- In a program that breaks no rule no cell is written by two parts of an overlap.
use Rattle.std.proofs.Common.{◌≡◌, ℕ, ◌+◌, Bool, true, false, ◌&&◌, ◌||◌, if◌then◌else◌, List, [], ◌∷◌, Option, Some, None, inl, inr, refl, sym, ap, subst, ◌∙◌}
use Rattle.bs_tree.specs.Reads.{stmt_reads, stmt_writes}
use Rattle.bs_tree.specs.declared.tree.NameId.{NameId}
use Rattle.bs_tree.specs.declared.tree.VarDecl.{VarDecl}
use Rattle.bs_tree.specs.declared.tree.Stmt.{Stmt, roll-Stmt}
use Rattle.bs_tree.specs.declared.tree.Stmt.TheOpen.{Stmt-F}
use Rattle.bs_tree.specs.declared.tree.Stmt.TheViews.{out-roll-Stmt}
use Rattle.bs_tree.specs.declared.tree.Program.{Program}
use Rattle.bs_log.specs.Lists.{Mem, InOrder}
use Rattle.bs_check.specs.Agreeing.{WritesOwner, WriteApart}
use Rattle.bs_check.specs.Every.{every}
use Rattle.bs_check.specs.Interference.{clash, partner, Pair, or_else_pair, pair, or_else_rule, interference_from}
use Rattle.bs_check.specs.Refusal.{refusal}
use Rattle.bs_check.specs.Rules.{shares}
use Rattle.bs_check.specs.declared.fault.Rule.{Rule}
use Rattle.bs_check.proofs.Agreeing.{writes_alike}
use Rattle.bs_check.proofs.Fitness.{none_shares}
use Rattle.bs_check.proofs.Owners.{owner_declared, one_owner}

not_met : (t : Bool) (k : ℕ) (rest : Option ℕ) → (if t then Some k else rest) ≡ None → (t ≡ false) × (rest ≡ None)
not_met true k rest h = absurd (cc)
not_met false k rest h = (refl, h)

no_pair : (k : ℕ) (found : Option ℕ) (rest : Option Pair) → or_else_pair k found rest ≡ None → (found ≡ None) × (rest ≡ None)
no_pair k None rest h = (refl, h)
no_pair k (Some j) rest h = absurd (cc)

no_rule : (v : ℕ) (found : Option Pair) (rest : Option Rule) → or_else_rule v found rest ≡ None → (found ≡ None) × (rest ≡ None)
no_rule v None rest h = (refl, h)
no_rule v (Some both) rest h = absurd (cc)

none_meets : (name : NameId) (a : Stmt) (k : ℕ) (bs : List Stmt) → partner name a k bs ≡ None → (b : Stmt) → Mem b bs → clash name a b ≡ false
none_meets name a k [] h b i = absurd i
none_meets name a k (c ∷ bs) h b (inl e) = ap (clash name a) e ∙ (not_met (clash name a c) k (partner name a (k + 1) bs) h).0
none_meets name a k (c ∷ bs) h b (inr i) = none_meets name a (k + 1) bs (not_met (clash name a c) k (partner name a (k + 1) bs) h).1 b i

abbrev NoClash : NameId → List Stmt → Type 0
NoClash name = InOrder (λ a b. clash name a b ≡ false)

no_clash : (name : NameId) (k : ℕ) (parts : List Stmt) → pair name k parts ≡ None → NoClash name parts
no_clash name k [] h = tt
no_clash name k (a ∷ parts) h =
    let both = no_pair k (partner name a (k + 1) parts) (pair name (k + 1) parts) h in
    (none_meets name a (k + 1) parts both.0, no_clash name (k + 1) parts both.1)

of_variable : (v : ℕ) (ds : List VarDecl) (parts : List Stmt) → interference_from v ds parts ≡ None → (d : VarDecl) → Mem d ds → NoClash d.name parts
of_variable v [] parts h d i = absurd i
of_variable v (c ∷ ds) parts h d (inl e) = subst (λ (z : VarDecl). NoClash z.name parts) (sym e) (no_clash c.name 0 parts (no_rule v (pair c.name 0 parts) (interference_from (v + 1) ds parts) h).0)
of_variable v (c ∷ ds) parts h d (inr i) = of_variable (v + 1) ds parts (no_rule v (pair c.name 0 parts) (interference_from (v + 1) ds parts) h).1 d i

both_write : (r v s w : Bool) → v ≡ true → w ≡ true → ((v && (s || w)) || ((r || v) && w)) ≡ false → ⊥
both_write r true true true h g e = absurd (cc)
both_write r true false true h g e = absurd (cc)
both_write r v s false h g e = absurd (cc)
both_write r false s w h g e = absurd (cc)

same_name : (x y : NameId) → x.0 ≡ y.0 → x ≡ y
same_name x y e = λ j. record { 0 = e j }

module _ (p : Program) (limit this : ℕ) (parts : List Stmt) (free : (d : VarDecl) → Mem d p.vars → NoClash d.name parts) where
  clash_of : (a b : Stmt) → ((d : VarDecl) → Mem d p.vars → clash d.name a b ≡ false) → (cell : ℕ) → WritesOwner p a cell → WritesOwner p b cell → ⊥
  clash_of a b none cell x y =
      let d = owner_declared p x.name cell x.owns in
      let first = same_name x.name d.declared.name (sym d.name) in
      let second = same_name y.name d.declared.name (one_owner p y.name x.name cell y.owns x.owns ∙ sym d.name) in
      both_write (stmt_reads d.declared.name a) (stmt_writes d.declared.name a) (stmt_reads d.declared.name b) (stmt_writes d.declared.name b)
      (subst (λ (z : NameId). stmt_writes z a ≡ true) first x.writes)
      (subst (λ (z : NameId). stmt_writes z b ≡ true) second y.writes)
      (none d.declared d.is_in)

  -- each part stands so to the later ones
  apart_in : (ps : List Stmt) → ((d : VarDecl) → Mem d p.vars → NoClash d.name ps) → WriteApart p limit this ps
  apart_in [] none = tt
  apart_in (a ∷ ps) none = (
    (λ b i cell h g. clash_of a b (λ d k. (none d k).0 b i) cell ((writes_alike p limit this a cell).0 h) ((writes_alike p limit this b cell).0 g)),
    apart_in ps (λ d k. (none d k).1),
  )

  pub apart : WriteApart p limit this parts
  apart = apart_in parts free

pub parts_apart : (p : Program) → refusal p ≡ None → (limit this : ℕ) (parts : List Stmt) → Mem (roll-Stmt (Stmt-F.Overlap parts)) (every p.body) → WriteApart p limit this parts
parts_apart p h limit this parts i =
    let none = none_shares p h (roll-Stmt (Stmt-F.Overlap parts)) i in
    let here : interference_from 0 p.vars parts ≡ None = ap (shares p) (sym (out-roll-Stmt (Stmt-F.Overlap parts))) ∙ none in
    apart p limit this parts (of_variable 0 p.vars parts here)
