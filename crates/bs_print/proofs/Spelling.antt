-- What is spelled by a rule with some depth of brackets, part by part.
use Rattle.std.proofs.Common.{◌≡◌, ℕ, suc, ◌+◌, ◌≤◌, List, [], ◌∷◌, ◌++◌, Option, Some, None, refl, sym, ap, subst, ◌∙◌, arith, append_assoc, inl, inr}
use Rattle.bs_tree.specs.declared.symbols.Word.{Word}
use Rattle.bs_tree.specs.declared.symbols.Mark.{Mark}
use Rattle.bs_tree.specs.Rule as g
use Rattle.bs_tree.specs.Rule.{Terminal, Role, Item, Choice, the_word, the_mark, accepted, Inside, Rule, one, both, many, maybe, either, within, Spells, SpellsMany, SpellsMaybe}
use Rattle.bs_tree.specs.Grammar.{as_it_is, word, mark, content, Inner}
use Rattle.bs_parse.proofs.Basics.{append_none, mark_itself, word_itself}
use Rattle.bs_parse.proofs.Viable.{deeper_spells}
use Rattle.bs_print.specs.Expressions.{bracketed}

pub record Spelled {A : Type 0} (r : Rule A) (items : List Item) (a : A) : Type 0 where
  pub depth : ℕ
  pub spells : Spells (Inner depth) r items a

pub spelled_as : {A : Type 0} {r : Rule A} {items more : List Item} {a b : A} → items ≡ more → a ≡ b → Spelled r items a → Spelled r more b
spelled_as {r = r} {items = items} {b = b} e f s = subst (λ xs. Spelled r xs b) e (subst (λ x. Spelled r items x) f s)

pub one_spelled : {A : Type 0} (role : Role) (choice : Choice A) (t : Terminal) (a : A) → accepted choice t ≡ Some a → Spelled (one role choice) ((role, t) ∷ []) a
one_spelled role choice t a h = record { depth = 0; spells = (t, refl, h) }

pub word_spelled : (role : Role) (w : Word) → Spelled (word role w) ((role, g.word w) ∷ []) tt
word_spelled role w = one_spelled {A = Unit {0}} role (the_word w tt) (g.word w) tt (rw (word_itself w) refl)

pub mark_spelled : (role : Role) (m : Mark) → Spelled (mark role m) ((role, g.mark m) ∷ []) tt
mark_spelled role m = one_spelled {A = Unit {0}} role (the_mark m tt) (g.mark m) tt (rw (mark_itself m) refl)

pub both_spelled : {A B C : Type 0} (f : B → C → A) (r : Rule B) (q : Rule C) (xs ys : List Item) (b : B) (c : C) → Spelled r xs b → Spelled q ys c → Spelled (both f r q) (xs ++ ys) (f b c)
both_spelled f r q xs ys b c s t = record {
  depth = s.depth + t.depth;
  spells = (xs, ys, b, c, refl, deeper_spells s.depth (s.depth + t.depth) (omega arith) r xs b s.spells, deeper_spells t.depth (s.depth + t.depth) (omega arith) q ys c t.spells, refl);
}

pub none_spelled : {B : Type 0} (r : Rule B) → Spelled (many as_it_is r) [] []
none_spelled r = record { depth = 0; spells = ([], refl, refl) }

pub deeper_many : {B : Type 0} (d e : ℕ) → d ≤ e → (r : Rule B) (items : List Item) (bs : List B) → SpellsMany (Spells (Inner d) r) items bs → SpellsMany (Spells (Inner e) r) items bs
deeper_many d e le r items [] m = m
deeper_many d e le r items (b ∷ bs) m = (m.0, m.1, m.2, deeper_spells d e le r m.0 b m.3, deeper_many d e le r m.1 bs m.4)

pub more_spelled : {B : Type 0} (r : Rule B) (xs ys : List Item) (b : B) (bs : List B) → Spelled r xs b → Spelled (many as_it_is r) ys bs → Spelled (many as_it_is r) (xs ++ ys) (b ∷ bs)
more_spelled r xs ys b bs s t =
    let d = s.depth + t.depth in
    let rest = deeper_many t.depth d (omega arith) r ys t.spells.0 t.spells.1 in
    record { depth = d; spells = (b ∷ t.spells.0, (xs, ys, refl, deeper_spells s.depth d (omega arith) r xs b s.spells, rest), ap (λ cs. b ∷ cs) t.spells.2) }

-- one more behind many
pub many_then : {B : Type 0} (R : List Item → B → Type 0) (xs ys : List Item) (bs : List B) (b : B) → SpellsMany R xs bs → R ys b → SpellsMany R (xs ++ ys) (bs ++ b ∷ [])
many_then R xs ys [] b m s = (ys, [], ap (λ zs. zs ++ ys) m ∙ sym (append_none ys), s, refl)
many_then R xs ys (c ∷ bs) b m s = (m.0, m.1 ++ ys, ap (λ zs. zs ++ ys) m.2 ∙ append_assoc m.0 m.1 ys, m.3, many_then R m.1 ys bs b m.4 s)

pub nothing_spelled : {A B : Type 0} (f : Option B → A) (r : Rule B) → Spelled (maybe f r) [] (f None)
nothing_spelled f r = record { depth = 0; spells = (None, refl, refl) }

pub some_spelled : {A B : Type 0} (f : Option B → A) (r : Rule B) (items : List Item) (b : B) → Spelled r items b → Spelled (maybe f r) items (f (Some b))
some_spelled f r items b s = record { depth = s.depth; spells = (Some b, s.spells, refl) }

pub left_spelled : {A : Type 0} (r q : Rule A) (items : List Item) (a : A) → Spelled r items a → Spelled (either r q) items a
left_spelled r q items a s = record { depth = s.depth; spells = inl s.spells }

pub right_spelled : {A : Type 0} (r q : Rule A) (items : List Item) (a : A) → Spelled q items a → Spelled (either r q) items a
right_spelled r q items a s = record { depth = s.depth; spells = inr s.spells }

pub within_spelled : {A B : Type 0} (role : Role) (left right : Mark) (f : B → A) (inside : Inside B) (inner : List Item) (b : B) → Spelled (content inside) inner b
    → Spelled (within role left right f inside) (bracketed role left right inner) (f b)
within_spelled role left right f inside inner b s = record { depth = suc s.depth; spells = (inner, b, refl, s.spells, refl) }
