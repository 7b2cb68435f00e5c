-- What the canonical items of something that is spelled are to the items that spell it: they spell the same, and are leaner.
use Rattle.std.proofs.Common.{◌≡◌, ℕ, pos, List, [], ◌∷◌, ◌++◌, Option, Some, None, true, false, refl, sym, ap, subst, ◌∙◌, inl, inr}
use Rattle.bs_tree.specs.declared.symbols.Word.{Word}
use Rattle.bs_tree.specs.declared.symbols.Mark.{Mark}
use Rattle.bs_tree.specs.Rule as g
use Rattle.bs_tree.specs.Rule.{Terminal, Role, outside, Item, Choice, a_name, a_number, the_word, the_mark, accepted, Inside, Rule, one, both, many, maybe, either, within, closing, Spells, SpellsMany, SpellsMaybe}
use Rattle.bs_tree.specs.Grammar.{as_it_is, as_name, name, natural, count, word, mark, content, Inner}
use Rattle.bs_tree.specs.Limits.{opens, closes}
use Rattle.bs_parse.proofs.Basics.{some_if, same_words, same_marks}
use Rattle.bs_print.specs.Expressions.{bracketed}
use Rattle.bs_print.specs.Statements.{name_items, count_items}
use Rattle.bs_print.proofs.Leaner.{Leaner, nothing, token, behind, bracket}
use Rattle.bs_print.proofs.Spelling.{Spelled, spelled_as, one_spelled, word_spelled, mark_spelled, both_spelled, none_spelled, more_spelled, nothing_spelled, some_spelled, left_spelled, right_spelled, within_spelled}

pub record Improved {A : Type 0} (r : Rule A) (better items : List Item) (a : A) : Type 0 where
  pub spelled : Spelled r better a
  pub lean : Leaner better items

-- what a rule spells with so many brackets inside one another is improved
abbrev pub Improves : {A : Type 0} → ℕ → Rule A → (A → List Item) → Type 0
Improves {A = A} depth r better = (items : List Item) (a : A) → Spells (Inner depth) r items a → Improved r (better a) items a

pub improved_as : {A : Type 0} (r : Rule A) (first better items all : List Item) (a b : A) → first ≡ better → items ≡ all → a ≡ b → Improved r first items a → Improved r better all b
improved_as r first better items all a b e f h i = record {
  spelled = spelled_as e h i.spelled;
  lean = subst (λ xs. Leaner better xs) f (subst (λ ys. Leaner ys items) e i.lean);
}

-- ---- one token

pub word_improves : (d : ℕ) (role : Role) (w : Word) → Improves d (word role w) (λ _. (role, g.word w) ∷ [])
word_improves d role w items a s = by s.0 s.1 s.2
  where
    by : (t : Terminal) → items ≡ (role, t) ∷ [] → accepted {A = Unit {0}} (the_word w tt) t ≡ Some a → Improved (word role w) ((role, g.word w) ∷ []) items a
    by (g.word v) is h =
        let same : w ≡ v = same_words w v (some_if _ tt a h) in
        record { spelled = word_spelled role w; lean = rw (is, ← same) (token role (g.word w) refl refl) }
    by _ is h = cc

pub mark_improves : (d : ℕ) (role : Role) (m : Mark) → opens (g.mark m) ≡ false → closes (g.mark m) ≡ false → Improves d (mark role m) (λ _. (role, g.mark m) ∷ [])
mark_improves d role m o c items a s = by s.0 s.1 s.2
  where
    by : (t : Terminal) → items ≡ (role, t) ∷ [] → accepted {A = Unit {0}} (the_mark m tt) t ≡ Some a → Improved (mark role m) ((role, g.mark m) ∷ []) items a
    by (g.mark n) is h =
        let same : m ≡ n = same_marks m n (some_if _ tt a h) in
        record { spelled = mark_spelled role m; lean = rw (is, ← same) (token role (g.mark m) o c) }
    by _ is h = cc

pub name_improves : (d : ℕ) → Improves d name name_items
name_improves d items a s = by s.0 s.1 s.2
  where
    by : (t : Terminal) → items ≡ (outside, t) ∷ [] → accepted (a_name as_name) t ≡ Some a → Improved name (name_items a) items a
    by (g.name n) is h =
        let same : as_name n ≡ a = cc in
        improved_as name _ _ _ items (as_name n) a (ap name_items same) (sym is) same (record { spelled = one_spelled outside (a_name as_name) (g.name n) (as_name n) refl; lean = token outside (g.name n) refl refl })
    by _ is h = cc

pub count_improves : (d : ℕ) → Improves d count count_items
count_improves d items a s = by s.0 s.1 s.2
  where
    by : (t : Terminal) → items ≡ (outside, t) ∷ [] → accepted (a_number natural) t ≡ Some a → Improved count (count_items a) items a
    by (g.number (pos n)) is h =
        let same : n ≡ a = cc in
        improved_as count _ _ _ items n a (ap count_items same) (sym is) same (record { spelled = one_spelled outside (a_number natural) (g.number (pos n)) n refl; lean = token outside (g.number (pos n)) refl refl })
    by _ is h = cc

-- ---- parts

pub both_improves : {A B C : Type 0} (d : ℕ) (f : B → C → A) (r : Rule B) (q : Rule C) (first : B → List Item) (second : C → List Item) (better : A → List Item)
    → ((b : B) (c : C) → first b ++ second c ≡ better (f b c)) → Improves d r first → Improves d q second → Improves d (both f r q) better
both_improves d f r q first second better is p k items a s =
    let xs = s.0 in
    let ys = s.1 in
    let b = s.2 in
    let c = s.3 in
    let i = p xs b s.5 in
    let j = k ys c s.6 in
    improved_as (both f r q) (first b ++ second c) (better a) (xs ++ ys) items (f b c) a (is b c ∙ ap better s.7) (sym s.4) s.7
    (record { spelled = both_spelled f r q (first b) (second c) b c i.spelled j.spelled; lean = behind (first b) xs (second c) ys i.lean j.lean })

pub many_improves : {B : Type 0} (d : ℕ) (r : Rule B) (each : B → List Item) (better : List B → List Item)
    → better [] ≡ [] → ((b : B) (bs : List B) → each b ++ better bs ≡ better (b ∷ bs)) → Improves d r each → Improves d (many as_it_is r) better
many_improves {B = B} d r each better none more p items a s =
    let i = all items s.0 s.1 in
    improved_as (many as_it_is r) _ _ _ items s.0 a (ap better s.2) refl s.2 i
  where
    all : (items : List Item) (bs : List B) → SpellsMany (Spells (Inner d) r) items bs → Improved (many as_it_is r) (better bs) items bs
    all items [] m = improved_as (many as_it_is r) [] (better []) [] items [] [] (sym none) (sym m) refl (record { spelled = none_spelled r; lean = nothing })
    all items (b ∷ bs) m =
        let i = p m.0 b m.3 in
        let j = all m.1 bs m.4 in
        improved_as (many as_it_is r) (each b ++ better bs) (better (b ∷ bs)) (m.0 ++ m.1) items (b ∷ bs) (b ∷ bs) (more b bs) (sym m.2) refl
        (record { spelled = more_spelled r (each b) (better bs) b bs i.spelled j.spelled; lean = behind (each b) m.0 (better bs) m.1 i.lean j.lean })

pub maybe_improves : {A B : Type 0} (d : ℕ) (f : Option B → A) (r : Rule B) (some : B → List Item) (better : A → List Item)
    → better (f None) ≡ [] → ((b : B) → some b ≡ better (f (Some b))) → Improves d r some → Improves d (maybe f r) better
maybe_improves {A = A} {B = B} d f r some better none is p items a s = by s.0 s.1 s.2
  where
    by : (o : Option B) → SpellsMaybe (Spells (Inner d) r) items o → f o ≡ a → Improved (maybe f r) (better a) items a
    by None m e = improved_as (maybe f r) [] (better a) [] items (f None) a (sym none ∙ ap better e) (sym m) e (record { spelled = nothing_spelled f r; lean = nothing })
    by (Some b) m e =
        let i = p items b m in
        improved_as (maybe f r) (some b) (better a) items items (f (Some b)) a (is b ∙ ap better e) refl e (record { spelled = some_spelled f r (some b) b i.spelled; lean = i.lean })

pub either_improves : {A : Type 0} (d : ℕ) (r q : Rule A) (better : A → List Item) → Improves d r better → Improves d q better → Improves d (either r q) better
either_improves d r q better p k items a (inl s) = let i = p items a s in record { spelled = left_spelled r q (better a) a i.spelled; lean = i.lean }
either_improves d r q better p k items a (inr s) = let i = k items a s in record { spelled = right_spelled r q (better a) a i.spelled; lean = i.lean }

pub within_improves : {A B : Type 0} (d : ℕ) (role : Role) (left right : Mark) (f : B → A) (inside : Inside B) (inner : B → List Item) (better : A → List Item)
    → opens (g.mark left) ≡ true → closes (g.mark right) ≡ true → ((b : B) → bracketed role left right (inner b) ≡ better (f b))
    → ((items : List Item) (b : B) → Inner d B inside items b → Improved (content inside) (inner b) items b) → Improves d (within role left right f inside) better
within_improves d role left right f inside inner better o c is deeper items a s =
    let b = s.1 in
    let i = deeper s.0 b s.3 in
    improved_as (within role left right f inside) (bracketed role left right (inner b)) (better a) (bracketed role left right s.0) items (f b) a (is b ∙ ap better s.4) (sym s.2) s.4
    (record { spelled = within_spelled role left right f inside (inner b) b i.spelled; lean = bracket role left right o c (inner b) s.0 i.lean })
