-- What makes a rule readable with one token of foresight, and what the items that it spells are like.
use Rattle.std.proofs.Common.{◌≡◌, ℕ, zero, suc, pos, List, [], ◌∷◌, ◌++◌, Option, Some, None, is_some, Bool, true, false, ◌&&◌, ◌||◌, not, refl, ap, subst, ◌∙◌, inl, inr}
use Rattle.bs_tree.specs.declared.symbols.Mark.{Mark}
use Rattle.bs_tree.specs.declared.symbols.Mark.TheVariants as m
use Rattle.bs_tree.specs.Rule as g
use Rattle.bs_tree.specs.Rule.{Terminal, Role, Item, terminals, Choice, a_name, a_number, the_word, the_mark, an_operator, accepted, Inside, Rule, one, both, many, maybe, either, within, closing, Spells, SpellsMany, SpellsMaybe}
use Rattle.bs_tree.specs.Grammar.{content, Inner}
use Rattle.bs_tree.specs.Limits.{Counts, after, after_all, opens, closes}
use Rattle.bs_parse.specs.Reading.{or_if, Kind, mark, kind, empty, begins, goes_on}
use Rattle.bs_parse.proofs.Basics.{or_if_left, or_if_right, both_left, both_right, either_left, either_right, not_true, same_marks, mark_itself, all_marks, every_mark, each_mark, apart, accepted_chosen, after_append, some_if}

-- some token is accepted
abbrev pub some_mark : {A : Type 0} → (Mark → Option A) → List Mark → Bool
some_mark f [] = false
some_mark f (n ∷ ns) = is_some (f n) || some_mark f ns

abbrev pub lively : {A : Type 0} → Choice A → Bool
lively (a_number f) = is_some (f (pos 0))
lively (an_operator f) = some_mark f all_marks
lively _ = true

-- no bracket is accepted
abbrev pub no_bracket : Mark → Bool
no_bracket n = not (opens (g.mark n)) && not (closes (g.mark n))

abbrev pub plain : {A : Type 0} → Choice A → Bool
plain (the_mark n a) = no_bracket n
plain (an_operator f) = every_mark (λ n. not (is_some (f n)) || no_bracket n)
plain _ = true

abbrev pub fine : {A : Type 0} → Rule A → Bool
fine (one role choice) = lively choice && plain choice
fine (both f r s) = fine r && (fine s && apart (goes_on r) (begins s))
fine (many f r) = fine r && (not (empty r) && apart (goes_on r) (begins r))
fine (maybe f r) = fine r && not (empty r)
fine (either r s) = fine r && (fine s && (not (empty r) && (not (empty s) && apart (begins r) (begins s))))
fine (within role left right f inside) = opens (g.mark left) && (closes (g.mark right) && not (goes_on (content inside) (mark right)))

-- ---- how the items of a rule begin

pub data Heads (may_be_empty : Bool) (first : Kind → Bool) (items : List Item) : Type 0 where
  no_items : items ≡ [] → may_be_empty ≡ true → Heads may_be_empty first items
  headed : (x : Item) (xs : List Item) → items ≡ x ∷ xs → first (kind x.1) ≡ true → Heads may_be_empty first items

headed_by : {b c : Bool} {f : Kind → Bool} (h : Kind → Bool) (items : List Item) → ((k : Kind) → f k ≡ true → h k ≡ true) → (b ≡ true → c ≡ true) → Heads b f items → Heads c h items
headed_by h items more may (no_items is e) = no_items is (may e)
headed_by h items more may (headed x xs is e) = headed x xs is (more (kind x.1) e)

heads_then : (b c : Bool) (f h : Kind → Bool) (xs ys items : List Item) → items ≡ xs ++ ys → Heads b f xs → Heads c h ys → Heads (b && c) (λ k. or_if b (f k) (h k)) items
heads_then b c f h xs ys items is (headed x zs e p) q = headed x (zs ++ ys) (is ∙ ap (λ us. us ++ ys) e) (or_if_left b (f (kind x.1)) (h (kind x.1)) p)
heads_then b c f h xs ys items is (no_items e p) (no_items d q) = no_items (is ∙ ap (λ us. us ++ ys) e ∙ d) (rw (p, q) refl)
heads_then b c f h xs ys items is (no_items e p) (headed y zs d q) = headed y zs (is ∙ ap (λ us. us ++ ys) e ∙ d) (or_if_right b (f (kind y.1)) (h (kind y.1)) p q)

heads_many : {B : Type 0} (R : List Item → B → Type 0) (b : Bool) (f : Kind → Bool) → ((xs : List Item) (b' : B) → R xs b' → Heads b f xs) → (items : List Item) (bs : List B) → SpellsMany R items bs → Heads true f items
heads_many R b f head items [] m = no_items m refl
heads_many R b f head items (x ∷ bs) m = ahead m.0 m.1 m.2 (head m.0 x m.3) (heads_many R b f head m.1 bs m.4)
  where
    ahead : (xs ys : List Item) → items ≡ xs ++ ys → Heads b f xs → Heads true f ys → Heads true f items
    ahead xs ys is (headed z zs e p) q = headed z (zs ++ ys) (is ∙ ap (λ us. us ++ ys) e) p
    ahead xs ys is (no_items e p) (no_items d q) = no_items (is ∙ ap (λ us. us ++ ys) e ∙ d) refl
    ahead xs ys is (no_items e p) (headed z zs d q) = headed z zs (is ∙ ap (λ us. us ++ ys) e ∙ d) q

heads_maybe : {B : Type 0} (R : List Item → B → Type 0) (b : Bool) (f : Kind → Bool) → ((xs : List Item) (b' : B) → R xs b' → Heads b f xs) → (items : List Item) (o : Option B) → SpellsMaybe R items o → Heads true f items
heads_maybe R b f head items None m = no_items m refl
heads_maybe R b f head items (Some x) m = headed_by f items (λ k p. p) (λ e. refl) (head items x m)

module _ (D : (B : Type 0) → Inside B → List Item → B → Type 0) where
  pub heads : {A : Type 0} (r : Rule A) (items : List Item) (a : A) → Spells D r items a → Heads (empty r) (begins r) items
  heads (one role choice) items a s = headed (role, s.0) [] s.1 (accepted_chosen choice s.0 a s.2)
  heads (both f r q) items a s = heads_then (empty r) (empty q) (begins r) (begins q) s.0 s.1 items s.4 (heads r s.0 s.2 s.5) (heads q s.1 s.3 s.6)
  heads (many f r) items a s = heads_many (Spells D r) (empty r) (begins r) (λ xs b p. heads r xs b p) items s.0 s.1
  heads (maybe f r) items a s = heads_maybe (Spells D r) (empty r) (begins r) (λ xs b p. heads r xs b p) items s.0 s.1
  heads (either r q) items a (inl s) = headed_by (begins (either r q)) items (λ k p. either_left (begins r k) (begins q k) p) (λ e. either_left (empty r) (empty q) e) (heads r items a s)
  heads (either r q) items a (inr s) = headed_by (begins (either r q)) items (λ k p. either_right (begins r k) (begins q k) p) (λ e. either_right (empty r) (empty q) e) (heads q items a s)
  heads (within role left right f inside) items a s = headed (role, g.mark left) _ s.2 (mark_itself left)

-- ---- brackets come in pairs

not_some : {A : Type 0} (f : Mark → Option A) (n : Mark) (a : A) → not (is_some (f n)) || no_bracket n ≡ true → f n ≡ Some a → no_bracket n ≡ true
not_some f n a h e = rw e at h

pub plain_tells : {A : Type 0} (choice : Choice A) (t : Terminal) (a : A) → plain choice ≡ true → accepted choice t ≡ Some a → (opens t ≡ false) × (closes t ≡ false)
plain_tells (a_name f) (g.name n) a p e = (refl, refl)
plain_tells (a_number f) (g.number z) a p e = (refl, refl)
plain_tells (the_word w b) (g.word v) a p e = (refl, refl)
plain_tells (the_mark m b) (g.mark n) a p e =
    let same : m ≡ n = same_marks m n (some_if _ b a e) in
    let q : no_bracket n ≡ true = subst (λ x. no_bracket x ≡ true) same p in
    (not_true _ (both_left (not (opens (g.mark n))) _ q), not_true _ (both_right (not (opens (g.mark n))) _ q))
plain_tells (an_operator f) (g.mark n) a p e =
    let q : no_bracket n ≡ true = not_some f n a (each_mark (λ n. not (is_some (f n)) || no_bracket n) p n) e in
    (not_true _ (both_left (not (opens (g.mark n))) _ q), not_true _ (both_right (not (opens (g.mark n))) _ q))
plain_tells _ _ a p e = cc

abbrev pub Level : List Item → Type 0
Level items = (counts : Counts) → (after_all counts items).brackets ≡ counts.brackets

level_then : (xs ys items : List Item) → items ≡ xs ++ ys → Level xs → Level ys → Level items
level_then xs ys items is p q = λ c. rw (is, after_append c xs ys) (q (after_all c xs) ∙ p c)

level_many : {B : Type 0} (R : List Item → B → Type 0) → ((xs : List Item) (b : B) → R xs b → Level xs) → (items : List Item) (bs : List B) → SpellsMany R items bs → Level items
level_many R each items [] m = λ c. rw m refl
level_many R each items (b ∷ bs) m = level_then m.0 m.1 items m.2 (each m.0 b m.3) (level_many R each m.1 bs m.4)

level_maybe : {B : Type 0} (R : List Item → B → Type 0) → ((xs : List Item) (b : B) → R xs b → Level xs) → (items : List Item) (o : Option B) → SpellsMaybe R items o → Level items
level_maybe R each items None m = λ c. rw m refl
level_maybe R each items (Some b) m = each items b m

pub closes_no_more : (t : Terminal) → closes t ≡ true → opens t ≡ false
closes_no_more (g.mark m.BraceRight) h = refl
closes_no_more (g.mark m.ParenRight) h = refl
closes_no_more (g.mark m.BracketRight) h = refl
closes_no_more _ h = cc

pub level_within : (role role' : Role) (left right : Mark) (inner items : List Item) → opens (g.mark left) ≡ true → closes (g.mark right) ≡ true → items ≡ (role, g.mark left) ∷ (inner ++ (role', g.mark right) ∷ []) → Level inner → Level items
level_within role role' left right inner items o e is p = λ c. rw (is, after_append (after c (role, g.mark left)) inner ((role', g.mark right) ∷ []), closes_no_more (g.mark right) e, e, p (after c (role, g.mark left)), o) refl

module _ (D : (B : Type 0) → Inside B → List Item → B → Type 0) (below : (B : Type 0) (inside : Inside B) (items : List Item) (b : B) → D B inside items b → Level items) where
  pub level : {A : Type 0} (r : Rule A) → fine r ≡ true → (items : List Item) (a : A) → Spells D r items a → Level items
  level (one role choice) ok items a s = λ c. let p = plain_tells choice s.0 a (both_right (lively choice) (plain choice) ok) s.2 in rw (s.1, p.0, p.1) refl
  level (both f r q) ok items a s =
      let rest = both_right (fine r) _ ok in
      level_then s.0 s.1 items s.4 (level r (both_left (fine r) _ ok) s.0 s.2 s.5) (level q (both_left (fine q) _ rest) s.1 s.3 s.6)
  level (many f r) ok items a s = level_many (Spells D r) (λ xs b p. level r (both_left (fine r) _ ok) xs b p) items s.0 s.1
  level (maybe f r) ok items a s = level_maybe (Spells D r) (λ xs b p. level r (both_left (fine r) _ ok) xs b p) items s.0 s.1
  level (either r q) ok items a (inl s) = level r (both_left (fine r) _ ok) items a s
  level (either r q) ok items a (inr s) = level q (both_left (fine q) _ (both_right (fine r) _ ok)) items a s
  level (within {B = B} role left right f inside) ok items a s =
      level_within role (closing role) left right s.0 items (both_left (opens (g.mark left)) _ ok) (both_left (closes (g.mark right)) _ (both_right (opens (g.mark left)) _ ok)) s.2 (below B inside s.0 s.1 s.3)

-- the rules of what stands in brackets are fine
abbrev pub AllFine : Type 1
AllFine = (B : Type 0) (inside : Inside B) → fine (content inside) ≡ true

pub levels : AllFine → (depth : ℕ) (B : Type 0) (inside : Inside B) (items : List Item) (b : B) → Inner depth B inside items b → Level items
levels ok zero B inside items b s = absurd s
levels ok (suc depth) B inside items b s = level (Inner depth) (levels ok depth) (content inside) (ok B inside) items b s
