-- The forms of a rule of the grammar, and which lists of items each form spells.
use Rattle.std.specs.Prelude.{◌≡◌, ℕ, ℤ, List, [], ◌∷◌, ◌++◌, map, Option, Some, None, ◌⊎◌, if◌then◌else◌}
use Rattle.bs_tree.specs.declared.symbols.Word.{Word}
use Rattle.bs_tree.specs.declared.symbols.Mark.{Mark}
use Rattle.bs_tree.specs.declared.tree.Stmt.{Stmt}
use Rattle.bs_tree.specs.declared.tree.Act.{Act}
use Rattle.bs_tree.specs.declared.tree.Expr.{Expr}
use Rattle.bs_tree.specs.declared.tree.NameId.{NameId}
use Rattle.bs_tree.specs.Numbered.{same_word, same_mark}

-- a symbol of a text, where a name is given by its number among the names of the text
pub data Terminal : Type 0 where
  name : ℕ → Terminal
  number : ℤ → Terminal
  word : Word → Terminal
  mark : Mark → Terminal

-- What a token is to the limits: the first token of a statement, another one outside of
-- expressions, or a token of an expression, which is an operator of two operands or isn't.
pub data Role : Type 0 where
  opening : Role
  outside : Role
  operand : Role
  operator : Role

-- a token of a program with its role there
abbrev pub Item : Type 0
Item = Role × Terminal

abbrev pub terminals : List Item → List Terminal
terminals items = map (λ item. item.1) items

-- one token of a kind, and what it stands for in the tree
pub data Choice : Type 0 → Type 1 where
  a_name : {A : Type 0} → (ℕ → A) → Choice A
  a_number : {A : Type 0} → (ℤ → Option A) → Choice A
  the_word : {A : Type 0} → Word → A → Choice A
  the_mark : {A : Type 0} → Mark → A → Choice A
  an_operator : {A : Type 0} → (Mark → Option A) → Choice A

abbrev pub accepted : {A : Type 0} → Choice A → Terminal → Option A
accepted (a_name f) (name n) = Some (f n)
accepted (a_number f) (number z) = f z
accepted (the_word w a) (word v) = (if same_word w v then Some a else None)
accepted (the_mark m a) (mark n) = (if same_mark m n then Some a else None)
accepted (an_operator f) (mark n) = f n
accepted _ _ = None

-- what stands inside brackets
pub data Inside : Type 0 → Type 1 where
  whole_number : Inside ℕ
  statements : Inside (List Stmt)
  acts : Inside (List Act)
  expression : Inside Expr
  expressions : Inside (List Expr)
  names : Inside (List NameId)
  loop_head : Inside (NameId × Expr × Expr × NameId × Expr)

-- One token of a role; one thing after another; any number of one thing; one thing or nothing; one
-- of two things; or an opening bracket, what stands inside, and its closing bracket. Each form
-- says what it stands for by what its parts stand for.
pub data Rule : Type 0 → Type 1 where
  one : {A : Type 0} → Role → Choice A → Rule A
  both : {A B C : Type 0} → (B → C → A) → Rule B → Rule C → Rule A
  many : {A B : Type 0} → (List B → A) → Rule B → Rule A
  maybe : {A B : Type 0} → (Option B → A) → Rule B → Rule A
  either : {A : Type 0} → Rule A → Rule A → Rule A
  within : {A B : Type 0} → Role → Mark → Mark → (B → A) → Inside B → Rule A

-- the role of the token that closes what a token of this role opens
abbrev pub closing : Role → Role
closing opening = outside
closing role = role

abbrev pub SpellsMany : {B : Type 0} → (List Item → B → Type 0) → List Item → List B → Type 0
SpellsMany Part items [] = items ≡ []
SpellsMany Part items (b ∷ bs) = (xs : List Item) × (ys : List Item) × (items ≡ xs ++ ys) × Part xs b × SpellsMany Part ys bs

abbrev pub SpellsMaybe : {B : Type 0} → (List Item → B → Type 0) → List Item → Option B → Type 0
SpellsMaybe Part items None = items ≡ []
SpellsMaybe Part items (Some b) = Part items b

-- the items spell this by the rule, where it is known what spells what inside brackets
module _ (Deeper : (B : Type 0) → Inside B → List Item → B → Type 0) where
  abbrev pub Spells : {A : Type 0} → Rule A → List Item → A → Type 0
  Spells (one role choice) items a = (t : Terminal) × (items ≡ (role, t) ∷ []) × (accepted choice t ≡ Some a)
  Spells (both {B = B} {C = C} f r s) items a =
      (xs : List Item) × (ys : List Item) × (b : B) × (c : C) × (items ≡ xs ++ ys) × Spells r xs b × Spells s ys c × (f b c ≡ a)
  Spells (many {B = B} f r) items a = (bs : List B) × SpellsMany (Spells r) items bs × (f bs ≡ a)
  Spells (maybe {B = B} f r) items a = (o : Option B) × SpellsMaybe (Spells r) items o × (f o ≡ a)
  Spells (either r s) items a = Spells r items a ⊎ Spells s items a
  Spells (within {B = B} role left right f content) items a =
      (inner : List Item) × (b : B) × (items ≡ (role, mark left) ∷ (inner ++ (closing role, mark right) ∷ [])) × Deeper B content inner b × (f b ≡ a)
