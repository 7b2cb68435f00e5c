-- A measure of items that adds up along them is a measure of what they spell, where it is so for each form of a rule.
use Rattle.std.proofs.Common.{◌≡◌, List, [], ◌∷◌, ◌++◌, map, Option, Some, None, sym, ap, ap₂, ◌∙◌, inl, inr}
use Rattle.bs_tree.specs.Rule.{Role, Terminal, Item, Choice, accepted, Inside, Rule, one, both, many, maybe, either, Spells, SpellsMany, SpellsMaybe}

module _ {M : Type 0} (unit : M) (join : M → M → M) (measure : List Item → M) (none : measure [] ≡ unit) (append : (xs ys : List Item) → measure (xs ++ ys) ≡ join (measure xs) (measure ys)) (D : (B : Type 0) → Inside B → List Item → B → Type 0) where
  -- the measure of what the rule spells tells that of its items
  abbrev pub Tells : {A : Type 0} → Rule A → (A → M) → Type 0
  Tells {A = A} r m = (items : List Item) (a : A) → Spells D r items a → measure items ≡ m a

  pub one_tells : {A : Type 0} (role : Role) (choice : Choice A) (m : A → M) → ((t : Terminal) (a : A) → accepted choice t ≡ Some a → measure ((role, t) ∷ []) ≡ m a) → Tells (one role choice) m
  one_tells role choice m is items a s = ap measure s.1 ∙ is s.0 a s.2

  pub both_tell : {A B C : Type 0} (f : B → C → A) (r : Rule B) (q : Rule C) (m : A → M) (m₁ : B → M) (m₂ : C → M) → ((b : B) (c : C) → m (f b c) ≡ join (m₁ b) (m₂ c)) → Tells r m₁ → Tells q m₂ → Tells (both f r q) m
  both_tell f r q m m₁ m₂ is p p' items a s = ap measure s.4 ∙ append s.0 s.1 ∙ ap₂ join (p s.0 s.2 s.5) (p' s.1 s.3 s.6) ∙ sym (is s.2 s.3) ∙ ap m s.7

  many_by : {B : Type 0} (r : Rule B) (m : B → M) (all : List M → M) → all [] ≡ unit → ((x : M) (xs : List M) → all (x ∷ xs) ≡ join x (all xs)) → Tells r m → (items : List Item) (bs : List B) → SpellsMany (Spells D r) items bs → measure items ≡ all (map m bs)
  many_by r m all nothing next p items [] s = ap measure s ∙ none ∙ sym nothing
  many_by r m all nothing next p items (b ∷ bs) s = ap measure s.2 ∙ append s.0 s.1 ∙ ap₂ join (p s.0 b s.3) (many_by r m all nothing next p s.1 bs s.4) ∙ sym (next (m b) (map m bs))

  pub many_tell : {A B : Type 0} (f : List B → A) (r : Rule B) (m : A → M) (m₁ : B → M) (all : List M → M) → all [] ≡ unit → ((x : M) (xs : List M) → all (x ∷ xs) ≡ join x (all xs)) → ((bs : List B) → m (f bs) ≡ all (map m₁ bs)) → Tells r m₁ → Tells (many f r) m
  many_tell f r m m₁ all nothing next is p items a s = many_by r m₁ all nothing next p items s.0 s.1 ∙ sym (is s.0) ∙ ap m s.2

  maybe_by : {B : Type 0} (r : Rule B) (m : Option B → M) → m None ≡ unit → Tells r (λ b. m (Some b)) → (items : List Item) (o : Option B) → SpellsMaybe (Spells D r) items o → measure items ≡ m o
  maybe_by r m nothing p items None s = ap measure s ∙ none ∙ sym nothing
  maybe_by r m nothing p items (Some b) s = p items b s

  pub maybe_tells : {A B : Type 0} (f : Option B → A) (r : Rule B) (m : A → M) → m (f None) ≡ unit → Tells r (λ b. m (f (Some b))) → Tells (maybe f r) m
  maybe_tells f r m nothing p items a s = maybe_by r (λ o. m (f o)) nothing p items s.0 s.1 ∙ ap m s.2

  pub either_tells : {A : Type 0} (r q : Rule A) (m : A → M) → Tells r m → Tells q m → Tells (either r q) m
  either_tells r q m p p' items a (inl s) = p items a s
  either_tells r q m p p' items a (inr s) = p' items a s
