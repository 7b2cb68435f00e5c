-- What the laws of reading share: tests, counts along items, and what comes of steps in turn.
use Rattle.std.proofs.Common.{get_or, if◌then◌else◌, ◌≡◌, ℕ, zero, suc, List, [], ◌∷◌, ◌++◌, Option, Some, None, is_some, Bool, true, false, ◌&&◌, ◌||◌, not, refl, sym, ap, subst, ◌∙◌, append_assoc, ◌⊎◌, inl, inr}
use Rattle.std.proofs.lemmas.List.{map-append}
use Rattle.std.proofs.lemmas.Bool.{eqb-true, eq-eqb}
use Rattle.bs_tree.specs.declared.symbols.Mark.{Mark}
use Rattle.bs_tree.specs.declared.symbols.Mark.TheVariants as m
use Rattle.bs_tree.specs.declared.symbols.Word.{Word}
use Rattle.bs_tree.specs.declared.symbols.Word.TheVariants as w
use Rattle.bs_tree.specs.Numbered.{same_mark, mark_number, same_word, word_number}
use Rattle.bs_tree.specs.Rule as g
use Rattle.bs_tree.specs.Rule.{Terminal, Role, Item, terminals, Choice, a_name, a_number, the_word, the_mark, an_operator, accepted}
use Rattle.bs_tree.specs.Limits.{Counts, after, after_all, Reason, refused, Within}
use Rattle.bs_parse.specs.Reading.{or_if, Kind, some_name, some_number, word, mark, kind, chosen, Outcome, got, bad, Parser, and_then, allowed, taken, read_one}

-- ---- tests

pub data Test (b : Bool) : Type 0 where
  holds : b ≡ true → Test b
  fails : b ≡ false → Test b

pub test : (b : Bool) → Test b
test true = holds refl
test false = fails refl

pub not_both : {b : Bool} → b ≡ true → b ≡ false → ⊥
not_both p q = cc

pub both_left : (a b : Bool) → a && b ≡ true → a ≡ true
both_left true b h = refl
both_left false b h = cc

pub both_right : (a b : Bool) → a && b ≡ true → b ≡ true
both_right true b h = h
both_right false b h = cc

pub either_left : (a b : Bool) → a ≡ true → a || b ≡ true
either_left true b h = refl
either_left false b h = cc

pub either_right : (a b : Bool) → b ≡ true → a || b ≡ true
either_right true b h = refl
either_right false b h = h

pub neither_left : (a b : Bool) → a || b ≡ false → a ≡ false
neither_left true b h = cc
neither_left false b h = refl

pub neither_right : (a b : Bool) → a || b ≡ false → b ≡ false
neither_right true b h = cc
neither_right false b h = h

pub or_if_left : (b x y : Bool) → x ≡ true → or_if b x y ≡ true
or_if_left true x y h = either_left x y h
or_if_left false x y h = h

pub or_if_right : (b x y : Bool) → b ≡ true → y ≡ true → or_if b x y ≡ true
or_if_right true x y e h = either_right x y h
or_if_right false x y e h = cc

pub nor_if_left : (b x y : Bool) → or_if b x y ≡ false → x ≡ false
nor_if_left true x y h = neither_left x y h
nor_if_left false x y h = h

pub nor_if_right : (b x y : Bool) → b ≡ true → or_if b x y ≡ false → y ≡ false
nor_if_right true x y e h = neither_right x y h
nor_if_right false x y e h = cc

pub one_of : (a b : Bool) → a || b ≡ true → (a ≡ true) ⊎ (b ≡ true)
one_of true b h = inl refl
one_of false b h = inr h

pub not_true : (b : Bool) → not b ≡ true → b ≡ false
not_true true h = cc
not_true false h = refl

-- ---- items

pub append_none : {A : Type 0} (xs : List A) → xs ++ [] ≡ xs
append_none [] = refl
append_none (x ∷ xs) = ap (λ ys. x ∷ ys) (append_none xs)

pub terminals_append : (xs ys : List Item) → terminals (xs ++ ys) ≡ terminals xs ++ terminals ys
terminals_append xs ys = map-append _ xs ys

pub terminals_then : (xs ys : List Item) (rest : List Terminal) → terminals (xs ++ ys) ++ rest ≡ terminals xs ++ (terminals ys ++ rest)
terminals_then xs ys rest = ap (λ ts. ts ++ rest) (terminals_append xs ys) ∙ append_assoc (terminals xs) (terminals ys) rest

pub after_append : (counts : Counts) (xs ys : List Item) → after_all counts (xs ++ ys) ≡ after_all (after_all counts xs) ys
after_append counts [] ys = refl
after_append counts (x ∷ xs) ys = after_append (after counts x) xs ys

pub within_join : (most counts : Counts) (xs ys : List Item) → Within most counts xs → Within most (after_all counts xs) ys → Within most counts (xs ++ ys)
within_join most counts [] ys p q = q
within_join most counts (x ∷ xs) ys p q = (p.0, within_join most (after counts x) xs ys p.1 q)

pub within_left : (most counts : Counts) (xs ys : List Item) → Within most counts (xs ++ ys) → Within most counts xs
within_left most counts [] ys p = tt
within_left most counts (x ∷ xs) ys p = (p.0, within_left most (after counts x) xs ys p.1)

pub within_right : (most counts : Counts) (xs ys : List Item) → Within most counts (xs ++ ys) → Within most (after_all counts xs) ys
within_right most counts [] ys p = p
within_right most counts (x ∷ xs) ys p = within_right most (after counts x) xs ys p.1

-- ---- marks

abbrev pub all_words : List Word
all_words = w.Chares ∷ w.Var ∷ w.Entry ∷ w.Body ∷ w.Serial ∷ w.When ∷ w.Overlap ∷ w.For ∷ w.While ∷ w.If ∷ w.Else ∷ w.Send ∷ w.To ∷ w.Bytes ∷ w.Work ∷ w.Emit ∷ w.Repeat ∷ w.This ∷ []

abbrev pub all_marks : List Mark
all_marks = m.BraceLeft ∷ m.BraceRight ∷ m.ParenLeft ∷ m.ParenRight ∷ m.BracketLeft ∷ m.BracketRight ∷ m.Semicolon ∷ m.Comma ∷ m.Assign ∷ m.Equal ∷ m.NotEqual ∷ m.Less ∷ m.LessEqual ∷ m.Greater ∷ m.GreaterEqual ∷ m.Plus ∷ m.Minus ∷ m.Star ∷ m.Slash ∷ m.Percent ∷ m.Not ∷ m.And ∷ m.Or ∷ []

abbrev mark_at : ℕ → Mark
mark_at n = get_or all_marks n m.BraceLeft

mark_at_number : (m : Mark) → mark_at (mark_number m) ≡ m
mark_at_number m.BraceLeft = refl
mark_at_number m.BraceRight = refl
mark_at_number m.ParenLeft = refl
mark_at_number m.ParenRight = refl
mark_at_number m.BracketLeft = refl
mark_at_number m.BracketRight = refl
mark_at_number m.Semicolon = refl
mark_at_number m.Comma = refl
mark_at_number m.Assign = refl
mark_at_number m.Equal = refl
mark_at_number m.NotEqual = refl
mark_at_number m.Less = refl
mark_at_number m.LessEqual = refl
mark_at_number m.Greater = refl
mark_at_number m.GreaterEqual = refl
mark_at_number m.Plus = refl
mark_at_number m.Minus = refl
mark_at_number m.Star = refl
mark_at_number m.Slash = refl
mark_at_number m.Percent = refl
mark_at_number m.Not = refl
mark_at_number m.And = refl
mark_at_number m.Or = refl

abbrev word_at : ℕ → Word
word_at n = get_or all_words n w.Chares

word_at_number : (v : Word) → word_at (word_number v) ≡ v
word_at_number w.Chares = refl
word_at_number w.Var = refl
word_at_number w.Entry = refl
word_at_number w.Body = refl
word_at_number w.Serial = refl
word_at_number w.When = refl
word_at_number w.Overlap = refl
word_at_number w.For = refl
word_at_number w.While = refl
word_at_number w.If = refl
word_at_number w.Else = refl
word_at_number w.Send = refl
word_at_number w.To = refl
word_at_number w.Bytes = refl
word_at_number w.Work = refl
word_at_number w.Emit = refl
word_at_number w.Repeat = refl
word_at_number w.This = refl

pub same_marks : (a b : Mark) → same_mark a b ≡ true → a ≡ b
same_marks a b h = sym (mark_at_number a) ∙ ap mark_at (eqb-true _ _ h) ∙ mark_at_number b

pub same_words : (a b : Word) → same_word a b ≡ true → a ≡ b
same_words a b h = sym (word_at_number a) ∙ ap word_at (eqb-true _ _ h) ∙ word_at_number b

pub mark_itself : (a : Mark) → same_mark a a ≡ true
mark_itself a = eq-eqb _ _ refl

pub word_itself : (a : Word) → same_word a a ≡ true
word_itself a = eq-eqb _ _ refl

-- a test that holds of each kind of token
abbrev pub all_of : {A : Type 0} → (A → Bool) → List A → Bool
all_of f [] = true
all_of f (x ∷ xs) = f x && all_of f xs

abbrev pub every_mark : (Mark → Bool) → Bool
every_mark f = all_of f all_marks

abbrev pub every : (Kind → Bool) → Bool
every f = f some_name && (f some_number && (all_of (λ v. f (word v)) all_words && every_mark (λ n. f (mark n))))

all_at : {A : Type 0} (f : A → Bool) (x : A) (xs : List A) (n : ℕ) → all_of f xs ≡ true → f x ≡ true → f (get_or xs n x) ≡ true
all_at f x [] n h p = p
all_at f x (y ∷ ys) zero h p = both_left (f y) (all_of f ys) h
all_at f x (y ∷ ys) (suc n) h p = all_at f x ys n (both_right (f y) (all_of f ys) h) p

pub each_mark : (f : Mark → Bool) → every_mark f ≡ true → (n : Mark) → f n ≡ true
each_mark f h n = subst (λ x. f x ≡ true) (mark_at_number n) (all_at f m.BraceLeft all_marks (mark_number n) h (both_left (f m.BraceLeft) _ h))

each_word : (f : Word → Bool) → all_of f all_words ≡ true → (v : Word) → f v ≡ true
each_word f h v = subst (λ x. f x ≡ true) (word_at_number v) (all_at f w.Chares all_words (word_number v) h (both_left (f w.Chares) _ h))

pub each : (f : Kind → Bool) → every f ≡ true → (k : Kind) → f k ≡ true
each f h some_name = both_left (f some_name) _ h
each f h some_number = both_left (f some_number) _ (both_right (f some_name) _ h)
each f h (word v) = each_word (λ v. f (word v)) (both_left (all_of (λ v. f (word v)) all_words) _ (both_right (f some_number) _ (both_right (f some_name) _ h))) v
each f h (mark n) = each_mark (λ n. f (mark n)) (both_right (all_of (λ v. f (word v)) all_words) _ (both_right (f some_number) _ (both_right (f some_name) _ h))) n

abbrev pub apart : (Kind → Bool) → (Kind → Bool) → Bool
apart f g = every (λ k. not (f k && g k))

neither_both : (a b : Bool) → not (a && b) ≡ true → b ≡ true → a ≡ false
neither_both true true h p = cc
neither_both true false h p = cc
neither_both false b h p = refl

pub apart_tells : (f g : Kind → Bool) → apart f g ≡ true → (k : Kind) → g k ≡ true → f k ≡ false
apart_tells f g h k p = neither_both (f k) (g k) (each (λ k. not (f k && g k)) h k) p

-- ---- steps in turn

pub data Went {A B : Type 0} (first : Outcome A) (next : A → Parser B) (b : B) (counts : Counts) (ts : List Terminal) : Type 0 where
  went : (a : A) (mid : Counts) (us : List Terminal) → first ≡ got a mid us → next a mid us ≡ got b counts ts → Went first next b counts ts

pub both_went : {A B : Type 0} (first : Outcome A) (next : A → Parser B) (b : B) (counts : Counts) (ts : List Terminal) → and_then first next ≡ got b counts ts → Went first next b counts ts
both_went (got a mid us) next b counts ts h = went a mid us refl h
both_went (bad reason us) next b counts ts h = cc

pub data Stood {A B : Type 0} (first : Outcome A) (next : A → Parser B) (reason : Reason) (ts : List Terminal) : Type 0 where
  at_first : first ≡ bad reason ts → Stood first next reason ts
  at_next : (a : A) (mid : Counts) (us : List Terminal) → first ≡ got a mid us → next a mid us ≡ bad reason ts → Stood first next reason ts

pub one_stood : {A B : Type 0} (first : Outcome A) (next : A → Parser B) (reason : Reason) (ts : List Terminal) → and_then first next ≡ bad reason ts → Stood first next reason ts
one_stood (got a mid us) next reason ts h = at_next a mid us refl h
one_stood (bad r us) next reason ts h = at_first (cc)

-- a step whose result is only shaped
pub record Shaped {A B : Type 0} (first : Outcome A) (f : A → B) (b : B) (counts : Counts) (ts : List Terminal) : Type 0 where
  pub value : A
  pub is : first ≡ got value counts ts
  pub shape : f value ≡ b

pub got_value : {A : Type 0} {a b : A} {c d : Counts} {ts us : List Terminal} → got a c ts ≡ got b d us → a ≡ b
got_value h = cc

pub got_counts : {A : Type 0} {a b : A} {c d : Counts} {ts us : List Terminal} → got a c ts ≡ got b d us → c ≡ d
got_counts h = cc

pub got_rest : {A : Type 0} {a b : A} {c d : Counts} {ts us : List Terminal} → got a c ts ≡ got b d us → ts ≡ us
got_rest h = cc

pub bad_reason : {A : Type 0} {r s : Reason} {ts us : List Terminal} → ◌≡◌ {A = Outcome A} (bad r ts) (bad s us) → r ≡ s
bad_reason h = cc

pub bad_rest : {A : Type 0} {r s : Reason} {ts us : List Terminal} → ◌≡◌ {A = Outcome A} (bad r ts) (bad s us) → ts ≡ us
bad_rest h = cc

pub got_bad : {A : Type 0} {a : A} {c : Counts} {r : Reason} {ts us : List Terminal} → got a c ts ≡ bad r us → ⊥
got_bad h = cc

pub bad_got : {A : Type 0} {a : A} {c : Counts} {r : Reason} {ts us : List Terminal} → bad r us ≡ got a c ts → ⊥
bad_got h = cc

pub shaped : {A B : Type 0} (first : Outcome A) (f : A → B) (b : B) (counts : Counts) (ts : List Terminal) → and_then first (λ a c us. got (f a) c us) ≡ got b counts ts → Shaped first f b counts ts
shaped (got a mid us) f b counts ts h = record { value = a; is = cc; shape = got_value h }
shaped (bad reason us) f b counts ts h = cc

pub shaped_bad : {A B : Type 0} (first : Outcome A) (f : A → B) (reason : Reason) (ts : List Terminal) → and_then first (λ a c us. got (f a) c us) ≡ bad reason ts → first ≡ bad reason ts
shaped_bad (got a mid us) f reason ts h = cc
shaped_bad (bad r us) f reason ts h = cc

-- ---- one token

pub record Took {A : Type 0} (most : Counts) (role : Role) (choice : Choice A) (counts : Counts) (ts : List Terminal) (a : A) (end : Counts) (rest : List Terminal) : Type 0 where
  pub token : Terminal
  pub is : ts ≡ token ∷ rest
  pub accepts : accepted choice token ≡ Some a
  pub allows : refused most counts (role, token) ≡ None
  pub counted : end ≡ after counts (role, token)

allowed_got : {A : Type 0} (a : A) (counts : Counts) (t : Terminal) (ts : List Terminal) (o : Option Reason) (b : A) (end : Counts) (rest : List Terminal) → allowed a counts t ts o ≡ got b end rest
    → (o ≡ None) × (a ≡ b) × (counts ≡ end) × (ts ≡ rest)
allowed_got a counts t ts None b end rest h = (refl, got_value h, got_counts h, got_rest h)
allowed_got a counts t ts (Some r) b end rest h = cc

taken_got : {A : Type 0} (most : Counts) (role : Role) (counts : Counts) (t : Terminal) (ts : List Terminal) (o : Option A) (b : A) (end : Counts) (rest : List Terminal) → taken most role counts t ts o ≡ got b end rest
    → (o ≡ Some b) × (refused most counts (role, t) ≡ None) × (end ≡ after counts (role, t)) × (ts ≡ rest)
taken_got most role counts t ts None b end rest h = cc
taken_got most role counts t ts (Some a) b end rest h =
    let w = allowed_got a (after counts (role, t)) t ts (refused most counts (role, t)) b end rest h in
    (ap Some w.1, w.0, sym w.2, w.3)

pub one_got : {A : Type 0} (most : Counts) (role : Role) (choice : Choice A) (counts : Counts) (ts : List Terminal) (a : A) (end : Counts) (rest : List Terminal) → read_one most role choice counts ts ≡ got a end rest
    → Took most role choice counts ts a end rest
one_got most role choice counts [] a end rest h = cc
one_got most role choice counts (t ∷ ts) a end rest h =
    let w = taken_got most role counts t ts (accepted choice t) a end rest h in
    record { token = t; is = ap (λ us. t ∷ us) w.3; accepts = w.0; allows = w.1; counted = w.2 }

pub one_takes : {A : Type 0} (most : Counts) (role : Role) (choice : Choice A) (counts : Counts) (t : Terminal) (ts : List Terminal) (a : A) → accepted choice t ≡ Some a → refused most counts (role, t) ≡ None
    → read_one most role choice counts (t ∷ ts) ≡ got a (after counts (role, t)) ts
one_takes most role choice counts t ts a p q = ap (taken most role counts t ts) p ∙ ap (allowed a (after counts (role, t)) t ts) q

pub some_if : {A : Type 0} (b : Bool) (x a : A) → (if b then Some x else None) ≡ Some a → b ≡ true
some_if true x a h = refl
some_if false x a h = cc

pub accepted_chosen : {A : Type 0} (choice : Choice A) (t : Terminal) (a : A) → accepted choice t ≡ Some a → chosen choice (kind t) ≡ true
accepted_chosen (a_name f) (g.name n) a h = refl
accepted_chosen (a_number f) (g.number z) a h = refl
accepted_chosen (the_word w b) (g.word v) a h = some_if _ b a h
accepted_chosen (the_mark m b) (g.mark n) a h = some_if _ b a h
accepted_chosen (an_operator f) (g.mark n) a h = ap is_some h
accepted_chosen _ _ a h = cc
