-- Reading by a rule as a function: the token that comes next decides what is read.
use Rattle.std.specs.Prelude.{ℕ, zero, suc, List, [], ◌∷◌, length, Option, Some, None, is_some, Bool, true, false, ◌&&◌, ◌||◌, if◌then◌else◌}
use Rattle.bs_tree.specs.declared.symbols.Word.{Word}
use Rattle.bs_tree.specs.declared.symbols.Mark.{Mark}
use Rattle.bs_tree.specs.Numbered.{same_word, same_mark}
use Rattle.bs_tree.specs.Rule as g
use Rattle.bs_tree.specs.Rule.{Terminal, Role, Choice, a_name, a_number, the_word, the_mark, an_operator, accepted, Inside, Rule, one, both, many, maybe, either, within, closing}
use Rattle.bs_tree.specs.Grammar.{content}
use Rattle.bs_tree.specs.Limits.{Counts, after, Reason, unexpected, too_deep, refused}

-- a token without its name or number
pub data Kind : Type 0 where
  some_name : Kind
  some_number : Kind
  word : Word → Kind
  mark : Mark → Kind

abbrev pub kind : Terminal → Kind
kind (g.name n) = some_name
kind (g.number z) = some_number
kind (g.word w) = word w
kind (g.mark m) = mark m

abbrev pub chosen : {A : Type 0} → Choice A → Kind → Bool
chosen (a_name f) some_name = true
chosen (a_number f) some_number = true
chosen (the_word w a) (word v) = same_word w v
chosen (the_mark m a) (mark n) = same_mark m n
chosen (an_operator f) (mark n) = is_some (f n)
chosen _ _ = false

-- whether the rule may spell no token at all
abbrev pub empty : {A : Type 0} → Rule A → Bool
empty (one role choice) = false
empty (both f r s) = empty r && empty s
empty (many f r) = true
empty (maybe f r) = true
empty (either r s) = empty r || empty s
empty (within role left right f inside) = false

-- the one, or if told so either of the two
abbrev pub or_if : Bool → Bool → Bool → Bool
or_if true a b = a || b
or_if false a b = a

-- the tokens that the rule may begin with
abbrev pub begins : {A : Type 0} → Rule A → Kind → Bool
begins (one role choice) k = chosen choice k
begins (both f r s) k = or_if (empty r) (begins r k) (begins s k)
begins (many f r) k = begins r k
begins (maybe f r) k = begins r k
begins (either r s) k = begins r k || begins s k
begins (within role left right f inside) k = chosen {A = Unit {0}} (the_mark left tt) k

-- the tokens with which it may go on after what it could have stopped at
abbrev pub goes_on : {A : Type 0} → Rule A → Kind → Bool
goes_on (one role choice) k = false
goes_on (both f r s) k = or_if (empty s) (goes_on s k) (goes_on r k)
goes_on (many f r) k = begins r k || goes_on r k
goes_on (maybe f r) k = begins r k || goes_on r k
goes_on (either r s) k = goes_on r k || goes_on s k
goes_on (within role left right f inside) k = false

abbrev pub starts : (Kind → Bool) → List Terminal → Bool
starts test [] = false
starts test (t ∷ ts) = test (kind t)

-- what was read with the tokens that are left, or a reason with the tokens from the refused one on
pub data Outcome (A : Type 0) : Type 0 where
  got : A → Counts → List Terminal → Outcome A
  bad : Reason → List Terminal → Outcome A

abbrev pub Parser : Type 0 → Type 0
Parser A = Counts → List Terminal → Outcome A

abbrev pub and_then : {A B : Type 0} → Outcome A → (A → Parser B) → Outcome B
and_then (got a counts ts) next = next a counts ts
and_then (bad reason ts) next = bad reason ts

abbrev pub allowed : {A : Type 0} → A → Counts → Terminal → List Terminal → Option Reason → Outcome A
allowed a counts t ts None = got a counts ts
allowed a counts t ts (Some reason) = bad reason (t ∷ ts)

abbrev pub taken : {A : Type 0} → Counts → Role → Counts → Terminal → List Terminal → Option A → Outcome A
taken most role counts t ts None = bad unexpected (t ∷ ts)
taken most role counts t ts (Some a) = allowed a (after counts (role, t)) t ts (refused most counts (role, t))

abbrev pub read_one : {A : Type 0} → Counts → Role → Choice A → Parser A
read_one most role choice counts [] = bad unexpected []
read_one most role choice counts (t ∷ ts) = taken most role counts t ts (accepted choice t)

-- whatever token comes next
abbrev pub take_any : Counts → Role → Parser (Unit {0})
take_any most role counts [] = bad unexpected []
take_any most role counts (t ∷ ts) = allowed tt (after counts (role, t)) t ts (refused most counts (role, t))

-- as long as the next token may begin another one; the number bounds the turns
abbrev pub turns : {B : Type 0} → Parser B → (Kind → Bool) → ℕ → Parser (List B)
turns part test zero counts ts = got [] counts ts
turns part test (suc n) counts ts =
    (if starts test ts
    then and_then (part counts ts) (λ b counts ts. and_then (turns part test n counts ts) (λ bs counts ts. got (b ∷ bs) counts ts))
    else got [] counts ts)

-- what stands inside a bracket, of which all tokens from the bracket on are `whole`
abbrev pub descend : {B : Type 0} → List Terminal → Option (Parser B) → Parser B
descend whole None counts ts = bad too_deep whole
descend whole (Some part) counts ts = part counts ts

abbrev pub read_within : {A B : Type 0} → Counts → Role → Mark → Mark → (B → A) → Option (Parser B) → Parser A
read_within most role left right f part counts whole =
    and_then (read_one {A = Unit {0}} most role (the_mark left tt) counts whole)
    (λ _ counts ts. and_then (descend whole part counts ts)
    (λ b counts ts. and_then (read_one {A = Unit {0}} most (closing role) (the_mark right tt) counts ts)
    (λ _ counts ts. got (f b) counts ts)))

module _ (most : Counts) (deeper : (B : Type 0) → Inside B → Option (Parser B)) where
  abbrev pub read : {A : Type 0} → Rule A → Parser A
  read (one role choice) counts ts = read_one most role choice counts ts
  read (both f r s) counts ts =
      and_then (read r counts ts) (λ b counts ts. and_then (read s counts ts) (λ c counts ts. got (f b c) counts ts))
  read (many f r) counts ts =
      and_then (turns (read r) (begins r) (length ts) counts ts) (λ bs counts ts. got (f bs) counts ts)
  read (maybe f r) counts ts =
      (if starts (begins r) ts then and_then (read r counts ts) (λ b counts ts. got (f (Some b)) counts ts) else got (f None) counts ts)
  read (either r s) counts ts = (if starts (begins r) ts then read r counts ts else read s counts ts)
  read (within {B = B} role left right f inside) counts ts = read_within most role left right f (deeper B inside) counts ts

-- reading of what stands inside brackets, where so many more may be opened
abbrev pub reading : Counts → ℕ → (B : Type 0) → Inside B → Option (Parser B)
reading most zero B inside = None
reading most (suc depth) B inside = Some (read most (reading most depth) (content inside))
