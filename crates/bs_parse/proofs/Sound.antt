-- What is read is spelled, within the limits.
use Rattle.std.proofs.Common.{◌≡◌, ℕ, zero, suc, List, [], ◌∷◌, ◌++◌, length, Option, Some, None, Bool, true, false, if◌then◌else◌, refl, sym, ap, subst, ◌∙◌, inl, inr}
use Rattle.bs_tree.specs.declared.symbols.Mark.{Mark}
use Rattle.bs_tree.specs.Rule as g
use Rattle.bs_tree.specs.Rule.{Terminal, Role, Item, terminals, Choice, a_name, a_number, the_word, the_mark, an_operator, accepted, Inside, Rule, one, both, many, maybe, either, within, closing, Spells, SpellsMany, SpellsMaybe}
use Rattle.bs_tree.specs.Grammar.{content, Inner}
use Rattle.bs_tree.specs.Limits.{Counts, after, after_all, refused, Within, too_deep}
use Rattle.bs_parse.specs.Reading.{Kind, starts, begins, got, bad, Parser, and_then, turns, read_one, read_within, read, reading}
use Rattle.bs_parse.proofs.Basics.{same_marks, after_append, terminals_then, within_join, one_got, Went, went, both_went, shaped, some_if, got_value, got_counts, got_rest, bad_got}

-- what was read, and where it leaves off
pub record Came {A : Type 0} (most : Counts) (R : List Item → A → Type 0) (counts : Counts) (ts : List Terminal) (a : A) (end : Counts) (rest : List Terminal) : Type 0 where
  pub used : List Item
  pub is : ts ≡ terminals used ++ rest
  pub spells : R used a
  pub allows : Within most counts used
  pub counted : end ≡ after_all counts used

abbrev pub Sound : {A : Type 0} → Counts → Parser A → (List Item → A → Type 0) → Type 0
Sound {A = A} most P R = (counts : Counts) (ts : List Terminal) (a : A) (end : Counts) (rest : List Terminal) → P counts ts ≡ got a end rest → Came most R counts ts a end rest

sound_one : {A : Type 0} (most : Counts) (role : Role) (choice : Choice A) → Sound most (read_one most role choice) (λ items a. (t : Terminal) × (items ≡ (role, t) ∷ []) × (accepted choice t ≡ Some a))
sound_one most role choice counts ts a end rest h =
    let w = one_got most role choice counts ts a end rest h in
    record { used = (role, w.token) ∷ []; is = w.is; spells = (w.token, refl, w.accepts); allows = (w.allows, tt); counted = w.counted }

-- one after another
pub join_is : (xs ys : List Item) (ts us rest : List Terminal) → ts ≡ terminals xs ++ us → us ≡ terminals ys ++ rest → ts ≡ terminals (xs ++ ys) ++ rest
join_is xs ys ts us rest p q = p ∙ ap (λ vs. terminals xs ++ vs) q ∙ sym (terminals_then xs ys rest)

module _ {A B C : Type 0} (most : Counts) (f : B → C → A) (P : Parser B) (Q : Parser C) (R : List Item → B → Type 0) (S : List Item → C → Type 0) (sound_p : Sound most P R) (sound_q : Sound most Q S) where
  sound_both : Sound most (λ counts ts. and_then (P counts ts) (λ b counts ts. and_then (Q counts ts) (λ c counts ts. got (f b c) counts ts)))
      (λ items a. (xs : List Item) × (ys : List Item) × (b : B) × (c : C) × (items ≡ xs ++ ys) × R xs b × S ys c × (f b c ≡ a))
  sound_both counts ts a end rest h = by (both_went (P counts ts) _ a end rest h)
    where
      by : Went (P counts ts) (λ b counts ts. and_then (Q counts ts) (λ c counts ts. got (f b c) counts ts)) a end rest
          → Came most (λ items a. (xs : List Item) × (ys : List Item) × (b : B) × (c : C) × (items ≡ xs ++ ys) × R xs b × S ys c × (f b c ≡ a)) counts ts a end rest
      by (went b mid us p q) =
          let x = sound_p counts ts b mid us p in
          let z = shaped (Q mid us) (f b) a end rest q in
          let y = sound_q mid us z.value end rest z.is in
          record {
            used = x.used ++ y.used;
            is = join_is x.used y.used ts us rest x.is y.is;
            spells = (x.used, y.used, b, z.value, refl, x.spells, y.spells, z.shape);
            allows = within_join most counts x.used y.used x.allows (subst (λ c. Within most c y.used) x.counted y.allows);
            counted = y.counted ∙ ap (λ c. after_all c y.used) x.counted ∙ sym (after_append counts x.used y.used);
          }

module _ {B : Type 0} (most : Counts) (P : Parser B) (R : List Item → B → Type 0) (begin : Kind → Bool) (sound_p : Sound most P R) where
  sound_turns : (n : ℕ) → Sound most (turns P begin n) (SpellsMany R)
  sound_turns zero counts ts bs end rest h =
      record { used = []; is = got_rest h; spells = subst (λ bs. SpellsMany R [] bs) (got_value h) refl; allows = tt; counted = sym (got_counts h) }
  sound_turns (suc n) counts ts bs end rest h = by (starts begin ts) (sound_turns n) h
    where
      go_on : Went (P counts ts) (λ b counts ts. and_then (turns P begin n counts ts) (λ bs counts ts. got (b ∷ bs) counts ts)) bs end rest → Sound most (turns P begin n) (SpellsMany R)
          → Came most (SpellsMany R) counts ts bs end rest
      go_on (went b mid us p q) next =
          let x = sound_p counts ts b mid us p in
          let z = shaped (turns P begin n mid us) (λ bs. b ∷ bs) bs end rest q in
          let y = next mid us z.value end rest z.is in
          record {
            used = x.used ++ y.used;
            is = join_is x.used y.used ts us rest x.is y.is;
            spells = subst (λ bs. SpellsMany R (x.used ++ y.used) bs) z.shape (x.used, y.used, refl, x.spells, y.spells);
            allows = within_join most counts x.used y.used x.allows (subst (λ c. Within most c y.used) x.counted y.allows);
            counted = y.counted ∙ ap (λ c. after_all c y.used) x.counted ∙ sym (after_append counts x.used y.used);
          }

      by : (b : Bool) → Sound most (turns P begin n) (SpellsMany R) → (if b then and_then (P counts ts) (λ b counts ts. and_then (turns P begin n counts ts) (λ bs counts ts. got (b ∷ bs) counts ts)) else got [] counts ts) ≡ got bs end rest → Came most (SpellsMany R) counts ts bs end rest
      by true next h = go_on (both_went (P counts ts) _ bs end rest h) next
      by false next h = record { used = []; is = got_rest h; spells = subst (λ bs. SpellsMany R [] bs) (got_value h) refl; allows = tt; counted = sym (got_counts h) }

came_as : {A B : Type 0} {most counts end : Counts} {ts rest : List Terminal} {b : B} (R : List Item → B → Type 0) (S : List Item → A → Type 0) (a : A) → ((items : List Item) → R items b → S items a) → Came most R counts ts b end rest → Came most S counts ts a end rest
came_as R S a f c = record { used = c.used; is = c.is; spells = f c.used c.spells; allows = c.allows; counted = c.counted }

pub mark_token : (m : Mark) (t : Terminal) → accepted {A = Unit {0}} (the_mark m tt) t ≡ Some tt → t ≡ g.mark m
mark_token m (g.mark n) h = ap g.mark (sym (same_marks m n (some_if _ tt tt h)))
mark_token m _ h = cc

-- what is read within brackets, step by step
pub record Bracketed {A B : Type 0} (most : Counts) (role : Role) (left right : Mark) (f : B → A) (part : Option (Parser B)) (counts : Counts) (whole : List Terminal) (a : A) (end : Counts) (rest : List Terminal) : Type 0 where
  pub opened : List Terminal
  pub is : whole ≡ g.mark left ∷ opened
  pub opens_one : refused most counts (role, g.mark left) ≡ None
  pub reader : Parser B
  pub may : part ≡ Some reader
  pub value : B
  pub mid : Counts
  pub inner : reader (after counts (role, g.mark left)) opened ≡ got value mid (g.mark right ∷ rest)
  pub closes_one : refused most mid (closing role, g.mark right) ≡ None
  pub counted : end ≡ after mid (closing role, g.mark right)
  pub shape : f value ≡ a

abbrev pub shut : {A B : Type 0} → Counts → Role → Mark → (B → A) → B → Parser A
shut most role right f b counts ts = and_then (read_one {A = Unit {0}} most (closing role) (the_mark right tt) counts ts) (λ _ counts ts. got (f b) counts ts)

pub bracketed : {A B : Type 0} (most : Counts) (role : Role) (left right : Mark) (f : B → A) (part : Option (Parser B)) (counts : Counts) (whole : List Terminal) (a : A) (end : Counts) (rest : List Terminal)
    → read_within most role left right f part counts whole ≡ got a end rest → Bracketed most role left right f part counts whole a end rest
bracketed most role left right f None counts whole a end rest h = by (both_went (read_one {A = Unit {0}} most role (the_mark left tt) counts whole) _ a end rest h)
  where
    by : Went (read_one {A = Unit {0}} most role (the_mark left tt) counts whole) (λ _ counts ts. bad too_deep whole) a end rest → Bracketed most role left right f None counts whole a end rest
    by (went u mid us p q) = absurd (bad_got q)
bracketed {A = A} {B = B} most role left right f (Some reader) counts whole a end rest h = by (both_went (read_one {A = Unit {0}} most role (the_mark left tt) counts whole) _ a end rest h)
  where
    second : (us : List Terminal) → whole ≡ g.mark left ∷ us → Went (reader (after counts (role, g.mark left)) us) (shut most role right f) a end rest → refused most counts (role, g.mark left) ≡ None
        → Bracketed most role left right f (Some reader) counts whole a end rest
    second us is (went b mid vs p q) opens_one =
        let z = shaped (read_one {A = Unit {0}} most (closing role) (the_mark right tt) mid vs) (λ _. f b) a end rest q in
        let two = one_got {A = Unit {0}} most (closing role) (the_mark right tt) mid vs z.value end rest z.is in
        let token : two.token ≡ g.mark right = mark_token right two.token two.accepts in
        record {
          opened = us;
          is = is;
          opens_one = opens_one;
          reader = reader;
          may = refl;
          value = b;
          mid = mid;
          inner = p ∙ ap (λ us. got b mid us) (two.is ∙ ap (λ t. t ∷ rest) token);
          closes_one = subst (λ t. refused most mid (closing role, t) ≡ None) token two.allows;
          counted = two.counted ∙ ap (λ t. after mid (closing role, t)) token;
          shape = z.shape;
        }

    by : Went (read_one {A = Unit {0}} most role (the_mark left tt) counts whole) (λ _ counts ts. and_then (reader counts ts) (shut most role right f)) a end rest → Bracketed most role left right f (Some reader) counts whole a end rest
    by (went u first us p q) =
        let one = one_got {A = Unit {0}} most role (the_mark left tt) counts whole u first us p in
        let token : one.token ≡ g.mark left = mark_token left one.token one.accepts in
        let counted : first ≡ after counts (role, g.mark left) = one.counted ∙ ap (λ t. after counts (role, t)) token in
        second us (one.is ∙ ap (λ t. t ∷ us) token) (both_went (reader (after counts (role, g.mark left)) us) (shut most role right f) a end rest (ap (λ c. and_then (reader c us) (shut most role right f)) (sym counted) ∙ q)) (subst (λ t. refused most counts (role, t) ≡ None) token one.allows)

sound_within : {A B : Type 0} (most : Counts) (role : Role) (left right : Mark) (f : B → A) (part : Option (Parser B)) (R : List Item → B → Type 0) → ((reader : Parser B) → part ≡ Some reader → Sound most reader R)
    → Sound most (read_within most role left right f part) (λ items a. (inner : List Item) × (b : B) × (items ≡ (role, g.mark left) ∷ (inner ++ (closing role, g.mark right) ∷ [])) × R inner b × (f b ≡ a))
sound_within most role left right f part R below counts ts a end rest h =
    let w = bracketed most role left right f part counts ts a end rest h in
    let first = after counts (role, g.mark left) in
    let x = below w.reader w.may first w.opened w.value w.mid (g.mark right ∷ rest) w.inner in
    let last : List Item = (closing role, g.mark right) ∷ [] in
    record {
      used = (role, g.mark left) ∷ (x.used ++ last);
      is = w.is ∙ ap (λ us. g.mark left ∷ us) (x.is ∙ sym (terminals_then x.used last rest));
      spells = (x.used, w.value, refl, x.spells, w.shape);
      allows = (w.opens_one, within_join most first x.used last x.allows (subst (λ c. refused most c (closing role, g.mark right) ≡ None) x.counted w.closes_one, tt));
      counted = w.counted ∙ ap (λ c. after c (closing role, g.mark right)) x.counted ∙ sym (after_append first x.used last);
    }

module _ (most : Counts) where
  module _ (deeper : (B : Type 0) → Inside B → Option (Parser B)) (D : (B : Type 0) → Inside B → List Item → B → Type 0) (below : (B : Type 0) (inside : Inside B) (reader : Parser B) → deeper B inside ≡ Some reader → Sound most reader (D B inside)) where
    sound_rule : {A : Type 0} (r : Rule A) → Sound most (read most deeper r) (Spells D r)
    sound_rule (one role choice) counts ts a end rest h = sound_one most role choice counts ts a end rest h
    sound_rule (both f r q) counts ts a end rest h = sound_both most f (read most deeper r) (read most deeper q) (Spells D r) (Spells D q) (sound_rule r) (sound_rule q) counts ts a end rest h
    sound_rule (many f r) counts ts a end rest h =
        let z = shaped (turns (read most deeper r) (begins r) (length ts) counts ts) f a end rest h in
        came_as (SpellsMany (Spells D r)) (Spells D (many f r)) a (λ items m. (z.value, m, z.shape)) (sound_turns most (read most deeper r) (Spells D r) (begins r) (sound_rule r) (length ts) counts ts z.value end rest z.is)
    sound_rule (maybe {A = A} {B = B} f r) counts ts a end rest h = by (starts (begins r) ts) (sound_rule r) h
      where
        by : (b : Bool) → Sound most (read most deeper r) (Spells D r) → (if b then and_then (read most deeper r counts ts) (λ b counts ts. got (f (Some b)) counts ts) else got (f None) counts ts) ≡ got a end rest → Came most (Spells D (maybe f r)) counts ts a end rest
        by true inner h =
            let z = shaped (read most deeper r counts ts) (λ b. f (Some b)) a end rest h in
            came_as (Spells D r) (Spells D (maybe f r)) a (λ items m. (Some z.value, m, z.shape)) (inner counts ts z.value end rest z.is)
        by false inner h = record { used = []; is = got_rest h; spells = (None, refl, got_value h); allows = tt; counted = sym (got_counts h) }
    sound_rule (either r q) counts ts a end rest h = by (starts (begins r) ts) (sound_rule r) (sound_rule q) h
      where
        by : (b : Bool) → Sound most (read most deeper r) (Spells D r) → Sound most (read most deeper q) (Spells D q) → (if b then read most deeper r counts ts else read most deeper q counts ts) ≡ got a end rest → Came most (Spells D (either r q)) counts ts a end rest
        by true left right h = came_as (Spells D r) (Spells D (either r q)) a (λ items s. inl s) (left counts ts a end rest h)
        by false left right h = came_as (Spells D q) (Spells D (either r q)) a (λ items s. inr s) (right counts ts a end rest h)
    sound_rule (within {B = B} role left right f inside) counts ts a end rest h =
        sound_within most role left right f (deeper B inside) (D B inside) (λ reader is. below B inside reader is) counts ts a end rest h

  pub sound_inside : (depth : ℕ) (B : Type 0) (inside : Inside B) (reader : Parser B) → reading most depth B inside ≡ Some reader → Sound most reader (Inner depth B inside)
  sound_inside zero B inside reader is = absurd (cc)
  sound_inside (suc depth) B inside reader is =
      let same : read most (reading most depth) (content inside) ≡ reader = cc in
      subst (λ P. Sound most P (Inner (suc depth) B inside)) same (sound_rule (reading most depth) (Inner depth) (λ B inside reader is. sound_inside depth B inside reader is) (content inside))

  -- what is read by a rule is spelled by it, within the limits
  pub sound : (depth : ℕ) {A : Type 0} (r : Rule A) → Sound most (read most (reading most depth) r) (Spells (Inner depth) r)
  sound depth r = sound_rule (reading most depth) (Inner depth) (λ B inside reader is. sound_inside depth B inside reader is) r
