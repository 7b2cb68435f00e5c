-- What a rule spells within the limits is read by it.
use Rattle.std.proofs.Common.{◌≡◌, ℕ, zero, suc, ◌+◌, ◌≤◌, ◌<◌, List, [], ◌∷◌, ◌++◌, length, Option, Some, None, Bool, true, false, ◌||◌, not, if◌then◌else◌, refl, subst, arith, length-append, inl, inr, nat_le}
use Rattle.std.proofs.lemmas.Bool.{leb-false}
use Rattle.bs_tree.specs.declared.symbols.Mark.{Mark}
use Rattle.bs_tree.specs.Rule as g
use Rattle.bs_tree.specs.Rule.{Terminal, Role, Item, terminals, Choice, a_name, a_number, the_word, the_mark, an_operator, accepted, Inside, Rule, one, both, many, maybe, either, within, closing, Spells, SpellsMany, SpellsMaybe}
use Rattle.bs_tree.specs.Grammar.{content, Inner}
use Rattle.bs_tree.specs.Limits.{Counts, after, after_all, opens, closes, refused, Within}
use Rattle.bs_parse.specs.Reading.{or_if, Kind, mark, kind, starts, empty, begins, goes_on, got, Parser, and_then, turns, read_one, read_within, read, reading}
use Rattle.bs_parse.proofs.Basics.{nor_if_left, nor_if_right, both_left, both_right, neither_left, neither_right, not_true, mark_itself, apart, apart_tells, after_append, terminals_then, within_left, within_right, one_takes, Test, test, holds, fails}
use Rattle.bs_parse.proofs.Fine.{fine, Heads, no_items, headed, heads, Level, level, levels, AllFine}

-- ---- the next token

starts_left : (f h : Kind → Bool) (ts : List Terminal) → starts (λ k. f k || h k) ts ≡ false → starts f ts ≡ false
starts_left f h [] p = refl
starts_left f h (t ∷ ts) p = neither_left (f (kind t)) (h (kind t)) p

starts_right : (f h : Kind → Bool) (ts : List Terminal) → starts (λ k. f k || h k) ts ≡ false → starts h ts ≡ false
starts_right f h [] p = refl
starts_right f h (t ∷ ts) p = neither_right (f (kind t)) (h (kind t)) p

starts_if_left : (b : Bool) (f h : Kind → Bool) (ts : List Terminal) → starts (λ k. or_if b (f k) (h k)) ts ≡ false → starts f ts ≡ false
starts_if_left b f h [] p = refl
starts_if_left b f h (t ∷ ts) p = nor_if_left b (f (kind t)) (h (kind t)) p

starts_if_right : (b : Bool) (f h : Kind → Bool) (ts : List Terminal) → b ≡ true → starts (λ k. or_if b (f k) (h k)) ts ≡ false → starts h ts ≡ false
starts_if_right b f h [] e p = refl
starts_if_right b f h (t ∷ ts) e p = nor_if_right b (f (kind t)) (h (kind t)) e p

-- where the items of a rule begin with a token that `f` leaves out, or are none and `f` leaves out what follows
clear_heads : {b : Bool} {h : Kind → Bool} (f : Kind → Bool) (items : List Item) (rest : List Terminal) → apart f h ≡ true → (b ≡ true → starts f rest ≡ false) → Heads b h items → starts f (terminals items ++ rest) ≡ false
clear_heads f items rest p q (no_items is e) = rw is (q e)
clear_heads {h = h} f items rest p q (headed x xs is e) = rw is (apart_tells f h p (kind x.1) e)

-- they do begin with one
starts_heads : {b : Bool} {h : Kind → Bool} (items : List Item) (rest : List Terminal) → b ≡ false → Heads b h items → starts h (terminals items ++ rest) ≡ true
starts_heads items rest e (no_items is p) = absurd (cc)
starts_heads items rest e (headed x xs is p) = rw is p

pub some_terminals : {b : Bool} {h : Kind → Bool} (items : List Item) → b ≡ false → Heads b h items → 1 ≤ length (terminals items)
some_terminals items e (no_items is p) = absurd (cc)
some_terminals items e (headed x xs is p) = rw is (omega arith)

longer : (xs ys items : List Item) (rest : List Terminal) → items ≡ xs ++ ys → 1 ≤ length (terminals xs) → suc (length (terminals ys ++ rest)) ≤ length (terminals items ++ rest)
longer xs ys items rest is le = rw (is, terminals_then xs ys rest) (omega (arith, length-append (terminals xs) (terminals ys ++ rest)))

-- ---- parsers that read all of a relation

abbrev pub Complete : {A : Type 0} → Counts → ℕ → Parser A → (List Item → A → Type 0) → (Kind → Bool) → Type 0
Complete {A = A} most depth P R goes =
    (items : List Item) (a : A) (counts : Counts) (rest : List Terminal) → R items a → Within most counts items → most.brackets ≤ depth + counts.brackets → starts goes rest ≡ false
    → P counts (terminals items ++ rest) ≡ got a (after_all counts items) rest

complete_one : {A : Type 0} (most : Counts) (depth : ℕ) (role : Role) (choice : Choice A) → Complete most depth (read_one most role choice) (λ items a. (t : Terminal) × (items ≡ (role, t) ∷ []) × (accepted choice t ≡ Some a)) (λ k. false)
complete_one most depth role choice items a counts rest s w enough clear =
    let w' = rw s.1 at w in
    rw s.1 (one_takes most role choice counts s.0 rest a s.2 w'.0)

module _ {A B C : Type 0} (most : Counts) (depth : ℕ) (f : B → C → A) (P : Parser B) (Q : Parser C) (R : List Item → B → Type 0) (S : List Item → C → Type 0) (p q goes : Kind → Bool)
    (level : (items : List Item) (b : B) → R items b → Level items)
    (clear_p : (ys : List Item) (c : C) (rest : List Terminal) → S ys c → starts goes rest ≡ false → starts p (terminals ys ++ rest) ≡ false)
    (clear_q : (rest : List Terminal) → starts goes rest ≡ false → starts q rest ≡ false) where
  complete_both : Complete most depth P R p → Complete most depth Q S q
      → Complete most depth (λ counts ts. and_then (P counts ts) (λ b counts ts. and_then (Q counts ts) (λ c counts ts. got (f b c) counts ts)))
      (λ items a. (xs : List Item) × (ys : List Item) × (b : B) × (c : C) × (items ≡ xs ++ ys) × R xs b × S ys c × (f b c ≡ a)) goes
  complete_both good_p good_q items a counts rest s w enough clear =
      let xs = s.0 in
      let ys = s.1 in
      let w' : Within most counts (xs ++ ys) = subst (Within most counts) s.4 w in
      let mid = after_all counts xs in
      let one : P counts (terminals xs ++ (terminals ys ++ rest)) ≡ got s.2 mid (terminals ys ++ rest) = good_p xs s.2 counts (terminals ys ++ rest) s.5 (within_left most counts xs ys w') enough (clear_p ys s.3 rest s.6 clear) in
      let same : mid.brackets ≡ counts.brackets = level xs s.2 s.5 counts in
      let two : Q mid (terminals ys ++ rest) ≡ got s.3 (after_all mid ys) rest = good_q ys s.3 mid rest s.6 (within_right most counts xs ys w') (omega (arith, same)) (clear_q rest clear) in
      rw (s.4, terminals_then xs ys rest, one, two, s.7, after_append counts xs ys) refl

-- ---- any number

module _ {B : Type 0} (most : Counts) (depth : ℕ) (P : Parser B) (R : List Item → B → Type 0) (begin goes : Kind → Bool)
    (level : (items : List Item) (b : B) → R items b → Level items)
    (head : (items : List Item) (b : B) → R items b → Heads false begin items)
    (ends : apart goes begin ≡ true) where
  clear_many : (bs : List B) (items : List Item) (rest : List Terminal) → SpellsMany R items bs → starts goes rest ≡ false → starts goes (terminals items ++ rest) ≡ false
  clear_many [] items rest m clear = rw m clear
  clear_many (b ∷ bs) items rest m clear =
      rw (m.2, terminals_then m.0 m.1 rest) (clear_heads goes m.0 (terminals m.1 ++ rest) ends (λ e. cc) (head m.0 b m.3))

  turns_none : (n : ℕ) (counts : Counts) (ts : List Terminal) → starts begin ts ≡ false → turns P begin n counts ts ≡ got [] counts ts
  turns_none zero counts ts e = refl
  turns_none (suc n) counts ts e = rw e refl

  complete_turns : Complete most depth P R goes → (bs : List B) (items : List Item) (n : ℕ) (counts : Counts) (rest : List Terminal) → SpellsMany R items bs → length (terminals items ++ rest) ≤ n
      → Within most counts items → most.brackets ≤ depth + counts.brackets → starts begin rest ≡ false → starts goes rest ≡ false → turns P begin n counts (terminals items ++ rest) ≡ got bs (after_all counts items) rest
  complete_turns good [] items n counts rest m le w enough none clear = rw m (turns_none n counts rest none)
  complete_turns good (b ∷ bs) items zero counts rest m le w enough none clear =
      absurd (omega (arith, longer m.0 m.1 items rest m.2 (some_terminals m.0 refl (head m.0 b m.3)), le))
  complete_turns good (b ∷ bs) items (suc n) counts rest m le w enough none clear =
      let xs = m.0 in
      let ys = m.1 in
      let w' : Within most counts (xs ++ ys) = subst (Within most counts) m.2 w in
      let mid = after_all counts xs in
      let begun : starts begin (terminals xs ++ (terminals ys ++ rest)) ≡ true = starts_heads xs (terminals ys ++ rest) refl (head xs b m.3) in
      let one : P counts (terminals xs ++ (terminals ys ++ rest)) ≡ got b mid (terminals ys ++ rest) = good xs b counts (terminals ys ++ rest) m.3 (within_left most counts xs ys w') enough (clear_many bs ys rest m.4 clear) in
      let same : mid.brackets ≡ counts.brackets = level xs b m.3 counts in
      let two : turns P begin n mid (terminals ys ++ rest) ≡ got bs (after_all mid ys) rest = complete_turns good bs ys n mid rest m.4 (omega (arith, longer xs ys items rest m.2 (some_terminals xs refl (head xs b m.3)), le)) (within_right most counts xs ys w') (omega (arith, same)) none clear in
      rw (m.2, terminals_then xs ys rest, begun, one, two, after_append counts xs ys) refl

-- ---- brackets

-- a bracket that isn't too deep
pub not_deep : (most counts : Counts) (item : Item) → opens item.1 ≡ true → refused most counts item ≡ None → counts.brackets < most.brackets
not_deep most counts item o h = by (test (nat_le most.brackets counts.brackets))
  where
    by : Test (nat_le most.brackets counts.brackets) → counts.brackets < most.brackets
    by (fails e) = leb-false _ _ e
    by (holds e) = absurd (let h' = rw (o, e) at h in cc)

pub bracket_after : (counts : Counts) (role : Role) (left : Mark) → opens (g.mark left) ≡ true → (after counts (role, g.mark left)).brackets ≡ suc counts.brackets
bracket_after counts role left o = rw o refl

pub accepted_itself : (m : Mark) → accepted {A = Unit {0}} (the_mark m tt) (g.mark m) ≡ Some tt
accepted_itself m = rw (mark_itself m) refl

starts_mark : (goes : Kind → Bool) (m : Mark) (rest : List Terminal) → not (goes (mark m)) ≡ true → starts goes (g.mark m ∷ rest) ≡ false
starts_mark goes m rest h = not_true _ h

complete_within : {A B : Type 0} (most : Counts) (depth : ℕ) (role : Role) (left right : Mark) (f : B → A) (inside : Inside B) (R : List Item → B → Type 0) → fine (within role left right f inside) ≡ true
    → ((items : List Item) (b : B) → R items b → Level items)
    → ((e : ℕ) → depth ≡ suc e → Complete most e (read most (reading most e) (content inside)) R (goes_on (content inside)))
    → Complete most depth (read_within most role left right f (reading most depth B inside))
    (λ items a. (inner : List Item) × (b : B) × (items ≡ (role, g.mark left) ∷ (inner ++ (closing role, g.mark right) ∷ [])) × R inner b × (f b ≡ a)) (λ k. false)
complete_within most zero role left right f inside R ok level below items a counts rest s w enough clear =
    let w' = rw s.2 at w in
    absurd (omega (arith, not_deep most counts (role, g.mark left) (both_left (opens (g.mark left)) _ ok) w'.0, enough))
complete_within {B = B} most (suc e) role left right f inside R ok level below items a counts rest s w enough clear =
    let o : opens (g.mark left) ≡ true = both_left (opens (g.mark left)) _ ok in
    let ends : not (goes_on (content inside) (mark right)) ≡ true = both_right (closes (g.mark right)) _ (both_right (opens (g.mark left)) _ ok) in
    let inner = s.0 in
    let last : List Item = (closing role, g.mark right) ∷ [] in
    let w' : Within most counts ((role, g.mark left) ∷ (inner ++ last)) = subst (Within most counts) s.2 w in
    let first = after counts (role, g.mark left) in
    let mid = after_all first inner in
    let up : first.brackets ≡ suc counts.brackets = bracket_after counts role left o in
    let one : read_one {A = Unit {0}} most role (the_mark left tt) counts (g.mark left ∷ (terminals (inner ++ last) ++ rest)) ≡ got tt first (terminals (inner ++ last) ++ rest) =
    one_takes most role (the_mark left tt) counts (g.mark left) _ tt (accepted_itself left) w'.0 in
    let two : read most (reading most e) (content inside) first (terminals inner ++ (terminals last ++ rest)) ≡ got s.1 mid (terminals last ++ rest) =
    below e refl inner s.1 first (terminals last ++ rest) s.3 (within_left most first inner last w'.1) (omega (arith, up, enough)) (starts_mark (goes_on (content inside)) right rest ends) in
    let three : read_one {A = Unit {0}} most (closing role) (the_mark right tt) mid (g.mark right ∷ rest) ≡ got tt (after mid (closing role, g.mark right)) rest =
    one_takes most (closing role) (the_mark right tt) mid (g.mark right) rest tt (accepted_itself right) (within_right most first inner last w'.1).0 in
    rw (s.2, one, terminals_then inner last rest, two, three, s.4, after_append first inner last) refl

complete_maybe : {A B : Type 0} (most : Counts) (depth : ℕ) (f : Option B → A) (P : Parser B) (R : List Item → B → Type 0) (begin goes : Kind → Bool) → ((items : List Item) (b : B) → R items b → Heads false begin items) → Complete most depth P R goes
    → (o : Option B) (items : List Item) (a : A) (counts : Counts) (rest : List Terminal) → SpellsMaybe R items o → f o ≡ a → Within most counts items → most.brackets ≤ depth + counts.brackets → starts begin rest ≡ false → starts goes rest ≡ false
    → (if starts begin (terminals items ++ rest) then and_then (P counts (terminals items ++ rest)) (λ b counts ts. got (f (Some b)) counts ts) else got (f None) counts (terminals items ++ rest)) ≡ got a (after_all counts items) rest
complete_maybe most depth f P R begin goes head good None items a counts rest m is w enough none clear = rw (m, none, is) refl
complete_maybe most depth f P R begin goes head good (Some b) items a counts rest m is w enough none clear =
    let begun : starts begin (terminals items ++ rest) ≡ true = starts_heads items rest refl (head items b m) in
    let one : P counts (terminals items ++ rest) ≡ got b (after_all counts items) rest = good items b counts rest m w enough clear in
    rw (begun, one, is) refl

-- ---- every rule

module _ (most : Counts) (all_fine : AllFine) where
  module _ (depth d : ℕ) (below : (e : ℕ) → depth ≡ suc e → (B : Type 0) (inside : Inside B) → Complete most e (read most (reading most e) (content inside)) (Inner d B inside) (goes_on (content inside))) where
    leveled : {A : Type 0} (r : Rule A) → fine r ≡ true → (items : List Item) (a : A) → Spells (Inner d) r items a → Level items
    leveled r ok = level (Inner d) (levels all_fine d) r ok

    headed_always : {A : Type 0} (r : Rule A) → not (empty r) ≡ true → (items : List Item) (a : A) → Spells (Inner d) r items a → Heads false (begins r) items
    headed_always r ok items a s = subst (λ b. Heads b (begins r) items) (not_true _ ok) (heads (Inner d) r items a s)

    complete_rule : {A : Type 0} (r : Rule A) → fine r ≡ true → Complete most depth (read most (reading most depth) r) (Spells (Inner d) r) (goes_on r)
    complete_rule (one role choice) ok items a counts rest s w enough clear = complete_one most depth role choice items a counts rest s w enough clear
    complete_rule (both {B = B} {C = C} f r q) ok items a counts rest s w enough clear =
        let ok_r = both_left (fine r) _ ok in
        let ok_q = both_left (fine q) _ (both_right (fine r) _ ok) in
        let ends = both_right (fine q) _ (both_right (fine r) _ ok) in
        complete_both most depth f (read most (reading most depth) r) (read most (reading most depth) q) (Spells (Inner d) r) (Spells (Inner d) q) (goes_on r) (goes_on q) (goes_on (both f r q))
        (leveled r ok_r)
        (λ ys c rest s clear. clear_heads (goes_on r) ys rest ends (λ e. starts_if_right (empty q) (goes_on q) (goes_on r) rest e clear) (heads (Inner d) q ys c s))
        (λ rest clear. starts_if_left (empty q) (goes_on q) (goes_on r) rest clear)
        (complete_rule r ok_r) (complete_rule q ok_q) items a counts rest s w enough clear
    complete_rule (many f r) ok items a counts rest s w enough clear =
        let ok_r = both_left (fine r) _ ok in
        let more = both_right (fine r) _ ok in
        let all : turns (read most (reading most depth) r) (begins r) (length (terminals items ++ rest)) counts (terminals items ++ rest) ≡ got s.0 (after_all counts items) rest =
        complete_turns most depth (read most (reading most depth) r) (Spells (Inner d) r) (begins r) (goes_on r) (leveled r ok_r) (headed_always r (both_left (not (empty r)) _ more)) (both_right (not (empty r)) _ more)
        (complete_rule r ok_r) s.0 items (length (terminals items ++ rest)) counts rest s.1 (omega arith) w enough (starts_left (begins r) (goes_on r) rest clear) (starts_right (begins r) (goes_on r) rest clear) in
        rw (all, s.2) refl
    complete_rule (maybe f r) ok items a counts rest s w enough clear =
        let ok_r = both_left (fine r) _ ok in
        complete_maybe most depth f (read most (reading most depth) r) (Spells (Inner d) r) (begins r) (goes_on r) (headed_always r (both_right (fine r) _ ok)) (complete_rule r ok_r)
        s.0 items a counts rest s.1 s.2 w enough (starts_left (begins r) (goes_on r) rest clear) (starts_right (begins r) (goes_on r) rest clear)
    complete_rule (either r q) ok items a counts rest (inl s) w enough clear =
        let ok_r = both_left (fine r) _ ok in
        let more = both_right (fine q) _ (both_right (fine r) _ ok) in
        let begun : starts (begins r) (terminals items ++ rest) ≡ true = starts_heads items rest refl (headed_always r (both_left (not (empty r)) _ more) items a s) in
        rw begun (complete_rule r ok_r items a counts rest s w enough (starts_left (goes_on r) (goes_on q) rest clear))
    complete_rule (either r q) ok items a counts rest (inr s) w enough clear =
        let ok_q = both_left (fine q) _ (both_right (fine r) _ ok) in
        let more = both_right (not (empty r)) _ (both_right (fine q) _ (both_right (fine r) _ ok)) in
        let not_begun : starts (begins r) (terminals items ++ rest) ≡ false =
        clear_heads (begins r) items rest (both_right (not (empty q)) _ more) (λ e. cc) (headed_always q (both_left (not (empty q)) _ more) items a s) in
        rw not_begun (complete_rule q ok_q items a counts rest s w enough (starts_right (goes_on r) (goes_on q) rest clear))
    complete_rule (within {B = B} role left right f inside) ok items a counts rest s w enough clear =
        complete_within most depth role left right f inside (Inner d B inside) ok (levels all_fine d B inside) (λ e is. below e is B inside) items a counts rest s w enough clear

  pub complete_inside : (depth e d : ℕ) → depth ≡ suc e → (B : Type 0) (inside : Inside B) → Complete most e (read most (reading most e) (content inside)) (Inner d B inside) (goes_on (content inside))
  complete_inside zero e d is B inside = absurd (omega arith)
  complete_inside (suc depth) e zero is B inside = λ items a counts rest s w enough clear. absurd s
  complete_inside (suc depth) e (suc d) is B inside =
      let same : depth ≡ e = omega arith in
      subst (λ n. Complete most n (read most (reading most n) (content inside)) (Inner (suc d) B inside) (goes_on (content inside))) same
      (complete_rule depth d (λ n is B inside. complete_inside depth n d is B inside) (content inside) (all_fine B inside))

  -- what the rule spells within the limits is read by it
  pub complete : (depth d : ℕ) {A : Type 0} (r : Rule A) → fine r ≡ true → Complete most depth (read most (reading most depth) r) (Spells (Inner d) r) (goes_on r)
  complete depth d r ok = complete_rule depth d (λ e is B inside. complete_inside depth e d is B inside) r ok
