-- Where what a rule spells passes a limit for the first time, reading by the rule stops there, whatever comes behind.
use Rattle.std.proofs.Common.{◌≡◌, ℕ, zero, suc, ◌+◌, ◌≤◌, List, [], ◌∷◌, ◌++◌, length, Option, Some, None, Bool, true, false, not, if◌then◌else◌, refl, sym, ap, subst, ◌∙◌, arith, length-append, inl, inr}
use Rattle.bs_tree.specs.declared.symbols.Mark.{Mark}
use Rattle.bs_tree.specs.Rule as g
use Rattle.bs_tree.specs.Rule.{Terminal, Role, Item, terminals, Choice, the_mark, accepted, Inside, Rule, one, both, many, maybe, either, within, closing, Spells, SpellsMany, SpellsMaybe}
use Rattle.bs_tree.specs.Grammar.{content, Inner}
use Rattle.bs_tree.specs.Limits.{Counts, after, after_all, opens, closes, refused, Within, Reason}
use Rattle.bs_parse.specs.Reading.{Kind, mark, kind, starts, empty, begins, goes_on, got, bad, Parser, and_then, turns, taken, allowed, read_one, read_within, read, reading}
use Rattle.bs_parse.proofs.Basics.{both_left, both_right, not_true, apart, apart_tells, append_none, after_append, terminals_then, within_left, within_right, one_takes}
use Rattle.bs_parse.proofs.Fine.{fine, Heads, no_items, headed, heads, Level, level, levels, AllFine}
use Rattle.bs_parse.proofs.Complete.{Complete, complete, complete_inside, not_deep, bracket_after, accepted_itself, some_terminals}

-- ---- lists in two parts

-- which part an item of a list in two parts stands in
pub data Side {A : Type 0} (us vs xs : List A) (z : A) (ys : List A) : Type 0 where
  in_first : (more : List A) → us ≡ xs ++ z ∷ more → Side us vs xs z ys
  in_second : (before : List A) → xs ≡ us ++ before → vs ≡ before ++ z ∷ ys → Side us vs xs z ys

pub side : {A : Type 0} (us vs xs : List A) (z : A) (ys : List A) → us ++ vs ≡ xs ++ z ∷ ys → Side us vs xs z ys
side [] vs xs z ys h = in_second xs refl h
side (u ∷ us) vs [] z ys h = let first : u ≡ z = cc in in_first us (ap (λ x. x ∷ us) first)
side (u ∷ us) vs (x ∷ xs) z ys h =
    let first : u ≡ x = cc in
    let more : us ++ vs ≡ xs ++ z ∷ ys = cc in
    by first (side us vs xs z ys more)
  where
    by : u ≡ x → Side us vs xs z ys → Side (u ∷ us) vs (x ∷ xs) z ys
    by first (in_first rest is) = in_first rest (ap (λ x. x ∷ us) first ∙ ap (λ ws. x ∷ ws) is)
    by first (in_second before is is') = in_second before (ap (λ u. u ∷ xs) (sym first) ∙ ap (λ ws. u ∷ ws) is) is'

none_in : {A : Type 0} (xs ys : List A) (z : A) → [] ≡ xs ++ z ∷ ys → ⊥
none_in xs ys z h = omega (arith, ap length h, length-append xs (z ∷ ys))

first_alone : {A : Type 0} (x : A) (xs : List A) (z : A) (ys : List A) → x ∷ [] ≡ xs ++ z ∷ ys → (xs ≡ []) × (x ≡ z)
first_alone x [] z ys h = (refl, cc)
first_alone x (w ∷ xs) z ys h = absurd (let more : [] ≡ xs ++ z ∷ ys = cc in none_in xs ys z more)

-- ---- the next token

-- the first token is the same
same_first : (f : Kind → Bool) (xs ys : List Item) (role : Role) (t : Terminal) (others : List Terminal) (x : Item) (zs : List Item) → x ∷ zs ≡ xs ++ (role, t) ∷ ys → starts f (terminals xs ++ t ∷ others) ≡ f (kind x.1)
same_first f [] ys role t others x zs h = let first : x ≡ (role, t) = cc in ap (λ w. f (kind w.1)) (sym first)
same_first f (w ∷ xs) ys role t others x zs h = let first : x ≡ w = cc in ap (λ w. f (kind w.1)) (sym first)

begun : {h : Kind → Bool} (items xs ys : List Item) (role : Role) (t : Terminal) (others : List Terminal) → items ≡ xs ++ (role, t) ∷ ys → Heads false h items → starts h (terminals xs ++ t ∷ others) ≡ true
begun items xs ys role t others is (no_items e p) = absurd (cc)
begun {h = h} items xs ys role t others is (headed x zs e p) = same_first h xs ys role t others x zs (sym e ∙ is) ∙ p

left_out : {b : Bool} {h : Kind → Bool} (f : Kind → Bool) (items xs ys : List Item) (role : Role) (t : Terminal) (others : List Terminal) → apart f h ≡ true → items ≡ xs ++ (role, t) ∷ ys → Heads b h items → starts f (terminals xs ++ t ∷ others) ≡ false
left_out f items xs ys role t others p is (no_items e q) = absurd (none_in xs ys (role, t) (sym e ∙ is))
left_out {h = h} f items xs ys role t others p is (headed x zs e q) = same_first f xs ys role t others x zs (sym e ∙ is) ∙ apart_tells f h p (kind x.1) q

headed_then : {h : Kind → Bool} (us vs items : List Item) → items ≡ us ++ vs → Heads false h us → Heads false h items
headed_then us vs items is (no_items e p) = absurd (cc)
headed_then us vs items is (headed x zs e p) = headed x (zs ++ vs) (is ∙ ap (λ us. us ++ vs) e) p

-- ---- parsers that stop at the first limit

abbrev pub Refuses : {A : Type 0} → Counts → ℕ → Parser A → (List Item → A → Type 0) → Type 0
Refuses {A = A} most depth P R =
    (items : List Item) (a : A) (counts : Counts) (xs ys : List Item) (role : Role) (t : Terminal) (reason : Reason) (others : List Terminal)
    → R items a → items ≡ xs ++ (role, t) ∷ ys → Within most counts xs → refused most (after_all counts xs) (role, t) ≡ Some reason → most.brackets ≤ depth + counts.brackets
    → P counts (terminals xs ++ t ∷ others) ≡ bad reason (t ∷ others)

one_refuses : {A : Type 0} (most : Counts) (role : Role) (choice : Choice A) (counts : Counts) (t : Terminal) (ts : List Terminal) (a : A) (reason : Reason) → accepted choice t ≡ Some a → refused most counts (role, t) ≡ Some reason
    → read_one most role choice counts (t ∷ ts) ≡ bad reason (t ∷ ts)
one_refuses most role choice counts t ts a reason p q = ap (taken most role counts t ts) p ∙ ap (allowed a (after counts (role, t)) t ts) q

-- where the items are one, of a known role
refuses_here : {A : Type 0} (most : Counts) (role : Role) (choice : Choice A) (counts : Counts) (token : Terminal) (a : A) (xs ys : List Item) (role' : Role) (t : Terminal) (reason : Reason) (others : List Terminal)
    → accepted choice token ≡ Some a → (role, token) ∷ [] ≡ xs ++ (role', t) ∷ ys → refused most (after_all counts xs) (role', t) ≡ Some reason → read_one most role choice counts (terminals xs ++ t ∷ others) ≡ bad reason (t ∷ others)
refuses_here most role choice counts token a xs ys role' t reason others accepts is why =
    let alone = first_alone (role, token) xs (role', t) ys is in
    let same_role : role ≡ role' = ap (λ (x : Item). x.0) alone.1 in
    let same : token ≡ t = ap (λ (x : Item). x.1) alone.1 in
    let here : refused most counts (role', t) ≡ Some reason = subst (λ us. refused most (after_all counts us) (role', t) ≡ Some reason) alone.0 why in
    let known : refused most counts (role, t) ≡ Some reason = subst (λ r. refused most counts (r, t) ≡ Some reason) (sym same_role) here in
    subst (λ us. read_one most role choice counts (terminals us ++ t ∷ others) ≡ bad reason (t ∷ others)) (sym alone.0)
    (one_refuses most role choice counts t others a reason (subst (λ u. accepted choice u ≡ Some a) same accepts) known)

refuses_one : {A : Type 0} (most : Counts) (depth : ℕ) (role : Role) (choice : Choice A) → Refuses most depth (read_one most role choice) (λ items a. (t : Terminal) × (items ≡ (role, t) ∷ []) × (accepted choice t ≡ Some a))
refuses_one most depth role choice items a counts xs ys role' t reason others s is w why enough =
    refuses_here most role choice counts s.0 a xs ys role' t reason others s.2 (sym s.1 ∙ is) why

module _ {A B C : Type 0} (most : Counts) (depth : ℕ) (f : B → C → A) (P : Parser B) (Q : Parser C) (R : List Item → B → Type 0) (S : List Item → C → Type 0) (p : Kind → Bool)
    (level : (items : List Item) (b : B) → R items b → Level items)
    (clear : (items xs ys : List Item) (c : C) (role : Role) (t : Terminal) (others : List Terminal) → S items c → items ≡ xs ++ (role, t) ∷ ys → starts p (terminals xs ++ t ∷ others) ≡ false) where
  refuses_both : Complete most depth P R p → Refuses most depth P R → Refuses most depth Q S
      → Refuses most depth (λ counts ts. and_then (P counts ts) (λ b counts ts. and_then (Q counts ts) (λ c counts ts. got (f b c) counts ts)))
      (λ items a. (us : List Item) × (vs : List Item) × (b : B) × (c : C) × (items ≡ us ++ vs) × R us b × S vs c × (f b c ≡ a))
  refuses_both good refuses_p refuses_q items a counts xs ys role t reason others s is w why enough = by (side s.0 s.1 xs (role, t) ys (sym s.4 ∙ is))
    where
      by : Side s.0 s.1 xs (role, t) ys → and_then (P counts (terminals xs ++ t ∷ others)) (λ b counts ts. and_then (Q counts ts) (λ c counts ts. got (f b c) counts ts)) ≡ bad reason (t ∷ others)
      by (in_first more is') = rw (refuses_p s.0 s.2 counts xs more role t reason others s.5 is' w why enough) refl
      by (in_second before is' is'') =
          let w' : Within most counts (s.0 ++ before) = subst (Within most counts) is' w in
          let mid = after_all counts s.0 in
          let ts = terminals before ++ t ∷ others in
          let first : P counts (terminals s.0 ++ ts) ≡ got s.2 mid ts = good s.0 s.2 counts ts s.5 (within_left most counts s.0 before w') enough (clear s.1 before ys s.3 role t others s.6 is'') in
          let same : mid.brackets ≡ counts.brackets = level s.0 s.2 s.5 counts in
          let why' : refused most (after_all mid before) (role, t) ≡ Some reason = subst (λ c. refused most c (role, t) ≡ Some reason) (ap (after_all counts) is' ∙ after_append counts s.0 before) why in
          let second : Q mid ts ≡ bad reason (t ∷ others) = refuses_q s.1 s.3 mid before ys role t reason others s.6 is'' (within_right most counts s.0 before w') why' (omega (arith, same, enough)) in
          rw (is', terminals_then s.0 before (t ∷ others), first, second) refl

-- ---- any number

module _ {B : Type 0} (most : Counts) (depth : ℕ) (P : Parser B) (R : List Item → B → Type 0) (begin goes : Kind → Bool)
    (level : (items : List Item) (b : B) → R items b → Level items)
    (head : (items : List Item) (b : B) → R items b → Heads false begin items)
    (ends : apart goes begin ≡ true) where
  clear_next : (bs : List B) (items xs ys : List Item) (role : Role) (t : Terminal) (others : List Terminal) → SpellsMany R items bs → items ≡ xs ++ (role, t) ∷ ys → starts goes (terminals xs ++ t ∷ others) ≡ false
  clear_next [] items xs ys role t others m is = absurd (none_in xs ys (role, t) (sym m ∙ is))
  clear_next (b ∷ bs) items xs ys role t others m is = left_out goes items xs ys role t others ends is (headed_then m.0 m.1 items m.2 (head m.0 b m.3))

  refuses_turns : Complete most depth P R goes → Refuses most depth P R → (bs : List B) (n : ℕ) (items : List Item) (counts : Counts) (xs ys : List Item) (role : Role) (t : Terminal) (reason : Reason) (others : List Terminal)
      → SpellsMany R items bs → items ≡ xs ++ (role, t) ∷ ys → Within most counts xs → refused most (after_all counts xs) (role, t) ≡ Some reason → most.brackets ≤ depth + counts.brackets → length (terminals xs ++ t ∷ others) ≤ n
      → turns P begin n counts (terminals xs ++ t ∷ others) ≡ bad reason (t ∷ others)
  refuses_turns good refuses [] n items counts xs ys role t reason others m is w why enough le = absurd (none_in xs ys (role, t) (sym m ∙ is))
  refuses_turns good refuses (b ∷ bs) zero items counts xs ys role t reason others m is w why enough le = absurd (omega (arith, length-append (terminals xs) (t ∷ others), le))
  refuses_turns good refuses (b ∷ bs) (suc n) items counts xs ys role t reason others m is w why enough le = by (side m.0 m.1 xs (role, t) ys (sym m.2 ∙ is)) (refuses_turns good refuses bs n)
    where
      starting : starts begin (terminals xs ++ t ∷ others) ≡ true
      starting = begun items xs ys role t others is (headed_then m.0 m.1 items m.2 (head m.0 b m.3))

      by : Side m.0 m.1 xs (role, t) ys → ((items : List Item) (counts : Counts) (xs ys : List Item) (role : Role) (t : Terminal) (reason : Reason) (others : List Terminal)
          → SpellsMany R items bs → items ≡ xs ++ (role, t) ∷ ys → Within most counts xs → refused most (after_all counts xs) (role, t) ≡ Some reason → most.brackets ≤ depth + counts.brackets → length (terminals xs ++ t ∷ others) ≤ n
          → turns P begin n counts (terminals xs ++ t ∷ others) ≡ bad reason (t ∷ others))
          → turns P begin (suc n) counts (terminals xs ++ t ∷ others) ≡ bad reason (t ∷ others)
      by (in_first more is') next =
          let first : P counts (terminals xs ++ t ∷ others) ≡ bad reason (t ∷ others) = refuses m.0 b counts xs more role t reason others m.3 is' w why enough in
          rw (starting, first) refl
      by (in_second before is' is'') next =
          let w' : Within most counts (m.0 ++ before) = subst (Within most counts) is' w in
          let mid = after_all counts m.0 in
          let ts = terminals before ++ t ∷ others in
          let first : P counts (terminals m.0 ++ ts) ≡ got b mid ts = good m.0 b counts ts m.3 (within_left most counts m.0 before w') enough (clear_next bs m.1 before ys role t others m.4 is'') in
          let same : mid.brackets ≡ counts.brackets = level m.0 b m.3 counts in
          let why' : refused most (after_all mid before) (role, t) ≡ Some reason = subst (λ c. refused most c (role, t) ≡ Some reason) (ap (after_all counts) is' ∙ after_append counts m.0 before) why in
          let split : terminals xs ++ t ∷ others ≡ terminals m.0 ++ ts = ap (λ us. terminals us ++ t ∷ others) is' ∙ terminals_then m.0 before (t ∷ others) in
          let some : 1 ≤ length (terminals m.0) = some_terminals m.0 refl (head m.0 b m.3) in
          let second : turns P begin n mid ts ≡ bad reason (t ∷ others) =
          next m.1 mid before ys role t reason others m.4 is'' (within_right most counts m.0 before w') why' (omega (arith, same, enough)) (omega (arith, le, ap length split, length-append (terminals m.0) ts, some)) in
          let starting' : starts begin (terminals m.0 ++ ts) ≡ true = subst (λ us. starts begin us ≡ true) split starting in
          rw (split, starting', first, second) refl

-- ---- brackets

module _ {A B : Type 0} (most : Counts) (e : ℕ) (role : Role) (left right : Mark) (f : B → A) (inside : Inside B) (R : List Item → B → Type 0) (ok : fine (within role left right f inside) ≡ true)
    (good : Complete most e (read most (reading most e) (content inside)) R (goes_on (content inside))) (refuses : Refuses most e (read most (reading most e) (content inside)) R) where
  -- the part after the opening bracket
  refuses_opened : (counts : Counts) (inner : List Item) (b : B) (xs ys : List Item) (role' : Role) (t : Terminal) (reason : Reason) (others : List Terminal)
      → R inner b → refused most counts (role, g.mark left) ≡ None → Within most (after counts (role, g.mark left)) xs → refused most (after_all (after counts (role, g.mark left)) xs) (role', t) ≡ Some reason → most.brackets ≤ suc e + counts.brackets
      → Side inner ((closing role, g.mark right) ∷ []) xs (role', t) ys → read_within most role left right f (reading most (suc e) B inside) counts (g.mark left ∷ (terminals xs ++ t ∷ others)) ≡ bad reason (t ∷ others)
  refuses_opened counts inner b xs ys role' t reason others r allows w why enough (in_first more is) =
      let start = after counts (role, g.mark left) in
      let ts = terminals xs ++ t ∷ others in
      let up : start.brackets ≡ suc counts.brackets = bracket_after counts role left (both_left (opens (g.mark left)) _ ok) in
      let one : read_one {A = Unit {0}} most role (the_mark left tt) counts (g.mark left ∷ ts) ≡ got tt start ts = one_takes most role (the_mark left tt) counts (g.mark left) ts tt (accepted_itself left) allows in
      let two : read most (reading most e) (content inside) start ts ≡ bad reason (t ∷ others) = refuses inner b start xs more role' t reason others r is w why (omega (arith, up, enough)) in
      rw (one, two) refl
  refuses_opened counts inner b xs ys role' t reason others r allows w why enough (in_second before is is') =
      let start = after counts (role, g.mark left) in
      let mid = after_all start inner in
      let up : start.brackets ≡ suc counts.brackets = bracket_after counts role left (both_left (opens (g.mark left)) _ ok) in
      let ends : not (goes_on (content inside) (mark right)) ≡ true = both_right (closes (g.mark right)) _ (both_right (opens (g.mark left)) _ ok) in
      let alone = first_alone (closing role, g.mark right) before (role', t) ys is' in
      let same : g.mark right ≡ t = ap (λ (x : Item). x.1) alone.1 in
      let all : xs ≡ inner = is ∙ ap (λ us. inner ++ us) alone.0 ∙ append_none inner in
      let ts = terminals inner ++ t ∷ others in
      let one : read_one {A = Unit {0}} most role (the_mark left tt) counts (g.mark left ∷ ts) ≡ got tt start ts = one_takes most role (the_mark left tt) counts (g.mark left) ts tt (accepted_itself left) allows in
      let clear : starts (goes_on (content inside)) (t ∷ others) ≡ false = subst (λ u. goes_on (content inside) (kind u) ≡ false) same (not_true _ ends) in
      let two : read most (reading most e) (content inside) start ts ≡ got b mid (t ∷ others) = good inner b start (t ∷ others) r (subst (Within most start) all w) (omega (arith, up, enough)) clear in
      let three : read_one {A = Unit {0}} most (closing role) (the_mark right tt) mid (t ∷ others) ≡ bad reason (t ∷ others) =
      refuses_here {A = Unit {0}} most (closing role) (the_mark right tt) mid (g.mark right) tt [] [] role' t reason others (accepted_itself right) (ap (λ (x : Item). x ∷ []) alone.1) (subst (λ us. refused most (after_all start us) (role', t) ≡ Some reason) all why) in
      rw (all, one, two, three) refl

refuses_within : {A B : Type 0} (most : Counts) (depth : ℕ) (role : Role) (left right : Mark) (f : B → A) (inside : Inside B) (R : List Item → B → Type 0) → fine (within role left right f inside) ≡ true
    → ((e : ℕ) → depth ≡ suc e → Complete most e (read most (reading most e) (content inside)) R (goes_on (content inside)))
    → ((e : ℕ) → depth ≡ suc e → Refuses most e (read most (reading most e) (content inside)) R)
    → Refuses most depth (read_within most role left right f (reading most depth B inside))
    (λ items a. (inner : List Item) × (b : B) × (items ≡ (role, g.mark left) ∷ (inner ++ (closing role, g.mark right) ∷ [])) × R inner b × (f b ≡ a))
refuses_within most depth role left right f inside R ok below stops items a counts [] ys role' t reason others s is w why enough =
    let all : (role, g.mark left) ∷ (s.0 ++ (closing role, g.mark right) ∷ []) ≡ (role', t) ∷ ys = sym s.2 ∙ is in
    let first : (role, g.mark left) ≡ (role', t) = cc in
    let one : read_one {A = Unit {0}} most role (the_mark left tt) counts (t ∷ others) ≡ bad reason (t ∷ others) =
    refuses_here {A = Unit {0}} most role (the_mark left tt) counts (g.mark left) tt [] [] role' t reason others (accepted_itself left) (ap (λ (x : Item). x ∷ []) first) why in
    rw one refl
refuses_within most zero role left right f inside R ok below stops items a counts (x ∷ xs) ys role' t reason others s is w why enough =
    let all : (role, g.mark left) ∷ (s.0 ++ (closing role, g.mark right) ∷ []) ≡ x ∷ (xs ++ (role', t) ∷ ys) = sym s.2 ∙ is in
    let first : x ≡ (role, g.mark left) = cc in
    let allows : refused most counts (role, g.mark left) ≡ None = subst (λ (y : Item). refused most counts y ≡ None) first w.0 in
    absurd (omega (arith, not_deep most counts (role, g.mark left) (both_left (opens (g.mark left)) _ ok) allows, enough))
refuses_within {B = B} most (suc e) role left right f inside R ok below stops items a counts (x ∷ xs) ys role' t reason others s is w why enough =
    let all : (role, g.mark left) ∷ (s.0 ++ (closing role, g.mark right) ∷ []) ≡ x ∷ (xs ++ (role', t) ∷ ys) = sym s.2 ∙ is in
    let first : x ≡ (role, g.mark left) = cc in
    let more : s.0 ++ (closing role, g.mark right) ∷ [] ≡ xs ++ (role', t) ∷ ys = cc in
    subst (λ (y : Item). read_within most role left right f (reading most (suc e) B inside) counts (y.1 ∷ (terminals xs ++ t ∷ others)) ≡ bad reason (t ∷ others)) (sym first)
    (refuses_opened most e role left right f inside R ok (below e refl) (stops e refl) counts s.0 s.1 xs ys role' t reason others s.3
    (subst (λ (y : Item). refused most counts y ≡ None) first w.0) (subst (λ (y : Item). Within most (after counts y) xs) first w.1) (subst (λ (y : Item). refused most (after_all (after counts y) xs) (role', t) ≡ Some reason) first why) enough
    (side s.0 ((closing role, g.mark right) ∷ []) xs (role', t) ys more))

-- ---- every rule

module _ {B A : Type 0} (most : Counts) (depth : ℕ) (f : Option B → A) (P : Parser B) (R : List Item → B → Type 0) (begin : Kind → Bool) (head : (items : List Item) (b : B) → R items b → Heads false begin items) where
  refuses_maybe : Refuses most depth P R → Refuses most depth (λ counts ts. if starts begin ts then and_then (P counts ts) (λ b counts ts. got (f (Some b)) counts ts) else got (f None) counts ts) (λ items a. (o : Option B) × SpellsMaybe R items o × (f o ≡ a))
  refuses_maybe refuses items a counts xs ys role t reason others s is w why enough = by s.0 s.1
    where
      by : (o : Option B) → SpellsMaybe R items o → (if starts begin (terminals xs ++ t ∷ others) then and_then (P counts (terminals xs ++ t ∷ others)) (λ b counts ts. got (f (Some b)) counts ts) else got (f None) counts (terminals xs ++ t ∷ others)) ≡ bad reason (t ∷ others)
      by None m = absurd (none_in xs ys (role, t) (sym m ∙ is))
      by (Some b) m =
          let starting : starts begin (terminals xs ++ t ∷ others) ≡ true = begun items xs ys role t others is (head items b m) in
          let inner : P counts (terminals xs ++ t ∷ others) ≡ bad reason (t ∷ others) = refuses items b counts xs ys role t reason others m is w why enough in
          rw (starting, inner) refl

module _ (most : Counts) (all_fine : AllFine) where
  module _ (depth d : ℕ) (below : (e : ℕ) → depth ≡ suc e → (B : Type 0) (inside : Inside B) → Refuses most e (read most (reading most e) (content inside)) (Inner d B inside)) where
    leveled : {A : Type 0} (r : Rule A) → fine r ≡ true → (items : List Item) (a : A) → Spells (Inner d) r items a → Level items
    leveled r ok = level (Inner d) (levels all_fine d) r ok

    headed_always : {A : Type 0} (r : Rule A) → not (empty r) ≡ true → (items : List Item) (a : A) → Spells (Inner d) r items a → Heads false (begins r) items
    headed_always r ok items a s = subst (λ b. Heads b (begins r) items) (not_true _ ok) (heads (Inner d) r items a s)

    refuses_rule : {A : Type 0} (r : Rule A) → fine r ≡ true → Refuses most depth (read most (reading most depth) r) (Spells (Inner d) r)
    refuses_rule (one role choice) ok items a counts xs ys role' t reason others s is w why enough = refuses_one most depth role choice items a counts xs ys role' t reason others s is w why enough
    refuses_rule (both {B = B} {C = C} f r q) ok items a counts xs ys role t reason others s is w why enough =
        let ok_r = both_left (fine r) _ ok in
        let ok_q = both_left (fine q) _ (both_right (fine r) _ ok) in
        let ends = both_right (fine q) _ (both_right (fine r) _ ok) in
        refuses_both most depth f (read most (reading most depth) r) (read most (reading most depth) q) (Spells (Inner d) r) (Spells (Inner d) q) (goes_on r)
        (leveled r ok_r) (λ items xs ys c role t others s is. left_out (goes_on r) items xs ys role t others ends is (heads (Inner d) q items c s))
        (complete most all_fine depth d r ok_r) (refuses_rule r ok_r) (refuses_rule q ok_q) items a counts xs ys role t reason others s is w why enough
    refuses_rule (many f r) ok items a counts xs ys role t reason others s is w why enough =
        let ok_r = both_left (fine r) _ ok in
        let more = both_right (fine r) _ ok in
        let all : turns (read most (reading most depth) r) (begins r) (length (terminals xs ++ t ∷ others)) counts (terminals xs ++ t ∷ others) ≡ bad reason (t ∷ others) =
        refuses_turns most depth (read most (reading most depth) r) (Spells (Inner d) r) (begins r) (goes_on r) (leveled r ok_r) (headed_always r (both_left (not (empty r)) _ more)) (both_right (not (empty r)) _ more)
        (complete most all_fine depth d r ok_r) (refuses_rule r ok_r) s.0 (length (terminals xs ++ t ∷ others)) items counts xs ys role t reason others s.1 is w why enough (omega arith) in
        rw all refl
    refuses_rule (maybe f r) ok items a counts xs ys role t reason others s is w why enough =
        refuses_maybe most depth f (read most (reading most depth) r) (Spells (Inner d) r) (begins r) (headed_always r (both_right (fine r) _ ok)) (refuses_rule r (both_left (fine r) _ ok)) items a counts xs ys role t reason others s is w why enough
    refuses_rule (either r q) ok items a counts xs ys role t reason others (inl s) is w why enough =
        let ok_r = both_left (fine r) _ ok in
        let more = both_right (fine q) _ (both_right (fine r) _ ok) in
        let starting : starts (begins r) (terminals xs ++ t ∷ others) ≡ true = begun items xs ys role t others is (headed_always r (both_left (not (empty r)) _ more) items a s) in
        rw starting (refuses_rule r ok_r items a counts xs ys role t reason others s is w why enough)
    refuses_rule (either r q) ok items a counts xs ys role t reason others (inr s) is w why enough =
        let ok_q = both_left (fine q) _ (both_right (fine r) _ ok) in
        let more = both_right (not (empty r)) _ (both_right (fine q) _ (both_right (fine r) _ ok)) in
        let other : starts (begins r) (terminals xs ++ t ∷ others) ≡ false = left_out (begins r) items xs ys role t others (both_right (not (empty q)) _ more) is (headed_always q (both_left (not (empty q)) _ more) items a s) in
        rw other (refuses_rule q ok_q items a counts xs ys role t reason others s is w why enough)
    refuses_rule (within {B = B} role left right f inside) ok items a counts xs ys role' t reason others s is w why enough =
        refuses_within most depth role left right f inside (Inner d B inside) ok (λ e is. complete_inside most all_fine depth e d is B inside) (λ e is. below e is B inside) items a counts xs ys role' t reason others s is w why enough

  refuses_inside : (depth e d : ℕ) → depth ≡ suc e → (B : Type 0) (inside : Inside B) → Refuses most e (read most (reading most e) (content inside)) (Inner d B inside)
  refuses_inside zero e d is B inside = absurd (omega arith)
  refuses_inside (suc depth) e zero is B inside = λ items a counts xs ys role t reason others s is w why enough. absurd s
  refuses_inside (suc depth) e (suc d) is B inside =
      let same : depth ≡ e = omega arith in
      subst (λ n. Refuses most n (read most (reading most n) (content inside)) (Inner (suc d) B inside)) same
      (refuses_rule depth d (λ n is B inside. refuses_inside depth n d is B inside) (content inside) (all_fine B inside))

  -- where what the rule spells passes a limit for the first time, reading stops
  pub refuses : (depth d : ℕ) {A : Type 0} (r : Rule A) → fine r ≡ true → Refuses most depth (read most (reading most depth) r) (Spells (Inner d) r)
  refuses depth d r ok = refuses_rule depth d (λ e is B inside. refuses_inside depth e d is B inside) r ok
