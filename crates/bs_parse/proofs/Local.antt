-- What is read, or where a token is unexpected, depends on the tokens up to the next one alone, and higher limits don't change it.
use Rattle.std.proofs.Common.{◌≡◌, ℕ, zero, suc, ◌+◌, ◌≤◌, ◌<◌, List, [], ◌∷◌, ◌++◌, length, Option, Some, None, Bool, true, false, ◌&&◌, not, if◌then◌else◌, refl, sym, ap, subst, ◌∙◌, append_assoc, arith, length-append, nat_le}
use Rattle.std.proofs.lemmas.Bool.{leb-false, lt-leb}
use Rattle.bs_tree.specs.declared.symbols.Mark.{Mark}
use Rattle.bs_tree.specs.Rule as g
use Rattle.bs_tree.specs.Rule.{Terminal, Role, opening, outside, operand, operator, Item, terminals, Choice, a_name, a_number, the_word, the_mark, an_operator, accepted, Inside, Rule, one, both, many, maybe, either, within, closing, Spells, SpellsMany, SpellsMaybe}
use Rattle.bs_tree.specs.Grammar.{content, Inner}
use Rattle.bs_tree.specs.Limits.{Counts, after, opens, refused, refused_role, Reason, unexpected, too_deep, too_many}
use Rattle.bs_tree.specs.Fault.{Same}
use Rattle.bs_parse.specs.Reading.{Kind, starts, empty, begins, Outcome, got, bad, Parser, and_then, turns, taken, allowed, read_one, descend, read_within, read, reading}
use Rattle.bs_parse.proofs.Basics.{both_left, both_right, not_true, one_got, one_takes, Went, went, both_went, Stood, at_first, at_next, one_stood, shaped, shaped_bad, got_value, got_counts, got_rest, got_bad, bad_reason, bad_rest, Test, test, holds, fails}
use Rattle.bs_parse.proofs.Fine.{fine, AllFine, level, levels, heads}
use Rattle.bs_parse.proofs.Complete.{not_deep, bracket_after, some_terminals}
use Rattle.bs_parse.proofs.Sound.{sound, mark_token, shut, bracketed}

-- ---- higher limits

pub record Higher (small big : Counts) : Type 0 where
  pub brackets : small.brackets ≤ big.brackets
  pub operators : small.operators ≤ big.operators
  pub statements : small.statements ≤ big.statements

-- a test that a limit is reached, and its answer under a higher one
reached_more : (small big n : ℕ) → small ≤ big → nat_le small n ≡ false → nat_le big n ≡ false
reached_more small big n le h = let lt : n < small = leb-false small n h in lt-leb big n (omega arith)

if_none : (b : Bool) (r : Reason) → (if b then Some r else None) ≡ None → b ≡ false
if_none true r h = cc
if_none false r h = refl

role_more : (small big counts : Counts) (role : Role) → Higher small big → refused_role small counts role ≡ None → refused_role big counts role ≡ None
role_more small big counts opening m h = rw (reached_more _ _ _ m.statements (if_none _ _ h)) refl
role_more small big counts outside m h = refl
role_more small big counts operand m h = refl
role_more small big counts operator m h = rw (reached_more _ _ _ m.operators (if_none _ _ h)) refl

pub refused_more : (small big counts : Counts) (item : Item) → Higher small big → refused small counts item ≡ None → refused big counts item ≡ None
refused_more small big counts item m h = by (test (opens item.1)) (test (nat_le small.brackets counts.brackets))
  where
    by : Test (opens item.1) → Test (nat_le small.brackets counts.brackets) → refused big counts item ≡ None
    by (fails o) n = rw o (role_more small big counts item.0 m (rw o at h))
    by (holds o) (holds n) = absurd (let h' = rw (o, n) at h in cc)
    by (holds o) (fails n) = rw (o, reached_more _ _ _ m.brackets n) (role_more small big counts item.0 m (rw (o, n) at h))

role_expected : (most counts : Counts) (role : Role) → refused_role most counts role ≡ Some unexpected → ⊥
role_expected most counts opening h = by (nat_le most.statements counts.statements) h
  where
    by : (b : Bool) → (if b then Some too_many else None) ≡ Some unexpected → ⊥
    by true h = cc
    by false h = cc
role_expected most counts outside h = cc
role_expected most counts operand h = cc
role_expected most counts operator h = by (nat_le most.operators counts.operators) h
  where
    by : (b : Bool) → (if b then Some too_deep else None) ≡ Some unexpected → ⊥
    by true h = cc
    by false h = cc

pub refused_expected : (most counts : Counts) (item : Item) → refused most counts item ≡ Some unexpected → ⊥
refused_expected most counts item h = by (opens item.1 && nat_le most.brackets counts.brackets) h
  where
    by : (b : Bool) → (if b then Some too_deep else refused_role most counts item.0) ≡ Some unexpected → ⊥
    by true h = cc
    by false h = role_expected most counts item.0 h

-- ---- the same next token, or none

same_on : (used ts rest next : List Terminal) → ts ≡ used ++ rest → Same rest next → Same ts (used ++ next)
same_on [] ts rest next is same = subst (λ us. Same us next) (sym is) same
same_on (t ∷ used) ts rest next is same = subst (λ us. Same us (t ∷ (used ++ next))) (sym is) (used ++ next, refl)

same_starts : (f : Kind → Bool) (ts us : List Terminal) → Same ts us → starts f us ≡ starts f ts
same_starts f [] us same = rw same refl
same_starts f (t ∷ ts) us same = rw same.1 refl

-- ---- parsers under lower and under higher limits

pub record Kept {A : Type 0} (Q : Parser A) (counts : Counts) (ts : List Terminal) (a : A) (end : Counts) (rest : List Terminal) : Type 0 where
  pub used : List Terminal
  pub is : ts ≡ used ++ rest
  pub again : (next : List Terminal) → Same rest next → Q counts (used ++ next) ≡ got a end next

pub record Failed {A : Type 0} (Q : Parser A) (counts : Counts) (ts rest : List Terminal) : Type 0 where
  pub used : List Terminal
  pub is : ts ≡ used ++ rest
  pub again : (next : List Terminal) → Same rest next → Q counts (used ++ next) ≡ bad unexpected next

pub record Local {A : Type 0} (big : Counts) (depth : ℕ) (P Q : Parser A) : Type 0 where
  pub keeps : (counts : Counts) (ts : List Terminal) (a : A) (end : Counts) (rest : List Terminal) → P counts ts ≡ got a end rest → big.brackets ≤ depth + counts.brackets → Kept Q counts ts a end rest
  pub fails : (counts : Counts) (ts rest : List Terminal) → P counts ts ≡ bad unexpected rest → big.brackets ≤ depth + counts.brackets → Failed Q counts ts rest

one_keeps : {A : Type 0} (small big : Counts) (role : Role) (choice : Choice A) → Higher small big → (counts : Counts) (ts : List Terminal) (a : A) (end : Counts) (rest : List Terminal) → read_one small role choice counts ts ≡ got a end rest → Kept (read_one big role choice) counts ts a end rest
one_keeps small big role choice m counts ts a end rest h =
    let w = one_got small role choice counts ts a end rest h in
    record {
      used = w.token ∷ [];
      is = w.is;
      again = λ next same. one_takes big role choice counts w.token next a w.accepts (refused_more small big counts (role, w.token) m w.allows) ∙ ap (λ c. got a c next) (sym w.counted);
    }

one_fails : {A : Type 0} (small big : Counts) (role : Role) (choice : Choice A) (counts : Counts) (ts rest : List Terminal) → read_one small role choice counts ts ≡ bad unexpected rest → Failed (read_one big role choice) counts ts rest
one_fails small big role choice counts [] rest h =
    record { used = []; is = bad_rest h; again = λ next same. let none : next ≡ [] = subst (λ us. Same us next) (sym (bad_rest h)) same in rw none refl }
one_fails {A = A} small big role choice counts (t ∷ ts) rest h = by (accepted choice t) refl h
  where
    limit : (a : A) (o : Option Reason) → refused small counts (role, t) ≡ o → allowed a (after counts (role, t)) t ts o ≡ bad unexpected rest → Failed (read_one big role choice) counts (t ∷ ts) rest
    limit a None r h = absurd (got_bad h)
    limit a (Some why) r h = absurd (refused_expected small counts (role, t) (r ∙ ap Some (bad_reason h)))

    by : (o : Option A) → accepted choice t ≡ o → taken small role counts t ts o ≡ bad unexpected rest → Failed (read_one big role choice) counts (t ∷ ts) rest
    by None e h = record {
      used = [];
      is = bad_rest h;
      again = λ next same. let first : Same (t ∷ ts) next = subst (λ us. Same us next) (sym (bad_rest h)) same in rw (first.1, e) refl;
    }
    by (Some a) e h = limit a (refused small counts (role, t)) refl h

module _ {A B C : Type 0} (big : Counts) (depth : ℕ) (f : B → C → A) (P P' : Parser B) (Q Q' : Parser C)
    (flat : (counts : Counts) (ts : List Terminal) (b : B) (mid : Counts) (us : List Terminal) → P counts ts ≡ got b mid us → mid.brackets ≡ counts.brackets)
    (first : Local big depth P P') (second : Local big depth Q Q') where
  local_both : Local big depth (λ counts ts. and_then (P counts ts) (λ b counts ts. and_then (Q counts ts) (λ c counts ts. got (f b c) counts ts))) (λ counts ts. and_then (P' counts ts) (λ b counts ts. and_then (Q' counts ts) (λ c counts ts. got (f b c) counts ts)))
  local_both = record { keeps = keeps; fails = fails }
    where
      keeps : (counts : Counts) (ts : List Terminal) (a : A) (end : Counts) (rest : List Terminal) → and_then (P counts ts) (λ b counts ts. and_then (Q counts ts) (λ c counts ts. got (f b c) counts ts)) ≡ got a end rest → big.brackets ≤ depth + counts.brackets
          → Kept (λ counts ts. and_then (P' counts ts) (λ b counts ts. and_then (Q' counts ts) (λ c counts ts. got (f b c) counts ts))) counts ts a end rest
      keeps counts ts a end rest h enough = by (both_went (P counts ts) _ a end rest h)
        where
          by : Went (P counts ts) (λ b counts ts. and_then (Q counts ts) (λ c counts ts. got (f b c) counts ts)) a end rest → Kept (λ counts ts. and_then (P' counts ts) (λ b counts ts. and_then (Q' counts ts) (λ c counts ts. got (f b c) counts ts))) counts ts a end rest
          by (went b mid us p n) =
              let z = shaped (Q mid us) (f b) a end rest n in
              let x = first.keeps counts ts b mid us p enough in
              let same_brackets = flat counts ts b mid us p in
              let y = second.keeps mid us z.value end rest z.is (omega (arith, same_brackets, enough)) in
              record {
                used = x.used ++ y.used;
                is = x.is ∙ ap (λ vs. x.used ++ vs) y.is ∙ sym (append_assoc x.used y.used rest);
                again = λ next same.
                    let one : P' counts (x.used ++ (y.used ++ next)) ≡ got b mid (y.used ++ next) = x.again (y.used ++ next) (same_on y.used us rest next y.is same) in
                    let two : Q' mid (y.used ++ next) ≡ got z.value end next = y.again next same in
                    rw (append_assoc x.used y.used next, one, two, z.shape) refl;
              }

      fails : (counts : Counts) (ts rest : List Terminal) → and_then (P counts ts) (λ b counts ts. and_then (Q counts ts) (λ c counts ts. got (f b c) counts ts)) ≡ bad unexpected rest → big.brackets ≤ depth + counts.brackets
          → Failed (λ counts ts. and_then (P' counts ts) (λ b counts ts. and_then (Q' counts ts) (λ c counts ts. got (f b c) counts ts))) counts ts rest
      fails counts ts rest h enough = by (one_stood (P counts ts) _ unexpected rest h)
        where
          by : Stood (P counts ts) (λ b counts ts. and_then (Q counts ts) (λ c counts ts. got (f b c) counts ts)) unexpected rest → Failed (λ counts ts. and_then (P' counts ts) (λ b counts ts. and_then (Q' counts ts) (λ c counts ts. got (f b c) counts ts))) counts ts rest
          by (at_first p) =
              let x = first.fails counts ts rest p enough in
              record { used = x.used; is = x.is; again = λ next same. let one : P' counts (x.used ++ next) ≡ bad unexpected next = x.again next same in rw one refl }
          by (at_next b mid us p n) =
              let x = first.keeps counts ts b mid us p enough in
              let same_brackets = flat counts ts b mid us p in
              let y = second.fails mid us rest (shaped_bad (Q mid us) (f b) unexpected rest n) (omega (arith, same_brackets, enough)) in
              record {
                used = x.used ++ y.used;
                is = x.is ∙ ap (λ vs. x.used ++ vs) y.is ∙ sym (append_assoc x.used y.used rest);
                again = λ next same.
                    let one : P' counts (x.used ++ (y.used ++ next)) ≡ got b mid (y.used ++ next) = x.again (y.used ++ next) (same_on y.used us rest next y.is same) in
                    let two : Q' mid (y.used ++ next) ≡ bad unexpected next = y.again next same in
                    rw (append_assoc x.used y.used next, one, two) refl;
              }

-- ---- any number

turns_none : {B : Type 0} (Q : Parser B) (begin : Kind → Bool) (n : ℕ) (counts : Counts) (ts : List Terminal) → starts begin ts ≡ false → turns Q begin n counts ts ≡ got [] counts ts
turns_none Q begin zero counts ts e = refl
turns_none Q begin (suc n) counts ts e = rw e refl

no_terminals : (ts : List Terminal) → length ts ≤ 0 → ts ≡ []
no_terminals [] le = refl
no_terminals (t ∷ ts) le = absurd (omega arith)

record KeptTurns {B : Type 0} (Q : Parser B) (begin : Kind → Bool) (counts : Counts) (ts : List Terminal) (bs : List B) (end : Counts) (rest : List Terminal) : Type 0 where
  used : List Terminal
  is : ts ≡ used ++ rest
  again : (next : List Terminal) (n : ℕ) → Same rest next → length (used ++ next) ≤ n → turns Q begin n counts (used ++ next) ≡ got bs end next

record FailedTurns {B : Type 0} (Q : Parser B) (begin : Kind → Bool) (counts : Counts) (ts rest : List Terminal) : Type 0 where
  used : List Terminal
  is : ts ≡ used ++ rest
  again : (next : List Terminal) (n : ℕ) → Same rest next → length (used ++ next) ≤ n → turns Q begin n counts (used ++ next) ≡ bad unexpected next

kept_none : {B : Type 0} (Q : Parser B) (begin : Kind → Bool) (counts : Counts) (ts : List Terminal) (bs : List B) (end : Counts) (rest : List Terminal) → starts begin ts ≡ false → got [] counts ts ≡ got bs end rest → KeptTurns Q begin counts ts bs end rest
kept_none Q begin counts ts bs end rest none h = record {
  used = [];
  is = got_rest h;
  again = λ next n same le.
      let none' : starts begin next ≡ false = same_starts begin rest next same ∙ ap (starts begin) (sym (got_rest h)) ∙ none in
      turns_none Q begin n counts next none' ∙ ap (λ bs. got bs counts next) (got_value h) ∙ ap (λ c. got bs c next) (got_counts h);
}

module _ {B : Type 0} (big : Counts) (depth : ℕ) (P Q : Parser B) (begin : Kind → Bool)
    (flat : (counts : Counts) (ts : List Terminal) (b : B) (mid : Counts) (us : List Terminal) → P counts ts ≡ got b mid us → mid.brackets ≡ counts.brackets)
    (eats : (counts : Counts) (ts : List Terminal) (b : B) (mid : Counts) (us : List Terminal) → P counts ts ≡ got b mid us → suc (length us) ≤ length ts)
    (each : Local big depth P Q) where
  -- one turn on another text
  turn_again : (counts mid : Counts) (ts us used used' : List Terminal) (b : B) (out : Outcome (List B)) (next : List Terminal) (n : ℕ) → ts ≡ used ++ us → suc (length us) ≤ length ts → starts begin ts ≡ true → Same ts (used ++ (used' ++ next)) → length (used ++ (used' ++ next)) ≤ n
      → Q counts (used ++ (used' ++ next)) ≡ got b mid (used' ++ next) → ((n : ℕ) → length (used' ++ next) ≤ n → turns Q begin n mid (used' ++ next) ≡ out)
      → turns Q begin n counts ((used ++ used') ++ next) ≡ and_then out (λ bs counts ts. got (b ∷ bs) counts ts)
  turn_again counts mid ts us used used' b out next zero is less begun same le is_one is_two = absurd (omega (arith, ap length is, length-append used us, length-append used (used' ++ next)))
  turn_again counts mid ts us used used' b out next (suc n) is less begun same le is_one is_two =
      let begun' : starts begin (used ++ (used' ++ next)) ≡ true = same_starts begin ts _ same ∙ begun in
      let two' : turns Q begin n mid (used' ++ next) ≡ out = is_two n (omega (arith, ap length is, length-append used us, length-append used (used' ++ next))) in
      rw (append_assoc used used' next, begun', is_one, two') refl

  turn_fails : (counts : Counts) (ts : List Terminal) (next : List Terminal) (n : ℕ) → starts begin ts ≡ true → length ts ≤ n → Q counts ts ≡ bad unexpected next → turns Q begin n counts ts ≡ bad unexpected next
  turn_fails counts ts next zero begun le is_one = let none = rw (no_terminals ts le) at begun in absurd (cc)
  turn_fails counts ts next (suc n) begun le is_one = rw (begun, is_one) refl

  keeps_turns : (m : ℕ) (counts : Counts) (ts : List Terminal) (bs : List B) (end : Counts) (rest : List Terminal) → turns P begin m counts ts ≡ got bs end rest → length ts ≤ m → big.brackets ≤ depth + counts.brackets → KeptTurns Q begin counts ts bs end rest
  keeps_turns zero counts ts bs end rest h le enough = kept_none Q begin counts ts bs end rest (rw (no_terminals ts le) refl) h
  keeps_turns (suc m) counts ts bs end rest h le enough = by (test (starts begin ts)) (keeps_turns m)
    where
      go_on : ((counts : Counts) (ts : List Terminal) (bs : List B) (end : Counts) (rest : List Terminal) → turns P begin m counts ts ≡ got bs end rest → length ts ≤ m → big.brackets ≤ depth + counts.brackets → KeptTurns Q begin counts ts bs end rest)
          → starts begin ts ≡ true → Went (P counts ts) (λ b counts ts. and_then (turns P begin m counts ts) (λ bs counts ts. got (b ∷ bs) counts ts)) bs end rest → KeptTurns Q begin counts ts bs end rest
      go_on more begun (went b mid us p n) =
          let z = shaped (turns P begin m mid us) (λ bs. b ∷ bs) bs end rest n in
          let x = each.keeps counts ts b mid us p enough in
          let same_brackets = flat counts ts b mid us p in
          let less = eats counts ts b mid us p in
          let y = more mid us z.value end rest z.is (omega (arith, less, le)) (omega (arith, same_brackets, enough)) in
          record {
            used = x.used ++ y.used;
            is = x.is ∙ ap (λ vs. x.used ++ vs) y.is ∙ sym (append_assoc x.used y.used rest);
            again = λ next k same le.
                let same_us : Same us (y.used ++ next) = same_on y.used us rest next y.is same in
                turn_again counts mid ts us x.used y.used b (got z.value end next) next k x.is less begun (same_on x.used ts us (y.used ++ next) x.is same_us) (subst (λ vs. length vs ≤ k) (append_assoc x.used y.used next) le)
                (x.again (y.used ++ next) same_us) (λ k le. y.again next k same le) ∙ ap (λ bs. got bs end next) z.shape;
          }

      by : Test (starts begin ts) → ((counts : Counts) (ts : List Terminal) (bs : List B) (end : Counts) (rest : List Terminal) → turns P begin m counts ts ≡ got bs end rest → length ts ≤ m → big.brackets ≤ depth + counts.brackets → KeptTurns Q begin counts ts bs end rest) → KeptTurns Q begin counts ts bs end rest
      by (fails none) more = kept_none Q begin counts ts bs end rest none (rw none at h)
      by (holds begun) more = go_on more begun (both_went (P counts ts) _ bs end rest (rw begun at h))

  fails_turns : (m : ℕ) (counts : Counts) (ts rest : List Terminal) → turns P begin m counts ts ≡ bad unexpected rest → length ts ≤ m → big.brackets ≤ depth + counts.brackets → FailedTurns Q begin counts ts rest
  fails_turns zero counts ts rest h le enough = absurd (got_bad h)
  fails_turns (suc m) counts ts rest h le enough = by (test (starts begin ts)) (fails_turns m)
    where
      go_on : ((counts : Counts) (ts rest : List Terminal) → turns P begin m counts ts ≡ bad unexpected rest → length ts ≤ m → big.brackets ≤ depth + counts.brackets → FailedTurns Q begin counts ts rest)
          → starts begin ts ≡ true → Stood (P counts ts) (λ b counts ts. and_then (turns P begin m counts ts) (λ bs counts ts. got (b ∷ bs) counts ts)) unexpected rest → FailedTurns Q begin counts ts rest
      go_on more begun (at_first p) =
          let x = each.fails counts ts rest p enough in
          record {
            used = x.used;
            is = x.is;
            again = λ next k same le. turn_fails counts (x.used ++ next) next k (same_starts begin ts _ (same_on x.used ts rest next x.is same) ∙ begun) le (x.again next same);
          }
      go_on more begun (at_next b mid us p n) =
          let x = each.keeps counts ts b mid us p enough in
          let same_brackets = flat counts ts b mid us p in
          let less = eats counts ts b mid us p in
          let y = more mid us rest (shaped_bad (turns P begin m mid us) (λ bs. b ∷ bs) unexpected rest n) (omega (arith, less, le)) (omega (arith, same_brackets, enough)) in
          record {
            used = x.used ++ y.used;
            is = x.is ∙ ap (λ vs. x.used ++ vs) y.is ∙ sym (append_assoc x.used y.used rest);
            again = λ next k same le.
                let same_us : Same us (y.used ++ next) = same_on y.used us rest next y.is same in
                turn_again counts mid ts us x.used y.used b (bad unexpected next) next k x.is less begun (same_on x.used ts us (y.used ++ next) x.is same_us) (subst (λ vs. length vs ≤ k) (append_assoc x.used y.used next) le)
                (x.again (y.used ++ next) same_us) (λ k le. y.again next k same le);
          }

      by : Test (starts begin ts) → ((counts : Counts) (ts rest : List Terminal) → turns P begin m counts ts ≡ bad unexpected rest → length ts ≤ m → big.brackets ≤ depth + counts.brackets → FailedTurns Q begin counts ts rest) → FailedTurns Q begin counts ts rest
      by (fails none) more = absurd (let h' = rw none at h in cc)
      by (holds begun) more = go_on more begun (one_stood (P counts ts) _ unexpected rest (rw begun at h))

-- ---- brackets

module _ {A B : Type 0} (small big : Counts) (role : Role) (left right : Mark) (f : B → A) (left_opens : opens (g.mark left) ≡ true) (higher : Higher small big) (depth' : ℕ) (P P' : Parser B)
    (inner : Local big depth' P P') (flat : (counts : Counts) (ts : List Terminal) (b : B) (mid : Counts) (us : List Terminal) → P counts ts ≡ got b mid us → mid.brackets ≡ counts.brackets) where
  shut_keeps : (b : B) (mid : Counts) (us : List Terminal) (a : A) (end : Counts) (rest : List Terminal) → shut small role right f b mid us ≡ got a end rest → Kept (shut big role right f b) mid us a end rest
  shut_keeps b mid us a end rest h =
      let z = shaped (read_one {A = Unit {0}} small (closing role) (the_mark right tt) mid us) (λ _. f b) a end rest h in
      let x = one_keeps {A = Unit {0}} small big (closing role) (the_mark right tt) higher mid us z.value end rest z.is in
      record { used = x.used; is = x.is; again = λ next same. let again : read_one {A = Unit {0}} big (closing role) (the_mark right tt) mid (x.used ++ next) ≡ got z.value end next = x.again next same in rw (again, z.shape) refl }

  shut_fails : (b : B) (mid : Counts) (us rest : List Terminal) → shut small role right f b mid us ≡ bad unexpected rest → Failed (shut big role right f b) mid us rest
  shut_fails b mid us rest h =
      let x = one_fails {A = Unit {0}} small big (closing role) (the_mark right tt) mid us rest (shaped_bad (read_one {A = Unit {0}} small (closing role) (the_mark right tt) mid us) (λ _. f b) unexpected rest h) in
      record { used = x.used; is = x.is; again = λ next same. let again : read_one {A = Unit {0}} big (closing role) (the_mark right tt) mid (x.used ++ next) ≡ bad unexpected next = x.again next same in rw again refl }

  local_within : Local big (suc depth') (read_within small role left right f (Some P)) (read_within big role left right f (Some P'))
  local_within = record { keeps = keeps; fails = fails }
    where
      keeps : (counts : Counts) (ts : List Terminal) (a : A) (end : Counts) (rest : List Terminal) → read_within small role left right f (Some P) counts ts ≡ got a end rest → big.brackets ≤ suc depth' + counts.brackets → Kept (read_within big role left right f (Some P')) counts ts a end rest
      keeps counts ts a end rest h enough = by (both_went (read_one {A = Unit {0}} small role (the_mark left tt) counts ts) _ a end rest h)
        where
          second : (first : Counts) (us : List Terminal) → first.brackets ≡ suc counts.brackets → Went (P first us) (shut small role right f) a end rest → Kept (λ counts ts. and_then (P' counts ts) (shut big role right f)) first us a end rest
          second first us up (went b mid vs p n) =
              let x = inner.keeps first us b mid vs p (omega (arith, up, enough)) in
              let y = shut_keeps b mid vs a end rest n in
              record {
                used = x.used ++ y.used;
                is = x.is ∙ ap (λ ws. x.used ++ ws) y.is ∙ sym (append_assoc x.used y.used rest);
                again = λ next same.
                    let is_one : P' first (x.used ++ (y.used ++ next)) ≡ got b mid (y.used ++ next) = x.again (y.used ++ next) (same_on y.used vs rest next y.is same) in
                    rw (append_assoc x.used y.used next, is_one) (y.again next same);
              }

          by : Went (read_one {A = Unit {0}} small role (the_mark left tt) counts ts) (λ _ counts us. and_then (P counts us) (shut small role right f)) a end rest → Kept (read_within big role left right f (Some P')) counts ts a end rest
          by (went u first us p n) =
              let one = one_got {A = Unit {0}} small role (the_mark left tt) counts ts u first us p in
              let token : one.token ≡ g.mark left = mark_token left one.token one.accepts in
              let up : first.brackets ≡ suc counts.brackets = ap (λ c. c.brackets) (one.counted ∙ ap (λ t. after counts (role, t)) token) ∙ bracket_after counts role left left_opens in
              let x = one_keeps {A = Unit {0}} small big role (the_mark left tt) higher counts ts u first us p in
              let y = second first us up (both_went (P first us) (shut small role right f) a end rest n) in
              record {
                used = x.used ++ y.used;
                is = x.is ∙ ap (λ ws. x.used ++ ws) y.is ∙ sym (append_assoc x.used y.used rest);
                again = λ next same.
                    let is_one : read_one {A = Unit {0}} big role (the_mark left tt) counts (x.used ++ (y.used ++ next)) ≡ got u first (y.used ++ next) = x.again (y.used ++ next) (same_on y.used us rest next y.is same) in
                    rw (append_assoc x.used y.used next, is_one) (y.again next same);
              }

      fails : (counts : Counts) (ts rest : List Terminal) → read_within small role left right f (Some P) counts ts ≡ bad unexpected rest → big.brackets ≤ suc depth' + counts.brackets → Failed (read_within big role left right f (Some P')) counts ts rest
      fails counts ts rest h enough = by (one_stood (read_one {A = Unit {0}} small role (the_mark left tt) counts ts) _ unexpected rest h)
        where
          second : (first : Counts) (us : List Terminal) → first.brackets ≡ suc counts.brackets → Stood (P first us) (shut small role right f) unexpected rest → Failed (λ counts ts. and_then (P' counts ts) (shut big role right f)) first us rest
          second first us up (at_first p) =
              let x = inner.fails first us rest p (omega (arith, up, enough)) in
              record { used = x.used; is = x.is; again = λ next same. let is_one : P' first (x.used ++ next) ≡ bad unexpected next = x.again next same in rw is_one refl }
          second first us up (at_next b mid vs p n) =
              let x = inner.keeps first us b mid vs p (omega (arith, up, enough)) in
              let y = shut_fails b mid vs rest n in
              record {
                used = x.used ++ y.used;
                is = x.is ∙ ap (λ ws. x.used ++ ws) y.is ∙ sym (append_assoc x.used y.used rest);
                again = λ next same.
                    let is_one : P' first (x.used ++ (y.used ++ next)) ≡ got b mid (y.used ++ next) = x.again (y.used ++ next) (same_on y.used vs rest next y.is same) in
                    rw (append_assoc x.used y.used next, is_one) (y.again next same);
              }

          by : Stood (read_one {A = Unit {0}} small role (the_mark left tt) counts ts) (λ _ counts us. and_then (P counts us) (shut small role right f)) unexpected rest → Failed (read_within big role left right f (Some P')) counts ts rest
          by (at_first p) =
              let x = one_fails {A = Unit {0}} small big role (the_mark left tt) counts ts rest p in
              record { used = x.used; is = x.is; again = λ next same. let is_one : read_one {A = Unit {0}} big role (the_mark left tt) counts (x.used ++ next) ≡ bad unexpected next = x.again next same in rw is_one refl }
          by (at_next u first us p n) =
              let one = one_got {A = Unit {0}} small role (the_mark left tt) counts ts u first us p in
              let token : one.token ≡ g.mark left = mark_token left one.token one.accepts in
              let up : first.brackets ≡ suc counts.brackets = ap (λ c. c.brackets) (one.counted ∙ ap (λ t. after counts (role, t)) token) ∙ bracket_after counts role left left_opens in
              let x = one_keeps {A = Unit {0}} small big role (the_mark left tt) higher counts ts u first us p in
              let y = second first us up (one_stood (P first us) (shut small role right f) unexpected rest n) in
              record {
                used = x.used ++ y.used;
                is = x.is ∙ ap (λ ws. x.used ++ ws) y.is ∙ sym (append_assoc x.used y.used rest);
                again = λ next same.
                    let is_one : read_one {A = Unit {0}} big role (the_mark left tt) counts (x.used ++ (y.used ++ next)) ≡ got u first (y.used ++ next) = x.again (y.used ++ next) (same_on y.used us rest next y.is same) in
                    rw (append_assoc x.used y.used next, is_one) (y.again next same);
              }

outer_fails : {A B : Type 0} (small big : Counts) (role : Role) (left right : Mark) (f : B → A) (part : Option (Parser B)) (counts : Counts) (ts rest : List Terminal) → read_one {A = Unit {0}} small role (the_mark left tt) counts ts ≡ bad unexpected rest → Failed (read_within big role left right f part) counts ts rest
outer_fails small big role left right f part counts ts rest p =
    let x = one_fails {A = Unit {0}} small big role (the_mark left tt) counts ts rest p in
    record { used = x.used; is = x.is; again = λ next same. let is_one : read_one {A = Unit {0}} big role (the_mark left tt) counts (x.used ++ next) ≡ bad unexpected next = x.again next same in rw is_one refl }

-- where no bracket may be opened under the lower limits
local_closed : {A B : Type 0} (small big : Counts) (role : Role) (left right : Mark) (f : B → A) (depth' : ℕ) (part' : Option (Parser B)) → Local big depth' (read_within small role left right f None) (read_within big role left right f part')
local_closed {A = A} small big role left right f depth' part' = record {
  keeps = λ counts ts a end rest h enough. absurd (let w = bracketed small role left right f None counts ts a end rest h in let is = w.may in cc);
  fails = λ counts ts rest h enough. by counts ts rest (one_stood (read_one {A = Unit {0}} small role (the_mark left tt) counts ts) _ unexpected rest h);
}
  where
    by : (counts : Counts) (ts rest : List Terminal) → Stood {B = A} (read_one {A = Unit {0}} small role (the_mark left tt) counts ts) (λ _ counts us. bad too_deep ts) unexpected rest → Failed (read_within big role left right f part') counts ts rest
    by counts ts rest (at_first p) = outer_fails small big role left right f part' counts ts rest p
    by counts ts rest (at_next u first us p n) = absurd (let is = bad_reason n in cc)

-- where none may be opened under the higher ones either
local_shut : {A B : Type 0} (small big : Counts) (role : Role) (left right : Mark) (f : B → A) → opens (g.mark left) ≡ true → Higher small big → (part part' : Option (Parser B)) → Local big zero (read_within small role left right f part) (read_within big role left right f part')
local_shut small big role left right f left_opens higher part part' = record {
  keeps = λ counts ts a end rest h enough. absurd (let w = bracketed small role left right f part counts ts a end rest h in omega (arith, not_deep small counts (role, g.mark left) left_opens w.opens_one, enough, higher.brackets));
  fails = λ counts ts rest h enough. by counts ts rest enough (one_stood (read_one {A = Unit {0}} small role (the_mark left tt) counts ts) _ unexpected rest h);
}
  where
    by : (counts : Counts) (ts rest : List Terminal) → big.brackets ≤ 0 + counts.brackets → Stood (read_one {A = Unit {0}} small role (the_mark left tt) counts ts) (λ _ counts us. and_then (descend ts part counts us) (shut small role right f)) unexpected rest → Failed (read_within big role left right f part') counts ts rest
    by counts ts rest enough (at_first p) = outer_fails small big role left right f part' counts ts rest p
    by counts ts rest enough (at_next u first us p n) =
        let one = one_got {A = Unit {0}} small role (the_mark left tt) counts ts u first us p in
        let allows : refused small counts (role, g.mark left) ≡ None = subst (λ t. refused small counts (role, t) ≡ None) (mark_token left one.token one.accepts) one.allows in
        absurd (omega (arith, not_deep small counts (role, g.mark left) left_opens allows, enough, higher.brackets))

-- ---- one thing or nothing, and one of two

kept_as : {A B : Type 0} (P : Parser A) (Q : Parser B) (counts end : Counts) (ts rest : List Terminal) (a : A) (b : B) → ((used next : List Terminal) → ts ≡ used ++ rest → Same rest next → P counts (used ++ next) ≡ got a end next → Q counts (used ++ next) ≡ got b end next) → Kept P counts ts a end rest → Kept Q counts ts b end rest
kept_as P Q counts end ts rest a b f x = record { used = x.used; is = x.is; again = λ next same. f x.used next x.is same (x.again next same) }

failed_as : {A B : Type 0} (P : Parser A) (Q : Parser B) (counts : Counts) (ts rest : List Terminal) → ((used next : List Terminal) → ts ≡ used ++ rest → Same rest next → P counts (used ++ next) ≡ bad unexpected next → Q counts (used ++ next) ≡ bad unexpected next) → Failed P counts ts rest → Failed Q counts ts rest
failed_as P Q counts ts rest f x = record { used = x.used; is = x.is; again = λ next same. f x.used next x.is same (x.again next same) }

start_again : (begin : Kind → Bool) (ts used rest next : List Terminal) (b : Bool) → ts ≡ used ++ rest → Same rest next → starts begin ts ≡ b → starts begin (used ++ next) ≡ b
start_again begin ts used rest next b is same e = same_starts begin ts (used ++ next) (same_on used ts rest next is same) ∙ e

module _ {A B : Type 0} (big : Counts) (depth : ℕ) (f : Option B → A) (begin : Kind → Bool) (P Q : Parser B) (inner : Local big depth P Q) where
  abbrev Maybe : Parser B → Parser A
  Maybe R counts ts = (if starts begin ts then and_then (R counts ts) (λ b counts ts. got (f (Some b)) counts ts) else got (f None) counts ts)

  maybe_local : Local big depth (Maybe P) (Maybe Q)
  maybe_local = record { keeps = λ counts ts a end rest h enough. keeps counts ts a end rest h enough (test (starts begin ts)); fails = λ counts ts rest h enough. fails_ counts ts rest h enough (test (starts begin ts)) }
    where
      keeps : (counts : Counts) (ts : List Terminal) (a : A) (end : Counts) (rest : List Terminal) → Maybe P counts ts ≡ got a end rest → big.brackets ≤ depth + counts.brackets → Test (starts begin ts) → Kept (Maybe Q) counts ts a end rest
      keeps counts ts a end rest h enough (holds e) =
          let z = shaped (P counts ts) (λ b. f (Some b)) a end rest (rw e at h) in
          kept_as Q (Maybe Q) counts end ts rest z.value a (λ used next is same again. rw (start_again begin ts used rest next true is same e, again, z.shape) refl) (inner.keeps counts ts z.value end rest z.is enough)
      keeps counts ts a end rest h enough (fails e) =
          let h' = rw e at h in
          record {
            used = [];
            is = got_rest h';
            again = λ next same. rw (start_again begin ts [] rest next false (got_rest h') same e) (ap (λ a. got a counts next) (got_value h') ∙ ap (λ c. got a c next) (got_counts h'));
          }

      fails_ : (counts : Counts) (ts rest : List Terminal) → Maybe P counts ts ≡ bad unexpected rest → big.brackets ≤ depth + counts.brackets → Test (starts begin ts) → Failed (Maybe Q) counts ts rest
      fails_ counts ts rest h enough (holds e) =
          failed_as Q (Maybe Q) counts ts rest (λ used next is same again. rw (start_again begin ts used rest next true is same e, again) refl)
          (inner.fails counts ts rest (shaped_bad (P counts ts) (λ b. f (Some b)) unexpected rest (rw e at h)) enough)
      fails_ counts ts rest h enough (fails e) = absurd (let h' = rw e at h in got_bad h')

module _ {A : Type 0} (big : Counts) (depth : ℕ) (begin : Kind → Bool) (P P' Q Q' : Parser A) (left : Local big depth P P') (right : Local big depth Q Q') where
  abbrev Either : Parser A → Parser A → Parser A
  Either R S counts ts = (if starts begin ts then R counts ts else S counts ts)

  either_local : Local big depth (Either P Q) (Either P' Q')
  either_local = record { keeps = λ counts ts a end rest h enough. keeps counts ts a end rest h enough (test (starts begin ts)); fails = λ counts ts rest h enough. fails_ counts ts rest h enough (test (starts begin ts)) }
    where
      keeps : (counts : Counts) (ts : List Terminal) (a : A) (end : Counts) (rest : List Terminal) → Either P Q counts ts ≡ got a end rest → big.brackets ≤ depth + counts.brackets → Test (starts begin ts) → Kept (Either P' Q') counts ts a end rest
      keeps counts ts a end rest h enough (holds e) = kept_as P' (Either P' Q') counts end ts rest a a (λ used next is same again. rw (start_again begin ts used rest next true is same e) again) (left.keeps counts ts a end rest (rw e at h) enough)
      keeps counts ts a end rest h enough (fails e) = kept_as Q' (Either P' Q') counts end ts rest a a (λ used next is same again. rw (start_again begin ts used rest next false is same e) again) (right.keeps counts ts a end rest (rw e at h) enough)

      fails_ : (counts : Counts) (ts rest : List Terminal) → Either P Q counts ts ≡ bad unexpected rest → big.brackets ≤ depth + counts.brackets → Test (starts begin ts) → Failed (Either P' Q') counts ts rest
      fails_ counts ts rest h enough (holds e) = failed_as P' (Either P' Q') counts ts rest (λ used next is same again. rw (start_again begin ts used rest next true is same e) again) (left.fails counts ts rest (rw e at h) enough)
      fails_ counts ts rest h enough (fails e) = failed_as Q' (Either P' Q') counts ts rest (λ used next is same again. rw (start_again begin ts used rest next false is same e) again) (right.fails counts ts rest (rw e at h) enough)

-- ---- every rule

module _ (small big : Counts) (higher : Higher small big) (all_fine : AllFine) where
  flat_read : (depth : ℕ) {A : Type 0} (r : Rule A) → fine r ≡ true → (counts : Counts) (ts : List Terminal) (a : A) (mid : Counts) (us : List Terminal) → read small (reading small depth) r counts ts ≡ got a mid us → mid.brackets ≡ counts.brackets
  flat_read depth r ok counts ts a mid us h =
      let x = sound small depth r counts ts a mid us h in
      ap (λ c. c.brackets) x.counted ∙ level (Inner depth) (levels all_fine depth) r ok x.used a x.spells counts

  eats_read : (depth : ℕ) {A : Type 0} (r : Rule A) → empty r ≡ false → (counts : Counts) (ts : List Terminal) (a : A) (mid : Counts) (us : List Terminal) → read small (reading small depth) r counts ts ≡ got a mid us → suc (length us) ≤ length ts
  eats_read depth r e counts ts a mid us h =
      let x = sound small depth r counts ts a mid us h in
      omega (arith, ap length x.is, length-append (terminals x.used) us, some_terminals x.used e (heads (Inner depth) r x.used a x.spells))

  within_local : {A B : Type 0} (depth depth' : ℕ) (role : Role) (left right : Mark) (f : B → A) (inside : Inside B) → opens (g.mark left) ≡ true → ((e e' : ℕ) → depth ≡ suc e → depth' ≡ suc e' → Local big e' (read small (reading small e) (content inside)) (read big (reading big e') (content inside)))
      → Local big depth' (read_within small role left right f (reading small depth B inside)) (read_within big role left right f (reading big depth' B inside))
  within_local {B = B} zero depth' role left right f inside o below = local_closed small big role left right f depth' (reading big depth' B inside)
  within_local {B = B} (suc e) zero role left right f inside o below = local_shut small big role left right f o higher (reading small (suc e) B inside) None
  within_local {B = B} (suc e) (suc e') role left right f inside o below =
      local_within small big role left right f o higher e' (read small (reading small e) (content inside)) (read big (reading big e') (content inside)) (below e e' refl refl) (flat_read e (content inside) (all_fine B inside))

  module _ (depth depth' : ℕ) (below : (e e' : ℕ) → depth ≡ suc e → depth' ≡ suc e' → (B : Type 0) (inside : Inside B) → Local big e' (read small (reading small e) (content inside)) (read big (reading big e') (content inside))) where
    local_rule : {A : Type 0} (r : Rule A) → fine r ≡ true → Local big depth' (read small (reading small depth) r) (read big (reading big depth') r)
    local_rule (one role choice) ok = record {
      keeps = λ counts ts a end rest h enough. one_keeps small big role choice higher counts ts a end rest h;
      fails = λ counts ts rest h enough. one_fails small big role choice counts ts rest h;
    }
    local_rule (both f r q) ok =
        let ok_r = both_left (fine r) _ ok in
        local_both big depth' f (read small (reading small depth) r) (read big (reading big depth') r) (read small (reading small depth) q) (read big (reading big depth') q) (flat_read depth r ok_r) (local_rule r ok_r) (local_rule q (both_left (fine q) _ (both_right (fine r) _ ok)))
    local_rule (many f r) ok =
        let ok_r = both_left (fine r) _ ok in
        let P = read small (reading small depth) r in
        let Q = read big (reading big depth') r in
        let eats = eats_read depth r (not_true _ (both_left (not (empty r)) _ (both_right (fine r) _ ok))) in
        record {
          keeps = λ counts ts a end rest h enough.
              let z = shaped (turns P (begins r) (length ts) counts ts) f a end rest h in
              let x = keeps_turns big depth' P Q (begins r) (flat_read depth r ok_r) eats (local_rule r ok_r) (length ts) counts ts z.value end rest z.is (omega arith) enough in
              record {
                used = x.used;
                is = x.is;
                again = λ next same. let again : turns Q (begins r) (length (x.used ++ next)) counts (x.used ++ next) ≡ got z.value end next = x.again next (length (x.used ++ next)) same (omega arith) in rw (again, z.shape) refl;
              };
          fails = λ counts ts rest h enough.
              let x = fails_turns big depth' P Q (begins r) (flat_read depth r ok_r) eats (local_rule r ok_r) (length ts) counts ts rest (shaped_bad (turns P (begins r) (length ts) counts ts) f unexpected rest h) (omega arith) enough in
              record {
                used = x.used;
                is = x.is;
                again = λ next same. let again : turns Q (begins r) (length (x.used ++ next)) counts (x.used ++ next) ≡ bad unexpected next = x.again next (length (x.used ++ next)) same (omega arith) in rw again refl;
              };
        }
    local_rule (maybe {A = A} {B = B} f r) ok = maybe_local big depth' f (begins r) (read small (reading small depth) r) (read big (reading big depth') r) (local_rule r (both_left (fine r) _ ok))
    local_rule (either r q) ok = either_local big depth' (begins r) (read small (reading small depth) r) (read big (reading big depth') r) (read small (reading small depth) q) (read big (reading big depth') q) (local_rule r (both_left (fine r) _ ok)) (local_rule q (both_left (fine q) _ (both_right (fine r) _ ok)))
    local_rule (within {B = B} role left right f inside) ok =
        within_local depth depth' role left right f inside (both_left (opens (g.mark left)) _ ok) (λ e e' is is'. below e e' is is' B inside)

  local_inside : (depth depth' e e' : ℕ) → depth ≡ suc e → depth' ≡ suc e' → (B : Type 0) (inside : Inside B) → Local big e' (read small (reading small e) (content inside)) (read big (reading big e') (content inside))
  local_inside zero depth' e e' is is' B inside = absurd (omega arith)
  local_inside (suc depth) zero e e' is is' B inside = absurd (omega arith)
  local_inside (suc depth) (suc depth') e e' is is' B inside =
      let same : depth ≡ e = omega arith in
      let same' : depth' ≡ e' = omega arith in
      subst (λ n. Local big n (read small (reading small e) (content inside)) (read big (reading big n) (content inside))) same'
      (subst (λ n. Local big depth' (read small (reading small n) (content inside)) (read big (reading big depth') (content inside))) same
      (local_rule depth depth' (λ n n' is is' B inside. local_inside depth depth' n n' is is' B inside) (content inside) (all_fine B inside)))

  -- what is read, and where a token is unexpected, depends on the tokens up to the next one alone
  pub local : (depth depth' : ℕ) {A : Type 0} (r : Rule A) → fine r ≡ true → Local big depth' (read small (reading small depth) r) (read big (reading big depth') r)
  local depth depth' r ok = local_rule depth depth' (λ n n' is is' B inside. local_inside depth depth' n n' is is' B inside) r ok
