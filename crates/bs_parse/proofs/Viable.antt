-- Where reading stops, what was read and the refused token's limit go on to something that is spelled.
use Rattle.std.proofs.Common.{◌≡◌, ℕ, zero, suc, pos, ◌+◌, ◌≤◌, List, [], ◌∷◌, ◌++◌, length, Option, Some, None, is_some, Bool, true, false, if◌then◌else◌, refl, sym, ap, subst, ◌∙◌, append_assoc, arith, ◌⊎◌, inl, inr}
use Rattle.bs_tree.specs.declared.symbols.Mark.{Mark}
use Rattle.bs_tree.specs.declared.symbols.Mark.TheVariants as m
use Rattle.bs_tree.specs.declared.tree.Expr.{Expr}
use Rattle.bs_tree.specs.declared.tree.Expr.TheVariants as e
use Rattle.bs_tree.specs.Rule as g
use Rattle.bs_tree.specs.Rule.{Terminal, Role, outside, operand, Item, terminals, Choice, a_name, a_number, the_word, the_mark, an_operator, accepted, Inside, whole_number, statements, acts, expression, expressions, names, loop_head, Rule, one, both, many, maybe, either, within, closing, Spells, SpellsMany, SpellsMaybe}
use Rattle.bs_tree.specs.declared.tree.Op2.{Op2}
use Rattle.bs_tree.specs.Grammar.{setting, set_to, ended, name, mark as mark', content, Inner, as_name, primary, unary, product, sum, comparison, conjunction, disjunction, chain, multiplies, adds, joins, chooses}
use Rattle.bs_tree.specs.Limits.{Counts, after, after_all, opens, refused, Within, Reason, unexpected}
use Rattle.bs_parse.specs.Reading.{Kind, starts, begins, got, bad, Parser, and_then, turns, taken, allowed, read_one, descend, read_within, read, reading}
use Rattle.bs_parse.proofs.Basics.{both_left, both_right, one_of, all_marks, append_none, after_append, within_join, one_got, Stood, at_first, at_next, one_stood, shaped_bad, got_bad, bad_reason, bad_rest, mark_itself, word_itself}
use Rattle.bs_parse.proofs.Fine.{fine, lively, plain, some_mark, AllFine, Level, level, levels}
use Rattle.bs_parse.proofs.Complete.{not_deep, bracket_after, accepted_itself}
use Rattle.bs_parse.proofs.Sound.{Sound, sound, sound_inside, mark_token, join_is, shut}

-- ---- what is spelled with some brackets left is spelled with more of them

many_more : {B : Type 0} (R S : List Item → B → Type 0) → ((xs : List Item) (b : B) → R xs b → S xs b) → (items : List Item) (bs : List B) → SpellsMany R items bs → SpellsMany S items bs
many_more R S f items [] m = m
many_more R S f items (b ∷ bs) m = (m.0, m.1, m.2, f m.0 b m.3, many_more R S f m.1 bs m.4)

maybe_more : {B : Type 0} (R S : List Item → B → Type 0) → ((xs : List Item) (b : B) → R xs b → S xs b) → (items : List Item) (o : Option B) → SpellsMaybe R items o → SpellsMaybe S items o
maybe_more R S f items None m = m
maybe_more R S f items (Some b) m = f items b m

module _ (D E : (B : Type 0) → Inside B → List Item → B → Type 0) (up : (B : Type 0) (inside : Inside B) (items : List Item) (b : B) → D B inside items b → E B inside items b) where
  spells_more : {A : Type 0} (r : Rule A) (items : List Item) (a : A) → Spells D r items a → Spells E r items a
  spells_more (one role choice) items a s = s
  spells_more (both f r q) items a s = (s.0, s.1, s.2, s.3, s.4, spells_more r s.0 s.2 s.5, spells_more q s.1 s.3 s.6, s.7)
  spells_more (many f r) items a s = (s.0, many_more (Spells D r) (Spells E r) (λ xs b p. spells_more r xs b p) items s.0 s.1, s.2)
  spells_more (maybe f r) items a s = (s.0, maybe_more (Spells D r) (Spells E r) (λ xs b p. spells_more r xs b p) items s.0 s.1, s.2)
  spells_more (either r q) items a (inl s) = inl (spells_more r items a s)
  spells_more (either r q) items a (inr s) = inr (spells_more q items a s)
  spells_more (within {B = B} role left right f inside) items a s = (s.0, s.1, s.2, up B inside s.0 s.1 s.3, s.4)

pub inner_more : (d e : ℕ) → d ≤ e → (B : Type 0) (inside : Inside B) (items : List Item) (b : B) → Inner d B inside items b → Inner e B inside items b
inner_more zero e le B inside items b s = absurd s
inner_more (suc d) zero le B inside items b s = absurd (omega arith)
inner_more (suc d) (suc e) le B inside items b s = spells_more (Inner d) (Inner e) (λ B inside items b s. inner_more d e (omega arith) B inside items b s) (content inside) items b s

pub deeper_spells : (d e : ℕ) → d ≤ e → {A : Type 0} (r : Rule A) (items : List Item) (a : A) → Spells (Inner d) r items a → Spells (Inner e) r items a
deeper_spells d e le r items a s = spells_more (Inner d) (Inner e) (inner_more d e le) r items a s

-- ---- each rule spells something

pub record Sample {A : Type 0} (R : List Item → A → Type 0) : Type 0 where
  pub items : List Item
  pub value : A
  pub spells : R items value

record Accepts {A : Type 0} (choice : Choice A) : Type 0 where
  token : Terminal
  value : A
  accepts : accepted choice token ≡ Some value

record Value {A : Type 0} (o : Option A) : Type 0 where
  value : A
  is : o ≡ Some value

valued : {A : Type 0} (o : Option A) → is_some o ≡ true → Value o
valued None h = cc
valued (Some a) h = record { value = a; is = refl }

operator_accepted : {A : Type 0} (f : Mark → Option A) (ns : List Mark) → some_mark f ns ≡ true → Accepts (an_operator f)
operator_accepted f [] h = cc
operator_accepted f (n ∷ ns) h = by (one_of (is_some (f n)) (some_mark f ns) h) (operator_accepted f ns)
  where
    by : (is_some (f n) ≡ true) ⊎ (some_mark f ns ≡ true) → (some_mark f ns ≡ true → Accepts (an_operator f)) → Accepts (an_operator f)
    by (inl p) rest = let v = valued (f n) p in record { token = g.mark n; value = v.value; accepts = v.is }
    by (inr p) rest = rest p

some_token : {A : Type 0} (choice : Choice A) → lively choice ≡ true → Accepts choice
some_token (a_name f) h = record { token = g.name 0; value = f 0; accepts = refl }
some_token (a_number f) h = let v = valued (f (pos 0)) h in record { token = g.number (pos 0); value = v.value; accepts = v.is }
some_token (the_word w a) h = record { token = g.word w; value = a; accepts = rw (word_itself w) refl }
some_token (the_mark m a) h = record { token = g.mark m; value = a; accepts = rw (mark_itself m) refl }
some_token (an_operator f) h = operator_accepted f all_marks h

module _ (D : (B : Type 0) → Inside B → List Item → B → Type 0) (sample_inside : (B : Type 0) (inside : Inside B) → Sample (D B inside)) where
  sample_with : {A : Type 0} (r : Rule A) → fine r ≡ true → Sample (Spells D r)
  sample_with (one role choice) ok =
      let t = some_token choice (both_left (lively choice) (plain choice) ok) in
      record { items = (role, t.token) ∷ []; value = t.value; spells = (t.token, refl, t.accepts) }
  sample_with (both f r q) ok =
      let x = sample_with r (both_left (fine r) _ ok) in
      let y = sample_with q (both_left (fine q) _ (both_right (fine r) _ ok)) in
      record { items = x.items ++ y.items; value = f x.value y.value; spells = (x.items, y.items, x.value, y.value, refl, x.spells, y.spells, refl) }
  sample_with (many f r) ok = record { items = []; value = f []; spells = ([], refl, refl) }
  sample_with (maybe f r) ok = record { items = []; value = f None; spells = (None, refl, refl) }
  sample_with (either r q) ok = let x = sample_with r (both_left (fine r) _ ok) in record { items = x.items; value = x.value; spells = inl x.spells }
  sample_with (within {B = B} role left right f inside) ok =
      let x = sample_inside B inside in
      record { items = (role, g.mark left) ∷ (x.items ++ (closing role, g.mark right) ∷ []); value = f x.value; spells = (x.items, x.value, refl, x.spells, refl) }

record Sampled {A : Type 0} (D : (B : Type 0) → Inside B → List Item → B → Type 0) (r : Rule A) : Type 0 where
  items : List Item
  value : A
  spells : Spells D r items value

module _ (D : (B : Type 0) → Inside B → List Item → B → Type 0) where
  both_sampled : {A B C : Type 0} {f : B → C → A} {r : Rule B} {q : Rule C} → Sampled D r → Sampled D q → Sampled D (both f r q)
  both_sampled {f = f} x y = record { items = x.items ++ y.items; value = f x.value y.value; spells = (x.items, y.items, x.value, y.value, refl, x.spells, y.spells, refl) }

  chain_sampled : (f : Mark → Option Op2) (r : Rule Expr) → Sampled D r → Sampled D (chain f r)
  chain_sampled f r x = record { items = x.items ++ []; value = x.value; spells = (x.items, [], x.value, [], refl, x.spells, ([], refl, refl), refl) }

  sampled_primary : Sampled D primary
  unfolding primary
  sampled_primary = record { items = (operand, g.number (pos 0)) ∷ []; value = e.Number (pos 0); spells = inl (g.number (pos 0), refl, refl) }

  sampled_unary : Sampled D unary
  unfolding unary
  sampled_unary = record { items = sampled_primary.items; value = sampled_primary.value; spells = inr (inr sampled_primary.spells) }

  sampled_product : Sampled D product
  unfolding product
  sampled_product = chain_sampled multiplies unary sampled_unary

  sampled_sum : Sampled D sum
  unfolding sum
  sampled_sum = chain_sampled adds product sampled_product

  sampled_comparison : Sampled D comparison
  unfolding comparison
  sampled_comparison = record { items = sampled_sum.items ++ []; value = sampled_sum.value; spells = (sampled_sum.items, [], sampled_sum.value, None, refl, sampled_sum.spells, (None, refl, refl), refl) }

  sampled_conjunction : Sampled D conjunction
  unfolding conjunction
  sampled_conjunction = chain_sampled joins comparison sampled_comparison

  sampled_expression : Sampled D disjunction
  unfolding disjunction
  sampled_expression = chain_sampled chooses conjunction sampled_conjunction

  sampled_name : Sampled D name
  sampled_name = record { items = (outside, g.name 0) ∷ []; value = as_name 0; spells = (g.name 0, refl, refl) }

  sampled_mark : (m : Mark) → Sampled D (mark' outside m)
  sampled_mark m = record { items = (outside, g.mark m) ∷ []; value = tt; spells = (g.mark m, refl, accepted_itself m) }

  sampled_setting : Sampled D setting
  unfolding setting set_to
  sampled_setting = both_sampled sampled_name (both_sampled (sampled_mark m.Assign) sampled_expression)

  sampled_ended : Sampled D ended
  unfolding ended
  sampled_ended = both_sampled sampled_expression (sampled_mark m.Semicolon)

  sampled_head : Sampled D (content loop_head)
  sampled_head = both_sampled (both_sampled sampled_setting (sampled_mark m.Semicolon)) (both_sampled sampled_ended sampled_setting)

samples : (B : Type 0) (inside : Inside B) → Sample (Inner 1 B inside)
samples _ whole_number = record { items = (outside, g.number (pos 0)) ∷ []; value = 0; spells = (g.number (pos 0), refl, refl) }
samples _ statements = record { items = []; value = []; spells = ([], refl, refl) }
samples _ acts = record { items = []; value = []; spells = ([], refl, refl) }
samples _ expression = record { items = (sampled_expression (Inner 0)).items; value = (sampled_expression (Inner 0)).value; spells = (sampled_expression (Inner 0)).spells }
samples _ expressions = record { items = []; value = []; spells = (None, refl, refl) }
samples _ names = record { items = []; value = []; spells = (None, refl, refl) }
samples _ loop_head = record { items = (sampled_head (Inner 0)).items; value = (sampled_head (Inner 0)).value; spells = (sampled_head (Inner 0)).spells }

pub sample : {A : Type 0} (r : Rule A) → fine r ≡ true → Sample (Spells (Inner 1) r)
sample r ok = sample_with (Inner 1) samples r ok

-- ---- what can go on

-- these items begin something that the rule spells
pub record Begins {A : Type 0} (r : Rule A) (items : List Item) : Type 0 where
  pub depth : ℕ
  pub more : List Item
  pub value : A
  pub spells : Spells (Inner depth) r (items ++ more) value

-- the refused token can't stand there, or it passes a limit
pub data Why (most counts : Counts) : Reason → List Terminal → List Item → Type 0 where
  stray : (rest : List Terminal) → Why most counts unexpected rest []
  passes : (role : Role) (t : Terminal) (rest : List Terminal) (reason : Reason) → refused most counts (role, t) ≡ Some reason → Why most counts reason (t ∷ rest) ((role, t) ∷ [])

pub record Stopped (most : Counts) (Goes : List Item → Type 0) (counts : Counts) (ts : List Terminal) (reason : Reason) (rest : List Terminal) : Type 0 where
  pub used : List Item
  pub is : ts ≡ terminals used ++ rest
  pub allows : Within most counts used
  pub extra : List Item
  pub why : Why most (after_all counts used) reason rest extra
  pub goes : Goes (used ++ extra)

abbrev pub Stops : {A : Type 0} → Counts → ℕ → Parser A → (List Item → Type 0) → Type 0
Stops most depth P Goes = (counts : Counts) (ts : List Terminal) (reason : Reason) (rest : List Terminal) → P counts ts ≡ bad reason rest → most.brackets ≤ depth + counts.brackets → Stopped most Goes counts ts reason rest

stopped_as : {most counts : Counts} {ts rest : List Terminal} {reason : Reason} (V W : List Item → Type 0) → ((items : List Item) → V items → W items) → Stopped most V counts ts reason rest → Stopped most W counts ts reason rest
stopped_as V W f s = record { used = s.used; is = s.is; allows = s.allows; extra = s.extra; why = s.why; goes = f (s.used ++ s.extra) s.goes }

-- where something was read before
stopped_after : (most counts mid : Counts) (V W : List Item → Type 0) (xs : List Item) (ts us rest : List Terminal) (reason : Reason) → ts ≡ terminals xs ++ us → Within most counts xs → mid ≡ after_all counts xs → ((items : List Item) → V items → W (xs ++ items))
    → Stopped most V mid us reason rest → Stopped most W counts ts reason rest
stopped_after most counts mid V W xs ts us rest reason is allows counted f s = record {
  used = xs ++ s.used;
  is = join_is xs s.used ts us rest is s.is;
  allows = within_join most counts xs s.used allows (subst (λ c. Within most c s.used) counted s.allows);
  extra = s.extra;
  why = subst (λ c. Why most c reason rest s.extra) (ap (λ c. after_all c s.used) counted ∙ sym (after_append counts xs s.used)) s.why;
  goes = subst W (sym (append_assoc xs s.used s.extra)) (f (s.used ++ s.extra) s.goes);
}

data OneStood {A : Type 0} (most : Counts) (role : Role) (choice : Choice A) (counts : Counts) (ts : List Terminal) (reason : Reason) (rest : List Terminal) : Type 0 where
  not_this : reason ≡ unexpected → ts ≡ rest → OneStood most role choice counts ts reason rest
  not_allowed : (t : Terminal) (us : List Terminal) (a : A) → ts ≡ t ∷ us → rest ≡ t ∷ us → accepted choice t ≡ Some a → refused most counts (role, t) ≡ Some reason → OneStood most role choice counts ts reason rest

one_refused : {A : Type 0} (most : Counts) (role : Role) (choice : Choice A) (counts : Counts) (ts : List Terminal) (reason : Reason) (rest : List Terminal) → read_one most role choice counts ts ≡ bad reason rest → OneStood most role choice counts ts reason rest
one_refused most role choice counts [] reason rest h = not_this (sym (bad_reason h)) (bad_rest h)
one_refused {A = A} most role choice counts (t ∷ ts) reason rest h = by (accepted choice t) refl h
  where
    limit : (a : A) (o : Option Reason) → accepted choice t ≡ Some a → refused most counts (role, t) ≡ o → allowed a (after counts (role, t)) t ts o ≡ bad reason rest → OneStood most role choice counts (t ∷ ts) reason rest
    limit a None is r h = absurd (got_bad h)
    limit a (Some why) is r h = not_allowed t ts a refl (sym (bad_rest h)) is (r ∙ ap Some (bad_reason h))

    by : (o : Option A) → accepted choice t ≡ o → taken most role counts t ts o ≡ bad reason rest → OneStood most role choice counts (t ∷ ts) reason rest
    by None is h = not_this (sym (bad_reason h)) (bad_rest h)
    by (Some a) is h = limit a (refused most counts (role, t)) is refl h

-- where one token is refused
one_stops : {A : Type 0} (most : Counts) (V : List Item → Type 0) (role : Role) (choice : Choice A) (counts : Counts) (ts : List Terminal) (reason : Reason) (rest : List Terminal) → V [] → ((t : Terminal) (a : A) → accepted choice t ≡ Some a → V ((role, t) ∷ []))
    → OneStood most role choice counts ts reason rest → Stopped most V counts ts reason rest
one_stops most V role choice counts ts reason rest none some (not_this is same) =
    record { used = []; is = same; allows = tt; extra = []; why = subst (λ r. Why most counts r rest []) (sym is) (stray rest); goes = none }
one_stops most V role choice counts ts reason rest none some (not_allowed t us a is same accepts why) =
    record { used = []; is = is ∙ sym same; allows = tt; extra = (role, t) ∷ []; why = subst (λ us. Why most counts reason us ((role, t) ∷ [])) (sym same) (passes role t us reason why); goes = some t a accepts }

-- what goes on by the first of two goes on by both
begins_first : {A B C : Type 0} (f : B → C → A) (r : Rule B) (q : Rule C) → fine q ≡ true → (items : List Item) → Begins r items → Begins (both f r q) items
begins_first f r q ok items v =
    let y = sample q ok in
    record {
      depth = suc v.depth;
      more = v.more ++ y.items;
      value = f v.value y.value;
      spells = (items ++ v.more, y.items, v.value, y.value, sym (append_assoc items v.more y.items), deeper_spells v.depth (suc v.depth) (omega arith) r _ _ v.spells, deeper_spells 1 (suc v.depth) (omega arith) q _ _ y.spells, refl);
    }

begins_second : {A B C : Type 0} (f : B → C → A) (r : Rule B) (q : Rule C) (depth : ℕ) (xs : List Item) (b : B) → Spells (Inner depth) r xs b → (items : List Item) → Begins q items → Begins (both f r q) (xs ++ items)
begins_second f r q depth xs b s items v =
    record {
      depth = depth + v.depth;
      more = v.more;
      value = f b v.value;
      spells = (xs, items ++ v.more, b, v.value, append_assoc xs items v.more, deeper_spells depth (depth + v.depth) (omega arith) r _ _ s, deeper_spells v.depth (depth + v.depth) (omega arith) q _ _ v.spells, refl);
    }

-- these items begin any number of what the rule spells
record BeginsMany {B : Type 0} (r : Rule B) (items : List Item) : Type 0 where
  depth : ℕ
  more : List Item
  values : List B
  spells : SpellsMany (Spells (Inner depth) r) (items ++ more) values

many_first : {B : Type 0} (r : Rule B) (items : List Item) → Begins r items → BeginsMany r items
many_first r items v = record { depth = v.depth; more = v.more; values = v.value ∷ []; spells = (items ++ v.more, [], sym (append_none (items ++ v.more)), v.spells, refl) }

many_next : {B : Type 0} (r : Rule B) (depth : ℕ) (xs : List Item) (b : B) → Spells (Inner depth) r xs b → (items : List Item) → BeginsMany r items → BeginsMany r (xs ++ items)
many_next r depth xs b s items v = record {
  depth = depth + v.depth;
  more = v.more;
  values = b ∷ v.values;
  spells = (xs, items ++ v.more, append_assoc xs items v.more, deeper_spells depth (depth + v.depth) (omega arith) r _ _ s, many_more _ _ (λ ys c p. deeper_spells v.depth (depth + v.depth) (omega arith) r ys c p) _ _ v.spells);
}

module _ {A B C : Type 0} (most : Counts) (depth : ℕ) (f : B → C → A) (r : Rule B) (q : Rule C) (ok : fine q ≡ true) (P : Parser B) (Q : Parser C)
    (sound_p : Sound most P (Spells (Inner depth) r)) (flat : (items : List Item) (b : B) → Spells (Inner depth) r items b → Level items) where
  stops_both : Stops most depth P (Begins r) → Stops most depth Q (Begins q) → Stops most depth (λ counts ts. and_then (P counts ts) (λ b counts ts. and_then (Q counts ts) (λ c counts ts. got (f b c) counts ts))) (Begins (both f r q))
  stops_both stops_p stops_q counts ts reason rest h enough = by (one_stood (P counts ts) _ reason rest h)
    where
      by : Stood (P counts ts) (λ b counts ts. and_then (Q counts ts) (λ c counts ts. got (f b c) counts ts)) reason rest → Stopped most (Begins (both f r q)) counts ts reason rest
      by (at_first p) = stopped_as (Begins r) (Begins (both f r q)) (begins_first f r q ok) (stops_p counts ts reason rest p enough)
      by (at_next b mid us p n) =
          let x = sound_p counts ts b mid us p in
          let same : mid.brackets ≡ counts.brackets = ap (λ c. c.brackets) x.counted ∙ flat x.used b x.spells counts in
          stopped_after most counts mid (Begins q) (Begins (both f r q)) x.used ts us rest reason x.is x.allows x.counted (begins_second f r q depth x.used b x.spells)
          (stops_q mid us reason rest (shaped_bad (Q mid us) (f b) reason rest n) (omega (arith, same, enough)))

module _ {B : Type 0} (most : Counts) (depth : ℕ) (r : Rule B) (P : Parser B) (begin : Kind → Bool) (sound_p : Sound most P (Spells (Inner depth) r)) (flat : (items : List Item) (b : B) → Spells (Inner depth) r items b → Level items)
    (stops_p : Stops most depth P (Begins r)) where
  stops_turns : (n : ℕ) → Stops most depth (turns P begin n) (BeginsMany r)
  stops_turns zero counts ts reason rest h enough = absurd (got_bad h)
  stops_turns (suc n) counts ts reason rest h enough = by (starts begin ts) (stops_turns n) h
    where
      go_on : Stops most depth (turns P begin n) (BeginsMany r) → Stood (P counts ts) (λ b counts ts. and_then (turns P begin n counts ts) (λ bs counts ts. got (b ∷ bs) counts ts)) reason rest → Stopped most (BeginsMany r) counts ts reason rest
      go_on next (at_first p) = stopped_as (Begins r) (BeginsMany r) (many_first r) (stops_p counts ts reason rest p enough)
      go_on next (at_next b mid us p q) =
          let x = sound_p counts ts b mid us p in
          let same : mid.brackets ≡ counts.brackets = ap (λ c. c.brackets) x.counted ∙ flat x.used b x.spells counts in
          stopped_after most counts mid (BeginsMany r) (BeginsMany r) x.used ts us rest reason x.is x.allows x.counted (many_next r depth x.used b x.spells)
          (next mid us reason rest (shaped_bad (turns P begin n mid us) (λ bs. b ∷ bs) reason rest q) (omega (arith, same, enough)))

      by : (b : Bool) → Stops most depth (turns P begin n) (BeginsMany r) → (if b then and_then (P counts ts) (λ b counts ts. and_then (turns P begin n counts ts) (λ bs counts ts. got (b ∷ bs) counts ts)) else got [] counts ts) ≡ bad reason rest → Stopped most (BeginsMany r) counts ts reason rest
      by true next h = go_on next (one_stood (P counts ts) _ reason rest h)
      by false next h = absurd (got_bad h)

-- ---- brackets

module _ {A B : Type 0} (role : Role) (left right : Mark) (f : B → A) (inside : Inside B) where
  abbrev last : List Item
  last = (closing role, g.mark right) ∷ []

  bracket_begun : fine (within role left right f inside) ≡ true → Begins (within role left right f inside) ((role, g.mark left) ∷ [])
  bracket_begun ok = let s = (sample (within role left right f inside) ok).spells in
      record { depth = 1; more = s.0 ++ last; value = f s.1; spells = (s.0, s.1, refl, s.3, refl) }

  bracket_none : fine (within role left right f inside) ≡ true → Begins (within role left right f inside) []
  bracket_none ok = let s = (sample (within role left right f inside) ok).spells in
      record { depth = 1; more = (role, g.mark left) ∷ (s.0 ++ last); value = f s.1; spells = (s.0, s.1, refl, s.3, refl) }

  bracket_inner : (items : List Item) → Begins (content inside) items → Begins (within role left right f inside) (((role, g.mark left) ∷ []) ++ items)
  bracket_inner items v = record {
    depth = suc v.depth;
    more = v.more ++ last;
    value = f v.value;
    spells = (items ++ v.more, v.value, ap (λ xs. (role, g.mark left) ∷ xs) (sym (append_assoc items v.more last)), v.spells, refl);
  }

  bracket_full : (depth : ℕ) (xs : List Item) (b : B) → Inner depth B inside xs b → Begins (within role left right f inside) (((role, g.mark left) ∷ xs) ++ [])
  bracket_full depth xs b s = record {
    depth = depth;
    more = last;
    value = f b;
    spells = (xs, b, ap (λ ys. (role, g.mark left) ∷ (ys ++ last)) (append_none xs), s, refl);
  }

  bracket_shut : (depth : ℕ) (xs : List Item) (b : B) → Inner depth B inside xs b → Begins (within role left right f inside) (((role, g.mark left) ∷ xs) ++ last)
  bracket_shut depth xs b s = record {
    depth = depth;
    more = [];
    value = f b;
    spells = (xs, b, append_none ((role, g.mark left) ∷ (xs ++ last)), s, refl);
  }

module _ {A B : Type 0} (most : Counts) (role : Role) (left right : Mark) (f : B → A) (inside : Inside B) (ok : fine (within role left right f inside) ≡ true) where
  abbrev Whole : List Item → Type 0
  Whole = Begins (within role left right f inside)

  -- the closing bracket
  stops_shut : (depth : ℕ) (counts mid : Counts) (xs : List Item) (b : B) (ts us : List Terminal) (reason : Reason) (rest : List Terminal) → Inner depth B inside xs b → ts ≡ terminals ((role, g.mark left) ∷ xs) ++ us → Within most counts ((role, g.mark left) ∷ xs) → mid ≡ after_all counts ((role, g.mark left) ∷ xs)
      → shut most role right f b mid us ≡ bad reason rest → Stopped most Whole counts ts reason rest
  stops_shut depth counts mid xs b ts us reason rest s is allows counted h =
      let all : List Item = (role, g.mark left) ∷ xs in
      let one = one_refused {A = Unit {0}} most (closing role) (the_mark right tt) mid us reason rest (shaped_bad (read_one {A = Unit {0}} most (closing role) (the_mark right tt) mid us) (λ _. f b) reason rest h) in
      stopped_after most counts mid (λ items. Whole (all ++ items)) Whole all ts us rest reason is allows counted (λ items v. v)
      (one_stops {A = Unit {0}} most (λ items. Whole (all ++ items)) (closing role) (the_mark right tt) mid us reason rest (bracket_full role left right f inside depth xs b s)
      (λ t a accepts. subst (λ t. Whole (all ++ (closing role, t) ∷ [])) (sym (mark_token right t accepts)) (bracket_shut role left right f inside depth xs b s)) one)

  -- the part after the opening bracket
  stops_opened : (e : ℕ) → Stops most e (read most (reading most e) (content inside)) (Begins (content inside)) → Sound most (read most (reading most e) (content inside)) (Inner (suc e) B inside)
      → (counts : Counts) (ts us : List Terminal) (reason : Reason) (rest : List Terminal) → ts ≡ g.mark left ∷ us → refused most counts (role, g.mark left) ≡ None → most.brackets ≤ suc e + counts.brackets
      → and_then (read most (reading most e) (content inside) (after counts (role, g.mark left)) us) (shut most role right f) ≡ bad reason rest → Stopped most Whole counts ts reason rest
  stops_opened e stops_inner sound_inner counts ts us reason rest is allows enough h = by (one_stood (read most (reading most e) (content inside) (after counts (role, g.mark left)) us) (shut most role right f) reason rest h)
    where
      by : Stood (read most (reading most e) (content inside) (after counts (role, g.mark left)) us) (shut most role right f) reason rest → Stopped most Whole counts ts reason rest
      by (at_first p) =
          let up = bracket_after counts role left (both_left (opens (g.mark left)) _ ok) in
          stopped_after most counts (after counts (role, g.mark left)) (Begins (content inside)) Whole ((role, g.mark left) ∷ []) ts us rest reason is (allows, tt) refl (bracket_inner role left right f inside)
          (stops_inner (after counts (role, g.mark left)) us reason rest p (omega (arith, up, enough)))
      by (at_next b mid vs p n) =
          let x = sound_inner (after counts (role, g.mark left)) us b mid vs p in
          stops_shut (suc e) counts mid x.used b ts vs reason rest x.spells (is ∙ ap (λ ts. g.mark left ∷ ts) x.is) (allows, x.allows) x.counted n

  stops_within : (depth : ℕ) → ((e : ℕ) → depth ≡ suc e → Stops most e (read most (reading most e) (content inside)) (Begins (content inside)))
      → Stops most depth (read_within most role left right f (reading most depth B inside)) Whole
  stops_within depth below counts ts reason rest h enough = by (one_stood (read_one {A = Unit {0}} most role (the_mark left tt) counts ts) _ reason rest h)
    where
      opened : (d : ℕ) → ((e : ℕ) → d ≡ suc e → Stops most e (read most (reading most e) (content inside)) (Begins (content inside))) → most.brackets ≤ d + counts.brackets → (us : List Terminal) → ts ≡ g.mark left ∷ us → refused most counts (role, g.mark left) ≡ None
          → and_then (descend ts (reading most d B inside) (after counts (role, g.mark left)) us) (shut most role right f) ≡ bad reason rest → Stopped most Whole counts ts reason rest
      opened zero below enough us is allows h = absurd (omega (arith, not_deep most counts (role, g.mark left) (both_left (opens (g.mark left)) _ ok) allows, enough))
      opened (suc e) below enough us is allows h = stops_opened e (below e refl) (sound_inside most (suc e) B inside _ refl) counts ts us reason rest is allows enough h

      by : Stood (read_one {A = Unit {0}} most role (the_mark left tt) counts ts) (λ _ counts us. and_then (descend ts (reading most depth B inside) counts us) (shut most role right f)) reason rest → Stopped most Whole counts ts reason rest
      by (at_first p) =
          one_stops {A = Unit {0}} most Whole role (the_mark left tt) counts ts reason rest (bracket_none role left right f inside ok) (λ t a accepts. subst (λ t. Whole ((role, t) ∷ [])) (sym (mark_token left t accepts)) (bracket_begun role left right f inside ok))
          (one_refused {A = Unit {0}} most role (the_mark left tt) counts ts reason rest p)
      by (at_next u first us p n) =
          let one = one_got {A = Unit {0}} most role (the_mark left tt) counts ts u first us p in
          let token : one.token ≡ g.mark left = mark_token left one.token one.accepts in
          let counted : first ≡ after counts (role, g.mark left) = one.counted ∙ ap (λ t. after counts (role, t)) token in
          opened depth below enough us (one.is ∙ ap (λ t. t ∷ us) token) (subst (λ t. refused most counts (role, t) ≡ None) token one.allows)
          (ap (λ c. and_then (descend ts (reading most depth B inside) c us) (shut most role right f)) (sym counted) ∙ n)

-- ---- every rule

module _ (most : Counts) (all_fine : AllFine) where
  module _ (depth : ℕ) (below : (e : ℕ) → depth ≡ suc e → (B : Type 0) (inside : Inside B) → Stops most e (read most (reading most e) (content inside)) (Begins (content inside))) where
    flat : {A : Type 0} (r : Rule A) → fine r ≡ true → (items : List Item) (a : A) → Spells (Inner depth) r items a → Level items
    flat r ok = level (Inner depth) (levels all_fine depth) r ok

    stops_rule : {A : Type 0} (r : Rule A) → fine r ≡ true → Stops most depth (read most (reading most depth) r) (Begins r)
    stops_rule (one role choice) ok counts ts reason rest h enough =
        let s = some_token choice (both_left (lively choice) (plain choice) ok) in
        one_stops most (Begins (one role choice)) role choice counts ts reason rest
        (record { depth = 1; more = (role, s.token) ∷ []; value = s.value; spells = (s.token, refl, s.accepts) })
        (λ t a accepts. record { depth = 1; more = []; value = a; spells = (t, refl, accepts) })
        (one_refused most role choice counts ts reason rest h)
    stops_rule (both f r q) ok counts ts reason rest h enough =
        let ok_r = both_left (fine r) _ ok in
        let ok_q = both_left (fine q) _ (both_right (fine r) _ ok) in
        stops_both most depth f r q ok_q (read most (reading most depth) r) (read most (reading most depth) q) (sound most depth r) (flat r ok_r) (stops_rule r ok_r) (stops_rule q ok_q) counts ts reason rest h enough
    stops_rule (many f r) ok counts ts reason rest h enough =
        let ok_r = both_left (fine r) _ ok in
        stopped_as (BeginsMany r) (Begins (many f r)) (λ items v. record { depth = v.depth; more = v.more; value = f v.values; spells = (v.values, v.spells, refl) })
        (stops_turns most depth r (read most (reading most depth) r) (begins r) (sound most depth r) (flat r ok_r) (stops_rule r ok_r) (length ts) counts ts reason rest
        (shaped_bad (turns (read most (reading most depth) r) (begins r) (length ts) counts ts) f reason rest h) enough)
    stops_rule (maybe f r) ok counts ts reason rest h enough = by (starts (begins r) ts) (stops_rule r (both_left (fine r) _ ok)) h
      where
        by : (b : Bool) → Stops most depth (read most (reading most depth) r) (Begins r) → (if b then and_then (read most (reading most depth) r counts ts) (λ b counts ts. got (f (Some b)) counts ts) else got (f None) counts ts) ≡ bad reason rest → Stopped most (Begins (maybe f r)) counts ts reason rest
        by true inner h =
            stopped_as (Begins r) (Begins (maybe f r)) (λ items v. record { depth = v.depth; more = v.more; value = f (Some v.value); spells = (Some v.value, v.spells, refl) })
            (inner counts ts reason rest (shaped_bad (read most (reading most depth) r counts ts) (λ b. f (Some b)) reason rest h) enough)
        by false inner h = absurd (got_bad h)
    stops_rule (either r q) ok counts ts reason rest h enough = by (starts (begins r) ts) (stops_rule r (both_left (fine r) _ ok)) (stops_rule q (both_left (fine q) _ (both_right (fine r) _ ok))) h
      where
        by : (b : Bool) → Stops most depth (read most (reading most depth) r) (Begins r) → Stops most depth (read most (reading most depth) q) (Begins q) → (if b then read most (reading most depth) r counts ts else read most (reading most depth) q counts ts) ≡ bad reason rest
            → Stopped most (Begins (either r q)) counts ts reason rest
        by true left right h = stopped_as (Begins r) (Begins (either r q)) (λ items v. record { depth = v.depth; more = v.more; value = v.value; spells = inl v.spells }) (left counts ts reason rest h enough)
        by false left right h = stopped_as (Begins q) (Begins (either r q)) (λ items v. record { depth = v.depth; more = v.more; value = v.value; spells = inr v.spells }) (right counts ts reason rest h enough)
    stops_rule (within {B = B} role left right f inside) ok counts ts reason rest h enough =
        stops_within most role left right f inside ok depth (λ e is. below e is B inside) counts ts reason rest h enough

  stops_inside : (depth e : ℕ) → depth ≡ suc e → (B : Type 0) (inside : Inside B) → Stops most e (read most (reading most e) (content inside)) (Begins (content inside))
  stops_inside zero e is B inside = absurd (omega arith)
  stops_inside (suc depth) e is B inside =
      let same : depth ≡ e = omega arith in
      subst (λ n. Stops most n (read most (reading most n) (content inside)) (Begins (content inside))) same (stops_rule depth (λ n is B inside. stops_inside depth n is B inside) (content inside) (all_fine B inside))

  -- where reading by a rule stops, it could have gone on to there
  pub stops : (depth : ℕ) {A : Type 0} (r : Rule A) → fine r ≡ true → Stops most depth (read most (reading most depth) r) (Begins r)
  stops depth r ok = stops_rule depth (λ e is B inside. stops_inside depth e is B inside) r ok
