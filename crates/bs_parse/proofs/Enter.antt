-- Reading within brackets, from what is read at the opening one, inside and at the closing one.
use Rattle.std.proofs.Common.{◌≡◌, suc, pred, ◌-◌, ◌≤◌, ◌<◌, List, Some, None, true, false, Result, Ok, Err, refl, sym, ap, subst, ◌∙◌, arith}
use Rattle.bs_tree.specs.declared.symbols.Mark.{Mark}
use Rattle.bs_tree.specs.Rule as g
use Rattle.bs_tree.specs.Rule.{Terminal, Role, Inside, Rule, within, the_mark, closing}
use Rattle.bs_tree.specs.Grammar.{content}
use Rattle.bs_tree.specs.Limits.{after, opens, closes, refused, most_allowed, Reason}
use Rattle.bs_parse.specs.Reading.{Outcome, got, bad, and_then, read_one, descend, read, reading}
use Rattle.bs_tree.specs.Rule.{an_operator, operator, one, Choice}
use Rattle.bs_tree.specs.declared.tree.Op2.{Op2}
use Rattle.bs_tree.specs.Grammar.{as_it_is}
use Rattle.bs_parse.specs.declared.cursor.Level.{Level}
use Rattle.bs_parse.specs.declared.cursor.Level.TheVariants as level
use Rattle.bs_parse.specs.declared.cursor.Stop.{Stop}
use Rattle.bs_parse.specs.declared.cursor.Stop.TheVariants.{Memory, At}
use Rattle.bs_parse.specs.Seen.{Input, by_rule, Follows, Reads, Shuts, reason_of, operators_of, level_number}
use Rattle.bs_parse.proofs.Basics.{one_got, shaped, shaped_bad}
use Rattle.bs_parse.proofs.Fine.{closes_no_more, plain, plain_tells}
use Rattle.bs_parse.proofs.Complete.{not_deep, bracket_after}
use Rattle.bs_parse.proofs.Sound.{mark_token, shut}

abbrev Opened : Role → Mark → Input → Input → Type 0
Opened role left i j = read_one {A = Unit {0}} most_allowed role (the_mark left tt) i.counts i.rest ≡ got tt j.counts j.rest

pub risen : (role : Role) (left : Mark) (i j : Input) → opens (g.mark left) ≡ true → Opened role left i j → j.counts.brackets ≡ suc i.counts.brackets
risen role left i j o h =
    let w = one_got {A = Unit {0}} most_allowed role (the_mark left tt) i.counts i.rest tt j.counts j.rest h in
    ap (λ c. c.brackets) (w.counted ∙ ap (λ t. after i.counts (role, t)) (mark_token left w.token w.accepts)) ∙ bracket_after i.counts role left o

pub room : (role : Role) (left : Mark) (i j : Input) → opens (g.mark left) ≡ true → Opened role left i j → i.counts.brackets < 64
room role left i j o h =
    let w = one_got {A = Unit {0}} most_allowed role (the_mark left tt) i.counts i.rest tt j.counts j.rest h in
    not_deep most_allowed i.counts (role, g.mark left) o (subst (λ t. refused most_allowed i.counts (role, t) ≡ None) (mark_token left w.token w.accepts) w.allows)

pub fallen : (role : Role) (right : Mark) (i j : Input) → closes (g.mark right) ≡ true → Opened role right i j → j.counts.brackets ≡ pred i.counts.brackets
fallen role right i j e h =
    let w = one_got {A = Unit {0}} most_allowed role (the_mark right tt) i.counts i.rest tt j.counts j.rest h in
    ap (λ c. c.brackets) (w.counted ∙ ap (λ t. after i.counts (role, t)) (mark_token right w.token w.accepts)) ∙ down
  where
    down : (after i.counts (role, g.mark right)).brackets ≡ pred i.counts.brackets
    down = rw (closes_no_more (g.mark right) e, e) refl

module _ {A B : Type 0} (role : Role) (left right : Mark) (f : B → A) (inside : Inside B) (i j : Input) (o : opens (g.mark left) ≡ true) (h : Opened role left i j) where
  deeper : reading most_allowed (64 - i.counts.brackets) B inside ≡ Some (read most_allowed (reading most_allowed (64 - j.counts.brackets)) (content inside))
  deeper =
      let eq : 64 - i.counts.brackets ≡ suc (64 - j.counts.brackets) = omega (arith, risen role left i j o h, room role left i j o h) in
      ap (λ n. reading most_allowed n B inside) eq

  pub entered : by_rule (within role left right f inside) i ≡ and_then (by_rule (content inside) j) (shut most_allowed role right f)
  entered = ap (λ z. and_then z (λ _ c us. and_then (descend i.rest (reading most_allowed (64 - i.counts.brackets) B inside) c us) (shut most_allowed role right f))) h
      ∙ ap (λ z. and_then (descend i.rest z j.counts j.rest) (shut most_allowed role right f)) deeper

  pub inner_refused : (reason : Reason) (ts : List Terminal) → by_rule (content inside) j ≡ bad reason ts → by_rule (within role left right f inside) i ≡ bad reason ts
  inner_refused reason ts p = entered ∙ ap (λ z. and_then z (shut most_allowed role right f)) p

  pub inner_read : (k : Input) (b : B) → by_rule (content inside) j ≡ got b k.counts k.rest → by_rule (within role left right f inside) i ≡ shut most_allowed role right f b k.counts k.rest
  inner_read k b p = entered ∙ ap (λ z. and_then z (shut most_allowed role right f)) p

  pub shut_refused : (k : Input) (b : B) (reason : Reason) (ts : List Terminal) → by_rule (content inside) j ≡ got b k.counts k.rest → read_one {A = Unit {0}} most_allowed (closing role) (the_mark right tt) k.counts k.rest ≡ bad reason ts → by_rule (within role left right f inside) i ≡ bad reason ts
  shut_refused k b reason ts p q = inner_read k b p ∙ ap (λ z. and_then z (λ _ c us. got (f b) c us)) q

  pub shut_read : (k l : Input) (b : B) → closes (g.mark right) ≡ true → by_rule (content inside) j ≡ got b k.counts k.rest → k.counts.brackets ≡ j.counts.brackets → Opened (closing role) right k l
      → (by_rule (within role left right f inside) i ≡ got (f b) l.counts l.rest) × (l.counts.brackets ≡ i.counts.brackets)
  shut_read k l b e p same q = (
    inner_read k b p ∙ ap (λ z. and_then z (λ _ c us. got (f b) c us)) q,
    fallen (closing role) right k l e q ∙ ap pred (same ∙ risen role left i j o h),
  )

-- ---- what a function that reads within brackets owes

shut_inverted : {B : Type 0} (o : Outcome (Unit {0})) (b a : B) (l : Input) → and_then o (λ _ counts ts. got b counts ts) ≡ got a l.counts l.rest → (o ≡ got tt l.counts l.rest) × (b ≡ a)
shut_inverted o b a l h = let z = shaped o (λ _. b) a l.counts l.rest h in (z.is, z.shape)

module _ {A B : Type 0} (role : Role) (left right : Mark) (f : B → A) (inside : Inside B) (i j k l : Input) (o : opens (g.mark left) ≡ true) (e : closes (g.mark right) ≡ true) (same : closing role ≡ role) (h : Opened role left i j) where
  pub brackets_read : (b a : B) → Follows (content inside) (Ok b) j k → Reads (and_then (read_one {A = Unit {0}} most_allowed role (the_mark right tt) k.counts k.rest) (λ _ counts ts. got b counts ts)) (Ok a) k l → Follows (within role left right f inside) (Ok (f a)) i l
  brackets_read b a p q =
      let z = shut_inverted (read_one {A = Unit {0}} most_allowed role (the_mark right tt) k.counts k.rest) b a l q in
      let r = shut_read role left right f inside i j o h k l b e p.0 p.1 (subst (λ x. Opened x right k l) (sym same) z.0) in
      (r.0 ∙ ap (λ b. got (f b) l.counts l.rest) z.1, r.1)

  pub brackets_shut : (b : B) (stop : Stop) → Follows (content inside) (Ok b) j k → Reads (and_then (read_one {A = Unit {0}} most_allowed role (the_mark right tt) k.counts k.rest) (λ _ counts ts. got b counts ts)) (Err stop) k l → Follows (within role left right f inside) (Err stop) i l
  brackets_shut b Memory p q = tt
  brackets_shut b (At reason) p q =
      shut_refused role left right f inside i j o h k b (reason_of reason) l.rest p.0 (subst (λ x. read_one {A = Unit {0}} most_allowed x (the_mark right tt) k.counts k.rest ≡ bad (reason_of reason) l.rest) (sym same)
      (shaped_bad (read_one {A = Unit {0}} most_allowed role (the_mark right tt) k.counts k.rest) (λ _. b) (reason_of reason) l.rest q))

  pub brackets_stop : (stop : Stop) → Follows (content inside) (Err stop) j k → l ≡ k → Follows (within role left right f inside) (Err stop) i l
  brackets_stop Memory p q = tt
  brackets_stop (At reason) p q = inner_refused role left right f inside i j o h (reason_of reason) l.rest (p ∙ ap (λ x. bad (reason_of reason) x.rest) (sym q))

-- the whole, for what the tree keeps as it is
pub brackets : {B : Type 0} (role : Role) (left right : Mark) (inside : Inside B) (i j k l : Input) → opens (g.mark left) ≡ true → closes (g.mark right) ≡ true → closing role ≡ role → Opened role left i j
    → (inner result : Result B Stop) → Follows (content inside) inner j k → Shuts role right inner result k l → Follows (within role left right as_it_is inside) result i l
brackets role left right inside i j k l o e same h (Ok b) (Ok a) p q = brackets_read role left right as_it_is inside i j k l o e same h b a p q
brackets role left right inside i j k l o e same h (Ok b) (Err stop) p q = brackets_shut role left right as_it_is inside i j k l o e same h b stop p q
brackets role left right inside i j k l o e same h (Err stop) result p q =
    subst (λ r. Follows (within role left right as_it_is inside) r i l) (sym q.0) (brackets_stop role left right as_it_is inside i j k l o e same h stop p q.1)

-- ---- tokens that are no brackets

pub operator_flat : (lvl : Level) (i j : Input) (op : Op2) → read_one most_allowed operator (an_operator (operators_of lvl)) i.counts i.rest ≡ got op j.counts j.rest → j.counts.brackets ≡ i.counts.brackets
operator_flat lvl i j op h =
    let w = one_got most_allowed operator (an_operator (operators_of lvl)) i.counts i.rest op j.counts j.rest h in
    ap (λ c. c.brackets) w.counted ∙ kept w.token (plain_tells (an_operator (operators_of lvl)) w.token op (plain_level lvl) w.accepts)
  where
    plain_level : (lvl : Level) → plain (an_operator (operators_of lvl)) ≡ true
    plain_level level.Or = refl
    plain_level level.And = refl
    plain_level level.Comparison = refl
    plain_level level.Sum = refl
    plain_level level.Product = refl

    kept : (t : Terminal) → (opens t ≡ false) × (closes t ≡ false) → (after i.counts (operator, t)).brackets ≡ i.counts.brackets
    kept t p = rw (p.0, p.1) refl

pub few_levels : (lvl : Level) → level_number lvl ≤ 4
few_levels level.Or = omega arith
few_levels level.And = omega arith
few_levels level.Comparison = omega arith
few_levels level.Sum = omega arith
few_levels level.Product = omega arith

-- a token that is no bracket is read by its rule
pub token_follows : {A : Type 0} (role : Role) (choice : Choice A) (i j : Input) → plain choice ≡ true → (result : Result A Stop) → Reads (read_one most_allowed role choice i.counts i.rest) result i j → Follows (one role choice) result i j
token_follows role choice i j p (Ok a) h =
    let w = one_got most_allowed role choice i.counts i.rest a j.counts j.rest h in
    (h, ap (λ c. c.brackets) w.counted ∙ kept w.token (plain_tells choice w.token a p w.accepts))
  where
    kept : (t : Terminal) → (opens t ≡ false) × (closes t ≡ false) → (after i.counts (role, t)).brackets ≡ i.counts.brackets
    kept t q = rw (q.0, q.1) refl
token_follows role choice i j p (Err Memory) h = tt
token_follows role choice i j p (Err (At reason)) h = h

-- brackets of which the tree keeps something made of what stands inside
module _ {A B : Type 0} (role : Role) (left right : Mark) (f : B → A) (inside : Inside B) (i j k l : Input) (o : opens (g.mark left) ≡ true) (e : closes (g.mark right) ≡ true) (h : Opened role left i j) where
  pub made_read : (inner : Result B Stop) (a : B) → Follows (content inside) inner j k → Shuts (closing role) right inner (Ok a) k l → Follows (within role left right f inside) (Ok (f a)) i l
  made_read (Ok b) a p q =
      let z = shut_inverted (read_one {A = Unit {0}} most_allowed (closing role) (the_mark right tt) k.counts k.rest) b a l q in
      let r = shut_read role left right f inside i j o h k l b e p.0 p.1 z.0 in
      (r.0 ∙ ap (λ b. got (f b) l.counts l.rest) z.1, r.1)
  made_read (Err stop) a p q = absurd (let never = q.0 in cc)

  pub made_stop : (inner : Result B Stop) (stop : Stop) → Follows (content inside) inner j k → Shuts (closing role) right inner (Err stop) k l → Follows (within role left right f inside) (Err stop) i l
  made_stop inner Memory p q = tt
  made_stop (Ok b) (At reason) p q =
      shut_refused role left right f inside i j o h k b (reason_of reason) l.rest p.0
      (shaped_bad (read_one {A = Unit {0}} most_allowed (closing role) (the_mark right tt) k.counts k.rest) (λ _. b) (reason_of reason) l.rest q)
  made_stop (Err stop) (At reason) p q =
      let same : stop ≡ At reason = let is = q.0 in cc in
      let p' : Follows (content inside) (Err (At reason)) j k = subst (λ s. Follows (content inside) (Err s) j k) same p in
      inner_refused role left right f inside i j o h (reason_of reason) l.rest (p' ∙ ap (λ x. bad (reason_of reason) x.rest) (sym q.1))
