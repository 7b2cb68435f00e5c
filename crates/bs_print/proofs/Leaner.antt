-- Items that come of other ones by leaving parentheses of expressions away: they say the same names and numbers, and
-- pass a limit only where the other ones do.
use Rattle.std.proofs.Common.{◌≡◌, ℕ, zero, suc, pred, ◌<◌, ◌≤◌, List, [], ◌∷◌, ◌++◌, None, Bool, true, false, if◌then◌else◌, nat_le, refl, sym, ap, ◌∙◌, arith}
use Rattle.std.specs.List.{flat_map}
use Rattle.std.proofs.lemmas.Bool.{leb-false, lt-leb}
use Rattle.std.proofs.lemmas.List.Concat.{flat_map-append}
use Rattle.bs_tree.specs.declared.symbols.Mark.{Mark}
use Rattle.bs_tree.specs.declared.symbols.Mark.TheVariants as m
use Rattle.bs_tree.specs.Rule.{Terminal, name, number, mark, Role, opening, outside, operand, operator, closing, Item, terminals}
use Rattle.bs_tree.specs.Limits.{Counts, opens, closes, operators_after, statements_after, after, after_all, refused, refused_role, Within}
use Rattle.bs_parse.proofs.Basics.{Test, holds, fails, test, append_none, terminals_append, after_append, within_join, within_left, within_right}
use Rattle.bs_parse.proofs.Fine.{Level, level_within}
use Rattle.bs_print.specs.Expressions.{bracketed, grouped}

pub data Leaner : List Item → List Item → Type 0 where
  nothing : Leaner [] []
  token : (role : Role) (t : Terminal) → opens t ≡ false → closes t ≡ false → Leaner ((role, t) ∷ []) ((role, t) ∷ [])
  behind : (ys xs vs us : List Item) → Leaner ys xs → Leaner vs us → Leaner (ys ++ vs) (xs ++ us)
  bracket : (role : Role) (left right : Mark) → opens (mark left) ≡ true → closes (mark right) ≡ true → (ys xs : List Item) → Leaner ys xs
      → Leaner (bracketed role left right ys) (bracketed role left right xs)
  dropped : (ys xs : List Item) → Leaner ys xs → Leaner ys (grouped operand xs)

-- ---- the names and numbers

abbrev pub leaf : Terminal → List Terminal
leaf (name n) = name n ∷ []
leaf (number z) = number z ∷ []
leaf _ = []

abbrev pub leaves : List Terminal → List Terminal
leaves ts = flat_map leaf ts

leaves_join : (xs ys : List Item) → leaves (terminals (xs ++ ys)) ≡ leaves (terminals xs) ++ leaves (terminals ys)
leaves_join xs ys = ap leaves (terminals_append xs ys) ∙ flat_map-append leaf (terminals xs) (terminals ys)

leaves_bracketed : (role : Role) (left right : Mark) (xs : List Item) → leaves (terminals (bracketed role left right xs)) ≡ leaves (terminals xs)
leaves_bracketed role left right xs = leaves_join xs ((closing role, mark right) ∷ []) ∙ append_none (leaves (terminals xs))

pub same_leaves : (ys xs : List Item) → Leaner ys xs → leaves (terminals ys) ≡ leaves (terminals xs)
same_leaves _ _ nothing = refl
same_leaves _ _ (token role t o c) = refl
same_leaves _ _ (behind ys xs vs us l k) =
    leaves_join ys vs ∙ ap (λ ts. ts ++ leaves (terminals vs)) (same_leaves ys xs l) ∙ ap (λ ts. leaves (terminals xs) ++ ts) (same_leaves vs us k) ∙ sym (leaves_join xs us)
same_leaves _ _ (bracket role left right o c ys xs l) = leaves_bracketed role left right ys ∙ same_leaves ys xs l ∙ sym (leaves_bracketed role left right xs)
same_leaves _ _ (dropped ys xs l) = same_leaves ys xs l ∙ sym (leaves_bracketed operand m.ParenLeft m.ParenRight xs)

-- ---- as many brackets are open behind them as before

level_join : (xs ys : List Item) → Level xs → Level ys → Level (xs ++ ys)
level_join xs ys p q = λ c. rw (after_append c xs ys) (q (after_all c xs) ∙ p c)

level_token : (role : Role) (t : Terminal) → opens t ≡ false → closes t ≡ false → Level ((role, t) ∷ [])
level_token role t o c = λ counts. rw (o, c) refl

level_lean : (ys xs : List Item) → Leaner ys xs → Level ys
level_lean _ _ nothing = λ c. refl
level_lean _ _ (token role t o c) = level_token role t o c
level_lean _ _ (behind ys xs vs us l k) = level_join ys vs (level_lean ys xs l) (level_lean vs us k)
level_lean _ _ (bracket role left right o c ys xs l) = level_within role (closing role) left right ys _ o c refl (level_lean ys xs l)
level_lean _ _ (dropped ys xs l) = level_lean ys xs l

level_whole : (ys xs : List Item) → Leaner ys xs → Level xs
level_whole _ _ nothing = λ c. refl
level_whole _ _ (token role t o c) = level_token role t o c
level_whole _ _ (behind ys xs vs us l k) = level_join xs us (level_whole ys xs l) (level_whole vs us k)
level_whole _ _ (bracket role left right o c ys xs l) = level_within role (closing role) left right xs _ o c refl (level_whole ys xs l)
level_whole _ _ (dropped ys xs l) = level_within operand operand m.ParenLeft m.ParenRight xs _ refl refl refl (level_whole ys xs l)

-- ---- the limits

-- no more brackets are open, and all else is the same
pub record Lower (low high : Counts) : Type 0 where
  pub brackets : low.brackets ≤ high.brackets
  pub operators : low.operators ≡ high.operators
  pub statements : low.statements ≡ high.statements

abbrev opened : ℕ → Bool → Bool → ℕ
opened n o c = if o then suc n else (if c then pred n else n)

lower_pred : (low high : ℕ) → low ≤ high → pred low ≤ pred high
lower_pred zero high le = omega arith
lower_pred (suc low) zero le = absurd (omega arith)
lower_pred (suc low) (suc high) le = omega arith

lower_opened : (o c : Bool) (low high : ℕ) → low ≤ high → opened low o c ≤ opened high o c
lower_opened true c low high le = omega arith
lower_opened false true low high le = lower_pred low high le
lower_opened false false low high le = le

lower_after : (low high : Counts) (item : Item) → Lower low high → Lower (after low item) (after high item)
lower_after low high item l = record {
  brackets = lower_opened (opens item.1) (closes item.1) low.brackets high.brackets l.brackets;
  operators = ap (λ n. operators_after n item.0) l.operators;
  statements = ap (λ n. statements_after n item.0) l.statements;
}

refused_lower : (most low high : Counts) (item : Item) → Lower low high → refused most high item ≡ None → refused most low item ≡ None
refused_lower most low high item l h = by (test (opens item.1)) (test (nat_le most.brackets high.brackets))
  where
    same_role : (role : Role) → refused_role most high role ≡ None → refused_role most low role ≡ None
    same_role opening p = rw l.statements p
    same_role outside p = refl
    same_role operand p = refl
    same_role operator p = rw l.operators p

    by : Test (opens item.1) → Test (nat_le most.brackets high.brackets) → refused most low item ≡ None
    by (fails o) n = rw o (same_role item.0 (rw o at h))
    by (holds o) (holds n) = absurd (let h' = rw (o, n) at h in cc)
    by (holds o) (fails n) =
        let lt : high.brackets < most.brackets = leb-false _ _ n in
        let less : nat_le most.brackets low.brackets ≡ false = lt-leb _ _ (omega (arith, l.brackets)) in
        rw (o, less) (same_role item.0 (rw (o, n) at h))

pub record Fits (most low high : Counts) (ys xs : List Item) : Type 0 where
  pub allows : Within most low ys
  pub end : Lower (after_all low ys) (after_all high xs)

fit_item : (most low high : Counts) (item : Item) → Lower low high → Within most high (item ∷ []) → Fits most low high (item ∷ []) (item ∷ [])
fit_item most low high item l w = record { allows = (refused_lower most low high item l w.0, tt); end = lower_after low high item l }

fit_then : (most low high : Counts) (ys xs vs us : List Item) → Fits most low high ys xs → Fits most (after_all low ys) (after_all high xs) vs us → Fits most low high (ys ++ vs) (xs ++ us)
fit_then most low high ys xs vs us p q = record {
  allows = within_join most low ys vs p.allows q.allows;
  end = rw (after_append low ys vs, after_append high xs us) q.end;
}

shut_lower : (a mid high low : ℕ) → a ≡ low → mid ≡ suc high → low ≤ high → a ≤ pred mid
shut_lower a mid high low e f le = rw (e, f) le

pub fits : (most : Counts) (ys xs : List Item) → Leaner ys xs → (low high : Counts) → Lower low high → Within most high xs → Fits most low high ys xs
fits most _ _ nothing low high l w = record { allows = tt; end = l }
fits most _ _ (token role t o c) low high l w = fit_item most low high (role, t) l w
fits most _ _ (behind ys xs vs us p q) low high l w =
    let first = fits most ys xs p low high l (within_left most high xs us w) in
    fit_then most low high ys xs vs us first (fits most vs us q (after_all low ys) (after_all high xs) first.end (within_right most high xs us w))
fits most _ _ (bracket role left right o c ys xs p) low high l w =
    let before : Item = (role, mark left) in
    let behind' : List Item = (closing role, mark right) ∷ [] in
    let first = fit_item most low high before l (w.0, tt) in
    let inner = fits most ys xs p (after low before) (after high before) first.end (within_left most (after high before) xs behind' w.1) in
    let last = fit_item most (after_all (after low before) ys) (after_all (after high before) xs) (closing role, mark right) inner.end (within_right most (after high before) xs behind' w.1) in
    fit_then most low high (before ∷ []) (before ∷ []) (ys ++ behind') (xs ++ behind') first (fit_then most (after low before) (after high before) ys xs behind' behind' inner last)
fits most _ _ (dropped ys xs p) low high l w =
    let before : Item = (operand, mark m.ParenLeft) in
    let behind' : List Item = (operand, mark m.ParenRight) ∷ [] in
    let wider : Lower low (after high before) = record { brackets = omega (arith, l.brackets); operators = l.operators; statements = l.statements } in
    let inner = fits most ys xs p low (after high before) wider (within_left most (after high before) xs behind' w.1) in
    let mid = after_all (after high before) xs in
    let end : Lower (after_all low ys) (after mid (operand, mark m.ParenRight)) = record {
      brackets = shut_lower (after_all low ys).brackets mid.brackets high.brackets low.brackets (level_lean ys xs p low) (level_whole ys xs p (after high before)) l.brackets;
      operators = inner.end.operators;
      statements = inner.end.statements;
    } in
    record { allows = inner.allows; end = rw (after_append (after high before) xs behind') end }
