-- Two ways to read one text: one goes as far as the other.
use Rattle.std.proofs.Common.{◌≡◌, ℕ, true, List, [], ◌∷◌, ◌++◌, refl, sym, ap, subst, ◌∙◌, append_assoc}
use Rattle.bs_logread.specs.declared.lines.Line.{Line}
use Rattle.bs_logread.specs.declared.order.Progress.{Progress}
use Rattle.bs_logread.specs.Line.{line_text, is_in_range}
use Rattle.bs_logread.specs.Order.{after, has_place, may_stand, is_within, fits, IsInOrder, behind_all}
use Rattle.bs_logread.specs.Fault.{lines_text}
use Rattle.bs_logread.proofs.Fields.{parted}
use Rattle.bs_logread.proofs.Ends.{one_line}

-- Both end at one place, or one of them has a further line there.
pub data Met (p : Progress) (xs : List Line) (s : List ℕ) (ys : List Line) (t : List ℕ) : Type 0 where
  together : xs ≡ ys → s ≡ t → Met p xs s ys t
  first_ends : (y : Line) (others : List ℕ) → s ≡ line_text y ++ others → fits (behind_all p xs) y ≡ true → Met p xs s ys t
  second_ends : (x : Line) (others : List ℕ) → t ≡ line_text x ++ others → fits (behind_all p ys) x ≡ true → Met p xs s ys t

fits_range : (p : Progress) (x : Line) → fits p x ≡ true → is_in_range x ≡ true
fits_range p x f = (parted (is_in_range x) (has_place p x) (parted (may_stand p x) (is_within p x) f).0).0

longer : (p : Progress) (x : Line) (xs : List Line) (s : List ℕ) (ys : List Line) (t : List ℕ) → Met (after p x) xs s ys t → Met p (x ∷ xs) s (x ∷ ys) t
longer p x xs s ys t (together e f) = together (ap (λ (l : List Line). x ∷ l) e) f
longer p x xs s ys t (first_ends y others e f) = first_ends y others e f
longer p x xs s ys t (second_ends y others e f) = second_ends y others e f

pub compared : (p : Progress) (xs : List Line) (s : List ℕ) (ys : List Line) (t : List ℕ) → IsInOrder p xs → IsInOrder p ys → lines_text xs ++ s ≡ lines_text ys ++ t → Met p xs s ys t
compared p [] s [] t o q e = together refl e
compared p [] s (y ∷ ys) t o q e = first_ends y (lines_text ys ++ t) (e ∙ append_assoc (line_text y) (lines_text ys) t) q.0
compared p (x ∷ xs) s [] t o q e = second_ends x (lines_text xs ++ s) (sym e ∙ append_assoc (line_text x) (lines_text xs) s) o.0
compared p (x ∷ xs) s (y ∷ ys) t o q e =
    let one = one_line x y (lines_text xs ++ s) (lines_text ys ++ t) (fits_range p x o.0) (fits_range p y q.0)
    (sym (append_assoc (line_text x) (lines_text xs) s) ∙ (e ∙ append_assoc (line_text y) (lines_text ys) t)) in
    let same = one.line in
    let order = subst (λ (z : Line). IsInOrder (after p z) ys) (sym same) q.1 in
    subst (λ (z : Line). Met p (x ∷ xs) s (z ∷ ys) t) same (longer p x xs s ys t (compared (after p x) xs s ys t o.1 order one.rest))
