-- How far a text is read.
use Rattle.std.proofs.Common.{◌≡◌, ◌≢◌, ◌≤◌, ℕ, suc, ◌+◌, ◌==◌, Bool, true, false, List, [], ◌∷◌, ◌++◌, length, length-append, refl, sym, ap, subst, ◌∙◌, append_assoc, arith}
use Rattle.std.proofs.lemmas.List.{append-nil, nil_from_length}
use Rattle.std.proofs.lemmas.Bool.Decides.{nat_tests}
use Rattle.std.proofs.lemmas.List.Concat.{flat_map-append}
use Rattle.std.proofs.lemmas.List.Sums.{fold_push}
use Rattle.bs_logread.specs.declared.draft.Draft.{Draft}
use Rattle.bs_logread.specs.declared.lines.Line.{Line}
use Rattle.bs_logread.specs.declared.lines.Line.TheVariants as l
use Rattle.bs_logread.specs.declared.order.Progress.{Progress}
use Rattle.bs_logread.specs.Line.{line_text, is_in_range}
use Rattle.bs_logread.specs.Order.{start, after, may_follow, rows_allow, has_place, may_stand, is_within, fits, IsInOrder, behind_all}
use Rattle.bs_logread.specs.Draft.{taken, empty, log_of}
use Rattle.bs_logread.specs.Fault.{lines_text, NoneStands, IsDone, IsUnreadable, IsTooMuch, IsRead}
use Rattle.bs_logread.proofs.Ends.{line_longer, not_true}
use Rattle.bs_logread.proofs.Fields.{parted}
use Rattle.bs_logread.proofs.Spelling.{log_spelled}
use Rattle.bs_logread.proofs.Steps.{Sound, drafted, step, nothing, whole}

pub record SoFar (bytes : List ℕ) (p : Progress) (d : Draft) (rest : List ℕ) (number : ℕ) : Type 0 where
  pub sound : Sound p d
  pub text_is : bytes ≡ lines_text (drafted p d) ++ rest
  pub in_order : IsInOrder start (drafted p d)
  pub progress_is : behind_all start (drafted p d) ≡ p
  pub number_is : number ≡ suc (length (drafted p d))
  pub room : number + length rest ≤ suc (length bytes)

pub begun : (bytes : List ℕ) → SoFar bytes start empty bytes 1
begun bytes = record { sound = nothing; text_is = refl; in_order = tt; progress_is = refl; number_is = refl; room = omega arith }

-- one more line in order
order_grows : (p : Progress) (front : List Line) (x : Line) → IsInOrder p front → fits (behind_all p front) x ≡ true → IsInOrder p (front ++ x ∷ [])
order_grows p [] x o f = (f, tt)
order_grows p (y ∷ front) x o f = (o.0, order_grows (after p y) front x o.1 f)

pub one_more : (bytes : List ℕ) (p : Progress) (d : Draft) (rest : List ℕ) (number : ℕ) (x : Line) (others : List ℕ)
    → SoFar bytes p d rest number → rest ≡ line_text x ++ others → fits p x ≡ true → SoFar bytes (after p x) (taken d x) others (number + 1)
one_more bytes p d rest number x others s e f =
    let n = step p d x s.sound f in
    let lines = n.lines in
    let longer = line_longer x others in
    let sizes = ap length e in
    let count = length-append (drafted p d) (x ∷ []) in
    let room = s.room in
    let number_is = s.number_is in
    record {
      sound = n.sound;
      text_is = s.text_is ∙ (ap (λ (t : List ℕ). lines_text (drafted p d) ++ t) e ∙ rw (lines, flat_map-append line_text (drafted p d) (x ∷ [])) (simp (append-nil, append_assoc)));
      in_order = subst (IsInOrder start) (sym lines) (order_grows start (drafted p d) x s.in_order (ap (λ (q : Progress). fits q x) s.progress_is ∙ f));
      progress_is = ap (behind_all start) lines ∙ (fold_push after start (drafted p d) x ∙ ap (λ (q : Progress). after q x) s.progress_is);
      number_is = rw lines (omega (arith, count, number_is));
      room = omega (arith, longer, sizes, room);
    }

-- the line stops here
pub stop_here : (bytes : List ℕ) (p : Progress) (d : Draft) (rest : List ℕ) (number : ℕ) → SoFar bytes p d rest number → NoneStands p rest → (IsDone p rest → ⊥) → IsUnreadable bytes number
stop_here bytes p d rest number s none more = record {
  front = drafted p d;
  rest = rest;
  line_is = s.number_is;
  text_is = s.text_is;
  in_order = s.in_order;
  more = λ h. more (subst (λ (q : Progress). IsDone q rest) s.progress_is h);
  none = subst (λ (q : Progress). NoneStands q rest) (sym s.progress_is) none;
}

pub stop_over : (bytes : List ℕ) (p : Progress) (d : Draft) (rest : List ℕ) (number : ℕ) (x : Line) (others : List ℕ) → SoFar bytes p d rest number
    → rest ≡ line_text x ++ others → may_stand p x ≡ true → is_within p x ≡ false → IsTooMuch bytes number
stop_over bytes p d rest number x others s e m w = record {
  front = drafted p d;
  one = x;
  others = others;
  line_is = s.number_is;
  text_is = s.text_is ∙ ap (λ (t : List ℕ). lines_text (drafted p d) ++ t) e;
  in_order = s.in_order;
  stands = ap (λ (q : Progress). may_stand q x) s.progress_is ∙ m;
  over = ap (λ (q : Progress). is_within q x) s.progress_is ∙ w;
}

-- nothing stands behind the last line
follows_none : (x : Line) → may_follow 10 x ≡ false
follows_none l.Version = refl
follows_none (l.Counts c) = refl
follows_none (l.Row h) = refl
follows_none (l.After n) = refl
follows_none (l.Mail m) = refl
follows_none (l.Emit v) = refl
follows_none (l.Send s) = refl
follows_none (l.Trap t) = refl
follows_none (l.Wait w) = refl
follows_none l.End = refl

placed_follows : (p : Progress) (x : Line) → may_stand p x ≡ true → may_follow p.last x ≡ true
unfolding has_place
placed_follows p x m = (parted (may_follow p.last x) (rows_allow p x) (parted (is_in_range x) (has_place p x) m).1).0

pub none_behind_end : (p : Progress) (x : Line) → p.last ≡ 10 → may_stand p x ≡ false
none_behind_end p x e = not_true (may_stand p x) (λ m. let a = follows_none x in let b = ap (λ n. may_follow n x) (sym e) ∙ placed_follows p x m in absurd (cc))

pub trailing : (bytes : List ℕ) (p : Progress) (d : Draft) (rest : List ℕ) (number : ℕ) → SoFar bytes p d rest number → p.last ≡ 10 → rest ≢ [] → IsUnreadable bytes number
trailing bytes p d rest number s e some = stop_here bytes p d rest number s (λ x others i. none_behind_end p x e) (λ h. some h.1)

pub done : (bytes : List ℕ) (p : Progress) (d : Draft) (rest : List ℕ) (number : ℕ) → SoFar bytes p d rest number → p.last ≡ 10 → rest ≡ [] → IsRead bytes (log_of d)
done bytes p d rest number s e none =
    let lines = whole p d s.sound e in
    record {
      text_is = s.text_is ∙ (ap (λ (t : List ℕ). lines_text (drafted p d) ++ t) none ∙ (append-nil (lines_text (drafted p d)) ∙ (ap lines_text lines ∙ log_spelled (log_of d))));
      in_order = subst (IsInOrder start) lines s.in_order;
    }

pub some_left : (rest : List ℕ) (b : Bool) → b ≡ (length rest == 0) → b ≡ false → rest ≢ []
some_left rest b e f none = let a : length rest ≡ 0 = ap length none in grind (arith, nat_tests)

pub none_left : (rest : List ℕ) (b : Bool) → b ≡ (length rest == 0) → b ≡ true → rest ≡ []
none_left rest b e t = nil_from_length rest (grind (arith, nat_tests))
