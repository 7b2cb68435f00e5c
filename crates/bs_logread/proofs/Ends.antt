-- Where a line ends: at its line feed, which is the first one.
use Rattle.std.proofs.Common.{◌≡◌, ◌≤◌, ◌<◌, ℕ, ◌^◌, nat_le, ℤ, Bool, true, false, List, [], ◌∷◌, ◌++◌, Some, None, codes, length, length-append, refl, sym, ap, ◌∙◌, append_assoc, arith, lit<}
use Rattle.std.specs.Fmt.{decimal, signed_decimal}
use Rattle.std.proofs.lemmas.Option.{same_Some, some_pair_parts}
use Rattle.std.proofs.lemmas.Bool.Decides.{nat_tests}
use Rattle.bs_log.specs.ValidTest.{is_from, is_word}
use Rattle.bs_logtext.specs.Text.{kind_number}
use Rattle.bs_logread.specs.declared.lines.Line.{Line}
use Rattle.bs_logread.specs.declared.lines.Line.TheVariants as l
use Rattle.bs_logread.specs.declared.order.Progress.{Progress}
use Rattle.bs_logread.specs.Words.{cut}
use Rattle.bs_logread.specs.Line.{line_text, is_small, is_in_range}
use Rattle.bs_logread.specs.Spelled.{line_of}
use Rattle.bs_logread.specs.Order.{has_place, may_stand}
use Rattle.bs_logread.specs.Fault.{NoneStands}
use Rattle.bs_logread.proofs.Body.{body, body_text}
use Rattle.bs_logread.proofs.Fields.{both, parted, bounds, Lacks, lacks_join, decimal_lacks, signed_lacks, cut_front, cut_parts, kind_in}
use Rattle.bs_logread.proofs.Taken.{line_takes}
use Rattle.bs_logread.proofs.Again.{line_again}

-- no line feed stands in the text
record Clear (text : List ℕ) : Type 0 where
  is : Lacks 10 text

word : (text : List ℕ) → Lacks 10 text → Clear text
word text h = record { is = h }

small : (n : ℕ) → is_small n ≡ true → Clear (decimal n)
small n e = let k : n < 2 ^ 32 = grind (arith, nat_tests) in record { is = decimal_lacks 10 n (lit< tt) (omega (arith, k)) }

ranged : (least most n : ℕ) → most < 2 ^ 64 → is_from least most n ≡ true → Clear (decimal n)
ranged least most n m e = let b = bounds least most n e in record { is = decimal_lacks 10 n (lit< tt) (omega (arith, b.1, m)) }

signed : (z : ℤ) → is_word z ≡ true → Clear (signed_decimal z)
signed z e = record { is = signed_lacks 10 z (lit< tt) e }

length_in : (n : ℕ) → nat_le n (2 ^ 30) ≡ true → Clear (decimal n)
length_in n e = let k : n ≤ 2 ^ 30 = grind (arith, nat_tests) in record { is = decimal_lacks 10 n (lit< tt) (omega (arith, k)) }

join : {xs ys : List ℕ} → Clear xs → Clear ys → Clear (xs ++ ys)
join {xs} {ys} p q = record { is = lacks_join 10 xs ys p.is q.is }

-- two words
pair : {xs ys : List ℕ} → Clear xs → Clear ys → Clear (xs ++ 32 ∷ ys)
pair {xs} {ys} p q = record { is = lacks_join 10 xs (32 ∷ ys) p.is q.is }

body_clear : (x : Line) → is_in_range x ≡ true → Clear (body x)
body_clear l.Version r = word (body l.Version) refl
body_clear (l.Counts c) r =
    let a = parted _ _ r in
    let b = parted _ _ a.1 in
    join (word (codes "chares ") refl) (pair (small c.chares a.0) (join (word (codes "entries ") refl) (pair (small c.entries b.0) (join (word (codes "rows ") refl) (small c.rows b.1)))))
body_clear (l.Row h) r =
    let a = parted _ _ r in
    let b = parted _ _ a.1 in
    let c = parted _ _ b.1 in
    join (word (codes "row ") refl) (pair (small h.chare a.0) (pair (ranged 1 10000 h.stmt (lit< tt) b.0) (pair (ranged 1 262144 h.depth (lit< tt) c.0) (ranged 1 (2 ^ 32) h.cost (lit< tt) c.1))))
body_clear (l.After row) r = join (word (codes "after ") refl) (small row r)
body_clear (l.Mail m) r =
    let a = parted _ _ r in
    join (word (codes "mail ") refl) (pair (small m.row a.0) (small m.index a.1))
body_clear (l.Emit v) r = join (word (codes "emit ") refl) (signed v r)
body_clear (l.Send s) r =
    let a = parted _ _ r in
    let b = parted _ _ a.1 in
    let c = parted _ _ b.1 in
    let d = parted _ _ c.1 in
    join (word (codes "send ") refl) (pair (small s.to a.0) (pair (small s.key.entry b.0) (pair (signed s.key.reference c.0) (pair (length_in s.bytes d.0) (ranged 1 (2 ^ 32) s.offset (lit< tt) d.1)))))
body_clear (l.Trap t) r =
    let a = parted _ _ r in
    join (word (codes "trap ") refl) (pair (small t.chare a.0) (pair (ranged 1 10000 t.stmt (lit< tt) a.1) (ranged 1 8 (kind_number t.kind) (lit< tt) (kind_in t.kind))))
body_clear (l.Wait w) r =
    let a = parted _ _ r in
    let b = parted _ _ a.1 in
    let c = parted _ _ b.1 in
    join (word (codes "wait ") refl) (pair (small w.chare a.0) (pair (ranged 1 10000 w.stmt (lit< tt) b.0) (pair (small w.key.entry c.0) (signed w.key.reference c.1))))
body_clear l.End r = word (body l.End) refl

pub body_lacks : (x : Line) → is_in_range x ≡ true → Lacks 10 (body x)
body_lacks x r = (body_clear x r).is

-- a line is cut from a text at its line feed
pub line_cut : (x : Line) (others : List ℕ) → is_in_range x ≡ true → cut 10 (line_text x ++ others) ≡ Some (body x, others)
line_cut x others r =
    let regrouped : line_text x ++ others ≡ body x ++ 10 ∷ others = ap (λ (t : List ℕ). t ++ others) (body_text x) ∙ append_assoc (body x) (10 ∷ []) others in
    ap (cut 10) regrouped ∙ cut_front 10 (body x) others (body_lacks x r)

-- no line is empty
pub line_longer : (x : Line) (others : List ℕ) → length others < length (line_text x ++ others)
line_longer x others =
    let a = length-append (line_text x) others in
    let b = ap length (body_text x) in
    let c = length-append (body x) (10 ∷ []) in
    omega (arith, a, b, c)

-- one line begins a text at most, and what stands behind it is the same
pub record OneLine (x y : Line) (others more : List ℕ) : Type 0 where
  pub line : x ≡ y
  pub rest : others ≡ more

pub one_line : (x y : Line) (others more : List ℕ) → is_in_range x ≡ true → is_in_range y ≡ true → line_text x ++ others ≡ line_text y ++ more → OneLine x y others more
one_line x y others more r s e =
    let q = some_pair_parts (body x) (body y) others more (sym (line_cut x others r) ∙ (ap (cut 10) e ∙ line_cut y more s)) in
    record { line = same_Some x y (sym (line_again x r) ∙ (ap line_of q.0 ∙ line_again y s)); rest = q.1 }

-- what may stand is in range
stands_parts : (p : Progress) (x : Line) → may_stand p x ≡ true → (is_in_range x ≡ true) × (has_place p x ≡ true)
stands_parts p x e = parted (is_in_range x) (has_place p x) e

pub not_true : (b : Bool) → (b ≡ true → ⊥) → b ≡ false
not_true true f = absurd (f refl)
not_true false f = refl

pub false_true : {b : Bool} → b ≡ false → b ≡ true → ⊥
false_true p q = cc

-- a text without a line feed
pub none_uncut : (p : Progress) (rest : List ℕ) → None ≡ cut 10 rest → NoneStands p rest
none_uncut p rest c x others e = not_true (may_stand p x) (λ m. let r = (stands_parts p x m).0 in let d = c ∙ (ap (cut 10) e ∙ line_cut x others r) in absurd (cc (d)))

-- a text whose first line is none
pub none_read : (p : Progress) (rest text others : List ℕ) → Some (text, others) ≡ cut 10 rest → None ≡ line_of text → NoneStands p rest
none_read p rest text others c n x more e = not_true (may_stand p x) (λ m.
    let r = (stands_parts p x m).0 in
    let q = some_pair_parts text (body x) others more (c ∙ (ap (cut 10) e ∙ line_cut x more r)) in
    let d = n ∙ (ap line_of q.0 ∙ line_again x r) in
    absurd (cc (d)))

-- a line that is read is the first one
pub record FirstLine (rest : List ℕ) (x : Line) (others : List ℕ) : Type 0 where
  pub is : rest ≡ line_text x ++ others
  pub range : is_in_range x ≡ true

pub first_line : (rest text others : List ℕ) (x : Line) → Some (text, others) ≡ cut 10 rest → Some x ≡ line_of text → FirstLine rest x others
first_line rest text others x c e =
    let t = line_takes text x (sym e) in
    let regrouped : line_text x ++ others ≡ body x ++ 10 ∷ others = ap (λ (t : List ℕ). t ++ others) (body_text x) ∙ append_assoc (body x) (10 ∷ []) others in
    record { is = cut_parts 10 rest text others (sym c) ∙ (ap (λ (y : List ℕ). y ++ 10 ∷ others) t.0 ∙ sym regrouped); range = t.1 }

-- a first line without a place here
pub none_placed : (p : Progress) (rest : List ℕ) (x : Line) (others : List ℕ) → FirstLine rest x others → has_place p x ≡ false → NoneStands p rest
none_placed p rest x others f h y more e = not_true (may_stand p y) (λ m.
    let r = stands_parts p y m in
    let same = one_line x y others more f.range r.0 (sym f.is ∙ e) in
    let placed : has_place p x ≡ true = ap (has_place p) same.line ∙ r.1 in
    false_true h placed)

pub stands : (p : Progress) (x : Line) → is_in_range x ≡ true → has_place p x ≡ true → may_stand p x ≡ true
stands p x r h = both r h
