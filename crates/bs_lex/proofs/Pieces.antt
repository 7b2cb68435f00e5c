-- How long the pieces of a text are.
use Rattle.std.proofs.Common.{◌≡◌, ℕ, ◌-◌, ◌^◌, ◌≤◌, ◌==◌, Bool, true, false, not, cond, nat_eq, List, [], ◌∷◌, ◌++◌, length, drop, refl, sym, ap, ◌∙◌, arith, lit≤}
use Rattle.std.specs.Prelude.{find, Option, Some, None, Result, Ok, Err, take_while, codes, if◌then◌else◌}
use Rattle.std.specs.List.{starts_with, prefix_len}
use Rattle.std.proofs.Math.ListN.{length-append}
use Rattle.std.proofs.lemmas.Bool.Decides.{nat_tests, Decides-eqb}
use Rattle.std.proofs.lemmas.List.Folds.{length-prefix_len}
use Rattle.std.proofs.lemmas.List.Sums.{prefix_len-le-length}
use Rattle.std.proofs.lemmas.Slice.Eq.{starts_is}
use Rattle.bs_num.specs.Decimal.{is_digit, number_in}
use Rattle.bs_num.specs.declared.fault.NumFault.{NumFault}
use Rattle.bs_tree.specs.declared.symbols.Mark.{Mark}
use Rattle.bs_tree.specs.declared.symbols.Mark.TheVariants.{BraceLeft, BraceRight, ParenLeft, ParenRight, BracketLeft, BracketRight, Semicolon, Comma, Assign, Equal, NotEqual, Less, LessEqual, Greater, GreaterEqual, Plus, Minus, Star, Slash, Percent, Not, And, Or}
use Rattle.bs_lex.specs.declared.piece.Piece.{Piece}
use Rattle.bs_lex.specs.declared.piece.Piece.TheVariants.{Gap, Token as A_Token, BadNumber, BadCharacter}
use Rattle.bs_lex.specs.Spelling.{is_blank, is_letter, is_name_byte, mark_text, mark_at, marks}
use Rattle.bs_lex.specs.Lexed.{piece_of, number_piece, mark_piece}

-- the piece is of some bytes, and of no more than there are
abbrev pub IsWithin : Piece → ℕ → Type 0
IsWithin (Gap length) size = (1 ≤ length) × (length ≤ size)
IsWithin (A_Token kind length) size = (1 ≤ length) × (length ≤ size)
IsWithin BadNumber size = Unit {0}
IsWithin BadCharacter size = Unit {0}

-- what holds on both sides of a test
pub by_test : {A : Type 0} (P : A → Type 0) (test : Bool) (x y : A) → (test ≡ true → P x) → (test ≡ false → P y) → P (if test then x else y)
by_test P true x y yes_side no_side = yes_side refl
by_test P false x y yes_side no_side = no_side refl

-- a run that begins has some bytes, and no more than there are
pub run_within : (test : ℕ → Bool) (first : ℕ) (rest : List ℕ) → test first ≡ true
    → (1 ≤ length (take_while test (first ∷ rest))) × (length (take_while test (first ∷ rest)) ≤ length (first ∷ rest))
run_within test first rest begins =
    let run = length-prefix_len test (first ∷ rest) in
    let some : 1 ≤ prefix_len test (first ∷ rest) = rw begins (omega arith) in
    (omega (arith, run, some), omega (arith, run, prefix_len-le-length test (first ∷ rest)))

pub found_passes : {A : Type 0} (test : A → Bool) (xs : List A) (x : A) → find test xs ≡ Some x → test x ≡ true
found_passes test [] x found = absurd (cc)
found_passes test (y ∷ ys) x found = by_head (test y) refl found (found_passes test ys x)
  where
    by_head : (b : Bool) → test y ≡ b → cond b (Some y) (find test ys) ≡ Some x → (find test ys ≡ Some x → test x ≡ true) → test x ≡ true
    by_head true passes is later = let same : y ≡ x = cc in cc
    by_head false fails is later = later is

-- the bytes begin with the mark that was found
pub mark_begins : (bytes : List ℕ) (mark : Mark) → mark_at bytes ≡ Some mark → bytes ≡ mark_text mark ++ drop (length (mark_text mark)) bytes
mark_begins bytes mark found =
    (starts_is Decides-eqb bytes (mark_text mark) true (sym (found_passes (λ m. starts_with nat_eq bytes (mark_text m)) marks mark found))).0 refl

mark_some : (mark : Mark) → 1 ≤ length (mark_text mark)
mark_some BraceLeft = lit≤ tt
mark_some BraceRight = lit≤ tt
mark_some ParenLeft = lit≤ tt
mark_some ParenRight = lit≤ tt
mark_some BracketLeft = lit≤ tt
mark_some BracketRight = lit≤ tt
mark_some Semicolon = lit≤ tt
mark_some Comma = lit≤ tt
mark_some Assign = lit≤ tt
mark_some Equal = lit≤ tt
mark_some NotEqual = lit≤ tt
mark_some Less = lit≤ tt
mark_some LessEqual = lit≤ tt
mark_some Greater = lit≤ tt
mark_some GreaterEqual = lit≤ tt
mark_some Plus = lit≤ tt
mark_some Minus = lit≤ tt
mark_some Star = lit≤ tt
mark_some Slash = lit≤ tt
mark_some Percent = lit≤ tt
mark_some Not = lit≤ tt
mark_some And = lit≤ tt
mark_some Or = lit≤ tt

mark_within : (bytes : List ℕ) (found : Option Mark) → mark_at bytes ≡ found → IsWithin (mark_piece found) (length bytes)
mark_within bytes None is = tt
mark_within bytes (Some mark) is =
    let parts = ap length (mark_begins bytes mark is) ∙ length-append (mark_text mark) (drop (length (mark_text mark)) bytes) in
    (mark_some mark, omega (arith, parts))

number_within : (read : Result ℕ NumFault) (length size : ℕ) → 1 ≤ length → length ≤ size → IsWithin (number_piece read length) size
number_within (Ok n) length size some fits = (some, fits)
number_within (Err fault) length size some fits = tt

-- `//` is no LF
comment_begins : (first : ℕ) (rest : List ℕ) → starts_with nat_eq (first ∷ rest) (codes "//") ≡ true → not (first == 10) ≡ true
comment_begins first rest begins = grind (arith, nat_tests)

pub piece_within : (bytes : List ℕ) → IsWithin (piece_of bytes) (length bytes)
piece_within [] = tt
piece_within (first ∷ rest) =
    let bytes = first ∷ rest in
    let P : Piece → Type 0 = λ piece. IsWithin piece (length bytes) in
    by_test P (is_blank first) _ _ (λ _. (omega arith, omega arith))
    (λ _. by_test P (starts_with nat_eq bytes (codes "//")) _ _ (λ begins. run_within (λ byte. not (byte == 10)) first rest (comment_begins first rest begins))
    (λ _. by_test P (is_letter first) _ _ (λ letter. run_within is_name_byte first rest (name_begins first letter))
    (λ _. by_test P (is_digit first) _ _ (λ digit. let run = run_within is_digit first rest digit in number_within (number_in (2 ^ 63 - 1) (take_while is_digit bytes)) _ _ run.0 run.1)
    (λ _. mark_within bytes (mark_at bytes) refl))))
  where
    name_begins : (byte : ℕ) → is_letter byte ≡ true → is_name_byte byte ≡ true
    name_begins byte letter = rw letter refl
