-- The text of a valid log is small.
use Rattle.std.proofs.Common.{◌≡◌, ◌≤◌, ◌<◌, inl, inr, ℕ, zero, suc, ◌+◌, ◌-◌, ◌*◌, ◌^◌, ◌==◌, ℤ, pos, negsuc, Bool, true, false, if◌then◌else◌, List, [], ◌∷◌, ◌++◌, Option, Some, None, refl, sym, ap, length, sum_by, slice_get, codes, length-append, arith}
use Rattle.std.specs.List.{flat_map}
use Rattle.std.specs.Fmt.{decimal, signed_decimal}
use Rattle.std.proofs.lemmas.Fmt.{length-decimal-le, length_signed_le}
use Rattle.std.proofs.lemmas.List.Sums.{sum_by-cons}
use Rattle.std.proofs.lemmas.Option.{slice_get_within}
use Rattle.bs_log.specs.declared.history.Sent.{Sent}
use Rattle.bs_log.specs.declared.history.TrapKind.{TrapKind}
use Rattle.bs_log.specs.declared.history.TrapKind.TheVariants.{Overflow, ZeroDivisor, Index, Target, WorkRange, BytesRange, CostRange, Steps}
use Rattle.bs_log.specs.declared.log.MailRef.{MailRef}
use Rattle.bs_log.specs.declared.log.Row.{Row}
use Rattle.bs_log.specs.declared.log.TrapRow.{TrapRow}
use Rattle.bs_log.specs.declared.log.WaitRow.{WaitRow}
use Rattle.bs_log.specs.declared.log.Log.{Log}
use Rattle.bs_log.specs.Valid.{IsWord, SendFits, numbered, Holds, RowFits, EachFrom, TrapFits, WaitFits, row_lines, IsValid}
use Rattle.bs_log.specs.Lists.{Mem}
use Rattle.bs_logtext.specs.Text.{counts_line, row_line, after_line, mail_line, emit_line, send_line, row_text, kind_number, trap_line, wait_line, log_text}

digits : (n : ℕ) → n ≤ 2 ^ 32 → length (decimal n) ≤ 10
digits n h = length-decimal-le 10 n (omega arith) (omega arith) (omega arith)

word_digits : (z : ℤ) → IsWord z → length (signed_decimal z) ≤ 20
word_digits (pos n) h = length_signed_le 19 (pos n) (omega arith) (omega arith)
word_digits (negsuc n) h = length_signed_le 19 (negsuc n) (omega arith) (omega arith)

-- lines of at most 79 bytes

all_short : {A : Type 0} (f : A → List ℕ) (xs : List A) → ((x : A) → Mem x xs → length (f x) ≤ 79) → length (flat_map f xs) ≤ 79 * length xs
all_short f [] h = omega arith
all_short f (x ∷ xs) h =
    let one = h x (inl refl) in
    let more = all_short f xs (λ y m. h y (inr m)) in
    let both = length-append (f x) (flat_map f xs) in
    omega (arith, one, more, both)

row_short : (r : Row) → r.chare ≤ 2 ^ 32 → r.stmt ≤ 2 ^ 32 → r.depth ≤ 2 ^ 32 → r.cost ≤ 2 ^ 32 → length (row_line r) ≤ 79
row_short r a b c d = let i = digits r.chare a in let j = digits r.stmt b in let k = digits r.depth c in let l = digits r.cost d in simp length-append (omega (arith, i, j, k, l))

after_short : (n : ℕ) → n ≤ 2 ^ 32 → length (after_line n) ≤ 79
after_short n a = let i = digits n a in simp length-append (omega (arith, i))

mail_short : (m : MailRef) → m.row ≤ 2 ^ 32 → m.index ≤ 2 ^ 32 → length (mail_line m) ≤ 79
mail_short m a b = let i = digits m.row a in let j = digits m.index b in simp length-append (omega (arith, i, j))

emit_short : (z : ℤ) → IsWord z → length (emit_line z) ≤ 79
emit_short z h = let i = word_digits z h in simp length-append (omega (arith, i))

send_short : (s : Sent) → s.to ≤ 2 ^ 32 → s.key.entry ≤ 2 ^ 32 → IsWord s.key.reference → s.bytes ≤ 2 ^ 32 → s.offset ≤ 2 ^ 32 → length (send_line s) ≤ 79
send_short s a b w c d =
    let i = digits s.to a in
    let j = digits s.key.entry b in
    let z = word_digits s.key.reference w in
    let k = digits s.bytes c in
    let l = digits s.offset d in
    simp length-append (omega (arith, i, j, z, k, l))

kind_small : (k : TrapKind) → kind_number k ≤ 2 ^ 32
kind_small Overflow = omega arith
kind_small ZeroDivisor = omega arith
kind_small Index = omega arith
kind_small Target = omega arith
kind_small WorkRange = omega arith
kind_small BytesRange = omega arith
kind_small CostRange = omega arith
kind_small Steps = omega arith

trap_short : (t : TrapRow) → t.chare ≤ 2 ^ 32 → t.stmt ≤ 2 ^ 32 → length (trap_line t) ≤ 79
trap_short t a b = let i = digits t.chare a in let j = digits t.stmt b in let k = digits (kind_number t.kind) (kind_small t.kind) in simp length-append (omega (arith, i, j, k))

wait_short : (w : WaitRow) → w.chare ≤ 2 ^ 32 → w.stmt ≤ 2 ^ 32 → w.key.entry ≤ 2 ^ 32 → IsWord w.key.reference → length (wait_line w) ≤ 79
wait_short w a b c d =
    let i = digits w.chare a in
    let j = digits w.stmt b in
    let k = digits w.key.entry c in
    let z = word_digits w.key.reference d in
    simp length-append (omega (arith, i, j, k, z))

counts_short : (l : Log) → l.chares ≤ 2 ^ 32 → l.entries ≤ 2 ^ 32 → length l.rows ≤ 2 ^ 32 → length (counts_line l) ≤ 79
counts_short l a b c = let i = digits l.chares a in let j = digits l.entries b in let k = digits (length l.rows) c in simp length-append (omega (arith, i, j, k))

-- parts one behind the other

five_short : (a b c d e : List ℕ) (j k m n : ℕ) → length a ≤ 79 → length b ≤ 79 * j → length c ≤ 79 * k → length d ≤ 79 * m → length e ≤ 79 * n → length (a ++ b ++ c ++ d ++ e) ≤ 79 * (1 + j + k + m + n)
five_short a b c d e j k m n p q r s t = simp length-append (omega arith)

six_small : (a b c d e f : List ℕ) (j k m : ℕ) → length a ≤ 79 → length b ≤ 79 → length c ≤ 79 * j → length d ≤ 79 * k → length e ≤ 79 * m → length f ≤ 79 → j + k + m ≤ 262144 → length (a ++ b ++ c ++ d ++ e ++ f) < 67108864
six_small a b c d e f j k m p q r s t u w = simp length-append (omega arith)

-- a number that names an item is at most the length

pub got : {A : Type 0} (P : A → Type 0) (o : Option A) → Holds P o → (x : A) × (o ≡ Some x) × P x
got P None h = absurd h
got P (Some x) h = (x, refl, h)

get_member : {A : Type 0} (xs : List A) (i : ℕ) (x : A) → slice_get xs i ≡ Some x → Mem x xs
get_member [] i x e = absurd (cc)
get_member (y ∷ ys) zero x e = inl (let q : y ≡ x = cc in sym q)
get_member (y ∷ ys) (suc i) x e = inr (get_member ys i x e)

pub record Named {A : Type 0} (xs : List A) (n : ℕ) (x : A) : Type 0 where
  pub within : n ≤ length xs
  pub is_in : Mem x xs

pub named : {A : Type 0} (xs : List A) (n : ℕ) (x : A) → numbered xs n ≡ Some x → Named xs n x
named {A} xs n x = by (n == 0)
  where
    by : (b : Bool) → (if b then None else slice_get xs (n - 1)) ≡ Some x → Named xs n x
    by true e = absurd (cc)
    by false e = let w = slice_get_within xs (n - 1) x e in record { within = omega (arith, w); is_in = get_member xs (n - 1) x e }

pub one_of_sum : {A : Type 0} (f : A → ℕ) (xs : List A) (x : A) → Mem x xs → f x ≤ sum_by f xs
one_of_sum f [] x m = absurd m
one_of_sum f (y ∷ ys) x (inl e) = let s = sum_by-cons f y ys in let q = ap f e in omega (arith, s, q)
one_of_sum f (y ∷ ys) x (inr m) = let s = sum_by-cons f y ys in let r = one_of_sum f ys x m in omega (arith, s, r)

pub few_rows : (rows : List Row) → length rows ≤ sum_by row_lines rows
few_rows [] = omega arith
few_rows (r ∷ rs) = let s = sum_by-cons row_lines r rs in let more = few_rows rs in omega (arith, s, more)

module _ (l : Log) (v : IsValid l) where
  rows_are_few : length l.rows ≤ 262144
  rows_are_few = let f = few_rows l.rows in let n = v.lines in omega (arith, f, n)

  mail_of : (m : MailRef) (c : ℕ) → Holds (λ r. Holds (λ (s : Sent). s.to ≡ c) (numbered r.sends m.index)) (numbered l.rows m.row) → length (mail_line m) ≤ 79
  mail_of m c h =
      let r = got (λ (r : Row). Holds (λ (s : Sent). s.to ≡ c) (numbered r.sends m.index)) (numbered l.rows m.row) h in
      let s = got (λ (s : Sent). s.to ≡ c) (numbered (r.0).sends m.index) r.2 in
      let a = named l.rows m.row r.0 r.1 in
      let b = named (r.0).sends m.index s.0 s.1 in
      let row = a.within in
      let index = b.within in
      let few = rows_are_few in
      let one = one_of_sum row_lines l.rows r.0 a.is_in in
      let all = v.lines in
      mail_short m (omega (arith, row, few)) (omega (arith, index, one, all))

  after_of : (k c n : ℕ) → Holds (λ (r : Row). r.chare ≡ c) (numbered l.rows n) → length (after_line n) ≤ 79
  after_of k c n h =
      let r = got (λ (r : Row). r.chare ≡ c) (numbered l.rows n) h in
      let a = named l.rows n r.0 r.1 in
      let row = a.within in
      let few = rows_are_few in
      after_short n (omega (arith, row, few))

  chares_few : l.chares ≤ 65536
  chares_few = v.chares.most_is

  send_of : (c : ℕ) (s : Sent) → SendFits l c s → length (send_line s) ≤ 79
  send_of c s f =
      let a = f.target in
      let b = f.entry in
      let d = f.bytes in
      let e = (f.offset).most_is in
      let few = chares_few in
      let some = v.entries in
      send_short s (omega (arith, a, few)) (omega (arith, b, some)) f.reference (omega (arith, d)) e

  row_length : (k : ℕ) (r : Row) → RowFits l k r → length (row_text r) ≤ 79 * row_lines r
  row_length k r f =
      let chare = f.chare in
      let few = chares_few in
      let stmt = ((f.ranges).stmt).most_is in
      let depth = ((f.ranges).depth).most_is in
      let head = row_short r (omega (arith, chare, few)) (omega (arith, stmt)) (omega (arith, depth)) ((f.ranges).cost).most_is in
      let after = all_short after_line r.after (λ n m. after_of k r.chare n (f.after n m).same_chare) in
      let mail = all_short mail_line r.mail (λ n m. mail_of n r.chare (f.mail n m)) in
      let emits = all_short emit_line r.emits (λ z m. emit_short z ((f.ranges).emits z m)) in
      let sends = all_short send_line r.sends (λ s m. send_of r.cost s (f.sends s m)) in
      five_short (row_line r) (flat_map after_line r.after) (flat_map mail_line r.mail) (flat_map emit_line r.emits) (flat_map send_line r.sends)
      (length r.after) (length r.mail) (length r.emits) (length r.sends) head after mail emits sends

  rows_length : (k : ℕ) (rs : List Row) → EachFrom (RowFits l) k rs → length (flat_map row_text rs) ≤ 79 * sum_by row_lines rs
  rows_length k [] e = omega arith
  rows_length k (r ∷ rs) e =
      let one = row_length k r e.0 in
      let more = rows_length (k + 1) rs e.1 in
      let both = length-append (row_text r) (flat_map row_text rs) in
      let sum = sum_by-cons row_lines r rs in
      omega (arith, one, more, both, sum)

  trap_of : (t : TrapRow) → TrapFits l t → length (trap_line t) ≤ 79
  trap_of t f = let a = f.chare in let few = chares_few in let b = (f.stmt).most_is in trap_short t (omega (arith, a, few)) (omega (arith, b))

  wait_of : (w : WaitRow) → WaitFits l w → length (wait_line w) ≤ 79
  wait_of w f =
      let a = f.chare in
      let few = chares_few in
      let b = (f.stmt).most_is in
      let c = f.entry in
      let some = v.entries in
      wait_short w (omega (arith, a, few)) (omega (arith, b)) (omega (arith, c, some)) f.reference

  pub text_is_small : length (log_text l) < 67108864
  unfolding log_text
  text_is_small =
      let few = chares_few in
      let some = v.entries in
      let rows = rows_are_few in
      let head = counts_short l (omega (arith, few)) (omega (arith, some)) (omega (arith, rows)) in
      let all = rows_length 1 l.rows v.rows in
      let traps = all_short trap_line l.traps (λ t m. trap_of t (v.traps t m)) in
      let waits = all_short wait_line l.waits (λ w m. wait_of w (v.waits w m)) in
      let lines = v.lines in
      six_small (codes "bslog 1\n") (counts_line l) (flat_map row_text l.rows) (flat_map trap_line l.traps) (flat_map wait_line l.waits) (codes "end\n")
      (sum_by row_lines l.rows) (length l.traps) (length l.waits) (omega arith) head all traps waits (omega arith) lines
