-- What stands in order is in range.
use Rattle.std.proofs.Common.{◌≡◌, ◌≤◌, ◌<◌, inl, inr, ℕ, ◌+◌, ◌^◌, ℤ, pos, negsuc, nat_le, true, List, [], ◌∷◌, ◌++◌, map, length, sum_by, refl, ap, subst, ◌∙◌, arith}
use Rattle.std.specs.List.{flat_map}
use Rattle.std.proofs.lemmas.Bool.Decides.{nat_tests}
use Rattle.std.proofs.lemmas.List.Sums.{sum_by-cons, sum_by-append}
use Rattle.bs_log.specs.declared.history.Sent.{Sent}
use Rattle.bs_log.specs.declared.log.Row.{Row}
use Rattle.bs_log.specs.declared.log.TrapRow.{TrapRow}
use Rattle.bs_log.specs.declared.log.WaitRow.{WaitRow}
use Rattle.bs_log.specs.declared.log.Log.{Log}
use Rattle.bs_log.specs.Valid.{IsWord, IsFrom, RowIsInRange, row_lines, lines_of}
use Rattle.bs_log.specs.ValidTest.{is_from, is_word}
use Rattle.bs_log.specs.Lists.{Mem}
use Rattle.bs_logcheck.specs.Ranges.{SendIsInRange, IsInRange}
use Rattle.bs_logread.specs.declared.lines.Line.{Line}
use Rattle.bs_logread.specs.declared.lines.Line.TheVariants as l
use Rattle.bs_logread.specs.declared.order.Progress.{Progress}
use Rattle.bs_logread.specs.Line.{is_in_range}
use Rattle.bs_logread.specs.Lines.{head_of, row_parts, counts_of, log_lines}
use Rattle.bs_logread.specs.Order.{start, after, has_place, may_stand, has_room, are_within, is_within, fits, IsInOrder}
use Rattle.bs_logread.proofs.Fields.{parted, bounds}

-- ---- members

pub mem_left : {A : Type 0} (x : A) (xs ys : List A) → Mem x xs → Mem x (xs ++ ys)
mem_left x [] ys m = absurd m
mem_left x (z ∷ xs) ys (inl e) = inl e
mem_left x (z ∷ xs) ys (inr m) = inr (mem_left x xs ys m)

pub mem_right : {A : Type 0} (x : A) (xs ys : List A) → Mem x ys → Mem x (xs ++ ys)
mem_right x [] ys m = m
mem_right x (z ∷ xs) ys m = inr (mem_right x xs ys m)

pub mem_map : {A : Type 0} (f : A → Line) (x : A) (xs : List A) → Mem x xs → Mem (f x) (map f xs)
mem_map f x [] m = absurd m
mem_map f x (z ∷ xs) (inl e) = inl (ap f e)
mem_map f x (z ∷ xs) (inr m) = inr (mem_map f x xs m)

pub mem_rows : (x : Line) (r : Row) (rows : List Row) → Mem r rows → Mem x (row_parts r) → Mem x (flat_map row_parts rows)
mem_rows x r [] m i = absurd m
mem_rows x r (q ∷ rows) (inl e) i = mem_left x (row_parts q) (flat_map row_parts rows) (subst (λ (z : Row). Mem x (row_parts z)) e i)
mem_rows x r (q ∷ rows) (inr m) i = mem_right x (row_parts q) (flat_map row_parts rows) (mem_rows x r rows m i)

fits_range : (p : Progress) (x : Line) → fits p x ≡ true → is_in_range x ≡ true
fits_range p x f = (parted (is_in_range x) (has_place p x) (parted (may_stand p x) (is_within p x) f).0).0

all_in_range : (p : Progress) (xs : List Line) (x : Line) → IsInOrder p xs → Mem x xs → is_in_range x ≡ true
all_in_range p [] x o m = absurd m
all_in_range p (y ∷ xs) x o (inl e) = ap is_in_range e ∙ fits_range p y o.0
all_in_range p (y ∷ xs) x o (inr m) = all_in_range (after p y) xs x o.1 m

-- ---- counted lines

abbrev weight : Line → ℕ
weight l.Version = 0
weight (l.Counts c) = 0
weight (l.Row h) = 1
weight (l.After n) = 1
weight (l.Mail m) = 1
weight (l.Emit v) = 1
weight (l.Send s) = 1
weight (l.Trap t) = 1
weight (l.Wait w) = 1
weight l.End = 0

room_is : (p : Progress) → has_room p ≡ true → p.counted + 1 ≤ 262144
room_is p e = let k : p.counted < 262144 = grind (arith, nat_tests) in omega (arith, k)

one_counted : (p : Progress) (x : Line) → (after p x).counted ≡ p.counted + weight x
one_counted p l.Version = omega arith
one_counted p (l.Counts c) = omega arith
one_counted p (l.Row h) = refl
one_counted p (l.After n) = refl
one_counted p (l.Mail m) = refl
one_counted p (l.Emit v) = refl
one_counted p (l.Send s) = refl
one_counted p (l.Trap t) = refl
one_counted p (l.Wait w) = refl
one_counted p l.End = omega arith

one_within : (p : Progress) (x : Line) → p.counted ≤ 262144 → is_within p x ≡ true → p.counted + weight x ≤ 262144
unfolding is_within
one_within p l.Version h e = omega (arith, h)
one_within p (l.Counts c) h e = omega (arith, h)
one_within p (l.Row r) h e = room_is p e
one_within p (l.After n) h e = room_is p e
one_within p (l.Mail m) h e = room_is p e
one_within p (l.Emit v) h e = room_is p e
one_within p (l.Send s) h e = room_is p e
one_within p (l.Trap t) h e = room_is p e
one_within p (l.Wait w) h e = room_is p e
one_within p l.End h e = omega (arith, h)

few_lines : (p : Progress) (xs : List Line) → p.counted ≤ 262144 → IsInOrder p xs → p.counted + sum_by weight xs ≤ 262144
few_lines p [] h o = omega (arith, h)
few_lines p (x ∷ xs) h o =
    let one = one_counted p x in
    let within = one_within p x h (parted (may_stand p x) (is_within p x) o.0).1 in
    let more = few_lines (after p x) xs (omega (arith, one, within)) o.1 in
    let s = sum_by-cons weight x xs in
    omega (arith, one, more, s)

each_one : {A : Type 0} (f : A → Line) → ((x : A) → weight (f x) ≡ 1) → (xs : List A) → sum_by weight (map f xs) ≡ length xs
each_one f h [] = refl
each_one f h (x ∷ xs) = let s = sum_by-cons weight (f x) (map f xs) in let m = each_one f h xs in let o = h x in omega (arith, s, m, o)

row_weight : (r : Row) → sum_by weight (row_parts r) ≡ row_lines r
row_weight r =
    let a = each_one l.After (λ x. refl) r.after in
    let b = each_one l.Mail (λ x. refl) r.mail in
    let c = each_one l.Emit (λ x. refl) r.emits in
    let d = each_one l.Send (λ x. refl) r.sends in
    let s = sum_by-cons weight (l.Row (head_of r)) (map l.After r.after ++ (map l.Mail r.mail ++ (map l.Emit r.emits ++ map l.Send r.sends))) in
    let t = sum_by-append weight (map l.After r.after) (map l.Mail r.mail ++ (map l.Emit r.emits ++ map l.Send r.sends)) in
    let u = sum_by-append weight (map l.Mail r.mail) (map l.Emit r.emits ++ map l.Send r.sends) in
    let v = sum_by-append weight (map l.Emit r.emits) (map l.Send r.sends) in
    omega (arith, a, b, c, d, s, t, u, v)

rows_weight : (rows : List Row) → sum_by weight (flat_map row_parts rows) ≡ sum_by row_lines rows
rows_weight [] = refl
rows_weight (r ∷ rows) =
    let s = sum_by-cons row_lines r rows in
    let t = sum_by-append weight (row_parts r) (flat_map row_parts rows) in
    let a = row_weight r in
    let m = rows_weight rows in
    omega (arith, s, t, a, m)

log_weight : (log : Log) → sum_by weight (log_lines log) ≡ lines_of log
unfolding log_lines
log_weight log =
    let traps = map l.Trap log.traps in
    let waits = map l.Wait log.waits in
    let rows = flat_map row_parts log.rows in
    let a = rows_weight log.rows in
    let b = each_one l.Trap (λ x. refl) log.traps in
    let c = each_one l.Wait (λ x. refl) log.waits in
    let s = sum_by-cons weight l.Version (l.Counts (counts_of log) ∷ (rows ++ (traps ++ (waits ++ l.End ∷ [])))) in
    let t = sum_by-cons weight (l.Counts (counts_of log)) (rows ++ (traps ++ (waits ++ l.End ∷ []))) in
    let u = sum_by-append weight rows (traps ++ (waits ++ l.End ∷ [])) in
    let v = sum_by-append weight traps (waits ++ l.End ∷ []) in
    let w = sum_by-append weight waits (l.End ∷ []) in
    let x = sum_by-cons weight l.End [] in
    omega (arith, a, b, c, s, t, u, v, w, x)

-- ---- ranges

word_from : (z : ℤ) → is_word z ≡ true → IsWord z
word_from (pos n) e = grind (arith, nat_tests)
word_from (negsuc n) e = grind (arith, nat_tests)

from_is : (least most n : ℕ) → is_from least most n ≡ true → IsFrom least most n
from_is least most n e = let b = bounds least most n e in record { least_is = b.0; most_is = b.1 }

record Ranged (log : Log) : Type 0 where
  row : (r : Row) → Mem r log.rows → (x : Line) → Mem x (row_parts r) → is_in_range x ≡ true
  trap : (t : TrapRow) → Mem t log.traps → is_in_range (l.Trap t) ≡ true
  wait : (w : WaitRow) → Mem w log.waits → is_in_range (l.Wait w) ≡ true
  counts : are_within (counts_of log) ≡ true

ranged : (log : Log) → IsInOrder start (log_lines log) → Ranged log
unfolding log_lines is_within
ranged log o =
    let rows = flat_map row_parts log.rows in
    let traps = map l.Trap log.traps in
    let waits = map l.Wait log.waits in
    let last = l.End ∷ [] in
    let all = rows ++ (traps ++ (waits ++ last)) in
    let p = after (after start l.Version) (l.Counts (counts_of log)) in
    record {
      row = λ r m x i. all_in_range p all x o.1.1 (mem_left x rows (traps ++ (waits ++ last)) (mem_rows x r log.rows m i));
      trap = λ t m. all_in_range p all (l.Trap t) o.1.1 (mem_right (l.Trap t) rows (traps ++ (waits ++ last)) (mem_left (l.Trap t) traps (waits ++ last) (mem_map l.Trap t log.traps m)));
      wait = λ w m. all_in_range p all (l.Wait w) o.1.1 (mem_right (l.Wait w) rows (traps ++ (waits ++ last)) (mem_right (l.Wait w) traps (waits ++ last) (mem_left (l.Wait w) waits last (mem_map l.Wait w log.waits m))));
      counts = (parted (may_stand (after start l.Version) (l.Counts (counts_of log))) (is_within (after start l.Version) (l.Counts (counts_of log))) o.1.0).1;
    }

row_range : (r : Row) → ((x : Line) → Mem x (row_parts r) → is_in_range x ≡ true) → RowIsInRange r
row_range r h =
    let a = parted _ _ (h (l.Row (head_of r)) (inl refl)) in
    let b = parted _ _ a.1 in
    let c = parted _ _ b.1 in
    record {
      stmt = from_is 1 10000 r.stmt b.0;
      depth = from_is 1 262144 r.depth c.0;
      cost = from_is 1 (2 ^ 32) r.cost c.1;
      emits = λ v m. word_from v (h (l.Emit v) (inr (mem_right (l.Emit v) (map l.After r.after) _ (mem_right (l.Emit v) (map l.Mail r.mail) _ (mem_left (l.Emit v) (map l.Emit r.emits) _ (mem_map l.Emit v r.emits m))))));
    }

send_range : (s : Sent) → is_in_range (l.Send s) ≡ true → SendIsInRange s
send_range s h =
    let a = parted _ _ h in
    let b = parted _ _ a.1 in
    let c = parted _ _ b.1 in
    let d = parted _ _ c.1 in
    let e : nat_le s.bytes (2 ^ 30) ≡ true = d.0 in
    record { reference = word_from s.key.reference c.0; bytes = grind (arith, nat_tests, e); offset = from_is 1 (2 ^ 32) s.offset d.1 }

pub in_range : (log : Log) → IsInOrder start (log_lines log) → IsInRange log
in_range log o =
    let r = ranged log o in
    let c = parted _ _ r.counts in
    let d = parted _ _ c.1 in
    let e : nat_le log.entries 1000 ≡ true = d.0 in
    let few = few_lines start (log_lines log) (omega arith) o in
    let sum = log_weight log in
    record {
      chares = from_is 1 65536 log.chares c.0;
      entries = grind (arith, nat_tests, e);
      lines = omega (arith, few, sum);
      rows = λ q m. row_range q (r.row q m);
      sends = λ q m s i. send_range s (r.row q m (l.Send s) (inr (mem_right (l.Send s) (map l.After q.after) _ (mem_right (l.Send s) (map l.Mail q.mail) _ (mem_right (l.Send s) (map l.Emit q.emits) _ (mem_map l.Send s q.sends i))))));
      traps = λ t m. from_is 1 10000 t.stmt (parted _ _ (r.trap t m)).1;
      waits = λ w m. let a = parted _ _ (r.wait w m) in let b = parted _ _ a.1 in let f = parted _ _ b.1 in record { stmt = from_is 1 10000 w.stmt b.0; reference = word_from w.key.reference f.1 };
    }
