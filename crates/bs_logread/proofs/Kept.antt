-- The lines of a valid log stand in order.
use Rattle.std.proofs.Common.{◌≡◌, ◌≤◌, ◌<◌, inl, inr, ℕ, ◌+◌, ◌^◌, ◌==◌, ℤ, pos, negsuc, nat_le, nat_lt, true, List, [], ◌∷◌, ◌++◌, map, length, sum_by, refl, sym, subst, ◌∙◌, arith}
use Rattle.std.specs.List.{flat_map}
use Rattle.std.proofs.lemmas.Bool.Decides.{nat_tests}
use Rattle.std.proofs.lemmas.List.Sums.{sum_by-cons, fold-append}
use Rattle.bs_log.specs.declared.history.Sent.{Sent}
use Rattle.bs_log.specs.declared.log.MailRef.{MailRef}
use Rattle.bs_log.specs.declared.log.Row.{Row}
use Rattle.bs_log.specs.declared.log.TrapRow.{TrapRow}
use Rattle.bs_log.specs.declared.log.WaitRow.{WaitRow}
use Rattle.bs_log.specs.declared.log.Log.{Log}
use Rattle.bs_log.specs.Valid.{IsWord, IsFrom, SendFits, numbered, Holds, RowFits, EachFrom, TrapFits, WaitFits, row_lines, IsValid}
use Rattle.bs_log.specs.ValidTest.{is_from, is_word}
use Rattle.bs_log.specs.Lists.{Mem}
use Rattle.bs_logtext.proofs.Lengths.{got, named, one_of_sum, few_rows}
use Rattle.bs_logread.specs.declared.lines.Line.{Line}
use Rattle.bs_logread.specs.declared.lines.Line.TheVariants as l
use Rattle.bs_logread.specs.declared.order.Progress.{Progress}
use Rattle.bs_logread.specs.Line.{is_small, is_in_range}
use Rattle.bs_logread.specs.Lines.{head_of, row_parts, counts_of, log_lines}
use Rattle.bs_logread.specs.Order.{start, with_line, after, has_place, has_room, is_within, fits, IsInOrder, behind_all}
use Rattle.bs_logread.proofs.Fields.{both, from_bounds}

-- where reading stands
record At (p : Progress) (low high named rows counted : ℕ) : Type 0 where
  low_is : low ≤ p.last
  high_is : p.last ≤ high
  named_is : p.named ≡ named
  rows_is : p.rows ≡ rows
  counted_is : p.counted ≡ counted

wider : (p : Progress) (low high lower higher named rows counted : ℕ) → lower ≤ low → high ≤ higher → At p low high named rows counted → At p lower higher named rows counted
wider p low high lower higher named rows counted a b s =
    let c = s.low_is in let d = s.high_is in
    record { low_is = omega (arith, a, c); high_is = omega (arith, b, d); named_is = s.named_is; rows_is = s.rows_is; counted_is = s.counted_is }

record Ran (p : Progress) (xs : List Line) (low high named rows counted : ℕ) : Type 0 where
  order : IsInOrder p xs
  there : At (behind_all p xs) low high named rows counted

order_joined : (p : Progress) (xs ys : List Line) → IsInOrder p xs → IsInOrder (behind_all p xs) ys → IsInOrder p (xs ++ ys)
order_joined p [] ys a b = b
order_joined p (x ∷ xs) ys a b = (a.0, order_joined (after p x) xs ys a.1 b)

run_joined : (p : Progress) (xs ys : List Line) (a b c d e f g h i j : ℕ) → Ran p xs a b c d e → Ran (behind_all p xs) ys f g h i j → Ran p (xs ++ ys) f g h i j
run_joined p xs ys a b c d e f g h i j r s = record {
  order = order_joined p xs ys r.order s.order;
  there = subst (λ (q : Progress). At q f g h i j) (sym (fold-append after p xs ys)) s.there;
}

room_from : (p : Progress) (c : ℕ) → p.counted ≡ c → c + 1 ≤ 262144 → has_room p ≡ true
room_from p c e h = let k : p.counted < 262144 = omega (arith, e, h) in grind (arith, nat_tests)

-- lines of one kind
kind_run : {A : Type 0} (g : A → Line) (low k named rows : ℕ) → low ≤ k
    → ((p : Progress) (x : A) → low ≤ p.last → p.last ≤ k → p.named ≡ named → p.rows ≡ rows → has_place p (g x) ≡ true)
    → ((p : Progress) (x : A) → is_within p (g x) ≡ has_room p)
    → ((p : Progress) (x : A) → after p (g x) ≡ with_line k p)
    → (xs : List A) → ((x : A) → Mem x xs → is_in_range (g x) ≡ true) → (p : Progress) (c : ℕ) → At p low k named rows c → c + length xs ≤ 262144
    → Ran p (map g xs) low k named rows (c + length xs)
kind_run g low k named rows lk place within next [] r p c a room =
    let e = a.counted_is in
    record { order = tt; there = record { low_is = a.low_is; high_is = a.high_is; named_is = a.named_is; rows_is = a.rows_is; counted_is = omega (arith, e) } }
kind_run g low k named rows lk place within next (x ∷ xs) r p c a room =
    let e = a.counted_is in
    let f : fits p (g x) ≡ true = both (both (r x (inl refl)) (place p x a.low_is a.high_is a.named_is a.rows_is)) (within p x ∙ room_from p c e (omega (arith, room))) in
    let n = next p x in
    let at : At (with_line k p) low k named rows (c + 1) = record { low_is = lk; high_is = omega arith; named_is = a.named_is; rows_is = a.rows_is; counted_is = omega (arith, e) } in
    let more = kind_run g low k named rows lk place within next xs (λ y m. r y (inr m)) (with_line k p) (c + 1) at (omega (arith, room)) in
    let t = more.there in
    let count = t.counted_is in
    let shifted : At (behind_all (with_line k p) (map g xs)) low k named rows (c + length (x ∷ xs)) = record { low_is = t.low_is; high_is = t.high_is; named_is = t.named_is; rows_is = t.rows_is; counted_is = omega (arith, count) } in
    record { order = (f, subst (λ (q : Progress). IsInOrder q (map g xs)) (sym n) more.order); there = subst (λ (q : Progress). At (behind_all q (map g xs)) low k named rows (c + length (x ∷ xs))) (sym n) shifted }

-- ---- places

after_placed : (p : Progress) (n : ℕ) → 3 ≤ p.last → p.last ≤ 4 → has_place p (l.After n) ≡ true
unfolding has_place
after_placed p n a b = both (from_bounds 3 4 p.last a b) refl

mail_placed : (p : Progress) (m : MailRef) → 3 ≤ p.last → p.last ≤ 5 → has_place p (l.Mail m) ≡ true
unfolding has_place
mail_placed p m a b = both (from_bounds 3 5 p.last a b) refl

emit_placed : (p : Progress) (v : ℤ) → 3 ≤ p.last → p.last ≤ 6 → has_place p (l.Emit v) ≡ true
unfolding has_place
emit_placed p v a b = both (from_bounds 3 6 p.last a b) refl

send_placed : (p : Progress) (s : Sent) → 3 ≤ p.last → p.last ≤ 7 → has_place p (l.Send s) ≡ true
unfolding has_place
send_placed p s a b = both (from_bounds 3 7 p.last a b) refl

all_rows : (p : Progress) (n : ℕ) → p.named ≡ n → p.rows ≡ n → (p.rows == p.named) ≡ true
all_rows p n a b = let e : p.rows ≡ p.named = omega (arith, a, b) in grind (arith, nat_tests)

trap_placed : (n : ℕ) (p : Progress) (t : TrapRow) → 2 ≤ p.last → p.last ≤ 8 → p.named ≡ n → p.rows ≡ n → has_place p (l.Trap t) ≡ true
unfolding has_place
trap_placed n p t a b c d = both (from_bounds 2 8 p.last a b) (all_rows p n c d)

wait_placed : (n : ℕ) (p : Progress) (w : WaitRow) → 2 ≤ p.last → p.last ≤ 9 → p.named ≡ n → p.rows ≡ n → has_place p (l.Wait w) ≡ true
unfolding has_place
wait_placed n p w a b c d = both (from_bounds 2 9 p.last a b) (all_rows p n c d)

end_fits : (n : ℕ) (p : Progress) → 2 ≤ p.last → p.last ≤ 9 → p.named ≡ n → p.rows ≡ n → fits p l.End ≡ true
unfolding has_place is_within
end_fits n p a b c d = both (both refl (both (from_bounds 2 9 p.last a b) (all_rows p n c d))) refl

row_fits : (p : Progress) (r : Row) (named rows c : ℕ) → is_in_range (l.Row (head_of r)) ≡ true → At p 2 7 named rows c → rows < named → c + 1 ≤ 262144 → fits p (l.Row (head_of r)) ≡ true
unfolding has_place is_within
row_fits p r named rows c range a more room =
    let n = a.named_is in
    let m = a.rows_is in
    let lower : p.rows < p.named = omega (arith, n, m, more) in
    let allow : nat_lt p.rows p.named ≡ true = grind (arith, nat_tests) in
    both (both range (both (from_bounds 2 7 p.last a.low_is a.high_is) allow)) (room_from p c a.counted_is room)

after_room : (p : Progress) (n : ℕ) → is_within p (l.After n) ≡ has_room p
unfolding is_within
after_room p n = refl

mail_room : (p : Progress) (m : MailRef) → is_within p (l.Mail m) ≡ has_room p
unfolding is_within
mail_room p m = refl

emit_room : (p : Progress) (v : ℤ) → is_within p (l.Emit v) ≡ has_room p
unfolding is_within
emit_room p v = refl

send_room : (p : Progress) (s : Sent) → is_within p (l.Send s) ≡ has_room p
unfolding is_within
send_room p s = refl

trap_room : (p : Progress) (t : TrapRow) → is_within p (l.Trap t) ≡ has_room p
unfolding is_within
trap_room p t = refl

wait_room : (p : Progress) (w : WaitRow) → is_within p (l.Wait w) ≡ has_room p
unfolding is_within
wait_room p w = refl

-- ---- a row, and all rows

record RowRanged (r : Row) : Type 0 where
  head : is_in_range (l.Row (head_of r)) ≡ true
  after : (n : ℕ) → Mem n r.after → is_in_range (l.After n) ≡ true
  mail : (m : MailRef) → Mem m r.mail → is_in_range (l.Mail m) ≡ true
  emits : (v : ℤ) → Mem v r.emits → is_in_range (l.Emit v) ≡ true
  sends : (s : Sent) → Mem s r.sends → is_in_range (l.Send s) ≡ true

row_run : (r : Row) → RowRanged r → (p : Progress) (named rows c : ℕ) → At p 2 7 named rows c → rows < named → c + row_lines r ≤ 262144 → Ran p (row_parts r) 2 7 named (rows + 1) (c + row_lines r)
row_run r g p named rows c a more room =
    let e = a.counted_is in
    let n = a.named_is in
    let m = a.rows_is in
    let f = row_fits p r named rows c g.head a more (omega (arith, room)) in
    let q = after p (l.Row (head_of r)) in
    let at : At q 3 4 named (rows + 1) (c + 1) = record { low_is = omega arith; high_is = omega arith; named_is = n; rows_is = omega (arith, m); counted_is = omega (arith, e) } in
    let r1 = kind_run l.After 3 4 named (rows + 1) (omega arith) (λ p x i j k h. after_placed p x i j) after_room (λ p x. refl) r.after g.after q (c + 1) at (omega (arith, room)) in
    let q1 = behind_all q (map l.After r.after) in
    let c1 = c + 1 + length r.after in
    let r2 = kind_run l.Mail 3 5 named (rows + 1) (omega arith) (λ p x i j k h. mail_placed p x i j) mail_room (λ p x. refl) r.mail g.mail q1 c1 (wider q1 3 4 3 5 named (rows + 1) c1 (omega arith) (omega arith) r1.there) (omega (arith, room)) in
    let q2 = behind_all q1 (map l.Mail r.mail) in
    let c2 = c1 + length r.mail in
    let r3 = kind_run l.Emit 3 6 named (rows + 1) (omega arith) (λ p x i j k h. emit_placed p x i j) emit_room (λ p x. refl) r.emits g.emits q2 c2 (wider q2 3 5 3 6 named (rows + 1) c2 (omega arith) (omega arith) r2.there) (omega (arith, room)) in
    let q3 = behind_all q2 (map l.Emit r.emits) in
    let c3 = c2 + length r.emits in
    let r4 = kind_run l.Send 3 7 named (rows + 1) (omega arith) (λ p x i j k h. send_placed p x i j) send_room (λ p x. refl) r.sends g.sends q3 c3 (wider q3 3 6 3 7 named (rows + 1) c3 (omega arith) (omega arith) r3.there) (omega (arith, room)) in
    let c4 = c3 + length r.sends in
    let s3 = run_joined q2 (map l.Emit r.emits) (map l.Send r.sends) 3 6 named (rows + 1) c3 3 7 named (rows + 1) c4 r3 r4 in
    let s2 = run_joined q1 (map l.Mail r.mail) (map l.Emit r.emits ++ map l.Send r.sends) 3 5 named (rows + 1) c2 3 7 named (rows + 1) c4 r2 s3 in
    let s1 = run_joined q (map l.After r.after) (map l.Mail r.mail ++ (map l.Emit r.emits ++ map l.Send r.sends)) 3 4 named (rows + 1) c1 3 7 named (rows + 1) c4 r1 s2 in
    let t = s1.there in
    let low = t.low_is in
    let count = t.counted_is in
    record { order = (f, s1.order); there = record { low_is = omega (arith, low); high_is = t.high_is; named_is = t.named_is; rows_is = t.rows_is; counted_is = omega (arith, count) } }

rows_run : (rs : List Row) → ((r : Row) → Mem r rs → RowRanged r) → (p : Progress) (named rows c : ℕ) → At p 2 7 named rows c → rows + length rs ≡ named → c + sum_by row_lines rs ≤ 262144
    → Ran p (flat_map row_parts rs) 2 7 named named (c + sum_by row_lines rs)
rows_run [] g p named rows c a sum room =
    let m = a.rows_is in
    let e = a.counted_is in
    record { order = tt; there = record { low_is = a.low_is; high_is = a.high_is; named_is = a.named_is; rows_is = omega (arith, m, sum); counted_is = omega (arith, e) } }
rows_run (r ∷ rs) g p named rows c a sum room =
    let s = sum_by-cons row_lines r rs in
    let one = row_run r (g r (inl refl)) p named rows c a (omega (arith, sum)) (omega (arith, room, s)) in
    let q = behind_all p (row_parts r) in
    let more = rows_run rs (λ x m. g x (inr m)) q named (rows + 1) (c + row_lines r) one.there (omega (arith, sum)) (omega (arith, room, s)) in
    let all = run_joined p (row_parts r) (flat_map row_parts rs) 2 7 named (rows + 1) (c + row_lines r) 2 7 named named (c + row_lines r + sum_by row_lines rs) one more in
    let t = all.there in
    let count = t.counted_is in
    record { order = all.order; there = record { low_is = t.low_is; high_is = t.high_is; named_is = t.named_is; rows_is = t.rows_is; counted_is = omega (arith, count, s) } }

-- ---- ranges of a valid log

word_to : (z : ℤ) → IsWord z → is_word z ≡ true
word_to (pos n) h = grind (arith, nat_tests)
word_to (negsuc n) h = grind (arith, nat_tests)

small : (n : ℕ) → n < 2 ^ 32 → is_small n ≡ true
small n h = grind (arith, nat_tests)

from_to : (least most n : ℕ) → IsFrom least most n → is_from least most n ≡ true
from_to least most n h = from_bounds least most n h.least_is h.most_is

module _ (log : Log) (v : IsValid log) where
  rows_few : length log.rows ≤ 262144
  rows_few = let f = few_rows log.rows in let n = v.lines in omega (arith, f, n)

  chare_small : (n : ℕ) → n < log.chares → is_small n ≡ true
  chare_small n h = let few = (v.chares).most_is in small n (omega (arith, h, few))

  entry_small : (n : ℕ) → n < log.entries → is_small n ≡ true
  entry_small n h = let few = v.entries in small n (omega (arith, h, few))

  after_ranged : (chare n : ℕ) → Holds (λ (r : Row). r.chare ≡ chare) (numbered log.rows n) → is_small n ≡ true
  after_ranged chare n h =
      let r = got (λ (r : Row). r.chare ≡ chare) (numbered log.rows n) h in
      let a = (named log.rows n r.0 r.1).within in
      let few = rows_few in
      small n (omega (arith, a, few))

  mail_ranged : (m : MailRef) (chare : ℕ) → Holds (λ r. Holds (λ (s : Sent). s.to ≡ chare) (numbered r.sends m.index)) (numbered log.rows m.row) → is_in_range (l.Mail m) ≡ true
  mail_ranged m chare h =
      let r = got (λ (r : Row). Holds (λ (s : Sent). s.to ≡ chare) (numbered r.sends m.index)) (numbered log.rows m.row) h in
      let s = got (λ (s : Sent). s.to ≡ chare) (numbered (r.0).sends m.index) r.2 in
      let a = named log.rows m.row r.0 r.1 in
      let b = named (r.0).sends m.index s.0 s.1 in
      let row = a.within in
      let index = b.within in
      let few = rows_few in
      let one = one_of_sum row_lines log.rows r.0 a.is_in in
      let all = v.lines in
      both (small m.row (omega (arith, row, few))) (small m.index (omega (arith, index, one, all)))

  send_ranged : (cost : ℕ) (s : Sent) → SendFits log cost s → is_in_range (l.Send s) ≡ true
  send_ranged cost s f =
      let b = f.bytes in
      let bytes : nat_le s.bytes (2 ^ 30) ≡ true = grind (arith, nat_tests, b) in
      both (chare_small s.to f.target) (both (entry_small s.key.entry f.entry) (both (word_to s.key.reference f.reference) (both bytes (from_to 1 (2 ^ 32) s.offset f.offset))))

  row_ranged : (k : ℕ) (r : Row) → RowFits log k r → RowRanged r
  row_ranged k r f = record {
    head = both (chare_small r.chare f.chare) (both (from_to 1 10000 r.stmt (f.ranges).stmt) (both (from_to 1 262144 r.depth (f.ranges).depth) (from_to 1 (2 ^ 32) r.cost (f.ranges).cost)));
    after = λ n m. after_ranged r.chare n (f.after n m).same_chare;
    mail = λ m i. mail_ranged m r.chare (f.mail m i);
    emits = λ z m. word_to z ((f.ranges).emits z m);
    sends = λ s m. send_ranged r.cost s (f.sends s m);
  }

  rows_ranged : (k : ℕ) (rs : List Row) → EachFrom (RowFits log) k rs → (r : Row) → Mem r rs → RowRanged r
  rows_ranged k [] e r m = absurd m
  rows_ranged k (q ∷ rs) e r (inl i) = row_ranged k r (subst (RowFits log k) (sym i) e.0)
  rows_ranged k (q ∷ rs) e r (inr m) = rows_ranged (k + 1) rs e.1 r m

  trap_ranged : (t : TrapRow) → TrapFits log t → is_in_range (l.Trap t) ≡ true
  trap_ranged t f = both (chare_small t.chare f.chare) (from_to 1 10000 t.stmt f.stmt)

  wait_ranged : (w : WaitRow) → WaitFits log w → is_in_range (l.Wait w) ≡ true
  wait_ranged w f = both (chare_small w.chare f.chare) (both (from_to 1 10000 w.stmt f.stmt) (both (entry_small w.key.entry f.entry) (word_to w.key.reference f.reference)))

  counts_fit : fits (after start l.Version) (l.Counts (counts_of log)) ≡ true
  unfolding has_place is_within
  counts_fit =
      let few = rows_few in
      let c = v.chares in
      let most = c.most_is in
      let e = v.entries in
      let entries : nat_le log.entries 1000 ≡ true = grind (arith, nat_tests, e) in
      let rows : nat_le (length log.rows) 262144 ≡ true = grind (arith, nat_tests, few) in
      both (both (both (small log.chares (omega (arith, most))) (both (small log.entries (omega (arith, e))) (small (length log.rows) (omega (arith, few))))) refl) (both (from_to 1 65536 log.chares c) (both entries rows))

  version_fits : fits start l.Version ≡ true
  unfolding has_place is_within
  version_fits = refl

  pub valid_in_order : IsInOrder start (log_lines log)
  unfolding log_lines
  valid_in_order =
      let n = length log.rows in
      let sum = sum_by row_lines log.rows in
      let traps = map l.Trap log.traps in
      let waits = map l.Wait log.waits in
      let lines = v.lines in
      let p = after (after start l.Version) (l.Counts (counts_of log)) in
      let at : At p 2 7 n 0 0 = record { low_is = omega arith; high_is = omega arith; named_is = refl; rows_is = refl; counted_is = refl } in
      let r1 = rows_run log.rows (rows_ranged 1 log.rows v.rows) p n 0 0 at (omega arith) (omega (arith, lines)) in
      let q1 = behind_all p (flat_map row_parts log.rows) in
      let r2 = kind_run l.Trap 2 8 n n (omega arith) (trap_placed n) trap_room (λ p x. refl) log.traps (λ t m. trap_ranged t (v.traps t m)) q1 (0 + sum) (wider q1 2 7 2 8 n n (0 + sum) (omega arith) (omega arith) r1.there) (omega (arith, lines)) in
      let q2 = behind_all q1 traps in
      let c2 = 0 + sum + length log.traps in
      let r3 = kind_run l.Wait 2 9 n n (omega arith) (wait_placed n) wait_room (λ p x. refl) log.waits (λ w m. wait_ranged w (v.waits w m)) q2 c2 (wider q2 2 8 2 9 n n c2 (omega arith) (omega arith) r2.there) (omega (arith, lines)) in
      let q3 = behind_all q2 waits in
      let t = r3.there in
      let last : IsInOrder q3 (l.End ∷ []) = (end_fits n q3 t.low_is t.high_is t.named_is t.rows_is, tt) in (
        version_fits,
        (
          counts_fit,
          order_joined p (flat_map row_parts log.rows) (traps ++ (waits ++ l.End ∷ [])) r1.order
              (order_joined q1 traps (waits ++ l.End ∷ []) r2.order (order_joined q2 waits (l.End ∷ []) r3.order last)),
        ),
      )
