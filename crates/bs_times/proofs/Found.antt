-- Rows and sends by their numbers, in a valid log.
use Rattle.std.proofs.Common.{◌≡◌, ◌≤◌, ◌<◌, ◌⊎◌, inl, inr, ℕ, zero, suc, ◌+◌, ◌-◌, ◌==◌, max, false, if◌then◌else◌, List, [], ◌∷◌, Option, Some, None, length, slice_get, get_or, unwrap_or, refl, ap, subst, ◌∙◌, arith}
use Rattle.std.specs.List.{fold}
use Rattle.std.proofs.lemmas.Option.{unwrap_or-slice_get, slice_get_past}
use Rattle.std.proofs.lemmas.Bool.Decides.{nat_tests}
use Rattle.bs_log.specs.declared.history.Sent.{Sent}
use Rattle.bs_log.specs.declared.log.MailRef.{MailRef}
use Rattle.bs_log.specs.declared.log.Row.{Row}
use Rattle.bs_log.specs.declared.log.Log.{Log}
use Rattle.bs_log.specs.Valid.{numbered, Holds, EachFrom, RowFits, SendFits, row_depth, deepest, IsValid}
use Rattle.bs_log.specs.Lists.{Mem}
use Rattle.bs_times.specs.Net.{no_row, no_send, row_of, sent_of}

numbered_suc : {A : Type 0} (xs : List A) (n : ℕ) → numbered xs (suc n) ≡ slice_get xs n
numbered_suc xs n =
    let no : (suc n == 0) ≡ false = grind (arith, nat_tests) in
    let k : suc n - 1 ≡ n = omega arith in
    ap (λ b. if b then None else slice_get xs (suc n - 1)) no ∙ ap (slice_get xs) k

pub numbered_is : {A : Type 0} (xs : List A) (n : ℕ) (d : A) → unwrap_or (numbered xs (suc n)) d ≡ get_or xs n d
numbered_is xs n d = ap (λ o. unwrap_or o d) (numbered_suc xs n) ∙ unwrap_or-slice_get xs n d

each_at : {A : Type 0} (P : ℕ → A → Type 0) (k : ℕ) (xs : List A) (n : ℕ) (d : A) → EachFrom P k xs → n < length xs → P (k + n) (get_or xs n d)
each_at P k [] n d h lt = absurd (omega (arith, lt))
each_at P k (x ∷ xs) zero d h lt = subst (λ j. P j x) (omega arith) h.0
each_at P k (x ∷ xs) (suc n) d h lt = subst (λ j. P j (get_or xs n d)) (omega arith) (each_at P (k + 1) xs n d h.1 (omega (arith, lt)))

-- the row of each number from 1 on fits.
pub row_fits : (log : Log) (i : ℕ) → IsValid log → 1 ≤ i → i ≤ length log.rows → RowFits log i (row_of log i)
row_fits log zero v some most = absurd (omega (arith, some))
row_fits log (suc n) v some most =
    let e : 1 + n ≡ suc n = omega arith in
    rw (numbered_is log.rows n no_row) (subst (λ k. RowFits log k (get_or log.rows n no_row)) e (each_at (RowFits log) 1 log.rows n no_row v.rows (omega (arith, most))))

holds_is : {A : Type 0} (P : A → Type 0) (o : Option A) (d : A) → Holds P o → P (unwrap_or o d)
holds_is P None d h = absurd h
holds_is P (Some x) d h = h

-- what holds of the item of a number is that of an item that is there.
pub record IsFound {A : Type 0} (P : A → Type 0) (xs : List A) (d : A) (n : ℕ) : Type 0 where
  pub some : 1 ≤ n
  pub most : n ≤ length xs
  pub holds : P (unwrap_or (numbered xs n) d)

pub found : {A : Type 0} (P : A → Type 0) (xs : List A) (d : A) (n : ℕ) → Holds P (numbered xs n) → IsFound P xs d n
found P xs d zero h = absurd h
found P xs d (suc n) h = record { some = omega arith; most = within (order n (length xs)); holds = holds_is P _ d h }
  where
    order : (a b : ℕ) → (a < b) ⊎ (b ≤ a)
    order a b = grind arith

    within : (n < length xs) ⊎ (length xs ≤ n) → suc n ≤ length xs
    within (inl lt) = omega (arith, lt)
    within (inr le) = absurd (subst (Holds P) (numbered_suc xs n ∙ slice_get_past xs n le) h)

depth_is : (o : Option Row) → row_depth o ≡ (unwrap_or o no_row).depth
depth_is None = refl
depth_is (Some r) = refl

fold_from : {A : Type 0} (f : A → ℕ) (a : ℕ) (xs : List A) → a ≤ fold (λ d x. max d (f x)) a xs
fold_from f a [] = omega arith
fold_from f a (x ∷ xs) = omega (arith, fold_from f (max a (f x)) xs)

fold_mem : {A : Type 0} (f : A → ℕ) (a : ℕ) (x : A) (xs : List A) → Mem x xs → f x ≤ fold (λ d x. max d (f x)) a xs
fold_mem f a x [] m = absurd m
fold_mem f a x (y ∷ xs) (inl e) = rw e (omega (arith, fold_from f (max a (f y)) xs))
fold_mem f a x (y ∷ xs) (inr m) = fold_mem f (max a (f y)) x xs m

-- the rows that a row's causes name are less deep.
pub after_deepest : (log : Log) (r : Row) (n : ℕ) → Mem n r.after → (row_of log n).depth ≤ deepest log r
after_deepest log r n m =
    let low = fold_mem (λ n. row_depth (numbered log.rows n)) 0 n r.after m in
    let high = fold_from (λ (m : MailRef). row_depth (numbered log.rows m.row)) (fold (λ d n. max d (row_depth (numbered log.rows n))) 0 r.after) r.mail in
    omega (arith, low, high, depth_is (numbered log.rows n))

pub mail_deepest : (log : Log) (r : Row) (m : MailRef) → Mem m r.mail → (row_of log m.row).depth ≤ deepest log r
mail_deepest log r m i =
    let low = fold_mem (λ (m : MailRef). row_depth (numbered log.rows m.row)) (fold (λ d n. max d (row_depth (numbered log.rows n))) 0 r.after) m r.mail i in
    omega (arith, low, depth_is (numbered log.rows m.row))

send_at : {A : Type 0} (P : A → Type 0) (xs : List A) (n : ℕ) (d : A) → ((x : A) → Mem x xs → P x) → n < length xs → P (get_or xs n d)
send_at P [] n d h lt = absurd (omega (arith, lt))
send_at P (x ∷ xs) zero d h lt = h x (inl refl)
send_at P (x ∷ xs) (suc n) d h lt = send_at P xs n d (λ y m. h y (inr m)) (omega (arith, lt))

-- the send of a number from 1 on fits.
pub send_fits : (log : Log) (m : MailRef) → IsValid log → 1 ≤ m.row → m.row ≤ length log.rows → 1 ≤ m.index → m.index ≤ length (row_of log m.row).sends → SendFits log (row_of log m.row).cost (sent_of log m)
send_fits log m v one row some most = go m.index some most
  where
    r : Row
    r = row_of log m.row

    go : (k : ℕ) → 1 ≤ k → k ≤ length (row_of log m.row).sends → SendFits log (row_of log m.row).cost (unwrap_or (numbered (row_of log m.row).sends k) no_send)
    go zero some most = absurd (omega (arith, some))
    go (suc n) some most = rw (numbered_is (row_of log m.row).sends n no_send) (send_at (SendFits log (row_of log m.row).cost) (row_of log m.row).sends n no_send (row_fits log m.row v one row).sends (omega (arith, most)))

-- a block cause is a row of the same chare.
pub block_cause : (log : Log) (i x : ℕ) → IsValid log → 1 ≤ i → i ≤ length log.rows → Mem x (row_of log i).after → IsFound (λ (r : Row). r.chare ≡ (row_of log i).chare) log.rows no_row x
block_cause log i x v some most m = found _ log.rows no_row x ((row_fits log i v some most).after x m).same_chare

-- a message cause is a send of a row, and goes to the chare.
pub mail_cause : (log : Log) (i : ℕ) (m : MailRef) → IsValid log → 1 ≤ i → i ≤ length log.rows → Mem m (row_of log i).mail → IsFound (λ (r : Row). Holds (λ (s : Sent). s.to ≡ (row_of log i).chare) (numbered r.sends m.index)) log.rows no_row m.row
mail_cause log i m v some most k = found _ log.rows no_row m.row ((row_fits log i v some most).mail m k)
