-- Ticks of the listed messages.
use Rattle.std.proofs.Common.{◌≡◌, ◌≤◌, ◌<◌, ◌+◌, ◌-◌, ◌⊎◌, ◌^◌, inl, inr, ℕ, zero, suc, true, false, if◌then◌else◌, List, [], ◌∷◌, length, map, replicate, refl, ap, sym, subst, ◌∙◌, arith}
use Rattle.std.proofs.Math.ListN.{get_or-eq_default}
use Rattle.std.proofs.lemmas.List.{length-map}
use Rattle.std.proofs.lemmas.Bool.{cases_Bool}
use Rattle.bs_log.specs.declared.log.Log.{Log}
use Rattle.bs_log.specs.declared.log.MailRef.{MailRef}
use Rattle.bs_log.specs.declared.log.Row.{Row}
use Rattle.bs_log.specs.Lists.{InOrder, Mem}
use Rattle.bs_log.specs.Rising.{IsLower}
use Rattle.bs_log.specs.Valid.{IsValid}
use Rattle.bs_machine.specs.declared.fitted.Fitted.{Fitted}
use Rattle.bs_num.specs.declared.ticks.Tick.{Tick}
use Rattle.bs_line.specs.Making.{numbers}
use Rattle.bs_line.specs.Places.{AreMails, mail_place}
use Rattle.bs_line.proofs.Ordered.{lower_back, mail_tests, one_mails}
use Rattle.bs_rows.specs.Rows.{net_on}
use Rattle.bs_schedule.specs.Plan.{at}
use Rattle.bs_settle.specs.declared.times.Times.{Times}
use Rattle.bs_settle.specs.Settled.{SettlesAt}
use Rattle.bs_settle.specs.Shares.{AreEarly, arriving}
use Rattle.bs_settle.specs.Timed.{AreTimes, starts_from}
use Rattle.bs_settle.proofs.Passed.{tick_placed}
use Rattle.bs_settle.proofs.Premises.{causal}
use Rattle.bs_times.specs.Machine.{machine_of}
use Rattle.bs_times.specs.Net.{Net, Starts, Ticks}
use Rattle.bs_times.specs.Racing.{same_mail}
use Rattle.bs_times.specs.Times.{IsConsistent, IsListed, SameTicks, arrival}
use Rattle.bs_times.proofs.Causal.{fitted_is_timely}
use Rattle.bs_times.proofs.Members.{cases_le, map_mem}
use Rattle.bs_times.proofs.Small.{small_arrivals}
use Rattle.bs_times.proofs.Unique.{one_consistent_table}
use Rattle.bs_whatif.specs.Figures.{at_zero}
use Rattle.bs_whatif.specs.Points.{AreTicksOf, tick_at}
use Rattle.bs_whatif.specs.Rescaled.{SameMessages}

-- ---- lists

pub same_map : {A B : Type 0} (f g : A → B) (xs : List A) → ((x : A) → Mem x xs → f x ≡ g x) → map f xs ≡ map g xs
same_map f g [] h = refl
same_map f g (x ∷ xs) h = rw (h x (inl refl), same_map f g xs (λ y m. h y (inr m))) refl

-- the start of a row stands at its place.
pub start_at : (s : Starts) (k : ℕ) (rows : List Row) (n : ℕ) → n < length rows → at (starts_from s k rows) n ≡ s (k + n)
start_at s k [] n lt = absurd (omega (arith, lt))
start_at s k (r ∷ rs) zero lt = ap s (omega arith)
start_at s k (r ∷ rs) (suc n) lt = start_at s (k + 1) rs n (omega (arith, lt)) ∙ ap s (omega arith)

-- ---- ticks of messages

zeros_map : (mails : List MailRef) → replicate (length mails) (record { 0 = 0 }) ≡ map (tick_at at_zero) mails
zeros_map [] = refl
zeros_map (m ∷ ms) = ap (λ ts. tick_at at_zero m ∷ ts) (zeros_map ms)

pub zeros_are : (net : Net) (mails : List MailRef) → AreMails (IsListed net) mails → (list : List Tick) → list ≡ replicate (length mails) (record { 0 = 0 }) → AreTicksOf net at_zero list
zeros_are net mails listed list e = record { mails = mails; listed = listed; are = e ∙ zeros_map mails }

pub early_ticks : (net : Net) (ticks : Ticks) (list : List Tick) → AreTicksOf net ticks list → ((m : MailRef) → IsListed net m → ticks m < 2 ^ 107) → AreEarly net list
early_ticks net ticks list are early = record {
  each = record { mails = are.mails; listed = are.listed; each = ap length are.are ∙ length-map are.mails (tick_at ticks) };
  early = λ t m.
      let d = map_mem (tick_at ticks) t are.mails (subst (Mem t) are.are m) in
      subst (λ (x : Tick). x.0 < 2 ^ 107) (sym d.2) (early d.0 ((are.listed.all d.0).1 d.1));
}

-- where the ticks of listed messages are the same, so are the lists.
pub same_ticks : (net : Net) (a b : Ticks) (list : List Tick) → SameTicks net a b → AreTicksOf net a list → AreTicksOf net b list
same_ticks net a b list same are = record {
  mails = are.mails;
  listed = are.listed;
  are = are.are ∙ same_map (tick_at a) (tick_at b) are.mails (λ m is. λ i. record { 0 = same m ((are.listed.all m).1 is) i });
}

pub one_ticks : (net : Net) (ticks : Ticks) (a b : List Tick) → AreTicksOf net ticks a → AreTicksOf net ticks b → a ≡ b
one_ticks net ticks a b h k = h.are ∙ ap (map (tick_at ticks)) (one_mails (IsListed net) h.mails k.mails h.listed k.listed) ∙ sym k.are

-- each listed message has its tick in the list.
pub ticks_placed : (net : Net) (ticks : Ticks) (list : List Tick) → AreTicksOf net ticks list → (mails : List MailRef) → AreMails (IsListed net) mails → (m : MailRef) → IsListed net m → at (numbers list) (mail_place mails m) ≡ ticks m
ticks_placed net ticks list are mails listed m is =
    let same : are.mails ≡ mails = one_mails (IsListed net) are.mails mails are.listed listed in
    ap (λ ts. at (numbers ts) (mail_place mails m)) (are.are ∙ ap (map (tick_at ticks)) same) ∙ tick_placed (tick_at ticks) mails m ((listed.all m).0 is)

apart : (m x : MailRef) → IsLower m x → (same_mail m x ≡ true) ⊎ (same_mail m x ≡ false) → same_mail m x ≡ false
apart m x low (inl e) = let same = mail_tests.only m x e in absurd (lower_back m x low (subst (λ y. IsLower y m) same (subst (IsLower m) (sym same) low)))
apart m x low (inr e) = e

-- a list that is as long as one of messages that rise has a tick for each.
placed : (ticks : List Tick) (mails : List MailRef) → length ticks ≡ length mails → InOrder IsLower mails → ticks ≡ map (tick_at (λ m. at (numbers ticks) (mail_place mails m))) mails
placed [] [] long rises = refl
placed [] (m ∷ ms) long rises = absurd (omega (arith, long))
placed (t ∷ ts) [] long rises = absurd (omega (arith, long))
placed (t ∷ ts) (m ∷ ms) long rises =
    let there = placed ts ms (omega (arith, long)) rises.1 ∙ same_map (tick_at (λ k. at (numbers ts) (mail_place ms k))) (tick_at (λ k. at (numbers (t ∷ ts)) (mail_place (m ∷ ms) k))) ms later in
    λ i. record { 0 = first i } ∷ there i
  where
    first : t.0 ≡ at (t.0 ∷ numbers ts) (if same_mail m m then 0 else suc (mail_place ms m))
    first = rw (mail_tests.itself m) refl

    later : (x : MailRef) → Mem x ms → tick_at (λ k. at (numbers ts) (mail_place ms k)) x ≡ tick_at (λ k. at (numbers (t ∷ ts)) (mail_place (m ∷ ms) k)) x
    later x is = let e = apart m x (rises.0 x is) (cases_Bool (same_mail m x)) in rw e refl

-- an early list has the ticks of some estimates.
pub some_ticks : (net : Net) (list : List Tick) → AreEarly net list → (ticks : Ticks) × AreTicksOf net ticks list
some_ticks net list early = (λ m. at (numbers list) (mail_place early.each.mails m), record { mails = early.each.mails; listed = early.each.listed; are = placed list early.each.mails early.each.each early.each.listed.rises })

-- ---- other nets with the same listed messages

mails_moved : (net other : Net) → SameMessages net other → (mails : List MailRef) → AreMails (IsListed net) mails → AreMails (IsListed other) mails
mails_moved net other same mails listed = record { rises = listed.rises; all = λ m. (λ l. (listed.all m).0 ((same m).1 l), λ is. (same m).0 ((listed.all m).1 is)) }

pub ticks_moved : (net other : Net) → SameMessages net other → (ticks : Ticks) (list : List Tick) → AreTicksOf net ticks list → AreTicksOf other ticks list
ticks_moved net other same ticks list are = record { mails = are.mails; listed = mails_moved net other same are.mails are.listed; are = are.are }

pub early_moved : (net other : Net) → SameMessages net other → (list : List Tick) → AreEarly net list → AreEarly other list
early_moved net other same list early = record { each = record { mails = early.each.mails; listed = mails_moved net other same early.each.mails early.each.listed; each = early.each.each }; early = early.early }

pub same_log : (log : Log) (a b : Fitted) → SameMessages (net_on log a) (net_on log b)
same_log log a b m = (λ l. l, λ l. l)

-- ---- waves from ticks

pub settles_from : (net : Net) (a b : Ticks) (n : ℕ) → SameTicks net a b → SettlesAt net a n → SettlesAt net b n
settles_from net a b n same h = record { some = h.some; settles = λ ticks are begin. h.settles ticks are (λ m l. begin m l ∙ sym (same m l)) }

pub early_arrivals : (log : Log) (m : Fitted) → IsValid log → (s : Starts) → IsConsistent (net_on log m) s → (list : List Tick) → AreTicksOf (net_on log m) (arrival (net_on log m) s) list → AreEarly (net_on log m) list
early_arrivals log m v s table list are = early_ticks (net_on log m) (arrival (net_on log m) s) list are (small_arrivals log (machine_of m) v (fitted_is_timely m) s table)

-- the ticks that a field begins with are those of the list.
pub begun_same : (net : Net) (list copy : List Tick) → copy ≡ list → (ticks : Ticks) → ((mails : List MailRef) × AreMails (IsListed net) mails × ((m : MailRef) → IsListed net m → ticks m ≡ at (numbers copy) (mail_place mails m))) → (estimates : Ticks) → AreTicksOf net estimates list → SameTicks net ticks estimates
begun_same net list copy e ticks (mails, listed, each) estimates are m l = each m l ∙ ap (λ ts. at (numbers ts) (mail_place mails m)) e ∙ ticks_placed net estimates list are mails listed m l

-- ---- times and arrivals

module _ (log : Log) (m : Fitted) (times : Times) (a : AreTimes log (machine_of m) times) where
  starts_count : (s : Starts) (k : ℕ) (rows : List Row) → length (starts_from s k rows) ≡ length rows
  starts_count s k [] = refl
  starts_count s k (r ∷ rs) = ap suc (starts_count s (k + 1) rs)

  pub starts_long : length times.starts ≡ length log.rows
  starts_long = sym (length-map times.starts (λ t. t.0)) ∙ ap length a.starts ∙ starts_count a.table 1 log.rows

  start_is : (i : ℕ) → i < length log.rows → at (numbers times.starts) i ≡ a.table (1 + i)
  start_is i lt = ap (λ ns. at ns i) a.starts ∙ start_at a.table 1 log.rows i lt

  pub starts_small : (i : ℕ) → at (numbers times.starts) i < 2 ^ 109
  starts_small i = go (cases_le (length log.rows) i)
    where
      past : length log.rows ≤ i → at (numbers times.starts) i ≡ 0
      past le = get_or-eq_default (numbers times.starts) 0 (omega (arith, le, starts_long, length-map times.starts (λ t. t.0)))

      go : (length log.rows ≤ i) ⊎ (i < length log.rows) → at (numbers times.starts) i < 2 ^ 109
      go (inl le) = let none = past le in omega (arith, none)
      go (inr lt) = let early = (a.in_range (1 + i) (omega arith, omega (arith, lt))).starts_early in omega (arith, early, start_is i lt)

  pub arrivals_are : IsValid log → (mails : List MailRef) → AreMails (IsListed (net_on log m)) mails → (list : List Tick) → list ≡ map (arriving (net_on log m) (λ i. at (numbers times.starts) (i - 1))) mails → (s : Starts) → IsConsistent (net_on log m) s → AreTicksOf (net_on log m) (arrival (net_on log m) s) list
  arrivals_are v mails listed list e s table = record {
    mails = mails;
    listed = listed;
    are = e ∙ same_map (arriving net (λ i. at (numbers times.starts) (i - 1))) (tick_at (arrival net s)) mails each;
  }
    where
      net : Net
      net = net_on log m

      row : (k : MailRef) → IsListed (net_on log m) k → at (numbers times.starts) (k.row - 1) ≡ s k.row
      row k l =
          let has = ((causal log m v).mail l.0 k l.1 l.2).0 in
          let e : 1 + (k.row - 1) ≡ k.row = omega (arith, has.0) in
          start_is (k.row - 1) (omega (arith, has.0, has.1)) ∙ ap a.table e ∙ one_consistent_table (net_on log m) (causal log m v) a.table s a.is_consistent table k.row has

      each : (k : MailRef) → Mem k mails → arriving (net_on log m) (λ i. at (numbers times.starts) (i - 1)) k ≡ tick_at (arrival (net_on log m) s) k
      each k is = λ i. record { 0 = row k ((listed.all k).1 is) i + (net_on log m).travel k }

  pub arrivals_early : IsValid log → (mails : List MailRef) → AreMails (IsListed (net_on log m)) mails → (list : List Tick) → list ≡ map (arriving (net_on log m) (λ i. at (numbers times.starts) (i - 1))) mails → AreEarly (net_on log m) list
  arrivals_early v mails listed list e = early_arrivals log m v a.table a.is_consistent list (arrivals_are v mails listed list e a.table a.is_consistent)
