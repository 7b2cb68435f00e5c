-- A valid log stays one where a statement is rescaled, and lists the same messages.
use Rattle.std.proofs.Common.{◌≡◌, ◌≤◌, ◌+◌, ◌==◌, ◌-◌, inl, inr, ℕ, suc, max, Bool, true, false, if◌then◌else◌, List, [], ◌∷◌, Option, Some, None, map, option_map, slice_get, unwrap_or, refl, ap, sym, subst, ◌∙◌, arith}
use Rattle.std.specs.List.{fold, sum_by}
use Rattle.std.proofs.lemmas.List.{length-map}
use Rattle.std.proofs.lemmas.Option.{slice_get-map}
use Rattle.std.proofs.lemmas.List.Sums.{sum_by-cons}
use Rattle.bs_log.specs.declared.history.Sent.{Sent}
use Rattle.bs_log.specs.declared.log.Log.{Log}
use Rattle.bs_log.specs.declared.log.MailRef.{MailRef}
use Rattle.bs_log.specs.declared.log.Row.{Row}
use Rattle.bs_log.specs.declared.log.WaitRow.{WaitRow}
use Rattle.bs_log.specs.Lists.{InOrder, Mem}
use Rattle.bs_log.specs.Valid.{EachFrom, Holds, IsValid, RowFits, SendFits, WaitFits, deepest, numbered, row_depth, row_lines, sends_in}
use Rattle.bs_semantics.specs.Serial.{Machine}
use Rattle.bs_times.specs.Net.{net_of, no_row, row_of}
use Rattle.bs_times.proofs.Members.{map_mem}
use Rattle.bs_whatif.specs.Rescaled.{IsCheap, IsFraction, SameMessages, rescaled, rescaled_row, rescaled_send, scaled_if}
use Rattle.bs_whatif.proofs.Alike.{Alike, alike_apart, alike_awaited, alike_map, alike_mem, alike_sends}
use Rattle.bs_whatif.proofs.Scales.{scaled_from, scaled_to, scaled_up}

-- ---- lists that are mapped

order_map : {A B : Type 0} (R : A → A → Type 0) (S : B → B → Type 0) (f : A → B) → ((x y : A) → R x y → S (f x) (f y)) → (xs : List A) → InOrder R xs → InOrder S (map f xs)
order_map R S f on [] h = h
order_map {A} {B} R S f on (x ∷ xs) h = (first, order_map R S f on xs h.1)
  where
    first : (y : B) → Mem y (map f xs) → S (f x) y
    first y m = let d = map_mem f y xs m in subst (S (f x)) (sym d.2) (on x d.0 (h.0 d.0 d.1))

each_map : {A B : Type 0} (P : ℕ → A → Type 0) (Q : ℕ → B → Type 0) (f : A → B) → ((k : ℕ) (x : A) → P k x → Q k (f x)) → (k : ℕ) (xs : List A) → EachFrom P k xs → EachFrom Q k (map f xs)
each_map P Q f on k [] h = h
each_map P Q f on k (x ∷ xs) h = (on k x h.0, each_map P Q f on (k + 1) xs h.1)

numbered_map : {A B : Type 0} (f : A → B) (xs : List A) (n : ℕ) → numbered (map f xs) n ≡ option_map f (numbered xs n)
numbered_map {A} {B} f xs n = go (n == 0)
  where
    go : (b : Bool) → (if b then None else slice_get (map f xs) (n - 1)) ≡ option_map f (if b then None else slice_get xs (n - 1))
    go true = refl
    go false = slice_get-map f xs (n - 1)

holds_map : {A B : Type 0} (P : A → Type 0) (Q : B → Type 0) (f : A → B) → ((x : A) → P x → Q (f x)) → (o : Option A) → Holds P o → Holds Q (option_map f o)
holds_map P Q f on None h = h
holds_map P Q f on (Some x) h = on x h

holds_numbered : {A B : Type 0} (P : A → Type 0) (Q : B → Type 0) (f : A → B) → ((x : A) → P x → Q (f x)) → (xs : List A) (n : ℕ) → Holds P (numbered xs n) → Holds Q (numbered (map f xs) n)
holds_numbered P Q f on xs n h = subst (Holds Q) (sym (numbered_map f xs n)) (holds_map P Q f on (numbered xs n) h)

-- ---- costs of a valid log

cheap_from : (log : Log) (k : ℕ) (rs : List Row) → EachFrom (RowFits log) k rs → (r : Row) → Mem r rs → IsCheap r
cheap_from log k [] h r m = absurd m
cheap_from log k (x ∷ rs) h r (inl e) = subst IsCheap (sym e) (record { cost = h.0.ranges.cost.most_is; offsets = λ s m. (h.0.sends s m).offset.most_is })
cheap_from log k (x ∷ rs) h r (inr m) = cheap_from log (k + 1) rs h.1 r m

pub all_cheap : (log : Log) → IsValid log → (r : Row) → Mem r log.rows → IsCheap r
all_cheap log v = cheap_from log 1 log.rows v.rows

-- ---- a rescaled log

module _ (log : Log) (stmt num den : ℕ) where
  abbrev to : Row → Row
  to = rescaled_row stmt num den

  abbrev new : Log
  new = rescaled log stmt num den

  depth_of : (o : Option Row) → row_depth (option_map to o) ≡ row_depth o
  depth_of None = refl
  depth_of (Some r) = refl

  depth_same : (n : ℕ) → row_depth (numbered new.rows n) ≡ row_depth (numbered log.rows n)
  depth_same n = ap row_depth (numbered_map to log.rows n) ∙ depth_of (numbered log.rows n)

  deepest_same : (r : Row) → deepest new (to r) ≡ deepest log r
  deepest_same r = λ i. fold (λ d (m : MailRef). max d (depth_same m.row i)) (fold (λ d n. max d (depth_same n i)) 0 r.after) r.mail

  mail_of : (o : Option Row) → (unwrap_or (option_map to o) no_row).mail ≡ (unwrap_or o no_row).mail
  mail_of None = refl
  mail_of (Some r) = refl

  mail_same : (i : ℕ) → (row_of new i).mail ≡ (row_of log i).mail
  mail_same i = ap (λ o. (unwrap_or o no_row).mail) (numbered_map to log.rows i) ∙ mail_of (numbered log.rows i)

  pub same_messages : (machine : Machine) → SameMessages (net_of log machine) (net_of new machine)
  same_messages machine m = (
    λ l. (l.0, (l.1.0, omega (arith, l.1.1, length-map log.rows to)), subst (Mem m) (sym (mail_same l.0)) l.2),
    λ l. (l.0, (l.1.0, omega (arith, l.1.1, length-map log.rows to)), subst (Mem m) (mail_same l.0) l.2),
  )

  lines_same : (r : Row) → row_lines (to r) ≡ row_lines r
  lines_same r = let e = length-map r.sends (rescaled_send (r.stmt == stmt) num den) in omega (arith, e)

  all_lines : (rs : List Row) → sum_by row_lines (map to rs) ≡ sum_by row_lines rs
  all_lines [] = refl
  all_lines (r ∷ rs) =
      let e = sum_by-cons row_lines r rs in
      let d = sum_by-cons row_lines (to r) (map to rs) in
      omega (arith, e, d, lines_same r, all_lines rs)

  alike : Alike (sends_in log.rows) (sends_in new.rows)
  alike = alike_sends to (λ r. alike_map (rescaled_send (r.stmt == stmt) num den) (λ s. record { to = refl; key = refl }) r.sends) log.rows

  module _ (v : IsValid log) (f : IsFraction num den) where
    send_fits : (is : Bool) (cost : ℕ) (s : Sent) → SendFits log cost s → SendFits new (scaled_if is num den cost) (rescaled_send is num den s)
    send_fits is cost s h = record {
      target = h.target;
      entry = h.entry;
      reference = h.reference;
      bytes = h.bytes;
      offset = record {
        least_is = scaled_from num den f is s.offset h.offset.least_is;
        most_is = omega (arith, scaled_to num den f is s.offset, h.offset.most_is);
      };
      within = scaled_up num den f is s.offset cost h.within;
    }

    sends_fit : (is : Bool) (cost : ℕ) (ss : List Sent) → ((s : Sent) → Mem s ss → SendFits log cost s) → (s : Sent) → Mem s (map (rescaled_send is num den) ss) → SendFits new (scaled_if is num den cost) s
    sends_fit is cost ss h s m = let d = map_mem (rescaled_send is num den) s ss m in subst (SendFits new (scaled_if is num den cost)) (sym d.2) (send_fits is cost d.0 (h d.0 d.1))

    row_fits : (k : ℕ) (r : Row) → RowFits log k r → RowFits new k (to r)
    row_fits k r h = record {
      ranges = record {
        stmt = h.ranges.stmt;
        depth = h.ranges.depth;
        cost = record {
          least_is = scaled_from num den f (r.stmt == stmt) r.cost h.ranges.cost.least_is;
          most_is = omega (arith, scaled_to num den f (r.stmt == stmt) r.cost, h.ranges.cost.most_is);
        };
        emits = h.ranges.emits;
      };
      chare = h.chare;
      after = λ n m. let d = h.after n m in record { earlier = d.earlier; same_chare = holds_numbered (λ x. x.chare ≡ r.chare) (λ x. x.chare ≡ r.chare) to (λ x e. e) log.rows n d.same_chare };
      mail = λ m is. holds_numbered (λ x. Holds (λ s. s.to ≡ r.chare) (numbered x.sends m.index)) (λ x. Holds (λ s. s.to ≡ r.chare) (numbered x.sends m.index)) to
          (λ x. holds_numbered (λ (s : Sent). s.to ≡ r.chare) (λ s. s.to ≡ r.chare) (rescaled_send (x.stmt == stmt) num den) (λ s e. e) x.sends m.index) log.rows m.row (h.mail m is);
      rises = record { after = h.rises.after; mail = h.rises.mail };
      depth = h.depth ∙ ap suc (sym (deepest_same r));
      sends = sends_fit (r.stmt == stmt) r.cost r.sends h.sends;
      offsets = order_map (λ (a b : Sent). a.offset ≤ b.offset) (λ a b. a.offset ≤ b.offset) (rescaled_send (r.stmt == stmt) num den) (λ a b. scaled_up num den f (r.stmt == stmt) a.offset b.offset) r.sends h.offsets;
    }

    wait_fits : (w : WaitRow) → WaitFits log w → WaitFits new w
    wait_fits w h = record {
      chare = h.chare;
      stmt = h.stmt;
      entry = h.entry;
      reference = h.reference;
      lacks = λ s m. let d = alike_mem (sends_in log.rows) (sends_in new.rows) alike s m in alike_awaited w d.0 s d.2 ∙ h.lacks d.0 d.1;
    }

    pub valid_again : IsValid new
    valid_again = record {
      chares = v.chares;
      entries = v.entries;
      lines = omega (arith, v.lines, all_lines log.rows);
      rows = each_map (RowFits log) (RowFits new) to row_fits 1 log.rows v.rows;
      row_order = order_map (λ (a b : Row). a.chare ≤ b.chare) (λ a b. a.chare ≤ b.chare) to (λ a b le. le) log.rows v.row_order;
      traps = λ t m. let d = v.traps t m in record { chare = d.chare; stmt = d.stmt };
      trap_order = v.trap_order;
      waits = λ w m. wait_fits w (v.waits w m);
      wait_order = v.wait_order;
      sent_once = alike_apart (sends_in log.rows) (sends_in new.rows) alike v.sent_once;
      awaited_once = v.awaited_once;
    }
