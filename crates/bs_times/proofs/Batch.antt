-- A batch changes what a wave changes.
use Rattle.std.proofs.Common.{◌≡◌, ℕ, true, false, ◌⊎◌, inl, inr, refl, sym, ◌∙◌}
use Rattle.std.proofs.lemmas.Bool.{cases_eq, cases_Bool}
use Rattle.bs_log.specs.declared.log.MailRef.{MailRef}
use Rattle.bs_times.specs.Net.{Net, Starts, Causal}
use Rattle.bs_times.specs.Times.{HasLine, IsLine, IsListed, arrival}
use Rattle.bs_times.specs.Racing.{World, IsDirty, IsUpToDate, IsEven, IsBatch, Raced}
use Rattle.bs_times.proofs.Listed.{row_or_not, empty_line, sender_line, dirty_or_not}
use Rattle.bs_times.proofs.Moved.{line_moved, from_lines, table_from_lines}

record Line (net : Net) (w v : World) (p : ℕ) : Type 0 where
  table : Starts
  line : IsLine net p w.held table
  given : (m : MailRef) → IsListed net m → net.home m.row ≡ p → v.given m ≡ arrival net table m

line_after : (net : Net) (w v : World) (p : ℕ) → Causal net → IsEven net w → IsBatch net w v → Line net w v p
line_after net w v p c even b = go (dirty_or_not net w p) (row_or_not net p)
  where
    go : IsDirty net w p ⊎ (IsDirty net w p → ⊥) → HasLine net p ⊎ (HasLine net p → ⊥) → Line net w v p
    go (inl d) has = record { table = b.table p; line = b.line p d; given = λ m l g. b.gives p m d l g }
    go (inr n) (inr none) = record { table = λ i. 0; line = empty_line net p w.held (λ i. 0) none; given = λ m l g. absurd (none (sender_line net c p m l g)) }
    go (inr n) (inl has) = let u : IsUpToDate net w p = even.up_to_date p has n in record { table = u.table; line = u.line; given = λ m l g. b.keeps m l (λ d. n (rw g at d)) ∙ u.gave m l g }

pub batch_wave : (net : Net) → Causal net → (w v : World) → IsEven net w → IsBatch net w v → Raced net w v
batch_wave net c w v even b = record {
  wave = record { table = from_lines net w.held lines; lines = table_from_lines net w.held c lines; arrives = λ m l. b.held m l ∙ (after (net.home m.row)).given m l refl };
  even = record {
    as_given = b.held;
    up_to_date = λ p has clean. record {
      table = (after p).table;
      line = line_moved net p w.held v.held (after p).table (after p).table c (λ m l g. sym (used m l) ∙ sym (clean_mail p m l g clean (cases_eq (v.held m) (v.used m)))) (λ i on. refl) (after p).line;
      gave = (after p).given;
    };
  };
  used = used;
  begun = λ p has. begun p has (dirty_or_not net w p);
}
  where
    after : (p : ℕ) → Line net w v p
    after p = line_after net w v p c even b

    lines : (p : ℕ) → (s : Starts) × IsLine net p w.held s
    lines p = ((after p).table, (after p).line)

    same : (m : MailRef) → IsListed net m → (IsDirty net w (net.goes_to m) → ⊥) → (w.held m ≡ w.used m) ⊎ (w.held m ≡ w.used m → ⊥) → w.used m ≡ w.held m
    same m l n (inl e) = sym e
    same m l n (inr e) = absurd (n (inr (m, l, refl, e)))

    used_by : (m : MailRef) → IsListed net m → IsDirty net w (net.goes_to m) ⊎ (IsDirty net w (net.goes_to m) → ⊥) → v.used m ≡ w.held m
    used_by m l (inl d) = b.used m l d
    used_by m l (inr n) = b.unused m l n ∙ same m l n (cases_eq (w.held m) (w.used m))

    used : (m : MailRef) → IsListed net m → v.used m ≡ w.held m
    used m l = used_by m l (dirty_or_not net w (net.goes_to m))

    clean_mail : (p : ℕ) (m : MailRef) → IsListed net m → net.goes_to m ≡ p → (IsDirty net v p → ⊥) → (v.held m ≡ v.used m) ⊎ (v.held m ≡ v.used m → ⊥) → v.held m ≡ v.used m
    clean_mail p m l g n (inl e) = e
    clean_mail p m l g n (inr e) = absurd (n (inr (m, l, g, e)))

    was_begun : (p : ℕ) → HasLine net p → (IsDirty net w p → ⊥) → (w.begun p ≡ true) ⊎ (w.begun p ≡ false) → w.begun p ≡ true
    was_begun p has n (inl e) = e
    was_begun p has n (inr e) = absurd (n (inl (has, e)))

    begun : (p : ℕ) → HasLine net p → IsDirty net w p ⊎ (IsDirty net w p → ⊥) → v.begun p ≡ true
    begun p has (inl d) = b.begins p d
    begun p has (inr n) = b.begun p n ∙ was_begun p has n (cases_Bool (w.begun p))
