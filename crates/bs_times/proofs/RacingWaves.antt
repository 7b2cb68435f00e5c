-- Racing waves come to rest as waves do.
use Rattle.std.proofs.Common.{◌≤◌, ℕ, zero, suc, ◌⊎◌, ◌≡◌, inl, inr, refl, sym, ◌∙◌}
use Rattle.std.proofs.lemmas.Bool.{true≢false}
use Rattle.bs_log.specs.declared.log.MailRef.{MailRef}
use Rattle.bs_times.specs.Net.{Net, Starts, Causal}
use Rattle.bs_times.specs.Times.{HasLine, IsLine, IsListed, IsConsistent, arrival, budget}
use Rattle.bs_times.specs.Racing.{World, IsDirty, IsEven, AreRacingWaves, Raced}
use Rattle.bs_times.proofs.Moved.{from_lines, table_from_lines}
use Rattle.bs_times.proofs.Settled.{table_same}
use Rattle.bs_times.proofs.Listed.{row_or_not, empty_line, sender_line}
use Rattle.bs_times.proofs.Racing.{racing_wave}
use Rattle.bs_times.proofs.Waves.{waves_settle}

all_raced : (net : Net) → Causal net → (worlds : ℕ → World) → IsEven net (worlds 0) → AreRacingWaves net worlds → (k : ℕ) → Raced net (worlds k) (worlds (suc k))
all_raced net c worlds even races zero = racing_wave net c (worlds 0) (worlds 1) even (races 0)
all_raced net c worlds even races (suc k) = racing_wave net c (worlds (suc k)) (worlds (suc (suc k))) (all_raced net c worlds even races k).even (races (suc k))

pub racing_waves_settle : (net : Net) → Causal net → (z : Starts) → IsConsistent net z → (worlds : ℕ → World) → IsEven net (worlds 0) → AreRacingWaves net worlds → (k : ℕ) → budget net ≤ suc k → (p : ℕ) → IsDirty net (worlds (suc k)) p → ⊥
racing_waves_settle net c z b worlds even races k le p dirty = go dirty
  where
    done : Raced net (worlds k) (worlds (suc k))
    done = all_raced net c worlds even races k

    go : IsDirty net (worlds (suc k)) p → ⊥
    go (inl e) = true≢false (sym (done.begun p e.0) ∙ e.1)
    go (inr d) = d.3 ((waves_settle net c z b (λ j. (worlds j).held) (λ j. (all_raced net c worlds even races j).wave) k le).0 d.0 d.1 ∙ sym (done.used d.0 d.1))

pub clean_is_consistent : (net : Net) → Causal net → (w : World) → IsEven net w → ((p : ℕ) → IsDirty net w p → ⊥) → (s : Starts) × IsConsistent net s × ((p : ℕ) → IsLine net p w.held s)
clean_is_consistent net c w even clean = (s, table_same net w.held (arrival net s) s (λ m l. even.as_given m l ∙ gave m l (row_or_not net (net.home m.row))) table, table)
  where
    line : (p : ℕ) → HasLine net p ⊎ (HasLine net p → ⊥) → (s : Starts) × IsLine net p w.held s
    line p (inl has) = ((even.up_to_date p has (clean p)).table, (even.up_to_date p has (clean p)).line)
    line p (inr none) = ((λ i. 0), empty_line net p w.held (λ i. 0) none)

    gave : (m : MailRef) → IsListed net m → (o : HasLine net (net.home m.row) ⊎ (HasLine net (net.home m.row) → ⊥)) → w.given m ≡ arrival net (line (net.home m.row) o).0 m
    gave m l (inl has) = (even.up_to_date (net.home m.row) has (clean (net.home m.row))).gave m l refl
    gave m l (inr none) = absurd (none (sender_line net c (net.home m.row) m l refl))

    lines : (p : ℕ) → (s : Starts) × IsLine net p w.held s
    lines p = line p (row_or_not net p)

    s : Starts
    s = from_lines net w.held lines

    table : (p : ℕ) → IsLine net p w.held s
    table = table_from_lines net w.held c lines
