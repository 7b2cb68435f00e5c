-- A line that holds one message at another tick.
use Rattle.std.proofs.Common.{◌≡◌, ◌≢◌, ◌⊎◌, ◌==◌, inl, inr, ℕ, Bool, true, false, if◌then◌else◌, List, Some, set, refl, sym, ap, subst, ◌∙◌}
use Rattle.std.specs.List.{slice_get}
use Rattle.std.proofs.lemmas.Bool.{and_from, eq-eqb, true≢false}
use Rattle.std.proofs.lemmas.Option.{slice_get_within}
use Rattle.bs_log.specs.declared.log.MailRef.{MailRef}
use Rattle.bs_times.specs.Net.{Net, Starts, Ticks, Causal}
use Rattle.bs_times.specs.Times.{HasLine, arrival}
use Rattle.bs_times.specs.Racing.{same_mail}
use Rattle.bs_times.proofs.Racing.{mail_tells}
use Rattle.bs_schedule.specs.Plan.{at}
use Rattle.bs_line.specs.declared.line.Line.{Line}
use Rattle.bs_rows.specs.Rows.{net_on}
use Rattle.bs_line.specs.Layout.{ComesTo, number_on, sends_of}
use Rattle.bs_line.specs.Line.{IsReady, IsSameLine, given_of, held_of, net_at, starts_of, used_of}
use Rattle.bs_line.specs.Places.{mail_place}
use Rattle.bs_settle.specs.Changes.{CanBeHeld}
use Rattle.bs_settle.specs.Lines.{AreLines, IsCurrent, IsLineOf, held_in}
use Rattle.bs_settle.proofs.Columns.{column_kept, item_here}
use Rattle.bs_settle.proofs.Lines.{held_at, line_same, receiver_line}

module _ (old new : Line) (same : IsSameLine old new) where
  pub used_same : new.used ≡ old.used → used_of new ≡ used_of old
  used_same e i m = at (e i).items (mail_place (same.layout i).mails m)

  pub given_same : new.given ≡ old.given → given_of new ≡ given_of old
  given_same e i m = at (e i).items (mail_place (sends_of (same.layout i)) m)

  pub starts_same : new.starts ≡ old.starts → starts_of new ≡ starts_of old
  starts_same e i k = at (e i).items (number_on (same.layout i).rows k)

  pub net_same : net_at new ≡ net_at old
  net_same i = net_on (same.log i).now (same.machine i).now

  -- it is still a line of the net where what it used, gave and started is the same.
  pub line_kept : (net : Net) → IsLineOf net old → IsReady new → (new.begun ≡ true → old.begun ≡ true) → new.used ≡ old.used → new.given ≡ old.given → new.starts ≡ old.starts → IsLineOf net new
  line_kept net is ready begun used given starts = record {
    ready = ready;
    same = net_same ∙ is.same;
    has = subst (HasLine net) (sym same.processor) is.has;
    current = λ b. current (is.current (begun b));
  }
    where
      current : IsCurrent net old → IsCurrent net new
      current h = record {
        table = line_same net old.processor new.processor (used_of old) (used_of new) (starts_of old) (starts_of new) same.processor (used_same used) (starts_same starts) h.table;
        gave = λ m g. ap (λ (f : Ticks). f m) (given_same given) ∙ h.gave m (g.0, g.1 ∙ same.processor) ∙ ap (λ (z : Starts). arrival net z m) (sym (starts_same starts));
      }

pub same_itself : (m : MailRef) → same_mail m m ≡ true
same_itself m = and_from (m.row == m.row) (m.index == m.index) (eq-eqb m.row m.row refl) (eq-eqb m.index m.index refl)

module _ (net : Net) (places : List ℕ) (lines : List Line) (c : Causal net) (a : AreLines net places lines) (mail : MailRef) (to tick : ℕ) (can : CanBeHeld net mail to tick) where
  pub has_receiver : HasLine net to
  has_receiver = subst (HasLine net) can.goes (receiver_line net c mail can.listed)

  -- the ticks that are held, where the line of the message holds it at the tick and nothing else changes.
  pub ticks_after : (old new : Line) → slice_get lines (at places to) ≡ Some old → held_of new mail ≡ tick → ((m : MailRef) → m ≢ mail → held_of new m ≡ held_of old m) → (m : MailRef) → held_in net places (set lines (at places to) new) m ≡ if same_mail mail m then tick else held_in net places lines m
  ticks_after old new here held others m = go (same_mail mail m) refl (mail_tells mail m)
    where
      k : ℕ
      k = at places to

      there : mail ≡ m → at places (net.goes_to m) ≡ k
      there e = ap (λ x. at places (net.goes_to x)) (sym e) ∙ ap (at places) can.goes

      go : (b : Bool) → same_mail mail m ≡ b → ((same_mail mail m ≡ true) × (mail ≡ m)) ⊎ (same_mail mail m ≡ false) → held_in net places (set lines k new) m ≡ if b then tick else held_in net places lines m
      go true e (inl d) = held_at net places (set lines k new) m new (ap (slice_get (set lines k new)) (there d.1) ∙ item_here lines k new (slice_get_within lines k old here)) ∙ ap (held_of new) (sym d.1) ∙ held
      go true e (inr f) = absurd (true≢false (sym e ∙ f))
      go false e (inl d) = absurd (true≢false (sym d.0 ∙ e))
      go false e (inr f) = ap (λ xs. at xs (at places (net.goes_to m))) (column_kept (λ (l : Line). held_of l m) lines k old new here (others m (λ q. true≢false (sym (subst (λ x. same_mail mail x ≡ true) (sym q) (same_itself mail)) ∙ f))))

-- the line that a message is set at.
pub record Target (net : Net) (places : List ℕ) (lines : List Line) (mail : MailRef) (k : ℕ) (old : Line) : Type 0 where
  pub here : slice_get lines k ≡ Some old
  pub is : IsLineOf net old
  pub comes : ComesTo (net_at old) old.processor mail

pub target : (net : Net) (places : List ℕ) (lines : List Line) (c : Causal net) (a : AreLines net places lines) (mail : MailRef) (to tick k : ℕ) (old : Line) → CanBeHeld net mail to tick → k ≡ at places to → slice_get lines k ≡ Some old → Target net places lines mail k old
target net places lines c a mail to tick k old can e here = record {
  here = here;
  is = is;
  comes = subst (λ n. ComesTo n old.processor mail) (sym is.same) (can.listed, can.goes ∙ sym (a.there to (has_receiver net places lines c a mail to tick can) old (ap (slice_get lines) (sym e) ∙ here)));
}
  where
    is : IsLineOf net old
    is = (a.each k old here).0
