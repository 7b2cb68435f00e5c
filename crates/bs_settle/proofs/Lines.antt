-- The lines of a log: where each is, and what they hold, used and gave.
use Rattle.std.proofs.Common.{◌≡◌, ◌<◌, ℕ, false, List, Some, length, set, refl, sym, ap, subst, ◌∙◌, arith}
use Rattle.std.specs.List.{slice_get}
use Rattle.std.proofs.lemmas.List.{length-set}
use Rattle.std.proofs.lemmas.Option.{slice_get_within}
use Rattle.bs_log.specs.declared.log.MailRef.{MailRef}
use Rattle.bs_times.specs.Net.{Net, Starts, Ticks, Causal}
use Rattle.bs_times.specs.Times.{HasLine, IsLine, IsListed}
use Rattle.bs_times.proofs.Listed.{sender_line}
use Rattle.bs_schedule.specs.Plan.{at}
use Rattle.bs_line.specs.declared.line.Line.{Line}
use Rattle.bs_line.specs.Line.{given_of, held_of, starts_of, used_of}
use Rattle.bs_settle.specs.Lines.{AreLines, IsLineOf, begun_in, given_in, held_in, starts_in, used_in}
use Rattle.bs_settle.proofs.Columns.{each_after, picked, some_item}

-- the line of a processor, and its place
pub record Found (net : Net) (places : List ℕ) (lines : List Line) (p : ℕ) : Type 0 where
  pub line : Line
  pub here : slice_get lines (at places p) ≡ Some line
  pub processor : line.processor ≡ p
  pub is : IsLineOf net line

pub found : (net : Net) (places : List ℕ) (lines : List Line) → AreLines net places lines → (p : ℕ) → HasLine net p → Found net places lines p
found net places lines a p has =
    let item = some_item lines (at places p) (a.within p has).1 in
    record { line = item.0; here = item.1; processor = a.there p has item.0 item.1; is = (a.each (at places p) item.0 item.1).0 }

pub receiver_line : (net : Net) → Causal net → (m : MailRef) → IsListed net m → HasLine net (net.goes_to m)
receiver_line net c m listed = (listed.0, (listed.1, sym (c.mail listed.0 m listed.1 listed.2).2))

module _ (net : Net) (places : List ℕ) (lines : List Line) (c : Causal net) (a : AreLines net places lines) where
  -- the line that a listed message goes to, and the one that it comes from.
  pub receiver : (m : MailRef) → IsListed net m → Found net places lines (net.goes_to m)
  receiver m listed = found net places lines a (net.goes_to m) (receiver_line net c m listed)

  pub sender : (m : MailRef) → IsListed net m → Found net places lines (net.home m.row)
  sender m listed = found net places lines a (net.home m.row) (sender_line net c (net.home m.row) m listed refl)

pub held_at : (net : Net) (places : List ℕ) (lines : List Line) (m : MailRef) (line : Line) → slice_get lines (at places (net.goes_to m)) ≡ Some line → held_in net places lines m ≡ held_of line m
held_at net places lines m line e = picked (λ (l : Line). held_of l m) lines (at places (net.goes_to m)) line 0 e

pub used_at : (net : Net) (places : List ℕ) (lines : List Line) (m : MailRef) (line : Line) → slice_get lines (at places (net.goes_to m)) ≡ Some line → used_in net places lines m ≡ used_of line m
used_at net places lines m line e = picked (λ (l : Line). used_of l m) lines (at places (net.goes_to m)) line 0 e

pub given_at : (net : Net) (places : List ℕ) (lines : List Line) (m : MailRef) (line : Line) → slice_get lines (at places (net.home m.row)) ≡ Some line → given_in net places lines m ≡ given_of line m
given_at net places lines m line e = picked (λ (l : Line). given_of l m) lines (at places (net.home m.row)) line 0 e

pub start_at : (net : Net) (places : List ℕ) (lines : List Line) (i : ℕ) (line : Line) → slice_get lines (at places (net.home i)) ≡ Some line → starts_in net places lines i ≡ starts_of line i
start_at net places lines i line e = picked (λ (l : Line). starts_of l i) lines (at places (net.home i)) line 0 e

pub begun_at : (places : List ℕ) (lines : List Line) (p : ℕ) (line : Line) → slice_get lines (at places p) ≡ Some line → begun_in places lines p ≡ line.begun
begun_at places lines p line e = picked (λ (l : Line). l.begun) lines (at places p) line false e

-- the lines stay those of the net where one of them is replaced by another of its processor.
pub lines_after : (net : Net) (places : List ℕ) (lines : List Line) (k : ℕ) (old new : Line) → AreLines net places lines → slice_get lines k ≡ Some old → new.processor ≡ old.processor → IsLineOf net new → AreLines net places (set lines k new)
lines_after net places lines k old new a here same is = record {
  each = each_after (λ j (l : Line). IsLineOf net l × (at places l.processor ≡ j)) lines k new (is, ap (at places) same ∙ (a.each k old here).1) (λ j x n e. a.each j x e) within;
  within = λ p has. ((a.within p has).0, omega (arith, (a.within p has).1, length-set lines k new));
  there = λ p has line e. each_after (λ j (l : Line). at places p ≡ j → l.processor ≡ p) lines k new (λ q. same ∙ a.there p has old (ap (slice_get lines) q ∙ here)) (λ j x n f q. a.there p has x (ap (slice_get lines) q ∙ f)) within (at places p) line e refl;
}
  where
    within : k < length lines
    within = slice_get_within lines k old here

-- ---- one line

pub line_same : (net : Net) (p q : ℕ) (u v : Ticks) (s z : Starts) → q ≡ p → v ≡ u → z ≡ s → IsLine net p u s → IsLine net q v z
line_same net p q u v s z e f g h = subst (λ x. IsLine net x v z) (sym e) (subst (λ x. IsLine net p x z) (sym f) (subst (λ x. IsLine net p u x) (sym g) h))
