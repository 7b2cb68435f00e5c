-- What falls to a processor is all that its line is made of.
use Rattle.std.proofs.Common.{◌≡◌, ◌<◌, ◌++◌, ◌^◌, inl, inr, ℕ, zero, suc, Bool, List, length, drop, replicate, refl, sym, ap, subst, ◌∙◌, append-nil, arith}
use Rattle.std.proofs.Math.ListN.{drop_of_length-le}
use Rattle.std.proofs.lemmas.Bool.{eq-eqb, eqb-true}
use Rattle.std.proofs.lemmas.List.{length-replicate}
use Rattle.bs_log.specs.declared.log.MailRef.{MailRef}
use Rattle.bs_log.specs.Lists.{Mem}
use Rattle.bs_num.specs.declared.ticks.Tick.{Tick}
use Rattle.bs_times.specs.Net.{Net}
use Rattle.bs_times.specs.Times.{IsListed}
use Rattle.bs_schedule.specs.Plan.{at}
use Rattle.bs_line.specs.declared.making.Estimate.{Estimate}
use Rattle.bs_line.specs.Layout.{ComesTo, GoesFrom}
use Rattle.bs_line.specs.Making.{kept, mails_of, numbers, ticks_of}
use Rattle.bs_line.specs.Places.{AreMails, mail_place}
use Rattle.bs_settle.specs.declared.field.Estimates.{Estimates}
use Rattle.bs_settle.specs.declared.field.Estimates.TheVariants as estimates
use Rattle.bs_settle.specs.declared.shares.Share.{Share}
use Rattle.bs_settle.specs.Making.{IsWholeShare}
use Rattle.bs_settle.specs.Shares.{AreTicksFor, CanBegin, IsShareOf, estimate_of, from_test, ticks_by, to_test}
use Rattle.bs_line.proofs.Kept.{kept_among, kept_mails, kept_tick}
use Rattle.bs_line.proofs.Ordered.{one_mails}
use Rattle.bs_line.proofs.Chosen.{those_all}

-- ---- estimates

abbrev zero_tick : Tick
zero_tick = record { 0 = 0 }

zero_only : (many : ℕ) (t : Tick) → Mem t (replicate many zero_tick) → t ≡ zero_tick
zero_only zero t m = absurd m
zero_only (suc many) t (inl e) = e
zero_only (suc many) t (inr m) = zero_only many t m

zero_at : (many i : ℕ) → at (numbers (replicate many zero_tick)) i ≡ 0
zero_at zero i = refl
zero_at (suc many) zero = refl
zero_at (suc many) (suc i) = zero_at many i

pub begun_ticks : (net : Net) (begin : Estimates) (mails : List MailRef) → CanBegin net begin → AreMails (IsListed net) mails → AreTicksFor net mails (ticks_by begin (length mails))
begun_ticks net estimates.Zero mails can listed = record {
  listed = listed;
  each = length-replicate (length mails) zero_tick;
  early = λ t m. let e = ap (λ (x : Tick). x.0) (zero_only (length mails) t m) in omega (arith, e);
}
begun_ticks net (estimates.Given ticks) mails can listed = record {
  listed = listed;
  each = can.each.each ∙ ap length (one_mails (IsListed net) can.each.mails mails can.each.listed listed);
  early = can.early;
}

pub begun_tick : (begin : Estimates) (mails : List MailRef) (m : MailRef) → at (numbers (ticks_by begin (length mails))) (mail_place mails m) ≡ estimate_of begin mails m
begun_tick estimates.Zero mails m = zero_at (length mails) (mail_place mails m)
begun_tick (estimates.Given ticks) mails m = refl

-- ---- shares

module _ (net : Net) (p : ℕ) (mails : List MailRef) (ticks : List Tick) (share : Share) (listed : AreMails (IsListed net) mails) (each : length ticks ≡ length mails) (early : (t : Tick) → Mem t ticks → t.0 < 2 ^ 107) (s : IsShareOf net p net.rows (length mails) mails ticks share) where
  all_of : (test : MailRef → Bool) (xs : List Estimate) → xs ++ kept test (drop (length mails) mails) (drop (length mails) ticks) ≡ kept test mails ticks → xs ≡ kept test mails ticks
  all_of test xs h = sym (append-nil xs) ∙ ap (λ ms. xs ++ kept test ms (drop (length mails) ticks)) (sym (drop_of_length-le mails (omega arith))) ∙ h

  comes_all : share.comes ≡ kept (to_test net p) mails ticks
  comes_all = all_of (to_test net p) share.comes s.comes

  goes_all : share.goes ≡ kept (from_test net p) mails ticks
  goes_all = all_of (from_test net p) share.goes s.goes

  pub whole_share : IsWholeShare net p share
  whole_share = record {
    rows = those_all net p net.rows share.rows s.rows (omega arith);
    comes = subst (λ es. AreMails (ComesTo net p) (mails_of es)) (sym comes_all) (kept_mails (IsListed net) (λ m. net.goes_to m ≡ p) (to_test net p) mails ticks listed each (λ m e. eqb-true (net.goes_to m) p e) (λ m e. eq-eqb (net.goes_to m) p e));
    goes = subst (λ es. AreMails (GoesFrom net p) (mails_of es)) (sym goes_all) (kept_mails (IsListed net) (λ m. net.home m.row ≡ p) (from_test net p) mails ticks listed each (λ m e. eqb-true (net.home m.row) p e) (λ m e. eq-eqb (net.home m.row) p e));
    early = λ e m. let small = early e.tick (kept_among (to_test net p) mails ticks e (subst (λ es. Mem e es) comes_all m)) in omega (arith, small);
  }

  pub comes_tick : (m : MailRef) → net.goes_to m ≡ p → at (ticks_of share.comes) (mail_place (mails_of share.comes) m) ≡ at (numbers ticks) (mail_place mails m)
  comes_tick m e = ap (λ es. at (ticks_of es) (mail_place (mails_of es) m)) comes_all ∙ kept_tick (to_test net p) mails ticks m each (eq-eqb (net.goes_to m) p e)

  pub goes_tick : (m : MailRef) → net.home m.row ≡ p → at (ticks_of share.goes) (mail_place (mails_of share.goes) m) ≡ at (numbers ticks) (mail_place mails m)
  goes_tick m e = ap (λ es. at (ticks_of es) (mail_place (mails_of es) m)) goes_all ∙ kept_tick (from_test net p) mails ticks m each (eq-eqb (net.home m.row) p e)
