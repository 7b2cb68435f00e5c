use Rattle.std.proofs.Common.{◌≡◌, ◌∙◌, List, Result, Some, true, refl, ap, subst, inl}
use Rattle.std.specs.Prelude.{is_ok}
use Rattle.bs_line.specs.declared.corrections.Correction.{Correction}
use Rattle.bs_machine.specs.Machine.{machine_view}
use Rattle.bs_settle.specs.declared.settling.BudgetSpent.{BudgetSpent}
use Rattle.bs_settle.specs.declared.times.Times.{Times}
use Rattle.bs_top.specs.Waves.{AreWavesOn}
use Rattle.bs_top.specs.commands.Journal.{journal_in}
use Rattle.bs_top.specs.Reports.{reported}
use Rattle.bs_top.specs.Seen.{note_of, said_of}
use Rattle.bs_top.proofs.commands.journal.journal_on.Goals as goal

pub returns-in-Ok : goal.returns-in-Ok
returns-in-Ok c =
    let fitted = c.args.fitted.now in
    let lists = c.in_ok-waves.field-0.waves in
    let report = said_of c.in_ok-report_of-in-Ok.field-0 in
    let is = c.in_ok-outcome-in-Ok.ensures.value in
    let note : note_of c.in_ok-note-in-Ok.note ≡ journal_in c.args.into.now lists true =
    c.in_ok-note-in-Ok.ensures ∙ ap (λ (l : List (List Correction)). journal_in c.args.into.now l true) c.as_slice.ensures in
    inl (record {
      lists = lists;
      are_waves = subst (λ (t : Result Times BudgetSpent). AreWavesOn c.args.waves c.args.log.now (machine_view fitted.machine) lists (is_ok t)) c.in-Ok.is c.in_ok-waves.ensures.noted;
      report = report;
      is_report = record {
        fitted = fitted;
        starts = is.0;
        is_machine = refl;
        is_fitted = c.requires.chares;
        is_consistent = is.1;
        is_said = c.in_ok-report_of-in-Ok.ensures ∙ ap reported is.2;
      };
      is_said = c.with_note.ensures ∙ (λ i. record report { note = Some (note i) });
    })
