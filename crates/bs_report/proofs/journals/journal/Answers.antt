use Rattle.std.proofs.Common.{◌∙◌, ap}
use Rattle.bs_report.specs.Journal.{journal_text, wave_lines}
use Rattle.bs_report.proofs.Written.{two_parts}
use Rattle.bs_report.proofs.journals.journal.Goals as goal

pub returns : goal.returns
unfolding journal_text
returns c = ap (λ bytes. bytes.items) c.into_bytes.ensures.value ∙ two_parts _ (wave_lines 1 c.args.waves.now) _ _ _ c.new-text.ensures.bytes c.in_ok-write_waves.ensures c.in_ok-write_end.ensures
