-- Points, of which there is at least one.
use Rattle.std.proofs.Common.{◌≡◌, ◌<◌, ◌≤◌, ℕ, List, [], ◌∷◌, length, arith}
use Rattle.bs_num.specs.declared.ticks.Tick.{Tick}
use Rattle.bs_times.specs.Net.{Net, Ticks}
use Rattle.bs_log.specs.declared.log.Log.{Log}
use Rattle.bs_machine.specs.declared.fitted.Fitted.{Fitted}
use Rattle.bs_whatif.specs.Figures.{AreFigures, AreSpans, swept}
use Rattle.bs_whatif.specs.Rescaled.{IsFraction}
use Rattle.bs_whatif.specs.declared.figures.Figures.{Figures}
use Rattle.bs_words.specs.Tuning.{IsTuning}
use Rattle.bs_words.specs.declared.tuning.Tuning.{Tuning}

pub some_figures : (before : Ticks) (nets : List Net) (figures : List Figures) → AreFigures before nets figures → 0 < length nets → 0 < length figures
some_figures before [] figures are h = absurd (omega (arith, h))
some_figures before (net ∷ nets) [] are h = absurd are
some_figures before (net ∷ nets) (f ∷ fs) are h = omega arith

pub some_spans : (nets : List Net) (spans : List Tick) → AreSpans nets spans → 0 < length nets → 0 < length spans
some_spans [] spans are h = absurd (omega (arith, h))
some_spans (net ∷ nets) [] are h = absurd are
some_spans (net ∷ nets) (t ∷ ts) are h = omega arith

-- the numbers of a tuning are a fraction
pub IsFraction-of_tuning : (t : Tuning) → IsTuning t → IsFraction t.num t.den
IsFraction-of_tuning t is = record { some = is.2; up_to_one = is.3; most = is.4 }

-- and so many nets as machines
pub some_nets : (log : Log) (ms : List Fitted) → 0 < length ms → 0 < length (swept log ms)
some_nets log [] h = absurd (omega (arith, h))
some_nets log (m ∷ ms) h = omega arith
