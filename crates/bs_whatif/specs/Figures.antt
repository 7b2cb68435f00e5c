-- The figures of points that come one after another (docs/model.md).
use Rattle.std.specs.Prelude.{◌≡◌, ℕ, max, List, [], ◌∷◌, map}
use Rattle.std.specs.List.{fold}
use Rattle.bs_log.specs.declared.log.Log.{Log}
use Rattle.bs_log.specs.Lists.{Mem}
use Rattle.bs_machine.specs.declared.fitted.Fitted.{Fitted}
use Rattle.bs_num.specs.declared.ticks.Tick.{Tick}
use Rattle.bs_rows.specs.Rows.{net_on}
use Rattle.bs_settle.specs.Settled.{SettlesAt}
use Rattle.bs_times.specs.Net.{Net, Starts, Ticks}
use Rattle.bs_times.specs.Times.{IsConsistent, arrival, end_of, greatest_to}
use Rattle.bs_whatif.specs.declared.figures.Figures.{Figures}
use Rattle.bs_whatif.specs.Rescaled.{rescaled}

-- the greatest end of a row, and 0 without rows
abbrev pub span_in : Net → Starts → ℕ
span_in net s = greatest_to (end_of net s) net.rows

-- the greatest of ticks, and 0 without any
abbrev pub latest_of : List Tick → ℕ
latest_of ticks = fold (λ latest (t : Tick). max latest t.0) 0 ticks

-- the number of waves of a net from these estimates, and its span, by its consistent table
pub record AreFiguresOf (net : Net) (before : Ticks) (table : Starts) (f : Figures) : Type 0 where
  pub is_consistent : IsConsistent net table
  pub waves : SettlesAt net before f.waves
  pub span : f.span.0 ≡ span_in net table

-- the figures of nets one after the other; the waves of each begin from the arrivals of the one before
abbrev pub AreFigures : Ticks → List Net → List Figures → Type 0
AreFigures before [] [] = Unit {0}
AreFigures before [] (f ∷ fs) = ⊥
AreFigures before (net ∷ nets) [] = ⊥
AreFigures before (net ∷ nets) (f ∷ fs) = (table : Starts) × AreFiguresOf net before table f × AreFigures (arrival net table) nets fs

-- the spans of nets
abbrev pub AreSpans : List Net → List Tick → Type 0
AreSpans [] [] = Unit {0}
AreSpans [] (t ∷ ts) = ⊥
AreSpans (net ∷ nets) [] = ⊥
AreSpans (net ∷ nets) (t ∷ ts) = ((table : Starts) × IsConsistent net table × (t.0 ≡ span_in net table)) × AreSpans nets ts

-- the first net of all begins from here
abbrev pub at_zero : Ticks
at_zero m = 0

-- a log on machines, and on one machine before and after a statement is rescaled
abbrev pub swept : Log → List Fitted → List Net
swept log machines = map (net_on log) machines

abbrev pub tuned : Log → Fitted → (stmt num den : ℕ) → List Net
tuned log m stmt num den = net_on log m ∷ net_on (rescaled log stmt num den) m ∷ []

-- each machine was fitted to the log's chares
abbrev pub AreFitted : Log → List Fitted → Type 0
AreFitted log machines = (m : Fitted) → Mem m machines → m.chares ≡ log.chares
