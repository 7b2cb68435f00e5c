-- The texts of points. Each line ends with a line feed, and every number is plain decimal. docs/output.md shows the
-- lines.
use Rattle.std.specs.Prelude.{◌≡◌, ℕ, ◌+◌, List, [], ◌∷◌, ◌++◌, map, codes}
use Rattle.std.specs.Fmt.{decimal}
use Rattle.bs_num.specs.declared.ticks.Tick.{Tick}
use Rattle.bs_line.specs.Making.{numbers}
use Rattle.bs_times.specs.Net.{Net}
use Rattle.bs_whatif.specs.declared.figures.Figures.{Figures}
use Rattle.bs_whatif.specs.Best.{best_of}
use Rattle.bs_whatif.specs.Figures.{AreFigures, AreSpans, at_zero}

-- a point by its number, counted from 1, with its waves and its span
abbrev pub point_line : ℕ → Figures → List ℕ
point_line number f = codes "point " ++ decimal number ++ codes " waves " ++ decimal f.waves ++ codes " span " ++ decimal f.span.0 ++ codes "\n"

-- points numbered upwards from `first`
abbrev pub point_lines : ℕ → List Figures → List ℕ
point_lines first [] = []
point_lines first (f ∷ fs) = point_line first f ++ point_lines (first + 1) fs

-- the same with its span alone
abbrev pub span_line : ℕ → Tick → List ℕ
span_line number span = codes "point " ++ decimal number ++ codes " span " ++ decimal span.0 ++ codes "\n"

abbrev pub span_lines : ℕ → List Tick → List ℕ
span_lines first [] = []
span_lines first (t ∷ ts) = span_line first t ++ span_lines (first + 1) ts

-- the number of the point of least span, the first of equals
abbrev pub best_line : List Tick → List ℕ
best_line spans = codes "best " ++ decimal (best_of (numbers spans)) ++ codes "\n"

abbrev pub spans_of : List Figures → List Tick
spans_of fs = map (λ f. f.span) fs

-- the points with their waves, and the best of them
unfoldable pub points_text : List Figures → List ℕ
points_text fs = point_lines 1 fs ++ best_line (spans_of fs)

-- the points without waves, and the best of them
unfoldable pub spans_text : List Tick → List ℕ
spans_text spans = span_lines 1 spans ++ best_line spans

-- the text of nets as points: of the figures that waves give which begin from tick 0
pub record IsPointsText (nets : List Net) (text : List ℕ) : Type 0 where
  pub figures : List Figures
  pub are : AreFigures at_zero nets figures
  pub text_is : text ≡ points_text figures

-- and of their spans alone
pub record IsSpansText (nets : List Net) (text : List ℕ) : Type 0 where
  pub spans : List Tick
  pub are : AreSpans nets spans
  pub text_is : text ≡ spans_text spans
