-- Points have one text.
use Rattle.std.proofs.Common.{◌≡◌, ℕ, List, [], ◌∷◌, refl, ap, sym, ◌∙◌}
use Rattle.bs_log.specs.declared.log.Log.{Log}
use Rattle.bs_log.specs.Lists.{Each}
use Rattle.bs_log.specs.Valid.{IsValid}
use Rattle.bs_machine.specs.declared.fitted.Fitted.{Fitted}
use Rattle.bs_rows.specs.Rows.{net_on}
use Rattle.bs_times.specs.Net.{Net, Causal}
use Rattle.bs_whatif.specs.declared.figures.Figures.{Figures}
use Rattle.bs_whatif.specs.Figures.{AreFigures, at_zero, swept}
use Rattle.bs_whatif.specs.Texts.{IsPointsText, IsSpansText, points_text, spans_of, spans_text}
use Rattle.bs_whatif.proofs.Series.{IsNext, one_series, one_spans, series_spans, some_series, swept_next}

pub some_points_text : (nets : List Net) → Each Causal nets → (text : List ℕ) × IsPointsText nets text
some_points_text nets each =
    let d = some_series nets each at_zero in
    (points_text d.0, record { figures = d.0; are = d.1; text_is = refl })

pub some_spans_text : (nets : List Net) → Each Causal nets → (text : List ℕ) × IsSpansText nets text
some_spans_text nets each =
    let d = some_series nets each at_zero in
    (spans_text (spans_of d.0), record { spans = spans_of d.0; are = series_spans nets at_zero d.0 d.1; text_is = refl })

pub one_points_text : (base : Net) (nets : List Net) → Each (IsNext base) nets → (a b : List ℕ) → IsPointsText nets a → IsPointsText nets b → a ≡ b
one_points_text base nets each a b h k = h.text_is ∙ ap points_text (one_series base nets each at_zero at_zero (λ m l. refl) h.figures k.figures h.are k.are) ∙ sym k.text_is

pub one_spans_text : (nets : List Net) → Each Causal nets → (a b : List ℕ) → IsSpansText nets a → IsSpansText nets b → a ≡ b
one_spans_text nets each a b h k = h.text_is ∙ ap spans_text (one_spans nets each h.spans k.spans h.are k.are) ∙ sym k.text_is

-- without machines there are no points.
no_figures : (fs : List Figures) → AreFigures at_zero [] fs → fs ≡ []
no_figures [] h = refl
no_figures (f ∷ fs) h = absurd h

pub one_swept_text : (log : Log) (ms : List Fitted) → IsValid log → (a b : List ℕ) → IsPointsText (swept log ms) a → IsPointsText (swept log ms) b → a ≡ b
one_swept_text log [] v a b h k = h.text_is ∙ ap points_text (no_figures h.figures h.are ∙ sym (no_figures k.figures k.are)) ∙ sym k.text_is
one_swept_text log (m ∷ ms) v a b h k = one_points_text (net_on log m) (swept log (m ∷ ms)) (swept_next log v m (m ∷ ms)) a b h k
