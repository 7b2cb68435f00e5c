-- Figures of nets one after another.
use Rattle.std.proofs.Common.{◌≡◌, ◌≤◌, ◌<◌, ◌+◌, ℕ, List, [], ◌∷◌, ◌++◌, drop, length, get_or, refl, ap, sym, subst, ◌∙◌, append-nil, append_assoc}
use Rattle.std.proofs.lemmas.List.{drop_all, drop_more}
use Rattle.bs_log.specs.declared.log.Log.{Log}
use Rattle.bs_log.specs.Lists.{Each}
use Rattle.bs_log.specs.Valid.{IsValid}
use Rattle.bs_machine.specs.declared.fitted.Fitted.{Fitted}
use Rattle.bs_num.specs.declared.ticks.Tick.{Tick}
use Rattle.bs_line.specs.Making.{numbers}
use Rattle.bs_rows.specs.Rows.{net_on}
use Rattle.bs_settle.specs.Settled.{SettlesAt}
use Rattle.bs_settle.specs.Shares.{AreEarly}
use Rattle.bs_settle.proofs.FirstStill.{one_first, some_first}
use Rattle.bs_settle.proofs.Premises.{causal}
use Rattle.bs_times.specs.Machine.{machine_of}
use Rattle.bs_times.specs.Net.{Net, Starts, Ticks, Causal}
use Rattle.bs_times.specs.Times.{IsConsistent, SameTicks, arrival, greatest}
use Rattle.bs_times.proofs.Exists.{consistent_exists}
use Rattle.bs_times.proofs.Unique.{one_consistent_table}
use Rattle.bs_whatif.specs.declared.figures.Figures.{Figures}
use Rattle.bs_whatif.specs.declared.points.Point.{Point}
use Rattle.bs_whatif.specs.Figures.{AreFigures, AreFiguresOf, AreSpans, at_zero, span_in, swept, tuned}
use Rattle.bs_whatif.specs.Points.{AreTicksOf, IsPoint}
use Rattle.bs_whatif.specs.Rescaled.{IsFraction, SameMessages, rescaled}
use Rattle.bs_whatif.specs.Texts.{spans_of}
use Rattle.bs_whatif.proofs.Ends.{one_span, span_of_times}
use Rattle.bs_whatif.proofs.Ticks.{early_moved, same_log, ticks_moved}
use Rattle.bs_whatif.proofs.ValidAgain.{same_messages, valid_again}

-- ---- there is one series

-- a net that lists the messages of the first
pub record IsNext (base net : Net) : Type 0 where
  pub causal : Causal net
  pub same : SameMessages base net

next_ticks : (base net : Net) → IsNext base net → (s z : Starts) → IsConsistent net s → IsConsistent net z → SameTicks base (arrival net s) (arrival net z)
next_ticks base net n s z h k m l =
    let there = (n.same m).0 l in
    ap (λ x. x + net.travel m) (one_consistent_table net n.causal s z h k m.row (n.causal.mail there.0 m there.1 there.2).0)

one_figure : (base net : Net) → IsNext base net → (a b : Ticks) → SameTicks base a b → (s z : Starts) (f g : Figures) → AreFiguresOf net a s f → AreFiguresOf net b z g → f ≡ g
one_figure base net n a b same s z f g h k = λ i. record { waves = waves i; span = record { 0 = span i } }
  where
    waves : f.waves ≡ g.waves
    waves = one_first net n.causal a b f.waves g.waves (λ m l. same m ((n.same m).1 l)) h.waves k.waves

    span : f.span.0 ≡ g.span.0
    span = h.span ∙ one_span net n.causal s z h.is_consistent k.is_consistent ∙ sym k.span

pub one_series : (base : Net) (nets : List Net) → Each (IsNext base) nets → (a b : Ticks) → SameTicks base a b → (fs gs : List Figures) → AreFigures a nets fs → AreFigures b nets gs → fs ≡ gs
one_series base [] each a b same [] [] h k = refl
one_series base [] each a b same [] (g ∷ gs) h k = absurd k
one_series base [] each a b same (f ∷ fs) gs h k = absurd h
one_series base (net ∷ nets) each a b same [] gs h k = absurd h
one_series base (net ∷ nets) each a b same (f ∷ fs) [] h k = absurd k
one_series base (net ∷ nets) each a b same (f ∷ fs) (g ∷ gs) h k =
    let first = one_figure base net each.0 a b same h.0 k.0 f g h.1 k.1 in
    let rest = one_series base nets each.1 (arrival net h.0) (arrival net k.0) (next_ticks base net each.0 h.0 k.0 h.1.is_consistent k.1.is_consistent) fs gs h.2 k.2 in
    λ i. first i ∷ rest i

pub some_series : (nets : List Net) → Each Causal nets → (a : Ticks) → (fs : List Figures) × AreFigures a nets fs
some_series [] each a = ([], tt)
some_series (net ∷ nets) each a =
    let table = consistent_exists net each.0 in
    let first = some_first net each.0 a in
    let rest = some_series nets each.1 (arrival net table.0) in
    (record { waves = first.0; span = record { 0 = span_in net table.0 } } ∷ rest.0, (table.0, record { is_consistent = table.1; waves = first.2; span = refl }, rest.1))

pub series_spans : (nets : List Net) (a : Ticks) (fs : List Figures) → AreFigures a nets fs → AreSpans nets (spans_of fs)
series_spans [] a [] h = tt
series_spans [] a (f ∷ fs) h = absurd h
series_spans (net ∷ nets) a [] h = absurd h
series_spans (net ∷ nets) a (f ∷ fs) h = ((h.0, h.1.is_consistent, h.1.span), series_spans nets (arrival net h.0) fs h.2)

pub one_spans : (nets : List Net) → Each Causal nets → (ts us : List Tick) → AreSpans nets ts → AreSpans nets us → ts ≡ us
one_spans [] each [] [] h k = refl
one_spans [] each [] (u ∷ us) h k = absurd k
one_spans [] each (t ∷ ts) us h k = absurd h
one_spans (net ∷ nets) each [] us h k = absurd h
one_spans (net ∷ nets) each (t ∷ ts) [] h k = absurd k
one_spans (net ∷ nets) each (t ∷ ts) (u ∷ us) h k =
    let first : t.0 ≡ u.0 = h.0.2 ∙ one_span net each.0 h.0.0 k.0.0 h.0.1 k.0.1 ∙ sym k.0.2 in
    let rest = one_spans nets each.1 ts us h.1 k.1 in
    λ i. record { 0 = first i } ∷ rest i

-- ---- sweeps and tunings

pub swept_next : (log : Log) → IsValid log → (m : Fitted) (ms : List Fitted) → Each (IsNext (net_on log m)) (swept log ms)
swept_next log v m [] = tt
swept_next log v m (x ∷ ms) = (record { causal = causal log x v; same = same_log log m x }, swept_next log v m ms)

pub swept_causal : (log : Log) → IsValid log → (ms : List Fitted) → Each Causal (swept log ms)
swept_causal log v [] = tt
swept_causal log v (m ∷ ms) = (causal log m v, swept_causal log v ms)

pub tuned_next : (log : Log) → IsValid log → (m : Fitted) (stmt num den : ℕ) → IsFraction num den → Each (IsNext (net_on log m)) (tuned log m stmt num den)
tuned_next log v m stmt num den f = (
  record { causal = causal log m v; same = same_log log m m },
  (record { causal = causal (rescaled log stmt num den) m (valid_again log stmt num den v f); same = same_messages log stmt num den (machine_of m) }, tt),
)

pub tuned_causal : (log : Log) → IsValid log → (m : Fitted) (stmt num den : ℕ) → IsFraction num den → Each Causal (tuned log m stmt num den)
tuned_causal log v m stmt num den f = (causal log m v, (causal (rescaled log stmt num den) m (valid_again log stmt num den v f), tt))

-- ---- points make a series

pub next_item : {A : Type 0} (xs : List A) (k : ℕ) (x : A) → k < length xs → x ≡ get_or xs k x → drop k xs ≡ x ∷ drop (k + 1) xs
next_item xs k x lt e = drop_more xs k x lt ∙ ap (λ y. y ∷ drop (k + 1) xs) (sym e)

-- a point has figures.
pub figures_are : (log : Log) (m : Fitted) (before : List Tick) (estimates : Ticks) (p : Point) (f : Figures) → AreTicksOf (net_on log m) estimates before → (is : IsPoint log m before p) → f.waves ≡ p.waves → f.span.0 ≡ greatest (numbers p.times.ends) → AreFiguresOf (net_on log m) estimates is.times.table f
figures_are log m before estimates p f are is waves span = record {
  is_consistent = is.times.is_consistent;
  waves = subst (SettlesAt (net_on log m) estimates) (sym waves) (is.waves estimates are);
  span = span ∙ span_of_times log m p.times is.times;
}

-- the figures of the first k machines; those of the others, from the ticks that there are now, complete them
pub record IsSweeping (log : Log) (machines : List Fitted) (k : ℕ) (before : List Tick) (figures : List Figures) : Type 0 where
  pub now : Ticks
  pub are : (m : Fitted) → AreTicksOf (net_on log m) now before
  pub early : (m : Fitted) → AreEarly (net_on log m) before
  pub whole : (rest : List Figures) → AreFigures now (swept log (drop k machines)) rest → AreFigures at_zero (swept log machines) (figures ++ rest)

pub sweep_begins : (log : Log) (machines : List Fitted) (before : List Tick) → ((m : Fitted) → AreTicksOf (net_on log m) at_zero before) → ((m : Fitted) → AreEarly (net_on log m) before) → IsSweeping log machines 0 before []
sweep_begins log machines before are early = record { now = at_zero; are = are; early = early; whole = λ rest h. h }

pub sweep_goes_on : (log : Log) (machines : List Fitted) (k : ℕ) (m : Fitted) (before : List Tick) (figures : List Figures) → IsSweeping log machines k before figures → drop k machines ≡ m ∷ drop (k + 1) machines
    → (p : Point) (f : Figures) → IsPoint log m before p → AreEarly (net_on log m) p.ticks → f.waves ≡ p.waves → f.span.0 ≡ greatest (numbers p.times.ends) → IsSweeping log machines (k + 1) p.ticks (figures ++ f ∷ [])
sweep_goes_on log machines k m before figures s here p f is early waves span = record {
  now = arrival (net_on log m) is.times.table;
  are = λ x. ticks_moved (net_on log m) (net_on log x) (same_log log m x) (arrival (net_on log m) is.times.table) p.ticks (is.ticks is.times.table is.times.is_consistent);
  early = λ x. early_moved (net_on log m) (net_on log x) (same_log log m x) p.ticks early;
  whole = λ rest h. subst (AreFigures at_zero (swept log machines)) (sym (append_assoc figures (f ∷ []) rest))
      (s.whole (f ∷ rest) (subst (λ ms. AreFigures s.now (swept log ms) (f ∷ rest)) (sym here) (is.times.table, figures_are log m before s.now p f (s.are m) is waves span, h)));
}

pub sweep_ends : (log : Log) (machines : List Fitted) (k : ℕ) (before : List Tick) (figures : List Figures) → IsSweeping log machines k before figures → length machines ≤ k → AreFigures at_zero (swept log machines) figures
sweep_ends log machines k before figures s le =
    let none = drop_all k machines le in
    subst (AreFigures at_zero (swept log machines)) (append-nil figures) (s.whole [] (subst (λ ms. AreFigures s.now (swept log ms) []) (sym none) tt))

-- the same of spans
abbrev pub AreSweptTo : Log → List Fitted → ℕ → List Tick → Type 0
AreSweptTo log machines k spans = (rest : List Tick) → AreSpans (swept log (drop k machines)) rest → AreSpans (swept log machines) (spans ++ rest)

pub spans_go_on : (log : Log) (machines : List Fitted) (k : ℕ) (m : Fitted) (spans : List Tick) (t : Tick) → AreSweptTo log machines k spans → drop k machines ≡ m ∷ drop (k + 1) machines → ((table : Starts) × IsConsistent (net_on log m) table × (t.0 ≡ span_in (net_on log m) table)) → AreSweptTo log machines (k + 1) (spans ++ t ∷ [])
spans_go_on log machines k m spans t s here is rest h =
    subst (AreSpans (swept log machines)) (sym (append_assoc spans (t ∷ []) rest)) (s (t ∷ rest) (subst (λ ms. AreSpans (swept log ms) (t ∷ rest)) (sym here) (is, h)))

pub spans_end : (log : Log) (machines : List Fitted) (k : ℕ) (spans : List Tick) → AreSweptTo log machines k spans → length machines ≤ k → AreSpans (swept log machines) spans
spans_end log machines k spans s le =
    let none = drop_all k machines le in
    subst (AreSpans (swept log machines)) (append-nil spans) (s [] (subst (λ ms. AreSpans (swept log ms) []) (sym none) tt))

-- two points make a tuning.
pub tune_are : (log : Log) (m : Fitted) (stmt num den : ℕ) (none : List Tick) → AreTicksOf (net_on log m) at_zero none → (p q : Point) (f g : Figures) → IsPoint log m none p → IsPoint (rescaled log stmt num den) m p.ticks q
    → f.waves ≡ p.waves → f.span.0 ≡ greatest (numbers p.times.ends) → g.waves ≡ q.waves → g.span.0 ≡ greatest (numbers q.times.ends) → AreFigures at_zero (tuned log m stmt num den) (f ∷ g ∷ [])
tune_are log m stmt num den none are p q f g is next waves span more end =
    let net = net_on log m in
    let new = rescaled log stmt num den in
    let now = arrival net is.times.table in
    let moved = ticks_moved net (net_on new m) (same_messages log stmt num den (machine_of m)) now p.ticks (is.ticks is.times.table is.times.is_consistent) in
    (is.times.table, figures_are log m none at_zero p f are is waves span, (next.times.table, figures_are new m p.ticks now q g moved next more end, tt))
