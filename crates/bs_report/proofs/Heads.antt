-- Rows of one processor after another, with the line of each processor before its rows.
use Rattle.std.proofs.Common.{◌≡◌, ℕ, ◌<◌, List, [], ◌∷◌, ◌++◌, Option, Some, None, if◌then◌else◌, append_assoc, refl, sym, ap, ◌∙◌, arith}
use Rattle.std.specs.List.{AllByRecursion, flat_map}
use Rattle.std.proofs.lemmas.Bool.{eq-eqb, ne_eqb}
use Rattle.bs_times.specs.Net.{Net, Starts}
use Rattle.bs_report.specs.declared.traced.Traced.{Traced}
use Rattle.bs_report.specs.Trace.{processor_line, processors_in, run_line, run_lines, runs_on, traced_rows}
use Rattle.bs_report.specs.Headed.{by_processor, headed, heading}
use Rattle.bs_report.proofs.Rising.{Above, Rises}
use Rattle.bs_report.proofs.Rowed.{HasSome, each_has_some, processors_rise, runs_are_on}

-- the processor is another one than the last
abbrev IsOther : Option ℕ → ℕ → Type 0
IsOther None p = Unit {0}
IsOther (Some last) p = last < p

abbrev AreOther : Option ℕ → List ℕ → Type 0
AreOther None ps = Unit {0}
AreOther (Some last) ps = Above last ps

no_heading : (p q : ℕ) → q ≡ p → heading (Some p) q ≡ []
no_heading p q e = ap (λ b. if b then [] else processor_line q) (eq-eqb p q (sym e))

new_heading : (last : Option ℕ) (p : ℕ) → IsOther last p → heading last p ≡ processor_line p
new_heading None p other = refl
new_heading (Some last) p other = ap (λ b. if b then [] else processor_line p) (ne_eqb last p (λ e. omega (arith, e, other)))

-- further rows of a processor
headed_on : (p : ℕ) (xs rest : List Traced) → AllByRecursion (λ (x : Traced). x.processor ≡ p) xs → headed (Some p) (xs ++ rest) ≡ flat_map run_line xs ++ headed (Some p) rest
headed_on p [] rest on = refl
headed_on p (x ∷ xs) rest on =
    let none : heading (Some p) x.processor ≡ [] = no_heading p x.processor on.0 in
    let more : headed (Some x.processor) (xs ++ rest) ≡ flat_map run_line xs ++ headed (Some p) rest = ap (λ q. headed (Some q) (xs ++ rest)) on.0 ∙ headed_on p xs rest on.1 in
    (λ i. none i ++ run_line x ++ more i) ∙ sym (append_assoc (run_line x) (flat_map run_line xs) (headed (Some p) rest))

-- the rows of a processor
headed_first : (last : Option ℕ) (p : ℕ) (xs rest : List Traced) → IsOther last p → HasSome xs → AllByRecursion (λ (x : Traced). x.processor ≡ p) xs
    → headed last (xs ++ rest) ≡ (processor_line p ++ flat_map run_line xs) ++ headed (Some p) rest
headed_first last p [] rest other some on = absurd some
headed_first last p (x ∷ xs) rest other some on =
    let first : heading last x.processor ≡ processor_line p = ap (heading last) on.0 ∙ new_heading last p other in
    let more : headed (Some x.processor) (xs ++ rest) ≡ flat_map run_line xs ++ headed (Some p) rest = ap (λ q. headed (Some q) (xs ++ rest)) on.0 ∙ headed_on p xs rest on.1 in
    (λ i. first i ++ run_line x ++ more i)
    ∙ sym (append_assoc (processor_line p ++ run_line x) (flat_map run_line xs) (headed (Some p) rest))
    ∙ ap (λ lines. lines ++ headed (Some p) rest) (append_assoc (processor_line p) (run_line x) (flat_map run_line xs))

first_other : (last : Option ℕ) (p : ℕ) (ps : List ℕ) → AreOther last (p ∷ ps) → IsOther last p
first_other None p ps other = tt
first_other (Some last) p ps other = other.0

module _ (f : ℕ → List Traced) (on : (p : ℕ) → AllByRecursion (λ (x : Traced). x.processor ≡ p) (f p)) where
  headed_groups : (last : Option ℕ) (ps : List ℕ) → Rises ps → AreOther last ps → AllByRecursion (λ p. HasSome (f p)) ps → headed last (flat_map f ps) ≡ flat_map (λ p. processor_line p ++ flat_map run_line (f p)) ps
  headed_groups last [] rises other some = refl
  headed_groups last (p ∷ ps) rises other some =
      headed_first last p (f p) (flat_map f ps) (first_other last p ps other) some.0 (on p)
      ∙ ap (λ lines. (processor_line p ++ flat_map run_line (f p)) ++ lines) (headed_groups (Some p) ps rises.1 rises.0 some.1)

pub headed_rows : (net : Net) (s : Starts) (n : ℕ) → headed None (by_processor (traced_rows net s n)) ≡ run_lines (traced_rows net s n)
headed_rows net s n =
    headed_groups (runs_on (traced_rows net s n)) (runs_are_on net s n) None (processors_in (traced_rows net s n)) (processors_rise net s n) tt (each_has_some net s n)
