-- Every text is that of a valid log, or has a first fault.
use Rattle.std.proofs.Common.{◌≡◌, ◌≢◌, ◌⊎◌, ◌≤◌, ◌<◌, ◌+◌, ◌==◌, ℕ, zero, suc, Bool, true, false, List, [], ◌∷◌, ◌++◌, length, Option, Some, None, inl, inr, refl, sym, ap, ◌∙◌, arith}
use Rattle.std.proofs.lemmas.Bool.Decides.{nat_tests}
use Rattle.bs_log.specs.Valid.{IsValid}
use Rattle.bs_log.specs.declared.log.Log.{Log}
use Rattle.bs_logtext.specs.Text.{log_text}
use Rattle.bs_logcheck.specs.Searched.{first_of}
use Rattle.bs_logcheck.specs.declared.rule.Broken.{Broken}
use Rattle.bs_logcheck.specs.declared.rule.LogRule.{LogRule}
use Rattle.bs_logcheck.specs.declared.rule.LogRule.TheVariants.{BadLine, Limits}
use Rattle.bs_logcheck.proofs.Found.{finds}
use Rattle.bs_logread.specs.Draft.{empty, log_of, taken}
use Rattle.bs_logread.specs.Fault.{IsFault, IsRead, NoneStands}
use Rattle.bs_logread.specs.Order.{after, has_place, is_within, start}
use Rattle.bs_logread.specs.Spelled.{line_of}
use Rattle.bs_logread.specs.Words.{cut}
use Rattle.bs_logread.specs.declared.draft.Draft.{Draft}
use Rattle.bs_logread.specs.declared.lines.Line.{Line}
use Rattle.bs_logread.specs.declared.order.Progress.{Progress}
use Rattle.bs_logread.proofs.Ends.{FirstLine, first_line, line_longer, none_placed, none_read, none_uncut, stands}
use Rattle.bs_logread.proofs.Fields.{both}
use Rattle.bs_logread.proofs.SoFar.{SoFar, begun, done, one_more, stop_here, stop_over, trailing}
use Rattle.bs_logread.proofs.Unique.{broken_is, sound_read}

abbrev Answered : List ℕ → Type 0
Answered text = ((log : Log) × IsValid log × (log_text log ≡ text)) ⊎ ((line : ℕ) × (rule : LogRule) × IsFault text line rule)

-- the second pass finds a line that breaks a rule, or none
second : (text : List ℕ) (log : Log) → IsRead text log → (found : Option Broken) → first_of log ≡ found → Answered text
second text log read None is =
    let valid = sound_read text log read (((finds log).sound).0 is) in
    inl (log, valid.0, valid.1)
second text log read (Some b) is =
    let first = ((finds log).first b.line b.rule).0 is in
    inr (b.line, b.rule, broken_is text log b.line b.rule read first)

module _ (bytes : List ℕ) where
  -- reading goes on wherever so many bytes are left at most
  abbrev GoesOn : ℕ → Type 0
  GoesOn left = (p : Progress) (d : Draft) (rest : List ℕ) (number : ℕ) → SoFar bytes p d rest number → length rest < left → Answered bytes

  -- the first pass at one line
  module _ (left : ℕ) (on : GoesOn left) (p : Progress) (d : Draft) (rest : List ℕ) (number : ℕ) (s : SoFar bytes p d rest number) (few : length rest < suc left) where
    unreadable : NoneStands p rest → p.last ≢ 10 → Answered bytes
    unreadable none other = inr (number, BadLine, stop_here bytes p d rest number s none (λ h. other h.0))

    with_line : (x : Line) (others : List ℕ) → FirstLine rest x others → p.last ≢ 10 → (placed within : Bool) → has_place p x ≡ placed → is_within p x ≡ within → Answered bytes
    with_line x others f other false within h w = unreadable (none_placed p rest x others f h) other
    with_line x others f other true false h w = inr (number, Limits, stop_over bytes p d rest number x others s f.is (stands p x f.range h) w)
    with_line x others f other true true h w =
        let longer = line_longer x others in
        let sizes = ap length f.is in
        on (after p x) (taken d x) others (number + 1) (one_more bytes p d rest number x others s f.is (both (stands p x f.range h) w)) (omega (arith, few, longer, sizes))

    by_line : (text others : List ℕ) → cut 10 rest ≡ Some (text, others) → p.last ≢ 10 → (o : Option Line) → line_of text ≡ o → Answered bytes
    by_line text others c other None is = unreadable (none_read p rest text others (sym c) (sym is)) other
    by_line text others c other (Some x) is = with_line x others (first_line rest text others x (sym c) (sym is)) other (has_place p x) (is_within p x) refl refl

    by_cut : p.last ≢ 10 → (o : Option (List ℕ × List ℕ)) → cut 10 rest ≡ o → Answered bytes
    by_cut other None is = unreadable (none_uncut p rest (sym is)) other
    by_cut other (Some parts) is = by_line parts.0 parts.1 is other (line_of parts.0) refl

    by_rest : p.last ≡ 10 → (xs : List ℕ) → rest ≡ xs → Answered bytes
    by_rest is [] none = second bytes (log_of d) (done bytes p d rest number s is none) (first_of (log_of d)) refl
    by_rest is (x ∷ xs) some = inr (number, BadLine, trailing bytes p d rest number s is (λ none. absurd (cc)))

    at_line : (t : Bool) → (p.last == 10) ≡ t → Answered bytes
    at_line true e = let is : p.last ≡ 10 = grind (arith, nat_tests) in by_rest is rest refl
    at_line false e = let other : p.last ≢ 10 = grind (arith, nat_tests) in by_cut other (cut 10 rest) refl

  goes_on : (left : ℕ) → GoesOn left
  goes_on zero p d rest number s few = absurd (omega (arith, few))
  goes_on (suc left) p d rest number s few = at_line left (goes_on left) p d rest number s few (p.last == 10) refl

pub some : (text : List ℕ) → ((log : Log) × IsValid log × (log_text log ≡ text)) ⊎ ((line : ℕ) × (rule : LogRule) × IsFault text line rule)
some text = goes_on text (suc (length text)) start empty text 1 (begun text) (omega arith)
