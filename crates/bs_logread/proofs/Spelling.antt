-- The lines of a log spell its text.
use Rattle.std.proofs.Common.{◌≡◌, ℕ, List, [], ◌∷◌, ◌++◌, map, refl, ap, ◌∙◌, append_assoc}
use Rattle.std.specs.List.{flat_map}
use Rattle.std.proofs.lemmas.List.{append-nil}
use Rattle.std.proofs.lemmas.List.Concat.{flat_map-append}
use Rattle.bs_log.specs.declared.log.Row.{Row}
use Rattle.bs_log.specs.declared.log.Log.{Log}
use Rattle.bs_logtext.specs.Text.{version_line, counts_line, row_line, after_line, mail_line, emit_line, send_line, row_text, trap_line, wait_line, end_line, log_text}
use Rattle.bs_logread.specs.declared.lines.Line.{Line}
use Rattle.bs_logread.specs.declared.lines.Line.TheVariants as l
use Rattle.bs_logread.specs.Line.{line_text}
use Rattle.bs_logread.specs.Lines.{row_parts, log_lines}
use Rattle.bs_logread.specs.Fault.{lines_text}

spelled_map : {A : Type 0} (g : A → Line) (h : A → List ℕ) → ((x : A) → line_text (g x) ≡ h x) → (xs : List A) → lines_text (map g xs) ≡ flat_map h xs
spelled_map g h e [] = refl
spelled_map g h e (x ∷ xs) = rw (e x) (ap (λ (t : List ℕ). h x ++ t) (spelled_map g h e xs))

joined : (a b : List Line) (s t : List ℕ) → lines_text a ≡ s → lines_text b ≡ t → lines_text (a ++ b) ≡ s ++ t
joined a b s t p q = flat_map-append line_text a b ∙ rw (p, q) refl

five : (a b c d e : List ℕ) → a ++ (b ++ (c ++ (d ++ e))) ≡ a ++ b ++ c ++ d ++ e
five a b c d e = simp append_assoc

six : (a b c d e f : List ℕ) → a ++ (b ++ (c ++ (d ++ (e ++ f)))) ≡ a ++ b ++ c ++ d ++ e ++ f
six a b c d e f = simp append_assoc

row_spelled : (r : Row) → lines_text (row_parts r) ≡ row_text r
row_spelled r = ap (λ (t : List ℕ). row_line r ++ t)
    (joined _ _ _ _ (spelled_map l.After after_line (λ x. refl) r.after)
    (joined _ _ _ _ (spelled_map l.Mail mail_line (λ x. refl) r.mail)
    (joined _ _ _ _ (spelled_map l.Emit emit_line (λ x. refl) r.emits)
    (spelled_map l.Send send_line (λ x. refl) r.sends))))
    ∙ five (row_line r) (flat_map after_line r.after) (flat_map mail_line r.mail) (flat_map emit_line r.emits) (flat_map send_line r.sends)

rows_spelled : (rows : List Row) → lines_text (flat_map row_parts rows) ≡ flat_map row_text rows
rows_spelled [] = refl
rows_spelled (r ∷ rows) = joined (row_parts r) (flat_map row_parts rows) (row_text r) (flat_map row_text rows) (row_spelled r) (rows_spelled rows)

pub log_spelled : (log : Log) → lines_text (log_lines log) ≡ log_text log
unfolding log_lines log_text
log_spelled log = ap (λ (t : List ℕ). version_line ++ (counts_line log ++ t))
    (joined _ _ _ _ (rows_spelled log.rows)
    (joined _ _ _ _ (spelled_map l.Trap trap_line (λ x. refl) log.traps)
    (joined _ (l.End ∷ []) _ end_line (spelled_map l.Wait wait_line (λ x. refl) log.waits) (append-nil end_line))))
    ∙ six version_line (counts_line log) (flat_map row_text log.rows) (flat_map trap_line log.traps) (flat_map wait_line log.waits) end_line
