-- A line whose numbers are in their ranges is read from what it spells.
use Rattle.std.proofs.Common.{◌≡◌, ℕ, ◌-◌, ◌^◌, ℤ, true, ◌∷◌, ◌++◌, Some, codes, refl, ap, lit<}
use Rattle.std.specs.Fmt.{decimal, signed_decimal}
use Rattle.bs_log.specs.declared.history.Sent.{Sent}
use Rattle.bs_log.specs.declared.history.TrapKind.{TrapKind}
use Rattle.bs_log.specs.declared.log.MailRef.{MailRef}
use Rattle.bs_log.specs.declared.log.TrapRow.{TrapRow}
use Rattle.bs_log.specs.declared.log.WaitRow.{WaitRow}
use Rattle.bs_logtext.specs.Text.{kind_number}
use Rattle.bs_logread.specs.declared.lines.Counts.{Counts}
use Rattle.bs_logread.specs.declared.lines.Head.{Head}
use Rattle.bs_logread.specs.declared.lines.Line.{Line}
use Rattle.bs_logread.specs.declared.lines.Line.TheVariants as l
use Rattle.bs_logread.specs.Line.{is_in_range}
use Rattle.bs_logread.specs.Spelled.{counts_of, row_of, after_of, mail_of, emit_of, send_of, trap_of, wait_of, line_of}
use Rattle.bs_logread.proofs.Body.{body}
use Rattle.bs_logread.proofs.Fields.{parted, small_to, upto_to, number_of_again, number_before_again, signed_of_again, signed_before_again, kind_again, kind_in}

row_again : (h : Head) → is_in_range (l.Row h) ≡ true → line_of (body (l.Row h)) ≡ Some (l.Row h)
unfolding line_of row_of
row_again h r =
    let q0 = parted _ _ r in
    let q1 = parted _ _ q0.1 in
    let q2 = parted _ _ q1.1 in
    rw (number_before_again 0 (2 ^ 32 - 1) h.chare (decimal h.stmt ++ 32 ∷ (decimal h.depth ++ 32 ∷ (decimal h.cost))) (lit< tt) (small_to h.chare q0.0), number_before_again 1 10000 h.stmt (decimal h.depth ++ 32 ∷ (decimal h.cost)) (lit< tt) q1.0, number_before_again 1 262144 h.depth (decimal h.cost) (lit< tt) q2.0, number_of_again 1 (2 ^ 32) h.cost (lit< tt) q2.1) refl

after_again : (row : ℕ) → is_in_range (l.After row) ≡ true → line_of (body (l.After row)) ≡ Some (l.After row)
unfolding line_of after_of
after_again row r =
    rw (number_of_again 0 (2 ^ 32 - 1) row (lit< tt) (small_to row r)) refl

mail_again : (m : MailRef) → is_in_range (l.Mail m) ≡ true → line_of (body (l.Mail m)) ≡ Some (l.Mail m)
unfolding line_of mail_of
mail_again m r =
    let q0 = parted _ _ r in
    rw (number_before_again 0 (2 ^ 32 - 1) m.row (decimal m.index) (lit< tt) (small_to m.row q0.0), number_of_again 0 (2 ^ 32 - 1) m.index (lit< tt) (small_to m.index q0.1)) refl

emit_again : (v : ℤ) → is_in_range (l.Emit v) ≡ true → line_of (body (l.Emit v)) ≡ Some (l.Emit v)
unfolding line_of emit_of
emit_again v r =
    rw (signed_of_again v r) refl

send_again : (s : Sent) → is_in_range (l.Send s) ≡ true → line_of (body (l.Send s)) ≡ Some (l.Send s)
unfolding line_of send_of
send_again s r =
    let q0 = parted _ _ r in
    let q1 = parted _ _ q0.1 in
    let q2 = parted _ _ q1.1 in
    let q3 = parted _ _ q2.1 in
    rw (number_before_again 0 (2 ^ 32 - 1) s.to (decimal s.key.entry ++ 32 ∷ (signed_decimal s.key.reference ++ 32 ∷ (decimal s.bytes ++ 32 ∷ (decimal s.offset)))) (lit< tt) (small_to s.to q0.0), number_before_again 0 (2 ^ 32 - 1) s.key.entry (signed_decimal s.key.reference ++ 32 ∷ (decimal s.bytes ++ 32 ∷ (decimal s.offset))) (lit< tt) (small_to s.key.entry q1.0), signed_before_again s.key.reference (decimal s.bytes ++ 32 ∷ (decimal s.offset)) q2.0, number_before_again 0 (2 ^ 30) s.bytes (decimal s.offset) (lit< tt) (upto_to s.bytes q3.0), number_of_again 1 (2 ^ 32) s.offset (lit< tt) q3.1) refl

trap_again : (t : TrapRow) → is_in_range (l.Trap t) ≡ true → line_of (body (l.Trap t)) ≡ Some (l.Trap t)
unfolding line_of trap_of
trap_again t r =
    let q0 = parted _ _ r in
    rw (number_before_again 0 (2 ^ 32 - 1) t.chare (decimal t.stmt ++ 32 ∷ (decimal (kind_number t.kind))) (lit< tt) (small_to t.chare q0.0), number_before_again 1 10000 t.stmt (decimal (kind_number t.kind)) (lit< tt) q0.1, number_of_again 1 8 (kind_number t.kind) (lit< tt) (kind_in t.kind)) (ap (λ (k : TrapKind). Some (l.Trap (record { chare = t.chare; stmt = t.stmt; kind = k }))) (kind_again t.kind))

wait_again : (w : WaitRow) → is_in_range (l.Wait w) ≡ true → line_of (body (l.Wait w)) ≡ Some (l.Wait w)
unfolding line_of wait_of
wait_again w r =
    let q0 = parted _ _ r in
    let q1 = parted _ _ q0.1 in
    let q2 = parted _ _ q1.1 in
    rw (number_before_again 0 (2 ^ 32 - 1) w.chare (decimal w.stmt ++ 32 ∷ (decimal w.key.entry ++ 32 ∷ (signed_decimal w.key.reference))) (lit< tt) (small_to w.chare q0.0), number_before_again 1 10000 w.stmt (decimal w.key.entry ++ 32 ∷ (signed_decimal w.key.reference)) (lit< tt) q1.0, number_before_again 0 (2 ^ 32 - 1) w.key.entry (signed_decimal w.key.reference) (lit< tt) (small_to w.key.entry q2.0), signed_of_again w.key.reference q2.1) refl

counts_again : (c : Counts) → is_in_range (l.Counts c) ≡ true → line_of (body (l.Counts c)) ≡ Some (l.Counts c)
unfolding line_of counts_of
counts_again c r =
    let q0 = parted _ _ r in
    let q1 = parted _ _ q0.1 in
    rw (number_before_again 0 (2 ^ 32 - 1) c.chares (codes "entries " ++ (decimal c.entries ++ 32 ∷ (codes "rows " ++ decimal c.rows))) (lit< tt) (small_to c.chares q0.0), number_before_again 0 (2 ^ 32 - 1) c.entries (codes "rows " ++ decimal c.rows) (lit< tt) (small_to c.entries q1.0), number_of_again 0 (2 ^ 32 - 1) c.rows (lit< tt) (small_to c.rows q1.1)) refl

version_again : line_of (body l.Version) ≡ Some l.Version
unfolding line_of
version_again = refl

end_again : line_of (body l.End) ≡ Some l.End
unfolding line_of
end_again = refl

pub line_again : (x : Line) → is_in_range x ≡ true → line_of (body x) ≡ Some x
line_again l.Version r = version_again
line_again (l.Counts c) r = counts_again c r
line_again (l.Row h) r = row_again h r
line_again (l.After row) r = after_again row r
line_again (l.Mail m) r = mail_again m r
line_again (l.Emit v) r = emit_again v r
line_again (l.Send s) r = send_again s r
line_again (l.Trap t) r = trap_again t r
line_again (l.Wait w) r = wait_again w r
line_again l.End r = end_again
