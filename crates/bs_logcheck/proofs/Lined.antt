-- The search, line by line.
use Rattle.std.proofs.Common.{◌≡◌, ℕ, suc, ◌+◌, List, [], ◌∷◌, ◌++◌, map, Option, Some, None, refl, sym, ap, ap₂, ◌∙◌, length, sum_by, arith}
use Rattle.std.specs.Option.{option_or}
use Rattle.std.proofs.lemmas.List.Sums.{sum_by-cons}
use Rattle.bs_log.specs.declared.history.Sent.{Sent}
use Rattle.bs_log.specs.declared.log.Row.{Row}
use Rattle.bs_log.specs.declared.log.WaitRow.{WaitRow}
use Rattle.bs_log.specs.declared.log.Log.{Log}
use Rattle.bs_log.specs.Valid.{row_lines}
use Rattle.bs_logcheck.specs.declared.rule.LogRule.{LogRule}
use Rattle.bs_logcheck.specs.declared.rule.Broken.{Broken}
use Rattle.bs_logcheck.specs.Lines.{Line, AfterLine, MailLine, EmitLine, TrapLine, each_line, send_lines, with_more, lines_of_row, lines_of_rows, wait_lines, all_lines}
use Rattle.bs_logcheck.specs.Places.{goal_of, spot_of, nowhere, places}
use Rattle.bs_logcheck.specs.Faults.{row_fault, send_fault, wait_fault, with_rows, fault}
use Rattle.bs_logcheck.specs.Searched.{or_later, first_from, first_send, first_in_row, first_in_rows, first_wait, first_of}
use Rattle.bs_logcheck.proofs.Spots.{seen_more}

later_or : (n : ℕ) (o : Option LogRule) (a b : Option Broken) → or_later n o (option_or a b) ≡ option_or (or_later n o a) b
later_or n None a b = refl
later_or n (Some r) a b = refl

pub from_appended : (l : Log) (n : ℕ) (xs ys : List Line) → first_from l n (xs ++ ys) ≡ option_or (first_from l n xs) (first_from l (n + length xs) ys)
from_appended l n [] ys = ap (λ m. first_from l m ys) (let e : n ≡ n + 0 = omega arith in e)
from_appended l n (x ∷ xs) ys =
    let e : n + 1 + length xs ≡ n + suc (length xs) = omega arith in
    ap (or_later n (fault l x)) (from_appended l (n + 1) xs ys ∙ ap (λ m. option_or (first_from l (n + 1) xs) (first_from l m ys)) e)
    ∙ later_or n (fault l x) (first_from l (n + 1) xs) (first_from l (n + suc (length xs)) ys)

each_length : {A : Type 0} (f : Option A → A → Line) (o : Option A) (xs : List A) → length (each_line f o xs) ≡ length xs
each_length f o [] = refl
each_length f o (x ∷ xs) = ap suc (each_length f (Some x) xs)

send_length : (r : Row) (es : List Sent) (o : Option Sent) (ss : List Sent) → length (send_lines r es o ss) ≡ length ss
send_length r es o [] = refl
send_length r es o (s ∷ ss) = ap suc (send_length r (s ∷ es) (Some s) ss)

emit_length : {A : Type 0} (vs : List A) → length (map (λ v. EmitLine) vs) ≡ length vs
emit_length [] = refl
emit_length (v ∷ vs) = ap suc (emit_length vs)

length_appended : (xs ys : List Line) → length (xs ++ ys) ≡ length xs + length ys
length_appended [] ys = omega arith
length_appended (x ∷ xs) ys = let r = length_appended xs ys in omega (arith, r)

no_emit : {A : Type 0} (l : Log) (n : ℕ) (vs : List A) → first_from l n (map (λ v. EmitLine) vs) ≡ None
no_emit l n [] = refl
no_emit l n (v ∷ vs) = no_emit l (n + 1) vs

sends_lined : (l : Log) (r : Row) (es : List Sent) (o : Option Sent) (n : ℕ) (ss : List Sent) → first_send l r (places goal_of es) o n ss ≡ first_from l n (send_lines r es o ss)
sends_lined l r es o n [] = refl
sends_lined l r es o n (s ∷ ss) = ap (or_later n (send_fault l r (places goal_of es) o s)) (sends_lined l r (s ∷ es) (Some s) (n + 1) ss)

waits_lined : (l : Log) (es : List WaitRow) (o : Option WaitRow) (n : ℕ) (ws : List WaitRow) → first_wait l (with_rows nowhere l.rows) (places spot_of es) o n ws ≡ first_from l n (wait_lines es o ws)
waits_lined l es o n [] = refl
waits_lined l es o n (w ∷ ws) = ap (or_later n (wait_fault l (with_rows nowhere l.rows) (places spot_of es) o w)) (waits_lined l (w ∷ es) (Some w) (n + 1) ws)

-- one part of a row's lines, and the rest
part : (l : Log) (n m k : ℕ) (xs ys : List Line) (b : Option Broken) → length xs ≡ k → m ≡ n + k → b ≡ first_from l m ys → option_or (first_from l n xs) b ≡ first_from l n (xs ++ ys)
part l n m k xs ys b e f h =
    let at : m ≡ n + length xs = f ∙ ap (λ j. n + j) (sym e) in
    ap (option_or (first_from l n xs)) (h ∙ ap (λ j. first_from l j ys) at) ∙ sym (from_appended l n xs ys)

row_lined : (l : Log) (k : ℕ) (o : Option ℕ) (es : List Sent) (n : ℕ) (r : Row) → first_in_row l k o (places goal_of es) n r ≡ first_from l n (lines_of_row k o es r)
unfolding first_in_row
row_lined l k o es n r =
    let sends = send_lines r es None r.sends in
    let emits = map (λ v. EmitLine) r.emits in
    let mail = each_line (MailLine r) None r.mail in
    let after = each_line (AfterLine k r) None r.after in
    let a = n + 1 in
    let m = a + length r.after in
    let e = m + length r.mail in
    let s = e + length r.emits in
    let behind = ap (λ b. option_or b (first_from l s sends)) (sym (no_emit l e r.emits)) in
    let from_sends : first_send l r (places goal_of es) None s r.sends ≡ first_from l s sends = sends_lined l r es None s r.sends in
    let from_emits : first_send l r (places goal_of es) None s r.sends ≡ first_from l e (emits ++ sends) = from_sends ∙ (behind ∙ part l e s (length r.emits) emits sends _ (emit_length r.emits) refl refl) in
    let from_mail = part l m e (length r.mail) mail (emits ++ sends) _ (each_length (MailLine r) None r.mail) refl from_emits in
    let from_after = part l a m (length r.after) after (mail ++ (emits ++ sends)) _ (each_length (AfterLine k r) None r.after) refl from_mail in
    ap (or_later n (row_fault l o r)) from_after

row_length : (k : ℕ) (o : Option ℕ) (es : List Sent) (r : Row) → length (lines_of_row k o es r) ≡ row_lines r
row_length k o es r =
    let sends = send_lines r es None r.sends in
    let emits = map (λ v. EmitLine) r.emits in
    let mail = each_line (MailLine r) None r.mail in
    let after = each_line (AfterLine k r) None r.after in
    let a = length_appended after (mail ++ (emits ++ sends)) in
    let b = length_appended mail (emits ++ sends) in
    let c = length_appended emits sends in
    let d = each_length (AfterLine k r) None r.after in
    let e = each_length (MailLine r) None r.mail in
    let f = emit_length r.emits in
    let g = send_length r es None r.sends in
    omega (arith, a, b, c, d, e, f, g)

rows_lined : (l : Log) (k : ℕ) (o : Option ℕ) (es : List Sent) (n : ℕ) (rs : List Row) → first_in_rows l k o (places goal_of es) n rs ≡ first_from l n (lines_of_rows k o es rs)
rows_lined l k o es n [] = refl
rows_lined l k o es n (r ∷ rs) =
    let m = n + row_lines r in
    let rest = ap (λ seen. first_in_rows l (k + 1) (Some r.chare) seen m rs) (seen_more goal_of es r.sends) ∙ rows_lined l (k + 1) (Some r.chare) (with_more es r.sends) m rs in
    ap₂ option_or (row_lined l k o es n r) refl ∙ part l n m (row_lines r) (lines_of_row k o es r) (lines_of_rows (k + 1) (Some r.chare) (with_more es r.sends) rs) _ (row_length k o es r) refl rest

rows_length : (k : ℕ) (o : Option ℕ) (es : List Sent) (rs : List Row) → length (lines_of_rows k o es rs) ≡ sum_by row_lines rs
rows_length k o es [] = refl
rows_length k o es (r ∷ rs) =
    let a = length_appended (lines_of_row k o es r) (lines_of_rows (k + 1) (Some r.chare) (with_more es r.sends) rs) in
    let b = row_length k o es r in
    let c = rows_length (k + 1) (Some r.chare) (with_more es r.sends) rs in
    let d = sum_by-cons row_lines r rs in
    omega (arith, a, b, c, d)

pub all_lined : (l : Log) → first_of l ≡ first_from l 3 (all_lines l)
unfolding first_of
all_lined l =
    let t = 3 + sum_by row_lines l.rows in
    let traps = each_line TrapLine None l.traps in
    let waits = wait_lines [] None l.waits in
    let from_traps = part l t (t + length l.traps) (length l.traps) traps waits _ (each_length TrapLine None l.traps) refl (waits_lined l [] None (t + length l.traps) l.waits) in
    ap₂ option_or (rows_lined l 1 None [] 3 l.rows) refl ∙ part l 3 t (sum_by row_lines l.rows) (lines_of_rows 1 None [] l.rows) (traps ++ waits) _ (rows_length 1 None [] l.rows) refl from_traps
