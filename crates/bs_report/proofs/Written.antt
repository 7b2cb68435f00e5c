-- Lines of messages, written one after another.
use Rattle.std.proofs.Common.{◌≡◌, ◌<◌, ◌+◌, ℕ, suc, List, [], ◌∷◌, ◌++◌, length, get_or, drop, append_assoc, refl, ap, subst, sym, ◌∙◌, arith}
use Rattle.std.specs.List.{flat_map}
use Rattle.std.proofs.lemmas.List.{drop_more}
use Rattle.bs_log.specs.declared.history.Sent.{Sent}
use Rattle.bs_log.specs.declared.log.MailRef.{MailRef}
use Rattle.bs_log.specs.declared.log.Row.{Row}
use Rattle.bs_log.specs.declared.log.Log.{Log}
use Rattle.bs_times.specs.Net.{no_row, no_send, row_of}
use Rattle.bs_times.proofs.Found.{numbered_is}
use Rattle.bs_report.specs.Trace.{mails_from, mails_of}

-- a text of two parts
pub two_parts : (start first second after1 after2 : List ℕ) → start ≡ [] → after1 ≡ start ++ first → after2 ≡ after1 ++ second → after2 ≡ first ++ second
two_parts start first second after1 after2 e0 e1 e2 = rw (e2, e1, e0)

lines_append : (line : MailRef → List ℕ) (xs ys : List MailRef) → flat_map line (xs ++ ys) ≡ flat_map line xs ++ flat_map line ys
lines_append line [] ys = refl
lines_append line (x ∷ xs) ys = ap (λ lines. line x ++ lines) (lines_append line xs ys) ∙ sym (append_assoc (line x) (flat_map line xs) (flat_map line ys))

-- the text with one more piece of what is left
one_piece : (a b piece left all : List ℕ) → b ≡ a ++ piece → a ++ (piece ++ left) ≡ all → b ++ left ≡ all
one_piece a b piece left all wrote so = ap (λ text. text ++ left) wrote ∙ append_assoc a piece left ∙ so

-- one more send of a row
pub one_send : (line : MailRef → List ℕ) (row k : ℕ) (sends : List Sent) (a b all : List ℕ) → k < length sends → b ≡ a ++ line (record { row = row; index = k + 1 })
    → a ++ flat_map line (mails_from row (k + 1) (drop k sends)) ≡ all → b ++ flat_map line (mails_from row (k + 1 + 1) (drop (k + 1) sends)) ≡ all
one_send line row k sends a b all lt wrote so =
    one_piece a b (line (record { row = row; index = k + 1 })) (flat_map line (mails_from row (k + 1 + 1) (drop (k + 1) sends))) all wrote
    (subst (λ left. a ++ flat_map line (mails_from row (k + 1) left) ≡ all) (drop_more sends k no_send lt) so)

-- the sends of one more row
pub one_row : (line : MailRef → List ℕ) (log : Log) (k : ℕ) (a b all : List ℕ) → k < length log.rows → b ≡ a ++ flat_map line (mails_from (k + 1) 1 (row_of log (k + 1)).sends)
    → a ++ flat_map line (mails_of (k + 1) (drop k log.rows)) ≡ all → b ++ flat_map line (mails_of (k + 1 + 1) (drop (k + 1) log.rows)) ≡ all
one_row line log k a b all lt wrote so =
    let next : suc k ≡ k + 1 = omega arith in
    let row : get_or log.rows k no_row ≡ row_of log (k + 1) = sym (numbered_is log.rows k no_row) ∙ ap (row_of log) next in
    let rest = mails_of (k + 1 + 1) (drop (k + 1) log.rows) in
    let left : a ++ flat_map line (mails_from (k + 1) 1 (row_of log (k + 1)).sends ++ rest) ≡ all
    = subst (λ (r : Row). a ++ flat_map line (mails_from (k + 1) 1 r.sends ++ rest) ≡ all) row (subst (λ left. a ++ flat_map line (mails_of (k + 1) left) ≡ all) (drop_more log.rows k no_row lt) so) in
    one_piece a b (flat_map line (mails_from (k + 1) 1 (row_of log (k + 1)).sends)) (flat_map line rest) all wrote
    (ap (λ lines. a ++ lines) (sym (lines_append line (mails_from (k + 1) 1 (row_of log (k + 1)).sends) rest)) ∙ left)
