-- A text has one first fault at most, and none where it is that of a valid log.
use Rattle.std.proofs.Common.{◌≡◌, ◌≤◌, ℕ, suc, map, true, false, List, [], ◌∷◌, ◌++◌, length, refl, sym, ap, subst, ◌∙◌, arith}
use Rattle.std.specs.Prelude.{Result, Ok, Err, IfOk, IfErr, ◌≢◌}
use Rattle.std.specs.List.{flat_map}
use Rattle.std.proofs.lemmas.List.{append-nil}
use Rattle.std.proofs.lemmas.List.Sums.{fold-append}
use Rattle.bs_log.specs.declared.log.Log.{Log}
use Rattle.bs_log.specs.Valid.{lines_of, IsValid}
use Rattle.bs_logcheck.specs.Rules.{IsSound}
use Rattle.bs_logcheck.proofs.Held.{sound_is_valid}
use Rattle.bs_logtext.specs.Text.{log_text}
use Rattle.bs_logcheck.specs.declared.rule.LogRule.{LogRule}
use Rattle.bs_logcheck.specs.declared.rule.LogRule.TheVariants.{BadLine, BadReference, BadDepth, TwiceUsed, Limits}
use Rattle.bs_logcheck.specs.Rules.{IsFirstBroken}
use Rattle.bs_logcheck.proofs.Found.{only_one}
use Rattle.bs_logread.specs.declared.lines.Line.{Line}
use Rattle.bs_logread.specs.declared.lines.Line.TheVariants as l
use Rattle.bs_logread.specs.declared.order.Progress.{Progress}
use Rattle.bs_logread.specs.Line.{line_text, is_in_range}
use Rattle.bs_logread.specs.Lines.{row_parts, counts_of, log_lines}
use Rattle.bs_logread.specs.Order.{start, after, may_stand, is_within, fits, behind_all}
use Rattle.bs_logread.specs.Fault.{lines_text, NoneStands, IsUnreadable, IsTooMuch, IsRead, IsBroken, IsFault, IsLineRefusal, IsRefusal}
use Rattle.bs_logread.specs.declared.fault.LogFault.{LogFault}
use Rattle.bs_logread.specs.declared.fault.LogFault.TheVariants.{Refused, Memory}
use Rattle.bs_logread.proofs.Back.{same_lines}
use Rattle.bs_logread.proofs.Inside.{in_range}
use Rattle.bs_logread.proofs.Kept.{valid_in_order}
use Rattle.bs_logread.proofs.SoFar.{none_behind_end}
use Rattle.bs_logread.proofs.Spelling.{log_spelled}
use Rattle.bs_logread.proofs.Compared.{Met, together, first_ends, second_ends, compared}
use Rattle.bs_logread.proofs.Ends.{line_longer, one_line, false_true}
use Rattle.bs_logread.proofs.Fields.{parted}

-- where no line stands, no line fits
none_fits : (p : Progress) (rest : List ℕ) (x : Line) (others : List ℕ) → NoneStands p rest → rest ≡ line_text x ++ others → fits p x ≡ true → ⊥
none_fits p rest x others none e f = false_true (none x others e) (parted (may_stand p x) (is_within p x) f).0

two_unreadable : (text : List ℕ) (m n : ℕ) → IsUnreadable text m → IsUnreadable text n → m ≡ n
two_unreadable text m n a b = by (compared start a.front a.rest b.front b.rest a.in_order b.in_order (sym a.text_is ∙ b.text_is))
  where
    by : Met start a.front a.rest b.front b.rest → m ≡ n
    by (together e f) = a.line_is ∙ (ap (λ (l : List Line). suc (length l)) e ∙ sym b.line_is)
    by (first_ends x others e f) = absurd (none_fits (behind_all start a.front) a.rest x others a.none e f)
    by (second_ends x others e f) = absurd (none_fits (behind_all start b.front) b.rest x others b.none e f)

-- a line that passes a limit is the one that stands there
over_fits : (p : Progress) (x y : Line) (others more : List ℕ) → may_stand p x ≡ true → is_within p x ≡ false → line_text x ++ others ≡ line_text y ++ more → fits p y ≡ true → ⊥
over_fits p x y others more m w e f =
    let g = parted (may_stand p y) (is_within p y) f in
    let same = one_line x y others more (parted (is_in_range x) _ m).0 (parted (is_in_range y) _ g.0).0 e in
    false_true w (ap (is_within p) same.line ∙ g.1)

two_too_much : (text : List ℕ) (m n : ℕ) → IsTooMuch text m → IsTooMuch text n → m ≡ n
two_too_much text m n a b = by (compared start a.front (line_text a.one ++ a.others) b.front (line_text b.one ++ b.others) a.in_order b.in_order (sym a.text_is ∙ b.text_is))
  where
    by : Met start a.front (line_text a.one ++ a.others) b.front (line_text b.one ++ b.others) → m ≡ n
    by (together e f) = a.line_is ∙ (ap (λ (l : List Line). suc (length l)) e ∙ sym b.line_is)
    by (first_ends x others e f) = absurd (over_fits (behind_all start a.front) a.one x a.others others a.stands a.over e f)
    by (second_ends x others e f) = absurd (over_fits (behind_all start b.front) b.one x b.others others b.stands b.over e f)

not_both : (text : List ℕ) (m n : ℕ) → IsUnreadable text m → IsTooMuch text n → ⊥
not_both text m n a b = by (compared start a.front a.rest b.front (line_text b.one ++ b.others) a.in_order b.in_order (sym a.text_is ∙ b.text_is))
  where
    by : Met start a.front a.rest b.front (line_text b.one ++ b.others) → ⊥
    by (together e f) = false_true (a.none b.one b.others f) (ap (λ (l : List Line). may_stand (behind_all start l) b.one) e ∙ b.stands)
    by (first_ends x others e f) = none_fits (behind_all start a.front) a.rest x others a.none e f
    by (second_ends x others e f) = over_fits (behind_all start b.front) b.one x b.others others b.stands b.over e f

-- ---- texts of logs

-- the lines of a log end with its last one
ends : (log : Log) → (behind_all start (log_lines log)).last ≡ 10
unfolding log_lines
ends log =
    let p = after (after start l.Version) (l.Counts (counts_of log)) in
    let rows = flat_map row_parts log.rows in
    let traps = map l.Trap log.traps in
    let waits = map l.Wait log.waits in
    let last = l.End ∷ [] in
    ap (λ (q : Progress). q.last) (fold-append after p rows (traps ++ (waits ++ last)) ∙ (fold-append after (behind_all p rows) traps (waits ++ last) ∙ fold-append after (behind_all (behind_all p rows) traps) waits last))

-- the lines of a text that is read, and that nothing is left
as_lines : (text : List ℕ) (log : Log) → IsRead text log → lines_text (log_lines log) ++ [] ≡ text
as_lines text log r = append-nil (lines_text (log_lines log)) ∙ (log_spelled log ∙ sym r.text_is)

no_line : (x : Line) (others : List ℕ) → [] ≡ line_text x ++ others → ⊥
no_line x others e = let a = line_longer x others in let b = ap length e in omega (arith, a, b)

after_end : (log : Log) (x : Line) → fits (behind_all start (log_lines log)) x ≡ true → ⊥
after_end log x f = false_true (none_behind_end (behind_all start (log_lines log)) x (ends log)) (parted (may_stand (behind_all start (log_lines log)) x) (is_within (behind_all start (log_lines log)) x) f).0

read_once : (text : List ℕ) (a b : Log) → IsRead text a → IsRead text b → a ≡ b
read_once text a b r s = by (compared start (log_lines a) [] (log_lines b) [] r.in_order s.in_order (as_lines text a r ∙ sym (as_lines text b s)))
  where
    by : Met start (log_lines a) [] (log_lines b) [] → a ≡ b
    by (together e f) = same_lines a b e
    by (first_ends x others e f) = absurd (no_line x others e)
    by (second_ends x others e f) = absurd (no_line x others e)

read_or_unreadable : (text : List ℕ) (log : Log) (n : ℕ) → IsRead text log → IsUnreadable text n → ⊥
read_or_unreadable text log n r a = by (compared start (log_lines log) [] a.front a.rest r.in_order a.in_order (as_lines text log r ∙ a.text_is))
  where
    by : Met start (log_lines log) [] a.front a.rest → ⊥
    by (together e f) = a.more (ap (λ (xs : List Line). (behind_all start xs).last) (sym e) ∙ ends log, sym f)
    by (first_ends x others e f) = no_line x others e
    by (second_ends x others e f) = none_fits (behind_all start a.front) a.rest x others a.none e f

read_or_too_much : (text : List ℕ) (log : Log) (n : ℕ) → IsRead text log → IsTooMuch text n → ⊥
read_or_too_much text log n r a = by (compared start (log_lines log) [] a.front (line_text a.one ++ a.others) r.in_order a.in_order (as_lines text log r ∙ a.text_is))
  where
    by : Met start (log_lines log) [] a.front (line_text a.one ++ a.others) → ⊥
    by (together e f) = no_line a.one a.others f
    by (first_ends x others e f) = no_line x others e
    by (second_ends x others e f) = over_fits (behind_all start a.front) a.one x a.others others a.stands a.over e f

-- ---- faults

two_broken : (text : List ℕ) (m n : ℕ) (r s : LogRule) → IsBroken text m r → IsBroken text n s → (m ≡ n) × (r ≡ s)
two_broken text m n r s a b =
    let same = read_once text a.log b.log a.read b.read in
    only_one b.log m n r s (subst (λ (g : Log). IsFirstBroken g m r) same a.first) b.first

pub data Kinds (text : List ℕ) (n : ℕ) (r : LogRule) : Type 0 where
  unreadable : r ≡ BadLine → IsUnreadable text n → Kinds text n r
  too_much : r ≡ Limits → IsTooMuch text n → Kinds text n r
  broken : IsBroken text n r → Kinds text n r

kind : (text : List ℕ) (n : ℕ) (r : LogRule) → IsFault text n r → Kinds text n r
kind text n BadLine f = unreadable refl f
kind text n BadReference f = broken f
kind text n BadDepth f = broken f
kind text n TwiceUsed f = broken f
kind text n Limits f = too_much refl f

pub one_fault : (text : List ℕ) (m n : ℕ) (r s : LogRule) → IsFault text m r → IsFault text n s → (m ≡ n) × (r ≡ s)
one_fault text m n r s a b = by (kind text m r a) (kind text n s b)
  where
    by : Kinds text m r → Kinds text n s → (m ≡ n) × (r ≡ s)
    by (unreadable e x) (unreadable f y) = (two_unreadable text m n x y, e ∙ sym f)
    by (unreadable e x) (too_much f y) = absurd (not_both text m n x y)
    by (unreadable e x) (broken y) = absurd (read_or_unreadable text y.log m y.read x)
    by (too_much e x) (unreadable f y) = absurd (not_both text n m y x)
    by (too_much e x) (too_much f y) = (two_too_much text m n x y, e ∙ sym f)
    by (too_much e x) (broken y) = absurd (read_or_too_much text y.log m y.read x)
    by (broken x) (unreadable f y) = absurd (read_or_unreadable text x.log n x.read y)
    by (broken x) (too_much f y) = absurd (read_or_too_much text x.log n x.read y)
    by (broken x) (broken y) = two_broken text m n r s x y

-- ---- valid logs

pub valid_read : (log : Log) → IsValid log → IsRead (log_text log) log
valid_read log v = record { text_is = refl; in_order = valid_in_order log v }

pub valid_only : (a b : Log) → IsValid a → IsRead (log_text a) b → a ≡ b
valid_only a b v r = read_once (log_text a) a b (valid_read a v) r

pub one_text : (a b : Log) → IsValid a → IsValid b → log_text a ≡ log_text b → a ≡ b
one_text a b v w e = valid_only a b v (record { text_is = e; in_order = valid_in_order b w })

pub no_fault : (log : Log) (line : ℕ) (rule : LogRule) → IsValid log → IsFault (log_text log) line rule → ⊥
no_fault log line rule v f = by (kind (log_text log) line rule f)
  where
    by : Kinds (log_text log) line rule → ⊥
    by (unreadable e x) = read_or_unreadable (log_text log) log line (valid_read log v) x
    by (too_much e x) = read_or_too_much (log_text log) log line (valid_read log v) x
    by (broken x) =
        let same = valid_only log x.log v x.read in
        let sound = ((sound_is_valid log).1 v).1 in
        sound line rule (subst (λ (g : Log). IsFirstBroken g line rule) (sym same) x.first).breaks

-- ---- what is answered

pub room : (text : List ℕ) (log : Log) → IsRead text log → lines_of log ≤ 262144
room text log r = (in_range log r.in_order).lines

pub sound_read : (text : List ℕ) (log : Log) → IsRead text log → IsSound log → IsValid log × (log_text log ≡ text)
sound_read text log r s = ((sound_is_valid log).0 (in_range log r.in_order, s), sym r.text_is)

pub broken_is : (text : List ℕ) (log : Log) (line : ℕ) (rule : LogRule) → IsRead text log → IsFirstBroken log line rule → IsFault text line rule
broken_is text log line BadLine r f = absurd ((f.breaks).broken tt)
broken_is text log line BadReference r f = record { log = log; read = r; first = f }
broken_is text log line BadDepth r f = record { log = log; read = r; first = f }
broken_is text log line TwiceUsed r f = record { log = log; read = r; first = f }
broken_is text log line Limits r f = absurd ((f.breaks).broken tt)

pub refusal_from : (text : List ℕ) (fault : LogFault) → IsLineRefusal text fault → IsRefusal text fault
refusal_from text Memory f = tt
refusal_from text (Refused line BadLine) f = f
refusal_from text (Refused line BadReference) f = absurd f
refusal_from text (Refused line BadDepth) f = absurd f
refusal_from text (Refused line TwiceUsed) f = absurd f
refusal_from text (Refused line Limits) f = f

pub exact : (text : List ℕ) (r : Result Log LogFault) → IfOk r (λ log. IsValid log × (log_text log ≡ text)) → IfErr r (IsRefusal text)
    → (log : Log) → IsValid log → text ≡ log_text log → r ≢ Err Memory → r ≡ Ok log
exact text (Ok got) o e log v is some = ap Ok (one_text got log o.0 v (o.1 ∙ is))
exact text (Err Memory) o e log v is some = absurd (some refl)
exact text (Err (Refused line rule)) o e log v is some = absurd (no_fault log line rule v (subst (λ (t : List ℕ). IsFault t line rule) is e))

pub refused : (text : List ℕ) (r : Result Log LogFault) → IfOk r (λ log. IsValid log × (log_text log ≡ text)) → IfErr r (IsRefusal text)
    → (line : ℕ) (rule : LogRule) → IsFault text line rule → r ≢ Err Memory → r ≡ Err (Refused line rule)
refused text (Ok got) o e line rule f some = absurd (no_fault got line rule o.0 (subst (λ (t : List ℕ). IsFault t line rule) (sym o.1) f))
refused text (Err Memory) o e line rule f some = absurd (some refl)
refused text (Err (Refused m r)) o e line rule f some = let q = one_fault text m line r rule e f in rw (q.0, q.1) refl
