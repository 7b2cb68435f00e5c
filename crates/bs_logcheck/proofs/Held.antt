-- A log whose lines break no rule is valid, and the other way round.
use Rattle.std.proofs.Common.{◌≡◌, ◌≤◌, ◌<◌, ◌⊎◌, inl, inr, ℕ, suc, ◌+◌, Bool, false, List, [], ◌∷◌, ◌++◌, map, Option, Some, None, refl, sym, subst, ◌∙◌, arith}
use Rattle.bs_log.specs.declared.history.Sent.{Sent}
use Rattle.bs_log.specs.declared.log.Row.{Row}
use Rattle.bs_log.specs.declared.log.WaitRow.{WaitRow}
use Rattle.bs_log.specs.declared.log.Log.{Log}
use Rattle.bs_log.specs.Rising.{IsLower}
use Rattle.bs_log.specs.Valid.{RowIsInRange, IsBlockCause, IsMailCause, deepest, RowFits, EachFrom, sends_in, one_send, one_wait, is_awaited, TrapIsLower, WaitIsUpTo, IsValid}
use Rattle.bs_log.specs.Lists.{Mem, Apart, Each, InOrder}
use Rattle.bs_log.proofs.ClosedTests.{in_front, behind, either}
use Rattle.bs_logcheck.specs.declared.rule.LogRule.{LogRule}
use Rattle.bs_logcheck.specs.declared.rule.LogRule.TheVariants.{BadLine, BadReference, BadDepth, TwiceUsed, Limits}
use Rattle.bs_logcheck.specs.Lines.{Line, RowLine, AfterLine, MailLine, EmitLine, SendLine, TrapLine, WaitLine, each_line, send_lines, with_more, lines_of_row, lines_of_rows, wait_lines, all_lines, IsAt}
use Rattle.bs_logcheck.specs.Rules.{Follows, Refers, RowRefers, HasDepth, IsNew, Keeps, IsSound}
use Rattle.bs_logcheck.specs.Ranges.{SendIsInRange, IsInRange}
use Rattle.bs_logcheck.specs.Faults.{fault}
use Rattle.bs_logcheck.proofs.Spots.{in_earlier, in_more, from_more}
use Rattle.bs_logcheck.proofs.Kept.{IsLeast, fault_is}
use Rattle.bs_logcheck.proofs.Listed.{each_join, each_split, each_at, at_each, from_each, apart_join, apart_front, apart_behind, apart_across, AllFit, lines_fit, fit_lines, line_each, each_of_line, never_apart}

abbrev Kept : Log → Line → Type 0
Kept l x = (r : LogRule) → Keeps l x r

kept : (l : Log) (x : Line) → Refers l x → HasDepth l x → IsNew x → Kept l x
kept l x a b c BadLine = tt
kept l x a b c BadReference = a
kept l x a b c BadDepth = b
kept l x a b c TwiceUsed = c
kept l x a b c Limits = tt

sound_each : (l : Log) → IsSound l → Each (Kept l) (all_lines l)
sound_each l s = each_at (Kept l) (all_lines l) (λ p x i. by p x i (fault l x) (fault_is l x))
  where
    by : (p : ℕ) (x : Line) → IsAt (all_lines l) p x → (o : Option LogRule) → IsLeast l x o → Kept l x
    by p x i None k = k
    by p x i (Some r) k = absurd (s (3 + p) r (record { line = x; is_line = record { place = p; number_is = refl; is_there = i }; broken = k.0 }))

each_sound : (l : Log) → Each (Kept l) (all_lines l) → IsSound l
each_sound l e n r b = b.broken (at_each (Kept l) (all_lines l) e b.is_line.place b.line b.is_line.is_there r)

-- orders

lower_trans : (a b c d e f : ℕ) → (a < c) ⊎ ((a ≡ c) × (b < d)) → (c < e) ⊎ ((c ≡ e) × (d < f)) → (a < e) ⊎ ((a ≡ e) × (b < f))
lower_trans a b c d e f (inl h) (inl k) = inl (omega arith)
lower_trans a b c d e f (inl h) (inr k) = inl (let i = k.0 in omega (arith, i))
lower_trans a b c d e f (inr h) (inl k) = inl (let i = h.0 in omega (arith, i))
lower_trans a b c d e f (inr h) (inr k) = inr (h.0 ∙ k.0, let i = h.1 in let j = k.1 in omega (arith, i, j))

up_to_trans : (a b c d e f : ℕ) → (a < c) ⊎ ((a ≡ c) × (b ≤ d)) → (c < e) ⊎ ((c ≡ e) × (d ≤ f)) → (a < e) ⊎ ((a ≡ e) × (b ≤ f))
up_to_trans a b c d e f (inl h) (inl k) = inl (omega arith)
up_to_trans a b c d e f (inl h) (inr k) = inl (let i = k.0 in omega (arith, i))
up_to_trans a b c d e f (inr h) (inl k) = inl (let i = h.0 in omega (arith, i))
up_to_trans a b c d e f (inr h) (inr k) = inr (h.0 ∙ k.0, let i = h.1 in let j = k.1 in omega (arith, i, j))

-- the parts of a row, with what a part's lines say

abbrev nothing_alike : {A : Type 0} → A → A → Bool
nothing_alike a b = false

abbrev AfterFit : Log → ℕ → Row → Type 0
AfterFit l k r = AllFit (IsBlockCause l k r.chare) (λ m n. m < n) nothing_alike [] None r.after

abbrev MailFit : Log → Row → Type 0
MailFit l r = AllFit (IsMailCause l r.chare) IsLower nothing_alike [] None r.mail

-- what a send refers to, but for the one before it
record SendAims (l : Log) (cost : ℕ) (s : Sent) : Type 0 where
  target : s.to < l.chares
  entry : s.key.entry < l.entries
  within : s.offset ≤ cost

abbrev SendsFit : Log → Row → List Sent → Type 0
SendsFit l r es = AllFit (SendAims l r.cost) (λ a b. a.offset ≤ b.offset) one_send es None r.sends

after_fit : (l : Log) (k : ℕ) (r : Row) → Each (Kept l) (each_line (AfterLine k r) None r.after) → AfterFit l k r
after_fit l k r h = lines_fit (λ es. AfterLine k r) (Kept l) (IsBlockCause l k r.chare) (λ m n. m < n) nothing_alike (λ x y z a b. omega arith)
    (λ es o n q. let a = q BadReference in record { fit = a.cause; follow = a.order; new = λ e m. refl }) [] None r.after (line_each (AfterLine k r) (Kept l) [] None r.after h)

fit_after : (l : Log) (k : ℕ) (r : Row) → AfterFit l k r → Each (Kept l) (each_line (AfterLine k r) None r.after)
fit_after l k r a = each_of_line (AfterLine k r) (Kept l) [] None r.after (fit_lines (λ es. AfterLine k r) (Kept l) (IsBlockCause l k r.chare) (λ m n. m < n) nothing_alike
    (λ es o n f. kept l (AfterLine k r o n) (record { cause = f.fit; order = f.follow }) tt tt) [] None r.after a)

mail_fit : (l : Log) (r : Row) → Each (Kept l) (each_line (MailLine r) None r.mail) → MailFit l r
mail_fit l r h = lines_fit (λ es. MailLine r) (Kept l) (IsMailCause l r.chare) IsLower nothing_alike (λ x y z. lower_trans x.row x.index y.row y.index z.row z.index)
    (λ es o n q. let a = q BadReference in record { fit = a.cause; follow = a.order; new = λ e m. refl }) [] None r.mail (line_each (MailLine r) (Kept l) [] None r.mail h)

fit_mail : (l : Log) (r : Row) → MailFit l r → Each (Kept l) (each_line (MailLine r) None r.mail)
fit_mail l r a = each_of_line (MailLine r) (Kept l) [] None r.mail (fit_lines (λ es. MailLine r) (Kept l) (IsMailCause l r.chare) IsLower nothing_alike
    (λ es o n f. kept l (MailLine r o n) (record { cause = f.fit; order = f.follow }) tt tt) [] None r.mail a)

sends_fit : (l : Log) (r : Row) (es : List Sent) → Each (Kept l) (send_lines r es None r.sends) → SendsFit l r es
sends_fit l r es h = lines_fit (SendLine r) (Kept l) (SendAims l r.cost) (λ a b. a.offset ≤ b.offset) one_send (λ x y z a b. omega arith)
    (λ es o s q. let a = q BadReference in record { fit = record { target = a.target; entry = a.entry; within = a.within }; follow = a.order; new = q TwiceUsed }) es None r.sends h

fit_sends : (l : Log) (r : Row) (es : List Sent) → SendsFit l r es → Each (Kept l) (send_lines r es None r.sends)
fit_sends l r es a = fit_lines (SendLine r) (Kept l) (SendAims l r.cost) (λ a b. a.offset ≤ b.offset) one_send
    (λ es o s f. kept l (SendLine r es o s) (record { target = f.fit.target; entry = f.fit.entry; order = f.follow; within = f.fit.within }) tt f.new) es None r.sends a

emits_kept : {A : Type 0} (l : Log) (vs : List A) → Each (Kept l) (map (λ v. EmitLine) vs)
emits_kept l [] = tt
emits_kept l (v ∷ vs) = (kept l EmitLine tt tt tt, emits_kept l vs)

-- a row

record RowHolds (l : Log) (k : ℕ) (o : Option ℕ) (es : List Sent) (r : Row) : Type 0 where
  refers : RowRefers l o r
  depth : r.depth ≡ suc (deepest l r)
  after : AfterFit l k r
  mail : MailFit l r
  sends : SendsFit l r es

row_holds : (l : Log) (k : ℕ) (o : Option ℕ) (es : List Sent) (r : Row) → Each (Kept l) (lines_of_row k o es r) → RowHolds l k o es r
row_holds l k o es r h =
    let sends = send_lines r es None r.sends in
    let emits = map (λ v. EmitLine) r.emits in
    let mail = each_line (MailLine r) None r.mail in
    let after = each_line (AfterLine k r) None r.after in
    let a = each_split (Kept l) after (mail ++ (emits ++ sends)) h.1 in
    let m = each_split (Kept l) mail (emits ++ sends) a.1 in
    let s = each_split (Kept l) emits sends m.1 in
    record { refers = h.0 BadReference; depth = h.0 BadDepth; after = after_fit l k r a.0; mail = mail_fit l r m.0; sends = sends_fit l r es s.1 }

holds_row : (l : Log) (k : ℕ) (o : Option ℕ) (es : List Sent) (r : Row) → RowHolds l k o es r → Each (Kept l) (lines_of_row k o es r)
holds_row l k o es r h =
    let sends = send_lines r es None r.sends in
    let emits = map (λ v. EmitLine) r.emits in
    let mail = each_line (MailLine r) None r.mail in
    let after = each_line (AfterLine k r) None r.after in
    let s = each_join (Kept l) emits sends (emits_kept l r.emits) (fit_sends l r es h.sends) in
    let m = each_join (Kept l) mail (emits ++ sends) (fit_mail l r h.mail) s in
    let a = each_join (Kept l) after (mail ++ (emits ++ sends)) (fit_after l k r h.after) m in
    (kept l (RowLine o r) h.refers h.depth tt, a)

abbrev SendsInRange : Row → Type 0
SendsInRange r = (s : Sent) → Mem s r.sends → SendIsInRange s

row_fits : (l : Log) (k : ℕ) (o : Option ℕ) (es : List Sent) (r : Row) → RowIsInRange r → SendsInRange r → RowHolds l k o es r → RowFits l k r
row_fits l k o es r i j h = record {
  ranges = i;
  chare = h.refers.chare;
  after = h.after.fit;
  mail = h.mail.fit;
  rises = record { after = h.after.order; mail = h.mail.order };
  depth = h.depth;
  sends = λ s m. let f = h.sends.fit s m in let g = j s m in record { target = f.target; entry = f.entry; reference = g.reference; bytes = g.bytes; offset = g.offset; within = f.within };
  offsets = h.sends.order;
}

fits_row : (l : Log) (k : ℕ) (o : Option ℕ) (es : List Sent) (r : Row) → RowFits l k r → Follows (λ a b. a ≤ b) o r.chare → Apart one_send r.sends → ((e : Sent) → Mem e es → (s : Sent) → Mem s r.sends → one_send e s ≡ false) → RowHolds l k o es r
fits_row l k o es r f w a n = record {
  refers = record { chare = f.chare; order = w };
  depth = f.depth;
  after = record { fit = f.after; order = f.rises.after; follow = tt; apart = never_apart r.after; new = λ e i x m. refl };
  mail = record { fit = f.mail; order = f.rises.mail; follow = tt; apart = never_apart r.mail; new = λ e i x m. refl };
  sends = record { fit = λ s m. let g = f.sends s m in record { target = g.target; entry = g.entry; within = g.within }; order = f.offsets; follow = tt; apart = a; new = n };
}

-- all rows

abbrev FollowRows : Option ℕ → List Row → Type 0
FollowRows None rs = Unit {0}
FollowRows (Some c) rs = (r : Row) → Mem r rs → c ≤ r.chare

record RowsHold (l : Log) (k : ℕ) (o : Option ℕ) (es : List Sent) (rs : List Row) : Type 0 where
  fit : EachFrom (RowFits l) k rs
  order : InOrder (λ a b. a.chare ≤ b.chare) rs
  follow : FollowRows o rs
  apart : Apart one_send (sends_in rs)
  new : (e : Sent) → Mem e es → (s : Sent) → Mem s (sends_in rs) → one_send e s ≡ false

rows_hold : (l : Log) (k : ℕ) (o : Option ℕ) (es : List Sent) (rs : List Row) → ((r : Row) → Mem r rs → RowIsInRange r) → ((r : Row) → Mem r rs → SendsInRange r) → Each (Kept l) (lines_of_rows k o es rs) → RowsHold l k o es rs
rows_hold l k o es [] i j h = record { fit = tt; order = tt; follow = nothing o; apart = tt; new = λ e m s a. absurd a }
  where
    nothing : (o : Option ℕ) → FollowRows o []
    nothing None = tt
    nothing (Some c) = λ r m. absurd m
rows_hold l k o es (r ∷ rs) i j h =
    let two = each_split (Kept l) (lines_of_row k o es r) (lines_of_rows (k + 1) (Some r.chare) (with_more es r.sends) rs) h in
    by (row_holds l k o es r two.0) (rows_hold l (k + 1) (Some r.chare) (with_more es r.sends) rs (λ x m. i x (inr m)) (λ x m. j x (inr m)) two.1)
  where
    all_follow : (o : Option ℕ) → Follows (λ a b. a ≤ b) o r.chare → ((x : Row) → Mem x rs → r.chare ≤ x.chare) → FollowRows o (r ∷ rs)
    all_follow None f g = tt
    all_follow (Some c) f g = below
      where
        below : (x : Row) → Mem x (r ∷ rs) → c ≤ x.chare
        below x (inl e) = subst (λ (z : Row). c ≤ z.chare) (sym e) f
        below x (inr m) = let b = g x m in omega (arith, f, b)

    by : RowHolds l k o es r → RowsHold l (k + 1) (Some r.chare) (with_more es r.sends) rs → RowsHold l k o es (r ∷ rs)
    by a b = record {
      fit = (row_fits l k o es r (i r (inl refl)) (j r (inl refl)) a, b.fit);
      order = (b.follow, b.order);
      follow = all_follow o a.refers.order b.follow;
      apart = apart_join one_send r.sends (sends_in rs) a.sends.apart b.apart (λ x m. b.new x (in_more x es r.sends m));
      new = λ e m s n. news e m s (either s r.sends (sends_in rs) n);
    }
      where
        news : (e : Sent) → Mem e es → (s : Sent) → Mem s r.sends ⊎ Mem s (sends_in rs) → one_send e s ≡ false
        news e m s (inl n) = a.sends.new e m s n
        news e m s (inr n) = b.new e (in_earlier e es r.sends m) s n

hold_rows : (l : Log) (k : ℕ) (o : Option ℕ) (es : List Sent) (rs : List Row) → RowsHold l k o es rs → Each (Kept l) (lines_of_rows k o es rs)
hold_rows l k o es [] h = tt
hold_rows l k o es (r ∷ rs) h = each_join (Kept l) (lines_of_row k o es r) (lines_of_rows (k + 1) (Some r.chare) (with_more es r.sends) rs)
    (holds_row l k o es r here) (hold_rows l (k + 1) (Some r.chare) (with_more es r.sends) rs rest)
  where
    first : (o : Option ℕ) → FollowRows o (r ∷ rs) → Follows (λ a b. a ≤ b) o r.chare
    first None f = tt
    first (Some c) f = f r (inl refl)

    here : RowHolds l k o es r
    here = fits_row l k o es r h.fit.0 (first o h.follow) (apart_front one_send r.sends (sends_in rs) h.apart) (λ e m s n. h.new e m s (in_front s r.sends (sends_in rs) n))

    rest : RowsHold l (k + 1) (Some r.chare) (with_more es r.sends) rs
    rest = record {
      fit = h.fit.1;
      order = h.order.1;
      follow = h.order.0;
      apart = apart_behind one_send r.sends (sends_in rs) h.apart;
      new = from_more (λ e. (s : Sent) → Mem s (sends_in rs) → one_send e s ≡ false) es r.sends (λ e m s n. h.new e m s (behind s r.sends (sends_in rs) n)) (apart_across one_send r.sends (sends_in rs) h.apart);
    }

-- traps and waits

abbrev TrapsFit : Log → Type 0
TrapsFit l = AllFit (λ t. t.chare < l.chares) TrapIsLower nothing_alike [] None l.traps

traps_fit : (l : Log) → Each (Kept l) (each_line TrapLine None l.traps) → TrapsFit l
traps_fit l h = lines_fit (λ es. TrapLine) (Kept l) (λ t. t.chare < l.chares) TrapIsLower nothing_alike (λ x y z. lower_trans x.chare x.stmt y.chare y.stmt z.chare z.stmt)
    (λ es o t q. let a = q BadReference in record { fit = a.chare; follow = a.order; new = λ e m. refl }) [] None l.traps (line_each TrapLine (Kept l) [] None l.traps h)

fit_traps : (l : Log) → TrapsFit l → Each (Kept l) (each_line TrapLine None l.traps)
fit_traps l a = each_of_line TrapLine (Kept l) [] None l.traps (fit_lines (λ es. TrapLine) (Kept l) (λ t. t.chare < l.chares) TrapIsLower nothing_alike
    (λ es o t f. kept l (TrapLine o t) (record { chare = f.fit; order = f.follow }) tt tt) [] None l.traps a)

record WaitAims (l : Log) (w : WaitRow) : Type 0 where
  chare : w.chare < l.chares
  entry : w.key.entry < l.entries
  lacks : (s : Sent) → Mem s (sends_in l.rows) → is_awaited w s ≡ false

abbrev WaitsFit : Log → Type 0
WaitsFit l = AllFit (WaitAims l) WaitIsUpTo one_wait [] None l.waits

waits_fit : (l : Log) → Each (Kept l) (wait_lines [] None l.waits) → WaitsFit l
waits_fit l h = lines_fit WaitLine (Kept l) (WaitAims l) WaitIsUpTo one_wait (λ x y z. up_to_trans x.chare x.stmt y.chare y.stmt z.chare z.stmt)
    (λ es o w q. let a = q BadReference in record { fit = record { chare = a.chare; entry = a.entry; lacks = a.lacks }; follow = a.order; new = q TwiceUsed }) [] None l.waits h

fit_waits : (l : Log) → WaitsFit l → Each (Kept l) (wait_lines [] None l.waits)
fit_waits l a = fit_lines WaitLine (Kept l) (WaitAims l) WaitIsUpTo one_wait
    (λ es o w f. kept l (WaitLine es o w) (record { chare = f.fit.chare; entry = f.fit.entry; order = f.follow; lacks = f.fit.lacks }) tt f.new) [] None l.waits a

-- the whole

valid_from : (l : Log) → IsInRange l → Each (Kept l) (all_lines l) → IsValid l
valid_from l i h =
    let traps = each_line TrapLine None l.traps in
    let waits = wait_lines [] None l.waits in
    let a = each_split (Kept l) (lines_of_rows 1 None [] l.rows) (traps ++ waits) h in
    let b = each_split (Kept l) traps waits a.1 in
    let rs = rows_hold l 1 None [] l.rows i.rows i.sends a.0 in
    let ts = traps_fit l b.0 in
    let ws = waits_fit l b.1 in
    record {
      chares = i.chares;
      entries = i.entries;
      lines = i.lines;
      rows = rs.fit;
      row_order = rs.order;
      traps = λ t m. record { chare = ts.fit t m; stmt = i.traps t m };
      trap_order = ts.order;
      waits = λ w m. let f = ws.fit w m in let g = i.waits w m in record { chare = f.chare; stmt = g.stmt; entry = f.entry; reference = g.reference; lacks = f.lacks };
      wait_order = ws.order;
      sent_once = rs.apart;
      awaited_once = ws.apart;
    }

in_range : (l : Log) → IsValid l → IsInRange l
in_range l v = record {
  chares = v.chares;
  entries = v.entries;
  lines = v.lines;
  rows = from_each (RowFits l) RowIsInRange (λ k r f. f.ranges) 1 l.rows v.rows;
  sends = from_each (RowFits l) SendsInRange (λ k r f s m. let g = f.sends s m in record { reference = g.reference; bytes = g.bytes; offset = g.offset }) 1 l.rows v.rows;
  traps = λ t m. (v.traps t m).stmt;
  waits = λ w m. let f = v.waits w m in record { stmt = f.stmt; reference = f.reference };
}

kept_from : (l : Log) → IsValid l → Each (Kept l) (all_lines l)
kept_from l v =
    let traps = each_line TrapLine None l.traps in
    let waits = wait_lines [] None l.waits in
    let rs = hold_rows l 1 None [] l.rows (record { fit = v.rows; order = v.row_order; follow = tt; apart = v.sent_once; new = λ e m. absurd m }) in
    let ts = fit_traps l (record { fit = λ t m. (v.traps t m).chare; order = v.trap_order; follow = tt; apart = never_apart l.traps; new = λ e m. absurd m }) in
    let ws = fit_waits l (record { fit = λ w m. let f = v.waits w m in record { chare = f.chare; entry = f.entry; lacks = f.lacks }; order = v.wait_order; follow = tt; apart = v.awaited_once; new = λ e m. absurd m }) in
    each_join (Kept l) (lines_of_rows 1 None [] l.rows) (traps ++ waits) rs (each_join (Kept l) traps waits ts ws)

pub sound_is_valid : (l : Log) → (IsInRange l × IsSound l → IsValid l) × (IsValid l → IsInRange l × IsSound l)
sound_is_valid l = (λ h. valid_from l h.0 (sound_each l h.1), λ v. (in_range l v, each_sound l (kept_from l v)))
