-- The numbers of each round have 64 bits, and so have those of its log; and the log of closed histories is valid.
use Rattle.std.proofs.Common.{◌≡◌, ◌≤◌, ◌<◌, inl, inr, ℕ, zero, suc, ◌+◌, ◌^◌, pos, Bool, true, false, if◌then◌else◌, ◌&&◌, List, [], ◌∷◌, Some, None, refl, sym, subst, ◌∙◌, length, map, arith}
use Rattle.std.proofs.lemmas.Bool.{and_parts}
use Rattle.bs_tree.specs.declared.tree.Program.{Program}
use Rattle.bs_tree.specs.Count.{statements_in}
use Rattle.bs_log.specs.declared.history.Sent.{Sent}
use Rattle.bs_log.specs.declared.history.Message.{Message}
use Rattle.bs_log.specs.declared.history.Block.{Block}
use Rattle.bs_log.specs.declared.history.History.{History}
use Rattle.bs_log.specs.declared.log.Row.{Row}
use Rattle.bs_log.specs.declared.log.WaitRow.{WaitRow}
use Rattle.bs_log.specs.Collected.{row_of, rows_from, wait_row, waits_from, log_of}
use Rattle.bs_log.specs.Valid.{IsWord, IsValid}
use Rattle.bs_log.specs.Lists.{Mem}
use Rattle.bs_log.specs.Messages.{is_for, sends_of, sent}
use Rattle.bs_log.proofs.ClosedTests.{its_block, its_history}
use Rattle.bs_log.proofs.Order.{map_member}
use Rattle.bs_semantics.specs.Run.{Lookup, history}
use Rattle.bs_semantics.specs.Rounds.{Closed, chares, from_to, histories, mail, mail_to, round}
use Rattle.bs_semantics.specs.Verdict.{Verdict, IsVerdict, clean, is_clean, is_twice, is_too_long}
use Rattle.bs_semantics.proofs.Confluence.{clean_closed, closed_clean}
use Rattle.bs_check.specs.Declarations.{declared_names, has_twice, is_within}
use Rattle.bs_check.specs.Refusal.{refusal}
use Rattle.bs_check.proofs.Verdict.{twice_refused, limits_refused}
use Rattle.bs_check.proofs.Fitting.{Fitting, fitting}
use Rattle.bs_logtext.specs.Declared.{AreDeclared, AreEntries, HasWords}
use Rattle.bs_parse.specs.Text.{Spells}
use Rattle.bs_parse.proofs.Counted.{few_in_text}
use Rattle.bs_range.specs.Numbers.{HasSmallNumbers, is_small, small_in_body, small_in_entries, small_in_variables}
use Rattle.bs_range.specs.Words.{AreWords, MessageHasWords, BlockHasWords, HistoryHasWords, MailHasWords}
use Rattle.bs_range.proofs.Values.{word_of}
use Rattle.bs_range.proofs.Runs.{both_all, history_words}
use Rattle.bs_range.proofs.Spelled.{spelled_small}

-- ---- mail and messages

abbrev pub HaveWords : List History → Type 0
HaveWords hs = (h : History) → Mem h hs → HistoryHasWords h

abbrev pub AllHaveWords : List Message → Type 0
AllHaveWords ms = (m : Message) → Mem m ms → MessageHasWords m

mail_has_words : (ms : List Message) (c : ℕ) → AllHaveWords ms → MailHasWords (mail_to ms c)
mail_has_words [] c h k m e = absurd (cc)
mail_has_words (x ∷ ms) c h k m e = by (mail_has_words ms c (λ n i. h n (inr i)) k m) (is_for c k x) e
  where
    by : (mail_to ms c k ≡ Some m → AreWords m.args) → (b : Bool) → (if b then Some x else mail_to ms c k) ≡ Some m → AreWords m.args
    by rest true e = let same : x ≡ m = cc in subst (λ (m : Message). AreWords m.args) same (h x (inl refl)).args
    by rest false e = rest e

sends_have_words : (bs : List Block) → ((x : Block) → Mem x bs → BlockHasWords x) → AllHaveWords (sends_of bs)
sends_have_words [] h m i = absurd i
sends_have_words (x ∷ bs) h m i = both_all MessageHasWords x.sends (sends_of bs) (h x (inl refl)).sent (sends_have_words bs (λ y j. h y (inr j))) m i

sent_have_words : (hs : List History) → HaveWords hs → AllHaveWords (sent hs)
sent_have_words [] h m i = absurd i
sent_have_words (x ∷ hs) h m i = both_all MessageHasWords (sends_of x.blocks) (sent hs) (sends_have_words x.blocks (h x (inl refl)).blocks) (sent_have_words hs (λ y j. h y (inr j))) m i

-- ---- the histories of all chares

below : (k n c : ℕ) → Mem c (from_to k n) → c < k + n
below k zero c m = absurd m
below k (suc n) c (inl e) = omega (arith, e)
below k (suc n) c (inr m) = let l = below (k + 1) n c m in omega (arith, l)

-- what each history of a program is, of whatever chare
one_history : (P : History → Type 0) (p : Program) (limit : ℕ) (ms : List Message) → ((c : ℕ) → c < p.chares → P (history p limit c (mail_to ms c))) → (h : History) → Mem h (histories p limit ms) → P h
one_history P p limit ms each h m =
    let s = map_member (λ c. history p limit c (mail_to ms c)) (chares p) h m in
    let l = below 0 p.chares s.one s.is_in in
    subst P (sym s.holds) (each s.one (omega (arith, l)))

module _ (p : Program) (limit : ℕ) (small : HasSmallNumbers p) where
  chares_small : p.chares < 2 ^ 63
  chares_small = word_of (pos p.chares) (and_parts (is_small p.chares) (small_in_variables p.vars && (small_in_entries p.entries && small_in_body p.body)) small).0

  body_small : small_in_body p.body ≡ true
  body_small =
      let declared = and_parts (is_small p.chares) (small_in_variables p.vars && (small_in_entries p.entries && small_in_body p.body)) small in
      let entries = and_parts (small_in_variables p.vars) (small_in_entries p.entries && small_in_body p.body) declared.1 in
      (and_parts (small_in_entries p.entries) (small_in_body p.body) entries.1).1

  histories_words : (ms : List Message) → AllHaveWords ms → HaveWords (histories p limit ms)
  histories_words ms h = one_history HistoryHasWords p limit ms
      (λ c l. history_words p limit c chares_small (let b = chares_small in omega (arith, l, b)) (mail_to ms c) (mail_has_words ms c h) body_small)

  pub mail_words : (n : ℕ) → AllHaveWords (mail p limit n)
  mail_words zero m i = absurd i
  mail_words (suc n) m i = sent_have_words (histories p limit (mail p limit n)) (histories_words (mail p limit n) (mail_words n)) m i

  pub round_words : (n : ℕ) → HaveWords (round p limit n)
  round_words n = histories_words (mail p limit n) (mail_words n)

pub one_history_words : (p : Program) (limit c : ℕ) (held : Lookup) → HasSmallNumbers p → c < 2 ^ 63 → MailHasWords held → HistoryHasWords (history p limit c held)
one_history_words p limit c held small own h = history_words p limit c (chares_small p limit small) own held h (body_small p limit small)

-- ---- their log

row_words : (all : List History) (c : ℕ) (hs : List History) → HaveWords hs → (P : Row → Type 0) → ((c : ℕ) (x : Block) → BlockHasWords x → P (row_of all c x)) → (r : Row) → Mem r (rows_from all c hs) → P r
row_words all c [] h P each r m = absurd m
row_words all c (x ∷ hs) h P each r m = both_all P (map (row_of all c) x.blocks) (rows_from all (c + 1) hs)
    (λ r i. let s = map_member (row_of all c) x.blocks r i in subst P (sym s.holds) (each c s.one ((h x (inl refl)).blocks s.one s.is_in)))
    (row_words all (c + 1) hs (λ y j. h y (inr j)) P each) r m

wait_words : (c : ℕ) (hs : List History) → HaveWords hs → (w : WaitRow) → Mem w (waits_from c hs) → IsWord w.key.reference
wait_words c [] h w m = absurd m
wait_words c (x ∷ hs) h w m = both_all (λ (w : WaitRow). IsWord w.key.reference) (map (wait_row c) x.waits) (waits_from (c + 1) hs)
    (λ w i. let s = map_member (wait_row c) x.waits w i in subst (λ (w : WaitRow). IsWord w.key.reference) (sym s.holds) ((h x (inl refl)).waited s.one s.is_in))
    (wait_words (c + 1) hs (λ y j. h y (inr j))) w m

row_sends : (all : List History) (c : ℕ) (x : Block) → BlockHasWords x → (s : Sent) → Mem s (row_of all c x).sends → IsWord s.key.reference
unfolding row_of
row_sends all c x h s m = let o = map_member (λ (m : Message). m.sent) x.sends s m in subst (λ (s : Sent). IsWord s.key.reference) (sym o.holds) (h.sent o.one o.is_in).reference

row_emits : (all : List History) (c : ℕ) (x : Block) → BlockHasWords x → AreWords (row_of all c x).emits
unfolding row_of
row_emits all c x h = h.emitted

log_words : (hs : List History) (entries : ℕ) → HaveWords hs → HasWords (log_of hs entries)
unfolding log_of
log_words hs entries h = record {
  sent = row_words hs 0 hs h (λ r. (s : Sent) → Mem s r.sends → IsWord s.key.reference) (row_sends hs);
  emitted = row_words hs 0 hs h (λ r. AreWords r.emits) (row_emits hs);
  waited = wait_words 0 hs h;
}

pub round_log_words : (p : Program) (limit n : ℕ) → HasSmallNumbers p → HasWords (log_of (round p limit n) (length p.entries))
round_log_words p limit n small = log_words (round p limit n) (length p.entries) (round_words p limit small n)

-- ---- what the program declares

declared : (entries : ℕ) (hs : List History) → HaveWords hs → ((h : History) → Mem h hs → AreEntries entries h) → AreDeclared entries hs
declared entries hs words names = record {
  sent = λ m i.
      let h = its_history hs m i in
      let x = its_block (h.one).blocks m h.holds in
      record { entry = (names h.one h.is_in).sent x.one x.is_in m x.holds; reference = (((words h.one h.is_in).blocks x.one x.is_in).sent m x.holds).reference };
  waited = λ h m w i. record { entry = (names h m).waited w i; reference = (words h m).waited w i };
  emitted = λ h m x i. ((words h m).blocks x i).emitted;
}

-- each key that a chare of the program sends, asks or waits for is of one of the entries
abbrev pub NamesEntries : Program → Type 0
NamesEntries p = (limit c : ℕ) (held : Lookup) → AreEntries (length p.entries) (history p limit c held)

pub round_declared : (p : Program) (limit n : ℕ) → HasSmallNumbers p → NamesEntries p → AreDeclared (length p.entries) (round p limit n)
round_declared p limit n small names = declared (length p.entries) (round p limit n) (round_words p limit small n)
    (one_history (AreEntries (length p.entries)) p limit (mail p limit n) (λ c l. names limit c (mail_to (mail p limit n) c)))

-- ---- the log of closed histories

-- an accepted program keeps the limits
pub kept : (p : Program) → refusal p ≡ None → Fitting p
kept p e = fitting p (by_limits (is_within p) (has_twice (declared_names p)) refl refl)
  where
    by_limits : (s t : Bool) → is_within p ≡ s → has_twice (declared_names p) ≡ t → is_within p ≡ true
    by_limits true t i h = i
    by_limits false true i h = let q = sym e ∙ twice_refused p h in absurd (cc)
    by_limits false false i h = let q = sym e ∙ limits_refused p h i in absurd (cc)

-- the log of closed histories is valid, where all in them is declared
abbrev pub LogsAreValid : Type 0
LogsAreValid = (p : Program) (limit : ℕ) (hs : List History) → limit ≤ 262144 → 1 ≤ p.chares → p.chares ≤ 65536 → length p.entries ≤ 1000 → statements_in p.body ≤ 10000
    → AreDeclared (length p.entries) hs → Closed p limit hs → IsValid (log_of hs (length p.entries))

module _ (valid : LogsAreValid) (text : List ℕ) (p : Program) (limit : ℕ) (few : limit ≤ 262144) (spells : Spells text p) (ok : refusal p ≡ None) (names : NamesEntries p) where
  round_valid : (n : ℕ) → Closed p limit (round p limit n) → IsValid (log_of (round p limit n) (length p.entries))
  round_valid n closed =
      let fits = kept p ok in
      valid p limit (round p limit n) few fits.least fits.most fits.entries (few_in_text text p spells) (round_declared p limit n (spelled_small text p spells) names) closed

  pub closed_valid : (hs : List History) → Closed p limit hs → IsValid (log_of hs (length p.entries))
  closed_valid hs closed =
      let c = closed_clean p limit hs closed in
      subst (λ hs. IsValid (log_of hs (length p.entries))) (sym c.2) (round_valid c.0 (clean_closed p limit c.0 c.1))

  verdict_valid : (v : Verdict) (hs : List History) → IsVerdict p limit v → v ≡ clean hs → IsValid (log_of hs (length p.entries))
  verdict_valid _ hs (is_too_long n before l) e = absurd (cc)
  verdict_valid _ hs (is_twice n before l t is) e = absurd (cc)
  verdict_valid _ hs (is_clean n c) e = let same : round p limit n ≡ hs = cc in subst (λ hs. IsValid (log_of hs (length p.entries))) same (round_valid n (clean_closed p limit n c))

  pub clean_valid : (hs : List History) → IsVerdict p limit (clean hs) → IsValid (log_of hs (length p.entries))
  clean_valid hs v = verdict_valid (clean hs) hs v refl
