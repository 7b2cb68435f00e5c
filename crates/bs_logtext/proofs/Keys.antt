-- Each key that a run of an accepted program sends, asks or waits for is of one of the program's entries.
use Rattle.std.proofs.Common.{◌≡◌, ◌<◌, ◌⊎◌, inl, inr, ℕ, zero, suc, ◌+◌, Bool, true, false, if◌then◌else◌, List, [], ◌∷◌, ◌++◌, Option, Some, None, Result, Ok, Err, refl, sym, subst, subst₂, map, length, ℤ, pos, negsuc, is_some}
use Rattle.std.proofs.lemmas.Bool.{and_parts}
use Rattle.bs_tree.specs.declared.tree.Program.{Program}
use Rattle.bs_tree.specs.declared.tree.Wait.{Wait}
use Rattle.bs_tree.specs.declared.tree.Act.{Act}
use Rattle.bs_tree.specs.declared.tree.Stmt.{Stmt}
use Rattle.bs_tree.specs.declared.tree.Stmt.TheOpen.{Stmt-F}
use Rattle.bs_tree.specs.declared.tree.Stmt.TheFolds.{fold-roll-Stmt, ind-Stmt, map-Stmt}
use Rattle.bs_log.specs.declared.history.Key.{Key}
use Rattle.bs_log.specs.declared.history.Sent.{Sent}
use Rattle.bs_log.specs.declared.history.Message.{Message}
use Rattle.bs_log.specs.declared.history.Block.{Block}
use Rattle.bs_log.specs.declared.history.Asked.{Asked}
use Rattle.bs_log.specs.declared.history.WaitAt.{WaitAt}
use Rattle.bs_log.specs.declared.history.TrapAt.{TrapAt}
use Rattle.bs_log.specs.declared.history.TrapKind.{TrapKind}
use Rattle.bs_log.specs.Lists.{Mem}
use Rattle.bs_log.proofs.ClosedTests.{either}
use Rattle.bs_log.proofs.Order.{map_member}
use Rattle.bs_semantics.specs.Layout.{place_of, entry_of}
use Rattle.bs_semantics.specs.Value.{Value, value_of}
use Rattle.bs_semantics.specs.Acts.{Parcel, Tally, block_of}
use Rattle.bs_semantics.specs.Run.{Lookup, Run, State, Does, Meant, after, from_end, with, branch, signed, serial, depth_of, in_turn, join, parts, no_part, overlap, set_cell, turns, assign, no_step, keys_of, key_and, held, missing, all_asked, all_waits, go_on, took, does_step, meant_step, meant, start, history}
use Rattle.bs_check.specs.Fits.{are_waits_fit, fit_step, is_fit, are_fit}
use Rattle.bs_check.specs.Known.{all_true, are_known}
use Rattle.bs_check.specs.Refusal.{refusal}
use Rattle.bs_check.proofs.Fitness.{all_fit}
use Rattle.bs_logtext.specs.Declared.{AreEntries}
use Rattle.bs_logtext.proofs.Entries.{entry_within, block_sends}

both_all : {A : Type 0} (P : A → Type 0) (xs ys : List A) → ((x : A) → Mem x xs → P x) → ((x : A) → Mem x ys → P x) → (x : A) → Mem x (xs ++ ys) → P x
both_all {A} P xs ys h k x m = by_side (either x xs ys m)
  where
    by_side : Mem x xs ⊎ Mem x ys → P x
    by_side (inl m) = h x m
    by_side (inr m) = k x m

signed_all : (P : Sent → Type 0) (this : ℕ) (path : List ℕ) (depth k : ℕ) (ps : List Parcel) → ((x : Parcel) → Mem x ps → P x.sent) → (m : Message) → Mem m (signed this path depth k ps) → P m.sent
signed_all P this path depth k [] h m i = absurd i
signed_all P this path depth k (x ∷ ps) h m (inl e) = subst (λ (m : Message). P m.sent) (sym e) (h x (inl refl))
signed_all P this path depth k (x ∷ ps) h m (inr i) = signed_all P this path depth (k + 1) ps (λ y j. h y (inr j)) m i

module _ (n : ℕ) where
  abbrev SendsWell : Block → Type 0
  SendsWell x = (m : Message) → Mem m x.sends → m.sent.key.entry < n

  abbrev pub AreKeys : List Key → Type 0
  AreKeys ks = (k : Key) → Mem k ks → k.entry < n

  pub record Named (r : Run) : Type 0 where
    pub sent : (x : Block) → Mem x r.blocks → SendsWell x
    pub asked : (a : Asked) → Mem a r.asked → a.key.entry < n
    pub waited : (w : WaitAt) → Mem w r.waits → w.key.entry < n

  -- no block and no key
  nothing : (ts : List TrapAt) (end : Option State) → Named (record { blocks = []; asked = []; traps = ts; waits = []; end = end })
  nothing ts end = record { sent = λ x m. absurd m; asked = λ a m. absurd m; waited = λ w m. absurd m }

  two_named : (r q : Run) (ts : List TrapAt) (end : Option State) → Named r → Named q → Named (record { blocks = r.blocks ++ q.blocks; asked = r.asked ++ q.asked; traps = ts; waits = r.waits ++ q.waits; end = end })
  two_named r q ts end h k = record {
    sent = both_all SendsWell r.blocks q.blocks h.sent k.sent;
    asked = both_all (λ a. a.key.entry < n) r.asked q.asked h.asked k.asked;
    waited = both_all (λ w. w.key.entry < n) r.waits q.waits h.waited k.waited;
  }

  after_named : (r : Run) (f : State → Run) (o : Option State) → Named r → ((s : State) → Named (f s)) → Named (after r (from_end o f))
  after_named r f None h i = h
  after_named r f (Some s) h i = two_named r (f s) _ _ h (i s)

  with_named : {A : Type 0} (m : ℕ) (path : List ℕ) (v : Result A TrapKind) (f : A → Run) → ((x : A) → v ≡ Ok x → Named (f x)) → Named (with m path v f)
  with_named m path (Err k) f h = nothing _ None
  with_named m path (Ok v) f h = h v refl

  branch_named : (v : ℤ) (f g : State → Run) (s : State) → Named (f s) → Named (g s) → Named (branch v f g s)
  branch_named (pos zero) f g s h k = k
  branch_named (pos (suc v)) f g s h k = h
  branch_named (negsuc v) f g s h k = h

  missing_keys : (mail : Lookup) (ks : List Key) → AreKeys ks → AreKeys (missing mail ks)
  missing_keys mail [] h = h
  missing_keys mail (k ∷ ks) h = by (is_some (mail k)) (missing_keys mail ks (λ j m. h j (inr m)))
    where
      by : (b : Bool) → AreKeys (missing mail ks) → AreKeys (if b then missing mail ks else k ∷ missing mail ks)
      by true g j m = g j m
      by false g j (inl e) = h j (inl e)
      by false g j (inr m) = g j m

  asked_keys : (m : ℕ) (path : List ℕ) (ks : List Key) → AreKeys ks → (a : Asked) → Mem a (all_asked m path ks) → a.key.entry < n
  asked_keys m path ks h a i =
      let s = map_member (λ (k : Key). record { key = k; path = record { 0 = path }; stmt = m }) ks a i in
      subst (λ (a : Asked). a.key.entry < n) (sym s.holds) (h s.one s.is_in)

  waited_keys : (m : ℕ) (path : List ℕ) (ks : List Key) → AreKeys ks → (w : WaitAt) → Mem w (all_waits m path ks) → w.key.entry < n
  waited_keys m path ks h w i =
      let s = map_member (λ (k : Key). record { path = record { 0 = path }; stmt = m; key = k }) ks w i in
      subst (λ (w : WaitAt). w.key.entry < n) (sym s.holds) (h s.one s.is_in)

  go_on_named : (o : Option (List Message)) (m : ℕ) (path : List ℕ) (mail : Lookup) (ks : List Key) (f : List Message → Run) → AreKeys ks → ((ms : List Message) → Named (f ms)) →
      Named (go_on o (all_asked m path ks) (all_waits m path (missing mail ks)) f)
  go_on_named None m path mail ks f h i = record { sent = λ x j. absurd j; asked = asked_keys m path ks h; waited = waited_keys m path (missing mail ks) (missing_keys mail ks h) }
  go_on_named (Some ms) m path mail ks f h i = record {
    sent = (i ms).sent;
    asked = both_all (λ a. a.key.entry < n) (all_asked m path ks) (f ms).asked (asked_keys m path ks h) (i ms).asked;
    waited = (i ms).waited;
  }

  abbrev NamedDoes : Does → Type 0
  NamedDoes d = (mail : Lookup) (m : ℕ) (path : List ℕ) (s : State) → Named (d mail m path s)

  abbrev AllNamed : List Meant → Type 0
  AllNamed [] = Unit {0}
  AllNamed (d ∷ ds) = NamedDoes d.does × AllNamed ds

  in_turn_named : (ds : List Meant) (k : ℕ) → AllNamed ds → NamedDoes (in_turn ds k)
  in_turn_named [] k h mail m path s = nothing _ _
  in_turn_named (d ∷ ds) k h mail m path s = after_named (d.does mail m (path ++ k ∷ []) s) _ _ (h.0 mail m (path ++ k ∷ []) s) (λ e. in_turn_named ds (k + 1) h.1 mail (m + d.count) path e)

  parts_named : (r : Run) (ds : List Meant) (k : ℕ) → Named r → AllNamed ds → NamedDoes (parts r ds k)
  parts_named r [] k g h mail m path s = g
  parts_named r (d ∷ ds) k g h mail m path s = parts_named (join d.writes r (d.does mail m (path ++ k ∷ []) s)) ds (k + 1) (two_named r (d.does mail m (path ++ k ∷ []) s) _ _ g (h.0 mail m (path ++ k ∷ []) s)) h.1 mail (m + d.count) path s

  overlap_named : (ds : List Meant) → AllNamed ds → NamedDoes (overlap ds)
  overlap_named [] h mail m path s = nothing _ _
  overlap_named (d ∷ ds) h mail m path s = parts_named (no_part s) (d ∷ ds) 0 (nothing _ _) h mail m path s

  abbrev NamedStep : (ℕ → List ℕ → (State → Run) → State → Run) → Type 0
  NamedStep step = (m : ℕ) (path : List ℕ) (f : State → Run) → ((s : State) → Named (f s)) → (s : State) → Named (step m path f s)

  turns_named : (t : ℕ) (test : State → Value) (step : ℕ → List ℕ → (State → Run) → State → Run) (ds : List Meant) (k : ℕ) → NamedStep step → AllNamed ds → NamedDoes (turns t test step ds k)
  turns_named zero test step ds k i h mail m path s = with_named m path (test s) _ (λ v e. branch_named v _ _ s (nothing _ _) (nothing _ _))
  turns_named (suc t) test step ds k i h mail m path s = with_named m path (test s) _ (λ v e. branch_named v _ _ s
      (after_named (in_turn ds 0 mail (m + 1) (path ++ k ∷ []) s) _ _ (in_turn_named ds 0 h mail (m + 1) (path ++ k ∷ []) s) (i m path _ (turns_named t test step ds (k + 1) i h mail m path)))
      (nothing _ _))

  assign_named : (value : State → Value) (at : ℕ) → NamedStep (assign value at)
  assign_named value at m path f h s = with_named m path (value s) _ (λ v e. h (set_cell at s v))

module _ (p : Program) (limit this : ℕ) where
  abbrev entries : ℕ
  entries = length p.entries

  key_and_keys : (e : ℕ) (v : Value) (rest : Result (List Key) TrapKind) (ks : List Key) → e < entries → ((js : List Key) → rest ≡ Ok js → AreKeys entries js) → key_and e v rest ≡ Ok ks → AreKeys entries ks
  key_and_keys e (Err k) rest ks l h q = absurd (cc)
  key_and_keys e (Ok r) (Err k) ks l h q = absurd (cc)
  key_and_keys e (Ok r) (Ok js) ks l h q = let same : record { entry = e; reference = r } ∷ js ≡ ks = cc in subst (AreKeys entries) same one_more
    where
      one_more : AreKeys entries (record { entry = e; reference = r } ∷ js)
      one_more k (inl i) = subst (λ (k : Key). k.entry < entries) (sym i) l
      one_more k (inr m) = h js refl k m

  keys_named : (ws : List Wait) (cells : _) (ks : List Key) → are_waits_fit p ws ≡ true → keys_of p this ws cells ≡ Ok ks → AreKeys entries ks
  keys_named [] cells ks h e = let same : [] ≡ ks = cc in subst (AreKeys entries) same (λ k m. absurd m)
  keys_named (w ∷ ws) cells ks h e =
      let both = and_parts _ _ h in
      let two = and_parts _ _ both.0 in
      let one = and_parts _ _ two.0 in
      key_and_keys (entry_of p w.entry) (value_of p this w.reference cells) (keys_of p this ws cells) ks (entry_within p w.entry one.0) (λ js i. keys_named ws cells js both.1 i) e

  serial_named : (m : ℕ) (path : List ℕ) (s : State) (acts : List Act) (d : Result Tally TrapKind) → are_known p acts ≡ true → block_of p this acts s.cells ≡ d → Named entries (serial this m path s d)
  serial_named m path s acts (Err k) h e = nothing entries _ _
  serial_named m path s acts (Ok t) h e = record { sent = one; asked = λ a j. absurd j; waited = λ w j. absurd j }
    where
      one : (x : Block) → Mem x (serial this m path s (Ok t)).blocks → SendsWell entries x
      one x (inl i) = subst (SendsWell entries) (sym i) (signed_all (λ z. z.key.entry < entries) this path (suc (depth_of s.causes)) 1 t.sends (block_sends p this acts s.cells t h e))
      one x (inr i) = absurd i

  abbrev Fine : Stmt → Type 0
  Fine s = is_fit p s ≡ true → NamedDoes entries (meant p limit this s).does

  abbrev Those : Type 0
  Those = List ((s : Stmt) × Fine s)

  abbrev fit_in : Those → Bool
  fit_in es = all_true (map (is_fit p) (map (λ e. e.0) es))

  all_named : (es : Those) → fit_in es ≡ true → AllNamed entries (map (meant p limit this) (map (λ e. e.0) es))
  all_named [] h = tt
  all_named (e ∷ es) h = let both = and_parts _ _ h in (e.1 both.0, all_named es both.1)

  step_named : (y : Stmt-F ((s : Stmt) × Fine s)) → fit_step p (map-Stmt Stmt Bool (is_fit p) (map-Stmt _ Stmt (λ e. e.0) y)) ≡ true → NamedDoes entries (does_step p limit this (map-Stmt Stmt Meant (meant p limit this) (map-Stmt _ Stmt (λ e. e.0) y)))
  step_named (Stmt-F.Serial acts) h mail m path s = serial_named m path s acts (block_of p this acts s.cells) (and_parts _ _ h).0 refl
  step_named (Stmt-F.When waits body) h mail m path s =
      let both = and_parts _ _ h in
      with_named entries m path (keys_of p this waits s.cells) _ (λ ks e. go_on_named entries (held mail ks) m path mail ks _ (keys_named waits s.cells ks both.0 e)
      (λ ms. in_turn_named entries _ 0 (all_named body both.1) mail (m + 1) path (took p waits s ms)))
  step_named (Stmt-F.Overlap body) h mail m path s = overlap_named entries _ (all_named body h) mail (m + 1) path s
  step_named (Stmt-F.For x first test y step body) h mail m path s =
      let both = and_parts _ _ h in
      assign_named entries (λ s. value_of p this first s.cells) (place_of p x).from m path _
      (turns_named entries (suc limit) (λ s. value_of p this test s.cells) (assign (λ s. value_of p this step s.cells) (place_of p y).from) _ 0
      (assign_named entries (λ s. value_of p this step s.cells) (place_of p y).from) (all_named body both.1) mail m path) s
  step_named (Stmt-F.While test body) h mail m path s =
      turns_named entries (suc limit) (λ s. value_of p this test s.cells) no_step _ 0 (λ m path f g s. g s) (all_named body (and_parts _ _ h).1) mail m path s
  step_named (Stmt-F.If test body None) h mail m path s =
      let two = and_parts _ _ h in
      let one = and_parts _ _ two.0 in
      with_named entries m path (value_of p this test s.cells) _ (λ v e. branch_named entries v _ _ s (in_turn_named entries _ 0 (all_named body one.1) mail (m + 1) (path ++ 0 ∷ []) s) (nothing entries _ _))
  step_named (Stmt-F.If test body (Some other)) h mail m path s =
      let two = and_parts _ _ h in
      let one = and_parts _ _ two.0 in
      with_named entries m path (value_of p this test s.cells) _ (λ v e. branch_named entries v _ _ s (in_turn_named entries _ 0 (all_named body one.1) mail (m + 1) (path ++ 0 ∷ []) s)
      (in_turn_named entries _ 0 (all_named other two.1) mail _ (path ++ 1 ∷ []) s))
  step_named (Stmt-F.Seq body) h mail m path s = in_turn_named entries _ 0 (all_named body h) mail (m + 1) path s

  -- fits, and what it does
  abbrev NamedSo : Bool → Meant → Type 0
  NamedSo b d = b ≡ true → NamedDoes entries d.does

  statement_named : (s : Stmt) → Fine s
  statement_named = ind-Stmt Fine (λ x y is.
      subst₂ NamedSo (sym (fold-roll-Stmt Bool (fit_step p) x)) (sym (fold-roll-Stmt Meant (meant_step p limit this) x))
      (subst (λ z. NamedSo (fit_step p (map-Stmt Stmt Bool (is_fit p) z)) (meant_step p limit this (map-Stmt Stmt Meant (meant p limit this) z))) is (step_named y)))

  body_named : (ss : List Stmt) → are_fit p ss ≡ true → AllNamed entries (map (meant p limit this) ss)
  body_named [] h = tt
  body_named (s ∷ ss) h = let both = and_parts _ _ h in (statement_named s both.0, body_named ss both.1)

pub entries_named : (p : Program) (limit c : ℕ) (mail : Lookup) → refusal p ≡ None → AreEntries (length p.entries) (history p limit c mail)
entries_named p limit c mail h =
    let r = in_turn_named (length p.entries) (map (meant p limit c) p.body) 0 (body_named p limit c p.body (all_fit p h)) mail 1 [] (start p) in
    record { sent = r.sent; asked = r.asked; waited = r.waited }
