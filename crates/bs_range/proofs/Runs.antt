-- The numbers of a run have 64 bits, where those in the program's body and the arguments in the mail have.
use Rattle.std.proofs.Common.{◌≡◌, ◌⊎◌, inl, inr, ℕ, zero, suc, ◌+◌, ℤ, pos, negsuc, Bool, true, false, if◌then◌else◌, List, [], ◌∷◌, ◌++◌, Option, Some, None, Result, Ok, Err, refl, sym, subst, subst₂, map, is_some, slice_set}
use Rattle.std.proofs.lemmas.Bool.{and_parts}
use Rattle.bs_tree.specs.declared.tree.Program.{Program}
use Rattle.bs_tree.specs.declared.tree.NameId.{NameId}
use Rattle.bs_tree.specs.declared.tree.Wait.{Wait}
use Rattle.bs_tree.specs.declared.tree.Expr.{Expr}
use Rattle.bs_tree.specs.declared.tree.Act.{Act}
use Rattle.bs_tree.specs.declared.tree.Stmt.{Stmt}
use Rattle.bs_tree.specs.declared.tree.Stmt.TheOpen.{Stmt-F}
use Rattle.bs_tree.specs.declared.tree.Stmt.TheFolds.{fold-roll-Stmt, ind-Stmt, map-Stmt}
use Rattle.bs_log.specs.declared.history.Key.{Key}
use Rattle.bs_log.specs.declared.history.Message.{Message}
use Rattle.bs_log.specs.declared.history.Block.{Block}
use Rattle.bs_log.specs.declared.history.Asked.{Asked}
use Rattle.bs_log.specs.declared.history.WaitAt.{WaitAt}
use Rattle.bs_log.specs.declared.history.TrapAt.{TrapAt}
use Rattle.bs_log.specs.declared.history.TrapKind.{TrapKind}
use Rattle.bs_log.specs.Valid.{IsWord}
use Rattle.bs_log.specs.Lists.{Mem}
use Rattle.bs_log.proofs.ClosedTests.{either}
use Rattle.bs_log.proofs.Order.{map_member}
use Rattle.bs_semantics.specs.Layout.{place_of, entry_of}
use Rattle.bs_semantics.specs.Value.{Cells, Value, value_of}
use Rattle.bs_semantics.specs.Acts.{Parcel, Tally, block_of}
use Rattle.bs_semantics.specs.Run.{Lookup, Run, State, Does, Meant, ends, halts, after, from_end, then_do, with, branch, signed, serial, depth_of, in_turn, mix, both, join, parts, no_part, overlap, set_cell, turns, assign, no_step, key_and, keys_of, held_and, held, missing, take_args, take_mail, all_asked, all_waits, go_on, took, does_step, meant_step, meant, start, history}
use Rattle.bs_check.specs.Known.{all_true}
use Rattle.bs_range.specs.Numbers.{small_in_expression, small_in_acts, small_in_waits, small_in_statement, small_in_body, statement_step}
use Rattle.bs_range.specs.Words.{AreWords, MessageHasWords, BlockHasWords, HistoryHasWords, MailHasWords}
use Rattle.bs_range.proofs.Values.{GivesWord, value_word, one_word, set_words, zeros_words}
use Rattle.bs_range.proofs.Acts.{ParcelHasWords, Good, block_words}

pub both_all : {A : Type 0} (P : A → Type 0) (xs ys : List A) → ((x : A) → Mem x xs → P x) → ((x : A) → Mem x ys → P x) → (x : A) → Mem x (xs ++ ys) → P x
both_all {A} P xs ys h k x m = by_side (either x xs ys m)
  where
    by_side : Mem x xs ⊎ Mem x ys → P x
    by_side (inl m) = h x m
    by_side (inr m) = k x m

signed_words : (this : ℕ) (path : List ℕ) (depth k : ℕ) (ps : List Parcel) → ((x : Parcel) → Mem x ps → ParcelHasWords x) → (m : Message) → Mem m (signed this path depth k ps) → MessageHasWords m
signed_words this path depth k [] h m i = absurd i
signed_words this path depth k (x ∷ ps) h m (inl e) = let w = h x (inl refl) in subst MessageHasWords (sym e) (record { reference = w.reference; args = w.args })
signed_words this path depth k (x ∷ ps) h m (inr i) = signed_words this path depth (k + 1) ps (λ y j. h y (inr j)) m i

mix_words : (writes : ℕ → Bool) (i : ℕ) (xs ys : Cells) → AreWords xs → AreWords ys → AreWords (mix writes i xs ys)
mix_words writes i [] ys h k v m = k v m
mix_words writes i (x ∷ xs) [] h k v m = absurd m
mix_words writes i (x ∷ xs) (y ∷ ys) h k v m = one_word (if writes i then x else y) (mix writes (i + 1) xs ys) (by (writes i)) (mix_words writes (i + 1) xs ys (λ v m. h v (inr m)) (λ v m. k v (inr m))) v m
  where
    by : (b : Bool) → IsWord (if b then x else y)
    by true = h x (inl refl)
    by false = k y (inl refl)

-- ---- runs

-- the cells at the end, if there is one
abbrev EndsWithWords : Option State → Type 0
EndsWithWords o = (s : State) → o ≡ Some s → AreWords s.cells

record HasWords (r : Run) : Type 0 where
  blocks : (x : Block) → Mem x r.blocks → BlockHasWords x
  asked : (a : Asked) → Mem a r.asked → IsWord a.key.reference
  waited : (w : WaitAt) → Mem w r.waits → IsWord w.key.reference
  end : EndsWithWords r.end

abbrev AreKeys : List Key → Type 0
AreKeys ks = (k : Key) → Mem k ks → IsWord k.reference

no_end : EndsWithWords None
no_end s e = absurd (cc)

one_end : (s : State) → AreWords s.cells → EndsWithWords (Some s)
one_end s w t e = let same : s ≡ t = cc in subst (λ (s : State). AreWords s.cells) same w

both_end : (writes : ℕ → Bool) (a b : Option State) → EndsWithWords a → EndsWithWords b → EndsWithWords (both writes a b)
both_end writes None b h k = no_end
both_end writes (Some s) None h k = no_end
both_end writes (Some s) (Some t) h k = one_end _ (mix_words writes 0 t.cells s.cells (k t refl) (h s refl))

halted : (ts : List TrapAt) → HasWords (halts ts)
halted ts = record { blocks = λ x m. absurd m; asked = λ a m. absurd m; waited = λ w m. absurd m; end = no_end }

ended : (s : State) → AreWords s.cells → HasWords (ends s)
ended s w = record { blocks = λ x m. absurd m; asked = λ a m. absurd m; waited = λ w m. absurd m; end = one_end s w }

two_words : (r q : Run) (ts : List TrapAt) (end : Option State) → HasWords r → HasWords q → EndsWithWords end → HasWords (record { blocks = r.blocks ++ q.blocks; asked = r.asked ++ q.asked; traps = ts; waits = r.waits ++ q.waits; end = end })
two_words r q ts end h k e = record {
  blocks = both_all BlockHasWords r.blocks q.blocks h.blocks k.blocks;
  asked = both_all (λ a. IsWord a.key.reference) r.asked q.asked h.asked k.asked;
  waited = both_all (λ w. IsWord w.key.reference) r.waits q.waits h.waited k.waited;
  end = e;
}

-- what goes on from each state whose cells have 64 bits
abbrev FromWords : (State → Run) → Type 0
FromWords f = (s : State) → AreWords s.cells → HasWords (f s)

after_words : (r : Run) (f : State → Run) (o : Option State) → HasWords r → EndsWithWords o → FromWords f → HasWords (after r (from_end o f))
after_words r f None h e i = h
after_words r f (Some s) h e i = let q = i s (e s refl) in two_words r (f s) _ _ h q q.end

then_words : (r : Run) (f : State → Run) → HasWords r → FromWords f → HasWords (then_do r f)
then_words r f h i = after_words r f r.end h h.end i

with_words : {A : Type 0} (n : ℕ) (path : List ℕ) (v : Result A TrapKind) (f : A → Run) → ((x : A) → v ≡ Ok x → HasWords (f x)) → HasWords (with n path v f)
with_words n path (Err k) f h = halted _
with_words n path (Ok v) f h = h v refl

branch_words : (v : ℤ) (f g : State → Run) (s : State) → HasWords (f s) → HasWords (g s) → HasWords (branch v f g s)
branch_words (pos zero) f g s h k = k
branch_words (pos (suc v)) f g s h k = h
branch_words (negsuc v) f g s h k = h

missing_words : (mail : Lookup) (ks : List Key) → AreKeys ks → AreKeys (missing mail ks)
missing_words mail [] h = h
missing_words mail (k ∷ ks) h = by (is_some (mail k)) (missing_words mail ks (λ j m. h j (inr m)))
  where
    by : (b : Bool) → AreKeys (missing mail ks) → AreKeys (if b then missing mail ks else k ∷ missing mail ks)
    by true g j m = g j m
    by false g j (inl e) = h j (inl e)
    by false g j (inr m) = g j m

asked_words : (n : ℕ) (path : List ℕ) (ks : List Key) → AreKeys ks → (a : Asked) → Mem a (all_asked n path ks) → IsWord a.key.reference
asked_words n path ks h a i =
    let s = map_member (λ (k : Key). record { key = k; path = record { 0 = path }; stmt = n }) ks a i in
    subst (λ (a : Asked). IsWord a.key.reference) (sym s.holds) (h s.one s.is_in)

waited_words : (n : ℕ) (path : List ℕ) (ks : List Key) → AreKeys ks → (w : WaitAt) → Mem w (all_waits n path ks) → IsWord w.key.reference
waited_words n path ks h w i =
    let s = map_member (λ (k : Key). record { path = record { 0 = path }; stmt = n; key = k }) ks w i in
    subst (λ (w : WaitAt). IsWord w.key.reference) (sym s.holds) (h s.one s.is_in)

go_on_words : (o : Option (List Message)) (n : ℕ) (path : List ℕ) (mail : Lookup) (ks : List Key) (f : List Message → Run) → AreKeys ks → ((ms : List Message) → o ≡ Some ms → HasWords (f ms)) →
    HasWords (go_on o (all_asked n path ks) (all_waits n path (missing mail ks)) f)
go_on_words None n path mail ks f h i = record { blocks = λ x m. absurd m; asked = asked_words n path ks h; waited = waited_words n path (missing mail ks) (missing_words mail ks h); end = no_end }
go_on_words (Some ms) n path mail ks f h i = let r = i ms refl in record {
  blocks = r.blocks;
  asked = both_all (λ a. IsWord a.key.reference) (all_asked n path ks) (f ms).asked (asked_words n path ks h) r.asked;
  waited = r.waited;
  end = r.end;
}

-- ---- messages that are taken

abbrev AreTaken : List Message → Type 0
AreTaken ms = (m : Message) → Mem m ms → AreWords m.args

args_words : (p : Program) (xs : List NameId) (vs : List ℤ) (cells : Cells) → AreWords vs → AreWords cells → AreWords (take_args p xs vs cells)
args_words p [] vs cells h w = w
args_words p (x ∷ xs) [] cells h w = w
args_words p (x ∷ xs) (v ∷ vs) cells h w = args_words p xs vs (slice_set cells (place_of p x).from v) (λ u m. h u (inr m)) (set_words cells (place_of p x).from v w (h v (inl refl)))

mail_words : (p : Program) (ws : List Wait) (ms : List Message) (cells : Cells) → AreTaken ms → AreWords cells → AreWords (take_mail p ws ms cells)
mail_words p [] ms cells h w = w
mail_words p (x ∷ ws) [] cells h w = w
mail_words p (x ∷ ws) (m ∷ ms) cells h w = mail_words p ws ms (take_args p x.params m.args cells) (λ n i. h n (inr i)) (args_words p x.params m.args cells (h m (inl refl)) w)

held_and_words : (o : Option Message) (q : Option (List Message)) (ms : List Message) → ((m : Message) → o ≡ Some m → AreWords m.args) → ((ns : List Message) → q ≡ Some ns → AreTaken ns) → held_and o q ≡ Some ms → AreTaken ms
held_and_words (Some m) (Some ns) ms h k e = let same : m ∷ ns ≡ ms = cc in subst AreTaken same all
  where
    all : AreTaken (m ∷ ns)
    all n (inl i) = subst (λ (n : Message). AreWords n.args) (sym i) (h m refl)
    all n (inr i) = k ns refl n i
held_and_words (Some m) None ms h k e = absurd (cc)
held_and_words None q ms h k e = absurd (cc)

held_words : (mail : Lookup) → MailHasWords mail → (ks : List Key) (ms : List Message) → held mail ks ≡ Some ms → AreTaken ms
held_words mail w [] ms e = let same : [] ≡ ms = cc in subst AreTaken same (λ m i. absurd i)
held_words mail w (k ∷ ks) ms e = held_and_words (mail k) (held mail ks) ms (λ m q. w k m q) (held_words mail w ks) e

-- ---- lists of statements, parts and loops, under one mail

module _ (mail : Lookup) where
  abbrev WordDoes : Does → Type 0
  WordDoes d = (n : ℕ) (path : List ℕ) → FromWords (d mail n path)

  abbrev AllWords : List Meant → Type 0
  AllWords [] = Unit {0}
  AllWords (d ∷ ds) = WordDoes d.does × AllWords ds

  in_turn_words : (ds : List Meant) (k : ℕ) → AllWords ds → WordDoes (in_turn ds k)
  in_turn_words [] k h n path s w = ended s w
  in_turn_words (d ∷ ds) k h n path s w = then_words (d.does mail n (path ++ k ∷ []) s) _ (h.0 n (path ++ k ∷ []) s w) (λ e. in_turn_words ds (k + 1) h.1 (n + d.count) path e)

  parts_words : (r : Run) (ds : List Meant) (k : ℕ) → HasWords r → AllWords ds → WordDoes (parts r ds k)
  parts_words r [] k g h n path s w = g
  parts_words r (d ∷ ds) k g h n path s w =
      let one = h.0 n (path ++ k ∷ []) s w in
      parts_words (join d.writes r (d.does mail n (path ++ k ∷ []) s)) ds (k + 1) (two_words r (d.does mail n (path ++ k ∷ []) s) _ _ g one (both_end d.writes r.end (d.does mail n (path ++ k ∷ []) s).end g.end one.end)) h.1 (n + d.count) path s w

  overlap_words : (ds : List Meant) → AllWords ds → WordDoes (overlap ds)
  overlap_words [] h n path s w = ended s w
  overlap_words (d ∷ ds) h n path s w = parts_words (no_part s) (d ∷ ds) 0 (ended _ w) h n path s w

  abbrev WordStep : (ℕ → List ℕ → (State → Run) → State → Run) → Type 0
  WordStep step = (n : ℕ) (path : List ℕ) (f : State → Run) → FromWords f → FromWords (step n path f)

  turns_words : (t : ℕ) (test : State → Value) (step : ℕ → List ℕ → (State → Run) → State → Run) (ds : List Meant) (k : ℕ) → WordStep step → AllWords ds → WordDoes (turns t test step ds k)
  turns_words zero test step ds k i h n path s w = with_words n path (test s) _ (λ v e. branch_words v _ _ s (halted _) (ended s w))
  turns_words (suc t) test step ds k i h n path s w = with_words n path (test s) _ (λ v e. branch_words v _ _ s
      (then_words (in_turn ds 0 mail (n + 1) (path ++ k ∷ []) s) _ (in_turn_words ds 0 h (n + 1) (path ++ k ∷ []) s w) (i n path _ (turns_words t test step ds (k + 1) i h n path)))
      (ended s w))

  assign_words : (value : State → Value) (at : ℕ) → ((s : State) → AreWords s.cells → GivesWord (value s)) → WordStep (assign value at)
  assign_words value at g n path f h s w = with_words n path (value s) _ (λ v e. h (set_cell at s v) (set_words s.cells at v w (g s w v e)))

module _ (p : Program) (limit this : ℕ) (chares : IsWord (pos p.chares)) (own : IsWord (pos this)) (mail : Lookup) (holds : MailHasWords mail) where
  -- what an expression is worth in a state
  worth : (e : Expr) → small_in_expression e ≡ true → (s : State) → AreWords s.cells → GivesWord (value_of p this e s.cells)
  worth e h s w = value_word p this chares own e h s.cells w

  key_and_words : (e : ℕ) (v : Value) (rest : Result (List Key) TrapKind) (ks : List Key) → GivesWord v → ((js : List Key) → rest ≡ Ok js → AreKeys js) → key_and e v rest ≡ Ok ks → AreKeys ks
  key_and_words e (Err k) rest ks g h q = absurd (cc)
  key_and_words e (Ok r) (Err k) ks g h q = absurd (cc)
  key_and_words e (Ok r) (Ok js) ks g h q = let same : record { entry = e; reference = r } ∷ js ≡ ks = cc in subst AreKeys same one_more
    where
      one_more : AreKeys (record { entry = e; reference = r } ∷ js)
      one_more k (inl i) = subst (λ (k : Key). IsWord k.reference) (sym i) (g r refl)
      one_more k (inr m) = h js refl k m

  keys_words : (ws : List Wait) (s : State) (ks : List Key) → small_in_waits ws ≡ true → AreWords s.cells → keys_of p this ws s.cells ≡ Ok ks → AreKeys ks
  keys_words [] s ks h w e = let same : [] ≡ ks = cc in subst AreKeys same (λ k m. absurd m)
  keys_words (x ∷ ws) s ks h w e =
      let both = and_parts _ _ h in
      key_and_words (entry_of p x.entry) (value_of p this x.reference s.cells) (keys_of p this ws s.cells) ks (worth x.reference both.0 s w) (λ js i. keys_words ws s js both.1 w i) e

  serial_words : (n : ℕ) (path : List ℕ) (s : State) (acts : List Act) (d : Result Tally TrapKind) → small_in_acts acts ≡ true → AreWords s.cells → block_of p this acts s.cells ≡ d → HasWords (serial this n path s d)
  serial_words n path s acts (Err k) h w e = halted _
  serial_words n path s acts (Ok t) h w e = record { blocks = one; asked = λ a j. absurd j; waited = λ w j. absurd j; end = one_end _ good.cells }
    where
      good : Good t
      good = block_words p this chares own acts s.cells t h w e

      one : (x : Block) → Mem x (serial this n path s (Ok t)).blocks → BlockHasWords x
      one x (inl i) = subst BlockHasWords (sym i) (record { emitted = good.emits; sent = signed_words this path (suc (depth_of s.causes)) 1 t.sends good.sends })
      one x (inr i) = absurd i

  abbrev Fine : Stmt → Type 0
  Fine s = small_in_statement s ≡ true → WordDoes mail (meant p limit this s).does

  abbrev Those : Type 0
  Those = List ((s : Stmt) × Fine s)

  abbrev small_in : Those → Bool
  small_in es = all_true (map small_in_statement (map (λ e. e.0) es))

  all_words : (es : Those) → small_in es ≡ true → AllWords mail (map (meant p limit this) (map (λ e. e.0) es))
  all_words [] h = tt
  all_words (e ∷ es) h = let both = and_parts _ _ h in (e.1 both.0, all_words es both.1)

  step_words : (y : Stmt-F ((s : Stmt) × Fine s)) → statement_step (map-Stmt Stmt Bool small_in_statement (map-Stmt _ Stmt (λ e. e.0) y)) ≡ true → WordDoes mail (does_step p limit this (map-Stmt Stmt Meant (meant p limit this) (map-Stmt _ Stmt (λ e. e.0) y)))
  step_words (Stmt-F.Serial acts) h n path s w = serial_words n path s acts (block_of p this acts s.cells) h w refl
  step_words (Stmt-F.When waits body) h n path s w =
      let both = and_parts _ _ h in
      with_words n path (keys_of p this waits s.cells) _ (λ ks e. go_on_words (held mail ks) n path mail ks _ (keys_words waits s ks both.0 w e)
      (λ ms i. in_turn_words mail _ 0 (all_words body both.1) (n + 1) path (took p waits s ms) (mail_words p waits ms s.cells (held_words mail holds ks ms i) w)))
  step_words (Stmt-F.Overlap body) h n path s w = overlap_words mail _ (all_words body h) (n + 1) path s w
  step_words (Stmt-F.For x first test y step body) h n path s w =
      let both = and_parts _ _ h in
      let head = and_parts _ _ both.0 in
      let rest = and_parts _ _ head.1 in
      assign_words mail (λ s. value_of p this first s.cells) (place_of p x).from (worth first head.0) n path _
      (turns_words mail (suc limit) (λ s. value_of p this test s.cells) (assign (λ s. value_of p this step s.cells) (place_of p y).from) _ 0
      (assign_words mail (λ s. value_of p this step s.cells) (place_of p y).from (worth step rest.1)) (all_words body both.1) n path) s w
  step_words (Stmt-F.While test body) h n path s w =
      turns_words mail (suc limit) (λ s. value_of p this test s.cells) no_step _ 0 (λ n path f g s w. g s w) (all_words body (and_parts _ _ h).1) n path s w
  step_words (Stmt-F.If test body None) h n path s w =
      let both = and_parts _ _ h in
      let inner = and_parts _ _ both.1 in
      with_words n path (value_of p this test s.cells) _ (λ v e. branch_words v _ _ s (in_turn_words mail _ 0 (all_words body inner.0) (n + 1) (path ++ 0 ∷ []) s w) (ended s w))
  step_words (Stmt-F.If test body (Some other)) h n path s w =
      let both = and_parts _ _ h in
      let inner = and_parts _ _ both.1 in
      with_words n path (value_of p this test s.cells) _ (λ v e. branch_words v _ _ s (in_turn_words mail _ 0 (all_words body inner.0) (n + 1) (path ++ 0 ∷ []) s w)
      (in_turn_words mail _ 0 (all_words other inner.1) _ (path ++ 1 ∷ []) s w))
  step_words (Stmt-F.Seq body) h n path s w = in_turn_words mail _ 0 (all_words body h) (n + 1) path s w

  -- its numbers are small, and what it does
  abbrev WordsSo : Bool → Meant → Type 0
  WordsSo b d = b ≡ true → WordDoes mail d.does

  statement_words : (s : Stmt) → Fine s
  statement_words = ind-Stmt Fine (λ x y is.
      subst₂ WordsSo (sym (fold-roll-Stmt Bool statement_step x)) (sym (fold-roll-Stmt Meant (meant_step p limit this) x))
      (subst (λ z. WordsSo (statement_step (map-Stmt Stmt Bool small_in_statement z)) (meant_step p limit this (map-Stmt Stmt Meant (meant p limit this) z))) is (step_words y)))

  body_words : (ss : List Stmt) → small_in_body ss ≡ true → AllWords mail (map (meant p limit this) ss)
  body_words [] h = tt
  body_words (s ∷ ss) h = let both = and_parts _ _ h in (statement_words s both.0, body_words ss both.1)

  pub history_words : small_in_body p.body ≡ true → HistoryHasWords (history p limit this mail)
  history_words h =
      let r = in_turn_words mail (map (meant p limit this) p.body) 0 (body_words p.body h) 1 [] (start p) (zeros_words _) in
      record { blocks = r.blocks; asked = r.asked; waited = r.waited }
