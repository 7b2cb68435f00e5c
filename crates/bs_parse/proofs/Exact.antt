-- Reading a program is exact: what is read is what is spelled, and the refused token is the first that has a fault.
use Rattle.std.proofs.Common.{◌≡◌, ℕ, suc, pred, ◌+◌, ◌-◌, ◌≤◌, ◌<◌, List, [], ◌∷◌, ◌++◌, length, None, refl, sym, ap, subst, ◌∙◌, arith, length-append}
use Rattle.std.proofs.lemmas.Bool.{lt-leb}
use Rattle.bs_tree.specs.Rule.{Terminal, Role, opening, outside, operand, operator, Item, terminals, Spells}
use Rattle.bs_tree.specs.Grammar.{program, Parts, Inner}
use Rattle.bs_tree.specs.Limits.{Counts, after, after_all, opens, closes, operators_after, statements_after, refused, refused_role, Within, most_allowed, none_yet, Reason, unexpected}
use Rattle.bs_tree.specs.Fault.{IsProgram, BeginsProgram, Same, Cause, stray, passes, IsFirstFault}
use Rattle.bs_parse.specs.Reading.{Outcome, got, bad, read, reading}
use Rattle.bs_parse.proofs.Basics.{Test, test, holds, fails, append_none, got_rest, got_bad}
use Rattle.bs_parse.proofs.Foresight.{all_fine, program_fine}
use Rattle.bs_parse.proofs.Complete.{complete}
use Rattle.bs_parse.proofs.Sound.{Came, sound}
use Rattle.bs_parse.proofs.Viable.{Begins, Stopped, stops, Why, stray as stray_why, passes as passes_why}
use Rattle.bs_parse.proofs.Local.{Higher, Local, local}

abbrev pub whole : Counts → List Terminal → Outcome Parts
whole most ts = read most (reading most most.brackets) program none_yet ts

-- what is read is spelled, with no limit passed
pub found : (ts : List Terminal) (p : Parts) (end : Counts) (rest : List Terminal) → whole most_allowed ts ≡ got p end rest → Came most_allowed (Spells (Inner 64) program) none_yet ts p end rest
found ts p end rest h = sound most_allowed 64 program none_yet ts p end rest h

-- what is spelled is read, if no limit is passed
pub spelled_is_read : (most : Counts) (d : ℕ) (items : List Item) (p : Parts) → Spells (Inner d) program items p → Within most none_yet items → whole most (terminals items) ≡ got p (after_all none_yet items) []
spelled_is_read most d items p s w =
    subst (λ ts. whole most ts ≡ got p (after_all none_yet items) []) (append_none (terminals items)) (complete most all_fine most.brackets d program program_fine items p none_yet [] s w (omega arith) refl)

-- where reading stops, the tokens before go on to a program, and so does a token that passes a limit
pub stopped : (ts : List Terminal) (reason : Reason) (rest : List Terminal) → whole most_allowed ts ≡ bad reason rest → Stopped most_allowed (Begins program) none_yet ts reason rest
stopped ts reason rest h = stops most_allowed all_fine 64 program program_fine none_yet ts reason rest h (omega arith)

-- ---- limits that some items don't reach

room_role : (big counts : Counts) (role : Role) → counts.operators < big.operators → counts.statements < big.statements → refused_role big counts role ≡ None
room_role big counts opening o s = rw (lt-leb big.statements counts.statements s) refl
room_role big counts outside o s = refl
room_role big counts operand o s = refl
room_role big counts operator o s = rw (lt-leb big.operators counts.operators o) refl

room_one : (big counts : Counts) (item : Item) → counts.brackets < big.brackets → counts.operators < big.operators → counts.statements < big.statements → refused big counts item ≡ None
room_one big counts item b o s = by (test (opens item.1))
  where
    by : Test (opens item.1) → refused big counts item ≡ None
    by (holds e) = rw (e, lt-leb big.brackets counts.brackets b) (room_role big counts item.0 o s)
    by (fails e) = rw e (room_role big counts item.0 o s)

brackets_rise : (counts : Counts) (item : Item) → (after counts item).brackets ≤ suc counts.brackets
brackets_rise counts item = by (test (opens item.1)) (test (closes item.1))
  where
    by : Test (opens item.1) → Test (closes item.1) → (after counts item).brackets ≤ suc counts.brackets
    by (holds e) f = let is : (after counts item).brackets ≡ suc counts.brackets = rw e refl in omega (arith, is)
    by (fails e) (holds f) = let is : (after counts item).brackets ≡ pred counts.brackets = rw (e, f) refl in omega (arith, is)
    by (fails e) (fails f) = let is : (after counts item).brackets ≡ counts.brackets = rw (e, f) refl in omega (arith, is)

operators_rise : (n : ℕ) (role : Role) → operators_after n role ≤ suc n
operators_rise n opening = omega arith
operators_rise n outside = omega arith
operators_rise n operand = omega arith
operators_rise n operator = omega arith

statements_rise : (n : ℕ) (role : Role) → statements_after n role ≤ suc n
statements_rise n opening = omega arith
statements_rise n outside = omega arith
statements_rise n operand = omega arith
statements_rise n operator = omega arith

roomy : (big counts : Counts) (items : List Item) → counts.brackets + length items ≤ big.brackets → counts.operators + length items ≤ big.operators → counts.statements + length items ≤ big.statements → Within big counts items
roomy big counts [] b o s = tt
roomy big counts (item ∷ items) b o s =
    let rb = brackets_rise counts item in
    let ro = operators_rise counts.operators item.0 in
    let rs = statements_rise counts.statements item.0 in
    (room_one big counts item (omega arith) (omega arith) (omega arith), roomy big (after counts item) items (omega (arith, rb)) (omega (arith, ro)) (omega (arith, rs)))

abbrev room : List Item → Counts
room items = record { brackets = 64 + length items; operators = 64 + length items; statements = 10000 + length items }

room_higher : (items : List Item) → Higher most_allowed (room items)
room_higher items = record { brackets = omega arith; operators = omega arith; statements = omega arith }

room_enough : (items : List Item) → Within (room items) none_yet items
room_enough items = roomy (room items) none_yet items (omega arith) (omega arith) (omega arith)

-- ---- no program goes on

cancel : {A : Type 0} (xs ys zs : List A) → xs ++ zs ≡ ys ++ zs → xs ≡ ys
cancel [] [] zs h = refl
cancel [] (y ∷ ys) zs h = absurd (omega (arith, ap length h, length-append ys zs))
cancel (x ∷ xs) [] zs h = absurd (omega (arith, ap length h, length-append xs zs))
cancel (x ∷ xs) (y ∷ ys) zs h =
    let first : x ≡ y = cc in
    let more : xs ++ zs ≡ ys ++ zs = cc in
    let same : xs ≡ ys = cancel xs ys zs more in
    cc

at_room : (items : List Item) → Local (room items) (room items).brackets (λ counts ts. read most_allowed (reading most_allowed 64) program counts ts) (λ counts ts. read (room items) (reading (room items) (room items).brackets) program counts ts)
at_room items = local most_allowed (room items) (room_higher items) all_fine 64 (room items).brackets program program_fine

-- no program begins with the tokens up to an unexpected one; where it is the end, none is the text
pub none_goes_on : (used rest : List Terminal) → whole most_allowed (used ++ rest) ≡ bad unexpected rest → (next : List Terminal) → Same rest next → (d : ℕ) (items : List Item) (p : Parts) → Spells (Inner d) program items p → terminals items ≡ used ++ next → ⊥
none_goes_on used rest h next same d items p s is =
    let x = (at_room items).fails none_yet (used ++ rest) rest h (omega arith) in
    let one : whole (room items) (x.used ++ next) ≡ bad unexpected next = x.again next same in
    let same_used : x.used ≡ used = cancel x.used used rest (sym x.is) in
    let two : whole (room items) (terminals items) ≡ got p (after_all none_yet items) [] = spelled_is_read (room items) d items p s (room_enough items) in
    got_bad (sym two ∙ ap (whole (room items)) (is ∙ ap (λ us. us ++ next) (sym same_used)) ∙ one)

-- no program begins with a program and the token behind it
pub none_behind : (used : List Terminal) (t : Terminal) (rest : List Terminal) (p : Parts) (end : Counts) → whole most_allowed (used ++ t ∷ rest) ≡ got p end (t ∷ rest) → (next : List Terminal) (d : ℕ) (items : List Item) (q : Parts) → Spells (Inner d) program items q → terminals items ≡ used ++ t ∷ next → ⊥
none_behind used t rest p end h next d items q s is =
    let x = (at_room items).keeps none_yet (used ++ t ∷ rest) p end (t ∷ rest) h (omega arith) in
    let one : whole (room items) (x.used ++ t ∷ next) ≡ got p end (t ∷ next) = x.again (t ∷ next) (next, refl) in
    let same_used : x.used ≡ used = cancel x.used used (t ∷ rest) (sym x.is) in
    let two : whole (room items) (terminals items) ≡ got q (after_all none_yet items) [] = spelled_is_read (room items) d items q s (room_enough items) in
    let ends : [] ≡ t ∷ next = got_rest (sym two ∙ ap (whole (room items)) (is ∙ ap (λ us. us ++ t ∷ next) (sym same_used)) ∙ one) in
    absurd (cc)

-- ---- what reading a whole program comes to

terminals_length : (items : List Item) → length (terminals items) ≡ length items
terminals_length [] = refl
terminals_length (item ∷ items) = ap suc (terminals_length items)

placed : (ts rest : List Terminal) (before : List Item) → ts ≡ terminals before ++ rest → length ts - length rest ≡ length before
placed ts rest before is = omega (arith, ap length is, length-append (terminals before) rest, terminals_length before)

pub is_program : (ts : List Terminal) (p : Parts) (end : Counts) → whole most_allowed ts ≡ got p end [] → IsProgram ts p
is_program ts p end h =
    let x = found ts p end [] h in
    record { items = x.used; is = sym (x.is ∙ append_none (terminals x.used)); depth = 64; spells = x.spells; allows = x.allows }

begins : (items : List Item) → Begins program items → BeginsProgram items
begins items v = record { more = v.more; depth = v.depth; parts = v.value; spells = v.spells }

cause_of : (ts : List Terminal) (used extra : List Item) (rest : List Terminal) (reason : Reason) → whole most_allowed ts ≡ bad reason rest → ts ≡ terminals used ++ rest → Why most_allowed (after_all none_yet used) reason rest extra → Begins program (used ++ extra) → Cause used rest reason
cause_of ts used _ _ _ h is (stray_why rest) v =
    stray (begins used (subst (λ xs. Begins program xs) (append_none used) v)) (none_goes_on (terminals used) rest (subst (λ us. whole most_allowed us ≡ bad unexpected rest) is h))
cause_of ts used _ _ _ h is (passes_why role t others reason why) v = passes role t others refl why (begins (used ++ (role, t) ∷ []) v)

pub is_fault : (ts : List Terminal) (reason : Reason) (rest : List Terminal) → whole most_allowed ts ≡ bad reason rest → IsFirstFault ts (length ts - length rest) reason
is_fault ts reason rest h =
    let s = stopped ts reason rest h in
    record { before = s.used; rest = rest; is = s.is; at = placed ts rest s.used s.is; allows = s.allows; cause = cause_of ts s.used s.extra rest reason h s.is s.why s.goes }

pub is_trailing : (ts : List Terminal) (p : Parts) (end : Counts) (t : Terminal) (rest : List Terminal) → whole most_allowed ts ≡ got p end (t ∷ rest) → IsFirstFault ts (length ts - length (t ∷ rest)) unexpected
is_trailing ts p end t rest h =
    let x = found ts p end (t ∷ rest) h in
    let h' : whole most_allowed (terminals x.used ++ t ∷ rest) ≡ got p end (t ∷ rest) = subst (λ us. whole most_allowed us ≡ got p end (t ∷ rest)) x.is h in
    record {
      before = x.used;
      rest = t ∷ rest;
      is = x.is;
      at = placed ts (t ∷ rest) x.used x.is;
      allows = x.allows;
      cause = stray (record { more = []; depth = 64; parts = p; spells = subst (λ xs. Spells (Inner 64) program xs p) (sym (append_none x.used)) x.spells })
          (λ next same d items q s is. none_behind (terminals x.used) t rest p end h' same.0 d items q s (is ∙ ap (λ us. terminals x.used ++ us) same.1));
    }

pub is_read : (ts : List Terminal) (p : Parts) → IsProgram ts p → (end : Counts) × (whole most_allowed ts ≡ got p end [])
is_read ts p s = (after_all none_yet s.items, subst (λ us. whole most_allowed us ≡ got p (after_all none_yet s.items) []) s.is (spelled_is_read most_allowed s.depth s.items p s.spells s.allows))
