-- The first part that touches a variable, and the first later part that clashes with it, are the least pair.
use Rattle.std.proofs.Common.{◌≡◌, ◌≢◌, ◌<◌, ◌+◌, ◌||◌, ◌&&◌, ℕ, suc, Bool, true, false, if◌then◌else◌, List, [], ◌∷◌, Option, Some, None, refl, sym, ap, All, arith}
use Rattle.std.proofs.lemmas.Bool.{ne_eqb}
use Rattle.bs_tree.specs.declared.tree.NameId.{NameId}
use Rattle.bs_tree.specs.declared.tree.Stmt.{Stmt}
use Rattle.bs_tree.specs.declared.tree.VarDecl.{VarDecl}
use Rattle.bs_tree.specs.Reads.{stmt_reads, stmt_writes}
use Rattle.bs_check.specs.Interference.{touches, partner, Pair, or_else_pair, pair, interference_from}
use Rattle.bs_check.specs.Touches.{Seen, note, seen, after_parts, pair_with, pair_of, shared_from}
use Rattle.bs_check.specs.declared.touches.Touches.{Touches}

-- ---- once a clash is found it stays

note_found : (i k j : ℕ) (w r v : Bool) → i < k → note k r v (Some (record { part = i; writes = w; other = Some j })) ≡ Some (record { part = i; writes = w; other = Some j })
unfolding note
note_found i k j w true v less = let other : i ≢ k = omega arith in rw (ne_eqb i k other) refl
note_found i k j w false true less = let other : i ≢ k = omega arith in rw (ne_eqb i k other) refl
note_found i k j w false false less = refl

found_stays : (name : NameId) (i k j : ℕ) (w : Bool) (parts : List Stmt) → i < k → after_parts name k parts (Some (record { part = i; writes = w; other = Some j })) ≡ Some (record { part = i; writes = w; other = Some j })
found_stays name i k j w [] less = refl
found_stays name i k j w (a ∷ parts) less = rw (note_found i k j w (stmt_reads name a) (stmt_writes name a) less) (found_stays name i (k + 1) j w parts (omega arith))

-- ---- the first later part that clashes with a holder

-- a part clashes with one that touches the variable, and writes it or not
abbrev meets : NameId → Bool → Stmt → Bool
meets name w b = touches name b && (w || stmt_writes name b)

abbrev partner_if : NameId → Bool → ℕ → List Stmt → Option ℕ
partner_if name w k [] = None
partner_if name w k (b ∷ bs) = if meets name w b then Some k else partner_if name w (k + 1) bs

note_next : (i k : ℕ) (w r v : Bool) → i < k → note k r v (Some (record { part = i; writes = w; other = None })) ≡ Some (record { part = i; writes = w; other = if (r || v) && (w || v) then Some k else None })
unfolding note
note_next i k true true v less = let other : i ≢ k = omega arith in rw (ne_eqb i k other) refl
note_next i k false true true less = let other : i ≢ k = omega arith in rw (ne_eqb i k other) refl
note_next i k false true false less = let other : i ≢ k = omega arith in rw (ne_eqb i k other) refl
note_next i k true false true less = let other : i ≢ k = omega arith in rw (ne_eqb i k other) refl
note_next i k false false true less = let other : i ≢ k = omega arith in rw (ne_eqb i k other) refl
note_next i k w false false less = refl

holder_meets : (name : NameId) (i k : ℕ) (w b : Bool) (parts : List Stmt) → i < k →
    pair_of (after_parts name (k + 1) parts (Some (record { part = i; writes = w; other = None }))) ≡ pair_with i (partner_if name w (k + 1) parts) →
    pair_of (after_parts name (k + 1) parts (Some (record { part = i; writes = w; other = if b then Some k else None }))) ≡ pair_with i (if b then Some k else partner_if name w (k + 1) parts)
holder_meets name i k w true parts less rest = ap pair_of (found_stays name i (k + 1) k w parts (omega arith))
holder_meets name i k w false parts less rest = rest

holder_finds : (name : NameId) (i k : ℕ) (w : Bool) (parts : List Stmt) → i < k → pair_of (after_parts name k parts (Some (record { part = i; writes = w; other = None }))) ≡ pair_with i (partner_if name w k parts)
holder_finds name i k w [] less = refl
holder_finds name i k w (a ∷ parts) less =
    rw (note_next i k w (stmt_reads name a) (stmt_writes name a) less) (holder_meets name i k w (meets name w a) parts less (holder_finds name i (k + 1) w parts (omega arith)))

-- ---- the partner of a part

clash_as : (r w r' w' : Bool) → (r || w) ≡ true → ((w && (r' || w')) || ((r || w) && w')) ≡ ((r' || w') && (w || w'))
clash_as r true true w' h = refl
clash_as r true false true h = refl
clash_as true true false false h = refl
clash_as false true false false h = refl
clash_as true false true true h = refl
clash_as true false true false h = refl
clash_as true false false true h = refl
clash_as true false false false h = refl
clash_as false false r' w' h = absurd (cc)

no_clash : (r w r' w' : Bool) → (r || w) ≡ false → ((w && (r' || w')) || ((r || w) && w')) ≡ false
no_clash true w r' w' h = absurd (cc)
no_clash false true r' w' h = absurd (cc)
no_clash false false r' w' h = refl

partner_as : (name : NameId) (a : Stmt) (k : ℕ) (bs : List Stmt) → touches name a ≡ true → partner name a k bs ≡ partner_if name (stmt_writes name a) k bs
partner_as name a k [] h = refl
partner_as name a k (b ∷ bs) h = rw (clash_as (stmt_reads name a) (stmt_writes name a) (stmt_reads name b) (stmt_writes name b) h, partner_as name a (k + 1) bs h) refl

no_partner : (name : NameId) (a : Stmt) (k : ℕ) (bs : List Stmt) → touches name a ≡ false → partner name a k bs ≡ None
no_partner name a k [] h = refl
no_partner name a k (b ∷ bs) h = rw (no_clash (stmt_reads name a) (stmt_writes name a) (stmt_reads name b) (stmt_writes name b) h) (no_partner name a (k + 1) bs h)

-- ---- where the first part that touches the variable meets no other, none meet

not_met : (t : Bool) (k : ℕ) (rest : Option ℕ) → (if t then Some k else rest) ≡ None → t ≡ false
not_met true k rest h = absurd (cc)
not_met false k rest h = refl

met_later : (t : Bool) (k : ℕ) (rest : Option ℕ) → (if t then Some k else rest) ≡ None → rest ≡ None
met_later true k rest h = absurd (cc)
met_later false k rest h = h

-- two that a holder doesn't meet don't clash
apart : (w r v r' v' : Bool) → ((r || v) && (w || v)) ≡ false → ((r' || v') && (w || v')) ≡ false → ((v && (r' || v')) || ((r || v) && v')) ≡ false
apart true true v r' v' h g = absurd (cc)
apart true false true r' v' h g = absurd (cc)
apart true false false r' v' h g = refl
apart false true true r' v' h g = absurd (cc)
apart false false true r' v' h g = absurd (cc)
apart false true false true true h g = absurd (cc)
apart false true false false true h g = absurd (cc)
apart false true false r' false h g = refl
apart false false false r' v' h g = refl

alone : (name : NameId) (w : Bool) (b : Stmt) (k n : ℕ) (bs : List Stmt) → meets name w b ≡ false → partner_if name w k bs ≡ None → partner name b n bs ≡ None
alone name w b k n [] h none = refl
alone name w b k n (c ∷ cs) h none =
    let here = apart w (stmt_reads name b) (stmt_writes name b) (stmt_reads name c) (stmt_writes name c) h (not_met (meets name w c) k (partner_if name w (k + 1) cs) none) in
    rw here (alone name w b (k + 1) (n + 1) cs h (met_later (meets name w c) k (partner_if name w (k + 1) cs) none))

no_pair : (name : NameId) (w : Bool) (k : ℕ) (bs : List Stmt) → partner_if name w k bs ≡ None → pair name k bs ≡ None
no_pair name w k [] none = refl
no_pair name w k (b ∷ bs) none =
    let met = not_met (meets name w b) k (partner_if name w (k + 1) bs) none in
    let later = met_later (meets name w b) k (partner_if name w (k + 1) bs) none in
    rw (alone name w b (k + 1) (k + 1) bs met later, no_pair name w (k + 1) bs later) refl

-- ---- the least pair

note_first : (k : ℕ) (r w : Bool) → (r || w) ≡ true → note k r w None ≡ Some (record { part = k; writes = w; other = None })
unfolding note
note_first k true w h = refl
note_first k false true h = refl
note_first k false false h = absurd (cc)

note_not : (k : ℕ) (r w : Bool) (s : Seen) → (r || w) ≡ false → note k r w s ≡ s
unfolding note
note_not k true w s h = absurd (cc)
note_not k false true s h = absurd (cc)
note_not k false false s h = refl

with_rest : (k : ℕ) (found : Option ℕ) (rest : Option Pair) → (found ≡ None → rest ≡ None) → pair_with k found ≡ or_else_pair k found rest
with_rest k None rest none = sym (none refl)
with_rest k (Some j) rest none = refl

pair_if : (name : NameId) (k : ℕ) (a : Stmt) (parts : List Stmt) (t : Bool) → touches name a ≡ t → pair_of (after_parts name (k + 1) parts None) ≡ pair name (k + 1) parts → pair_of (after_parts name k (a ∷ parts) None) ≡ pair name k (a ∷ parts)
pair_if name k a parts true h rest =
    rw (note_first k (stmt_reads name a) (stmt_writes name a) h, partner_as name a (k + 1) parts h, holder_finds name k (k + 1) (stmt_writes name a) parts (omega arith))
    (with_rest k (partner_if name (stmt_writes name a) (k + 1) parts) (pair name (k + 1) parts) (no_pair name (stmt_writes name a) (k + 1) parts))
pair_if name k a parts false h rest = rw (note_not k (stmt_reads name a) (stmt_writes name a) None h, no_partner name a (k + 1) parts h) rest

-- what stands in the table once all parts were looked at is the least pair
pub pair_is : (name : NameId) (k : ℕ) (parts : List Stmt) → pair_of (after_parts name k parts None) ≡ pair name k parts
pair_is name k [] = refl
pair_is name k (a ∷ parts) = pair_if name k a parts (touches name a) refl (pair_is name (k + 1) parts)

-- the first variable for which a clash stands in the table is the first that is shared
pub shared_is : (ts : Touches) (n : ℕ) (vs : List VarDecl) (parts : List Stmt) → All (λ v. v.name.0 < n) vs → ((name : NameId) → name.0 < n → seen ts name ≡ after_parts name 0 parts None) → (v : ℕ) → shared_from v vs ts ≡ interference_from v vs parts
shared_is ts n [] parts all is v = refl
shared_is ts n (d ∷ ds) parts all is v =
    let within : d.name.0 < n = all 0 d (omega arith) in
    let rest = shared_is ts n ds parts (λ k e l. all (suc k) e (omega arith)) is (v + 1) in
    rw (is d.name within, pair_is d.name 0 parts, rest) refl
