-- A list of terminals has at most one first fault, and one that spells a program has none.
use Rattle.std.proofs.Common.{◌≡◌, ℕ, ◌+◌, ◌≤◌, List, [], ◌∷◌, ◌++◌, length, Option, Some, None, refl, sym, ap, subst, ◌∙◌, arith, length-append, append_assoc}
use Rattle.std.proofs.lemmas.List.{length-map}
use Rattle.bs_tree.specs.Rule.{Terminal, Role, Item, terminals, Spells}
use Rattle.bs_tree.specs.Grammar.{program, Parts, Inner}
use Rattle.bs_tree.specs.Limits.{Counts, after, after_all, refused, Within, most_allowed, none_yet, Reason, unexpected}
use Rattle.bs_tree.specs.Fault.{IsProgram, BeginsProgram, Same, NoneGoesOn, Cause, stray, passes, IsFirstFault}
use Rattle.bs_parse.specs.Reading.{Outcome, got, bad}
use Rattle.bs_parse.proofs.Basics.{append_none, terminals_append, within_right, got_rest, got_bad, bad_reason, bad_rest}
use Rattle.bs_parse.proofs.Foresight.{all_fine, program_fine}
use Rattle.bs_parse.proofs.Refused.{refuses}
use Rattle.bs_parse.proofs.Exact.{whole, found, stopped, spelled_is_read, none_goes_on, none_behind, is_read}
use Rattle.bs_parse.proofs.Viable.{Begins, Why, stray as stray_why, passes as passes_why}

-- ---- the same list in two ways

-- where the first parts end
data Ends {A : Type 0} (xs us ys vs : List A) : Type 0 where
  at_once : xs ≡ ys → us ≡ vs → Ends xs us ys vs
  first_before : (z : A) (zs : List A) → ys ≡ xs ++ z ∷ zs → us ≡ z ∷ (zs ++ vs) → Ends xs us ys vs
  first_behind : (z : A) (zs : List A) → xs ≡ ys ++ z ∷ zs → vs ≡ z ∷ (zs ++ us) → Ends xs us ys vs

ends : {A : Type 0} (xs us ys vs : List A) → xs ++ us ≡ ys ++ vs → Ends xs us ys vs
ends [] us [] vs h = at_once refl h
ends [] us (y ∷ ys) vs h = first_before y ys refl h
ends (x ∷ xs) us [] vs h = first_behind x xs refl (sym h)
ends (x ∷ xs) us (y ∷ ys) vs h =
    let first : x ≡ y = cc in
    let more : xs ++ us ≡ ys ++ vs = cc in
    by first (ends xs us ys vs more)
  where
    by : x ≡ y → Ends xs us ys vs → Ends (x ∷ xs) us (y ∷ ys) vs
    by first (at_once p q) = at_once (ap (λ zs. x ∷ zs) p ∙ ap (λ z. z ∷ ys) first) q
    by first (first_before z zs p q) = first_before z zs (ap (λ zs. y ∷ zs) p ∙ ap (λ w. w ∷ (xs ++ z ∷ zs)) (sym first)) q
    by first (first_behind z zs p q) = first_behind z zs (ap (λ zs. x ∷ zs) p ∙ ap (λ w. w ∷ (ys ++ z ∷ zs)) first) q

same_itself : (ts : List Terminal) → Same ts ts
same_itself [] = refl
same_itself (t ∷ ts) = (ts, refl)

-- ---- what begins a program

begins_front : (xs ys : List Item) → BeginsProgram (xs ++ ys) → BeginsProgram xs
begins_front xs ys b = record { more = ys ++ b.more; depth = b.depth; parts = b.parts; spells = subst (λ zs. Spells (Inner b.depth) program zs b.parts) (append_assoc xs ys b.more) b.spells }

begins_whole : (items : List Item) (p : Parts) (d : ℕ) → Spells (Inner d) program items p → BeginsProgram items
begins_whole items p d s = record { more = []; depth = d; parts = p; spells = subst (λ xs. Spells (Inner d) program xs p) (sym (append_none items)) s }

-- the terminals of what begins a program and goes on from others
gone_on : (before : List Terminal) (used more : List Item) (z : Terminal) (zs : List Terminal) → terminals used ≡ before ++ z ∷ zs → terminals (used ++ more) ≡ before ++ z ∷ (zs ++ terminals more)
gone_on before used more z zs is = terminals_append used more ∙ ap (λ ts. ts ++ terminals more) is ∙ append_assoc before (z ∷ zs) (terminals more)

-- where no program goes on, none begins with more
barred : (before rest : List Terminal) → NoneGoesOn before rest → (used : List Item) → BeginsProgram used → (z : Terminal) (zs others : List Terminal) → terminals used ≡ before ++ z ∷ zs → rest ≡ z ∷ others → ⊥
barred before rest none used b z zs others is next =
    none (z ∷ (zs ++ terminals b.more)) (subst (λ us. Same us (z ∷ (zs ++ terminals b.more))) (sym next) (zs ++ terminals b.more, refl)) b.depth (used ++ b.more) b.parts b.spells (gone_on before used b.more z zs is)

-- ---- a limit that is passed

-- where what a program begins with passes a limit for the first time, reading stops there
pub passing : (before : List Item) (role : Role) (t : Terminal) (others : List Terminal) (reason : Reason) → BeginsProgram (before ++ (role, t) ∷ []) → Within most_allowed none_yet before → refused most_allowed (after_all none_yet before) (role, t) ≡ Some reason
    → whole most_allowed (terminals before ++ t ∷ others) ≡ bad reason (t ∷ others)
passing before role t others reason b w why =
    refuses most_allowed all_fine 64 b.depth program program_fine ((before ++ (role, t) ∷ []) ++ b.more) b.parts none_yet before b.more role t reason others b.spells (append_assoc before ((role, t) ∷ []) b.more) w why (omega arith)

data Limited (counts : Counts) (items : List Item) : Type 0 where
  all_within : Within most_allowed counts items → Limited counts items
  passed : (xs : List Item) (role : Role) (t : Terminal) (ys : List Item) (reason : Reason) → items ≡ xs ++ (role, t) ∷ ys → Within most_allowed counts xs → refused most_allowed (after_all counts xs) (role, t) ≡ Some reason → Limited counts items

limited : (items : List Item) (counts : Counts) → Limited counts items
limited [] counts = all_within tt
limited (x ∷ xs) counts = by (refused most_allowed counts x) refl (limited xs (after counts x))
  where
    by : (o : Option Reason) → refused most_allowed counts x ≡ o → Limited (after counts x) xs → Limited counts (x ∷ xs)
    by (Some reason) e more = passed [] x.0 x.1 xs reason refl tt e
    by None e (all_within w) = all_within (e, w)
    by None e (passed ys role t zs reason is w why) = passed (x ∷ ys) role t zs reason (ap (λ us. x ∷ us) is) (e, w) why

-- within the limits
not_passed : (xs more zs ys : List Item) (x : Item) (reason : Reason) → xs ++ more ≡ zs ++ x ∷ ys → Within most_allowed none_yet xs → refused most_allowed (after_all none_yet zs) x ≡ Some reason → length xs ≤ length zs
not_passed xs more zs ys x reason is w why = by (ends xs more zs (x ∷ ys) is)
  where
    by : Ends xs more zs (x ∷ ys) → length xs ≤ length zs
    by (at_once p q) = omega (arith, ap length p)
    by (first_before z us p q) = omega (arith, ap length p, length-append xs (z ∷ us))
    by (first_behind z us p q) =
        let same : x ≡ z = cc in
        let w' : Within most_allowed none_yet (zs ++ z ∷ us) = subst (Within most_allowed none_yet) p w in
        let allows : refused most_allowed (after_all none_yet zs) z ≡ None = (within_right most_allowed none_yet zs (z ∷ us) w').0 in
        let allows' : refused most_allowed (after_all none_yet zs) x ≡ None = subst (λ y. refused most_allowed (after_all none_yet zs) y ≡ None) (sym same) allows in
        let both : None ≡ Some reason = sym allows' ∙ why in
        absurd (cc)

-- reading of a program does not stop within what stays within the limits
reaches : (xs more : List Item) (p : Parts) (d : ℕ) (reason : Reason) (rest : List Terminal) → Spells (Inner d) program (xs ++ more) p → Within most_allowed none_yet xs → whole most_allowed (terminals (xs ++ more)) ≡ bad reason rest → length rest ≤ length more
reaches xs more p d reason rest s w h = by (limited (xs ++ more) none_yet)
  where
    by : Limited none_yet (xs ++ more) → length rest ≤ length more
    by (all_within w') = absurd (got_bad (sym (spelled_is_read most_allowed d (xs ++ more) p s w') ∙ h))
    by (passed zs role t ys reason' is w' why) =
        let stop : whole most_allowed (terminals zs ++ t ∷ terminals ys) ≡ bad reason' (t ∷ terminals ys) = refuses most_allowed all_fine 64 d program program_fine (xs ++ more) p none_yet zs ys role t reason' (terminals ys) s is w' why (omega arith) in
        let text : terminals (xs ++ more) ≡ terminals zs ++ t ∷ terminals ys = ap terminals is ∙ terminals_append zs ((role, t) ∷ ys) in
        let left : rest ≡ t ∷ terminals ys = bad_rest (sym h ∙ ap (whole most_allowed) text ∙ stop) in
        let le : length xs ≤ length zs = not_passed xs more zs ys (role, t) reason' is w why in
        omega (arith, ap length left, ap length is, length-append xs more, length-append zs ((role, t) ∷ ys), length-map ys (λ (item : Item). item.1), le)

-- ---- a stray token

module _ (ts : List Terminal) (before : List Item) (rest : List Terminal) (is : ts ≡ terminals before ++ rest) (allows : Within most_allowed none_yet before) (begun : BeginsProgram before) (none : NoneGoesOn (terminals before) rest) where
  -- where a limit is passed before it
  not_before : (used : List Item) (role : Role) (t : Terminal) (reason : Reason) (z : Terminal) (zs others : List Terminal) → BeginsProgram (used ++ (role, t) ∷ []) → Within most_allowed none_yet used → refused most_allowed (after_all none_yet used) (role, t) ≡ Some reason
      → terminals before ≡ terminals used ++ z ∷ zs → t ∷ others ≡ z ∷ (zs ++ rest) → ⊥
  not_before used role t reason z zs others b w why p q =
      let same : t ≡ z = cc in
      let more = zs ++ terminals begun.more in
      let text : terminals (before ++ begun.more) ≡ terminals used ++ t ∷ more = gone_on (terminals used) before begun.more z zs p ∙ ap (λ u. terminals used ++ u ∷ more) (sym same) in
      let stop : whole most_allowed (terminals (before ++ begun.more)) ≡ bad reason (t ∷ more) = ap (whole most_allowed) text ∙ passing used role t more reason b w why in
      omega (arith, reaches before begun.more begun.parts begun.depth reason (t ∷ more) begun.spells allows stop, length-append zs (terminals begun.more), length-map begun.more (λ (item : Item). item.1))

  by_limit : (used : List Item) (role : Role) (t : Terminal) (others : List Terminal) (reason : Reason) → BeginsProgram (used ++ (role, t) ∷ []) → Within most_allowed none_yet used → refused most_allowed (after_all none_yet used) (role, t) ≡ Some reason → Ends (terminals before) rest (terminals used) (t ∷ others) → ⊥
  by_limit used role t others reason b w why (at_once p q) = barred (terminals before) rest none (used ++ (role, t) ∷ []) b t [] others (terminals_append used ((role, t) ∷ []) ∙ ap (λ us. us ++ t ∷ []) (sym p)) q
  by_limit used role t others reason b w why (first_before z zs p q) = barred (terminals before) rest none used (begins_front used ((role, t) ∷ []) b) z zs (zs ++ t ∷ others) p q
  by_limit used role t others reason b w why (first_behind z zs p q) = not_before used role t reason z zs others b w why p q

  by_stray : (used : List Item) (rest' : List Terminal) → BeginsProgram used → NoneGoesOn (terminals used) rest' → Ends (terminals before) rest (terminals used) rest' → rest' ≡ rest
  by_stray used rest' b none' (at_once p q) = sym q
  by_stray used rest' b none' (first_before z zs p q) = absurd (barred (terminals before) rest none used b z zs (zs ++ rest') p q)
  by_stray used rest' b none' (first_behind z zs p q) = absurd (barred (terminals used) rest' none' before begun z zs (zs ++ rest) p q)

  as_program : (items : List Item) → Begins program items → BeginsProgram items
  as_program items v = record { more = v.more; depth = v.depth; parts = v.value; spells = v.spells }

  by_why : (used extra : List Item) (reason : Reason) (rest' : List Terminal) → ts ≡ terminals used ++ rest' → whole most_allowed ts ≡ bad reason rest' → Within most_allowed none_yet used → Why most_allowed (after_all none_yet used) reason rest' extra → Begins program (used ++ extra) → (rest' ≡ rest) × (reason ≡ unexpected)
  by_why used _ _ _ is' h w (stray_why rest') v =
      let b : BeginsProgram used = begins_front used [] (as_program (used ++ []) v) in
      (by_stray used rest' b (none_goes_on (terminals used) rest' (subst (λ us. whole most_allowed us ≡ bad unexpected rest') is' h)) (ends (terminals before) rest (terminals used) rest' (sym is ∙ is')), refl)
  by_why used _ _ _ is' h w (passes_why role t others reason why) v =
      absurd (by_limit used role t others reason (as_program (used ++ (role, t) ∷ []) v) w why (ends (terminals before) rest (terminals used) (t ∷ others) (sym is ∙ is')))

  -- where reading stops, it stops there
  stray_stops : (reason : Reason) (rest' : List Terminal) → whole most_allowed ts ≡ bad reason rest' → (rest' ≡ rest) × (reason ≡ unexpected)
  stray_stops reason rest' h = let s = stopped ts reason rest' h in by_why s.used s.extra reason rest' s.is h s.allows s.why s.goes

  by_behind : (used : List Item) (t : Terminal) (us : List Terminal) (p : Parts) (end : Counts) → Spells (Inner 64) program used p → whole most_allowed (terminals used ++ t ∷ us) ≡ got p end (t ∷ us) → Ends (terminals before) rest (terminals used) (t ∷ us) → t ∷ us ≡ rest
  by_behind used t us p end s h (at_once q r) = sym r
  by_behind used t us p end s h (first_before z zs q r) = absurd (barred (terminals before) rest none used (begins_whole used p 64 s) z zs (zs ++ t ∷ us) q r)
  by_behind used t us p end s h (first_behind z zs q r) =
      let same : t ≡ z = cc in
      let text : terminals (before ++ begun.more) ≡ terminals used ++ t ∷ (zs ++ terminals begun.more) = gone_on (terminals used) before begun.more z zs q ∙ ap (λ u. terminals used ++ u ∷ (zs ++ terminals begun.more)) (sym same) in
      absurd (none_behind (terminals used) t us p end h (zs ++ terminals begun.more) begun.depth (before ++ begun.more) begun.parts begun.spells text)

  -- where reading ends before some tokens, it is before that one
  stray_trails : (p : Parts) (end : Counts) (t : Terminal) (us : List Terminal) → whole most_allowed ts ≡ got p end (t ∷ us) → t ∷ us ≡ rest
  stray_trails p end t us h =
      let x = found ts p end (t ∷ us) h in
      by_behind x.used t us p end x.spells (subst (λ vs. whole most_allowed vs ≡ got p end (t ∷ us)) x.is h) (ends (terminals before) rest (terminals x.used) (t ∷ us) (sym is ∙ x.is))

  stray_ends : (p : Parts) (end : Counts) → whole most_allowed ts ≡ got p end [] → ⊥
  stray_ends p end h =
      let x = found ts p end [] h in
      none rest (same_itself rest) 64 x.used p x.spells (sym (append_none (terminals x.used)) ∙ sym x.is ∙ is)

-- ---- what reading tells of a first fault

data Told (ts : List Terminal) (place : ℕ) (reason : Reason) : Type 0 where
  stops_at : (rest : List Terminal) → whole most_allowed ts ≡ bad reason rest → place + length rest ≡ length ts → Told ts place reason
  trails : (p : Parts) (end : Counts) (t : Terminal) (rest : List Terminal) → whole most_allowed ts ≡ got p end (t ∷ rest) → reason ≡ unexpected → place + length (t ∷ rest) ≡ length ts → Told ts place reason

placed : (ts rest : List Terminal) (before : List Item) (place : ℕ) → ts ≡ terminals before ++ rest → place ≡ length before → place + length rest ≡ length ts
placed ts rest before place is at = omega (arith, at, ap length is, length-append (terminals before) rest, length-map before (λ (item : Item). item.1))

told : (ts : List Terminal) (place : ℕ) (reason : Reason) → IsFirstFault ts place reason → Told ts place reason
told ts place reason f = by reason f.rest f.is (placed ts f.rest f.before place f.is f.at) f.cause
  where
    by : (reason : Reason) (rest : List Terminal) → ts ≡ terminals f.before ++ rest → place + length rest ≡ length ts → Cause f.before rest reason → Told ts place reason
    by _ rest is at (stray begun none) = from (whole most_allowed ts) refl
      where
        from : (o : Outcome Parts) → whole most_allowed ts ≡ o → Told ts place unexpected
        from (bad reason rest') h =
            let w = stray_stops ts f.before rest is f.allows begun none reason rest' h in
            stops_at rest (h ∙ ap (λ r. bad r rest') w.1 ∙ ap (bad unexpected) w.0) at
        from (got p end []) h = absurd (stray_ends ts f.before rest is f.allows begun none p end h)
        from (got p end (t ∷ us)) h =
            let same : t ∷ us ≡ rest = stray_trails ts f.before rest is f.allows begun none p end t us h in
            trails p end t us h refl (subst (λ vs. place + length vs ≡ length ts) (sym same) at)
    by _ rest is at (passes {reason = reason} role t others next why begun) =
        let h : whole most_allowed (terminals f.before ++ t ∷ others) ≡ bad reason (t ∷ others) = passing f.before role t others reason begun f.allows why in
        stops_at rest (subst (λ us. whole most_allowed ts ≡ bad reason us) (sym next) (ap (whole most_allowed) (is ∙ ap (λ us. terminals f.before ++ us) next) ∙ h)) at

told_once : (ts : List Terminal) (m n : ℕ) (a b : Reason) → Told ts m a → Told ts n b → (m ≡ n) × (a ≡ b)
told_once ts m n a b (stops_at us h p) (stops_at vs k q) = let same = bad_rest (sym h ∙ k) in (omega (arith, ap length same, p, q), bad_reason (sym h ∙ k))
told_once ts m n a b (stops_at us h p) (trails x end t vs k e q) = absurd (got_bad (sym k ∙ h))
told_once ts m n a b (trails x end t us h e p) (stops_at vs k q) = absurd (got_bad (sym h ∙ k))
told_once ts m n a b (trails x end t us h e p) (trails y stop u vs k d q) = let same : t ∷ us ≡ u ∷ vs = got_rest (sym h ∙ k) in (omega (arith, ap length same, p, q), e ∙ sym d)

pub one_first : (ts : List Terminal) (m n : ℕ) (a b : Reason) → IsFirstFault ts m a → IsFirstFault ts n b → (m ≡ n) × (a ≡ b)
one_first ts m n a b f g = told_once ts m n a b (told ts m a f) (told ts n b g)

pub none_of_program : (ts : List Terminal) (n : ℕ) (a : Reason) (parts : Parts) → IsProgram ts parts → IsFirstFault ts n a → ⊥
none_of_program ts n a parts s f = by (is_read ts parts s) (told ts n a f)
  where
    by : (end : Counts) × (whole most_allowed ts ≡ got parts end []) → Told ts n a → ⊥
    by r (stops_at rest h p) = got_bad (sym r.1 ∙ h)
    by r (trails p end t rest h e q) = let none : [] ≡ t ∷ rest = got_rest (sym r.1 ∙ h) in absurd (cc)
