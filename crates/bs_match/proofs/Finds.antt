-- A look-up in the map's entries, and in the messages alone.
use Rattle.std.proofs.Common.{◌≡◌, true, false, cond, List, [], ◌∷◌, ◌++◌, Option, Some, None, map, refl, sym, ap, ap₂, subst, ◌∙◌, append_assoc}
use Rattle.std.specs.Option.{is_some}
use Rattle.std.specs.declared.cmp.Ordering.{Ordering}
use Rattle.std.specs.declared.cmp.Ordering.TheVariants.{Less, Equal, Greater}
use Rattle.std.specs.Ordering.{match_ordering, ordering_reverse}
use Rattle.std.specs.List.{AllByRecursion}
use Rattle.std.specs.List.Sorted.{IsStrictlySortedBy}
use Rattle.std.specs.Map as entry
use Rattle.std.specs.Map.{keys_of, values_of}
use Rattle.std.specs.BTreeMap.{BTreeMap, get_by, is_at, insert_entry, Updates}
use Rattle.bs_log.specs.declared.history.Key.{Key}
use Rattle.bs_log.specs.declared.history.Message.{Message}
use Rattle.bs_log.specs.Messages.{same_key, key_cmp}
use Rattle.bs_match.specs.Keyed.{AreKeyed}
use Rattle.bs_match.specs.Mail.{HasRisingKeys, lookup, with_message}
use Rattle.bs_match.proofs.Keys.{key_cmp_total, is_same, same_key_symm, equal_is}

pub finds : (es : List (Key × Message)) → AreKeyed es → (k : Key) → entry.lookup (is_at (key_cmp k)) es ≡ lookup (values_of es) k
finds [] h k = refl
finds (e ∷ es) h k = ap₂ (λ t o. cond t (Some e.1) o) (is_same k e.0 ∙ (same_key_symm k e.0 ∙ ap (λ x. same_key x k) h.0)) (finds es h.1 k)

keyed_if : (e : Key × Message) (es : List (Key × Message)) (m : Message) (rest : List (Key × Message)) (o : Ordering) → key_cmp m.sent.key e.0 ≡ o → e.0 ≡ e.1.sent.key → AreKeyed es → AreKeyed rest
    → AreKeyed (match_ordering o ((m.sent.key, m) ∷ e ∷ es) ((e.0, m) ∷ es) (e ∷ rest))
keyed_if e es m rest Less is k h r = (refl, (k, h))
keyed_if e es m rest Equal is k h r = (sym (equal_is m.sent.key e.0 is), h)
keyed_if e es m rest Greater is k h r = (k, r)

pub keyed_with : (es : List (Key × Message)) (m : Message) → AreKeyed es → AreKeyed (insert_entry key_cmp es m.sent.key m)
keyed_with [] m h = (refl, tt)
keyed_with (e ∷ es) m h = keyed_if e es m (insert_entry key_cmp es m.sent.key m) (key_cmp m.sent.key e.0) refl h.0 h.1 (keyed_with es m h.1)

keys_are : (es : List (Key × Message)) → AreKeyed es → keys_of es ≡ map (λ m. m.sent.key) (values_of es)
keys_are [] h = refl
keys_are (e ∷ es) h = ap₂ (λ k ks. k ∷ ks) h.0 (keys_are es h.1)

pub rising : (held : BTreeMap Key Message) → AreKeyed held.entries → IsStrictlySortedBy key_cmp (keys_of held.entries) → HasRisingKeys (values_of held.entries)
rising held h s = subst (IsStrictlySortedBy key_cmp) (keys_are held.entries h) s

-- one message more
pub finds_with : (old new : BTreeMap Key Message) (m : Message) → AreKeyed old.entries → AreKeyed new.entries → Updates key_cmp old new m.sent.key (Some m) → lookup (values_of new.entries) ≡ with_message m (lookup (values_of old.entries))
finds_with old new m h k u = λ i q. at q i
  where
    at : (q : Key) → lookup (values_of new.entries) q ≡ with_message m (lookup (values_of old.entries)) q
    at q = sym (finds new.entries k q) ∙ (u.0 q ∙ ap₂ (λ t o. cond t (Some m) o) (is_same m.sent.key q) (finds old.entries h q))

none_from : {A : Type 0} (o : Option A) → is_some o ≡ false → o ≡ None
none_from None e = refl
none_from (Some x) e = absurd (cc)

pub finds_none : (held : BTreeMap Key Message) (k : Key) → AreKeyed held.entries → is_some (get_by (key_cmp k) held) ≡ false → lookup (values_of held.entries) k ≡ None
finds_none held k h e = sym (finds held.entries h k) ∙ none_from _ e

pub finds_some : (held : BTreeMap Key Message) (k : Key) → AreKeyed held.entries → is_some (get_by (key_cmp k) held) ≡ true → is_some (lookup (values_of held.entries) k) ≡ true
finds_some held k h e = ap is_some (sym (finds held.entries h k)) ∙ e

-- a key above all others goes behind them
above : (k : Key) (v : Message) (e : Key × Message) (es rest : List (Key × Message)) → key_cmp e.0 k ≡ Less → match_ordering (key_cmp k e.0) ((k, v) ∷ e ∷ es) ((e.0, v) ∷ es) (e ∷ rest) ≡ e ∷ rest
above k v e es rest l = ap (λ o. match_ordering o ((k, v) ∷ e ∷ es) ((e.0, v) ∷ es) (e ∷ rest)) (key_cmp_total.antisymm k e.0 ∙ ap ordering_reverse l)

last_of : (P : Key → Type 0) (xs : List (Key × Message)) (e : Key × Message) (ys : List (Key × Message)) → AllByRecursion P (keys_of (xs ++ e ∷ ys)) → P e.0
last_of P [] e ys h = h.0
last_of P (x ∷ xs) e ys h = last_of P xs e ys h.1

pub behind : (xs ys : List (Key × Message)) (k : Key) (v : Message) → IsStrictlySortedBy key_cmp (keys_of (xs ++ (k, v) ∷ ys)) → insert_entry key_cmp xs k v ≡ xs ++ (k, v) ∷ []
unfolding IsStrictlySortedBy
behind [] ys k v h = refl
behind (x ∷ xs) ys k v h = above k v x xs (insert_entry key_cmp xs k v) (last_of (λ y. key_cmp x.0 y ≡ Less) xs (k, v) ys h.0) ∙ ap (λ es. x ∷ es) (behind xs ys k v h.1)

-- so the entries are taken over one by one
pub taken_over : (xs zs ys new : List (Key × Message)) (k : Key) (v w : Message) → zs ≡ (k, v) ∷ ys → w ≡ v → new ≡ insert_entry key_cmp xs k w → IsStrictlySortedBy key_cmp (keys_of (xs ++ zs)) → new ++ ys ≡ xs ++ zs
taken_over xs zs ys new k v w first same is h =
    ap (λ es. es ++ ys) (is ∙ (ap (insert_entry key_cmp xs k) same ∙ behind xs ys k v (subst (λ es. IsStrictlySortedBy key_cmp (keys_of (xs ++ es))) first h)))
    ∙ (append_assoc xs ((k, v) ∷ []) ys ∙ ap (λ es. xs ++ es) (sym first))
