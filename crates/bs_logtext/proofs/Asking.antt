-- Each key that is waited for is among the keys asked, in the same order.
use Rattle.std.proofs.Common.{◌≡◌, ℕ, Bool, true, false, if◌then◌else◌, List, [], ◌∷◌, ◌++◌, Option, Some, None, refl, sym, ap, subst₂, map, is_some}
use Rattle.bs_tree.specs.declared.tree.Program.{Program}
use Rattle.bs_log.specs.declared.history.Key.{Key}
use Rattle.bs_log.specs.declared.history.Message.{Message}
use Rattle.bs_log.specs.declared.history.Asked.{Asked}
use Rattle.bs_log.specs.declared.history.WaitAt.{WaitAt}
use Rattle.bs_semantics.specs.Run.{Lookup, Run, State, Causes, after, from_end, held, missing, all_asked, all_waits, go_on, run, start}
use Rattle.bs_semantics.specs.Growth.{Subsequence, none, keep, skip}
use Rattle.bs_semantics.proofs.Subsequences.{empty, beside}
use Rattle.bs_semantics.proofs.Kept.{Closure, list_kept}

abbrev pub keys_asked : List Asked → List Key
keys_asked as' = map (λ a. a.key) as'

abbrev pub keys_waited : List WaitAt → List Key
keys_waited ws = map (λ w. w.key) ws

abbrev pub Among : List WaitAt → List Asked → Type 0
Among ws as' = Subsequence Key (keys_waited ws) (keys_asked as')

map_both : {A B : Type 0} (f : A → B) (xs ys : List A) → map f (xs ++ ys) ≡ map f xs ++ map f ys
map_both f [] ys = refl
map_both f (x ∷ xs) ys = ap (λ zs. f x ∷ zs) (map_both f xs ys)

both_among : (ws vs : List WaitAt) (as' bs : List Asked) → Among ws as' → Among vs bs → Among (ws ++ vs) (as' ++ bs)
both_among ws vs as' bs h k = subst₂ (Subsequence Key) (sym (map_both (λ w. w.key) ws vs)) (sym (map_both (λ a. a.key) as' bs)) (beside _ _ _ _ h k)

missing_among : (mail : Lookup) (n : ℕ) (path : List ℕ) (ks : List Key) → Among (all_waits n path (missing mail ks)) (all_asked n path ks)
missing_among mail n path [] = none
missing_among mail n path (k ∷ ks) = by (is_some (mail k)) (missing_among mail n path ks)
  where
    by : (b : Bool) → Among (all_waits n path (missing mail ks)) (all_asked n path ks) → Among (all_waits n path (if b then missing mail ks else k ∷ missing mail ks)) (all_asked n path (k ∷ ks))
    by true h = skip k _ _ h
    by false h = keep k _ _ h

abbrev Waits : Causes → Run → Run → Type 0
Waits k r q = Among q.waits q.asked

after_waits : (r : Run) (f : State → Run) → Among r.waits r.asked → ((s : State) → Among (f s).waits (f s).asked) → (o : Option State) → Among (after r (from_end o f)).waits (after r (from_end o f)).asked
after_waits r f h i None = h
after_waits r f h i (Some s) = both_among r.waits (f s).waits r.asked (f s).asked h (i s)

ask_waits : (n : ℕ) (path : List ℕ) (mail : Lookup) (ks : List Key) (f : List Message → Run) → ((ms : List Message) → Among (f ms).waits (f ms).asked) → (o : Option (List Message)) →
    Among (go_on o (all_asked n path ks) (all_waits n path (missing mail ks)) f).waits (go_on o (all_asked n path ks) (all_waits n path (missing mail ks)) f).asked
ask_waits n path mail ks f h None = missing_among mail n path ks
ask_waits n path mail ks f h (Some ms) = both_among [] (f ms).waits (all_asked n path ks) (f ms).asked (empty _) (h ms)

waits_closed : (p : Program) (this : ℕ) (a : Lookup) → Closure p this a a Waits
waits_closed p this a = record {
  ended = λ s. none;
  halted = λ k ts. none;
  made = λ n path s acts t is. none;
  asked = λ n path k ks f g h. ask_waits n path a ks g h (held a ks);
  followed = λ k r q f g h i. after_waits q g h i q.end;
  recelled = λ k f r q h. h;
  joined = λ k w r q r' q' h i. both_among q.waits q'.waits q.asked q'.asked h i;
}

pub run_waits : (p : Program) (limit c : ℕ) (a : Lookup) → Among (run p limit c a).waits (run p limit c a).asked
run_waits p limit c a = list_kept p limit c a a Waits (waits_closed p c a) p.body 0 1 [] (start p)
