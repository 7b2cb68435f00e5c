-- The keys and messages of a `when`, one after the other.
use Rattle.std.proofs.Common.{◌≡◌, ℕ, List, [], ◌∷◌, ◌++◌, Option, Some, None, Result, Ok, Err, refl, ap, ◌∙◌, ◌≤◌, ◌<◌, suc, zero, min, arith, zero-le, length, get_or, drop, map, Bool, true, ◌&&◌}
use Rattle.std.specs.Prelude.{ℤ}
use Rattle.std.proofs.lemmas.List.{drop_all}
use Rattle.std.proofs.lemmas.Bool.{and_parts}
use Rattle.bs_tree.specs.declared.tree.NameId.{NameId}
use Rattle.bs_tree.specs.declared.tree.Wait.{Wait}
use Rattle.bs_tree.specs.declared.tree.Program.{Program}
use Rattle.bs_check.specs.Known.{all_true, is_entry, is_known, is_scalar}
use Rattle.bs_semantics.specs.Value.{Cells}
use Rattle.bs_semantics.specs.Run.{take_args, take_mail}
use Rattle.bs_check.specs.Fits.{is_wait_fit}
use Rattle.bs_log.specs.declared.history.Key.{Key}
use Rattle.bs_log.specs.declared.history.Message.{Message}
use Rattle.bs_log.specs.declared.history.TrapKind.{TrapKind}

-- the keys that are known, in front of those that are left
abbrev pub after_keys : List Key → Result (List Key) TrapKind → Result (List Key) TrapKind
after_keys ks (Ok more) = Ok (ks ++ more)
after_keys ks (Err kind) = Err kind

-- the messages that were found, in front of those that are left
abbrev pub after_held : List Message → Option (List Message) → Option (List Message)
after_held ms (Some more) = Some (ms ++ more)
after_held ms None = None

module _ {A : Type 0} (test : A → Bool) where
  -- what is true of each item is true of the one at a place
  pub each_at : (xs : List A) (i : ℕ) (d : A) → i < length xs → all_true (map test xs) ≡ true → test (get_or xs i d) ≡ true
  each_at [] i d l h = absurd (not_less i l)
    where
      not_less : (i : ℕ) → i < 0 → ⊥
      not_less i l = omega (arith, l)
  each_at (y ∷ xs) zero d l h = (and_parts (test y) (all_true (map test xs)) h).0
  each_at (y ∷ xs) (suc i) d l h = each_at xs i d (shorter i (length xs) l) (and_parts (test y) (all_true (map test xs)) h).1
    where
      shorter : (i n : ℕ) → suc i < suc n → i < n
      shorter i n l = omega (arith, l)

pub params_fit : (p : Program) (w : Wait) → is_wait_fit p w ≡ true → all_true (map (is_scalar p) w.params) ≡ true
params_fit p w h = (and_parts (is_entry p w.entry && is_known p w.reference) (all_true (map (is_scalar p) w.params)) h).1

module _ (p : Program) (cells : Cells) where
  none_taken : (xs : List NameId) → take_args p xs [] cells ≡ cells
  none_taken [] = refl
  none_taken (x ∷ xs) = refl

  -- no parameter or no argument is left
  pub args_end : (xs : List NameId) (vs : List ℤ) (i : ℕ) → min (length xs) (length vs) ≤ i → take_args p (drop i xs) (drop i vs) cells ≡ cells
  args_end [] vs i l = ap (λ xs. take_args p xs (drop i vs) cells) (drop_all i [] zero-le)
  args_end (x ∷ xs) [] i l = ap (λ vs. take_args p (drop i (x ∷ xs)) vs cells) (drop_all i [] zero-le) ∙ none_taken (drop i (x ∷ xs))
  args_end (x ∷ xs) (v ∷ vs) zero l = absurd (none (length xs) (length vs) l)
    where
      none : (n m : ℕ) → min (suc n) (suc m) ≤ 0 → ⊥
      none n m l = omega (arith, l)
  args_end (x ∷ xs) (v ∷ vs) (suc i) l = args_end xs vs i (shorter (length xs) (length vs) l)
    where
      shorter : (n m : ℕ) → min (suc n) (suc m) ≤ suc i → min n m ≤ i
      shorter n m l = omega (arith, l)

  none_sent : (ws : List Wait) → take_mail p ws [] cells ≡ cells
  none_sent [] = refl
  none_sent (w ∷ ws) = refl

  -- no wait or no message is left
  pub mail_end : (ws : List Wait) (ms : List Message) (i : ℕ) → min (length ws) (length ms) ≤ i → take_mail p (drop i ws) (drop i ms) cells ≡ cells
  mail_end [] ms i l = ap (λ ws. take_mail p ws (drop i ms) cells) (drop_all i [] zero-le)
  mail_end (w ∷ ws) [] i l = ap (λ ms. take_mail p (drop i (w ∷ ws)) ms cells) (drop_all i [] zero-le) ∙ none_sent (drop i (w ∷ ws))
  mail_end (w ∷ ws) (m ∷ ms) zero l = absurd (none (length ws) (length ms) l)
    where
      none : (n m : ℕ) → min (suc n) (suc m) ≤ 0 → ⊥
      none n m l = omega (arith, l)
  mail_end (w ∷ ws) (m ∷ ms) (suc i) l = mail_end ws ms i (shorter (length ws) (length ms) l)
    where
      shorter : (n m : ℕ) → min (suc n) (suc m) ≤ suc i → min n m ≤ i
      shorter n m l = omega (arith, l)
