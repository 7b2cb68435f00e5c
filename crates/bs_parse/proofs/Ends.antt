-- What follows for a whole program from how its reading ends.
use Rattle.std.proofs.Common.{◌≡◌, ℕ, ◌-◌, ◌≤◌, List, [], ◌∷◌, length, sym, ap, subst, ◌∙◌, arith, length-append}
use Rattle.bs_tree.specs.Rule.{Terminal, terminals}
use Rattle.bs_tree.specs.Grammar.{program, Parts}
use Rattle.bs_tree.specs.Limits.{most_allowed, none_yet, Reason, unexpected}
use Rattle.bs_tree.specs.Fault.{IsProgram, IsFirstFault}
use Rattle.bs_parse.specs.Reading.{got, bad}
use Rattle.bs_parse.specs.Seen.{Input, by_rule}
use Rattle.bs_parse.proofs.Basics.{got_value, got_rest, got_bad}
use Rattle.bs_parse.proofs.Exact.{whole, found, stopped, is_program, is_fault, is_trailing, is_read}

abbrev at_start : List Terminal → Input
at_start ts = record { counts = none_yet; rest = ts }

module _ (ts : List Terminal) (start end : Input) (is : start ≡ at_start ts) where
  as_whole : by_rule program start ≡ whole most_allowed ts
  as_whole = ap (by_rule program) is

  pub left_of_read : (p : Parts) → by_rule program start ≡ got p end.counts end.rest → length end.rest ≤ length ts
  left_of_read p h =
      let x = found ts p end.counts end.rest (sym as_whole ∙ h) in
      omega (arith, ap length x.is, length-append (terminals x.used) end.rest)

  pub left_of_stop : (reason : Reason) → by_rule program start ≡ bad reason end.rest → length end.rest ≤ length ts
  left_of_stop reason h =
      let x = stopped ts reason end.rest (sym as_whole ∙ h) in
      omega (arith, ap length x.is, length-append (terminals x.used) end.rest)

  pub read_program : (p : Parts) → by_rule program start ≡ got p end.counts end.rest → end.rest ≡ [] → IsProgram ts p
  read_program p h e = is_program ts p end.counts (sym as_whole ∙ h ∙ ap (got p end.counts) e)

  pub read_only : (p q : Parts) → by_rule program start ≡ got p end.counts end.rest → IsProgram ts q → p ≡ q
  read_only p q h s = got_value (sym h ∙ as_whole ∙ (is_read ts q s).1)

  pub trailing_none : (p q : Parts) (t : Terminal) (us : List Terminal) → by_rule program start ≡ got p end.counts end.rest → end.rest ≡ t ∷ us → IsProgram ts q → ⊥
  trailing_none p q t us h e s =
      let ends : end.rest ≡ [] = got_rest (sym h ∙ as_whole ∙ (is_read ts q s).1) in
      absurd (cc)

  pub trailing_fault : (p : Parts) (t : Terminal) (us : List Terminal) (n m : ℕ) → by_rule program start ≡ got p end.counts end.rest → end.rest ≡ t ∷ us → n ≡ length ts → m ≡ length end.rest → IsFirstFault ts (n - m) unexpected
  trailing_fault p t us n m h e size left =
      let place : length ts - length (t ∷ us) ≡ n - m = let same : length (t ∷ us) ≡ m = ap length (sym e) ∙ sym left in omega (arith, same, size) in
      subst (λ k. IsFirstFault ts k unexpected) place (is_trailing ts p end.counts t us (sym as_whole ∙ h ∙ ap (got p end.counts) e))

  pub stop_none : (reason : Reason) (q : Parts) → by_rule program start ≡ bad reason end.rest → IsProgram ts q → ⊥
  stop_none reason q h s = got_bad (sym ((is_read ts q s).1) ∙ sym as_whole ∙ h)

  pub stop_fault : (reason : Reason) (n m : ℕ) → by_rule program start ≡ bad reason end.rest → n ≡ length ts → m ≡ length end.rest → IsFirstFault ts (n - m) reason
  stop_fault reason n m h size left =
      subst (λ k. IsFirstFault ts k reason) (omega (arith, size, left)) (is_fault ts reason end.rest (sym as_whole ∙ h))
