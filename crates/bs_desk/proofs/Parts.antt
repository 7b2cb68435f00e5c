-- A file is read piece by piece.
use Rattle.std.proofs.Common.{◌≡◌, ℕ, ◌+◌, ◌≤◌, min, true, List, [], ◌++◌, length, take, drop, Option, Some, None, sym, ap, subst, ◌∙◌, append_assoc, arith, option_map, length-append}
use Rattle.std.proofs.lemmas.List.{take-append-drop}
use Rattle.std.specs.Prelude.{IfSome}
use Rattle.std.specs.FinMap as map
use Rattle.bs_desk.specs.Outside.{Outside, Files, IsReading, most}
use Rattle.bs_desk.specs.Whole.{IsPiece}

-- what is known while a file is read: the bytes so far, and that the rest comes behind them
pub record IsPart (name : List ℕ) (old now : Outside) (bytes : List ℕ) : Type 0 where
  pub same : IsReading old now
  pub faults : now.read_faults ≡ old.read_faults
  pub opened : now.is_open ≡ true
  pub found : now.found ≡ true
  pub taken : now.taken ≡ min (length bytes) most
  pub told : IfSome old.files (λ files. (rest : List ℕ) × (now.rest ≡ Some rest) × (map.get files name ≡ Some (bytes ++ rest)))

-- what reading leaves alone stays alone
pub reading_then : (a b c : Outside) → IsReading a b → IsReading b c → IsReading a c
reading_then a b c p q = q ∙ ap {A = Outside} {B = Outside} (λ o. record o { rest = c.rest; is_open = c.is_open; found = c.found; taken = c.taken; read_faults = c.read_faults }) p

reading_piece : (a b : Outside) (rest : Option (List ℕ)) (taken : ℕ) → b ≡ record a { rest = rest; taken = taken } → IsReading a b
reading_piece a b rest taken e =
    let rests : rest ≡ b.rest = sym (ap (λ o. o.rest) e) in
    let takens : taken ≡ b.taken = sym (ap (λ o. o.taken) e) in
    let opens : a.is_open ≡ b.is_open = sym (ap (λ o. o.is_open) e) in
    let founds : a.found ≡ b.found = sym (ap (λ o. o.found) e) in
    let faults : a.read_faults ≡ b.read_faults = sym (ap (λ o. o.read_faults) e) in
    e ∙ λ i. record a { rest = rests i; taken = takens i; is_open = opens i; found = founds i; read_faults = faults i }

told_more : (name : List ℕ) (f : Option Files) (bytes after : List ℕ) (old_rest new_rest : Option (List ℕ)) (n : ℕ) → new_rest ≡ option_map (drop n) old_rest
    → ((piece : List ℕ) × (after ≡ bytes ++ piece) × (length piece ≡ n) × IfSome old_rest (λ rest. (n ≤ length rest) × (piece ≡ take n rest) × (n ≡ 0 → rest ≡ [])))
    → IfSome f (λ files. (rest : List ℕ) × (old_rest ≡ Some rest) × (map.get files name ≡ Some (bytes ++ rest)))
    → IfSome f (λ files. (rest : List ℕ) × (new_rest ≡ Some rest) × (map.get files name ≡ Some (after ++ rest)))
told_more name None bytes after old_rest new_rest n e m t = tt
told_more name (Some files) bytes after old_rest new_rest n e m t =
    let came : (n ≤ length t.0) × (m.0 ≡ take n t.0) × (n ≡ 0 → t.0 ≡ []) =
    subst (λ r. IfSome r (λ rest. (n ≤ length rest) × (m.0 ≡ take n rest) × (n ≡ 0 → rest ≡ []))) t.1 m.3 in
    let all : bytes ++ t.0 ≡ after ++ drop n t.0 =
    sym (ap (λ x. x ++ drop n t.0) (m.1 ∙ ap (λ x. bytes ++ x) came.1) ∙ append_assoc bytes (take n t.0) (drop n t.0) ∙ ap (λ x. bytes ++ x) (take-append-drop n t.0)) in
    (drop n t.0, e ∙ ap (option_map (drop n)) t.1, t.2 ∙ ap Some all)

pub count_more : (room n : ℕ) (now next : Outside) (bytes after : List ℕ) → IsPiece room now next bytes after n → length after ≡ length bytes + n
count_more room n now next bytes after q = ap length q.bytes.1 ∙ length-append bytes q.bytes.0 ∙ ap (λ k. length bytes + k) q.bytes.2

pub part_more : (name : List ℕ) (room n : ℕ) (old now next : Outside) (bytes after : List ℕ) → IsPart name old now bytes → IsPiece room now next bytes after n → IsPart name old next after
part_more name room n old now next bytes after p q =
    let same = q.same in
    let count : length after ≡ length bytes + n = count_more room n now next bytes after q in
    let faults : next.read_faults ≡ now.read_faults = ap (λ o. o.read_faults) same in
    let taken : next.taken ≡ min (now.taken + n) most = ap (λ o. o.taken) same in
    record {
      same = reading_then old now next p.same (reading_piece now next _ _ same);
      faults = faults ∙ p.faults;
      opened = ap (λ o. o.is_open) same ∙ p.opened;
      found = ap (λ o. o.found) same ∙ p.found;
      taken = omega (arith, taken, p.taken, count);
      told = told_more name old.files bytes after now.rest next.rest n (ap (λ o. o.rest) same) q.bytes p.told;
    }
