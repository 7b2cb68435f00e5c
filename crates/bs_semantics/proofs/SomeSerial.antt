-- The serial machine model gives an answer: started blocks are blocks of the histories, each once, so that a clean state
-- has no more of them than the limit.
use Rattle.std.proofs.Common.{◌≡◌, ◌≤◌, ◌⊎◌, inl, inr, ℕ, zero, suc, ◌+◌, List, [], ◌∷◌, Equal, refl, sym, ap, subst, ◌∙◌, length, length-append, map, arith, nat_cmp}
use Rattle.std.specs.Ordering.{ordering_then}
use Rattle.std.specs.Cmp.Lexicographic.{slice_cmp}
use Rattle.std.proofs.lemmas.Cmp.{tied_itself}
use Rattle.std.proofs.lemmas.List.{length-map}
use Rattle.bs_tree.specs.declared.tree.Program.{Program}
use Rattle.bs_log.specs.declared.history.History.{History}
use Rattle.bs_log.specs.Lists.{Mem}
use Rattle.bs_semantics.specs.Rounds.{CleanAt}
use Rattle.bs_semantics.specs.Depth.{all_blocks}
use Rattle.bs_semantics.specs.Serial.{Machine, Started, Simulated, timed, unclean, Gives, stops, ends, starts, IsSerial, IsClean, IsNext, histories_at, started_cmp, outcome}
use Rattle.bs_semantics.specs.Starting.{NoneEnabled}
use Rattle.bs_semantics.specs.Reached.{IsReached, begins, goes_on, Placed, blocks_from, placed}
use Rattle.bs_semantics.proofs.Members.{map_of, in_order_map}
use Rattle.bs_semantics.proofs.Sizes.{count_all}
use Rattle.bs_semantics.proofs.Reached.{apart, started_total, in_place, timed_shows}
use Rattle.bs_semantics.proofs.Distinct.{Distinct, no_longer}
use Rattle.bs_semantics.proofs.Least.{Decided}
use Rattle.bs_semantics.proofs.Deciding.{is_clean, next_or_none}

count_placed : (c : ℕ) (hs : List History) → length (blocks_from c hs) ≡ length (all_blocks hs)
count_placed c [] = refl
count_placed c (h ∷ hs) =
    let one = length-append (map (λ x. record { chare = c; block = x }) h.blocks) (blocks_from (c + 1) hs) in
    let two = length-append h.blocks (all_blocks hs) in
    let three = length-map {B = Placed} h.blocks (λ x. record { chare = c; block = x }) in
    let more = count_placed (c + 1) hs in
    omega (arith, one, two, three, more)

module _ (p : Program) (limit : ℕ) (m : Machine) where
  differ : (bs : List Started) → IsReached p limit m bs → Distinct (map placed bs)
  differ bs r = in_order_map placed (λ a b. started_cmp m a b ≡ Equal → ⊥) (λ x y. x ≡ y → ⊥) (λ a b h e. h (tied a b e)) bs (apart p limit m bs r)
    where
      tied : (a b : Started) → placed a ≡ placed b → started_cmp m a b ≡ Equal
      tied a b e = ap (λ (x : Placed). ordering_then (nat_cmp x.chare b.chare) (slice_cmp nat_cmp x.block.path.0 b.block.path.0)) e ∙ tied_itself (started_total p limit m bs r) b

  in_histories : (bs : List Started) → IsReached p limit m bs → (a : Placed) → Mem a (map placed bs) → Mem a (blocks_from 0 (histories_at p limit bs))
  in_histories bs r a i =
      let o = map_of placed bs a i in
      subst (λ a. Mem a (blocks_from 0 (histories_at p limit bs))) (sym o.is) (in_place p limit m bs r o.from o.is_in)

  -- a clean state that is reached has no more started blocks than the limit
  few : (bs : List Started) → IsReached p limit m bs → IsClean p limit bs → length bs ≤ limit
  few bs r clean =
      let one = no_longer (map placed bs) (blocks_from 0 (histories_at p limit bs)) (differ bs r) (in_histories bs r) in
      let two = length-map bs placed in
      let three = count_placed 0 (histories_at p limit bs) in
      let four = count_all (histories_at p limit bs) in
      let size = clean.size in
      omega (arith, one, two, three, four, size)

  abbrev Answer : List Started → Type 0
  Answer bs = (r : Simulated) × Gives p limit m bs r

  -- one state: it isn't clean, or a block is started next, or the model is at its end
  answer_of : (bs : List Started) → ((b : Started) → IsClean p limit bs → IsNext m p limit bs b → Answer (b ∷ bs)) → Answer bs
  answer_of bs next = by_clean (is_clean p limit bs)
    where
      by_next : IsClean p limit bs → ((b : Started) × IsNext m p limit bs b) ⊎ NoneEnabled p limit bs → Answer bs
      by_next clean (inl n) = let g = next n.0 clean n.1 in (g.0, starts bs n.0 g.0 clean n.1 g.1)
      by_next clean (inr none) = (timed (outcome m p limit bs), ends bs clean none)

      by_clean : Decided (IsClean p limit bs) → Answer bs
      by_clean (inl clean) = by_next clean (next_or_none p limit bs m)
      by_clean (inr not_clean) = (unclean, stops bs not_clean)

  -- each step starts one more block
  answer_from : (fuel : ℕ) (bs : List Started) → IsReached p limit m bs → suc limit ≤ fuel + length bs → Answer bs
  answer_from zero bs h l = answer_of bs (λ b clean n. let k = few bs h clean in absurd (omega (arith, l, k)))
  answer_from (suc fuel) bs h l = answer_of bs (λ b clean n. answer_from fuel (b ∷ bs) (goes_on bs b h clean n) (omega (arith, l)))

  pub some_answer : (r : Simulated) × IsSerial p limit m r
  some_answer = answer_from (suc limit) [] begins (omega arith)

  pub unclean_answer : ((n : ℕ) → CleanAt p limit n → ⊥) → IsSerial p limit m unclean
  unclean_answer none = by_answer some_answer.0 some_answer.1
    where
      by_answer : (r : Simulated) → IsSerial p limit m r → IsSerial p limit m unclean
      by_answer unclean g = g
      by_answer (timed o) g = let s = timed_shows p limit m o g in absurd (none s.0 s.1)
