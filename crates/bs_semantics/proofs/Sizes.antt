-- The size of histories is at least the number of their blocks and of what they send.
use Rattle.std.proofs.Common.{◌≤◌, ℕ, List, [], ◌∷◌, length, length-append, le_refl, arith}
use Rattle.std.proofs.lemmas.List.Sums.{sum_by-cons}
use Rattle.std.specs.Prelude.{sum_by}
use Rattle.bs_log.specs.declared.history.Block.{Block}
use Rattle.bs_log.specs.declared.history.History.{History}
use Rattle.bs_log.specs.Size.{block_size, size, size_all}
use Rattle.bs_log.specs.Messages.{sends_of, sent}
use Rattle.bs_semantics.specs.Growth.{Subsequence, none, keep, skip}
use Rattle.bs_semantics.specs.Depth.{all_blocks}

-- a sum over a list with gaps is no greater
pub less : {A : Type 0} (f : A → ℕ) (xs ys : List A) → Subsequence A xs ys → sum_by f xs ≤ sum_by f ys
less f _ _ none = le_refl 0
less f _ _ (keep x xs ys h) =
    let more = less f xs ys h in
    let a = sum_by-cons f x xs in
    let b = sum_by-cons f x ys in
    omega (arith, more, a, b)
less f _ _ (skip y xs ys h) =
    let more = less f xs ys h in
    let b = sum_by-cons f y ys in
    omega (arith, more, b)

pub count_blocks : (xs : List Block) → length xs ≤ sum_by block_size xs
count_blocks [] = le_refl 0
count_blocks (x ∷ xs) =
    let more = count_blocks xs in
    let both = sum_by-cons block_size x xs in
    omega (arith, more, both)

pub count_all : (hs : List History) → length (all_blocks hs) ≤ size_all hs
count_all [] = le_refl 0
count_all (h ∷ hs) =
    let one = count_blocks h.blocks in
    let more = count_all hs in
    let long = length-append h.blocks (all_blocks hs) in
    let both = sum_by-cons size h hs in
    omega (arith, one, more, long, both)

count_sends : (bs : List Block) → length (sends_of bs) ≤ sum_by block_size bs
count_sends [] = le_refl 0
count_sends (b ∷ bs) =
    let more = count_sends bs in
    let long = length-append b.sends (sends_of bs) in
    let both = sum_by-cons block_size b bs in
    omega (arith, more, long, both)

pub count_sent : (hs : List History) → length (sent hs) ≤ size_all hs
count_sent [] = le_refl 0
count_sent (h ∷ hs) =
    let one = count_sends h.blocks in
    let more = count_sent hs in
    let long = length-append (sends_of h.blocks) (sent hs) in
    let both = sum_by-cons size h hs in
    omega (arith, one, more, long, both)
