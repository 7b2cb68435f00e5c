-- Histories that are told one by one.
use Rattle.std.proofs.Common.{◌≡◌, ◌<◌, ℕ, ◌+◌, List, [], ◌∷◌, ◌++◌, sym, ap, ◌∙◌, length, get_or, map, take, arith}
use Rattle.std.proofs.lemmas.List.{take_more, get_or-map, length-map}
use Rattle.std.proofs.lemmas.List.Sums.{sum_by-append, sum_by-cons, sum_by-take-le}
use Rattle.bs_log.specs.declared.history.History.{History}
use Rattle.bs_log.specs.Size.{size, size_all}
use Rattle.bs_chare.specs.declared.chare.Chare.{Chare}
use Rattle.bs_emul.proofs.Chares.{history_of}

-- the histories of the chares before number i, and of that one
module _ (xs : List Chare) (i : ℕ) (x : Chare) (l : i < length xs) (e : x ≡ get_or xs i x) where
  abbrev all : List History
  all = map history_of xs

  abbrev so_far : List History
  so_far = take i all

  pub next_told : so_far ++ x.history ∷ [] ≡ take (i + 1) all
  next_told =
      let count = length-map xs history_of in
      let read : get_or all i x.history ≡ x.history = get_or-map history_of xs i x x.history l ∙ ap history_of (sym e) in
      sym (take_more all i x.history (omega (arith, l, count)) ∙ ap (λ h. so_far ++ h ∷ []) read)

  pub next_size : size_all (so_far ++ x.history ∷ []) ≡ size_all so_far + size x.history
  next_size =
      let both = sum_by-append size so_far (x.history ∷ []) in
      let one = sum_by-cons size x.history [] in
      omega (arith, both, one)

  pub too_long : (limit : ℕ) → limit < size_all so_far + size x.history → limit < size_all all
  too_long limit k =
      let here = next_size in
      let same = ap size_all next_told in
      let more = sum_by-take-le size all (i + 1) in
      omega (arith, k, here, same, more)
