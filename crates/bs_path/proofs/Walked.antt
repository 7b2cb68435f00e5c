-- Rows that are gone through from a last one back.
use Rattle.std.proofs.Common.{◌≡◌, ◌<◌, ◌++◌, ℕ, suc, List, [], ◌∷◌, Option, Some, None, reverse, refl, sym, ap, subst, ◌∙◌, append_assoc, arith}
use Rattle.std.proofs.lemmas.List.{reverse-append}
use Rattle.bs_times.specs.Net.{Net, Starts, HasRow, Causal}
use Rattle.bs_path.specs.declared.links.Link.{Link}
use Rattle.bs_path.specs.declared.links.ChainRow.{ChainRow}
use Rattle.bs_path.specs.Chain.{IsLinkOf, LeadTo, begins, comes_from, goes_on, row_of_chain}
use Rattle.bs_path.proofs.OneLink.{named}

-- the rows that lead to the last one are those that lead to the next, and those that were gone through
abbrev pub HasWalked : Net → Starts → ℕ → List ChainRow → Option ℕ → Type 0
HasWalked net s last back None = LeadTo net s last (reverse back)
HasWalked net s last back (Some i) = HasRow net i × ((rows : List ChainRow) → LeadTo net s i rows → LeadTo net s last (rows ++ reverse back))

-- how far it is to tick 0
abbrev pub left : Starts → Option ℕ → ℕ
left s None = 0
left s (Some i) = suc (s i)

pub walked_none : (net : Net) (s : Starts) (i : ℕ) → HasRow net i → HasWalked net s i [] (Some i)
walked_none net s i has = (has, λ rows way. subst (LeadTo net s i) (sym (all rows)) way)
  where
    all : (rows : List ChainRow) → rows ++ reverse {A = ChainRow} [] ≡ rows
    all [] = refl
    all (r ∷ rs) = ap (λ xs. r ∷ xs) (all rs)

module _ (net : Net) (c : Causal net) (s : Starts) (last i : ℕ) (back : List ChainRow) (l : Link) (walked : HasWalked net s last back (Some i)) (is : IsLinkOf net s i l) where
  front : reverse (back ++ row_of_chain s i l ∷ []) ≡ row_of_chain s i l ∷ reverse back
  front = reverse-append back (row_of_chain s i l ∷ [])

  pub walked_more : (o : Option ℕ) → comes_from l ≡ o → HasWalked net s last (back ++ row_of_chain s i l ∷ []) o
  walked_more None e = subst (LeadTo net s last) (sym front) (walked.1 (row_of_chain s i l ∷ []) (begins i l walked.0 is e))
  walked_more (Some j) e = (
    (named net c s i j l walked.0 is.fits e).0,
    λ rows way. subst (LeadTo net s last) (append_assoc rows (row_of_chain s i l ∷ []) (reverse back) ∙ ap (λ xs. rows ++ xs) (sym front)) (walked.1 (rows ++ row_of_chain s i l ∷ []) (goes_on i j l rows walked.0 is e way)),
  )

  pub left_less : (o : Option ℕ) → comes_from l ≡ o → left s o < left s (Some i)
  left_less None e = omega arith
  left_less (Some j) e = omega (arith, (named net c s i j l walked.0 is.fits e).1)
