-- Ticks below a bound.
use Rattle.std.proofs.Common.{◌<◌, ◌^◌, ◌⊎◌, inl, inr, List, [], ◌∷◌, ◌++◌, sym, subst}
use Rattle.bs_log.specs.Lists.{Mem}
use Rattle.bs_num.specs.declared.ticks.Tick.{Tick}
use Rattle.bs_times.proofs.Members.{mem_cases}

-- one more.
pub early_more : (ticks : List Tick) (tick : Tick) → tick.0 < 2 ^ 107 → ((t : Tick) → Mem t ticks → t.0 < 2 ^ 107) → (t : Tick) → Mem t (ticks ++ tick ∷ []) → t.0 < 2 ^ 107
early_more ticks tick small h t m = go (mem_cases t ticks (tick ∷ []) m)
  where
    go : Mem t ticks ⊎ Mem t (tick ∷ []) → t.0 < 2 ^ 107
    go (inl n) = h t n
    go (inr (inl e)) = subst (λ (x : Tick). x.0 < 2 ^ 107) (sym e) small
    go (inr (inr n)) = absurd n
