-- The steps of the loops over acts and turns.
use Rattle.std.proofs.Common.{◌≡◌, ℕ, suc, ◌+◌, ◌-◌, ◌<◌, true, nat_lt, List, ◌∷◌, drop, map, Ok, Err, sym, ap, ◌∙◌, if◌then◌else◌, arith}
use Rattle.bs_tree.specs.declared.tree.Act.{Act}
use Rattle.bs_tree.specs.declared.tree.Program.{Program}
use Rattle.bs_log.specs.declared.history.TrapKind.TheVariants as trap
use Rattle.bs_semantics.specs.Acts.{Tally, Acting, with_value, do_all, times, act_of}
use Rattle.bs_block.specs.declared.done.BlockFault.{BlockFault}
use Rattle.bs_block.specs.declared.done.BlockFault.TheVariants.{Trap, Memory}
use Rattle.bs_block.specs.declared.progress.Progress.{Progress}
use Rattle.bs_block.specs.Env.{ChareCells}
use Rattle.bs_block.specs.Progress.{Leaves, Steps, tally_of}

-- one more act that was done
pub act_on : (p : Program) (this now : ℕ) (xs : List Act) (i : ℕ) (x : Act) → drop i xs ≡ x ∷ drop (i + 1) xs → (t u : Tally) → now ≡ this → act_of p this x t ≡ Ok u → do_all (map (act_of p now) (drop (i + 1) xs)) u ≡ do_all (map (act_of p this) (drop i xs)) t
act_on p this now xs i x d t u n e =
    ap (λ n. do_all (map (act_of p n) (drop (i + 1) xs)) u) n
    ∙ sym (ap (λ ys. do_all (map (act_of p this) ys) t) d ∙ ap (λ r. with_value r (do_all (map (act_of p this) (drop (i + 1) xs)))) e)

-- one turn for which there is a step
turn_is : (n k : ℕ) → k < n → (ds : List Acting) (t : Tally) → nat_lt t.steps 100000 ≡ true → times (n - k) ds t ≡ with_value (do_all ds (record t { steps = t.steps + 1 })) (times (n - (k + 1)) ds)
turn_is n k l ds t s =
    let one : n - k ≡ suc (n - (k + 1)) = omega arith in
    ap (λ m. times m ds t) one ∙ ap (λ b. if b then with_value (do_all ds (record t { steps = t.steps + 1 })) (times (n - (k + 1)) ds) else Err trap.Steps) s

module _ (p : Program) (acts : List Act) (n k : ℕ) where
  -- a turn that was done
  pub turn_on : k < n → (this now : ℕ) → now ≡ this → (e : ChareCells) (old new : Progress) → Steps old new (Ok tt) → (u : Tally) → do_all (map (act_of p this) acts) (tally_of e new) ≡ Ok u → times (n - (k + 1)) (map (act_of p now) acts) u ≡ times (n - k) (map (act_of p this) acts) (tally_of e old)
  turn_on l this now q e old new s u h =
      let ds = map (act_of p this) acts in
      ap (λ m. times (n - (k + 1)) (map (act_of p m) acts) u) q
      ∙ sym (turn_is n k l ds (tally_of e old) s.0 ∙ (ap (λ g. with_value (do_all ds (tally_of e g)) (times (n - (k + 1)) ds)) (sym s.1) ∙ ap (λ d. with_value d (times (n - (k + 1)) ds)) h))

  -- a turn that wasn't
  pub turn_off : k < n → (this : ℕ) (e : ChareCells) (old new : Progress) → Steps old new (Ok tt) → (now : Tally) (fault : BlockFault) → Leaves (do_all (map (act_of p this) acts) (tally_of e new)) now (Err fault) → Leaves (times (n - k) (map (act_of p this) acts) (tally_of e old)) now (Err fault)
  turn_off l this e old new s now (Trap kind) h =
      let ds = map (act_of p this) acts in
      turn_is n k l ds (tally_of e old) s.0 ∙ (ap (λ g. with_value (do_all ds (tally_of e g)) (times (n - (k + 1)) ds)) (sym s.1) ∙ ap (λ d. with_value d (times (n - (k + 1)) ds)) h)
  turn_off l this e old new s now Memory h = tt
