-- A block is what its acts come to from no steps, no sends and a cost of 1.
use Rattle.std.proofs.Common.{◌≡◌, List, map, Result, Err, refl, ap, subst, ◌∙◌}
use Rattle.bs_tree.specs.declared.tree.Act.{Act}
use Rattle.bs_tree.specs.declared.tree.Program.{Program}
use Rattle.bs_semantics.specs.Acts.{Tally, Done, do_all, act_of, block_of}
use Rattle.bs_block.specs.declared.done.BlockFault.{BlockFault}
use Rattle.bs_block.specs.declared.done.BlockFault.TheVariants.{Trap, Memory}
use Rattle.bs_block.specs.declared.progress.Progress.{Progress}
use Rattle.bs_block.specs.Block.{IsBlock}
use Rattle.bs_block.specs.Draft.{Drafted, fresh}
use Rattle.bs_block.specs.Env.{ChareCells}
use Rattle.bs_block.specs.Progress.{Leaves, begun, tally_of}

abbrev ran : Program → List Act → Drafted → Progress → Done
ran p acts d g = do_all (map (act_of p d.now.this) acts) (tally_of d.now g)

is_block : (p : Program) (acts : List Act) (env : ChareCells) → ran p acts (fresh env) begun ≡ block_of p env.this acts env.cells
unfolding block_of
is_block p acts env = refl

pub block_left : (p : Program) (acts passed : List Act) (env : ChareCells) (d : Drafted) (g : Progress) → d ≡ fresh env → passed ≡ acts → g ≡ begun → (now : Tally) (r : Result Unit BlockFault) → Leaves (ran p passed d g) now r → Leaves (block_of p env.this acts env.cells) now r
block_left p acts passed env d g a b e now r h =
    subst (λ done. Leaves done now r) (ap (λ d. ran p passed d g) a ∙ (ap (λ acts. ran p acts (fresh env) g) b ∙ (ap (ran p acts (fresh env)) e ∙ is_block p acts env))) h

-- after a refusal the cells are as before
pub block_refused : (done : Done) (old new : ChareCells) (now : Tally) (fault : BlockFault) → new ≡ old → Leaves done now (Err fault) → IsBlock done old new (Err fault)
block_refused done old new now (Trap kind) e h = (h, e)
block_refused done old new now Memory e h = e
