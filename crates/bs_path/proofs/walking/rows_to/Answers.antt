use Rattle.std.proofs.Common.{◌≡◌, ◌<◌, ◌++◌, ◌∙◌, [], ◌∷◌, Some, ap, subst, sym}
use Rattle.bs_rows.specs.Rows.{net_on}
use Rattle.bs_settle.specs.Timed.{numbers}
use Rattle.bs_path.specs.Chain.{row_of_chain, start_in}
use Rattle.bs_path.specs.declared.links.ChainRow.{ChainRow}
use Rattle.bs_path.proofs.Premises.{causal}
use Rattle.bs_path.proofs.Walked.{HasWalked, left, left_less, walked_more}
use Rattle.bs_path.proofs.walking.rows_to.Goals as goal

pub loop-next-smaller : goal.loop-next-smaller
loop-next-smaller c =
    let net = net_on c.args.log.now c.args.machine.now in
    let s = start_in (numbers c.args.starts.now) in
    let l = c.chain_row-row.result.link in
    let walked : HasWalked net s c.args.last c.loop-next.back.items (Some c.in-Some.number) = subst (HasWalked net s c.args.last c.loop-next.back.items) c.in-Some.is c.loop-next.invariant in
    let less : left s c.comes_from-next.result < left s (Some c.in-Some.number) = left_less net (causal c.args.log.now c.args.machine.now c.requires.valid) s c.args.last c.in-Some.number c.loop-next.back.items l walked c.chain_row-row.ensures.link c.comes_from-next.result (sym c.comes_from-next.ensures) in
    subst (λ o. left s c.comes_from-next.result < left s o) (sym c.in-Some.is) less

pub loop-next-preserved : goal.loop-next-preserved
loop-next-preserved c =
    let net = net_on c.args.log.now c.args.machine.now in
    let s = start_in (numbers c.args.starts.now) in
    let l = c.chain_row-row.result.link in
    let walked : HasWalked net s c.args.last c.loop-next.back.items (Some c.in-Some.number) = subst (HasWalked net s c.args.last c.loop-next.back.items) c.in-Some.is c.loop-next.invariant in
    let more : HasWalked net s c.args.last (c.loop-next.back.items ++ row_of_chain s c.in-Some.number l ∷ []) c.comes_from-next.result = walked_more net (causal c.args.log.now c.args.machine.now c.requires.valid) s c.args.last c.in-Some.number c.loop-next.back.items l walked c.chain_row-row.ensures.link c.comes_from-next.result (sym c.comes_from-next.ensures) in
    let pushed : c.push.new.self.items ≡ c.loop-next.back.items ++ row_of_chain s c.in-Some.number l ∷ [] = c.in_ok-push.ensures.items ∙ ap (λ (r : ChainRow). c.loop-next.back.items ++ r ∷ []) c.chain_row-row.ensures.row in
    subst (λ xs. HasWalked net s c.args.last xs c.comes_from-next.result) (sym pushed) more
