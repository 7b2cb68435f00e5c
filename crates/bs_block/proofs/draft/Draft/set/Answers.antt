use Rattle.std.proofs.Common.{◌≡◌, rules, to_z, of_z, slice_set, ap, ◌∙◌, w64}
use Rattle.bs_block.proofs.Drafts.{set_seen}
use Rattle.bs_block.proofs.draft.Draft.set.Goals as goal

pub returns-clause-ok : goal.returns-clause-ok
returns-clause-ok c =
    let d = c.self.inside in
    let same : to_z w64 (of_z w64 c.args.value) ≡ c.args.value = search rules in
    let got : to_z w64 (of_z w64 c.get.result) ≡ c.get.result = search rules in
    let wrote = c.set.ensures ∙ ap (λ v. record d.env { cells = slice_set d.env.cells c.args.cell v }) same in
    rw (← c.self.view_is) (set_seen d.env c.set.new.self d.held.items c.push.new.self.items c.args.cell c.args.value (to_z w64 (of_z w64 c.get.result)) wrote (got ∙ c.get.ensures) c.in_ok-push.ensures.items)
