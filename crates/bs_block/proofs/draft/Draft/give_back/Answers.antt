use Rattle.std.proofs.Common.{ℕ, ◌<◌, Some, List, All, length, ap, sym, subst, ◌∙◌}
use Rattle.std.proofs.lemmas.List.{length-set}
use Rattle.std.proofs.lemmas.List.Elements.{All-pop}
use Rattle.bs_block.specs.declared.draft.Held.{Held}
use Rattle.bs_block.proofs.Drafts.{put_back}
use Rattle.bs_block.proofs.draft.Draft.give_back.Goals as goal

abbrev AllBelow : ℕ → List Held → Type 0
AllBelow n hs = All (λ h. h.cell < n) hs

pub loop-was-preserved : goal.loop-was-preserved
loop-was-preserved c =
    let inv = c.loop-was.invariant in
    let cells = c.loop-was.env.cells in
    let rest = All-pop (λ h. h.cell < length cells) c.loop-was.held.items c.pop.new.self.items (Some c.in-Some.was) c.in-Some.ensures.items inv.exist in
    record {
      this = ap (λ e. e.this) c.put_back.ensures ∙ inv.this;
      before = put_back c.loop-was.held.items c.pop.new.self.items c.in-Some.was c.in-Some.ensures.items cells c.put_back.new.env.cells (ap (λ e. e.cells) c.put_back.ensures) ∙ inv.before;
      exist = subst (λ n. AllBelow n c.pop.new.self.items) (sym (ap (λ e. length e.cells) c.put_back.ensures ∙ length-set cells c.in-Some.was.cell c.in-Some.was.value)) rest.0;
    }
