use Rattle.std.proofs.Common.{◌++◌, map, ap₂, ◌∙◌}
use Rattle.bs_model.specs.declared.book.Begun.{Begun}
use Rattle.bs_model.proofs.Books.{values_seen}
use Rattle.bs_model.proofs.book.Book.rows.Goals as goal

pub loop-begun-init : goal.loop-begun-init
loop-begun-init c =
    ap₂ (λ rows bs. rows ++ map (λ (b : Begun). b.row) bs) c.new-rows.ensures (c.into_iter-begun-iterator.ensures.into_iter_gives ∙ c.into_values-begun-items.ensures.rest)
    ∙ values_seen (λ k. k.items) (λ (b : Begun). b.row) c.args.self.blocks.entries
