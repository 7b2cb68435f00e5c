use Rattle.std.proofs.Common.{ap, ◌∙◌}
use Rattle.bs_model.specs.Book.{at_key, keyed}
use Rattle.bs_model.proofs.Books.{looks_up}
use Rattle.bs_model.proofs.book.Book.find.Goals as goal

pub returns : goal.returns
returns c = c.get.ensures.value ∙ (looks_up (λ k. k.items) c.in_ok-key.key.items c.args.self.now.blocks.entries ∙ ap (λ key. at_key (keyed c.args.self.now) key) c.in_ok-key.ensures)
