use Rattle.std.proofs.Common.{ap, ◌∙◌, map}
use Rattle.bs_model.specs.Book.{put_key, keyed}
use Rattle.bs_model.proofs.Books.{inserts, seen}
use Rattle.bs_model.proofs.book.Book.put.Goals as goal

pub returns : goal.returns
returns c =
    ap (map (seen (λ k. k.items))) c.in_ok-insert.ensures.entries
    ∙ (inserts (λ k. k.items) c.in_ok-key.key c.args.begun c.args.self.now.blocks.entries
    ∙ ap (λ key. put_key key c.args.begun (keyed c.args.self.now)) c.in_ok-key.ensures)
