use Rattle.std.proofs.Common.{◌≡◌, ◌++◌, map}
use Rattle.bs_model.specs.Book.{keyed}
use Rattle.bs_model.proofs.book.Book.rows.Given as goal

abbrev pub invariant-loop-begun : goal.invariant-loop-begun
invariant-loop-begun l = l.rows ++ map (λ b. b.row) l.begun-iterator ≡ map (λ e. e.1.row) (keyed l.fn.self)
