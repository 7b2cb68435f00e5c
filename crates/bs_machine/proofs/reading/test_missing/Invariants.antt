use Rattle.std.proofs.Common.{◌≡◌, drop}
use Rattle.std.specs.List.{find}
use Rattle.toml.specs.View.{table_view}
use Rattle.bs_machine.specs.File.{is_missing, missing_fault, keys_given}
use Rattle.bs_machine.proofs.reading.test_missing.Given as goal

abbrev pub invariant-loop-key : goal.invariant-loop-key
invariant-loop-key l = missing_fault (find (λ k. is_missing k (table_view l.root)) (drop l.key-index l.key-items)) ≡ keys_given (table_view l.root)
