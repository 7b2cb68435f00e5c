use Rattle.bs_semantics.proofs.Examples.{exchange_runs, sends_twice_is, asks_twice_is, waits_both_is}
use Rattle.bs_semantics.proofs.laws.worked_examples.Goals as goal

pub returns : goal.returns
returns c = record { exchange = exchange_runs; sent_twice = sends_twice_is; asked_twice = asks_twice_is; wait_for_each_other = waits_both_is }
