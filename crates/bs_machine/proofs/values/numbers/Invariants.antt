use Rattle.std.proofs.Common.{◌≡◌, ◌++◌, drop, option_map, true}
use Rattle.toml.specs.View.{items_view}
use Rattle.bs_machine.specs.Values.{numbers_in, are_within}
use Rattle.bs_machine.proofs.values.numbers.Given as goal

abbrev pub invariant-loop-value : goal.invariant-loop-value
invariant-loop-value l = record {
  value : option_map (λ ns. l.out.items ++ ns) (numbers_in l.low l.high (items_view (drop l.value-index l.items.items)))
      ≡ numbers_in l.low l.high (items_view l.items.items);
  range : are_within l.low l.high l.out.items ≡ true;
}
