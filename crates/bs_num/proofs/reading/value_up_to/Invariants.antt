use Rattle.std.proofs.Common.{◌≡◌, ◌≤◌, ◌+◌, ◌*◌, ◌-◌, drop}
use Rattle.std.specs.Prelude.{fold}
use Rattle.bs_num.specs.Decimal.{value_of}
use Rattle.bs_num.proofs.reading.value_up_to.Given as goal

abbrev pub invariant-loop-digit : goal.invariant-loop-digit
invariant-loop-digit l = record {
  within : l.number ≤ l.most;
  so_far : fold (λ number digit. number * 10 + (digit - 48)) l.number (drop l.digit-index l.digits) ≡ value_of l.digits;
}
