-- The log of the worked example is valid, and its machine is timely.
use Rattle.std.proofs.Common.{◌≡◌, ◌≤◌, ◌<◌, ◌==◌, ◌+◌, ◌/◌, ◌^◌, ℕ, Bool, true, false, if◌then◌else◌, refl, arith}
use Rattle.bs_log.specs.ValidTest.{passes, has_room, is_in_order, all_fit, rows_fit, row_fits, is_in_range, causes_fit, is_mail_cause, send_fits, is_block_cause, keys_are_apart}
use Rattle.bs_log.specs.Valid.{IsValid}
use Rattle.bs_log.proofs.ValidTests.{valid_is}
use Rattle.bs_times.specs.Machine.{IsTimely}
use Rattle.bs_times.specs.Example.{log, machine}

passes_all : passes log ≡ true
unfolding passes has_room is_in_order all_fit rows_fit row_fits is_in_range causes_fit is_mail_cause send_fits is_block_cause keys_are_apart
passes_all = refl

pub log_is_valid : IsValid log
log_is_valid = (valid_is log).0 passes_all

pub machine_is_timely : IsTimely machine
machine_is_timely = record { latency = λ from to bytes few. way (from == to) bytes few; duration = λ cost some most. (some, omega (arith, most)) }
  where
    way : (b : Bool) (bytes : ℕ) → bytes ≤ 2 ^ 30 → (1 ≤ (if b then 1 else 5 + (bytes + 63) / 64)) × ((if b then 1 else 5 + (bytes + 63) / 64) < 2 ^ 40)
    way true bytes few = (omega arith, omega arith)
    way false bytes few = (omega arith, omega (arith, few))
