-- What was read of a file is what its contents say.
use Rattle.std.proofs.Common.{◌≡◌, ◌≤◌, ◌<◌, ℕ, List, length, ap, ◌∙◌, Some, None, Ok, Err, arith, nat_le, true, false, refl, subst, sym}
use Rattle.std.proofs.lemmas.Bool.Decides.{nat_tests}
use Rattle.std.specs.FinMap as map
use Rattle.bs_desk.specs.Outside.{Files}
use Rattle.bs_report.specs.declared.faults.Fault.TheVariants as fault
use Rattle.bs_top.specs.declared.stopped.Stopped.TheVariants.{Refused, NoFile}
use Rattle.bs_top.specs.Inputs.{contents, whole}

is_within : (n most : ℕ) → n ≤ most → nat_le n most ≡ true
is_within n most l = grind (arith, nat_tests, l)

is_over : (n most : ℕ) → most < n → nat_le n most ≡ false
is_over n most l = grind (arith, nat_tests, l)

pub read_whole : (most : ℕ) (files : Files) (name bytes : List ℕ) → map.get files name ≡ Some bytes → length bytes ≤ most → contents most files name (Ok bytes)
unfolding contents
read_whole most files name bytes get l = ap (whole most) get ∙ rw (is_within (length bytes) most l) refl

pub read_missing : (most : ℕ) (files : Files) (name : List ℕ) → map.get files name ≡ None → contents most files name (Err NoFile)
unfolding contents
read_missing most files name get = ap (whole most) get

pub read_too_big : (most : ℕ) (files : Files) (name bytes : List ℕ) (limit : ℕ) → map.get files name ≡ Some bytes → limit ≡ most → most < length bytes → contents most files name (Err (Refused (fault.TooBig limit)))
unfolding contents
read_too_big most files name bytes limit get is l = subst (λ n. whole most (map.get files name) ≡ Err (Refused (fault.TooBig n))) (sym is) (ap (whole most) get ∙ rw (is_over (length bytes) most l) refl)
