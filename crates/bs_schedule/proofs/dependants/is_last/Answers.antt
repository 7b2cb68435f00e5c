use Rattle.std.proofs.Common.{◌≡◌, ◌-◌, length, get_or, sym, ◌∙◌, subst, arith}
use Rattle.std.proofs.lemmas.Bool.Decides.{nat_tests}
use Rattle.bs_log.specs.Lists.{Mem}
use Rattle.bs_schedule.proofs.Places.{place_mem}
use Rattle.bs_schedule.proofs.dependants.is_last.Goals as goal

pub returns-in-Some : goal.returns-in-Some
returns-in-Some c same =
    let rows = c.args.rows.now in
    let item = c.in-Some.ensures.item in
    let last : c.in-Some.last.now ≡ get_or rows (length rows - 1) 0 = item.3.1 0 in
    let equal : c.in-Some.last.now ≡ c.args.row = grind (arith, nat_tests) in
    subst (λ row. Mem row rows) (sym last ∙ equal) (place_mem rows (length rows - 1) 0 (omega (arith, item.3.0)))
