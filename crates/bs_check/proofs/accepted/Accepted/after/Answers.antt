use Rattle.std.proofs.Common.{◌-◌, ◌<◌, ◌∙◌, refl, length, slice_get, ap, sym, arith}
use Rattle.std.proofs.lemmas.Option.{slice_get_read}
use Rattle.bs_check.proofs.Standing.{ends_count}
use Rattle.bs_check.proofs.accepted.Accepted.after.Goals as goal

pub index-requires : goal.index-requires
index-requires c =
    let s = c.args.self.now in
    let count = ap length s.has_ends ∙ ends_count s.program in
    omega (arith, count)

pub returns : goal.returns
returns c =
    let s = c.args.self.now in
    let count = ap length s.has_ends ∙ ends_count s.program in
    let least : c.args.number - 1 < length s.ends.items = omega (arith, count) in
    sym (ap (λ ends. slice_get ends (c.args.number - 1)) s.has_ends) ∙ slice_get_read s.ends.items (length s.ends.items) (c.args.number - 1) c.index.result.now refl least c.index.ensures
