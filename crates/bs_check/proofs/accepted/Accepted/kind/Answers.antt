use Rattle.std.proofs.Common.{◌≡◌, Some, slice_get}
use Rattle.bs_check.proofs.Placed.{is_placed, kind_is}
use Rattle.bs_check.proofs.accepted.Accepted.kind.Goals as goal

pub returns-clause-value : goal.returns-clause-value
returns-clause-value c =
    let s = c.args.self.now in
    let at : slice_get s.kinds.items c.args.name.0 ≡ Some (Some c.in-Some-Some.kind) = cc in
    kind_is s.program s.kinds.items c.args.name c.in-Some-Some.kind s.has_kinds c.requires at

pub returns-clause-placed : goal.returns-clause-placed
returns-clause-placed c =
    let s = c.args.self.now in
    let at : slice_get s.kinds.items c.args.name.0 ≡ Some (Some c.in-Some-Some.kind) = cc in
    is_placed s.program c.args.name c.in-Some-Some.kind (kind_is s.program s.kinds.items c.args.name c.in-Some-Some.kind s.has_kinds c.requires at)
