use Rattle.std.proofs.Common.{◌≡◌, ◌-◌, ◌∷◌, [], arith, ap, ◌∙◌, length, length-append, take, take_at}
use Rattle.bs_history.proofs.trail.pop_place.Goals as goal

pub returns : goal.returns
returns c places place e =
    let same = ap length e in
    let sum = length-append places (place ∷ []) in
    let o = c.args.path.now.ok.0 in
    let len : length places ≡ c.args.path.now.len - 1 = omega (arith, same, sum, o) in
    c.pop.ensures.rest ∙ (ap (take (c.args.path.now.len - 1)) e ∙ take_at places (place ∷ []) (c.args.path.now.len - 1) len)
