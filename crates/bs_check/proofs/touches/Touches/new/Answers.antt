use Rattle.std.proofs.Common.{◌≡◌, ◌<◌, replicate, None, false, arith}
use Rattle.bs_check.specs.declared.touches.Touch.{Touch}
use Rattle.std.proofs.lemmas.List.Elements.{All-replicate}
use Rattle.bs_check.specs.Touches.{IsBehind}
use Rattle.bs_check.proofs.touches.Touches.new.Goals as goal

pub returns-clause-behind : goal.returns-clause-behind
unfolding IsBehind
returns-clause-behind c =
    let nothing : Touch = record { overlap = 0; part = 0; writes = false; other = None } in
    let made : c.in_ok-vec.field-0.items ≡ replicate c.args.names nothing = c.in_ok-vec.ensures.items_if_clones_equal (λ y h. h) in
    let all = All-replicate (λ t. t.overlap < 1) c.args.names nothing (omega arith) in
    rw made all
