use Rattle.std.proofs.Common.{◌≡◌, ◌<◌, ◌∙◌, sym, false, get_or, replicate, length, refl, arith}
use Rattle.std.proofs.lemmas.List.{get_or_read}
use Rattle.bs_check.proofs.Twice.{no_hit, one_more}
use Rattle.bs_check.proofs.declarations.repeats.Goals as goal

pub loop-name-init : goal.loop-name-init
loop-name-init c =
    let made : c.in_ok-seen.seen.items ≡ replicate c.args.count false = c.in_ok-seen.ensures.items_if_clones_equal (λ y h. h) in
    record { size = c.in_ok-seen.ensures.len; so_far = rw (made, no_hit c.args.count c.args.names.now) refl }

pub loop-name-preserved : goal.loop-name-preserved
loop-name-preserved c =
    let i = c.loop-name.name-index in
    let names = c.args.names.now in
    let marks = c.loop-name.seen.items in
    let below = c.requires i 0 (omega arith) in
    let within : get_or names i 0 < length marks = omega (arith, c.loop-name.invariant.size, c.loop-name.seen.ok.0) in
    let unmarked : get_or marks (get_or names i 0) false ≡ false = sym (get_or_read marks _ _ within c.index.ensures false) ∙ c.if-index.false in
    record { size = c.loop-name.invariant.size; so_far = one_more marks names i (omega arith) within unmarked ∙ c.loop-name.invariant.so_far }
