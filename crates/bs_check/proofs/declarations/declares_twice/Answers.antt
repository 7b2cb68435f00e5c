use Rattle.std.proofs.Common.{length}
use Rattle.bs_check.proofs.Twice.{all_below}
use Rattle.bs_check.proofs.declarations.declares_twice.Goals as goal

pub repeats-requires : goal.repeats-requires
repeats-requires c =
    let p = c.args.program.now in
    let all = all_below p (length p.names) c.requires.vars c.requires.entries in
    rw (c.as_slice-2.ensures, c.as_slice.ensures.value, c.in_ok-names.ensures) all
