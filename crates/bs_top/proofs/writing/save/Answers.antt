use Rattle.std.proofs.Common.{subst}
use Rattle.bs_desk.specs.declared.desk.Port.TheVariants as port
use Rattle.bs_desk.specs.Outside.{Outside}
use Rattle.bs_desk.specs.Whole.{WritesAll}
use Rattle.bs_top.proofs.Placed.{put_file}
use Rattle.bs_top.proofs.writing.save.Goals as goal

pub returns : goal.returns
returns g c =
    let old = g.D.Desk.world c.args.desk.now in
    let new = g.D.Desk.world c.write_all.new.desk in
    put_file old new c.args.name.now c.args.text.now c.write_all.result
    (subst (λ (o : Outside). WritesAll port.File c.args.text.now o new c.write_all.result) c.in_ok-create.ensures c.write_all.ensures.answer)
