use Rattle.std.proofs.Common.{refl}
use Rattle.bs_top.proofs.Reading.{read_whole, read_missing, read_too_big}
use Rattle.bs_top.proofs.Stages.{each}
use Rattle.bs_top.proofs.inputs.file.Goals as goal

pub returns-in-Ok-clause-told : goal.returns-in-Ok-clause-told
returns-in-Ok-clause-told g c =
    let old = (g.D.Desk.world c.args.desk.now).files in
    let is = c.in-Ok.ensures.answer in
    each old old _ _ refl (λ files h. read_whole c.args.most files c.args.name.now c.in-Ok.bytes.items h.0 is.within) is.told

pub returns-in-Err-Missing-clause-told : goal.returns-in-Err-Missing-clause-told
returns-in-Err-Missing-clause-told g c =
    let old = (g.D.Desk.world c.args.desk.now).files in
    let is = rw c.in-Err-Missing.field-0-is at c.in-Err-Missing.ensures.answer in
    each old old _ _ refl (λ files h. read_missing c.args.most files c.args.name.now h) is.told

pub returns-in-Err-TooBig-clause-told : goal.returns-in-Err-TooBig-clause-told
returns-in-Err-TooBig-clause-told g c =
    let old = (g.D.Desk.world c.args.desk.now).files in
    let is = rw c.in-Err-TooBig.field-0-is at c.in-Err-TooBig.ensures.answer in
    each old old _ _ refl (λ files h. read_too_big c.args.most files c.args.name.now h.0 c.in-Err-TooBig.limit h.1 is.given h.2) is.told
