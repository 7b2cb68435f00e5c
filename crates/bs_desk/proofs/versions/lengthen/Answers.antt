use Rattle.std.proofs.Common.{refl}
use Rattle.bs_desk.proofs.VersionLemmas.{on_ok, on_err}
use Rattle.bs_desk.proofs.versions.lengthen.Goals as goal

pub returns-clause-ok : goal.returns-clause-ok
returns-clause-ok c = on_ok c.extend_from_slice.result c.args.files.now c.args.place c.index-files-place.result _ c.args.bytes.now c.requires refl c.extend_from_slice.ensures.items

pub returns-clause-err : goal.returns-clause-err
returns-clause-err c = on_err c.extend_from_slice.result c.args.files.now c.args.place c.index-files-place.result _ c.args.bytes.now c.requires refl c.extend_from_slice.ensures.items
