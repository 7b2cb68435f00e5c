use Rattle.std.proofs.Common.{sym, ◌∙◌}
use Rattle.bs_desk.proofs.VersionLemmas.{bytes_at-seen_of}
use Rattle.bs_desk.proofs.versions.bytes_of.Goals as goal

pub returns : goal.returns
returns c = c.deref.ensures.value ∙ sym (bytes_at-seen_of c.args.files.now c.args.place c.index-files-place.result c.requires)
