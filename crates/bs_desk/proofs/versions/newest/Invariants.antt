use Rattle.std.proofs.Common.{take}
use Rattle.bs_desk.specs.Versions.{seen_of}
use Rattle.bs_desk.proofs.VersionLemmas.{IsSought}
use Rattle.bs_desk.proofs.versions.newest.Given as goal

abbrev pub invariant-loop-place : goal.invariant-loop-place
invariant-loop-place l = IsSought (seen_of (take l.place l.files)) l.name l.newest
