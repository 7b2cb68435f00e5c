use Rattle.std.proofs.Common.{List, ℕ, [], ◌∷◌, ◌++◌, ap, ◌∙◌}
use Rattle.bs_desk.specs.Versions.{seen_of}
use Rattle.bs_desk.proofs.VersionLemmas.{seen_of-append, pair_is}
use Rattle.bs_desk.proofs.versions.push.Goals as goal

pub returns-clause-ok : goal.returns-clause-ok
returns-clause-ok c =
    ap seen_of c.in_ok-push.ensures.items ∙ seen_of-append c.args.files.now.items _
    ∙ ap (λ (p : List ℕ × List ℕ). seen_of c.args.files.now.items ++ p ∷ []) (pair_is _ _ _ _ c.in_ok-name.ensures.items c.in_ok-bytes.ensures.items)
