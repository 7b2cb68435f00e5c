use Rattle.std.proofs.Common.{rules, refl}
use Rattle.std.proofs.lemmas.Fn.{always_returns_same}
use Rattle.bs_log.proofs.Chains.{chain_is}
use Rattle.bs_log.specs.ValidTest.{ref_is_lower}
use Rattle.bs_log.proofs.validity.refs_rise.Goals as goal

pub returns : goal.returns
returns c = chain_is ref_is_lower _ _ (c.is_sorted_by.ensures.cases ref_is_lower (always_returns_same _ _ _ (λ a r f called. (search rules, refl))))
