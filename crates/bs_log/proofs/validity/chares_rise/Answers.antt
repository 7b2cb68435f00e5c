use Rattle.std.proofs.Common.{rules, refl}
use Rattle.std.proofs.lemmas.Fn.{always_returns_same}
use Rattle.bs_log.proofs.Chains.{chain_is}
use Rattle.bs_log.specs.ValidTest.{chare_is_up_to}
use Rattle.bs_log.proofs.validity.chares_rise.Goals as goal

pub returns : goal.returns
returns c = chain_is chare_is_up_to _ _ (c.is_sorted_by.ensures.cases chare_is_up_to (always_returns_same _ _ _ (λ a r f called. (search rules, refl))))
