use Rattle.std.proofs.Common.{rules, refl, nat_lt}
use Rattle.std.proofs.lemmas.Fn.{always_returns_same}
use Rattle.bs_log.proofs.Chains.{chain_is}
use Rattle.bs_log.proofs.validity.numbers_rise.Goals as goal

pub returns : goal.returns
returns c = chain_is nat_lt _ _ (c.is_sorted_by.ensures.cases nat_lt (always_returns_same _ _ _ (λ a r f called. (search rules, refl))))
