use Rattle.std.proofs.Common.{arith}
use Rattle.bs_semantics.proofs.laws.verdict.Goals as goal
use Rattle.bs_semantics.proofs.Ambiguous.{once_of, of_once}
use Rattle.bs_semantics.proofs.Verdicts.{some_verdict, one_verdict, not_all}

pub returns : goal.returns
returns c = record {
  some = some_verdict;
  soon = λ p limit h. not_all p limit (λ m l. h m (omega (arith, l)));
  named = λ hs. (once_of hs, of_once hs);
  one = one_verdict;
}
