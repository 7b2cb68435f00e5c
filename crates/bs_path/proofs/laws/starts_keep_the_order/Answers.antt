use Rattle.bs_path.proofs.Apart.{in_order}
use Rattle.bs_path.proofs.laws.starts_keep_the_order.Goals as goal

pub returns : goal.returns
returns c = λ net causal s table p i j on jn. in_order net causal s table p i j on jn
