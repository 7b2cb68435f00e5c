-- What is denied with something that follows from it.
use Rattle.bs_model.specs.declared.stop.Stop.{Stop}
use Rattle.bs_model.specs.declared.stop.Stop.TheVariants.{Unclean, Memory}
use Rattle.bs_model.specs.Stop.{Denies}

pub denies_also : (P Q : Type 0) → (Q → P) → (s : Stop) → Denies P s → Denies Q s
denies_also P Q f Unclean d = λ q. d (f q)
denies_also P Q f Memory d = tt
