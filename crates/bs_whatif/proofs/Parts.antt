-- Texts that are written in two parts.
use Rattle.std.proofs.Common.{◌≡◌, ℕ, List, [], ◌++◌, ap, ◌∙◌}

pub two_parts : (none a b begun whole : List ℕ) → none ≡ [] → begun ≡ none ++ a → whole ≡ begun ++ b → whole ≡ a ++ b
two_parts none a b begun whole empty first second = second ∙ ap (λ text. text ++ b) (first ∙ ap (λ text. text ++ a) empty)
