-- Texts that are written one after another.
use Rattle.std.proofs.Common.{◌≡◌, ℕ, List, [], ◌++◌, append_assoc, refl}

-- three parts behind a text
pub three_parts : (text x y z a b c : List ℕ) → a ≡ text ++ x → b ≡ a ++ y → c ≡ b ++ z → c ≡ text ++ ((x ++ y) ++ z)
three_parts text x y z a b c e f g = rw (g, f, e, append_assoc text x y, append_assoc text (x ++ y) z) refl

-- three parts of a whole text
pub three_of_all : (text x y z a b c : List ℕ) → text ≡ [] → a ≡ text ++ x → b ≡ a ++ y → c ≡ b ++ z → c ≡ (x ++ y) ++ z
three_of_all text x y z a b c h e f g = rw (g, f, e, h) refl
