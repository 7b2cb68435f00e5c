-- Texts that are written piece by piece.
use Rattle.std.proofs.Common.{◌≡◌, ℕ, List, [], ◌++◌}

-- the six parts of a report, one behind the other
pub joined : (start status blocks traps waits span loads after1 after2 after3 after4 after5 after6 : List ℕ) → start ≡ [] → after1 ≡ start ++ status
    → after2 ≡ after1 ++ blocks → after3 ≡ after2 ++ traps → after4 ≡ after3 ++ waits → after5 ≡ after4 ++ span → after6 ≡ after5 ++ loads
    → after6 ≡ status ++ blocks ++ traps ++ waits ++ span ++ loads
joined start status blocks traps waits span loads after1 after2 after3 after4 after5 after6 e0 e1 e2 e3 e4 e5 e6 = rw (e6, e5, e4, e3, e2, e1, e0)
