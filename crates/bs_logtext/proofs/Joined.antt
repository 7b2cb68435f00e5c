-- Texts that are written piece by piece.
use Rattle.std.proofs.Common.{◌≡◌, ℕ, List, [], ◌++◌}

-- the six parts of a log, one behind the other
pub joined : (start head counts rows traps waits last after1 after2 after3 after4 after5 after6 : List ℕ) → start ≡ [] → after1 ≡ start ++ head
    → after2 ≡ after1 ++ counts → after3 ≡ after2 ++ rows → after4 ≡ after3 ++ traps → after5 ≡ after4 ++ waits → after6 ≡ after5 ++ last
    → after6 ≡ head ++ counts ++ rows ++ traps ++ waits ++ last
joined start head counts rows traps waits last after1 after2 after3 after4 after5 after6 e0 e1 e2 e3 e4 e5 e6 = rw (e6, e5, e4, e3, e2, e1, e0)
