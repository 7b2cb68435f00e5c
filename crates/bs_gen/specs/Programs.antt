-- The texts of the generated programs, line by line. N and the seed are plain decimals. docs/workloads.md says what the
-- programs do.
use Rattle.std.specs.Prelude.{ℕ, List, [], ◌∷◌, ◌++◌, codes}
use Rattle.std.specs.List.{flat_map}
use Rattle.std.specs.Fmt.{decimal}
use Rattle.bs_gen.specs.declared.workload.Workload.{Workload}
use Rattle.bs_gen.specs.declared.workload.Workload.TheVariants.{Ring, Stencil, Tree}

-- In each of 20 turns a token goes round all chares once. Chare 0 sends it with the number of the turn, and emits what
-- comes back; every other chare adds 1.
abbrev pub ring_lines : ℕ → ℕ → List (List ℕ)
ring_lines n seed =
    (codes "chares " ++ decimal n ++ codes ";")
    ∷ codes "var i;"
    ∷ codes "var v;"
    ∷ codes "entry token(1);"
    ∷ codes "body {"
    ∷ codes "for (i = 0; i < 20; i = i + 1) {"
    ∷ codes "if (this == 0) {"
    ∷ (codes "serial { work (i * 7 + " ++ decimal seed ++ codes ") % 50; send token[i](i) to (this + 1) % chares; }")
    ∷ codes "when token[i](v) { serial { emit v; } }"
    ∷ codes "} else {"
    ∷ (codes "when token[i](v) { serial { work (this * 7 + " ++ decimal seed
    ++ codes ") % 50; send token[i](v + 1) to (this + 1) % chares; } }")
    ∷ codes "}"
    ∷ codes "}"
    ∷ codes "}"
    ∷ []

-- In each of 20 turns each chare sends its number to both neighbours in a ring, and its new number is the mean of
-- theirs, which come in any order. Last it emits its number.
abbrev pub stencil_lines : ℕ → ℕ → List (List ℕ)
stencil_lines n seed =
    (codes "chares " ++ decimal n ++ codes ";")
    ∷ codes "var i;"
    ∷ codes "var a;"
    ∷ codes "var b;"
    ∷ codes "var x;"
    ∷ codes "entry left(1);"
    ∷ codes "entry right(1);"
    ∷ codes "body {"
    ∷ (codes "serial { x = this * 3 + " ++ decimal seed ++ codes "; }")
    ∷ codes "for (i = 0; i < 20; i = i + 1) {"
    ∷ (codes "serial { work (this * 7 + i + " ++ decimal seed
    ++ (codes ") % 50; send left[i](x) to (this + chares - 1) % chares bytes 800; "
    ++ codes "send right[i](x) to (this + 1) % chares bytes 800; }"))
    ∷ codes "overlap {"
    ∷ codes "when left[i](a) { serial { work 3; } }"
    ∷ codes "when right[i](b) { serial { work 3; } }"
    ∷ codes "}"
    ∷ codes "serial { x = (a + b) / 2; }"
    ∷ codes "}"
    ∷ codes "serial { emit x; }"
    ∷ codes "}"
    ∷ []

-- The chares are a binary tree with chare 0 as its root. Each adds 1 to the sum of what its children send, and sends
-- that to its parent; the root emits it.
abbrev pub tree_lines : ℕ → ℕ → List (List ℕ)
tree_lines n seed =
    (codes "chares " ++ decimal n ++ codes ";")
    ∷ codes "var a;"
    ∷ codes "var b;"
    ∷ codes "var s;"
    ∷ codes "entry up(1);"
    ∷ codes "body {"
    ∷ codes "overlap {"
    ∷ codes "if (2 * this + 1 < chares) { when up[0](a) { serial { work 2; } } }"
    ∷ codes "if (2 * this + 2 < chares) { when up[1](b) { serial { work 2; } } }"
    ∷ codes "}"
    ∷ (codes "serial { work (this * 7 + " ++ decimal seed
    ++ (codes ") % 50; s = a + b + 1; "
    ++ codes "if (this > 0) { send up[(this + 1) % 2](s) to (this - 1) / 2; } else { emit s; } }"))
    ∷ codes "}"
    ∷ []

-- the lines of a kind, by the number of chares and the seed
abbrev pub workload_lines : Workload → ℕ → ℕ → List (List ℕ)
workload_lines Ring n seed = ring_lines n seed
workload_lines Stencil n seed = stencil_lines n seed
workload_lines Tree n seed = tree_lines n seed

-- a line with its line feed
abbrev pub ended : List ℕ → List ℕ
ended line = line ++ codes "\n"

-- the text, which is its lines, each ended by a line feed
unfoldable pub workload_text : Workload → ℕ → ℕ → List ℕ
workload_text kind n seed = flat_map ended (workload_lines kind n seed)
