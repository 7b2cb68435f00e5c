-- The words of the kinds of programs.
use Rattle.std.specs.Prelude.{ℕ, List, Option, Some, None, codes, if◌then◌else◌}
use Rattle.std.specs.Str.{bytes_eq}
use Rattle.bs_gen.specs.declared.workload.Workload.{Workload}
use Rattle.bs_gen.specs.declared.workload.Workload.TheVariants.{Ring, Stencil, Tree}

-- the kind that a word names
abbrev pub workload_of : List ℕ → Option Workload
workload_of word =
    if bytes_eq word (codes "ring") then Some Ring
    else (if bytes_eq word (codes "stencil") then Some Stencil
    else (if bytes_eq word (codes "tree") then Some Tree else None))

-- the word of a kind
abbrev pub workload_word : Workload → List ℕ
workload_word Ring = codes "ring"
workload_word Stencil = codes "stencil"
workload_word Tree = codes "tree"
