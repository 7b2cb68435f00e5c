-- The texts cut at their numbers alone, as `format` writes them.
use Rattle.std.proofs.Common.{ap, sym, ◌∙◌, ℕ, List, [], ◌≡◌, ◌++◌, codes, drop}
use Rattle.std.proofs.lemmas.List.{append_assoc}
use Rattle.std.specs.Fmt.{decimal}
use Rattle.std.specs.List.{flat_map}
use Rattle.bs_gen.specs.declared.workload.Workload.{Workload}
use Rattle.bs_gen.specs.declared.workload.Workload.TheVariants.{Ring, Stencil, Tree}
use Rattle.bs_gen.specs.Programs.{ended, workload_lines, workload_text}

-- a line with a number in it, between what stands before it and what follows
pub line_cut : (front before number after rest : List ℕ) →
    front ++ (ended (before ++ number ++ after) ++ rest) ≡ (front ++ before) ++ (number ++ (ended after ++ rest))
line_cut front before number after rest =
    let nl : List ℕ = codes "\n"
    in ap (λ r. front ++ r) (append_assoc (before ++ number ++ after) nl rest
    ∙ append_assoc (before ++ number) after (nl ++ rest)
    ∙ append_assoc before number (after ++ (nl ++ rest))
    ∙ ap (λ r. before ++ (number ++ r)) (sym (append_assoc after nl rest)))
    ∙ sym (append_assoc front before (number ++ (ended after ++ rest)))

-- what stands behind so many lines
abbrev pub text_behind : ℕ → Workload → ℕ → ℕ → List ℕ
text_behind lines kind n seed = flat_map ended (drop lines (workload_lines kind n seed))

pub ring_cut : (n seed : ℕ) → workload_text Ring n seed ≡
    codes "chares " ++ (decimal n
    ++ (codes ";\nvar i;\nvar v;\nentry token(1);\nbody {\nfor (i = 0; i < 20; i = i + 1) {\nif (this == 0) {\nserial { work (i * 7 + " ++ (decimal seed
    ++ (codes ") % 50; send token[i](i) to (this + 1) % chares; }\nwhen token[i](v) { serial { emit v; } }\n} else {\nwhen token[i](v) { serial { work (this * 7 + " ++ (decimal seed
    ++ (codes ") % 50; send token[i](v + 1) to (this + 1) % chares; } }\n}\n}\n}\n"))))))
unfolding workload_text
ring_cut n seed =
    let first : List ℕ = codes ";\nvar i;\nvar v;\nentry token(1);\nbody {\nfor (i = 0; i < 20; i = i + 1) {\nif (this == 0) {\n"
    in let first_line : List ℕ = codes "serial { work (i * 7 + "
    in let second : List ℕ = codes ") % 50; send token[i](i) to (this + 1) % chares; }\nwhen token[i](v) { serial { emit v; } }\n} else {\n"
    in let second_line : List ℕ = codes "when token[i](v) { serial { work (this * 7 + "
    in line_cut [] (codes "chares ") (decimal n) (codes ";") (text_behind 1 Ring n seed)
    ∙ ap (λ r. codes "chares " ++ (decimal n ++ r)) (
    line_cut first first_line (decimal seed) (codes ") % 50; send token[i](i) to (this + 1) % chares; }") (text_behind 8 Ring n seed)
    ∙ ap (λ r. (first ++ first_line) ++ (decimal seed ++ r)) (
    line_cut second second_line (decimal seed) (codes ") % 50; send token[i](v + 1) to (this + 1) % chares; } }") (text_behind 11 Ring n seed)))

pub stencil_cut : (n seed : ℕ) → workload_text Stencil n seed ≡
    codes "chares " ++ (decimal n
    ++ (codes ";\nvar i;\nvar a;\nvar b;\nvar x;\nentry left(1);\nentry right(1);\nbody {\nserial { x = this * 3 + " ++ (decimal seed
    ++ (codes "; }\nfor (i = 0; i < 20; i = i + 1) {\nserial { work (this * 7 + i + " ++ (decimal seed
    ++ (codes ") % 50; send left[i](x) to (this + chares - 1) % chares bytes 800; send right[i](x) to (this + 1) % chares bytes 800; }\noverlap {\nwhen left[i](a) { serial { work 3; } }\nwhen right[i](b) { serial { work 3; } }\n}\nserial { x = (a + b) / 2; }\n}\nserial { emit x; }\n}\n"))))))
unfolding workload_text
stencil_cut n seed =
    let first : List ℕ = codes ";\nvar i;\nvar a;\nvar b;\nvar x;\nentry left(1);\nentry right(1);\nbody {\n"
    in let first_line : List ℕ = codes "serial { x = this * 3 + "
    in let second : List ℕ = codes "; }\nfor (i = 0; i < 20; i = i + 1) {\n"
    in let second_line : List ℕ = codes "serial { work (this * 7 + i + "
    in line_cut [] (codes "chares ") (decimal n) (codes ";") (text_behind 1 Stencil n seed)
    ∙ ap (λ r. codes "chares " ++ (decimal n ++ r)) (
    line_cut first first_line (decimal seed) (codes "; }") (text_behind 9 Stencil n seed)
    ∙ ap (λ r. (first ++ first_line) ++ (decimal seed ++ r)) (
    line_cut second second_line (decimal seed) (codes ") % 50; send left[i](x) to (this + chares - 1) % chares bytes 800; send right[i](x) to (this + 1) % chares bytes 800; }") (text_behind 11 Stencil n seed)))

pub tree_cut : (n seed : ℕ) → workload_text Tree n seed ≡
    codes "chares " ++ (decimal n
    ++ (codes ";\nvar a;\nvar b;\nvar s;\nentry up(1);\nbody {\noverlap {\nif (2 * this + 1 < chares) { when up[0](a) { serial { work 2; } } }\nif (2 * this + 2 < chares) { when up[1](b) { serial { work 2; } } }\n}\nserial { work (this * 7 + " ++ (decimal seed
    ++ (codes ") % 50; s = a + b + 1; if (this > 0) { send up[(this + 1) % 2](s) to (this - 1) / 2; } else { emit s; } }\n}\n"))))
unfolding workload_text
tree_cut n seed =
    let first : List ℕ = codes ";\nvar a;\nvar b;\nvar s;\nentry up(1);\nbody {\noverlap {\nif (2 * this + 1 < chares) { when up[0](a) { serial { work 2; } } }\nif (2 * this + 2 < chares) { when up[1](b) { serial { work 2; } } }\n}\n"
    in let first_line : List ℕ = codes "serial { work (this * 7 + "
    in line_cut [] (codes "chares ") (decimal n) (codes ";") (text_behind 1 Tree n seed)
    ∙ ap (λ r. codes "chares " ++ (decimal n ++ r)) (
    line_cut first first_line (decimal seed) (codes ") % 50; s = a + b + 1; if (this > 0) { send up[(this + 1) % 2](s) to (this - 1) / 2; } else { emit s; } }") (text_behind 11 Tree n seed))
