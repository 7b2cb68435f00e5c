-- There is a table for each line, and a consistent one for all.
use Rattle.std.proofs.Common.{ℕ, ◌+◌, ◌<◌, List, ◌++◌, ◌⊎◌, inl, inr, map, refl, ap, arith}
use Rattle.bs_log.specs.Lists.{Mem}
use Rattle.bs_times.specs.Net.{Net, Starts, Ticks, HasRow, Causal}
use Rattle.bs_times.specs.Times.{IsTable, IsConsistent, arrival, ready}
use Rattle.bs_times.proofs.Ready.{after_ready, mail_ready}
use Rattle.bs_times.proofs.Moved.{ready_moved}
use Rattle.bs_times.proofs.Members.{mem_left, mem_right, mem_cases, mem_map, map_mem}
use Rattle.bs_times.proofs.Build.{Plan, Built, built}

line_plan : (net : Net) → Causal net → (held : Ticks) → Plan net (ready net held) net.after
line_plan net c held = record {
  local = λ s z i has h. ready_moved net held held s z i h (λ m k. refl);
  later = λ s i x has m. omega (arith, after_ready net held s i x m, c.duration x (c.after i x has m).0);
  shallow = λ i x has m. let known = c.after i x has m in (known.0, known.2);
}

pub table_exists : (net : Net) → Causal net → (held : Ticks) → (s : Starts) × IsTable net held s
table_exists net c held = go (built net (ready net held) net.after (line_plan net c held))
  where
    go : Built net (ready net held) → (s : Starts) × IsTable net held s
    go b = (b.0, λ p. record { order = (b.1 p).0; all = (b.1 p).1; runs = (b.1 p).2 })

abbrev pub causes : Net → ℕ → List ℕ
causes net i = net.after i ++ map (λ m. m.row) (net.mail i)

pub whole_plan : (net : Net) → Causal net → Plan net (λ s. ready net (arrival net s) s) (causes net)
whole_plan net c = record {
  local = λ s z i has h. ready_moved net (arrival net s) (arrival net z) s z i
      (λ x m. h x (mem_left x (net.after i) _ m))
      (λ m k. ap (λ y. y + net.travel m) (h m.row (mem_right m.row (net.after i) _ (mem_map (λ y. y.row) m (net.mail i) k))));
  later = λ s i x has m. later s i x has (mem_cases x (net.after i) _ m);
  shallow = λ i x has m. shallow i x has (mem_cases x (net.after i) _ m);
}
  where
    later : (s : Starts) (i x : ℕ) → HasRow net i → Mem x (net.after i) ⊎ Mem x (map (λ m. m.row) (net.mail i)) → s x < ready net (arrival net s) s i
    later s i x has (inl m) = omega (arith, after_ready net (arrival net s) s i x m, c.duration x (c.after i x has m).0)
    later s i x has (inr m) = let d = map_mem (λ y. y.row) x (net.mail i) m in
        rw d.2 (omega (arith, mail_ready net (arrival net s) s i d.0 d.1, c.travel i d.0 has d.1))

    shallow : (i x : ℕ) → HasRow net i → Mem x (net.after i) ⊎ Mem x (map (λ m. m.row) (net.mail i)) → HasRow net x × (net.depth x < net.depth i)
    shallow i x has (inl m) = let known = c.after i x has m in (known.0, known.2)
    shallow i x has (inr m) = let d = map_mem (λ y. y.row) x (net.mail i) m in
        rw d.2 (let known = c.mail i d.0 has d.1 in (known.0, known.1))

pub consistent_exists : (net : Net) → Causal net → (s : Starts) × IsConsistent net s
consistent_exists net c = go (built net (λ s. ready net (arrival net s) s) (causes net) (whole_plan net c))
  where
    go : Built net (λ s. ready net (arrival net s) s) → (s : Starts) × IsConsistent net s
    go b = (b.0, λ p. record { order = (b.1 p).0; all = (b.1 p).1; runs = (b.1 p).2 })
