-- A desk in memory, as contracts see it.
use Rattle.std.specs.Prelude.{ℕ, List, Bool, true, false, Option, Some, refl}
use Rattle.std.specs.Coded.{Coded, code_by, coded×, coded_ℕ, coded_list, coded_bool, coded_option}
use Rattle.std.specs.FinMap as map
use Rattle.bs_desk.specs.declared.plans.Op.{Op}
use Rattle.bs_desk.specs.declared.plans.Op.TheVariants as op
use Rattle.bs_desk.specs.Outside.{Outside, Files, untold}
use Rattle.bs_desk.specs.Planned.{Planned, all_well, also_failing}

-- what it tells of the outside, how many bytes it passes in one call at most, and which calls of each kind are to fail
pub record InMemory : Type 0 where
  pub outside : Outside
  pub chunk : ℕ
  pub opens : Planned
  pub reads : Planned
  pub creates : Planned
  pub writes : Planned

-- no files, and no call that is to fail
abbrev pub no_files : Outside
no_files = record untold { files = Some map.empty; can_fail = false }

-- a new desk in memory
abbrev pub empty_desk : ℕ → InMemory
empty_desk chunk = record { outside = no_files; chunk = chunk; opens = all_well; reads = all_well; creates = all_well; writes = all_well }

-- a desk that can fail
abbrev pub fallible : InMemory → InMemory
fallible m = record m { outside = record m.outside { can_fail = true } }

-- where the call of that kind and number is to fail too
abbrev pub to_fail : Op → ℕ → InMemory → InMemory
to_fail op.Open nth m = record (fallible m) { opens = also_failing nth m.opens }
to_fail op.Read nth m = record (fallible m) { reads = also_failing nth m.reads }
to_fail op.Create nth m = record (fallible m) { creates = also_failing nth m.creates }
to_fail op.Write nth m = record (fallible m) { writes = also_failing nth m.writes }

-- ---- the code of such a desk: the tuple of its fields

abbrev pub Bytes : Type 0
Bytes = List ℕ

abbrev pub coded_bytes : Coded Bytes
coded_bytes = coded_list coded_ℕ

abbrev pub ToldFields : Type 0
ToldFields = Option Files × Option Bytes

abbrev pub PortFields : Type 0
PortFields = Bytes × (Bytes × Bytes)

abbrev pub StateFields : Type 0
StateFields = Bool × (Bool × (Option Bytes × (Bool × Bool)))

abbrev pub CountFields : Type 0
CountFields = ℕ × (ℕ × ℕ)

abbrev pub coded_told : Coded ToldFields
coded_told = coded× (coded_option (map.code coded_bytes coded_bytes)) (coded_option coded_bytes)

abbrev pub coded_ports : Coded PortFields
coded_ports = coded× coded_bytes (coded× coded_bytes coded_bytes)

abbrev pub coded_state : Coded StateFields
coded_state = coded× coded_bool (coded× coded_bool (coded× (coded_option coded_bytes) (coded× coded_bool coded_bool)))

abbrev pub coded_counts : Coded CountFields
coded_counts = coded× coded_ℕ (coded× coded_ℕ coded_ℕ)

abbrev pub outside_code : Coded Outside
outside_code = code_by (ToldFields × (PortFields × (StateFields × CountFields))) (coded× coded_told (coded× coded_ports (coded× coded_state coded_counts)))
    (λ o. ((o.files, o.rest), ((o.out, (o.err, o.file)), ((o.is_open, (o.is_created, (o.created, (o.can_fail, o.found)))), (o.taken, (o.read_faults, o.write_faults))))))
    (λ p. record {
      files = p.0.0;
      rest = p.0.1;
      out = p.1.0.0;
      err = p.1.0.1.0;
      file = p.1.0.1.1;
      is_open = p.1.1.0.0;
      is_created = p.1.1.0.1.0;
      created = p.1.1.0.1.1.0;
      can_fail = p.1.1.0.1.1.1.0;
      found = p.1.1.0.1.1.1.1;
      taken = p.1.1.1.0;
      read_faults = p.1.1.1.1.0;
      write_faults = p.1.1.1.1.1;
    }) (λ _. refl)

abbrev pub planned_code : Coded Planned
planned_code = code_by (ℕ × List ℕ) (coded× coded_ℕ coded_bytes) (λ p. (p.made, p.failing)) (λ p. record { made = p.0; failing = p.1 }) (λ _. refl)

abbrev pub PlanFields : Type 0
PlanFields = Planned × (Planned × (Planned × Planned))

abbrev pub coded_plans : Coded PlanFields
coded_plans = coded× planned_code (coded× planned_code (coded× planned_code planned_code))

abbrev pub in_memory_code : Coded InMemory
in_memory_code = code_by (Outside × (ℕ × PlanFields)) (coded× outside_code (coded× coded_ℕ coded_plans))
    (λ m. (m.outside, (m.chunk, (m.opens, (m.reads, (m.creates, m.writes))))))
    (λ p. record { outside = p.0; chunk = p.1.0; opens = p.1.1.0; reads = p.1.1.1.0; creates = p.1.1.1.1.0; writes = p.1.1.1.1.1 }) (λ _. refl)
