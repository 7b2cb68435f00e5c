-- The counts of faults don't fall.
use Rattle.std.proofs.Common.{◌≡◌, ◌≤◌, ℕ, List, take, refl, ap, ◌∙◌, inl, inr, ◌⊎◌, Option, Some, None, Result, Ok, Err, arith}
use Rattle.bs_desk.specs.declared.desk.DeskFault.{DeskFault}
use Rattle.bs_desk.specs.Outside.{IsReading, Outside}
use Rattle.bs_report.specs.declared.faults.Fault.{Fault}
use Rattle.bs_report.specs.Fault.{fault_text}
use Rattle.bs_top.specs.declared.status.Status.{Status}
use Rattle.bs_top.specs.Performs.{AreCut, IsBut, IsCut, IsCutNote, NeverFall, Puts, Refuses, Tells}
use Rattle.bs_top.specs.Targets.{Note, TargetOf, errors, in_file, noted, output, put}

-- no read was refused, and the count of write faults didn't fall
abbrev pub Writing : Outside → Outside → Type 0
Writing old new = (new.read_faults ≡ old.read_faults) × (old.write_faults ≤ new.write_faults)

-- a text that is put leaves both counts alone
read_still : (target : TargetOf) (text : List ℕ) (o : Outside) → (put target text o).read_faults ≡ o.read_faults
read_still output text o = refl
read_still errors text o = refl
read_still (in_file name) text o = refl

write_still : (target : TargetOf) (text : List ℕ) (o : Outside) → (put target text o).write_faults ≡ o.write_faults
write_still output text o = refl
write_still errors text o = refl
write_still (in_file name) text o = refl

read_noted : (note : Option Note) (o : Outside) → (noted note o).read_faults ≡ o.read_faults
read_noted None o = refl
read_noted (Some note) o = read_still (in_file note.name) note.text o

write_noted : (note : Option Note) (o : Outside) → (noted note o).write_faults ≡ o.write_faults
write_noted None o = refl
write_noted (Some note) o = write_still (in_file note.name) note.text o

same_count : (m n : ℕ) → m ≡ n → n ≤ m
same_count m n e = omega (arith, e)

read_cut : (target : TargetOf) (text : List ℕ) (old new : Outside) → IsCut IsBut target text old new → new.read_faults ≡ old.read_faults
read_cut target text old new (inl front) = ap (λ (o : Outside). o.read_faults) front.is_put ∙ read_still target (take front.count text) old
read_cut (in_file name) text old new (inr same) = ap (λ (o : Outside). o.read_faults) same
read_cut output text old new (inr none) = absurd none
read_cut errors text old new (inr none) = absurd none

read_cut_note : (note : Option Note) (old new : Outside) → IsCutNote IsBut note old new → new.read_faults ≡ old.read_faults
read_cut_note None old new h = absurd h
read_cut_note (Some note) old new h = read_cut (in_file note.name) note.text old new h

read_cuts : (note : Option Note) (target : TargetOf) (text : List ℕ) (old new : Outside) → AreCut IsBut note target text old new → new.read_faults ≡ old.read_faults
read_cuts note target text old new (inl h) = read_cut_note note old new h
read_cuts note target text old new (inr h) = read_cut target text (noted note old) new h ∙ read_noted note old

puts : (target : TargetOf) (text : List ℕ) (old new : Outside) (r : Result (Unit {0}) DeskFault) → Puts target text old new r → Writing old new
puts target text old new (Ok _) e = (
  ap (λ (o : Outside). o.read_faults) e ∙ read_still target text old,
  same_count new.write_faults old.write_faults (ap (λ (o : Outside). o.write_faults) e ∙ write_still target text old),
)
puts target text old new (Err fault) h = (read_cut target text old new h.1, h.0.0)

pub tells_count : (note : Option Note) (target : TargetOf) (text : List ℕ) (old new : Outside) (r : Result (Unit {0}) DeskFault) → Tells note target text old new r → Writing old new
tells_count note target text old new (Ok _) e = (
  ap (λ (o : Outside). o.read_faults) e ∙ (read_still target text (noted note old) ∙ read_noted note old),
  same_count new.write_faults old.write_faults (ap (λ (o : Outside). o.write_faults) e ∙ (write_still target text (noted note old) ∙ write_noted note old)),
)
tells_count note target text old new (Err fault) h = (read_cuts note target text old new h.1, h.0.0)

pub refuses_count : (f : Fault) (old new : Outside) (s : Status) → Refuses f old new s → Writing old new
refuses_count f old new s (inl wanting) = (ap (λ (o : Outside). o.read_faults) wanting.1, same_count new.write_faults old.write_faults (ap (λ (o : Outside). o.write_faults) wanting.1))
refuses_count f old new s (inr told) = puts errors (fault_text f) old new told.0 told.1

-- reading comes before writing
pub never_fall : (old mid new : Outside) → IsReading old mid → old.read_faults ≤ mid.read_faults → Writing mid new → NeverFall old new
never_fall old mid new r later w =
    let same : mid.write_faults ≡ old.write_faults = ap (λ (o : Outside). o.write_faults) r in
    (omega (arith, later, w.0), omega (arith, same, w.1))

pub only_read : (old new : Outside) → IsReading old new → old.read_faults ≤ new.read_faults → NeverFall old new
only_read old new r later = never_fall old new new r later (refl, omega arith)
