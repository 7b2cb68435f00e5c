-- The machine that was made is that of its word, and it is fitted where that can be.
use Rattle.std.proofs.Common.{◌≡◌, ◌≢◌, ℕ, List, ap, ◌∙◌, sym, subst, Bool, true, false, Result, Ok, Err, if◌then◌else◌}
use Rattle.bs_desk.specs.Outside.{Files}
use Rattle.bs_machine.specs.File.{machine_in}
use Rattle.bs_machine.specs.Machine.{MachineOf, flat_in, machine_view}
use Rattle.bs_machine.specs.declared.fault.MachineFault.{MachineFault}
use Rattle.bs_machine.specs.declared.fault.MachineFault.TheVariants.{NotToml, UnknownKey, Missing, OutOfRange, Memory}
use Rattle.bs_machine.specs.declared.fitted.Fitted.{Fitted}
use Rattle.bs_machine.specs.declared.fitted.PlaceLength.{PlaceLength}
use Rattle.bs_machine.specs.declared.machine.Machine.{Machine}
use Rattle.bs_net.specs.Home.{has_length, homes_in}
use Rattle.bs_report.specs.declared.faults.Fault.TheVariants as fault
use Rattle.std.specs.declared.vec.Vec.{Vec}
use Rattle.std.specs.declared.alloc.Global.{Global}
use Rattle.bs_top.specs.declared.stopped.Stopped.{Stopped}
use Rattle.bs_top.specs.declared.stopped.Stopped.TheVariants.{Refused}
use Rattle.bs_top.specs.Inputs.{contents, file_limit, fits, machine_named, or_bad_machine}
use Rattle.bs_top.specs.Step.{Told, gives}
use Rattle.bs_top.specs.Stopped.{stopped_for_machine, stopped_for_place}
use Rattle.bs_words.specs.Machine.{flat, file}
use Rattle.bs_top.proofs.Stages.{stops, goes_on}

pub bad_machine : (m : Result MachineOf MachineFault) (why : MachineFault) → (why ≢ Memory → m ≡ Err why) → Told machine_view (gives (or_bad_machine m)) (Err (stopped_for_machine why))
bad_machine m NotToml h = ap or_bad_machine (h (λ e. absurd (cc)))
bad_machine m UnknownKey h = ap or_bad_machine (h (λ e. absurd (cc)))
bad_machine m (Missing key) h = ap or_bad_machine (h (λ e. absurd (cc)))
bad_machine m (OutOfRange key given) h = ap or_bad_machine (h (λ e. absurd (cc)))
bad_machine m Memory h = tt

pub of_flat : (files : Files) (processors latency : ℕ) (r : Result Machine Stopped) → Told machine_view (gives (or_bad_machine (flat_in processors latency))) r → Told machine_view (machine_named files (flat processors latency)) r
unfolding machine_named
of_flat files processors latency r h = h

abbrev pub items : Vec ℕ Global → List ℕ
items bytes = bytes.items

pub of_no_file : (files : Files) (name : List ℕ) (stop : Stopped) → Told items (contents file_limit files name) (Err stop) → Told machine_view (machine_named files (file name)) (Err stop)
unfolding machine_named
of_no_file files name stop h = stops items machine_view (contents file_limit files name) (λ bytes. gives (or_bad_machine (machine_in bytes))) stop h

pub of_file : (files : Files) (name bytes : List ℕ) (r : Result Machine Stopped) → contents file_limit files name (Ok bytes) → Told machine_view (gives (or_bad_machine (machine_in bytes))) r → Told machine_view (machine_named files (file name)) r
unfolding machine_named
of_file files name bytes r h k = goes_on machine_view (contents file_limit files name) (λ bytes. gives (or_bad_machine (machine_in bytes))) bytes r h k

abbrev if_fits : ℕ → MachineOf → Bool → Result (Unit {0}) Stopped
if_fits chares m b = if b then Ok tt else Err (Refused (fault.BadPlace (record { given = homes_in m.place; needed = chares })))

pub is_fit : (chares : ℕ) (m : Machine) (f : Fitted) → f.machine ≡ m → f.chares ≡ chares → fits chares (machine_view m) (Ok tt)
unfolding fits
is_fit chares m f is count = ap (if_fits chares (machine_view m)) (subst (λ k. has_length k.place chares ≡ true) is (subst (λ n. has_length f.machine.place n ≡ true) count f.place_fits))

pub is_unfit : (chares : ℕ) (m : Machine) (length : PlaceLength) → has_length m.place chares ≡ false → homes_in m.place ≡ length.given → length.needed ≡ chares → fits chares (machine_view m) (Err (stopped_for_place length))
unfolding fits
is_unfit chares m length differs given needed = ap (if_fits chares (machine_view m)) differs ∙ λ i. Err (Refused (fault.BadPlace (record { given = given i; needed = (sym needed) i })))
