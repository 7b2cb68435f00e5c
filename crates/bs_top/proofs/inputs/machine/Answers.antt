use Rattle.std.proofs.Common.{refl, sym, subst, Err, ℕ}
use Rattle.bs_machine.specs.Machine.{machine_view}
use Rattle.bs_top.specs.Inputs.{machine_named}
use Rattle.bs_words.specs.Machine.{word_of}
use Rattle.bs_top.specs.Causes.{StepCause}
use Rattle.bs_top.specs.Step.{Told}
use Rattle.bs_machine.specs.declared.machine.Machine.{Machine}
use Rattle.std.specs.declared.vec.Vec.{Vec}
use Rattle.std.specs.declared.alloc.Global.{Global}
use Rattle.bs_top.proofs.Bounded.{computed, has_read, stopped}
use Rattle.bs_top.proofs.Machines.{of_flat, of_no_file, of_file}
use Rattle.bs_top.proofs.Stages.{always, at_stop, each}
use Rattle.bs_top.proofs.inputs.machine.Goals as goal

pub returns-in_err-bytes-in-File-clause-told : goal.returns-in_err-bytes-in-File-clause-told
returns-in_err-bytes-in-File-clause-told g c =
    let old = (g.D.Desk.world c.args.desk.now).files in
    each old old _ _ refl (λ files h.
    at_stop (Told machine_view (machine_named files (word_of c.args.word))) c.in_err-bytes-in-File.field-0.0 c.from_residual.result c.from_residual.ensures.1
    (subst (λ w. Told machine_view (machine_named files (word_of w)) (Err c.in_err-bytes-in-File.field-0.0)) (sym c.in-File.is) (of_no_file files c.in-File.name.now c.in_err-bytes-in-File.field-0.0 h))) c.in_err-bytes-in-File.ensures.told

pub returns-in-Flat-clause-told : goal.returns-in-Flat-clause-told
returns-in-Flat-clause-told g c =
    let old = (g.D.Desk.world c.args.desk.now).files in
    always old (λ files. subst (λ w. Told machine_view (machine_named files (word_of w)) c.flat_machine.result) (sym c.in-Flat.is)
    (of_flat files c.in-Flat.processors c.in-Flat.latency c.flat_machine.result c.flat_machine.ensures.told))

pub returns-in_ok-bytes-in-File-clause-told : goal.returns-in_ok-bytes-in-File-clause-told
returns-in_ok-bytes-in-File-clause-told g c =
    let old = (g.D.Desk.world c.args.desk.now).files in
    each old old _ _ refl (λ files h.
    subst (λ w. Told machine_view (machine_named files (word_of w)) c.machine_of_file.result) (sym c.in-File.is)
    (of_file files c.in-File.name.now c.in_ok-bytes-in-File.bytes.items c.machine_of_file.result h (rw c.as_slice.ensures.value at c.machine_of_file.ensures.told))) c.in_ok-bytes-in-File.ensures.told

pub returns-in_err-bytes-in-File-clause-cause : goal.returns-in_err-bytes-in-File-clause-cause
returns-in_err-bytes-in-File-clause-cause g c read =
    let old = g.D.Desk.world c.args.desk.now in
    let new = g.D.Desk.world c.file.new.desk in
    at_stop (StepCause {A = Machine} c.args._most old new) c.in_err-bytes-in-File.field-0.0 c.from_residual.result c.from_residual.ensures.1
    (stopped c.args._most old new (Vec ℕ Global) Machine c.requires c.in_err-bytes-in-File.field-0.0 c.in_err-bytes-in-File.ensures.cause)

pub returns-in-Flat-clause-cause : goal.returns-in-Flat-clause-cause
returns-in-Flat-clause-cause g c read =
    let old = g.D.Desk.world c.args.desk.now in
    computed c.args._most old old c.flat_machine.result c.flat_machine.ensures.kind read

pub returns-in_ok-bytes-in-File-clause-cause : goal.returns-in_ok-bytes-in-File-clause-cause
returns-in_ok-bytes-in-File-clause-cause g c read =
    let old = g.D.Desk.world c.args.desk.now in
    let new = g.D.Desk.world c.file.new.desk in
    computed c.args._most old new c.machine_of_file.result c.machine_of_file.ensures.kind (has_read c.args._most new c.requires c.in_ok-bytes-in-File.ensures.cause)
