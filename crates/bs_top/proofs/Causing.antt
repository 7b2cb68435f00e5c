-- Why a status comes: what a command read, and how its texts were told.
use Rattle.std.proofs.Common.{◌≡◌, ◌≤◌, sym, ap, ◌∙◌, subst, List, ℕ, Option, Some, None, Result, Ok, Err, inl, inr, refl}
use Rattle.std.specs.Prelude.{IsTrue, true, ◌+◌}
use Rattle.bs_desk.specs.declared.desk.DeskFault.{DeskFault}
use Rattle.bs_desk.specs.declared.desk.DeskFault.TheVariants as desk
use Rattle.bs_desk.specs.Outside.{Outside, IsReading, Rose}
use Rattle.bs_log.specs.declared.outcome.End.TheVariants as end
use Rattle.bs_report.specs.Fault.{fault_text}
use Rattle.bs_report.specs.declared.faults.Fault.{Fault}
use Rattle.bs_report.specs.declared.faults.Fault.TheVariants as fault
use Rattle.bs_top.specs.declared.status.Status.{Status}
use Rattle.bs_top.specs.declared.status.Status.TheVariants as status
use Rattle.bs_top.specs.declared.reply.Ending.{Ending}
use Rattle.bs_top.specs.declared.reply.Ending.TheVariants as ending
use Rattle.bs_top.specs.declared.stopped.Stopped.{Stopped}
use Rattle.bs_top.specs.declared.stopped.Stopped.TheVariants.{Refused, NoFile, ReadFault, Memory}
use Rattle.bs_top.specs.Answer.{refused_by, status_of}
use Rattle.bs_top.specs.Causes.{CommandCause, FaultCause, HasRead, IsBound, ReplyCause, StepCause, most_of}
use Rattle.bs_top.specs.Computing.{Computes, IsComputed}
use Rattle.bs_top.specs.Inputs.{file_limit, log_limit}
use Rattle.bs_top.specs.Performs.{Cause, FailsToRead, FailsToWrite, FindsNoFile, Puts, ReadsNothing, ReadsTooMuch, ReadsWhole, Refuses, Tells, WriteCause, written_status}
use Rattle.bs_top.specs.Targets.{Note, TargetOf, output, errors, in_file, noted, put}
use Rattle.bs_top.specs.Words.{Asked, check, model, emulate, run, predict, trace, chain, sweep, tune, gen, trial}

-- what was read is as it was
record Stays (mid new : Outside) : Type 0 where
  found : new.found ≡ mid.found
  taken : new.taken ≡ mid.taken
  read_faults : new.read_faults ≡ mid.read_faults

-- so it is where a text is put
still : (place : TargetOf) (text : List ℕ) (o : Outside) → Stays o (put place text o)
still output text o = record { found = refl; taken = refl; read_faults = refl }
still errors text o = record { found = refl; taken = refl; read_faults = refl }
still (in_file name) text o = record { found = refl; taken = refl; read_faults = refl }

then_still : (a b c : Outside) → Stays a b → Stays b c → Stays a c
then_still a b c h k = record { found = k.found ∙ h.found; taken = k.taken ∙ h.taken; read_faults = k.read_faults ∙ h.read_faults }

-- and where a note is put before it
still_noted : (note : Option Note) (place : TargetOf) (text : List ℕ) (o : Outside) → Stays o (put place text (noted note o))
still_noted None place text o = still place text o
still_noted (Some note) place text o =
    let beside = put (in_file note.name) note.text o in
    then_still o beside (put place text beside) (still (in_file note.name) note.text o) (still place text beside)

-- the words are no fault
abbrev IsNoWords : {A : Type 0} → Result A Stopped → Type 0
IsNoWords (Err (Refused fault.BadWords)) = ⊥
IsNoWords _ = Unit {0}

-- the files that a command reads are programs and machines
abbrev pub ReadsPrograms : Asked → Type 0
ReadsPrograms (check name) = Unit {0}
ReadsPrograms (model name word limit) = Unit {0}
ReadsPrograms (emulate name into limit) = Unit {0}
ReadsPrograms (run name word limit waves) = Unit {0}
ReadsPrograms _ = ⊥

-- it reads a log
abbrev pub ReadsLogs : Asked → Type 0
ReadsLogs (predict name word waves journal) = Unit {0}
ReadsLogs (trace name word) = Unit {0}
ReadsLogs (chain name word) = Unit {0}
ReadsLogs (sweep name words spans) = Unit {0}
ReadsLogs (tune name word tuning spans) = Unit {0}
ReadsLogs _ = ⊥

-- it reads no file
abbrev pub ReadsNone : Asked → Type 0
ReadsNone (gen program) = Unit {0}
ReadsNone (trial program) = Unit {0}
ReadsNone _ = ⊥

-- what a command comes to, from what its steps come to
module _ {A : Type 0} (old new : Outside) where
  of_command : (q : Asked) (r : Result A Stopped) → IsNoWords r → CommandCause (Some q) old new r → ReplyCause (Some q) old new r
  of_command q (Ok a) n h = h
  of_command q (Err (Refused fault.BadWords)) n h = absurd n
  of_command q (Err (Refused (fault.BadProgram why))) n h = h
  of_command q (Err (Refused (fault.CheckFailed why))) n h = h
  of_command q (Err (Refused (fault.BadMachine why))) n h = h
  of_command q (Err (Refused (fault.BadPlace length))) n h = h
  of_command q (Err (Refused (fault.BadLog why))) n h = h
  of_command q (Err (Refused (fault.Ambiguous twice))) n h = h
  of_command q (Err (Refused (fault.TooLong limit))) n h = h
  of_command q (Err (Refused (fault.BudgetSpent spent))) n h = h
  of_command q (Err (Refused (fault.TooBig limit))) n h = h
  of_command q (Err NoFile) n h = h
  of_command q (Err ReadFault) n h = h
  of_command q (Err Memory) n h = tt

  no_words_read : (most : ℕ) (r : Result A Stopped) → StepCause most old new r → IsNoWords r
  no_words_read most (Ok a) h = tt
  no_words_read most (Err (Refused fault.BadWords)) h = absurd h
  no_words_read most (Err (Refused (fault.BadProgram why))) h = tt
  no_words_read most (Err (Refused (fault.CheckFailed why))) h = tt
  no_words_read most (Err (Refused (fault.BadMachine why))) h = tt
  no_words_read most (Err (Refused (fault.BadPlace length))) h = tt
  no_words_read most (Err (Refused (fault.BadLog why))) h = tt
  no_words_read most (Err (Refused (fault.Ambiguous twice))) h = tt
  no_words_read most (Err (Refused (fault.TooLong limit))) h = tt
  no_words_read most (Err (Refused (fault.BudgetSpent spent))) h = tt
  no_words_read most (Err (Refused (fault.TooBig limit))) h = tt
  no_words_read most (Err NoFile) h = tt
  no_words_read most (Err ReadFault) h = tt
  no_words_read most (Err Memory) h = tt

  no_words_computed : (r : Result A Stopped) → Computes r → IsNoWords r
  no_words_computed (Ok a) h = tt
  no_words_computed (Err (Refused fault.BadWords)) h = absurd h
  no_words_computed (Err (Refused (fault.BadProgram why))) h = tt
  no_words_computed (Err (Refused (fault.CheckFailed why))) h = tt
  no_words_computed (Err (Refused (fault.BadMachine why))) h = tt
  no_words_computed (Err (Refused (fault.BadPlace length))) h = tt
  no_words_computed (Err (Refused (fault.BadLog why))) h = tt
  no_words_computed (Err (Refused (fault.Ambiguous twice))) h = tt
  no_words_computed (Err (Refused (fault.TooLong limit))) h = tt
  no_words_computed (Err (Refused (fault.BudgetSpent spent))) h = tt
  no_words_computed (Err (Refused (fault.TooBig limit))) h = tt
  no_words_computed (Err NoFile) h = absurd h
  no_words_computed (Err ReadFault) h = absurd h
  no_words_computed (Err Memory) h = tt

  -- a command whose files are of programs and machines
  pub program_cause : (q : Asked) → ReadsPrograms q → (r : Result A Stopped) → StepCause file_limit old new r → ReplyCause (Some q) old new r
  program_cause (check name) f r h = of_command (check name) r (no_words_read file_limit r h) h
  program_cause (model name word limit) f r h = of_command (model name word limit) r (no_words_read file_limit r h) h
  program_cause (emulate name into limit) f r h = of_command (emulate name into limit) r (no_words_read file_limit r h) h
  program_cause (run name word limit waves) f r h = of_command (run name word limit waves) r (no_words_read file_limit r h) h
  program_cause (predict name word waves journal) f r h = absurd f
  program_cause (trace name word) f r h = absurd f
  program_cause (chain name word) f r h = absurd f
  program_cause (sweep name words spans) f r h = absurd f
  program_cause (tune name word tuning spans) f r h = absurd f
  program_cause (gen program) f r h = absurd f
  program_cause (trial program) f r h = absurd f

  -- a command that reads a log
  pub log_cause : (q : Asked) → ReadsLogs q → (r : Result A Stopped) → StepCause log_limit old new r → ReplyCause (Some q) old new r
  log_cause (check name) f r h = absurd f
  log_cause (model name word limit) f r h = absurd f
  log_cause (emulate name into limit) f r h = absurd f
  log_cause (run name word limit waves) f r h = absurd f
  log_cause (predict name word waves journal) f r h = of_command (predict name word waves journal) r (no_words_read log_limit r h) h
  log_cause (trace name word) f r h = of_command (trace name word) r (no_words_read log_limit r h) h
  log_cause (chain name word) f r h = of_command (chain name word) r (no_words_read log_limit r h) h
  log_cause (sweep name words spans) f r h = of_command (sweep name words spans) r (no_words_read log_limit r h) h
  log_cause (tune name word tuning spans) f r h = of_command (tune name word tuning spans) r (no_words_read log_limit r h) h
  log_cause (gen program) f r h = absurd f
  log_cause (trial program) f r h = absurd f

  -- and one that reads no file
  pub computed_cause : (q : Asked) → ReadsNone q → (r : Result A Stopped) → new ≡ old → Computes r → ReplyCause (Some q) old new r
  computed_cause (check name) f r e h = absurd f
  computed_cause (model name word limit) f r e h = absurd f
  computed_cause (emulate name into limit) f r e h = absurd f
  computed_cause (run name word limit waves) f r e h = absurd f
  computed_cause (predict name word waves journal) f r e h = absurd f
  computed_cause (trace name word) f r e h = absurd f
  computed_cause (chain name word) f r e h = absurd f
  computed_cause (sweep name words spans) f r e h = absurd f
  computed_cause (tune name word tuning spans) f r e h = absurd f
  computed_cause (gen program) f r e h = of_command (gen program) r (no_words_computed r h) (e, h)
  computed_cause (trial program) f r e h = of_command (trial program) r (no_words_computed r h) (e, h)

-- what was read, after something was written
module _ (old mid new : Outside) (s : Stays mid new) where
  from_read : {most : ℕ} → HasRead most mid → HasRead most new
  from_read {most} h = (s.found ∙ h.0, subst (λ n. n ≤ most) (sym s.taken) h.1)

  -- no text of a refusal
  has_read : (most : ℕ) (f : Fault) → IsComputed f → FaultCause most mid f → HasRead most mid
  has_read most fault.BadWords c h = absurd c
  has_read most (fault.BadProgram why) c h = h
  has_read most (fault.CheckFailed why) c h = h
  has_read most (fault.BadMachine why) c h = h
  has_read most (fault.BadPlace length) c h = h
  has_read most (fault.BadLog why) c h = h
  has_read most (fault.Ambiguous twice) c h = h
  has_read most (fault.TooLong limit) c h = h
  has_read most (fault.BudgetSpent spent) c h = h
  has_read most (fault.TooBig limit) c h = absurd c

  -- what a result that isn't one of reading says of what was read
  abbrev IsAfterReading : {A : Type 0} → Result A Stopped → Type 0
  IsAfterReading (Ok a) = Unit {0}
  IsAfterReading (Err (Refused f)) = IsComputed f
  IsAfterReading (Err _) = ⊥

  step_read : {A : Type 0} (most : ℕ) (r : Result A Stopped) → IsAfterReading r → StepCause most old mid r → HasRead most mid
  step_read most (Ok a) i h = h
  step_read most (Err (Refused f)) i h = has_read most f i h
  step_read most (Err NoFile) i h = absurd i
  step_read most (Err ReadFault) i h = absurd i
  step_read most (Err Memory) i h = absurd i

  nothing_read : mid ≡ old → ReadsNothing old new
  nothing_read e = record {
    found = s.found ∙ ap (λ (o : Outside). o.found) e;
    taken = s.taken ∙ ap (λ (o : Outside). o.taken) e;
    read_faults = s.read_faults ∙ ap (λ (o : Outside). o.read_faults) e;
  }

  reads_whole : {A : Type 0} (asked : Option Asked) (r : Result A Stopped) → IsAfterReading r → CommandCause asked old mid r → ReadsWhole asked old new
  reads_whole None r i h = absurd h
  reads_whole (Some (check name)) r i h = record { command = refl; read = from_read (step_read file_limit r i h) }
  reads_whole (Some (model name word limit)) r i h = record { command = refl; read = from_read (step_read file_limit r i h) }
  reads_whole (Some (emulate name into limit)) r i h = record { command = refl; read = from_read (step_read file_limit r i h) }
  reads_whole (Some (run name word limit waves)) r i h = record { command = refl; read = from_read (step_read file_limit r i h) }
  reads_whole (Some (predict name word waves journal)) r i h = record { command = refl; read = from_read (step_read log_limit r i h) }
  reads_whole (Some (trace name word)) r i h = record { command = refl; read = from_read (step_read log_limit r i h) }
  reads_whole (Some (chain name word)) r i h = record { command = refl; read = from_read (step_read log_limit r i h) }
  reads_whole (Some (sweep name words spans)) r i h = record { command = refl; read = from_read (step_read log_limit r i h) }
  reads_whole (Some (tune name word tuning spans)) r i h = record { command = refl; read = from_read (step_read log_limit r i h) }
  reads_whole (Some (gen program)) r i h = record { command = refl; read = nothing_read h.0 }
  reads_whole (Some (trial program)) r i h = record { command = refl; read = nothing_read h.0 }

  too_much : (most limit : ℕ) → FaultCause most mid (fault.TooBig limit) → (new.found ≡ true) × IsBound most limit × (new.taken ≡ limit + 1)
  too_much most limit h = (s.found ∙ h.0, h.2, s.taken ∙ h.1)

  reads_too_much : (A : Type 0) (asked : Option Asked) (limit : ℕ) → CommandCause {A = A} asked old mid (Err (Refused (fault.TooBig limit))) → ReadsTooMuch asked new
  reads_too_much A None limit h = absurd h
  reads_too_much A (Some (check name)) limit h = let is = too_much file_limit limit h in record { command = tt; found = is.0; limit = limit; is_limit = is.1; taken = is.2 }
  reads_too_much A (Some (model name word l)) limit h = let is = too_much file_limit limit h in record { command = tt; found = is.0; limit = limit; is_limit = is.1; taken = is.2 }
  reads_too_much A (Some (emulate name into l)) limit h = let is = too_much file_limit limit h in record { command = tt; found = is.0; limit = limit; is_limit = is.1; taken = is.2 }
  reads_too_much A (Some (run name word l waves)) limit h = let is = too_much file_limit limit h in record { command = tt; found = is.0; limit = limit; is_limit = is.1; taken = is.2 }
  reads_too_much A (Some (predict name word waves journal)) limit h = let is = too_much log_limit limit h in record { command = tt; found = is.0; limit = limit; is_limit = is.1; taken = is.2 }
  reads_too_much A (Some (trace name word)) limit h = let is = too_much log_limit limit h in record { command = tt; found = is.0; limit = limit; is_limit = is.1; taken = is.2 }
  reads_too_much A (Some (chain name word)) limit h = let is = too_much log_limit limit h in record { command = tt; found = is.0; limit = limit; is_limit = is.1; taken = is.2 }
  reads_too_much A (Some (sweep name words spans)) limit h = let is = too_much log_limit limit h in record { command = tt; found = is.0; limit = limit; is_limit = is.1; taken = is.2 }
  reads_too_much A (Some (tune name word tuning spans)) limit h = let is = too_much log_limit limit h in record { command = tt; found = is.0; limit = limit; is_limit = is.1; taken = is.2 }
  reads_too_much A (Some (gen program)) limit h = absurd h.1
  reads_too_much A (Some (trial program)) limit h = absurd h.1

-- ---- nothing is written

module _ (A : Type 0) (old new : Outside) where
  pub no_file : (asked : Option Asked) → CommandCause {A = A} asked old new (Err NoFile) → FindsNoFile asked new
  no_file None h = absurd h
  no_file (Some (check name)) h = record { command = tt; found = h.0; taken = h.1 }
  no_file (Some (model name word limit)) h = record { command = tt; found = h.0; taken = h.1 }
  no_file (Some (emulate name into limit)) h = record { command = tt; found = h.0; taken = h.1 }
  no_file (Some (run name word limit waves)) h = record { command = tt; found = h.0; taken = h.1 }
  no_file (Some (predict name word waves journal)) h = record { command = tt; found = h.0; taken = h.1 }
  no_file (Some (trace name word)) h = record { command = tt; found = h.0; taken = h.1 }
  no_file (Some (chain name word)) h = record { command = tt; found = h.0; taken = h.1 }
  no_file (Some (sweep name words spans)) h = record { command = tt; found = h.0; taken = h.1 }
  no_file (Some (tune name word tuning spans)) h = record { command = tt; found = h.0; taken = h.1 }
  no_file (Some (gen program)) h = absurd h.1
  no_file (Some (trial program)) h = absurd h.1

  pub read_fault : (asked : Option Asked) → CommandCause {A = A} asked old new (Err ReadFault) → FailsToRead asked old new
  read_fault None h = absurd h
  read_fault (Some (check name)) h = record { command = tt; can_fail = h.0; rose = h.1 }
  read_fault (Some (model name word limit)) h = record { command = tt; can_fail = h.0; rose = h.1 }
  read_fault (Some (emulate name into limit)) h = record { command = tt; can_fail = h.0; rose = h.1 }
  read_fault (Some (run name word limit waves)) h = record { command = tt; can_fail = h.0; rose = h.1 }
  read_fault (Some (predict name word waves journal)) h = record { command = tt; can_fail = h.0; rose = h.1 }
  read_fault (Some (trace name word)) h = record { command = tt; can_fail = h.0; rose = h.1 }
  read_fault (Some (chain name word)) h = record { command = tt; can_fail = h.0; rose = h.1 }
  read_fault (Some (sweep name words spans)) h = record { command = tt; can_fail = h.0; rose = h.1 }
  read_fault (Some (tune name word tuning spans)) h = record { command = tt; can_fail = h.0; rose = h.1 }
  read_fault (Some (gen program)) h = absurd h.1
  read_fault (Some (trial program)) h = absurd h.1

-- ---- something is written

module _ (asked : Option Asked) (old mid new : Outside) (r : IsReading old mid) where
  fails_to_write : (why : DeskFault) → WriteCause why mid new → why ≡ desk.Failed → FailsToWrite old new
  fails_to_write why h is = record {
    can_fail = subst IsTrue (ap (λ (o : Outside). o.can_fail) r) (h.1 is).0;
    rose = subst (λ n. Rose n new.write_faults) (ap (λ (o : Outside). o.write_faults) r) (h.1 is).1;
  }

  by_ending : ReadsWhole asked old new → (e : Ending) → Cause asked old new (status_of e)
  by_ending w (ending.Run end.Settled) = w
  by_ending w (ending.Run end.Deadlock) = w
  by_ending w (ending.Run end.Trapped) = w
  by_ending w ending.Spent = w

  module _ {A : Type 0} (a : A) (cause : CommandCause asked old mid (Ok a)) (e : Ending) (note : Option Note) (place : TargetOf) (text : List ℕ) where
    by_written : (written : Result (Unit {0}) DeskFault) → Tells note place text mid new written → Cause asked old new (written_status (status_of e) written)
    by_written (Ok _) same = by_ending (reads_whole old mid new (subst (Stays mid) (sym same) (still_noted note place text mid)) asked (Ok a) tt cause) e
    by_written (Err desk.Failed) h = fails_to_write desk.Failed h.0 refl
    by_written (Err desk.Memory) h = tt

    pub told_cause : (written : Result (Unit {0}) DeskFault) (s wanted : Status) → Tells note place text mid new written → wanted ≡ status_of e → s ≡ written_status wanted written → Cause asked old new s
    told_cause written s wanted t is is_status =
        subst (Cause asked old new) (sym (is_status ∙ ap (λ w. written_status w written) is)) (by_written written t)

  module _ (A : Type 0) where
    by_fault : (f : Fault) → Stays mid new → ReplyCause {A = A} asked old mid (Err (Refused f)) → Cause asked old new (refused_by f)
    by_fault fault.BadWords s h = h
    by_fault (fault.BadProgram why) s h = reads_whole old mid new s {A = A} asked (Err (Refused (fault.BadProgram why))) tt h
    by_fault (fault.CheckFailed why) s h = reads_whole old mid new s {A = A} asked (Err (Refused (fault.CheckFailed why))) tt h
    by_fault (fault.BadMachine why) s h = reads_whole old mid new s {A = A} asked (Err (Refused (fault.BadMachine why))) tt h
    by_fault (fault.BadPlace length) s h = reads_whole old mid new s {A = A} asked (Err (Refused (fault.BadPlace length))) tt h
    by_fault (fault.BadLog why) s h = reads_whole old mid new s {A = A} asked (Err (Refused (fault.BadLog why))) tt h
    by_fault (fault.Ambiguous twice) s h = reads_whole old mid new s {A = A} asked (Err (Refused (fault.Ambiguous twice))) tt h
    by_fault (fault.TooLong limit) s h = reads_whole old mid new s {A = A} asked (Err (Refused (fault.TooLong limit))) tt h
    by_fault (fault.BudgetSpent spent) s h = reads_whole old mid new s {A = A} asked (Err (Refused (fault.BudgetSpent spent))) tt h
    by_fault (fault.TooBig limit) s h = reads_too_much old mid new s A asked limit h

    by_line : (f : Fault) → ReplyCause {A = A} asked old mid (Err (Refused f)) → (written : Result (Unit {0}) DeskFault) → Puts errors (fault_text f) mid new written → Cause asked old new (written_status (refused_by f) written)
    by_line f h (Ok _) same = by_fault f (subst (Stays mid) (sym same) (still errors (fault_text f) mid)) h
    by_line f h (Err desk.Failed) k = fails_to_write desk.Failed k.0 refl
    by_line f h (Err desk.Memory) k = tt

    pub refused_cause : (f : Fault) (s : Status) → ReplyCause {A = A} asked old mid (Err (Refused f)) → Refuses f mid new s → Cause asked old new s
    refused_cause f s h (inl wanting) = subst (Cause asked old new) (sym wanting.0) tt
    refused_cause f s h (inr told) = subst (Cause asked old new) (sym told.2) (by_line f h told.0 told.1)
