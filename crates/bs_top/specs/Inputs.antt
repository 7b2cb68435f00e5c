-- What a command reads: the contents of files, and the machine, the program or the log that they hold (docs/output.md).
use Rattle.std.specs.FinMap as map
use Rattle.std.specs.Prelude.{◌≡◌, ℕ, nat_le, List, [], ◌∷◌, ◌++◌, length, Option, Some, None, Result, Ok, Err, if◌then◌else◌}
use Rattle.bs_check.specs.Refusal.{IsRefused, refusal}
use Rattle.bs_check.specs.declared.fault.CheckFault.{CheckFault}
use Rattle.bs_desk.specs.Outside.{Files}
use Rattle.bs_log.specs.Valid.{IsValid}
use Rattle.bs_log.specs.declared.log.Log.{Log}
use Rattle.bs_logread.specs.Fault.{IsFault as IsFaultAt}
use Rattle.bs_logread.specs.declared.fault.LogFault.{LogFault}
use Rattle.bs_logread.specs.declared.fault.LogFault.TheVariants as read
use Rattle.bs_logtext.specs.Text.{log_text}
use Rattle.bs_machine.specs.File.{machine_in}
use Rattle.bs_machine.specs.Machine.{MachineOf, flat_in}
use Rattle.bs_machine.specs.declared.fault.MachineFault.{MachineFault}
use Rattle.bs_net.specs.Home.{has_length, homes_in}
use Rattle.bs_parse.specs.Text.{IsFault, Spells}
use Rattle.bs_parse.specs.declared.text.ParseFault.{ParseFault}
use Rattle.bs_report.specs.declared.faults.Fault.TheVariants as fault
use Rattle.bs_tree.specs.declared.tree.Program.{Program}
use Rattle.bs_words.specs.Machine.{MachineWord, flat, file}
use Rattle.bs_top.specs.Step.{Step, gives, ◌>>=◌}
use Rattle.bs_top.specs.declared.stopped.Stopped.{Stopped}
use Rattle.bs_top.specs.declared.stopped.Stopped.TheVariants.{Refused, NoFile, Memory}

-- the file of a program or a machine has at most this many bytes
abbrev pub file_limit : ℕ
file_limit = 1048576

-- the file of a log has at most this many bytes
abbrev pub log_limit : ℕ
log_limit = 67108864

abbrev pub whole : ℕ → Option (List ℕ) → Result (List ℕ) Stopped
whole most None = Err NoFile
whole most (Some bytes) = if nat_le (length bytes) most then Ok bytes else Err (Refused (fault.TooBig most))

-- the contents of the file of that name, which has at most so many bytes
unfoldable pub contents : ℕ → Files → List ℕ → Step (List ℕ)
contents most files name = gives (whole most (map.get files name))

abbrev pub or_bad_machine : Result MachineOf MachineFault → Result MachineOf Stopped
or_bad_machine (Ok m) = Ok m
or_bad_machine (Err why) = Err (Refused (fault.BadMachine why))

-- the machine of a word
unfoldable pub machine_named : Files → MachineWord → Step MachineOf
machine_named files (flat processors latency) = gives (or_bad_machine (flat_in processors latency))
machine_named files (file name) = do
  bytes ← contents file_limit files name
  gives (or_bad_machine (machine_in bytes))

-- the program that a text spells, or its fault
unfoldable pub program_in : List ℕ → Step Program
program_in text (Ok p) = Spells text p
program_in text (Err stop) = (why : ParseFault) × IsFault text why × (stop ≡ Refused (fault.BadProgram why))

-- the program keeps all rules of the language, or the first that it breaks
unfoldable pub checked : Program → Step (Unit {0})
checked p (Ok _) = refusal p ≡ None
checked p (Err stop) = (why : CheckFault) × IsRefused p why × (stop ≡ Refused (fault.CheckFailed why))

-- the program in the file of that name, where it keeps all rules
unfoldable pub accepted : Files → List ℕ → Step Program
accepted files name = do
  text ← contents file_limit files name
  program ← program_in text
  _ ← checked program
  gives (Ok program)

-- the machine has a processor for each chare
unfoldable pub fits : ℕ → MachineOf → Step (Unit {0})
fits chares m = gives (if has_length m.place chares then Ok tt else Err (Refused (fault.BadPlace (record { given = homes_in m.place; needed = chares }))))

-- the machine of a word, where it has a processor for each chare
unfoldable pub fitting_machine : Files → ℕ → MachineWord → Step MachineOf
fitting_machine files chares word = do
  machine ← machine_named files word
  _ ← fits chares machine
  gives (Ok machine)

-- the machines of words behind those that are there, each read and fitted before the next one
unfoldable pub machines_behind : List MachineOf → Files → ℕ → List MachineWord → Step (List MachineOf)
machines_behind machines files chares [] = gives (Ok machines)
machines_behind machines files chares (word ∷ words) = do
  machine ← fitting_machine files chares word
  machines_behind (machines ++ machine ∷ []) files chares words

-- want of memory is no fault of a text
abbrev pub IsLogFault : List ℕ → LogFault → Type 0
IsLogFault text (read.Refused line rule) = IsFaultAt text line rule
IsLogFault text read.Memory = ⊥

-- the valid log whose text this is, or the first fault of the text
unfoldable pub log_in : List ℕ → Step Log
log_in text (Ok kept) = IsValid kept × (log_text kept ≡ text)
log_in text (Err stop) = (why : LogFault) × IsLogFault text why × (stop ≡ Refused (fault.BadLog why))

-- the log in the file of that name
unfoldable pub log_named : Files → List ℕ → Step Log
log_named files name = do
  text ← contents log_limit files name
  log_in text
