-- Files that hold all that a command needs, and what it then comes to.
use Rattle.std.specs.Prelude.{◌≡◌, ◌≤◌, ◌⊎◌, ℕ, Bool, IsTrue, List, [], ◌∷◌, length, Option, Some, None, Ok}
use Rattle.std.specs.FinMap as map
use Rattle.bs_desk.specs.Outside.{Outside, Files}
use Rattle.bs_check.specs.Refusal.{refusal}
use Rattle.bs_log.specs.Collected.{log_of}
use Rattle.bs_log.specs.Valid.{IsValid}
use Rattle.bs_log.specs.declared.history.History.{History}
use Rattle.bs_gen.specs.Programs.{workload_text}
use Rattle.bs_log.specs.declared.log.Log.{Log}
use Rattle.bs_log.specs.declared.outcome.Outcome.{Outcome}
use Rattle.bs_logtext.specs.Text.{log_text}
use Rattle.bs_machine.specs.File.{machine_in}
use Rattle.bs_machine.specs.Machine.{MachineOf, flat_in}
use Rattle.bs_net.specs.Home.{has_length}
use Rattle.bs_parse.specs.Text.{Spells}
use Rattle.bs_semantics.specs.Verdict.{IsVerdict, clean}
use Rattle.bs_tree.specs.declared.tree.Program.{Program}
use Rattle.bs_top.specs.declared.status.Status.{Status}
use Rattle.bs_top.specs.declared.status.Status.TheVariants as status
use Rattle.bs_top.specs.Answer.{Answer, answer_of}
use Rattle.bs_top.specs.commands.Journal.{IsJournal}
use Rattle.bs_top.specs.Reports.{IsOutcomeOn, IsPrediction, IsReport}
use Rattle.bs_top.specs.commands.Chain.{IsChaining}
use Rattle.bs_top.specs.commands.Sweep.{IsSweep}
use Rattle.bs_top.specs.commands.Trace.{IsTracing}
use Rattle.bs_top.specs.commands.Trial.{trial_limit, tried_as}
use Rattle.bs_top.specs.commands.Tune.{IsTune}
use Rattle.bs_top.specs.Waves.{budget_of}
use Rattle.bs_top.specs.Inputs.{file_limit}
use Rattle.bs_top.specs.commands.Emulate.{kept_in}
use Rattle.bs_top.specs.Performs.{WritesAnswer}
use Rattle.bs_top.specs.Step.{Said}
use Rattle.bs_words.specs.Machine.{MachineWord, flat, file}
use Rattle.bs_words.specs.declared.generated.Generated.{Generated}
use Rattle.bs_words.specs.declared.tuning.Tuning.{Tuning}

-- the file of that name holds these bytes, and no more than the file of a program or a machine may have
pub record HasFile (files : Files) (name bytes : List ℕ) : Type 0 where
  pub is_there : map.get files name ≡ Some bytes
  pub is_small : length bytes ≤ file_limit

-- the file of that name holds the text of a program that keeps all rules
pub record HasProgram (files : Files) (name : List ℕ) (p : Program) : Type 0 where
  pub text : List ℕ
  pub is_read : HasFile files name text
  pub is_spelled : Spells text p
  pub is_kept : refusal p ≡ None

-- the word gives a machine, by its numbers or by its file
abbrev pub HasMachine : Files → MachineWord → MachineOf → Type 0
HasMachine files (flat processors latency) m = flat_in processors latency ≡ Ok m
HasMachine files (file name) m = (bytes : List ℕ) × HasFile files name bytes × (machine_in bytes ≡ Ok m)

-- there are a program and a machine that fits it, and the program's verdict at the limit is Clean
pub record CanRun (files : Files) (name : List ℕ) (word : MachineWord) (limit : ℕ) (p : Program) (m : MachineOf) : Type 0 where
  pub program : HasProgram files name p
  pub machine : HasMachine files word m
  pub is_fitting : IsTrue (has_length m.place p.chares)
  pub is_clean : (histories : List History) × IsVerdict p limit (clean histories)

-- the answer is a report of what the serial machine model gives
abbrev pub IsReported : Program → MachineOf → ℕ → Answer → Type 0
IsReported p m limit answer = (said : Said) × IsReport p m limit said × (answer ≡ answer_of (Ok said))

-- there is a program, and its verdict at the limit is Clean, with these histories
pub record CanEmulate (files : Files) (name : List ℕ) (limit : ℕ) (p : Program) (histories : List History) : Type 0 where
  pub program : HasProgram files name p
  pub is_clean : IsVerdict p limit (clean histories)

-- the answer is the log of these histories, for the file of that name
abbrev pub logged_in : List ℕ → Program → List History → Answer
logged_in into p histories = answer_of (Ok (kept_in into (log_of histories (length p.entries))))

-- the file of that name holds the text of a valid log
pub record HasLog (files : Files) (name : List ℕ) (kept : Log) : Type 0 where
  pub is_there : map.get files name ≡ Some (log_text kept)
  pub is_valid : IsValid kept

-- there are a log and a machine that fits it
pub record CanPredict (files : Files) (name : List ℕ) (word : MachineWord) (kept : Log) (m : MachineOf) : Type 0 where
  pub log : HasLog files name kept
  pub machine : HasMachine files word m
  pub is_fitting : IsTrue (has_length m.place kept.chares)

-- the file of that name holds the text of a log, and there is a machine that fits the log
pub record CanForetell (files : Files) (name : List ℕ) (word : MachineWord) (kept : Log) (m : MachineOf) : Type 0 where
  pub is_there : map.get files name ≡ Some (log_text kept)
  pub machine : HasMachine files word m
  pub is_fitting : IsTrue (has_length m.place kept.chares)

-- the answer is the report of the log's outcome on the machine at the log's one consistent table
abbrev pub IsPredicted : Log → MachineOf → Answer → Type 0
IsPredicted kept m answer = (said : Said) × IsPrediction kept m said × (answer ≡ answer_of (Ok said))

-- the answer is the journal of the waves, and behind it that report
abbrev pub IsJournaled : Option ℕ → List ℕ → Log → MachineOf → Answer → Type 0
IsJournaled waves into kept m answer = (said : Said) × IsJournal waves into kept m said × (answer ≡ answer_of (Ok said))

-- the answer is the trace of the log on the machine at the log's one consistent table
abbrev pub IsTraced : Log → MachineOf → Answer → Type 0
IsTraced kept m answer = (said : Said) × IsTracing kept m said × (answer ≡ answer_of (Ok said))

-- the text of a generated program spells a program that keeps all rules, and its verdict at the greatest limit is Clean; and
-- the machine of a trial fits it
pub record CanTry (g : Generated) (p : Program) (m : MachineOf) : Type 0 where
  pub is_spelled : Spells (workload_text g.kind g.chares g.seed) p
  pub is_kept : refusal p ≡ None
  pub machine : flat_in 64 10 ≡ Ok m
  pub is_fitting : IsTrue (has_length m.place p.chares)
  pub is_clean : (histories : List History) × IsVerdict p trial_limit (clean histories)

-- the answer is the line of an outcome that the serial machine model gives
abbrev pub IsTried : Generated → Program → MachineOf → Answer → Type 0
IsTried g p m answer = (outcome : Outcome) × IsOutcomeOn p m trial_limit outcome × (answer ≡ answer_of (Ok (tried_as g outcome)))

-- the answer is the critical chain of the log on the machine at the log's one consistent table
abbrev pub IsChained : Log → MachineOf → Answer → Type 0
IsChained kept m answer = (said : Said) × IsChaining kept m said × (answer ≡ answer_of (Ok said))

-- each word gives a machine that fits so many chares
abbrev pub HaveMachines : Files → ℕ → List MachineWord → List MachineOf → Type 0
HaveMachines files chares [] [] = Unit {0}
HaveMachines files chares [] (m ∷ ms) = ⊥
HaveMachines files chares (word ∷ words) [] = ⊥
HaveMachines files chares (word ∷ words) (m ∷ ms) = HasMachine files word m × IsTrue (has_length m.place chares) × HaveMachines files chares words ms

-- there are a log and machines that fit it
pub record CanSweep (files : Files) (name : List ℕ) (words : List MachineWord) (kept : Log) (machines : List MachineOf) : Type 0 where
  pub log : HasLog files name kept
  pub are_fitting : HaveMachines files kept.chares words machines

-- the answer is the text of the points of the log on the machines
abbrev pub IsSwept : Bool → Log → List MachineOf → Answer → Type 0
IsSwept spans kept machines answer = (said : Said) × IsSweep spans kept machines said × (answer ≡ answer_of (Ok said))

-- the answer is the text of the two points of the log on the machine
abbrev pub IsTuned : Tuning → Bool → Log → MachineOf → Answer → Type 0
IsTuned tuning spans kept m answer = (said : Said) × IsTune tuning spans kept m said × (answer ≡ answer_of (Ok said))

-- no number of waves is given, or one that is enough for the log on every machine
abbrev pub IsAmple : Option ℕ → Log → Type 0
IsAmple None kept = Unit {0}
IsAmple (Some most) kept = budget_of kept ≤ most

-- the same for the log of a program whose verdict at the limit is Clean
abbrev pub IsAmpleFor : Option ℕ → Program → ℕ → Type 0
IsAmpleFor waves p limit = (histories : List History) → IsVerdict p limit (clean histories) → IsAmple waves (log_of histories (length p.entries))

-- statuses with which a text isn't written whole
abbrev pub IsFailure : Status → Type 0
IsFailure status.ReadFault = Unit {0}
IsFailure status.WriteFault = Unit {0}
IsFailure status.Memory = Unit {0}
IsFailure _ = ⊥

-- the whole answer is written and its status is told, unless the desk refused or memory was wanting
abbrev pub Ends : (Answer → Type 0) → Outside → Outside → Status → Type 0
Ends is old new s = IsFailure s ⊎ ((answer : Answer) × is answer × WritesAnswer answer s old new)
