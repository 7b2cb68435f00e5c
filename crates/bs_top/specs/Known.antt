-- What is known of the crates below, on which the laws of the answers rest.
use Rattle.std.specs.Prelude.{◌≡◌, ◌≤◌, ◌<◌, ◌⊎◌, ℕ, Bool, false, IsTrue, List, Ok, length}
use Rattle.bs_line.specs.declared.corrections.Correction.{Correction}
use Rattle.bs_log.specs.Collected.{log_of}
use Rattle.bs_log.specs.Valid.{IsValid}
use Rattle.bs_log.specs.declared.history.History.{History}
use Rattle.bs_log.specs.declared.log.Log.{Log}
use Rattle.bs_logcheck.specs.declared.rule.LogRule.{LogRule}
use Rattle.bs_logread.specs.Fault.{IsFault}
use Rattle.bs_logtext.specs.Text.{log_text}
use Rattle.bs_machine.specs.File.{machine_in}
use Rattle.bs_machine.specs.Machine.{MachineOf, flat_in, machine_view}
use Rattle.bs_machine.specs.declared.fitted.Fitted.{Fitted}
use Rattle.bs_net.specs.Home.{has_length}
use Rattle.bs_path.specs.Chain.{IsCritical}
use Rattle.bs_path.specs.declared.links.Chain.{Chain}
use Rattle.bs_parse.specs.TextLaws.{NotBoth, OneFault, OneProgram, SomeAnswer}
use Rattle.bs_semantics.specs.Serial.{IsSerial, Machine, Simulated, unclean}
use Rattle.bs_semantics.specs.Verdict.{IsVerdict, clean, Verdict}
use Rattle.bs_settle.specs.Noted.{AreNoted}
use Rattle.bs_settle.specs.Settled.{IsSpent, StillAt}
use Rattle.bs_settle.specs.declared.settling.BudgetSpent.{BudgetSpent}
use Rattle.bs_times.specs.Machine.{IsTimely, machine_of}
use Rattle.bs_times.specs.Net.{Causal, HasRow, Net, Starts, Ticks, net_of}
use Rattle.bs_times.specs.Outcomes.{outcome_of}
use Rattle.bs_times.specs.Times.{IsConsistent}
use Rattle.bs_tree.specs.declared.tree.Program.{Program}
use Rattle.bs_whatif.specs.Figures.{swept, tuned}
use Rattle.bs_whatif.specs.Rescaled.{IsFraction}
use Rattle.bs_whatif.specs.Texts.{IsPointsText, IsSpansText}

-- the serial machine model has one answer at most
abbrev pub OneSerial : Type 0
OneSerial = (p : Program) (limit : ℕ) (m : Machine) (r s : Simulated) → IsSerial p limit m r → IsSerial p limit m s → r ≡ s

-- a program has one verdict at most
abbrev pub OneVerdict : Type 0
OneVerdict = (p : Program) (limit : ℕ) (v w : Verdict) → IsVerdict p limit v → IsVerdict p limit w → v ≡ w

-- what the texts and the times of logs are known for
pub record LogLaws : Type 0 where
  pub text : (a b : Log) → IsValid a → IsValid b → log_text a ≡ log_text b → a ≡ b
  pub fault : (text : List ℕ) (m n : ℕ) (r s : LogRule) → IsFault text m r → IsFault text n s → (m ≡ n) × (r ≡ s)
  pub none : (log : Log) (line : ℕ) (rule : LogRule) → IsValid log → IsFault (log_text log) line rule → ⊥
  pub small : (log : Log) → IsValid log → length (log_text log) < 67108864
  pub timely : (f : Fitted) → IsTimely (machine_of f)
  pub causal : (log : Log) (machine : Machine) → IsValid log → IsTimely machine → Causal (net_of log machine)
  pub run_causal : (p : Program) (limit : ℕ) (m : Machine) (hs : List History) → IsTimely m → IsVerdict p limit (clean hs) → Causal (net_of (log_of hs (length p.entries)) m)
  pub table : (net : Net) → Causal net → (s z : Starts) → IsConsistent net s → IsConsistent net z → (i : ℕ) → HasRow net i → s i ≡ z i
  pub spent : (net : Net) → Causal net → (estimates : Ticks) (most : ℕ) (s z : BudgetSpent) → IsSpent net estimates most s → IsSpent net estimates most z → s ≡ z
  pub either : (net : Net) → Causal net → (estimates : Ticks) (most : ℕ) (s : BudgetSpent) → IsSpent net estimates most s → StillAt net estimates most → ⊥
  pub noting : (net : Net) → Causal net → (estimates : Ticks) (most : ℕ) (a b : List (List Correction)) (p q : Bool) → AreNoted net estimates most a p → AreNoted net estimates most b q → (a ≡ b) × (p ≡ q)
  pub chain : (net : Net) → Causal net → (s z : Starts) → IsConsistent net s → IsConsistent net z → (c d : Chain) → IsCritical net s c → IsCritical net z d → c ≡ d
  pub points : (log : Log) (ms : List Fitted) → IsValid log → (a b : List ℕ) → IsPointsText (swept log ms) a → IsPointsText (swept log ms) b → a ≡ b
  pub spans : (log : Log) (ms : List Fitted) → IsValid log → (a b : List ℕ) → IsSpansText (swept log ms) a → IsSpansText (swept log ms) b → a ≡ b
  pub tuned_points : (log : Log) (m : Fitted) (stmt num den : ℕ) → IsValid log → IsFraction num den → (a b : List ℕ) → IsPointsText (tuned log m stmt num den) a → IsPointsText (tuned log m stmt num den) b → a ≡ b
  pub tuned_spans : (log : Log) (m : Fitted) (stmt num den : ℕ) → IsValid log → IsFraction num den → (a b : List ℕ) → IsSpansText (tuned log m stmt num den) a → IsSpansText (tuned log m stmt num den) b → a ≡ b
  pub outcome : (log : Log) (machine : Machine) → IsValid log → IsTimely machine → (s z : Starts) → IsConsistent (net_of log machine) s → IsConsistent (net_of log machine) z → outcome_of log machine s ≡ outcome_of log machine z

-- all of it
pub record Known : Type 0 where
  pub program : OneProgram
  pub fault_is : OneFault
  pub not_both : NotBoth
  pub verdict : OneVerdict
  pub serial : OneSerial
  pub logs : LogLaws

-- each of these is there
pub record SomeLaws : Type 0 where
  pub text : SomeAnswer
  pub log : (text : List ℕ) → ((log : Log) × IsValid log × (log_text log ≡ text)) ⊎ ((line : ℕ) × (rule : LogRule) × IsFault text line rule)
  pub verdict : (p : Program) (limit : ℕ) → (v : Verdict) × IsVerdict p limit v
  pub serial : (p : Program) (limit : ℕ) (m : Machine) → (r : Simulated) × IsSerial p limit m r
  pub clean_run : (p : Program) (limit : ℕ) (m : Machine) (v : Verdict) → IsVerdict p limit v → IsSerial p limit m unclean → (hs : List History) → v ≡ clean hs → ⊥
  pub table : (log : Log) (machine : Machine) → IsValid log → IsTimely machine → (s : Starts) × IsConsistent (net_of log machine) s
  pub chain : (log : Log) (machine : Machine) → IsValid log → IsTimely machine → (s : Starts) → IsConsistent (net_of log machine) s → (c : Chain) × IsCritical (net_of log machine) s c
  pub points : (log : Log) (ms : List Fitted) → IsValid log → (text : List ℕ) × IsPointsText (swept log ms) text
  pub spans : (log : Log) (ms : List Fitted) → IsValid log → (text : List ℕ) × IsSpansText (swept log ms) text
  pub tuned_points : (log : Log) (m : Fitted) (stmt num den : ℕ) → IsValid log → IsFraction num den → (text : List ℕ) × IsPointsText (tuned log m stmt num den) text
  pub tuned_spans : (log : Log) (m : Fitted) (stmt num den : ℕ) → IsValid log → IsFraction num den → (text : List ℕ) × IsSpansText (tuned log m stmt num den) text
  pub settling : (net : Net) → Causal net → (estimates : Ticks) (most : ℕ) → 1 ≤ most → StillAt net estimates most ⊎ ((s : BudgetSpent) × IsSpent net estimates most s)
  pub noting : (net : Net) → Causal net → (estimates : Ticks) (most : ℕ) → 1 ≤ most → (lists : List (List Correction)) × (settled : Bool) × AreNoted net estimates most lists settled
  pub moving : (net : Net) → Causal net → (estimates : Ticks) (most : ℕ) (lists : List (List Correction)) → AreNoted net estimates most lists false → StillAt net estimates most → ⊥
  pub file : (bytes : List ℕ) (m : MachineOf) (chares : ℕ) → machine_in bytes ≡ Ok m → 1 ≤ chares → chares ≤ 65536 → IsTrue (has_length m.place chares) → (f : Fitted) × (machine_view f.machine ≡ m) × (f.chares ≡ chares)
  pub flat : (processors latency : ℕ) (m : MachineOf) (chares : ℕ) → flat_in processors latency ≡ Ok m → 1 ≤ chares → chares ≤ 65536 → IsTrue (has_length m.place chares) → (f : Fitted) × (machine_view f.machine ≡ m) × (f.chares ≡ chares)
