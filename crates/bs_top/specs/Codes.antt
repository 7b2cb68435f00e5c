-- The exit codes (docs/output.md).
use Rattle.std.specs.Prelude.{ℕ}
use Rattle.bs_top.specs.declared.status.Status.{Status}
use Rattle.bs_top.specs.declared.status.Status.TheVariants.{Settled, Deadlock, Trapped, BadWords, BadProgram, CheckFailed, BadMachine, BadLog, AmbiguousMatch, TooLong, BudgetSpent, TooBig, ReadFault, WriteFault, NoFile, Memory}

abbrev pub code_of : Status → ℕ
code_of Settled = 0
code_of Deadlock = 3
code_of Trapped = 4
code_of BadWords = 10
code_of BadProgram = 11
code_of CheckFailed = 12
code_of BadMachine = 13
code_of BadLog = 14
code_of AmbiguousMatch = 15
code_of TooLong = 16
code_of BudgetSpent = 17
code_of TooBig = 18
code_of ReadFault = 20
code_of WriteFault = 21
code_of NoFile = 22
code_of Memory = 30
