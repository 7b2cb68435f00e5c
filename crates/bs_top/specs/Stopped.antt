-- The reason to stop that is made of a refusal.
use Rattle.bs_check.specs.declared.fault.CheckFault.{CheckFault}
use Rattle.bs_check.specs.declared.fault.CheckFault.TheVariants as check
use Rattle.bs_logread.specs.declared.fault.LogFault.{LogFault}
use Rattle.bs_logread.specs.declared.fault.LogFault.TheVariants as read
use Rattle.bs_machine.specs.declared.fault.MachineFault.{MachineFault}
use Rattle.bs_machine.specs.declared.fault.MachineFault.TheVariants as machine
use Rattle.bs_machine.specs.declared.fitted.PlaceLength.{PlaceLength}
use Rattle.bs_parse.specs.declared.text.ParseFault.{ParseFault}
use Rattle.bs_parse.specs.declared.text.ParseFault.TheVariants as parse
use Rattle.bs_report.specs.declared.faults.Fault.TheVariants.{BadWords, BadProgram, CheckFailed, BadMachine, BadPlace, BadLog, BudgetSpent}
use Rattle.bs_settle.specs.declared.settling.SettleFault.{SettleFault}
use Rattle.bs_settle.specs.declared.settling.SettleFault.TheVariants as settle
use Rattle.bs_words.specs.declared.fault.WordsFault.{WordsFault}
use Rattle.bs_words.specs.declared.fault.WordsFault.TheVariants as words
use Rattle.bs_top.specs.declared.stopped.Stopped.{Stopped}
use Rattle.bs_top.specs.declared.stopped.Stopped.TheVariants.{Refused, Memory}

abbrev pub stopped_for_words : WordsFault → Stopped
stopped_for_words words.BadWords = Refused BadWords
stopped_for_words words.Memory = Memory

abbrev pub stopped_for_program : ParseFault → Stopped
stopped_for_program parse.Memory = Memory
stopped_for_program fault = Refused (BadProgram fault)

abbrev pub stopped_for_check : CheckFault → Stopped
stopped_for_check check.Memory = Memory
stopped_for_check fault = Refused (CheckFailed fault)

abbrev pub stopped_for_machine : MachineFault → Stopped
stopped_for_machine machine.Memory = Memory
stopped_for_machine fault = Refused (BadMachine fault)

abbrev pub stopped_for_log : LogFault → Stopped
stopped_for_log read.Memory = Memory
stopped_for_log fault = Refused (BadLog fault)

abbrev pub stopped_for_place : PlaceLength → Stopped
stopped_for_place length = Refused (BadPlace length)

abbrev pub stopped_for_waves : SettleFault → Stopped
stopped_for_waves settle.Memory = Memory
stopped_for_waves (settle.BudgetSpent spent) = Refused (BudgetSpent spent)
