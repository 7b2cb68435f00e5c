-- The line that a refusal writes.
use Rattle.std.specs.Prelude.{ℕ, Bool, true, false, List, [], ◌++◌, codes}
use Rattle.std.specs.Fmt.{decimal, signed_decimal}
use Rattle.bs_check.specs.declared.fault.CheckFault.{CheckFault}
use Rattle.bs_check.specs.declared.fault.CheckFault.TheVariants as check
use Rattle.bs_check.specs.declared.fault.Rule.{Rule}
use Rattle.bs_check.specs.declared.fault.Rule.TheVariants.{UnknownName, TwiceDeclared, Arity, Interference, IdleLoop, Limits}
use Rattle.bs_lex.specs.declared.token.LexFault.{LexFault}
use Rattle.bs_lex.specs.declared.token.LexFault.TheVariants as lex
use Rattle.bs_parse.specs.declared.text.ParseFault.{ParseFault}
use Rattle.bs_parse.specs.declared.text.ParseFault.TheVariants as parse
use Rattle.bs_log.specs.declared.history.Key.{Key}
use Rattle.bs_logcheck.specs.declared.rule.LogRule.{LogRule}
use Rattle.bs_logcheck.specs.declared.rule.LogRule.TheVariants as rule
use Rattle.bs_logread.specs.declared.fault.LogFault.{LogFault}
use Rattle.bs_logread.specs.declared.fault.LogFault.TheVariants as read
use Rattle.bs_machine.specs.Keys.{table_of, name_of}
use Rattle.bs_machine.specs.declared.fault.MachineFault.{MachineFault}
use Rattle.bs_machine.specs.declared.fault.MachineFault.TheVariants.{NotToml, UnknownKey, Missing, OutOfRange, Memory}
use Rattle.bs_machine.specs.declared.fitted.PlaceLength.{PlaceLength}
use Rattle.bs_machine.specs.declared.key.MachineKey.{MachineKey}
use Rattle.bs_rounds.specs.declared.answer.At.{At}
use Rattle.bs_rounds.specs.declared.answer.Twice.{Twice}
use Rattle.bs_settle.specs.declared.settling.BudgetSpent.{BudgetSpent}
use Rattle.bs_report.specs.declared.faults.Fault.{Fault}
use Rattle.bs_report.specs.declared.faults.Fault.TheVariants.{BadWords, BadProgram, CheckFailed, BadMachine, BadPlace, BadLog, Ambiguous, TooLong, BudgetSpent as SpentBudget, TooBig}

-- the place is a byte of the text, counted from 0
abbrev pub program_line : ℕ → List ℕ → List ℕ
program_line byte why = codes "bad program: byte " ++ (decimal byte ++ (codes " " ++ (why ++ codes "\n")))

abbrev pub lex_text : LexFault → List ℕ
lex_text (lex.NotUtf8 byte) = program_line byte (codes "not utf-8")
lex_text (lex.BadCharacter byte) = program_line byte (codes "bad character")
lex_text (lex.BadNumber byte) = program_line byte (codes "bad number")
lex_text lex.Memory = []

-- want of memory has no line
abbrev pub parse_text : ParseFault → List ℕ
parse_text (parse.Lex fault) = lex_text fault
parse_text (parse.Unexpected byte kind) = program_line byte (codes "unexpected")
parse_text (parse.TooDeep byte) = program_line byte (codes "too deep")
parse_text (parse.TooManyStatements byte) = program_line byte (codes "too many statements")
parse_text parse.Memory = []

-- statements are counted from 1, and 0 stands for the declarations
abbrev pub check_line : ℕ → List ℕ → List ℕ
check_line stmt why = codes "check failed: stmt " ++ (decimal stmt ++ (codes " " ++ (why ++ codes "\n")))

-- the variable and the two parts are counted from 0
abbrev pub interference_line : ℕ → ℕ → ℕ → ℕ → List ℕ
interference_line stmt variable first second =
    codes "check failed: stmt " ++ (decimal stmt ++ (codes " interference var " ++ (decimal variable
    ++ (codes " parts " ++ (decimal first ++ (codes " " ++ (decimal second ++ codes "\n")))))))

abbrev pub rule_text : ℕ → Rule → List ℕ
rule_text stmt UnknownName = check_line stmt (codes "unknown name")
rule_text stmt TwiceDeclared = check_line stmt (codes "declared twice")
rule_text stmt Arity = check_line stmt (codes "arity")
rule_text stmt (Interference variable first second) = interference_line stmt variable first second
rule_text stmt IdleLoop = check_line stmt (codes "idle loop")
rule_text stmt Limits = check_line stmt (codes "limits")

-- want of memory has no line
abbrev pub check_text : CheckFault → List ℕ
check_text (check.Refused stmt rule) = rule_text stmt rule
check_text check.Memory = []

-- a key with its table, as `torus.sizes`
abbrev pub key_text : MachineKey → List ℕ
key_text key = table_of key ++ codes "." ++ name_of key

-- want of memory has no line
abbrev pub machine_text : MachineFault → List ℕ
machine_text NotToml = codes "bad machine: not toml\n"
machine_text UnknownKey = codes "bad machine: unknown key\n"
machine_text (Missing key) = codes "bad machine: missing " ++ key_text key ++ codes "\n"
machine_text (OutOfRange key given) = codes "bad machine: out of range " ++ key_text key ++ codes "\n"
machine_text Memory = []

abbrev pub place_text : PlaceLength → List ℕ
place_text length = codes "bad machine: place length " ++ (decimal length.given ++ (codes " needs " ++ (decimal length.needed ++ codes "\n")))

-- the rule that a line of a log breaks
abbrev pub log_rule_word : LogRule → List ℕ
log_rule_word rule.BadLine = codes "bad line"
log_rule_word rule.BadReference = codes "bad reference"
log_rule_word rule.BadDepth = codes "bad depth"
log_rule_word rule.TwiceUsed = codes "twice used"
log_rule_word rule.Limits = codes "limits"

-- lines are counted from 1
abbrev pub log_line : ℕ → LogRule → List ℕ
log_line line why = codes "bad log: line " ++ (decimal line ++ (codes " " ++ (log_rule_word why ++ codes "\n")))

-- want of memory has no line
abbrev pub log_text : LogFault → List ℕ
log_text (read.Refused line why) = log_line line why
log_text read.Memory = []

-- a statement of a chare; chares are counted from 0, statements from 1
abbrev pub at_text : At → List ℕ
at_text at = codes "chare " ++ decimal at.chare ++ codes " stmt " ++ decimal at.stmt

abbrev pub twice_word : Bool → List ℕ
twice_word true = codes " asked by "
twice_word false = codes " sent by "

-- a key of a chare; entries are counted from 0
abbrev pub key_of_chare : ℕ → Key → List ℕ
key_of_chare chare key = codes "ambiguous: chare " ++ decimal chare ++ codes " entry " ++ decimal key.entry ++ codes " ref " ++ signed_decimal key.reference

-- a key that a chare is sent or asks twice, and the first two statements that do so
abbrev pub twice_text : Twice → List ℕ
twice_text twice =
    key_of_chare twice.chare twice.key ++ twice_word twice.asked ++ at_text twice.first ++ codes " and " ++ at_text twice.second ++ codes "\n"

-- how many waves there were, and the least message whose tick the last of them changed, with its tick before and after it
abbrev pub spent_text : BudgetSpent → List ℕ
spent_text spent =
    codes "budget spent: waves " ++ (decimal spent.waves ++ (codes " mail " ++ (decimal spent.mail.row
    ++ (codes " " ++ (decimal spent.mail.index ++ (codes " kept " ++ (decimal spent.kept.0
    ++ (codes " due " ++ (decimal spent.due.0 ++ codes "\n")))))))))

abbrev pub fault_text : Fault → List ℕ
fault_text BadWords = codes "bad words\n"
fault_text (BadProgram fault) = parse_text fault
fault_text (CheckFailed fault) = check_text fault
fault_text (BadMachine fault) = machine_text fault
fault_text (BadPlace length) = place_text length
fault_text (BadLog fault) = log_text fault
fault_text (Ambiguous twice) = twice_text twice
fault_text (TooLong limit) = codes "too long: limit " ++ decimal limit ++ codes "\n"
fault_text (SpentBudget spent) = spent_text spent
fault_text (TooBig limit) = codes "too big: limit " ++ decimal limit ++ codes " bytes\n"
