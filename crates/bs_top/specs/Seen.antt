-- What contracts see of a command that was read, and of a reply.
use Rattle.std.specs.Prelude.{◌≡◌, ◌<◌, ℕ, List, length, option_map, string_bytes}
use Rattle.bs_log.specs.Lists.{Mem}
use Rattle.bs_machine.specs.declared.fitted.Fitted.{Fitted}
use Rattle.bs_top.specs.declared.asked.Asked.{Asked as AskedFor}
use Rattle.bs_top.specs.declared.asked.Asked.TheVariants as asked
use Rattle.bs_top.specs.declared.reply.Note.{Note as FileText}
use Rattle.bs_top.specs.declared.reply.Reply.{Reply}
use Rattle.bs_top.specs.declared.reply.Target.{Target}
use Rattle.bs_top.specs.declared.reply.Target.TheVariants as target
use Rattle.bs_top.specs.Targets.{Note, TargetOf, output, errors, in_file}
use Rattle.bs_top.specs.Words.{AreWaves, Asked, check, model, emulate, run, predict, trace, chain, sweep, tune, gen, trial, IsLimit, words_of}
use Rattle.bs_words.specs.Generated.{IsGenerated}
use Rattle.bs_words.specs.Machine.{word_of}
use Rattle.bs_words.specs.Tuning.{IsTuning}
use Rattle.bs_top.specs.Step.{Said}

abbrev pub asked_of : AskedFor → Asked
asked_of (asked.Check program) = check program.now
asked_of (asked.Model program machine limit) = model program.now (word_of machine) limit
asked_of (asked.Emulate program log limit) = emulate program.now log.now limit
asked_of (asked.Run program machine limit waves) = run program.now (word_of machine) limit waves
asked_of (asked.Predict log machine waves journal) = predict log.now (word_of machine) waves (option_map (λ name. name.now) journal)
asked_of (asked.Trace log machine) = trace log.now (word_of machine)
asked_of (asked.Chain log machine) = chain log.now (word_of machine)
asked_of (asked.Sweep log machines spans) = sweep log.now (words_of machines.now) spans
asked_of (asked.Tune log machine tuning spans) = tune log.now (word_of machine) tuning spans
asked_of (asked.Gen generated) = gen generated
asked_of (asked.Trial generated) = trial generated

-- the limit is one, and the number of waves is one, and so are the numbers of a tuning and of a program to generate; and a
-- sweep has a machine
abbrev pub HasLimit : AskedFor → Type 0
HasLimit (asked.Check program) = Unit {0}
HasLimit (asked.Model program machine limit) = IsLimit limit
HasLimit (asked.Emulate program log limit) = IsLimit limit
HasLimit (asked.Run program machine limit waves) = IsLimit limit × AreWaves waves
HasLimit (asked.Predict log machine waves journal) = AreWaves waves
HasLimit (asked.Trace log machine) = Unit {0}
HasLimit (asked.Chain log machine) = Unit {0}
HasLimit (asked.Sweep log machines spans) = 0 < length (words_of machines.now)
HasLimit (asked.Tune log machine tuning spans) = IsTuning tuning
HasLimit (asked.Gen generated) = IsGenerated generated
HasLimit (asked.Trial generated) = IsGenerated generated

-- machines that were fitted to so many chares
abbrev pub AreFittedTo : ℕ → List Fitted → Type 0
AreFittedTo chares fitted = (f : Fitted) → Mem f fitted → f.chares ≡ chares

abbrev pub target_of : Target → TargetOf
target_of target.Output = output
target_of target.Errors = errors
target_of (target.File name) = in_file (string_bytes name)

abbrev pub note_of : FileText → Note
note_of note = record { name = string_bytes note.name; text = note.text.items }

abbrev pub said_of : Reply → Said
said_of reply = record { ending = reply.ending; note = option_map note_of reply.note; target = target_of reply.target; text = reply.text.items }
