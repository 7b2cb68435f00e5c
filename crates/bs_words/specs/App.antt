-- The one simple command, as the parser sees it.
use Rattle.std.specs.Prelude.{ℕ, true, Some, codes, List}
use Rattle.clap.specs.Lexer.{usize_max}
use Rattle.clap.specs.Words.{App, Rule, new_app, new_rule, with_rule}
use Rattle.clap.specs.declared.builder.action.ArgAction.TheVariants.{Append, SetTrue}

abbrev pub bare : App
bare = record (new_app (codes "pochvean")) { top = record ((new_app (codes "pochvean")).top) { no_binary_name = true; disable_help_flag = true; disable_version_flag = true } }

abbrev pub option_rule : List ℕ → Rule
option_rule name = record (new_rule name) { long = Some name }

-- an option without a value
abbrev pub flag_rule : List ℕ → Rule
flag_rule name = record (new_rule name) { long = Some name; action = Some SetTrue }

abbrev pub command_rule : Rule
command_rule = record (new_rule (codes "command")) { required = true }

abbrev pub names_rule : Rule
names_rule = record (new_rule (codes "names")) { action = Some Append; range = Some (record { start_inclusive = 1; end_inclusive = usize_max }) }

abbrev pub words_app : App
words_app = with_rule (with_rule (with_rule (with_rule (with_rule (with_rule (with_rule bare
    (option_rule (codes "limit"))) (option_rule (codes "workers"))) (option_rule (codes "waves"))) (option_rule (codes "journal")))
    (flag_rule (codes "spans"))) command_rule) names_rule
