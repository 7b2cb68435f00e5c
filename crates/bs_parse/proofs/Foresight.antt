-- The grammar of programs can be read with one token of foresight.
use Rattle.std.proofs.Common.{◌≡◌, true, refl}
use Rattle.bs_tree.specs.Rule.{whole_number, statements, acts, expression, expressions, names, loop_head}
use Rattle.bs_tree.specs.Grammar.{var_ended, entry_ended, after_var, after_entry, addressed, awaited, cell_index, assigned_value, set_to, bytes, body, index, group, length_in_brackets, primary, unary, product, sum, comparison, conjunction, disjunction, ended, act_list, after_name, arguments, message, target, after_send, act_else, after_act_if, after_repeat, act, block, parameters, wait, waits, after_when, setting, head, after_for, after_while, block_else, after_if, sequence, statement, length_declared, variable_declaration, parameters_declared, entry_declaration, chares_declared, variable_declarations, entry_declarations, program}
use Rattle.bs_parse.proofs.Fine.{fine, AllFine}

pub all_fine : AllFine
unfolding var_ended entry_ended after_var after_entry addressed awaited cell_index assigned_value set_to bytes body index group length_in_brackets primary unary product sum comparison conjunction disjunction ended act_list after_name arguments message target after_send act_else after_act_if after_repeat act block parameters wait waits after_when setting head after_for after_while block_else after_if sequence statement length_declared variable_declaration parameters_declared entry_declaration chares_declared variable_declarations entry_declarations program
all_fine _ whole_number = refl
all_fine _ statements = refl
all_fine _ acts = refl
all_fine _ expression = refl
all_fine _ expressions = refl
all_fine _ names = refl
all_fine _ loop_head = refl

pub program_fine : fine program ≡ true
unfolding var_ended entry_ended after_var after_entry addressed awaited cell_index assigned_value set_to bytes body index group length_in_brackets primary unary product sum comparison conjunction disjunction ended act_list after_name arguments message target after_send act_else after_act_if after_repeat act block parameters wait waits after_when setting head after_for after_while block_else after_if sequence statement length_declared variable_declaration parameters_declared entry_declaration chares_declared variable_declarations entry_declarations program
program_fine = refl
