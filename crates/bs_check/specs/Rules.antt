-- Which rule a statement breaks by itself, statements inside it left aside (docs/program-text.md).
use Rattle.std.specs.Prelude.{nat_le, Bool, true, false, ◌&&◌, not, List, length, map, Option, Some, None}
use Rattle.bs_tree.specs.Spends.{any_stmt_spends}
use Rattle.bs_tree.specs.declared.tree.NameId.{NameId}
use Rattle.bs_tree.specs.declared.tree.Wait.{Wait}
use Rattle.bs_tree.specs.declared.tree.Stmt.{Stmt, out-Stmt}
use Rattle.bs_tree.specs.declared.tree.Stmt.TheOpen.{Stmt-F}
use Rattle.bs_tree.specs.declared.tree.Program.{Program}
use Rattle.bs_check.specs.Known.{all_true, is_scalar, is_entry, takes, is_known, are_known, are_counted}
use Rattle.bs_check.specs.Interference.{interference_from}
use Rattle.bs_check.specs.declared.fault.Rule.{Rule}
use Rattle.bs_check.specs.declared.fault.Rule.TheVariants.{UnknownName, Arity, IdleLoop, Limits}

abbrev pub are_scalars : Program → List NameId → Bool
are_scalars p params = all_true (map (is_scalar p) params)

abbrev pub is_wait_known : Program → Wait → Bool
is_wait_known p wait = is_entry p wait.entry && is_known p wait.reference && are_scalars p wait.params

abbrev pub are_waits_known : Program → List Wait → Bool
are_waits_known p waits = all_true (map (is_wait_known p) waits)

abbrev pub is_wait_counted : Program → Wait → Bool
is_wait_counted p wait = takes p wait.entry (length wait.params)

abbrev pub are_waits_counted : Program → List Wait → Bool
are_waits_counted p waits = all_true (map (is_wait_counted p) waits)

abbrev pub knows : Program → Stmt-F Stmt → Bool
knows p (Stmt-F.Serial acts) = are_known p acts
knows p (Stmt-F.When waits body) = are_waits_known p waits
knows p (Stmt-F.Overlap parts) = true
knows p (Stmt-F.For x first test y step body) = is_scalar p x && is_known p first && is_known p test && is_scalar p y && is_known p step
knows p (Stmt-F.While test body) = is_known p test
knows p (Stmt-F.If test body other) = is_known p test
knows p (Stmt-F.Seq body) = true

-- each of the statement's own names is declared as what it is used for
unfoldable pub is_stmt_known : Program → Stmt → Bool
is_stmt_known p s = knows p (out-Stmt s)

abbrev pub counts : Program → Stmt-F Stmt → Bool
counts p (Stmt-F.Serial acts) = are_counted p acts
counts p (Stmt-F.When waits body) = are_waits_counted p waits
counts p _ = true

-- each message that the statement sends or waits for has as many arguments as its entry has parameters
unfoldable pub is_stmt_counted : Program → Stmt → Bool
is_stmt_counted p s = counts p (out-Stmt s)

abbrev pub shares : Program → Stmt-F Stmt → Option Rule
shares p (Stmt-F.Overlap parts) = interference_from 0 p.vars parts
shares p _ = None

-- the variable that two parts of an `overlap` share, where one of them writes it
unfoldable pub interference : Program → Stmt → Option Rule
interference p s = shares p (out-Stmt s)

abbrev pub idles : Stmt-F Stmt → Bool
idles (Stmt-F.For x first test y step body) = not (any_stmt_spends body)
idles (Stmt-F.While test body) = not (any_stmt_spends body)
idles _ = false

-- a loop whose body has no statement that is sure to make a block
unfoldable pub is_idle : Stmt → Bool
is_idle s = idles (out-Stmt s)

abbrev pub waits_for_few : Stmt-F Stmt → Bool
waits_for_few (Stmt-F.When waits body) = nat_le (length waits) 64
waits_for_few _ = true

-- a `when` has at most 64 waits
unfoldable pub is_few : Stmt → Bool
is_few s = waits_for_few (out-Stmt s)

abbrev pub where_not : Bool → Rule → Option Rule
where_not true rule = None
where_not false rule = Some rule

abbrev pub or_next : Option Rule → Option Rule → Option Rule
or_next (Some rule) next = Some rule
or_next None next = next

-- the least rule that the statement breaks, if it breaks one
unfoldable pub broken_rule : Program → Stmt → Option Rule
broken_rule p s =
    or_next (where_not (is_stmt_known p s) UnknownName)
    (or_next (where_not (is_stmt_counted p s) Arity)
    (or_next (interference p s)
    (or_next (where_not (not (is_idle s)) IdleLoop)
    (where_not (is_few s) Limits))))
