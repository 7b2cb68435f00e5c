-- The meaning of each construct of the examples in terms of the meanings of its parts.
use Rattle.std.proofs.Common.{◌≡◌, ℕ, pos, List, Some, None, Ok, get_or, map, ap}
use Rattle.bs_tree.specs.declared.tree.NameId.{NameId}
use Rattle.bs_tree.specs.declared.tree.Program.{Program}
use Rattle.bs_tree.specs.declared.tree.Wait.{Wait}
use Rattle.bs_tree.specs.declared.tree.Op2.{Op2}
use Rattle.bs_tree.specs.declared.tree.Expr.{Expr}
use Rattle.bs_tree.specs.declared.tree.Expr.TheOpen.{Expr-F}
use Rattle.bs_tree.specs.declared.tree.Expr.TheFolds.{fold-roll-Expr}
use Rattle.bs_tree.specs.declared.tree.Act.{Act}
use Rattle.bs_tree.specs.declared.tree.Act.TheOpen.{Act-F}
use Rattle.bs_tree.specs.declared.tree.Act.TheFolds.{fold-roll-Act}
use Rattle.bs_tree.specs.declared.tree.Stmt.{Stmt}
use Rattle.bs_tree.specs.declared.tree.Stmt.TheOpen.{Stmt-F}
use Rattle.bs_tree.specs.declared.tree.Stmt.TheFolds.{fold-roll-Stmt}
use Rattle.bs_semantics.specs.Layout.{place_of}
use Rattle.bs_semantics.specs.Value.{Cells, Meaning, value_step, value_of, then_value, or_right, decided, apply}
use Rattle.bs_semantics.specs.Acts.{Tally, Acting, act_step, act_of}
use Rattle.bs_semantics.specs.Run.{Meant, meant_step, meant}
use Rattle.bs_semantics.specs.Examples as example

module _ (p : Program) (this : ℕ) where
  pub value_number : (n : ℕ) (cells : Cells) → value_of p this (example.number n) cells ≡ Ok (pos n)
  value_number n cells = ap (λ f. f cells) (fold-roll-Expr Meaning (value_step p this) (Expr-F.Number (pos n)))

  pub value_variable : (x : NameId) (cells : Cells) → value_of p this (example.variable x) cells ≡ Ok (get_or cells (place_of p x).from (pos 0))
  value_variable x cells = ap (λ f. f cells) (fold-roll-Expr Meaning (value_step p this) (Expr-F.Var x))

  pub value_this : (cells : Cells) → value_of p this example.this cells ≡ Ok (pos this)
  value_this cells = ap (λ f. f cells) (fold-roll-Expr Meaning (value_step p this) Expr-F.This)

  pub value_two : (op : Op2) (a b : Expr) (cells : Cells) → value_of p this (example.two op a b) cells ≡ then_value (value_of p this a cells) (λ v. or_right (decided op v) (apply op v) (value_of p this b cells))
  value_two op a b cells = ap (λ f. f cells) (fold-roll-Expr Meaning (value_step p this) (Expr-F.Two op a b))

  pub act_work : (e : Expr) (t : Tally) → act_of p this (example.work e) t ≡ act_step p this (Act-F.Work e) t
  act_work e t = ap (λ f. f t) (fold-roll-Act Acting (act_step p this) (Act-F.Work e))

  pub act_emit : (e : Expr) (t : Tally) → act_of p this (example.emit e) t ≡ act_step p this (Act-F.Emit e) t
  act_emit e t = ap (λ f. f t) (fold-roll-Act Acting (act_step p this) (Act-F.Emit e))

  pub act_send : (entry : NameId) (reference : Expr) (args : List Expr) (target : Expr) (t : Tally) → act_of p this (example.send entry reference args target) t ≡ act_step p this (Act-F.Send entry reference args target None) t
  act_send entry reference args target t = ap (λ f. f t) (fold-roll-Act Acting (act_step p this) (Act-F.Send entry reference args target None))

  module _ (limit : ℕ) where
    pub meant_serial : (acts : List Act) → meant p limit this (example.serial acts) ≡ meant_step p limit this (Stmt-F.Serial acts)
    meant_serial acts = fold-roll-Stmt Meant (meant_step p limit this) (Stmt-F.Serial acts)

    pub meant_when : (waits : List Wait) (body : List Stmt) → meant p limit this (example.when waits body) ≡ meant_step p limit this (Stmt-F.When waits (map (meant p limit this) body))
    meant_when waits body = fold-roll-Stmt Meant (meant_step p limit this) (Stmt-F.When waits body)

    pub meant_overlap : (body : List Stmt) → meant p limit this (example.overlap body) ≡ meant_step p limit this (Stmt-F.Overlap (map (meant p limit this) body))
    meant_overlap body = fold-roll-Stmt Meant (meant_step p limit this) (Stmt-F.Overlap body)

    pub meant_if : (test : Expr) (body other : List Stmt) → meant p limit this (example.if_else test body other) ≡ meant_step p limit this (Stmt-F.If test (map (meant p limit this) body) (Some (map (meant p limit this) other)))
    meant_if test body other = fold-roll-Stmt Meant (meant_step p limit this) (Stmt-F.If test body (Some other))
