-- What each construct reads and writes, in terms of its parts.
use Rattle.std.proofs.Common.{◌≡◌, ℤ, Bool, false, ◌||◌, List, Option, Some, None, ap, sym, ◌∙◌}
use Rattle.bs_tree.specs.declared.tree.NameId.{NameId}
use Rattle.bs_tree.specs.declared.tree.Wait.{Wait}
use Rattle.bs_tree.specs.declared.tree.Op2.{Op2}
use Rattle.bs_tree.specs.declared.tree.Expr.{Expr}
use Rattle.bs_tree.specs.declared.tree.Expr.TheVariants as e
use Rattle.bs_tree.specs.declared.tree.Expr.TheOpen.{Expr-F}
use Rattle.bs_tree.specs.declared.tree.Expr.TheFolds.{fold-roll-Expr}
use Rattle.bs_tree.specs.declared.tree.Act.{Act}
use Rattle.bs_tree.specs.declared.tree.Act.TheVariants as a
use Rattle.bs_tree.specs.declared.tree.Act.TheOpen.{Act-F}
use Rattle.bs_tree.specs.declared.tree.Act.TheFolds.{fold-roll-Act}
use Rattle.bs_tree.specs.declared.tree.Stmt.{Stmt}
use Rattle.bs_tree.specs.declared.tree.Stmt.TheVariants as s
use Rattle.bs_tree.specs.declared.tree.Stmt.TheOpen.{Stmt-F}
use Rattle.bs_tree.specs.declared.tree.Stmt.TheFolds.{fold-roll-Stmt}
use Rattle.bs_tree.specs.Reads.{is_same, mentions_step, mentions, any_mentions, mentions_if_given, act_reads_step, act_reads, any_act_reads, act_writes_step, act_writes, any_act_writes, any_wait_reads, any_wait_writes, stmt_reads_step, stmt_reads, any_stmt_reads, stmt_writes_step, stmt_writes, any_stmt_writes}

pub mentions_number : (n : NameId) (k : ℤ) → mentions n (e.Number k) ≡ (false)
mentions_number n k = ap (mentions n) (sym (e.rolls-Number k)) ∙ fold-roll-Expr Bool (mentions_step n) (Expr-F.Number k)

pub mentions_var : (n : NameId) (x : NameId) → mentions n (e.Var x) ≡ (is_same x n)
mentions_var n x = ap (mentions n) (sym (e.rolls-Var x)) ∙ fold-roll-Expr Bool (mentions_step n) (Expr-F.Var x)

pub mentions_at : (n : NameId) (x : NameId) (i : Expr) → mentions n (e.At x i) ≡ (is_same x n || mentions n i)
mentions_at n x i = ap (mentions n) (sym (e.rolls-At x i)) ∙ fold-roll-Expr Bool (mentions_step n) (Expr-F.At x i)

pub mentions_this : (n : NameId) → mentions n e.This ≡ (false)
mentions_this n = ap (mentions n) (sym (e.rolls-This)) ∙ fold-roll-Expr Bool (mentions_step n) Expr-F.This

pub mentions_chares : (n : NameId) → mentions n e.Chares ≡ (false)
mentions_chares n = ap (mentions n) (sym (e.rolls-Chares)) ∙ fold-roll-Expr Bool (mentions_step n) Expr-F.Chares

pub mentions_neg : (n : NameId) (x : Expr) → mentions n (e.Neg x) ≡ (mentions n x)
mentions_neg n x = ap (mentions n) (sym (e.rolls-Neg x)) ∙ fold-roll-Expr Bool (mentions_step n) (Expr-F.Neg x)

pub mentions_not : (n : NameId) (x : Expr) → mentions n (e.Not x) ≡ (mentions n x)
mentions_not n x = ap (mentions n) (sym (e.rolls-Not x)) ∙ fold-roll-Expr Bool (mentions_step n) (Expr-F.Not x)

pub mentions_two : (n : NameId) (op : Op2) (x y : Expr) → mentions n (e.Two op x y) ≡ (mentions n x || mentions n y)
mentions_two n op x y = ap (mentions n) (sym (e.rolls-Two op x y)) ∙ fold-roll-Expr Bool (mentions_step n) (Expr-F.Two op x y)

pub reads_set : (n : NameId) (x : NameId) (v : Expr) → act_reads n (a.Set x v) ≡ (mentions n v)
reads_set n x v = ap (act_reads n) (sym (a.rolls-Set x v)) ∙ fold-roll-Act Bool (act_reads_step n) (Act-F.Set x v)

pub writes_set : (n : NameId) (x : NameId) (v : Expr) → act_writes n (a.Set x v) ≡ (is_same x n)
writes_set n x v = ap (act_writes n) (sym (a.rolls-Set x v)) ∙ fold-roll-Act Bool (act_writes_step n) (Act-F.Set x v)

pub reads_setat : (n : NameId) (x : NameId) (i v : Expr) → act_reads n (a.SetAt x i v) ≡ (mentions n i || mentions n v)
reads_setat n x i v = ap (act_reads n) (sym (a.rolls-SetAt x i v)) ∙ fold-roll-Act Bool (act_reads_step n) (Act-F.SetAt x i v)

pub writes_setat : (n : NameId) (x : NameId) (i v : Expr) → act_writes n (a.SetAt x i v) ≡ (is_same x n)
writes_setat n x i v = ap (act_writes n) (sym (a.rolls-SetAt x i v)) ∙ fold-roll-Act Bool (act_writes_step n) (Act-F.SetAt x i v)

pub reads_send : (n : NameId) (x : NameId) (r : Expr) (vs : List Expr) (c : Expr) (b : Option Expr) → act_reads n (a.Send x r vs c b) ≡ (mentions n r || any_mentions n vs || mentions n c || mentions_if_given n b)
reads_send n x r vs c b = ap (act_reads n) (sym (a.rolls-Send x r vs c b)) ∙ fold-roll-Act Bool (act_reads_step n) (Act-F.Send x r vs c b)

pub writes_send : (n : NameId) (x : NameId) (r : Expr) (vs : List Expr) (c : Expr) (b : Option Expr) → act_writes n (a.Send x r vs c b) ≡ (false)
writes_send n x r vs c b = ap (act_writes n) (sym (a.rolls-Send x r vs c b)) ∙ fold-roll-Act Bool (act_writes_step n) (Act-F.Send x r vs c b)

pub reads_work : (n : NameId) (v : Expr) → act_reads n (a.Work v) ≡ (mentions n v)
reads_work n v = ap (act_reads n) (sym (a.rolls-Work v)) ∙ fold-roll-Act Bool (act_reads_step n) (Act-F.Work v)

pub writes_work : (n : NameId) (v : Expr) → act_writes n (a.Work v) ≡ (false)
writes_work n v = ap (act_writes n) (sym (a.rolls-Work v)) ∙ fold-roll-Act Bool (act_writes_step n) (Act-F.Work v)

pub reads_emit : (n : NameId) (v : Expr) → act_reads n (a.Emit v) ≡ (mentions n v)
reads_emit n v = ap (act_reads n) (sym (a.rolls-Emit v)) ∙ fold-roll-Act Bool (act_reads_step n) (Act-F.Emit v)

pub writes_emit : (n : NameId) (v : Expr) → act_writes n (a.Emit v) ≡ (false)
writes_emit n v = ap (act_writes n) (sym (a.rolls-Emit v)) ∙ fold-roll-Act Bool (act_writes_step n) (Act-F.Emit v)

pub reads_if_only : (n : NameId) (v : Expr) (body : List Act) → act_reads n (a.If v body None) ≡ (mentions n v || any_act_reads n body || false)
reads_if_only n v body = ap (act_reads n) (sym (a.rolls-If v body None)) ∙ fold-roll-Act Bool (act_reads_step n) (Act-F.If v body None)

pub reads_if_else : (n : NameId) (v : Expr) (body other : List Act) → act_reads n (a.If v body (Some other)) ≡ (mentions n v || any_act_reads n body || any_act_reads n other)
reads_if_else n v body other = ap (act_reads n) (sym (a.rolls-If v body (Some other))) ∙ fold-roll-Act Bool (act_reads_step n) (Act-F.If v body (Some other))

pub writes_if_only : (n : NameId) (v : Expr) (body : List Act) → act_writes n (a.If v body None) ≡ (any_act_writes n body || false)
writes_if_only n v body = ap (act_writes n) (sym (a.rolls-If v body None)) ∙ fold-roll-Act Bool (act_writes_step n) (Act-F.If v body None)

pub writes_if_else : (n : NameId) (v : Expr) (body other : List Act) → act_writes n (a.If v body (Some other)) ≡ (any_act_writes n body || any_act_writes n other)
writes_if_else n v body other = ap (act_writes n) (sym (a.rolls-If v body (Some other))) ∙ fold-roll-Act Bool (act_writes_step n) (Act-F.If v body (Some other))

pub reads_repeat : (n : NameId) (v : Expr) (body : List Act) → act_reads n (a.Repeat v body) ≡ (mentions n v || any_act_reads n body)
reads_repeat n v body = ap (act_reads n) (sym (a.rolls-Repeat v body)) ∙ fold-roll-Act Bool (act_reads_step n) (Act-F.Repeat v body)

pub writes_repeat : (n : NameId) (v : Expr) (body : List Act) → act_writes n (a.Repeat v body) ≡ (any_act_writes n body)
writes_repeat n v body = ap (act_writes n) (sym (a.rolls-Repeat v body)) ∙ fold-roll-Act Bool (act_writes_step n) (Act-F.Repeat v body)

pub stmt_reads_serial : (n : NameId) (acts : List Act) → stmt_reads n (s.Serial acts) ≡ (any_act_reads n acts)
stmt_reads_serial n acts = ap (stmt_reads n) (sym (s.rolls-Serial acts)) ∙ fold-roll-Stmt Bool (stmt_reads_step n) (Stmt-F.Serial acts)

pub stmt_writes_serial : (n : NameId) (acts : List Act) → stmt_writes n (s.Serial acts) ≡ (any_act_writes n acts)
stmt_writes_serial n acts = ap (stmt_writes n) (sym (s.rolls-Serial acts)) ∙ fold-roll-Stmt Bool (stmt_writes_step n) (Stmt-F.Serial acts)

pub stmt_reads_when : (n : NameId) (waits : List Wait) (body : List Stmt) → stmt_reads n (s.When waits body) ≡ (any_wait_reads n waits || any_stmt_reads n body)
stmt_reads_when n waits body = ap (stmt_reads n) (sym (s.rolls-When waits body)) ∙ fold-roll-Stmt Bool (stmt_reads_step n) (Stmt-F.When waits body)

pub stmt_writes_when : (n : NameId) (waits : List Wait) (body : List Stmt) → stmt_writes n (s.When waits body) ≡ (any_wait_writes n waits || any_stmt_writes n body)
stmt_writes_when n waits body = ap (stmt_writes n) (sym (s.rolls-When waits body)) ∙ fold-roll-Stmt Bool (stmt_writes_step n) (Stmt-F.When waits body)

pub stmt_reads_overlap : (n : NameId) (body : List Stmt) → stmt_reads n (s.Overlap body) ≡ (any_stmt_reads n body)
stmt_reads_overlap n body = ap (stmt_reads n) (sym (s.rolls-Overlap body)) ∙ fold-roll-Stmt Bool (stmt_reads_step n) (Stmt-F.Overlap body)

pub stmt_writes_overlap : (n : NameId) (body : List Stmt) → stmt_writes n (s.Overlap body) ≡ (any_stmt_writes n body)
stmt_writes_overlap n body = ap (stmt_writes n) (sym (s.rolls-Overlap body)) ∙ fold-roll-Stmt Bool (stmt_writes_step n) (Stmt-F.Overlap body)

pub stmt_reads_for : (n : NameId) (x : NameId) (first test : Expr) (y : NameId) (step : Expr) (body : List Stmt) → stmt_reads n (s.For x first test y step body) ≡ (mentions n first || mentions n test || mentions n step || any_stmt_reads n body)
stmt_reads_for n x first test y step body = ap (stmt_reads n) (sym (s.rolls-For x first test y step body)) ∙ fold-roll-Stmt Bool (stmt_reads_step n) (Stmt-F.For x first test y step body)

pub stmt_writes_for : (n : NameId) (x : NameId) (first test : Expr) (y : NameId) (step : Expr) (body : List Stmt) → stmt_writes n (s.For x first test y step body) ≡ (is_same x n || is_same y n || any_stmt_writes n body)
stmt_writes_for n x first test y step body = ap (stmt_writes n) (sym (s.rolls-For x first test y step body)) ∙ fold-roll-Stmt Bool (stmt_writes_step n) (Stmt-F.For x first test y step body)

pub stmt_reads_while : (n : NameId) (test : Expr) (body : List Stmt) → stmt_reads n (s.While test body) ≡ (mentions n test || any_stmt_reads n body)
stmt_reads_while n test body = ap (stmt_reads n) (sym (s.rolls-While test body)) ∙ fold-roll-Stmt Bool (stmt_reads_step n) (Stmt-F.While test body)

pub stmt_writes_while : (n : NameId) (test : Expr) (body : List Stmt) → stmt_writes n (s.While test body) ≡ (any_stmt_writes n body)
stmt_writes_while n test body = ap (stmt_writes n) (sym (s.rolls-While test body)) ∙ fold-roll-Stmt Bool (stmt_writes_step n) (Stmt-F.While test body)

pub stmt_reads_if_only : (n : NameId) (test : Expr) (body : List Stmt) → stmt_reads n (s.If test body None) ≡ (mentions n test || any_stmt_reads n body || false)
stmt_reads_if_only n test body = ap (stmt_reads n) (sym (s.rolls-If test body None)) ∙ fold-roll-Stmt Bool (stmt_reads_step n) (Stmt-F.If test body None)

pub stmt_writes_if_only : (n : NameId) (test : Expr) (body : List Stmt) → stmt_writes n (s.If test body None) ≡ (any_stmt_writes n body || false)
stmt_writes_if_only n test body = ap (stmt_writes n) (sym (s.rolls-If test body None)) ∙ fold-roll-Stmt Bool (stmt_writes_step n) (Stmt-F.If test body None)

pub stmt_reads_if_else : (n : NameId) (test : Expr) (body other : List Stmt) → stmt_reads n (s.If test body (Some other)) ≡ (mentions n test || any_stmt_reads n body || any_stmt_reads n other)
stmt_reads_if_else n test body other = ap (stmt_reads n) (sym (s.rolls-If test body (Some other))) ∙ fold-roll-Stmt Bool (stmt_reads_step n) (Stmt-F.If test body (Some other))

pub stmt_writes_if_else : (n : NameId) (test : Expr) (body other : List Stmt) → stmt_writes n (s.If test body (Some other)) ≡ (any_stmt_writes n body || any_stmt_writes n other)
stmt_writes_if_else n test body other = ap (stmt_writes n) (sym (s.rolls-If test body (Some other))) ∙ fold-roll-Stmt Bool (stmt_writes_step n) (Stmt-F.If test body (Some other))

pub stmt_reads_seq : (n : NameId) (body : List Stmt) → stmt_reads n (s.Seq body) ≡ (any_stmt_reads n body)
stmt_reads_seq n body = ap (stmt_reads n) (sym (s.rolls-Seq body)) ∙ fold-roll-Stmt Bool (stmt_reads_step n) (Stmt-F.Seq body)

pub stmt_writes_seq : (n : NameId) (body : List Stmt) → stmt_writes n (s.Seq body) ≡ (any_stmt_writes n body)
stmt_writes_seq n body = ap (stmt_writes n) (sym (s.rolls-Seq body)) ∙ fold-roll-Stmt Bool (stmt_writes_step n) (Stmt-F.Seq body)
