-- Four small programs, and what the definitions make of them (docs/model.md).
use Rattle.std.specs.Prelude.{◌≡◌, ℕ, pos, List, [], ◌∷◌, Some, None, true, false, codes}
use Rattle.bs_tree.specs.declared.tree.NameId.{NameId}
use Rattle.bs_tree.specs.declared.tree.Name.{Name}
use Rattle.bs_tree.specs.declared.tree.Program.{Program}
use Rattle.bs_tree.specs.declared.tree.Path.{Path}
use Rattle.bs_tree.specs.declared.tree.Expr.{Expr}
use Rattle.bs_tree.specs.declared.tree.Act.{Act}
use Rattle.bs_tree.specs.declared.tree.Stmt.{Stmt}
use Rattle.bs_tree.specs.declared.tree.Wait.{Wait}
use Rattle.bs_tree.specs.declared.tree.Op2.{Op2}
use Rattle.bs_tree.specs.declared.tree.Expr.TheOpen.{Expr-F}
use Rattle.bs_tree.specs.declared.tree.Act.TheOpen.{Act-F}
use Rattle.bs_tree.specs.declared.tree.Stmt.TheOpen.{Stmt-F}
use Rattle.bs_tree.specs.declared.tree.Expr.TheViews.{roll-Expr}
use Rattle.bs_tree.specs.declared.tree.Act.TheViews.{roll-Act}
use Rattle.bs_tree.specs.declared.tree.Stmt.TheViews.{roll-Stmt}
use Rattle.bs_tree.specs.declared.tree.Op2.TheVariants.{Sub, Eq}
use Rattle.bs_log.specs.declared.history.Key.{Key}
use Rattle.bs_log.specs.declared.history.Message.{Message}
use Rattle.bs_log.specs.declared.history.History.{History}
use Rattle.bs_log.specs.Size.{size_all}
use Rattle.bs_semantics.specs.Rounds.{mail, round}
use Rattle.bs_semantics.specs.Verdict.{Twice, ambiguous, clean, twice, IsVerdict}

-- ---- the constructs as functions

abbrev pub number : ℕ → Expr
number n = roll-Expr (Expr-F.Number (pos n))

abbrev pub variable : NameId → Expr
variable x = roll-Expr (Expr-F.Var x)

abbrev pub this : Expr
this = roll-Expr Expr-F.This

abbrev pub two : Op2 → Expr → Expr → Expr
two op a b = roll-Expr (Expr-F.Two op a b)

abbrev pub work : Expr → Act
work e = roll-Act (Act-F.Work e)

abbrev pub emit : Expr → Act
emit e = roll-Act (Act-F.Emit e)

abbrev pub send : NameId → Expr → List Expr → Expr → Act
send entry reference args target = roll-Act (Act-F.Send entry reference args target None)

abbrev pub serial : List Act → Stmt
serial acts = roll-Stmt (Stmt-F.Serial acts)

abbrev pub when : List Wait → List Stmt → Stmt
when waits body = roll-Stmt (Stmt-F.When waits body)

abbrev pub overlap : List Stmt → Stmt
overlap body = roll-Stmt (Stmt-F.Overlap body)

abbrev pub if_else : Expr → List Stmt → List Stmt → Stmt
if_else test body other = roll-Stmt (Stmt-F.If test body (Some other))

-- the names x, go and y
abbrev pub x : NameId
x = record { 0 = 0 }

abbrev pub go : NameId
go = record { 0 = 1 }

abbrev pub y : NameId
y = record { 0 = 2 }

abbrev pub names : List Name
names = record { 0 = codes "x" } ∷ record { 0 = codes "go" } ∷ record { 0 = codes "y" } ∷ []

-- go[reference](params)
abbrev pub wait : ℕ → List NameId → Wait
wait reference params = record { entry = go; reference = number reference; params = params }

-- the key of the entry go
abbrev pub key : ℕ → Key
key reference = record { entry = 0; reference = pos reference }

abbrev pub path : List ℕ → Path
path places = record { 0 = places }

-- ---- two chares that send to each other

-- chares 2; var x; entry go(1);
-- body {
--   serial { work 3; send go[7](this) to 1 - this; }
--   when go[7](x) { serial { work 2; emit x; } }
-- }
abbrev pub exchange : Program
exchange = record {
  chares = 2;
  names = names;
  vars = record { name = x; cells = None } ∷ [];
  entries = record { name = go; params = 1 } ∷ [];
  body = serial (work (number 3) ∷ send go (number 7) (this ∷ []) (two Sub (number 1) this) ∷ [])
      ∷ when (wait 7 (x ∷ []) ∷ []) (serial (work (number 2) ∷ emit (variable x) ∷ []) ∷ [])
      ∷ [];
}

-- the message of a chare to the other one: 8 bytes, 4 cost units after its block's start
abbrev pub message_of : ℕ → ℕ → Message
message_of c other = record { origin = record { chare = c; path = path (0 ∷ []); index = 1; depth = 1 }; sent = record { to = other; key = key 7; bytes = 8; offset = 4 }; args = pos c ∷ [] }

-- the first block of a chare costs 4 units. The second costs 3, rests on the first and on the other chare's message, and
-- emits the other chare's number
abbrev pub history_of : ℕ → ℕ → History
history_of c other = record {
  blocks = record { path = path (0 ∷ []); stmt = 1; depth = 1; cost = 4; after = []; mail = []; emits = []; sends = message_of c other ∷ [] }
      ∷ record { path = path (1 ∷ 0 ∷ []); stmt = 3; depth = 2; cost = 3; after = path (0 ∷ []) ∷ []; mail = (message_of other c).origin ∷ []; emits = pos other ∷ []; sends = [] }
      ∷ [];
  asked = record { key = key 7; path = path (1 ∷ []); stmt = 2 } ∷ [];
  waits = [];
  traps = [];
  ended = true;
}

abbrev pub both_histories : List History
both_histories = history_of 0 1 ∷ history_of 1 0 ∷ []

-- round 1 has both histories whole, and sends no more than round 0 did
pub record ExchangeRuns (limit : ℕ) : Type 0 where
  pub histories : round exchange limit 1 ≡ both_histories
  pub first_mail : mail exchange limit 1 ≡ message_of 0 1 ∷ message_of 1 0 ∷ []
  pub second_mail : mail exchange limit 2 ≡ mail exchange limit 1
  pub size : size_all (round exchange limit 1) ≡ 14
  pub verdict : IsVerdict exchange limit (clean both_histories)

-- ---- a key that is sent twice

-- chares 2; var x; entry go(1);
-- body {
--   if (this == 0) { serial { send go[0](1) to 1; } serial { send go[0](2) to 1; } }
--   else { when go[0](x) { serial { } } }
-- }
abbrev pub sends_twice : Program
sends_twice = record {
  chares = 2;
  names = names;
  vars = record { name = x; cells = None } ∷ [];
  entries = record { name = go; params = 1 } ∷ [];
  body = if_else (two Eq this (number 0))
      (serial (send go (number 0) (number 1 ∷ []) (number 1) ∷ []) ∷ serial (send go (number 0) (number 2 ∷ []) (number 1) ∷ []) ∷ [])
      (when (wait 0 (x ∷ []) ∷ []) (serial [] ∷ []) ∷ [])
      ∷ [];
}

-- chare 1 is sent the key by the statements 2 and 3 of chare 0
abbrev pub sent_by_both : Twice
sent_by_both = record { asked = false; chare = 1; key = key 0; first = record { chare = 0; stmt = 2 }; second = record { chare = 0; stmt = 3 } }

pub record SendsTwice (limit : ℕ) : Type 0 where
  pub named : ambiguous (round sends_twice limit 0) ≡ Some sent_by_both
  pub verdict : IsVerdict sends_twice limit (twice sent_by_both)

-- ---- a key that is asked twice

-- chares 1; var x; var y; entry go(1);
-- body { overlap { when go[0](x) { serial { } } when go[0](y) { serial { } } } }
abbrev pub asks_twice : Program
asks_twice = record {
  chares = 1;
  names = names;
  vars = record { name = x; cells = None } ∷ record { name = y; cells = None } ∷ [];
  entries = record { name = go; params = 1 } ∷ [];
  body = overlap (when (wait 0 (x ∷ []) ∷ []) (serial [] ∷ []) ∷ when (wait 0 (y ∷ []) ∷ []) (serial [] ∷ []) ∷ []) ∷ [];
}

-- chare 0 asks the key at its statements 2 and 4
abbrev pub asked_by_both : Twice
asked_by_both = record { asked = true; chare = 0; key = key 0; first = record { chare = 0; stmt = 2 }; second = record { chare = 0; stmt = 4 } }

pub record AsksTwice (limit : ℕ) : Type 0 where
  pub named : ambiguous (round asks_twice limit 0) ≡ Some asked_by_both
  pub verdict : IsVerdict asks_twice limit (twice asked_by_both)

-- ---- two chares that wait for each other

-- chares 2; entry go(0);
-- body { when go[0]() { serial { send go[0]() to 1 - this; } } }
abbrev pub waits_both : Program
waits_both = record {
  chares = 2;
  names = names;
  vars = [];
  entries = record { name = go; params = 0 } ∷ [];
  body = when (wait 0 [] ∷ []) (serial (send go (number 0) [] (two Sub (number 1) this) ∷ []) ∷ []) ∷ [];
}

-- no block, and one wait
abbrev pub waiting : History
waiting = record { blocks = []; asked = record { key = key 0; path = path (0 ∷ []); stmt = 1 } ∷ []; waits = record { path = path (0 ∷ []); stmt = 1; key = key 0 } ∷ []; traps = []; ended = false }

pub record WaitsBoth (limit : ℕ) : Type 0 where
  pub histories : round waits_both limit 0 ≡ waiting ∷ waiting ∷ []
  pub mail : mail waits_both limit 1 ≡ mail waits_both limit 0
  pub verdict : IsVerdict waits_both limit (clean (waiting ∷ waiting ∷ []))
