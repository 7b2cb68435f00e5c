-- What of a line stays as it is: its rows and their causes, the messages that come to it, and those that it sends
-- (docs/model.md).
use Rattle.std.specs.Prelude.{◌≡◌, ℕ, suc, List, [], ◌∷◌, map}
use Rattle.bs_log.specs.declared.log.MailRef.{MailRef}
use Rattle.bs_times.specs.Net.{Net}
use Rattle.bs_times.specs.Times.{IsListed, IsOn}
use Rattle.bs_schedule.specs.declared.plan.Cause.{Cause}
use Rattle.bs_schedule.specs.declared.plan.Plan.{Plan}
use Rattle.bs_schedule.specs.Plan.{IsPlan}
use Rattle.bs_line.specs.declared.layout.Out.{Out}
use Rattle.bs_line.specs.declared.layout.Layout.{Layout}
use Rattle.bs_line.specs.Places.{AreMails, AreThose, mail_place, row_place}

-- a listed message that comes to processor p
abbrev pub ComesTo : Net → ℕ → MailRef → Type 0
ComesTo net p m = IsListed net m × (net.goes_to m ≡ p)

-- a listed message that a row of processor p sends
abbrev pub GoesFrom : Net → ℕ → MailRef → Type 0
GoesFrom net p m = IsListed net m × (net.home m.row ≡ p)

-- a row's number on the line of these rows, from 1
abbrev pub number_on : List ℕ → ℕ → ℕ
number_on rows i = suc (row_place rows i)

-- a block cause by its number on the line: it is waited for until it ends
abbrev pub local_cause : Net → List ℕ → ℕ → Cause
local_cause net rows i = record { row = number_on rows i; delay = net.duration i }

abbrev pub local_causes : Net → List ℕ → ℕ → List Cause
local_causes net rows i = map (local_cause net rows) (net.after i)

-- the places of a row's messages among those that come to the line
abbrev pub slots_of : Net → List MailRef → ℕ → List ℕ
slots_of net mails i = map (mail_place mails) (net.mail i)

-- a message that the line sends
abbrev pub out_of : Net → List ℕ → MailRef → Out
out_of net rows m = record { mail = m; row = number_on rows m.row; travel = net.travel m; to = net.goes_to m }

-- the messages that the line sends, in their order
abbrev pub sends_of : Layout → List MailRef
sends_of layout = map (λ out. out.mail) layout.outs

-- the plan has these rows in their order, all on one processor, with their durations and block causes
pub record IsRowsPlan (net : Net) (rows : List ℕ) (plan : Plan) : Type 0 where
  pub is_plan : IsPlan plan
  pub homes : plan.homes ≡ 0 ∷ map (λ i. 0) rows
  pub times : plan.times ≡ 0 ∷ map net.duration rows
  pub causes : plan.causes ≡ [] ∷ map (local_causes net rows) rows

-- the rows of processor p, the listed messages that come to it with the places of each row's messages among them, and those
-- that its rows send
pub record IsLayout (net : Net) (p : ℕ) (layout : Layout) : Type 0 where
  pub rows : AreThose (IsOn net p) layout.rows
  pub plan : IsRowsPlan net layout.rows layout.plan
  pub comes : AreMails (ComesTo net p) layout.mails
  pub slots : layout.slots ≡ [] ∷ map (slots_of net layout.mails) layout.rows
  pub goes : AreMails (GoesFrom net p) (sends_of layout)
  pub outs : layout.outs ≡ map (out_of net layout.rows) (sends_of layout)
