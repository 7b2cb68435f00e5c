-- Fields that hold one message after another at other ticks.
use Rattle.std.proofs.Common.{◌≡◌, ◌∙◌}
use Rattle.bs_settle.specs.declared.field.Field.{Field}
use Rattle.bs_rows.specs.Rows.{net_on}
use Rattle.bs_settle.specs.Field.{IsSameField, net_in}
use Rattle.bs_settle.specs.Holding.{IsHolding}

pub same_net : (old new : Field) → IsSameField old new → net_in new ≡ net_in old
same_net old new same i = net_on (same.log i).now (same.machine i).now

pub same_further : (a b c : Field) → IsSameField a b → IsSameField b c → IsSameField a c
same_further a b c x y = record { log = y.log ∙ x.log; machine = y.machine ∙ x.machine; places = y.places ∙ x.places }

pub holds_further : (a b c : Field) → IsHolding a b → IsHolding b c → IsHolding a c
holds_further a b c x y = record {
  same = same_further a b c x.same y.same;
  lines = y.lines;
  used = λ m. y.used m ∙ x.used m;
  given = λ m. y.given m ∙ x.given m;
  starts = λ i. y.starts i ∙ x.starts i;
  begun = y.begun ∙ x.begun;
}
