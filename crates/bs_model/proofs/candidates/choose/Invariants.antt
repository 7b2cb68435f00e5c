use Rattle.std.proofs.Common.{◌≡◌, length}
use Rattle.bs_model.specs.Agenda.{IsAgenda}
use Rattle.bs_model.specs.But.{HoldsBut}
use Rattle.bs_model.specs.Next.{best_at}
use Rattle.bs_model.proofs.candidates.choose.Given as goal

abbrev pub invariant-loop-chare : goal.invariant-loop-chare
invariant-loop-chare l = record {
  bests : HoldsBut l.chare-iterator (length l.histories) (best_at l.machine l.book l.histories l.agenda.bests.items);
  ends : l.agenda.ends.items ≡ l.fn.agenda.ends.items;
  agenda : IsAgenda l.machine l.agenda;
}
