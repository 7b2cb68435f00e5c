use Rattle.std.proofs.Common.{◌≡◌, ◌≤◌, ◌*◌, ℕ, Option, Some, [], List, get_or}
use Rattle.bs_log.specs.declared.history.Message.{Message}
use Rattle.bs_log.specs.declared.history.History.{History}
use Rattle.bs_log.specs.Size.{size_all}
use Rattle.bs_match.specs.Mail.{lookup}
use Rattle.bs_semantics.specs.Run.{history}
use Rattle.bs_model.specs.declared.candidates.Best.{Best}
use Rattle.bs_model.specs.Agenda.{IsAgenda}
use Rattle.bs_model.specs.Next.{best_among}
use Rattle.bs_model.proofs.Pushing.{Pushed}
use Rattle.bs_model.proofs.Renewal.{Renewing}
use Rattle.bs_model.proofs.state.State.begin.Given as goal

abbrev pub invariant-loop-chare : goal.invariant-loop-chare
invariant-loop-chare l = record {
  mails : Pushed (λ (c : ℕ) (o : Option (List Message)). o ≡ Some []) l.chare l.mails.items;
  histories : Pushed (λ (c : ℕ) (o : Option History). o ≡ Some (history l.accepted.program l.limit c (lookup []))) l.chare l.histories.items;
  size : l.size ≡ size_all l.histories.items;
  bound : l.size ≤ 262144 * l.chare;
  bests : Renewing (λ (c : ℕ) (o : Option (Option Best)). best_among l.machine l.book c (Some (history l.accepted.program l.limit c (lookup []))) o) l.machine.chares l.chare l.agenda.bests.items;
  free : (q : ℕ) → get_or l.agenda.ends.items q 0 ≡ 0;
  agenda : IsAgenda l.machine l.agenda;
}
