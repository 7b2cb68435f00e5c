-- How the machine's state is that of the serial machine model.
use Rattle.std.specs.Prelude.{◌≡◌, ◌<◌, ℕ, ◌+◌, List, [], ◌∷◌, length, get_or, map}
use Rattle.bs_tree.specs.declared.tree.Program.{Program}
use Rattle.bs_machine.specs.declared.fitted.Fitted.{Fitted}
use Rattle.bs_machine.specs.Fitted.{processors_of, home_of, duration_of}
use Rattle.bs_semantics.specs.Run.{put_all}
use Rattle.bs_semantics.specs.Rounds.{mail_to}
use Rattle.bs_semantics.specs.Serial.{Started, messages, histories_at, free, started_cmp}
use Rattle.bs_model.specs.declared.book.Begun.{Begun}
use Rattle.bs_model.specs.declared.state.State.{State}
use Rattle.bs_model.specs.Agenda.{IsAgenda}
use Rattle.bs_model.specs.Book.{keyed}
use Rattle.bs_times.specs.Machine.{machine_of}
use Rattle.bs_model.specs.Mails.{IsSize, mail_at}
use Rattle.bs_model.specs.Next.{AreBest}
use Rattle.bs_model.specs.Started.{AreStarted}

-- a started block, as the book keeps it
abbrev pub begun_of : Fitted → Started → Begun
begun_of m b = record {
  row = record { chare = b.chare; stmt = b.block.stmt; processor = home_of m b.chare; start = b.start; end = b.start + duration_of m b.block.cost; values = b.block.emits };
  sends = map (λ s. s.sent) b.block.sends;
}

abbrev pub entry_of : Fitted → Started → List ℕ × Begun
entry_of m b = (b.chare ∷ b.block.path.0, begun_of m b)

-- the state after these blocks were started, the last one first
pub record Follows (p : Program) (limit : ℕ) (m : Fitted) (bs : List Started) (s : State) : Type 0 where
  pub started : AreStarted p limit (machine_of m) bs
  pub book : keyed s.book ≡ map (entry_of m) (put_all (started_cmp (machine_of m)) bs [])
  pub processors : length s.agenda.ends.items ≡ processors_of m
  pub ends : (q : ℕ) → q < processors_of m → get_or s.agenda.ends.items q 0 ≡ free (machine_of m) bs q
  pub chares : length s.mails.items ≡ p.chares
  pub mails : (c : ℕ) → c < p.chares → mail_at s.mails.items c ≡ mail_to (messages bs) c
  pub histories : s.histories.items ≡ histories_at p limit bs
  pub size : IsSize limit s.histories.items s.size
  pub bests : AreBest m s.book s.histories.items s.agenda.bests.items
  pub agenda : IsAgenda m s.agenda
