-- What was written is the answer that its definition gives.
use Rattle.std.proofs.Common.{◌≡◌, ℕ, List, take, refl, sym, ap, ◌∙◌, subst, inl, inr, Option, Some, None, Result, Ok, Err}
use Rattle.bs_desk.specs.declared.desk.DeskFault.{DeskFault}
use Rattle.bs_desk.specs.declared.desk.DeskFault.TheVariants as desk
use Rattle.bs_desk.specs.Outside.{Outside, Files, IsReading}
use Rattle.bs_log.specs.declared.outcome.End.TheVariants as end
use Rattle.bs_report.specs.declared.faults.Fault.{Fault}
use Rattle.bs_report.specs.declared.faults.Fault.TheVariants as fault
use Rattle.bs_top.specs.declared.status.Status.{Status}
use Rattle.bs_top.specs.declared.status.Status.TheVariants as status
use Rattle.bs_top.specs.declared.reply.Ending.{Ending}
use Rattle.bs_top.specs.declared.reply.Ending.TheVariants as ending
use Rattle.bs_top.specs.declared.stopped.Stopped.{Stopped}
use Rattle.bs_top.specs.declared.stopped.Stopped.TheVariants as stop
use Rattle.bs_top.specs.Words.{Asked}
use Rattle.bs_top.specs.Step.{Said}
use Rattle.bs_top.specs.Answer.{Answer, IsAnswer, answer_of, refused, refused_by, reply_to, status_of}
use Rattle.bs_top.specs.Performs.{Answers, AreCut, IsBut, IsCut, IsCutNote, Keeps, Puts, Refuses, Tells, WritesAnswer, written_status}
use Rattle.bs_top.specs.Targets.{Note, TargetOf, output, errors, in_file, noted, put}
use Rattle.bs_top.proofs.Kept.{kept_put, kept_reading, kept_refused, kept_silent, reading_noted}

-- a status that comes with an answer's whole text
abbrev IsWholeStatus : Status → Type 0
IsWholeStatus status.ReadFault = ⊥
IsWholeStatus status.WriteFault = ⊥
IsWholeStatus status.Memory = ⊥
IsWholeStatus _ = Unit {0}

-- an equation of a whole outside holds also with its own count
counted : (new o : Outside) → new ≡ o → IsBut o new
counted new o e = e ∙ λ i. record o { write_faults = (sym (ap (λ (o : Outside). o.write_faults) e)) i }

module _ (old mid new : Outside) (r : IsReading old mid) where
  cut : (place : TargetOf) (text : List ℕ) → IsCut IsBut place text mid new → IsCut Keeps place text old new
  cut place text (inl front) = inl (record { count = front.count; within = front.within; is_put = kept_put place (take front.count text) old mid new r front.is_put })
  cut (in_file name) text (inr same) = inr (kept_refused old mid new r same)
  cut output text (inr none) = absurd none
  cut errors text (inr none) = absurd none

  cut_note : (note : Option Note) → IsCutNote IsBut note mid new → IsCutNote Keeps note old new
  cut_note None h = absurd h
  cut_note (Some note) h = cut (in_file note.name) note.text h

module _ (old mid new : Outside) (r : IsReading old mid) (note : Option Note) (place : TargetOf) (text : List ℕ) where
  are_cut : AreCut IsBut note place text mid new → AreCut Keeps note place text old new
  are_cut (inl h) = inl (cut_note old mid new r note h)
  are_cut (inr h) = inr (cut (noted note old) (noted note mid) new (reading_noted note old mid r) place text h)

  whole : new ≡ put place text (noted note mid) → Keeps (put place text (noted note old)) new
  whole e = kept_put place text (noted note old) (noted note mid) new (reading_noted note old mid r) (counted new (put place text (noted note mid)) e)

module _ (files : Files) (asked : Option Asked) (old new : Outside) where
  whole_status : (s : Status) → IsWholeStatus s → (a : Answer) → IsAnswer files asked a → WritesAnswer a s old new → Answers files asked old new s
  whole_status status.Settled f a is w = (a, is, w)
  whole_status status.Deadlock f a is w = (a, is, w)
  whole_status status.Trapped f a is w = (a, is, w)
  whole_status status.BadWords f a is w = (a, is, w)
  whole_status status.BadProgram f a is w = (a, is, w)
  whole_status status.CheckFailed f a is w = (a, is, w)
  whole_status status.BadMachine f a is w = (a, is, w)
  whole_status status.BadLog f a is w = (a, is, w)
  whole_status status.AmbiguousMatch f a is w = (a, is, w)
  whole_status status.TooLong f a is w = (a, is, w)
  whole_status status.BudgetSpent f a is w = (a, is, w)
  whole_status status.TooBig f a is w = (a, is, w)
  whole_status status.ReadFault f a is w = absurd f
  whole_status status.WriteFault f a is w = absurd f
  whole_status status.NoFile f a is w = (a, is, w)
  whole_status status.Memory f a is w = absurd f

  wanting : (mid : Outside) (s : Status) → IsReading old mid → s ≡ status.Memory → new ≡ mid → Answers files asked old new s
  wanting mid s r e same = subst (Answers files asked old new) (sym e) (inl (kept_reading old new (subst (IsReading old) (sym same) r)))

  -- the texts of an answer are told after reading
  says : (mid : Outside) (a : Answer) (written : Result (Unit {0}) DeskFault) → IsWholeStatus a.status → IsReading old mid → IsAnswer files asked a → Tells a.note a.target a.text mid new written
      → Answers files asked old new (written_status a.status written)
  says mid a (Ok _) final r is e = whole_status a.status final a is (record { status = refl; kept = whole old mid new r a.note a.target a.text e })
  says mid a (Err desk.Failed) final r is h = (a, is, are_cut old mid new r a.note a.target a.text h.1)
  says mid a (Err desk.Memory) final r is h = inr (a, is, are_cut old mid new r a.note a.target a.text h.1)

  -- a text without a note
  tells : (mid : Outside) (place : TargetOf) (text : List ℕ) (written : Result (Unit {0}) DeskFault) → Puts place text mid new written → Tells None place text mid new written
  tells mid place text (Ok _) e = e
  tells mid place text (Err why) h = (h.0, inr h.1)

  refuses : (mid : Outside) (s : Status) (f : Fault) → IsWholeStatus (refused_by f) → IsReading old mid → IsAnswer files asked (refused f) → Refuses f mid new s → Answers files asked old new s
  refuses mid s f final r is (inl memory) = wanting mid s r memory.0 memory.1
  refuses mid s f final r is (inr told) = subst (Answers files asked old new) (sym told.2) (says mid (refused f) told.0 final r is (tells mid (refused f).target (refused f).text told.0 told.1))

final_end : (e : Ending) → IsWholeStatus (status_of e)
final_end (ending.Run end.Settled) = tt
final_end (ending.Run end.Deadlock) = tt
final_end (ending.Run end.Trapped) = tt
final_end ending.Spent = tt

final_fault : (f : Fault) → IsWholeStatus (refused_by f)
final_fault fault.BadWords = tt
final_fault (fault.BadProgram why) = tt
final_fault (fault.CheckFailed why) = tt
final_fault (fault.BadMachine why) = tt
final_fault (fault.BadPlace length) = tt
final_fault (fault.BadLog why) = tt
final_fault (fault.Ambiguous twice) = tt
final_fault (fault.TooLong limit) = tt
final_fault (fault.BudgetSpent spent) = tt
final_fault (fault.TooBig limit) = tt

module _ (files : Files) (asked : Option Asked) where
  answers : (reply : Result Said Stopped) → reply_to files asked reply → IsAnswer files asked (answer_of reply)
  answers reply is = record { reply = reply; is_reply = is; is_answer = refl }

  pub said_reply : (old mid new : Outside) (said : Said) (written : Result (Unit {0}) DeskFault) (s wanted : Status) → IsReading old mid → reply_to files asked (Ok said)
      → Tells said.note said.target said.text mid new written → wanted ≡ status_of said.ending → s ≡ written_status wanted written → Answers files asked old new s
  said_reply old mid new said written s wanted r is tells status_is is_status =
      subst (Answers files asked old new) (sym (is_status ∙ ap (λ w. written_status w written) status_is))
      (says files asked old new mid (answer_of (Ok said)) written (final_end said.ending) r (answers (Ok said) is) tells)

  pub said_refusal : (old mid new : Outside) (s : Status) (f : Fault) → IsReading old mid → reply_to files asked (Err (stop.Refused f)) → Refuses f mid new s → Answers files asked old new s
  said_refusal old mid new s f r is refuses' = refuses files asked old new mid s f (final_fault f) r (answers (Err (stop.Refused f)) is) refuses'

  pub said_nothing : (old new : Outside) → IsReading old new → reply_to files asked (Err stop.NoFile) → Answers files asked old new status.NoFile
  said_nothing old new r is = (answer_of (Err stop.NoFile), answers (Err stop.NoFile) is, record { status = refl; kept = kept_silent old new r })
