-- The state before any block is started.
use Rattle.std.proofs.Common.{◌≡◌, ◌≤◌, ◌<◌, ℕ, List, [], ◌∷◌, Option, Some, None, slice_get, get_or, sym, ap, subst, ◌∙◌, arith}
use Rattle.bs_tree.specs.declared.tree.Program.{Program}
use Rattle.bs_log.specs.declared.history.Message.{Message}
use Rattle.bs_log.specs.declared.history.History.{History}
use Rattle.bs_log.specs.Size.{size, size_all}
use Rattle.bs_machine.specs.declared.fitted.Fitted.{Fitted}
use Rattle.bs_match.specs.Mail.{lookup}
use Rattle.bs_semantics.specs.Run.{history}
use Rattle.bs_semantics.specs.Rounds.{CleanAt, histories, mail_to}
use Rattle.bs_semantics.proofs.Starting.{partly}
use Rattle.bs_model.specs.declared.book.Book.{Book}
use Rattle.bs_model.specs.declared.state.State.{State}
use Rattle.bs_model.specs.Agenda.{IsAgenda}
use Rattle.bs_model.specs.Book.{at_key, found, keyed}
use Rattle.bs_model.specs.Mails.{IsSize, mail_in}
use Rattle.bs_model.specs.Next.{best_among}
use Rattle.bs_model.specs.Ready.{AreBooked}
use Rattle.bs_model.specs.Started.{none_yet}
use Rattle.bs_model.specs.State.{Follows}
use Rattle.bs_model.proofs.Places.{at_number, numbered}
use Rattle.bs_model.proofs.Pushing.{Pushed}
use Rattle.bs_model.proofs.Stepping.{size_here}

pub first_short : (p : Program) (limit n : ℕ) → CleanAt p limit n → (c : ℕ) → c < p.chares → size (history p limit c (lookup [])) ≤ limit
first_short p limit n clean c l =
    let w = partly p limit n [] clean (λ m i. absurd i) in
    let here : slice_get (histories p limit []) c ≡ Some (history p limit c (mail_to [] c)) = at_number (λ c. history p limit c (mail_to [] c)) p.chares 0 c l ∙ ap (λ d. Some (history p limit d (mail_to [] d))) (omega arith) in
    let one = size_here (histories p limit []) c _ here in
    let all = w.size in
    omega (arith, one, all)

pub first_together : (p : Program) (limit n : ℕ) → CleanAt p limit n → (hs : List History) → Pushed (λ (c : ℕ) (o : Option History). o ≡ Some (history p limit c (lookup []))) p.chares hs → size_all hs ≤ limit
first_together p limit n clean hs h =
    let same = numbered (λ c. history p limit c (mail_to [] c)) p.chares 0 hs h.count (λ c l. h.each c l ∙ ap (λ d. Some (history p limit d (lookup []))) (omega arith)) in
    let sizes = ap size_all same in
    let all = (partly p limit n [] clean (λ m i. absurd i)).size in
    omega (arith, sizes, all)

pub none_booked : (m : Fitted) (book : Book) → keyed book ≡ [] → AreBooked m book
none_booked m book e c path b f =
    let none : found book c path ≡ None = ap (λ es. at_key es (c ∷ path)) e in
    absurd (cc)

pub follows_none : (p : Program) (limit : ℕ) (m : Fitted) (t : State) → keyed t.book ≡ [] → IsAgenda m t.agenda → ((q : ℕ) → get_or t.agenda.ends.items q 0 ≡ 0)
    → Pushed (λ (c : ℕ) (o : Option (List Message)). o ≡ Some []) p.chares t.mails.items
    → Pushed (λ (c : ℕ) (o : Option History). o ≡ Some (history p limit c (lookup []))) p.chares t.histories.items
    → m.chares ≡ p.chares → ((c : ℕ) → c < p.chares → best_among m t.book c (Some (history p limit c (lookup []))) (slice_get t.agenda.bests.items c))
    → IsSize limit t.histories.items t.size → Follows p limit m [] t
follows_none p limit m t book agenda ends mails histories same bests size = record {
  started = none_yet;
  book = book;
  processors = agenda.ends;
  ends = λ q l. ends q;
  chares = mails.count;
  mails = λ c l. ap mail_in (mails.each c l);
  histories = numbered (λ c. history p limit c (mail_to [] c)) p.chares 0 t.histories.items histories.count (λ c l. histories.each c l ∙ ap (λ d. Some (history p limit d (lookup []))) (omega arith));
  size = size;
  bests = record {
    count = agenda.bests ∙ (same ∙ sym histories.count);
    each = λ c l.
        let k = histories.count in
        let lt : c < p.chares = omega (arith, l, k) in
        subst (λ h. best_among m t.book c h (slice_get t.agenda.bests.items c)) (sym (histories.each c lt)) (bests c lt);
  };
  agenda = agenda;
}
