-- A chare whose mail and blocks stay as they were keeps its best block.
use Rattle.std.proofs.Common.{◌≡◌, inl, inr, ℕ, ◌+◌, ◌==◌, ◌&&◌, max, Bool, true, false, if◌then◌else◌, List, [], ◌∷◌, Option, Some, None, option_map, refl, sym, ap, ap₂, subst, ◌∙◌, eqb-true}
use Rattle.std.specs.Str.{bytes_eq}
use Rattle.std.proofs.lemmas.Bool.{and_parts}
use Rattle.std.proofs.lemmas.Slice.Eq.{bytes_eq-Decides}
use Rattle.bs_tree.specs.declared.tree.Program.{Program}
use Rattle.bs_tree.specs.declared.tree.Path.{Path}
use Rattle.bs_log.specs.declared.history.Origin.{Origin}
use Rattle.bs_log.specs.declared.history.Message.{Message}
use Rattle.bs_log.specs.declared.history.Block.{Block}
use Rattle.bs_log.specs.declared.history.History.{History}
use Rattle.bs_log.specs.Lists.{Mem}
use Rattle.bs_machine.specs.declared.fitted.Fitted.{Fitted}
use Rattle.bs_semantics.specs.Acts.{Parcel}
use Rattle.bs_semantics.specs.Run.{signed, history}
use Rattle.bs_semantics.specs.Rounds.{mail_to}
use Rattle.bs_semantics.specs.Serial.{Started, messages, find}
use Rattle.bs_semantics.proofs.Find.{finds}
use Rattle.bs_semantics.proofs.Mails.{found}
use Rattle.bs_semantics.proofs.Rests.{run_came}
use Rattle.bs_semantics.proofs.Signed.{run_signed}
use Rattle.bs_semantics.proofs.Starting.{sent_by}
use Rattle.bs_model.specs.declared.book.Book.{Book}
use Rattle.bs_model.specs.declared.candidates.Best.{Best}
use Rattle.bs_model.specs.Book.{found as in_book}
use Rattle.bs_times.specs.Machine.{machine_of}
use Rattle.bs_model.specs.Next.{best_among}
use Rattle.bs_model.specs.Ready.{later, ends_in, arrival_at, arrivals_in, ready_where, ready_unless, candidate_in}
use Rattle.bs_model.specs.State.{begun_of}
use Rattle.bs_model.specs.Started.{AreStarted}
use Rattle.bs_model.proofs.Places.{mem_get}
use Rattle.bs_model.proofs.Running.{are_blocks}

pub signed_at : (this : ℕ) (path : List ℕ) (d k : ℕ) (ps : List Parcel) (m : Message) → Mem m (signed this path d k ps) → (m.origin.chare ≡ this) × (m.origin.path.0 ≡ path)
signed_at this path d k [] m i = absurd i
signed_at this path d k (p ∷ ps) m (inl e) = (ap (λ (m : Message). m.origin.chare) e, ap (λ (m : Message). m.origin.path.0) e)
signed_at this path d k (p ∷ ps) m (inr i) = signed_at this path d (k + 1) ps m i

-- the block that sent a message cause was started
origin_found : (p : Program) (limit : ℕ) (m : Fitted) (bs : List Started) → AreStarted p limit (machine_of m) bs → (c : ℕ) (x : Block) → Mem x (history p limit c (mail_to (messages bs) c)).blocks → (o : Origin) → Mem o x.mail → (d : Started) × (find bs o.chare o.path.0 ≡ Some d)
origin_found p limit m bs r c x i o j =
    let came = run_came (mail_to (messages bs) c) p limit c x i o j in
    let held = found (messages bs) c came.key came.message came.is_held in
    let by = sent_by bs came.message held.0 in
    let a = are_blocks p limit (machine_of m) bs r by.started by.is_in in
    let s = run_signed p limit by.started.chare (mail_to (messages bs) by.started.chare) by.started.block a.1 in
    let at = signed_at by.started.chare by.started.block.path.0 by.started.block.depth 1 s.parcels came.message (subst (Mem came.message) s.sends by.is_sent) in
    let d = finds bs by.started by.is_in in
    (d.started, ap₂ (find bs) (ap (λ (o : Origin). o.chare) (sym came.is_from) ∙ at.0) (ap (λ (o : Origin). o.path.0) (sym came.is_from) ∙ at.1) ∙ d.is)

find_if : (b : Started) (o : Option Started) (t : Bool) → (t ≡ true → ⊥) → (if t then Some b else o) ≡ o
find_if b o true n = absurd (n refl)
find_if b o false n = refl

find_other : (b : Started) (bs : List Started) (c : ℕ) (path : List ℕ) → (b.chare ≡ c → ⊥) → find (b ∷ bs) c path ≡ find bs c path
find_other b bs c path n = find_if b (find bs c path) ((b.chare == c) && bytes_eq b.block.path.0 path) (λ e. n (eqb-true _ _ (and_parts (b.chare == c) (bytes_eq b.block.path.0 path) e).0))

find_there : (b : Started) (bs : List Started) (c : ℕ) (path : List ℕ) (d : Started) → find bs b.chare b.block.path.0 ≡ None → find bs c path ≡ Some d → find (b ∷ bs) c path ≡ find bs c path
find_there b bs c path d fresh e = find_if b (find bs c path) ((b.chare == c) && bytes_eq b.block.path.0 path) (λ t.
    let at = and_parts (b.chare == c) (bytes_eq b.block.path.0 path) t in
    let same : find bs b.chare b.block.path.0 ≡ find bs c path = ap₂ (find bs) (eqb-true _ _ at.0) ((bytes_eq-Decides b.block.path.0 path).0 at.1) in
    absurd (cc))

module _ (m : Fitted) (b : Started) (bs : List Started) (old new : Book) (tie : (c : ℕ) (path : List ℕ) → in_book old c path ≡ option_map (begun_of m) (find bs c path)) (tie_new : (c : ℕ) (path : List ℕ) → in_book new c path ≡ option_map (begun_of m) (find (b ∷ bs) c path)) where
  book_same : (c : ℕ) (path : List ℕ) → find (b ∷ bs) c path ≡ find bs c path → in_book new c path ≡ in_book old c path
  book_same c path e = tie_new c path ∙ (ap (option_map (begun_of m)) e ∙ sym (tie c path))

  ends_same : (c : ℕ) (qs : List Path) → (b.chare ≡ c → ⊥) → ends_in new c qs ≡ ends_in old c qs
  ends_same c [] n = refl
  ends_same c (q ∷ qs) n = ap₂ later (book_same c q.0 (find_other b bs c q.0 n)) (ends_same c qs n)

  arrivals_same : (c : ℕ) (os : List Origin) → ((o : Origin) → Mem o os → find (b ∷ bs) o.chare o.path.0 ≡ find bs o.chare o.path.0) → arrivals_in m new c os ≡ arrivals_in m old c os
  arrivals_same c [] h = refl
  arrivals_same c (o ∷ os) h = ap₂ (λ x y. max x y) (ap (arrival_at m c o.index) (book_same o.chare o.path.0 (h o (inl refl)))) (arrivals_same c os (λ u i. h u (inr i)))

  candidate_same : (c : ℕ) (x : Block) → (b.chare ≡ c → ⊥) → ((o : Origin) → Mem o x.mail → find (b ∷ bs) o.chare o.path.0 ≡ find bs o.chare o.path.0) → candidate_in m new c x ≡ candidate_in m old c x
  candidate_same c x n h = ap₂ ready_unless (book_same c x.path.0 (find_other b bs c x.path.0 n)) (ap₂ ready_where (ends_same c x.after n) (arrivals_same c x.mail h))

  best_same : (c : ℕ) (h : History) (o : Option (Option Best)) → ((x : Block) → Mem x h.blocks → candidate_in m new c x ≡ candidate_in m old c x) → best_among m old c (Some h) o → best_among m new c (Some h) o
  best_same c h None e k = k
  best_same c h (Some None) e k = λ i y s. e y (mem_get h.blocks i y s) ∙ k i y s
  best_same c h (Some (Some best)) e k = record {
    block = k.block;
    is = k.is;
    ready = e k.block (mem_get h.blocks best.at k.block k.is) ∙ k.ready;
    least = λ i y tick s t. k.least i y tick s (sym (e y (mem_get h.blocks i y s)) ∙ t);
  }

  -- the best block of another chare, whose history is the same
  pub best_stays : (p : Program) (limit : ℕ) → AreStarted p limit (machine_of m) bs → find bs b.chare b.block.path.0 ≡ None → (c : ℕ) → (b.chare ≡ c → ⊥) → (o : Option (Option Best))
      → best_among m old c (Some (history p limit c (mail_to (messages bs) c))) o → best_among m new c (Some (history p limit c (mail_to (messages bs) c))) o
  best_stays p limit r fresh c n o k =
      best_same c (history p limit c (mail_to (messages bs) c)) o (λ x i. candidate_same c x n (λ u j.
      let d = origin_found p limit m bs r c x i u j in
      find_there b bs u.chare u.path.0 d.0 fresh d.1)) k
