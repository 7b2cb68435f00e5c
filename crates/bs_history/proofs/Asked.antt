-- A `when` whose keys are asked, and one whose messages are there.
use Rattle.std.proofs.Common.{◌≡◌, ◌≤◌, ℕ, arith, All, List, [], ◌∷◌, Option, Some, None, Bool, true, false, if◌then◌else◌, zero-le, suc, refl, sym, ap, subst, ◌∙◌, ◌++◌, append-nil}
use Rattle.std.specs.Option.{option_copied, ForSome}
use Rattle.std.specs.Borrow.{Bor}
use Rattle.std.proofs.lemmas.List.Elements.{All-head}
use Rattle.bs_tree.specs.declared.tree.Wait.{Wait}
use Rattle.bs_log.specs.declared.history.Key.{Key}
use Rattle.bs_log.specs.declared.history.Message.{Message}
use Rattle.bs_log.specs.Messages.{same_key}
use Rattle.bs_semantics.specs.Run.{Lookup, Run, ask, go_on, after_asking, all_asked, all_waits, missing, held, held_and, take_mail, with_mail, depth_of}
use Rattle.bs_semantics.proofs.CauseDepths.{depth_in, with_mail_depth}
use Rattle.bs_match.specs.Mail.{lookup}
use Rattle.bs_block.specs.Env.{MadeFor}
use Rattle.bs_history.specs.declared.trail.Trail.{Trail}
use Rattle.bs_history.specs.declared.ground.Ground.{Ground}
use Rattle.bs_history.specs.declared.ground.State.{State}
use Rattle.bs_history.specs.Mail.{with_extra}
use Rattle.bs_history.specs.Waiting.{Taken}
use Rattle.bs_history.specs.Ground.{IsReady, state_of, program_of, mail_of}
use Rattle.bs_history.specs.Frames.{awaited}

abbrev IsShallow : Option Message → Type 0
IsShallow None = Unit {0}
IsShallow (Some m) = m.origin.depth ≤ 262144

abbrev AreShallow : Option (List Message) → Type 0
AreShallow None = Unit {0}
AreShallow (Some ms) = depth_in ms ≤ 262144

found_shallow : (k : Key) (held : List Message) → All (λ m. m.origin.depth ≤ 262144) held → IsShallow (lookup held k)
found_shallow k [] h = tt
found_shallow k (m ∷ ms) h = by (same_key m.sent.key k) (found_shallow k ms (λ k d l. h (suc k) d (omega (arith, l))))
  where
    by : (b : Bool) → IsShallow (lookup ms k) → IsShallow (if b then Some m else lookup ms k)
    by true i = All-head (λ (m : Message). m.origin.depth ≤ 262144) m ms h
    by false i = i

both_shallow : (o : Option Message) (os : Option (List Message)) → IsShallow o → AreShallow os → AreShallow (held_and o os)
both_shallow None None a b = tt
both_shallow None (Some ms) a b = tt
both_shallow (Some m) None a b = tt
both_shallow (Some m) (Some ms) a b = omega (arith, a, b)

held_shallow : (mail : Lookup) → ((k : Key) → IsShallow (mail k)) → (keys : List Key) → AreShallow (held mail keys)
held_shallow mail h [] = zero-le
held_shallow mail h (k ∷ keys) = both_shallow (mail k) (held mail keys) (h k) (held_shallow mail h keys)

-- the message more is shallow too
all_shallow : (m : Option Message) (mail : Lookup) → IsShallow m → ((k : Key) → IsShallow (mail k)) → (k : Key) → IsShallow (with_extra m mail k)
all_shallow None mail h i k = i k
all_shallow (Some m) mail h i k = by (same_key m.sent.key k)
  where
    by : (b : Bool) → IsShallow (if b then Some m else mail k)
    by true = h
    by false = i k

more_shallow : (g : Ground) → IsShallow (option_copied g.more)
more_shallow g = by g.more g.shallow_more
  where
    by : (m : Option (Bor Message)) → ForSome m (λ m. m.now.origin.depth ≤ 262144) → IsShallow (option_copied m)
    by None h = tt
    by (Some m) h = h m refl

pub mail_shallow : (g : Ground) (k : Key) → IsShallow (mail_of g k)
mail_shallow g = all_shallow (option_copied g.more) (lookup g.mail.now) (more_shallow g) (λ k. found_shallow k g.mail.now g.shallow)

module _ (g : Ground) (waits : List Wait) (keys : List Key) (t : Trail) (s s' : State) (ready : IsReady g t s) where
  pub taken : (ms : List Message) → held (mail_of g) keys ≡ Some ms →
      s'.env ≡ record s.env { cells = take_mail (program_of g) waits ms s.env.cells } → s'.causes ≡ with_mail ms s.causes → MadeFor (program_of g) s'.env →
      Taken g waits keys t t s s'
  taken ms e v c m =
      let shallow = subst AreShallow e (held_shallow (mail_of g) (mail_shallow g) keys) in
      let depth = ap depth_of c ∙ with_mail_depth ms s.causes in
      let before = ready.shallow in
      record {
        messages = ms;
        held = e;
        state = λ i. record { cells = (v i).cells; causes = c i };
        ready = record { made = m; this = ap (λ e. e.this) v ∙ ready.this; shallow = omega (arith, shallow, depth, before); within = ready.within };
        same = refl;
      }

-- keys that are asked, and then what is awaited
pub ask_is : (mail : Lookup) (n : ℕ) (path : List ℕ) (ks : List Key) (f : List Message → Run) → after_asking (all_asked n path ks) (awaited mail n path ks f) ≡ ask mail n path ks f
ask_is mail n path ks f = by (held mail ks)
  where
    by : (o : Option (List Message)) → after_asking (all_asked n path ks) (go_on o [] (all_waits n path (missing mail ks)) f) ≡ go_on o (all_asked n path ks) (all_waits n path (missing mail ks)) f
    by None = λ i. record { blocks = []; asked = append-nil (all_asked n path ks) i; traps = []; waits = all_waits n path (missing mail ks); end = None }
    by (Some ms) = refl
