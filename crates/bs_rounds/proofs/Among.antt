-- Messages of marked chares among those of all, and what holds of each history.
use Rattle.std.proofs.Common.{◌≡◌, ◌⊎◌, ◌<◌, inl, inr, ℕ, zero, suc, Bool, true, false, if◌then◌else◌, List, [], ◌∷◌, ◌++◌, refl, ap, length, arith}
use Rattle.bs_log.specs.declared.history.Message.{Message}
use Rattle.bs_log.specs.declared.history.History.{History}
use Rattle.bs_log.specs.Lists.{Mem, Each}
use Rattle.bs_log.specs.Messages.{sends_of, sent}
use Rattle.bs_log.specs.Histories.{no_history, history_at}
use Rattle.bs_semantics.proofs.Members.{mem_left, mem_right, mem_cases}
use Rattle.bs_rounds.specs.Posting.{flag, sent_by}

pub by_marked : (marks : List Bool) (hs : List History) (m : Message) → Mem m (sent_by marks hs) → Mem m (sent hs)
by_marked [] hs m i = absurd i
by_marked (t ∷ marks) [] m i = absurd i
by_marked (t ∷ marks) (h ∷ hs) m i = by_side t (mem_cases m (if t then sends_of h.blocks else []) (sent_by marks hs) i) (by_marked marks hs m)
  where
    by_side : (t : Bool) → Mem m (if t then sends_of h.blocks else []) ⊎ Mem m (sent_by marks hs) → (Mem m (sent_by marks hs) → Mem m (sent hs)) → Mem m (sent (h ∷ hs))
    by_side true (inl i) f = mem_left m (sends_of h.blocks) (sent hs) i
    by_side false (inl i) f = absurd i
    by_side t (inr i) f = mem_right m (sends_of h.blocks) (sent hs) (f i)

-- a chare that isn't marked sends it
pub record IsStaleSend (marks : List Bool) (hs : List History) (m : Message) : Type 0 where
  pub chare : ℕ
  pub within : chare < length hs
  pub unmarked : flag marks chare ≡ false
  pub sends : Mem m (sends_of (history_at hs chare).blocks)

later : (t : Bool) (marks : List Bool) (h : History) (hs : List History) (m : Message) → IsStaleSend marks hs m → IsStaleSend (t ∷ marks) (h ∷ hs) m
later t marks h hs m s = let within : s.chare < length hs = s.within in record { chare = suc s.chare; within = omega (arith, within); unmarked = s.unmarked; sends = s.sends }

pub marked_or_stale : (marks : List Bool) (hs : List History) → length marks ≡ length hs → (m : Message) → Mem m (sent hs) → Mem m (sent_by marks hs) ⊎ IsStaleSend marks hs m
marked_or_stale [] [] e m i = absurd i
marked_or_stale [] (h ∷ hs) e m i = absurd (omega (arith, e))
marked_or_stale (t ∷ marks) [] e m i = absurd i
marked_or_stale (t ∷ marks) (h ∷ hs) e m i = by_side t (mem_cases m (sends_of h.blocks) (sent hs) i) (marked_or_stale marks hs (omega (arith, e)) m)
  where
    further : (t : Bool) → Mem m (sent_by marks hs) ⊎ IsStaleSend marks hs m → Mem m (sent_by (t ∷ marks) (h ∷ hs)) ⊎ IsStaleSend (t ∷ marks) (h ∷ hs) m
    further t (inl i) = inl (mem_right m (if t then sends_of h.blocks else []) (sent_by marks hs) i)
    further t (inr s) = inr (later t marks h hs m s)

    by_side : (t : Bool) → Mem m (sends_of h.blocks) ⊎ Mem m (sent hs) → (Mem m (sent hs) → Mem m (sent_by marks hs) ⊎ IsStaleSend marks hs m) → Mem m (sent_by (t ∷ marks) (h ∷ hs)) ⊎ IsStaleSend (t ∷ marks) (h ∷ hs) m
    by_side true (inl i) f = inl (mem_left m (sends_of h.blocks) (sent_by marks hs) i)
    by_side false (inl i) f = inr (record { chare = 0; within = omega arith; unmarked = refl; sends = i })
    by_side t (inr i) f = further t (f i)

pub each_of_all : (P : History → Type 0) (hs : List History) → ((c : ℕ) → c < length hs → P (history_at hs c)) → Each P hs
each_of_all P [] f = tt
each_of_all P (h ∷ hs) f = (f zero (omega arith), each_of_all P hs (λ c l. f (suc c) (omega (arith, l))))

pub at_each : (P : History → Type 0) (hs : List History) → Each P hs → (c : ℕ) → c < length hs → P (history_at hs c)
at_each P [] e c l = absurd (omega (arith, l))
at_each P (h ∷ hs) e zero l = e.0
at_each P (h ∷ hs) e (suc c) l = at_each P hs e.1 c (omega (arith, l))

pub sends_at : (hs : List History) (c : ℕ) (m : Message) → c < length hs → Mem m (sends_of (history_at hs c).blocks) → Mem m (sent hs)
sends_at [] c m l i = absurd (omega (arith, l))
sends_at (h ∷ hs) zero m l i = mem_left m (sends_of h.blocks) (sent hs) i
sends_at (h ∷ hs) (suc c) m l i = mem_right m (sends_of h.blocks) (sent hs) (sends_at hs c m (omega (arith, l)) i)
