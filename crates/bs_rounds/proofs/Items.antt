-- What is left of a list in a loop.
use Rattle.std.proofs.Common.{◌≡◌, ◌≤◌, ◌<◌, ℕ, ◌+◌, Bool, true, false, if◌then◌else◌, IsTrue, List, [], ◌∷◌, ◌++◌, length, get_or, drop, sym, ap, ap₂, ◌∙◌}
use Rattle.std.proofs.lemmas.List.{drop_more, at_drop_all, get_or_read}
use Rattle.bs_log.specs.declared.history.Block.{Block}
use Rattle.bs_log.specs.declared.history.Message.{Message}
use Rattle.bs_log.specs.declared.history.History.{History}
use Rattle.bs_log.specs.Messages.{sends_of}
use Rattle.bs_rounds.specs.Posting.{sent_by}

-- the loop's item is the head of what is left
pub next_item : {A : Type 0} (xs : List A) (i : ℕ) (x : A) → i < length xs → x ≡ get_or xs i x → drop i xs ≡ x ∷ drop (i + 1) xs
next_item xs i x l e = drop_more xs i x l ∙ ap (λ y. y ∷ drop (i + 1) xs) (sym e)

pub none_left : {A : Type 0} (xs : List A) (i : ℕ) → length xs ≤ i → drop i xs ≡ []
none_left xs i l = at_drop_all (λ ys. ys) xs i l

pub next_block : (bs : List Block) (i : ℕ) (b : Block) (ms : List Message) → i < length bs → b ≡ get_or bs i b → ms ≡ b.sends → sends_of (drop i bs) ≡ ms ++ sends_of (drop (i + 1) bs)
next_block bs i b ms l e s = ap sends_of (next_item bs i b l e) ∙ ap (λ xs. xs ++ sends_of (drop (i + 1) bs)) (sym s)

next_sent : (marks : List Bool) (hs : List History) (i : ℕ) (h : History) → i < length marks → i < length hs → h ≡ get_or hs i h
    → sent_by (drop i marks) (drop i hs) ≡ (if get_or marks i false then sends_of h.blocks else []) ++ sent_by (drop (i + 1) marks) (drop (i + 1) hs)
next_sent marks hs i h k l e = ap₂ sent_by (drop_more marks i false k) (next_item hs i h l e)

-- a marked chare's sends come next
pub next_marked : (marks : List Bool) (hs : List History) (i : ℕ) (h : History) (bs : List Block) → i < length marks → i < length hs → h ≡ get_or hs i h → get_or marks i false ≡ true → bs ≡ h.blocks
    → sent_by (drop i marks) (drop i hs) ≡ sends_of bs ++ sent_by (drop (i + 1) marks) (drop (i + 1) hs)
next_marked marks hs i h bs k l e m b = next_sent marks hs i h k l e
    ∙ (ap (λ (t : Bool). (if t then sends_of h.blocks else []) ++ sent_by (drop (i + 1) marks) (drop (i + 1) hs)) m
    ∙ ap (λ (bs : List Block). sends_of bs ++ sent_by (drop (i + 1) marks) (drop (i + 1) hs)) (sym b))

-- the sends of another one are left out
pub next_unmarked : (marks : List Bool) (hs : List History) (i : ℕ) (h : History) → i < length marks → i < length hs → h ≡ get_or hs i h → get_or marks i false ≡ false
    → sent_by (drop i marks) (drop i hs) ≡ sent_by (drop (i + 1) marks) (drop (i + 1) hs)
next_unmarked marks hs i h k l e m = next_sent marks hs i h k l e ∙ ap (λ (t : Bool). (if t then sends_of h.blocks else []) ++ sent_by (drop (i + 1) marks) (drop (i + 1) hs)) m

pub false_is : (t : Bool) → t ≡ false → IsTrue t → ⊥
false_is t e h = cc
