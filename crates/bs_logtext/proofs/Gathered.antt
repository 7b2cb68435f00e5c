-- What the histories of all chares hold, one history behind the other.
use Rattle.std.proofs.Common.{◌≡◌, ◌≤◌, ◌<◌, ◌⊎◌, inl, inr, ℕ, suc, ◌+◌, Bool, false, List, [], ◌∷◌, ◌++◌, refl, sym, ap, ap₂, subst, ◌∙◌, length, map, sum_by, length-append, arith}
use Rattle.std.proofs.lemmas.List.Sums.{sum_by-cons, sum_by-append}
use Rattle.bs_log.specs.declared.history.Sent.{Sent}
use Rattle.bs_log.specs.declared.history.Message.{Message}
use Rattle.bs_log.specs.declared.history.Block.{Block}
use Rattle.bs_log.specs.declared.history.History.{History}
use Rattle.bs_log.specs.declared.log.Row.{Row}
use Rattle.bs_log.specs.Size.{block_size, size, size_all}
use Rattle.bs_log.specs.Messages.{sends_of, sent, one_key}
use Rattle.bs_log.specs.Collected.{number_of, mail_ref, row_of, rows_from, trap_row, traps_from, wait_row, waits_from}
use Rattle.bs_log.specs.Linked.{IsAt}
use Rattle.bs_log.specs.Valid.{row_lines, sends_in, one_send}
use Rattle.bs_log.specs.Lists.{Mem, Apart, InOrder}
use Rattle.bs_log.proofs.ClosedTests.{either, message_symm}
use Rattle.bs_log.proofs.Order.{map_member}

pub order_both : {A : Type 0} (R : A → A → Type 0) (xs ys : List A) → InOrder R xs → InOrder R ys → ((x y : A) → Mem x xs → Mem y ys → R x y) → InOrder R (xs ++ ys)
order_both R [] ys h k f = k
order_both {A} R (x ∷ xs) ys h k f = (first, order_both R xs ys h.1 k (λ a b m n. f a b (inr m) n))
  where
    side : (y : A) → Mem y xs ⊎ Mem y ys → R x y
    side y (inl m) = h.0 y m
    side y (inr m) = f x y (inl refl) m

    first : (y : A) → Mem y (xs ++ ys) → R x y
    first y m = side y (either y xs ys m)

pub apart_both : {A : Type 0} (same : A → A → Bool) (xs ys : List A) → Apart same xs → Apart same ys → ((x y : A) → Mem x xs → Mem y ys → same x y ≡ false) → Apart same (xs ++ ys)
apart_both same [] ys h k f = k
apart_both {A} same (x ∷ xs) ys h k f = (first, apart_both same xs ys h.1 k (λ a b m n. f a b (inr m) n))
  where
    side : (y : A) → Mem y xs ⊎ Mem y ys → same x y ≡ false
    side y (inl m) = h.0 y m
    side y (inr m) = f x y (inl refl) m

    first : (y : A) → Mem y (xs ++ ys) → same x y ≡ false
    first y m = side y (either y xs ys m)

abbrev pub gather : {A B : Type 0} → (ℕ → A → B) → (History → List A) → ℕ → List History → List B
gather f pick k [] = []
gather f pick k (h ∷ hs) = map (f k) (pick h) ++ gather f pick (k + 1) hs

pub rows_gather : (all : List History) (k : ℕ) (hs : List History) → rows_from all k hs ≡ gather (row_of all) (λ h. h.blocks) k hs
rows_gather all k [] = refl
rows_gather all k (h ∷ hs) = ap (λ rs. map (row_of all k) h.blocks ++ rs) (rows_gather all (k + 1) hs)

pub traps_gather : (k : ℕ) (hs : List History) → traps_from k hs ≡ gather trap_row (λ h. h.traps) k hs
traps_gather k [] = refl
traps_gather k (h ∷ hs) = ap (λ rs. map (trap_row k) h.traps ++ rs) (traps_gather (k + 1) hs)

pub waits_gather : (k : ℕ) (hs : List History) → waits_from k hs ≡ gather wait_row (λ h. h.waits) k hs
waits_gather k [] = refl
waits_gather k (h ∷ hs) = ap (λ rs. map (wait_row k) h.waits ++ rs) (waits_gather (k + 1) hs)

-- where an item comes from
pub record From {A B : Type 0} (f : ℕ → A → B) (pick : History → List A) (k : ℕ) (hs : List History) (y : B) : Type 0 where
  pub chare : ℕ
  pub place : ℕ
  pub counted : chare ≡ k + place
  pub history : History
  pub is_at : IsAt hs place history
  pub item : A
  pub is_in : Mem item (pick history)
  pub is : y ≡ f chare item

module _ {A B : Type 0} (f : ℕ → A → B) (pick : History → List A) where
  pub comes_from : (k : ℕ) (hs : List History) (y : B) → Mem y (gather f pick k hs) → From f pick k hs y
  comes_from k [] y m = absurd m
  comes_from k (h ∷ hs) y m = by (either y (map (f k) (pick h)) (gather f pick (k + 1) hs) m) (comes_from (k + 1) hs y)
    where
      by : Mem y (map (f k) (pick h)) ⊎ Mem y (gather f pick (k + 1) hs) → (Mem y (gather f pick (k + 1) hs) → From f pick (k + 1) hs y) → From f pick k (h ∷ hs) y
      by (inl i) g = let s = map_member (f k) (pick h) y i in record { chare = k; place = 0; counted = omega arith; history = h; is_at = refl; item = s.one; is_in = s.is_in; is = s.holds }
      by (inr i) g = let r = g i in let e = r.counted in record { chare = r.chare; place = suc r.place; counted = omega (arith, e); history = r.history; is_at = r.is_at; item = r.item; is_in = r.is_in; is = r.is }

  first_below : (k : ℕ) (h : History) (hs : List History) (x y : B) (R : B → B → Type 0) → ((c d : ℕ) (a b : A) → c < d → R (f c a) (f d b)) → Mem x (map (f k) (pick h)) → Mem y (gather f pick (k + 1) hs) → R x y
  first_below k h hs x y R far m n =
      let s = map_member (f k) (pick h) x m in
      let t = comes_from (k + 1) hs y n in
      let e = t.counted in
      subst (λ z. R z y) (sym s.holds) (subst (R (f k s.one)) (sym t.is) (far k t.chare s.one t.item (omega (arith, e))))

  pub gather_order : (R : B → B → Type 0) (k : ℕ) (hs : List History) → ((c j : ℕ) (h : History) → c ≡ k + j → IsAt hs j h → InOrder R (map (f c) (pick h))) → ((c d : ℕ) (a b : A) → c < d → R (f c a) (f d b)) → InOrder R (gather f pick k hs)
  gather_order R k [] near far = tt
  gather_order R k (h ∷ hs) near far = order_both R (map (f k) (pick h)) (gather f pick (k + 1) hs) (near k 0 h (omega arith) refl)
      (gather_order R (k + 1) hs (λ c j g q t. near c (suc j) g (omega arith) t) far) (λ x y m n. first_below k h hs x y R far m n)

  pub gather_apart : (same : B → B → Bool) (k : ℕ) (hs : List History) → ((c j : ℕ) (h : History) → c ≡ k + j → IsAt hs j h → Apart same (map (f c) (pick h))) → ((c d : ℕ) (a b : A) → c < d → same (f c a) (f d b) ≡ false) → Apart same (gather f pick k hs)
  gather_apart same k [] near far = tt
  gather_apart same k (h ∷ hs) near far = apart_both same (map (f k) (pick h)) (gather f pick (k + 1) hs) (near k 0 h (omega arith) refl)
      (gather_apart same (k + 1) hs (λ c j g q t. near c (suc j) g (omega arith) t) far) (λ x y m n. first_below k h hs x y (λ a b. same a b ≡ false) far m n)

-- how many lines the log takes

same_length : {A B : Type 0} (f : A → B) (xs : List A) → length (map f xs) ≡ length xs
same_length f [] = refl
same_length f (x ∷ xs) = ap suc (same_length f xs)

one_row_lines : (all : List History) (c : ℕ) (x : Block) → row_lines (row_of all c x) ≡ block_size x
unfolding row_of
one_row_lines all c x =
    let after = same_length (number_of all c) x.after in
    let mail = same_length (mail_ref all) x.mail in
    let sends = same_length (λ (m : Message). m.sent) x.sends in
    omega (arith, after, mail, sends)

rows_lines : (all : List History) (c : ℕ) (bs : List Block) → sum_by row_lines (map (row_of all c) bs) ≡ sum_by block_size bs
rows_lines all c [] = refl
rows_lines all c (b ∷ bs) =
    let one = one_row_lines all c b in
    let more = rows_lines all c bs in
    let left = sum_by-cons row_lines (row_of all c b) (map (row_of all c) bs) in
    let right = sum_by-cons block_size b bs in
    omega (arith, one, more, left, right)

pub all_lines : (all : List History) (k : ℕ) (hs : List History) → ((h : History) → Mem h hs → length h.waits ≤ length h.asked) → sum_by row_lines (rows_from all k hs) + length (traps_from k hs) + length (waits_from k hs) ≤ size_all hs
all_lines all k [] w = omega arith
all_lines all k (h ∷ hs) w =
    let rest = all_lines all (k + 1) hs (λ g m. w g (inr m)) in
    let here = w h (inl refl) in
    let rows = sum_by-append row_lines (map (row_of all k) h.blocks) (rows_from all (k + 1) hs) in
    let blocks = rows_lines all k h.blocks in
    let traps = length-append (map (trap_row k) h.traps) (traps_from (k + 1) hs) in
    let trap = same_length (trap_row k) h.traps in
    let waits = length-append (map (wait_row k) h.waits) (waits_from (k + 1) hs) in
    let wait = same_length (wait_row k) h.waits in
    let both = sum_by-cons size h hs in
    omega (arith, rest, here, rows, blocks, traps, trap, waits, wait, both)

-- the sends of rows are those of histories

abbrev only_sent : Message → Sent
only_sent m = m.sent

map_both : {A B : Type 0} (f : A → B) (xs ys : List A) → map f (xs ++ ys) ≡ map f xs ++ map f ys
map_both f [] ys = refl
map_both f (x ∷ xs) ys = ap (λ zs. f x ∷ zs) (map_both f xs ys)

joined_on : {A : Type 0} (xs ys zs : List A) → (xs ++ ys) ++ zs ≡ xs ++ (ys ++ zs)
joined_on [] ys zs = refl
joined_on (x ∷ xs) ys zs = ap (λ ws. x ∷ ws) (joined_on xs ys zs)

row_sends : (all : List History) (c : ℕ) (x : Block) → (row_of all c x).sends ≡ map only_sent x.sends
unfolding row_of
row_sends all c x = refl

sends_of_rows : (all : List History) (c : ℕ) (bs : List Block) (rest : List Row) → sends_in (map (row_of all c) bs ++ rest) ≡ map only_sent (sends_of bs) ++ sends_in rest
sends_of_rows all c [] rest = refl
sends_of_rows all c (b ∷ bs) rest =
    ap₂ (λ xs ys. xs ++ ys) (row_sends all c b) (sends_of_rows all c bs rest)
    ∙ sym (joined_on (map only_sent b.sends) (map only_sent (sends_of bs)) (sends_in rest))
    ∙ ap (λ xs. xs ++ sends_in rest) (sym (map_both only_sent b.sends (sends_of bs)))

pub sends_are : (all : List History) (k : ℕ) (hs : List History) → sends_in (rows_from all k hs) ≡ map only_sent (sent hs)
sends_are all k [] = refl
sends_are all k (h ∷ hs) =
    sends_of_rows all k h.blocks (rows_from all (k + 1) hs)
    ∙ ap (λ ys. map only_sent (sends_of h.blocks) ++ ys) (sends_are all (k + 1) hs)
    ∙ sym (map_both only_sent (sends_of h.blocks) (sent hs))

apart_sends : (ms : List Message) → Apart one_key ms → Apart one_send (map only_sent ms)
apart_sends [] a = tt
apart_sends (m ∷ ms) a = (first, apart_sends ms a.1)
  where
    first : (s : Sent) → Mem s (map only_sent ms) → one_send m.sent s ≡ false
    first s i = let o = map_member only_sent ms s i in subst (λ z. one_send m.sent z ≡ false) (sym o.holds) (message_symm o.one m ∙ a.0 o.one o.is_in)

pub sent_apart : (hs : List History) → Apart one_key (sent hs) → Apart one_send (sends_in (rows_from hs 0 hs))
sent_apart hs a = subst (Apart one_send) (sym (sends_are hs 0 hs)) (apart_sends (sent hs) a)
