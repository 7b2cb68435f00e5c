-- Sends that go to the same chares with the same keys.
use Rattle.std.proofs.Common.{◌≡◌, false, List, [], ◌∷◌, ◌++◌, inl, inr, map, refl, ◌∙◌}
use Rattle.bs_log.specs.declared.history.Sent.{Sent}
use Rattle.bs_log.specs.declared.log.Row.{Row}
use Rattle.bs_log.specs.declared.log.WaitRow.{WaitRow}
use Rattle.bs_log.specs.Valid.{is_awaited, one_send, sends_in}
use Rattle.bs_log.specs.Lists.{Apart, Mem}

pub record IsAlike (a b : Sent) : Type 0 where
  pub to : b.to ≡ a.to
  pub key : b.key ≡ a.key

abbrev pub Alike : List Sent → List Sent → Type 0
Alike [] [] = Unit {0}
Alike [] (b ∷ bs) = ⊥
Alike (a ∷ xs) [] = ⊥
Alike (a ∷ xs) (b ∷ bs) = IsAlike a b × Alike xs bs

pub alike_map : (f : Sent → Sent) → ((s : Sent) → IsAlike s (f s)) → (ss : List Sent) → Alike ss (map f ss)
alike_map f each [] = tt
alike_map f each (s ∷ ss) = (each s, alike_map f each ss)

alike_append : (xs bs cs ds : List Sent) → Alike xs bs → Alike cs ds → Alike (xs ++ cs) (bs ++ ds)
alike_append [] [] cs ds h k = k
alike_append [] (b ∷ bs) cs ds h k = absurd h
alike_append (a ∷ xs) [] cs ds h k = absurd h
alike_append (a ∷ xs) (b ∷ bs) cs ds h k = (h.0, alike_append xs bs cs ds h.1 k)

pub alike_sends : (f : Row → Row) → ((r : Row) → Alike r.sends (f r).sends) → (rs : List Row) → Alike (sends_in rs) (sends_in (map f rs))
alike_sends f each [] = tt
alike_sends f each (r ∷ rs) = alike_append r.sends (f r).sends (sends_in rs) (sends_in (map f rs)) (each r) (alike_sends f each rs)

pub alike_mem : (xs bs : List Sent) → Alike xs bs → (b : Sent) → Mem b bs → (a : Sent) × Mem a xs × IsAlike a b
alike_mem [] [] h b m = absurd m
alike_mem [] (x ∷ bs) h b m = absurd h
alike_mem (a ∷ xs) [] h b m = absurd m
alike_mem (a ∷ xs) (x ∷ bs) h b (inl e) = (a, inl refl, rw e h.0)
alike_mem (a ∷ xs) (x ∷ bs) h b (inr m) = let d = alike_mem xs bs h.1 b m in (d.0, inr d.1, d.2)

same_one : (a b c d : Sent) → IsAlike a b → IsAlike c d → one_send b d ≡ one_send a c
same_one a b c d h k = rw (h.to, h.key, k.to, k.key) refl

pub alike_apart : (xs bs : List Sent) → Alike xs bs → Apart one_send xs → Apart one_send bs
alike_apart [] [] h apart = apart
alike_apart [] (b ∷ bs) h apart = absurd h
alike_apart (a ∷ xs) [] h apart = absurd h
alike_apart (a ∷ xs) (b ∷ bs) h apart = (first, alike_apart xs bs h.1 apart.1)
  where
    first : (y : Sent) → Mem y bs → one_send b y ≡ false
    first y m = let d = alike_mem xs bs h.1 y m in same_one a b d.0 y h.0 d.2 ∙ apart.0 d.0 d.1

pub alike_awaited : (w : WaitRow) (a b : Sent) → IsAlike a b → is_awaited w b ≡ is_awaited w a
alike_awaited w a b h = rw (h.to, h.key) refl
