-- Each block rests on blocks before it and on messages of the mail, and what is waited for isn't in the mail.
use Rattle.std.proofs.Common.{◌≡◌, ◌⊎◌, inl, inr, ℕ, suc, max, Bool, if◌then◌else◌, List, [], ◌∷◌, ◌++◌, Option, Some, None, Ok, refl, sym, ap, ap₂, subst, ◌∙◌, map, is_some}
use Rattle.bs_tree.specs.declared.tree.Program.{Program}
use Rattle.bs_tree.specs.declared.tree.Path.{Path}
use Rattle.bs_log.specs.declared.history.Key.{Key}
use Rattle.bs_log.specs.declared.history.Origin.{Origin}
use Rattle.bs_log.specs.declared.history.Message.{Message}
use Rattle.bs_log.specs.declared.history.Block.{Block}
use Rattle.bs_log.specs.declared.history.WaitAt.{WaitAt}
use Rattle.bs_log.specs.Lists.{Mem}
use Rattle.bs_semantics.specs.Value.{Cells}
use Rattle.bs_semantics.specs.Acts.{Tally}
use Rattle.bs_semantics.specs.Run.{Lookup, Run, State, Cause, Causes, cause_cmp, origin_cmp, union, greatest, serial, made, alone, from_end, after, recelled, both, held, held_and, missing, go_on, all_waits, with_mail, run, start}
use Rattle.bs_semantics.specs.Orderly.{EachRestsOn, CameBy}
use Rattle.bs_semantics.proofs.Options.{none_some, some_same}
use Rattle.bs_semantics.proofs.Sorted.{put_all_member}
use Rattle.bs_semantics.proofs.Members.{mem_left, mem_right, mem_cases}
use Rattle.bs_semantics.proofs.Kept.{Closure, list_kept}

-- a cause that stands for a block of a list
pub record Stood (past : List Block) (c : Cause) : Type 0 where
  pub block : Block
  pub is_in : Mem block past
  pub path : block.path.0 ≡ c.path
  pub depth : block.depth ≡ c.depth

abbrev Known : List Block → Causes → Type 0
Known past k = (c : Cause) → Mem c k.after → Stood past c

known_more : (xs ys : List Block) (k : Causes) → ((b : Block) → Mem b xs → Mem b ys) → Known xs k → Known ys k
known_more xs ys k f h c m = let s = h c m in record { block = s.block; is_in = f s.block s.is_in; path = s.path; depth = s.depth }

earlier_more : (P Q : Block → Type 0) → ((b : Block) → P b → Q b) → (xs : List Block) → EachRestsOn P xs → EachRestsOn Q xs
earlier_more P Q f [] h = tt
earlier_more P Q f (x ∷ xs) h = (record { causes = (h.0).causes; known = λ b m. f b ((h.0).known b m); after = (h.0).after; depth = (h.0).depth }, earlier_more _ _ step xs h.1)
  where
    step : (b : Block) → (b ≡ x) ⊎ P b → (b ≡ x) ⊎ Q b
    step b (inl e) = inl e
    step b (inr m) = inr (f b m)

earlier_both : (P : Block → Type 0) (xs ys : List Block) → EachRestsOn P xs → EachRestsOn (λ b. Mem b xs ⊎ P b) ys → EachRestsOn P (xs ++ ys)
earlier_both P [] ys h k = earlier_more _ _ only ys k
  where
    only : (b : Block) → Mem b [] ⊎ P b → P b
    only b (inl m) = absurd m
    only b (inr m) = m
earlier_both P (x ∷ xs) ys h k = (h.0, earlier_both (λ b. (b ≡ x) ⊎ P b) xs ys h.1 (earlier_more _ _ turn ys k))
  where
    turn : (b : Block) → Mem b (x ∷ xs) ⊎ P b → Mem b xs ⊎ ((b ≡ x) ⊎ P b)
    turn b (inl (inl e)) = inr (inl e)
    turn b (inl (inr m)) = inl m
    turn b (inr m) = inr (inr m)

record Rested (past xs : List Block) (end : Option State) : Type 0 where
  earlier : EachRestsOn (λ b. Mem b past) xs
  ends : (e : State) → end ≡ Some e → Known (xs ++ past) e.causes

abbrev Resting : Causes → Run → Run → Type 0
Resting k r q = (past : List Block) → Known past k → Rested past q.blocks q.end

-- the blocks that causes stand for
record Blocks (past : List Block) (cs : List Cause) : Type 0 where
  blocks : List Block
  known : (b : Block) → Mem b blocks → Mem b past
  paths : map {B = Path} (λ c. record { 0 = c.path }) cs ≡ map (λ b. b.path) blocks
  depth : greatest (λ c. c.depth) cs ≡ greatest (λ b. b.depth) blocks

more_blocks : (past : List Block) (c : Cause) (cs : List Cause) → Stood past c → Blocks past cs → Blocks past (c ∷ cs)
more_blocks past c cs s b = record { blocks = s.block ∷ b.blocks; known = λ x m. known x m; paths = ap₂ (λ p ps. record { 0 = p } ∷ ps) (sym s.path) b.paths; depth = ap₂ max (sym s.depth) b.depth }
  where
    known : (x : Block) → Mem x (s.block ∷ b.blocks) → Mem x past
    known x (inl e) = subst (λ x. Mem x past) (sym e) s.is_in
    known x (inr m) = b.known x m

blocks_of : (past : List Block) (cs : List Cause) → ((c : Cause) → Mem c cs → Stood past c) → Blocks past cs
blocks_of past [] h = record { blocks = []; known = λ b m. absurd m; paths = refl; depth = refl }
blocks_of past (c ∷ cs) h = more_blocks past c cs (h c (inl refl)) (blocks_of past cs (λ x m. h x (inr m)))

made_rests : (this n : ℕ) (path : List ℕ) (s : State) (t : Tally) → Resting s.causes (serial this n path s (Ok t)) (serial this n path s (Ok t))
made_rests this n path s t past known =
    let b = blocks_of past s.causes.after known in
    record {
      earlier = (record { causes = b.blocks; known = b.known; after = b.paths; depth = ap (λ d. suc (max d (greatest (λ o. o.depth) s.causes.mail))) b.depth }, tt);
      ends = λ e z. subst (λ e. Known (made this n path s.causes t ∷ past) e.causes) (some_same z) one;
    }
  where
    one : Known (made this n path s.causes t ∷ past) (alone path s.causes)
    one c (inl e) = record { block = made this n path s.causes t; is_in = inl refl; path = ap (λ c. c.path) (sym e); depth = ap (λ c. c.depth) (sym e) }
    one c (inr m) = absurd m

end_known : (past : List Block) (s e : State) → Known past s.causes → Some s ≡ Some e → Known past e.causes
end_known past s e h z = subst (λ e. Known past e.causes) (some_same z) h

after_rests : (r : Run) (f : State → Run) (past : List Block) → Rested past r.blocks r.end → ((s : State) (past : List Block) → Known past s.causes → Rested past (f s).blocks (f s).end) → (o : Option State) → r.end ≡ o → Rested past (after r (from_end o f)).blocks (after r (from_end o f)).end
after_rests r f past h i None p = h
after_rests r f past h i (Some s) p =
    let two = i s (r.blocks ++ past) (h.ends s p) in
    record {
      earlier = earlier_both (λ b. Mem b past) r.blocks (f s).blocks h.earlier (earlier_more _ _ (λ b m. mem_cases b r.blocks past m) (f s).blocks two.earlier);
      ends = λ e z. known_more _ _ e.causes (λ b m. turn b (mem_cases b (f s).blocks (r.blocks ++ past) m)) (two.ends e z);
    }
  where
    turn₂ : (b : Block) → Mem b r.blocks ⊎ Mem b past → Mem b ((r.blocks ++ (f s).blocks) ++ past)
    turn₂ b (inl m) = mem_left b (r.blocks ++ (f s).blocks) past (mem_left b r.blocks (f s).blocks m)
    turn₂ b (inr m) = mem_right b (r.blocks ++ (f s).blocks) past m

    turn : (b : Block) → Mem b (f s).blocks ⊎ Mem b (r.blocks ++ past) → Mem b ((r.blocks ++ (f s).blocks) ++ past)
    turn b (inl m) = mem_left b (r.blocks ++ (f s).blocks) past (mem_right b r.blocks (f s).blocks m)
    turn b (inr m) = turn₂ b (mem_cases b r.blocks past m)

cells_rest : (past xs : List Block) (f : Cells → Cells) (o : Option State) → ((e : State) → o ≡ Some e → Known (xs ++ past) e.causes) → (e : State) → recelled f o ≡ Some e → Known (xs ++ past) e.causes
cells_rest past xs f None h e z = absurd (none_some z)
cells_rest past xs f (Some s) h e z = subst (λ e. Known (xs ++ past) e.causes) (some_same z) (h s refl)

join_rests : (w : ℕ → Bool) (r q : Run) (past : List Block) → Rested past r.blocks r.end → Rested past q.blocks q.end → Rested past (r.blocks ++ q.blocks) (both w r.end q.end)
join_rests w r q past h k = record {
  earlier = earlier_both (λ b. Mem b past) r.blocks q.blocks h.earlier (earlier_more _ _ (λ b m. inr m) q.blocks k.earlier);
  ends = λ e z. by_ends r.end q.end h.ends k.ends e z;
}
  where
    all : List Block
    all = (r.blocks ++ q.blocks) ++ past

    from_left : (b : Block) → Mem b r.blocks ⊎ Mem b past → Mem b ((r.blocks ++ q.blocks) ++ past)
    from_left b (inl m) = mem_left b (r.blocks ++ q.blocks) past (mem_left b r.blocks q.blocks m)
    from_left b (inr m) = mem_right b (r.blocks ++ q.blocks) past m

    from_right : (b : Block) → Mem b q.blocks ⊎ Mem b past → Mem b ((r.blocks ++ q.blocks) ++ past)
    from_right b (inl m) = mem_left b (r.blocks ++ q.blocks) past (mem_right b r.blocks q.blocks m)
    from_right b (inr m) = mem_right b (r.blocks ++ q.blocks) past m

    either_known : (x y : Causes) → Known ((r.blocks ++ q.blocks) ++ past) x → Known ((r.blocks ++ q.blocks) ++ past) y → (c : Cause) → Mem c x.after ⊎ Mem c y.after → Stood ((r.blocks ++ q.blocks) ++ past) c
    either_known x y g h c (inl m) = g c m
    either_known x y g h c (inr m) = h c m

    by_ends : (x y : Option State) → ((e : State) → x ≡ Some e → Known (r.blocks ++ past) e.causes) → ((e : State) → y ≡ Some e → Known (q.blocks ++ past) e.causes) → (e : State) → both w x y ≡ Some e → Known ((r.blocks ++ q.blocks) ++ past) e.causes
    by_ends None y g h e z = absurd (none_some z)
    by_ends (Some s) None g h e z = absurd (none_some z)
    by_ends (Some s) (Some t) g h e z = end_known _ _ e
        (λ c m. either_known s.causes t.causes
        (known_more _ _ s.causes (λ b m. from_left b (mem_cases b r.blocks past m)) (g s refl))
        (known_more _ _ t.causes (λ b m. from_right b (mem_cases b q.blocks past m)) (h t refl))
        c (put_all_member cause_cmp c s.causes.after t.causes.after m)) z

no_rest : (past : List Block) → Rested past [] None
no_rest past = record { earlier = tt; ends = λ e z. absurd (none_some z) }

go_on_rests : (o : Option (List Message)) (as' : _) (ws : _) (f : List Message → Run) (past : List Block) → ((ms : List Message) → Rested past (f ms).blocks (f ms).end) → Rested past (go_on o as' ws f).blocks (go_on o as' ws f).end
go_on_rests None as' ws f past h = no_rest past
go_on_rests (Some ms) as' ws f past h = h ms

resting_closed : (p : Program) (this : ℕ) (a : Lookup) → Closure p this a a Resting
resting_closed p this a = record {
  ended = λ s past h. record { earlier = tt; ends = λ e z. end_known past s e h z };
  halted = λ k ts past h. no_rest past;
  made = λ n path s acts t is past h. made_rests this n path s t past h;
  asked = λ n path k ks f g h past d. go_on_rests (held a ks) _ _ g past (λ ms. h ms past d);
  followed = λ k r q f g h i past d. after_rests q g past (h past d) i q.end refl;
  recelled = λ k f r q h past d. record { earlier = (h past d).earlier; ends = λ e z. cells_rest past q.blocks f q.end (h past d).ends e z };
  joined = λ k w r q r' q' h i past d. join_rests w q q' past (h past d) (i past d);
}

pub run_earlier : (p : Program) (limit c : ℕ) (a : Lookup) → EachRestsOn (λ b. ⊥) (run p limit c a).blocks
run_earlier p limit c a = (list_kept p limit c a a Resting (resting_closed p c a) p.body 0 1 [] (start p) [] (λ c m. absurd m)).earlier

-- the keys that are missing have no message
missing_lacks : (mail : Lookup) (ks : List Key) (k : Key) → Mem k (missing mail ks) → mail k ≡ None
missing_lacks mail [] k m = absurd m
missing_lacks mail (x ∷ ks) k m = by_key (mail x) refl m (missing_lacks mail ks k)
  where
    by_key : (o : Option Message) → mail x ≡ o → Mem k (if is_some o then missing mail ks else x ∷ missing mail ks) → (Mem k (missing mail ks) → mail k ≡ None) → mail k ≡ None
    by_key (Some y) p m f = f m
    by_key None p (inl e) f = ap mail e ∙ p
    by_key None p (inr m) f = f m

waits_lack : (mail : Lookup) (n : ℕ) (path : List ℕ) (ks : List Key) → ((k : Key) → Mem k ks → mail k ≡ None) → (w : WaitAt) → Mem w (all_waits n path ks) → mail w.key ≡ None
waits_lack mail n path [] h w m = absurd m
waits_lack mail n path (k ∷ ks) h w (inl e) = ap (λ w. mail w.key) e ∙ h k (inl refl)
waits_lack mail n path (k ∷ ks) h w (inr m) = waits_lack mail n path ks (λ k m. h k (inr m)) w m

module _ (mail : Lookup) where
  abbrev Lacking : Causes → Run → Run → Type 0
  Lacking k r q = (w : WaitAt) → Mem w q.waits → mail w.key ≡ None

  after_lacks : (r : Run) (f : State → Run) → ((w : WaitAt) → Mem w r.waits → mail w.key ≡ None) → ((s : State) (w : WaitAt) → Mem w (f s).waits → mail w.key ≡ None) → (o : Option State) (w : WaitAt) → Mem w (after r (from_end o f)).waits → mail w.key ≡ None
  after_lacks r f h i None w m = h w m
  after_lacks r f h i (Some s) w m = by_side (mem_cases w r.waits (f s).waits m)
    where
      by_side : Mem w r.waits ⊎ Mem w (f s).waits → mail w.key ≡ None
      by_side (inl m) = h w m
      by_side (inr m) = i s w m

  join_lacks : (w : WaitAt) (r q : Run) → Lacking (record { after = []; mail = [] }) r r → Lacking (record { after = []; mail = [] }) q q → Mem w r.waits ⊎ Mem w q.waits → mail w.key ≡ None
  join_lacks w r q h i (inl m) = h w m
  join_lacks w r q h i (inr m) = i w m

  ask_lacks : (n : ℕ) (path : List ℕ) (ks : List Key) (as' : _) (f : List Message → Run) → ((ms : List Message) (w : WaitAt) → Mem w (f ms).waits → mail w.key ≡ None) → (o : Option (List Message)) (w : WaitAt) → Mem w (go_on o as' (all_waits n path (missing mail ks)) f).waits → mail w.key ≡ None
  ask_lacks n path ks as' f h None w m = waits_lack mail n path (missing mail ks) (missing_lacks mail ks) w m
  ask_lacks n path ks as' f h (Some ms) w m = h ms w m

  lacking_closed : (p : Program) (this : ℕ) → Closure p this mail mail Lacking
  lacking_closed p this = record {
    ended = λ s w m. absurd m;
    halted = λ k ts w m. absurd m;
    made = λ n path s acts t is w m. absurd m;
    asked = λ n path k ks f g h w m. ask_lacks n path ks _ g h (held mail ks) w m;
    followed = λ k r q f g h i w m. after_lacks q g h i q.end w m;
    recelled = λ k f r q h w m. h w m;
    joined = λ k v r q r' q' h i w m. join_lacks w q q' h i (mem_cases w q.waits q'.waits m);
  }

  pub run_lacks : (p : Program) (limit c : ℕ) (w : WaitAt) → Mem w (run p limit c mail).waits → mail w.key ≡ None
  run_lacks p limit c = list_kept p limit c mail mail Lacking (lacking_closed p c) p.body 0 1 [] (start p)

  -- the message causes
  abbrev pub Held : Causes → Type 0
  Held k = (o : Origin) → Mem o k.mail → CameBy mail o

  record HeldBy (xs : List Block) (end : Option State) : Type 0 where
    blocks : (x : Block) → Mem x xs → (o : Origin) → Mem o x.mail → CameBy mail o
    ends : (e : State) → end ≡ Some e → Held e.causes

  abbrev Coming : Causes → Run → Run → Type 0
  Coming k r q = Held k → HeldBy q.blocks q.end

  none_held : HeldBy [] None
  none_held = record { blocks = λ x m. absurd m; ends = λ e z. absurd (none_some z) }

  held_end : (s e : State) → Held s.causes → Some s ≡ Some e → Held e.causes
  held_end s e h z = subst (λ e. Held e.causes) (some_same z) h

  held_side : (x : Block) (xs ys : List Block) → ((x : Block) → Mem x xs → (o : Origin) → Mem o x.mail → CameBy mail o) → ((x : Block) → Mem x ys → (o : Origin) → Mem o x.mail → CameBy mail o) → Mem x xs ⊎ Mem x ys → (o : Origin) → Mem o x.mail → CameBy mail o
  held_side x xs ys h k (inl m) = h x m
  held_side x xs ys h k (inr m) = k x m

  after_held : (r : Run) (f : State → Run) → HeldBy r.blocks r.end → ((s : State) → Held s.causes → HeldBy (f s).blocks (f s).end) → (o : Option State) → r.end ≡ o → HeldBy (after r (from_end o f)).blocks (after r (from_end o f)).end
  after_held r f h i None p = h
  after_held r f h i (Some s) p = let two = i s (h.ends s p) in record { blocks = λ x m. held_side x r.blocks (f s).blocks h.blocks two.blocks (mem_cases x r.blocks (f s).blocks m); ends = two.ends }

  cells_held : (xs : List Block) (f : Cells → Cells) (o : Option State) → HeldBy xs o → HeldBy xs (recelled f o)
  cells_held xs f None h = record { blocks = h.blocks; ends = λ e z. absurd (none_some z) }
  cells_held xs f (Some s) h = record { blocks = h.blocks; ends = λ e z. held_end _ e (h.ends s refl) z }

  union_held : (a b : Causes) → Held a → Held b → Held (union a b)
  union_held a b h k o m = by_side (put_all_member origin_cmp o a.mail b.mail m)
    where
      by_side : Mem o a.mail ⊎ Mem o b.mail → CameBy mail o
      by_side (inl m) = h o m
      by_side (inr m) = k o m

  join_held : (w : ℕ → Bool) (r q : Run) → HeldBy r.blocks r.end → HeldBy q.blocks q.end → HeldBy (r.blocks ++ q.blocks) (both w r.end q.end)
  join_held w r q h k = record { blocks = λ x m. held_side x r.blocks q.blocks h.blocks k.blocks (mem_cases x r.blocks q.blocks m); ends = λ e z. by_ends r.end q.end h.ends k.ends e z }
    where
      by_ends : (x y : Option State) → ((e : State) → x ≡ Some e → Held e.causes) → ((e : State) → y ≡ Some e → Held e.causes) → (e : State) → both w x y ≡ Some e → Held e.causes
      by_ends None y g h e z = absurd (none_some z)
      by_ends (Some s) None g h e z = absurd (none_some z)
      by_ends (Some s) (Some t) g h e z = held_end _ e (union_held s.causes t.causes (g s refl) (h t refl)) z

  made_held : (this n : ℕ) (path : List ℕ) (s : State) (t : Tally) → Held s.causes → HeldBy (serial this n path s (Ok t)).blocks (serial this n path s (Ok t)).end
  made_held this n path s t h = record { blocks = λ x m. one x m; ends = λ e z. held_end (record { cells = t.cells; causes = alone path s.causes }) e (λ o m. absurd m) z }
    where
      one : (x : Block) → Mem x (serial this n path s (Ok t)).blocks → (o : Origin) → Mem o x.mail → CameBy mail o
      one x (inl e) o m = h o (subst (λ x. Mem o x.mail) e m)
      one x (inr i) o m = absurd i

  pub came_all : (ks : List Key) (ms : List Message) → held mail ks ≡ Some ms → (o : Origin) → Mem o (map (λ m. m.origin) ms) → CameBy mail o
  came_all [] ms e o m = absurd (subst (λ ms. Mem o (map (λ m. m.origin) ms)) (sym (some_same e)) m)
  came_all (k ∷ ks) ms e o m = by_key (mail k) refl (held mail ks) (came_all ks) e
    where
      by_place : (x : Message) (xs : List Message) → mail k ≡ Some x → Mem o (map (λ m. m.origin) (x ∷ xs)) → (Mem o (map (λ m. m.origin) xs) → CameBy mail o) → CameBy mail o
      by_place x xs p (inl q) f = record { key = k; message = x; is_held = p; is_from = sym q }
      by_place x xs p (inr i) f = f i

      by_key : (x : Option Message) → mail k ≡ x → (y : Option (List Message)) → ((ns : List Message) → y ≡ Some ns → (o : Origin) → Mem o (map (λ m. m.origin) ns) → CameBy mail o) → held_and x y ≡ Some ms → CameBy mail o
      by_key None p y f z = absurd (none_some z)
      by_key (Some x) p None f z = absurd (none_some z)
      by_key (Some x) p (Some xs) f z = by_place x xs p (subst (λ ms. Mem o (map (λ m. m.origin) ms)) (sym (some_same z)) m) (f xs refl o)

  with_held : (ks : List Key) (ms : List Message) (k : Causes) → held mail ks ≡ Some ms → Held k → Held (with_mail ms k)
  with_held ks ms k p h o m = by_side (put_all_member origin_cmp o (map (λ m. m.origin) ms) k.mail m)
    where
      by_side : Mem o (map (λ m. m.origin) ms) ⊎ Mem o k.mail → CameBy mail o
      by_side (inl m) = came_all ks ms p o m
      by_side (inr m) = h o m

  ask_held : (ks : List Key) (k : Causes) (as' : _) (ws : _) (f : List Message → Run) → Held k → ((ms : List Message) → Held (with_mail ms k) → HeldBy (f ms).blocks (f ms).end) → (o : Option (List Message)) → held mail ks ≡ o → HeldBy (go_on o as' ws f).blocks (go_on o as' ws f).end
  ask_held ks k as' ws f h i None p = none_held
  ask_held ks k as' ws f h i (Some ms) p = i ms (with_held ks ms k p h)

  coming_closed : (p : Program) (this : ℕ) → Closure p this mail mail Coming
  coming_closed p this = record {
    ended = λ s h. record { blocks = λ x m. absurd m; ends = λ e z. held_end s e h z };
    halted = λ k ts h. none_held;
    made = λ n path s acts t is h. made_held this n path s t h;
    asked = λ n path k ks f g h d. ask_held ks k _ _ g d h (held mail ks) refl;
    followed = λ k r q f g h i d. after_held q g (h d) i q.end refl;
    recelled = λ k f r q h d. cells_held q.blocks f q.end (h d);
    joined = λ k w r q r' q' h i d. join_held w q q' (h d) (i d);
  }

  pub run_came : (p : Program) (limit c : ℕ) (x : Block) → Mem x (run p limit c mail).blocks → (o : Origin) → Mem o x.mail → CameBy mail o
  run_came p limit c = (list_kept p limit c mail mail Coming (coming_closed p c) p.body 0 1 [] (start p) (λ o m. absurd m)).blocks
