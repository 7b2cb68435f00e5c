-- Each message of a block has the depth of the block.
use Rattle.std.proofs.Common.{◌≡◌, ◌⊎◌, inl, inr, ℕ, ◌+◌, List, [], ◌∷◌, Option, Some, None, Ok, refl, sym, ap, subst}
use Rattle.bs_tree.specs.declared.tree.Program.{Program}
use Rattle.bs_log.specs.declared.history.Block.{Block}
use Rattle.bs_log.specs.declared.history.Message.{Message}
use Rattle.bs_log.specs.Lists.{Mem}
use Rattle.bs_semantics.specs.Acts.{Tally, Parcel}
use Rattle.bs_semantics.specs.Run.{Lookup, Run, State, Causes, signed, serial, from_end, after, held, go_on, run, start}
use Rattle.bs_semantics.proofs.Members.{mem_cases}
use Rattle.bs_semantics.proofs.Kept.{Closure, list_kept}

pub record Signed (this : ℕ) (x : Block) : Type 0 where
  pub parcels : List Parcel
  pub sends : x.sends ≡ signed this x.path.0 x.depth 1 parcels
  pub depth : (m : Message) → Mem m x.sends → m.origin.depth ≡ x.depth

abbrev pub AllSigned : ℕ → Causes → Run → Run → Type 0
AllSigned this k r q = (x : Block) → Mem x q.blocks → Signed this x

signed_depth : (this : ℕ) (path : List ℕ) (d k : ℕ) (ps : List Parcel) (m : Message) → Mem m (signed this path d k ps) → m.origin.depth ≡ d
signed_depth this path d k [] m i = absurd i
signed_depth this path d k (p ∷ ps) m (inl e) = ap (λ m. m.origin.depth) e
signed_depth this path d k (p ∷ ps) m (inr i) = signed_depth this path d (k + 1) ps m i

made_signed : (this n : ℕ) (path : List ℕ) (s : State) (t : Tally) → AllSigned this s.causes (serial this n path s (Ok t)) (serial this n path s (Ok t))
made_signed this n path s t x (inl e) = subst (Signed this) (sym e) (record { parcels = t.sends; sends = refl; depth = λ m i. signed_depth this path _ 1 t.sends m i })
made_signed this n path s t x (inr i) = absurd i

after_signed : (this : ℕ) (r : Run) (f : State → Run) → ((x : Block) → Mem x r.blocks → Signed this x) → ((s : State) (x : Block) → Mem x (f s).blocks → Signed this x) → (o : Option State) (x : Block) → Mem x (after r (from_end o f)).blocks → Signed this x
after_signed this r f h i None x m = h x m
after_signed this r f h i (Some s) x m = by_side (mem_cases x r.blocks (f s).blocks m)
  where
    by_side : Mem x r.blocks ⊎ Mem x (f s).blocks → Signed this x
    by_side (inl m) = h x m
    by_side (inr m) = i s x m

go_on_signed : (this : ℕ) (o : Option (List Message)) (as' : _) (ws : _) (f : List Message → Run) → ((ms : List Message) (x : Block) → Mem x (f ms).blocks → Signed this x) → (x : Block) → Mem x (go_on o as' ws f).blocks → Signed this x
go_on_signed this None as' ws f h x m = absurd m
go_on_signed this (Some ms) as' ws f h x m = h ms x m

join_signed : (this : ℕ) (x : Block) (r q : Run) → ((x : Block) → Mem x r.blocks → Signed this x) → ((x : Block) → Mem x q.blocks → Signed this x) → Mem x r.blocks ⊎ Mem x q.blocks → Signed this x
join_signed this x r q h i (inl m) = h x m
join_signed this x r q h i (inr m) = i x m

signed_closed : (p : Program) (this : ℕ) (a : Lookup) → Closure p this a a (AllSigned this)
signed_closed p this a = record {
  ended = λ s x m. absurd m;
  halted = λ k ts x m. absurd m;
  made = λ n path s acts t is x m. made_signed this n path s t x m;
  asked = λ n path k ks f g h x m. go_on_signed this (held a ks) _ _ g h x m;
  followed = λ k r q f g h i x m. after_signed this q g h i q.end x m;
  recelled = λ k f r q h x m. h x m;
  joined = λ k w r q r' q' h i x m. join_signed this x q q' h i (mem_cases x q.blocks q'.blocks m);
}

pub run_signed : (p : Program) (limit c : ℕ) (a : Lookup) (x : Block) → Mem x (run p limit c a).blocks → Signed c x
run_signed p limit c a = list_kept p limit c a a (AllSigned c) (signed_closed p c a) p.body 0 1 [] (start p)
