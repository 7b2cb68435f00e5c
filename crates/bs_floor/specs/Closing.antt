-- What the cells of a closed floor have to do with what its seats did.
use Rattle.std.specs.Prelude.{◌≡◌, ℕ, ◌<◌, List, [], ◌∷◌, ◌++◌, length, Some, slice_get}
use Rattle.bs_floor.specs.declared.station.Bound.{Bound}
use Rattle.bs_floor.specs.declared.cell.Cell.{Cell}
use Rattle.bs_floor.specs.declared.view.Setup.{Setup}
use Rattle.bs_floor.specs.declared.view.Entry.{Entry}
use Rattle.bs_floor.specs.declared.station.Station as Station
use Rattle.bs_floor.specs.Counting.{below, count, Each}
use Rattle.bs_floor.specs.History.{IsCellOf, IsServeOf, IsHistory, AreSends}

-- all elements of these lists, in order
abbrev pub joined_lists : {X : Type 0} → List (List X) → List X
joined_lists [] = []
joined_lists (l ∷ ls) = l ++ joined_lists ls

module _ {X : Type 0} where
  -- the entry e is the a-th of the i-th list, both counted from 0
  abbrev pub IsEntryAt : List (List (Entry X)) → ℕ → ℕ → Entry X → Type 0
  IsEntryAt lists i a e = (l : List (Entry X)) × (slice_get lists i ≡ Some l) × (slice_get l a ≡ Some e)

  -- no two entries of all lists have both one station and one number
  abbrev pub NoTwoAlike : List (List (Entry X)) → Type 0
  NoTwoAlike lists = (i a j b : ℕ) (e f : Entry X) → IsEntryAt lists i a e → IsEntryAt lists j b f → e.station ≡ f.station → e.number ≡ f.number → (i ≡ j) × (a ≡ b)

  -- in exactly one list, and there once, stands an entry of this station and number, and this is its content
  pub record StandsOnce (lists : List (List (Entry X))) (station number : ℕ) (content : X) : Type 0 where
    pub list : ℕ
    pub place : ℕ
    pub there : IsEntryAt lists list place record { station = station; number = number; content = content }
    pub only : (j b : ℕ) (f : Entry X) → IsEntryAt lists j b f → f.station ≡ station → f.number ≡ number → (j ≡ list) × (b ≡ place)

module _ {S J I : Type 0} (g : Station.Ghosts S J I) where
  -- the item of this post stands at its place of its station
  abbrev pub PostIsKept : List (Cell S J I) → Entry I → Type 0
  PostIsKept cells e = (c : Cell S J I) × (slice_get cells e.station ≡ Some c) × (e.number < length c.posted) × (slice_get c.posted e.number ≡ Some e.content)

  -- the number of this serve is served at its station, and its sends are those of that item
  abbrev pub ServeIsKept : List S → List (Cell S J I) → Entry (List (Bound I)) → Type 0
  ServeIsKept stations cells e = (c : Cell S J I) × (start : S) × (slice_get cells e.station ≡ Some c) × (slice_get stations e.station ≡ Some start) × (e.number < c.served) × AreSends g start c.posted e.number e.content

  -- the cells at the end of a floor that was made from these stations, whose seats' lists of posts and of serves are these
  pub record Settled (stations : List S) (posts : List (List (Entry I))) (serves : List (List (Entry (List (Bound I))))) (cells : List (Cell S J I)) : Type 0 where
    pub as_many : length cells ≡ length stations
    pub histories : (k : ℕ) (start : S) (c : Cell S J I) → slice_get stations k ≡ Some start → slice_get cells k ≡ Some c → IsHistory g start c
    pub posts_differ : NoTwoAlike posts
    pub serves_differ : NoTwoAlike serves
    pub posts_kept : (i a : ℕ) (e : Entry I) → IsEntryAt posts i a e → PostIsKept cells e
    pub serves_kept : (i a : ℕ) (e : Entry (List (Bound I))) → IsEntryAt serves i a e → ServeIsKept stations cells e
    pub posted_once : (k p : ℕ) (c : Cell S J I) (x : I) → slice_get cells k ≡ Some c → slice_get c.posted p ≡ Some x → StandsOnce posts k p x
    pub served_once : (k n : ℕ) (c : Cell S J I) → slice_get cells k ≡ Some c → n < c.served → (sends : List (Bound I)) × ((start : S) × (slice_get stations k ≡ Some start) × AreSends g start c.posted n sends) × StandsOnce serves k n sends

  -- the same by counts, where one seat has taken over what all did
  abbrev pub PostEnds : List (Cell S J I) → Entry I → Type 0
  PostEnds xs e = (c : Cell S J I) × (slice_get xs e.station ≡ Some c) × (slice_get c.posted e.number ≡ Some e.content)

  abbrev pub ServeEnds : Setup S → List (Cell S J I) → Entry (List (Bound I)) → Type 0
  ServeEnds setup xs e = (c : Cell S J I) × (slice_get xs e.station ≡ Some c) × IsServeOf g setup e.station c e.number e.content

  pub record Accounted (setup : Setup S) (posts : List (Entry I)) (serves : List (Entry (List (Bound I)))) (xs : List (Cell S J I)) : Type 0 where
    pub good : (k : ℕ) (c : Cell S J I) → slice_get xs k ≡ Some c → IsCellOf g setup k c
    pub posts_once : (k p : ℕ) (c : Cell S J I) → slice_get xs k ≡ Some c → count k p posts ≡ below p (length c.posted)
    pub serves_once : (k p : ℕ) (c : Cell S J I) → slice_get xs k ≡ Some c → count k p serves ≡ below p c.served
    pub posts_stand : Each (PostEnds xs) posts
    pub serves_stand : Each (ServeEnds setup xs) serves
