-- Values that are put back.
use Rattle.std.proofs.Common.{◌≡◌, ℕ, List, [], ◌∷◌, ◌++◌, get_or, slice_set, refl, sym, ap, ◌∙◌, pos, ℤ}
use Rattle.std.proofs.lemmas.List.{set-set, set-get_or}
use Rattle.bs_semantics.specs.Value.{Cells}
use Rattle.bs_block.specs.declared.draft.Held.{Held}
use Rattle.bs_block.specs.Env.{ChareCells}
use Rattle.bs_block.specs.Draft.{Drafted, undone}

-- the newest value is put back first
pub undone-append : (hs : List Held) (h : Held) (cells : Cells) → undone (hs ++ h ∷ []) cells ≡ undone hs (slice_set cells h.cell h.value)
undone-append [] h cells = refl
undone-append (g ∷ hs) h cells = ap (λ (cs : Cells). slice_set cs g.cell g.value) (undone-append hs h cells)

-- a write after the value was held
pub wrote : (hs : List Held) (cells : Cells) (cell : ℕ) (value : ℤ) → undone (hs ++ record { cell = cell; value = get_or cells cell (pos 0) } ∷ []) (slice_set cells cell value) ≡ undone hs cells
wrote hs cells cell value =
    undone-append hs (record { cell = cell; value = get_or cells cell (pos 0) }) (slice_set cells cell value)
    ∙ ap (undone hs) (set-set cells cell value (get_or cells cell (pos 0)) ∙ set-get_or cells cell (pos 0))

-- what is seen of a draft
abbrev pub seen_of : ChareCells → List Held → Drafted
seen_of e hs = record { now = e; before = undone hs e.cells }

pub set_seen : (e now : ChareCells) (hs held : List Held) (cell : ℕ) (value was : ℤ) → now ≡ record e { cells = slice_set e.cells cell value } → was ≡ get_or e.cells cell (pos 0) → held ≡ hs ++ record { cell = cell; value = was } ∷ [] → seen_of now held ≡ record (seen_of e hs) { now = record e { cells = slice_set e.cells cell value } }
set_seen e now hs held cell value was n w h =
    ap (λ e. seen_of e held) n
    ∙ (ap (seen_of (record e { cells = slice_set e.cells cell value })) h
    ∙ (ap (λ w. seen_of (record e { cells = slice_set e.cells cell value }) (hs ++ record { cell = cell; value = w } ∷ [])) w
    ∙ λ i. record { now = record e { cells = slice_set e.cells cell value }; before = wrote hs e.cells cell value i }))

-- the newest value is put back
pub put_back : (held rest : List Held) (was : Held) → held ≡ rest ++ was ∷ [] → (cells now : Cells) → now ≡ slice_set cells was.cell was.value → undone rest now ≡ undone held cells
put_back held rest was h cells now e =
    ap (undone rest) e ∙ (sym (undone-append rest was cells) ∙ ap (λ hs. undone hs cells) (sym h))
