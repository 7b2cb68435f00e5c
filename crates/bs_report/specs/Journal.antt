-- The text of a journal: the corrections of each wave, and how the waves ended. Each line ends with a line
-- feed, and every number is plain decimal. docs/output.md shows the lines.
use Rattle.std.specs.Prelude.{ℕ, ◌+◌, Bool, true, false, List, [], ◌∷◌, ◌++◌, length, codes}
use Rattle.std.specs.List.{flat_map}
use Rattle.std.specs.Fmt.{decimal}
use Rattle.bs_line.specs.declared.corrections.Correction.{Correction}

-- a wave by its number, counted from 1
abbrev pub wave_line : ℕ → List ℕ
wave_line number = codes "wave " ++ decimal number ++ codes "\n"

-- a message by its row and send, and its tick before and after the wave
abbrev pub correction_line : Correction → List ℕ
correction_line correction =
    codes "mail " ++ decimal correction.mail.row ++ codes " " ++ decimal correction.mail.index
    ++ codes " from " ++ decimal correction.was.0 ++ codes " to " ++ decimal correction.tick.0 ++ codes "\n"

-- the waves in their order, numbered upwards from `first`, each with its corrections behind it
abbrev pub wave_lines : ℕ → List (List Correction) → List ℕ
wave_lines first [] = []
wave_lines first (wave ∷ waves) = wave_line first ++ flat_map correction_line wave ++ wave_lines (first + 1) waves

-- whether the last wave changed nothing, or the budget was spent
abbrev pub end_word : Bool → List ℕ
end_word true = codes "settled "
end_word false = codes "spent "

-- how the waves ended, and how many there were
abbrev pub end_line : Bool → ℕ → List ℕ
end_line settled waves = end_word settled ++ decimal waves ++ codes "\n"

-- the whole journal: the waves, and how they ended
unfoldable pub journal_text : List (List Correction) → Bool → List ℕ
journal_text waves settled = wave_lines 1 waves ++ end_line settled (length waves)
