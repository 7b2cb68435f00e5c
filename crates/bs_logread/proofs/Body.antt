-- The bytes of a line without its line feed.
use Rattle.std.proofs.Common.{◌≡◌, ℕ, true, List, [], ◌∷◌, ◌++◌, codes, refl, append_assoc}
use Rattle.std.specs.Fmt.{decimal, signed_decimal}
use Rattle.bs_logtext.specs.Text.{kind_number}
use Rattle.bs_logread.specs.declared.lines.Line.{Line}
use Rattle.bs_logread.specs.declared.lines.Line.TheVariants as l
use Rattle.bs_logread.specs.Line.{line_text, is_in_range}

abbrev pub body : Line → List ℕ
body l.Version = codes "bslog 1"
body (l.Counts c) = codes "chares " ++ (decimal c.chares ++ 32 ∷ (codes "entries " ++ (decimal c.entries ++ 32 ∷ (codes "rows " ++ decimal c.rows))))
body (l.Row h) = codes "row " ++ (decimal h.chare ++ 32 ∷ (decimal h.stmt ++ 32 ∷ (decimal h.depth ++ 32 ∷ decimal h.cost)))
body (l.After row) = codes "after " ++ decimal row
body (l.Mail m) = codes "mail " ++ (decimal m.row ++ 32 ∷ decimal m.index)
body (l.Emit v) = codes "emit " ++ signed_decimal v
body (l.Send s) = codes "send " ++ (decimal s.to ++ 32 ∷ (decimal s.key.entry ++ 32 ∷ (signed_decimal s.key.reference ++ 32 ∷ (decimal s.bytes ++ 32 ∷ decimal s.offset))))
body (l.Trap t) = codes "trap " ++ (decimal t.chare ++ 32 ∷ (decimal t.stmt ++ 32 ∷ decimal (kind_number t.kind)))
body (l.Wait w) = codes "wait " ++ (decimal w.chare ++ 32 ∷ (decimal w.stmt ++ 32 ∷ (decimal w.key.entry ++ 32 ∷ signed_decimal w.key.reference)))
body l.End = codes "end"

pub body_text : (x : Line) → line_text x ≡ body x ++ 10 ∷ []
body_text l.Version = refl
body_text (l.Counts c) = simp append_assoc
body_text (l.Row h) = simp append_assoc
body_text (l.After row) = simp append_assoc
body_text (l.Mail m) = simp append_assoc
body_text (l.Emit v) = simp append_assoc
body_text (l.Send s) = simp append_assoc
body_text (l.Trap t) = simp append_assoc
body_text (l.Wait w) = simp append_assoc
body_text l.End = refl

-- behind a word stands what spells a line with its numbers in their ranges
pub record Says (word text : List ℕ) (x : Line) : Type 0 where
  pub is : word ++ text ≡ body x
  pub range : is_in_range x ≡ true
