-- The text of a chain. Each line ends with a line feed, and every number is plain decimal. docs/output.md shows the lines.
use Rattle.std.specs.Prelude.{◌≤◌, ℕ, List, ◌++◌, length, codes}
use Rattle.std.specs.List.{All, flat_map}
use Rattle.std.specs.Fmt.{decimal}
use Rattle.bs_log.specs.declared.log.Log.{Log}
use Rattle.bs_log.specs.declared.log.Row.{Row}
use Rattle.bs_times.specs.Net.{row_of}
use Rattle.bs_path.specs.declared.links.Link.{Link}
use Rattle.bs_path.specs.declared.links.Link.TheVariants as link
use Rattle.bs_path.specs.declared.links.ChainRow.{ChainRow}
use Rattle.bs_path.specs.declared.links.Chain.{Chain}

-- all rows of a chain are in the log
abbrev pub AreThere : Log → List ChainRow → Type 0
AreThere log rows = All (λ r. (1 ≤ r.row) × (r.row ≤ length log.rows)) rows

-- how the row before leads here: none, or its number behind the word of the way, or its number and that of its send
abbrev pub link_text : Link → List ℕ
link_text link.First = codes " first"
link_text (link.Processor row) = codes " proc " ++ decimal row
link_text (link.After row) = codes " after " ++ decimal row
link_text (link.Mail mail) = codes " mail " ++ decimal mail.row ++ codes " " ++ decimal mail.index

-- a row of the chain up to its link, with its chare and its statement from the log
abbrev pub row_front : ChainRow → Row → List ℕ
row_front r row =
    codes "row " ++ decimal r.row ++ codes " chare " ++ decimal row.chare ++ codes " stmt " ++ decimal row.stmt
    ++ codes " start " ++ decimal r.start ++ codes " step " ++ decimal r.step

-- the whole line
abbrev pub row_line : ChainRow → Row → List ℕ
row_line r row = row_front r row ++ link_text r.link ++ codes "\n"

-- the same of a row by its number
abbrev pub chain_line : Log → ChainRow → List ℕ
chain_line log r = row_line r (row_of log r.row)

-- how many rows the chain has, and the span
abbrev pub head_line : Chain → List ℕ
head_line c = codes "chain rows " ++ decimal (length c.rows) ++ codes " span " ++ decimal c.span ++ codes "\n"

-- how long its last row takes
abbrev pub last_line : ℕ → List ℕ
last_line rest = codes "last " ++ decimal rest ++ codes "\n"

-- the whole text of a chain
unfoldable pub chain_of : Log → Chain → List ℕ
chain_of log c = head_line c ++ flat_map (chain_line log) c.rows ++ last_line c.rest
