-- What the fields of a draft mean, and what is always true of them.
use Rattle.bs_block.specs.declared.draft.Draft.TheInside.{Inside}
use Rattle.bs_block.specs.Draft.{Drafted, undone, AllExist}

abbrev pub drafted_of : Inside → Drafted
drafted_of d = record { now = d.env; before = undone d.held.items d.env.cells }

abbrev pub IsSound : Inside → Type 0
IsSound d = AllExist d.held.items d.env.cells
