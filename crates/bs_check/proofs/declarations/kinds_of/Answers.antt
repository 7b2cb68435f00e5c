use Rattle.std.proofs.Common.{◌≡◌, length, replicate, None, refl, rules}
use Rattle.bs_check.specs.Kinds.{or_entry, var_kind, entry_kind}
use Rattle.bs_check.specs.Table.{kind_in, name_at}
use Rattle.bs_check.proofs.Fitting.{fitting}
use Rattle.bs_check.proofs.Nothing.{none_in}
use Rattle.bs_check.proofs.declarations.kinds_of.Goals as goal

pub put_vars-requires-clause-cells : goal.put_vars-requires-clause-cells
put_vars-requires-clause-cells c = let fits = fitting c.args.program.now c.requires.within in rw c.as_slice-2.ensures fits.cells

pub put_entries-requires-clause-few : goal.put_entries-requires-clause-few
put_entries-requires-clause-few c = let fits = fitting c.args.program.now c.requires.within in rw c.as_slice-3.ensures fits.entries

pub put_entries-requires-clause-params : goal.put_entries-requires-clause-params
put_entries-requires-clause-params c = let fits = fitting c.args.program.now c.requires.within in rw c.as_slice-3.ensures fits.params

pub returns : goal.returns
returns c n =
    let p = c.args.program.now in
    let made : c.in_ok-kinds.kinds.items ≡ replicate (length c.as_slice.result.now) None = c.in_ok-kinds.ensures.items_if_clones_equal (λ y h. search rules) in
    let nothing = none_in (length c.as_slice.result.now) n in
    let first : kind_in c.put_vars.new.kinds.items n ≡ or_entry (kind_in c.in_ok-kinds.kinds.items n) (var_kind p.vars 0 (name_at n)) = rw (← c.as_slice-2.ensures) (c.put_vars.ensures.kinds n) in
    let second : kind_in c.put_entries.new.kinds.items n ≡ or_entry (kind_in c.put_vars.new.kinds.items n) (entry_kind p.entries 0 (name_at n)) = rw (← c.as_slice-3.ensures) (c.put_entries.ensures.kinds n) in
    rw (second, first, made, nothing) refl
