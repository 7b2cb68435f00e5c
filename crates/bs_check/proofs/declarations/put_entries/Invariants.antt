use Rattle.std.proofs.Common.{◌≡◌, ℕ, drop, vec_len}
use Rattle.bs_check.specs.Kinds.{or_entry, entry_kind}
use Rattle.bs_check.specs.Table.{kind_in, name_at}
use Rattle.bs_check.proofs.declarations.put_entries.Given as goal

abbrev pub invariant-loop-entry : goal.invariant-loop-entry
invariant-loop-entry l = record {
  same : vec_len l.kinds ≡ vec_len l.fn.kinds;
  count : l.number ≡ l.entry-index;
  kinds : (n : ℕ) → or_entry (kind_in l.kinds.items n) (entry_kind (drop l.entry-index l.entries) l.number (name_at n)) ≡ or_entry (kind_in l.fn.kinds.items n) (entry_kind l.entries 0 (name_at n));
}
