use Rattle.std.proofs.Common.{◌≡◌, ◌<◌, drop}
use Rattle.bs_tree.specs.declared.tree.NameId.{NameId}
use Rattle.bs_check.specs.Touches.{Follows, after_parts, seen, size}
use Rattle.bs_check.proofs.interference.note_parts.Given as goal

abbrev pub invariant-loop-part : goal.invariant-loop-part
invariant-loop-part l = record {
  count : l.number ≡ l.part-index;
  follows : Follows l.fn.touches l.touches;
  parts : (name : NameId) → name.0 < size l.fn.touches → after_parts name l.number (drop l.part-index l.part-items) (seen l.touches name) ≡ after_parts name 0 l.parts (seen l.fn.touches name);
}
