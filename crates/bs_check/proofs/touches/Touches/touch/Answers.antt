use Rattle.std.proofs.Common.{◌≡◌, ◌<◌, refl, length, get_or, length-set, arith}
use Rattle.std.proofs.lemmas.List.Elements.{All-set}
use Rattle.std.proofs.lemmas.List.{get_or_read}
use Rattle.bs_tree.specs.Reads.{is_same}
use Rattle.bs_check.specs.Touches.{IsBehind, IsFlagged, seen, seen_in, touched}
use Rattle.bs_check.proofs.Rows.{touched_row, flagged_touch}
use Rattle.bs_check.proofs.touches.Touches.touch.Goals as goal

pub returns-then-at-len-clause-keeps : goal.returns-then-at-len-clause-keeps
unfolding IsBehind IsFlagged seen
returns-then-at-len-clause-keeps c = let ts = c.args.self.now in let row = c.touched_by-touch in record {
  size = length-set ts.touches.items c.args.name.0 row.result;
  overlap = refl;
  part = refl;
  behind = λ n l h. All-set (λ t. t.overlap < n) ts.touches.items c.args.name.0 row.result (omega (arith, row.ensures.overlap)) h;
  flagged = λ h none name. flagged_touch ts c.args.name.0 row.result c.has_clash-self.result (omega (arith, c.if-at-len.true, c.len.ensures, ts.touches.ok.0)) c.has_clash-self.ensures h none name;
}

pub returns-then-at-len-clause-touched : goal.returns-then-at-len-clause-touched
unfolding seen
returns-then-at-len-clause-touched c n l =
    let ts = c.args.self.now in
    let at = c.args.name.0 in
    let row = c.touched_by-touch in
    let within : at < length ts.touches.items = omega (arith, c.if-at-len.true, c.len.ensures, ts.touches.ok.0) in
    let was : c.index.result.now ≡ get_or ts.touches.items at row.result = get_or_read ts.touches.items at c.index.result.now within c.index.ensures row.result in
    let now : seen_in ts.overlap row.result ≡ touched ts.part c.args.writes (seen_in ts.overlap (get_or ts.touches.items at row.result)) = rw (← was) row.ensures.seen in
    touched_row ts.overlap ts.part c.args.writes ts.touches.items at n.0 row.result (is_same c.args.name n) refl within now
