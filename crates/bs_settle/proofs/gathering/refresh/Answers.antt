use Rattle.std.proofs.Common.{◌≡◌, ◌++◌, ◌∙◌, [], length, ap, sym, arith, rules}
use Rattle.std.proofs.lemmas.Bool.{true≢false}
use Rattle.std.proofs.lemmas.List.{length-map}
use Rattle.bs_line.specs.declared.layout.Out.{Out}
use Rattle.bs_line.specs.Layout.{sends_of}
use Rattle.bs_line.specs.Line.{given_of, net_at}
use Rattle.bs_settle.proofs.Refreshed.{changes_short, clean_refreshed, line_refreshed}
use Rattle.bs_settle.proofs.gathering.refresh.Goals as goal

pub returns-in_err-extend_from_slice-clause-line : goal.returns-in_err-extend_from_slice-clause-line
returns-in_err-extend_from_slice-clause-line c =
    let line = c.args.line.now in
    let short = changes_short (net_at line) (given_of line) (given_of c.recompute.new.self) (sends_of line.layout) in
    let long = length-map line.layout.outs (λ (out : Out). out.mail) in
    let answers = ap length (c.as_slice-then-is_dirty.ensures ∙ c.in_ok-list.ensures.corrections) in
    absurd (omega (arith, c.in_err-extend_from_slice.ensures.full, c.in_ok-reserve.ensures.ok, ap length c.as_slice.ensures, short, long, answers))

pub returns-in_ok-extend_from_slice-clause-ok : goal.returns-in_ok-extend_from_slice-clause-ok
returns-in_ok-extend_from_slice-clause-ok c =
    let items : c.extend_from_slice.new.self.items ≡ c.args.gathered.now.items ++ c.in_ok-list.list = search rules in
    let did = c.in_ok-list.ensures in
    (c.in_ok-list.list, items, line_refreshed (net_at c.args.line.now) c.args.line.now c.recompute.new.self c.requires did.ready did.same did.held did.begun c.in_ok-list.list did.used did.starts did.given did.corrections)

pub returns-else-is_dirty-clause-ok : goal.returns-else-is_dirty-clause-ok
returns-else-is_dirty-clause-ok c =
    let none : c.args.gathered.now.items ≡ c.args.gathered.now.items ++ [] = search rules in
    ([], none, clean_refreshed (net_at c.args.line.now) c.args.line.now c.requires (λ d. true≢false (sym (c.is_dirty.ensures.1 d) ∙ c.if-is_dirty.false)))
