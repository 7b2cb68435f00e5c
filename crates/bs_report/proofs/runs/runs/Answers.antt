use Rattle.std.proofs.Common.{◌≡◌, ◌+◌, ◌∙◌, suc, length, map, ap, sym, arith}
use Rattle.bs_rows.specs.Rows.{net_on}
use Rattle.bs_settle.specs.Timed.{numbers}
use Rattle.bs_report.specs.Headed.{by_processor}
use Rattle.bs_report.specs.Trace.{start_in, traced, traced_rows}
use Rattle.bs_report.proofs.Placed.{entries_of, put}
use Rattle.bs_report.proofs.Rowed.{put_next, rows_of_entries}
use Rattle.bs_report.proofs.runs.runs.Goals as goal

pub loop-place-preserved : goal.loop-place-preserved
loop-place-preserved c =
    let net = net_on c.args.log.now c.args.machine.now in
    let s = start_in (numbers c.args.starts.now) in
    let k = c.loop-place.place in
    let next : suc k ≡ k + 1 = omega arith in
    let row : c.trace_row-row.result ≡ traced net s (suc k) = c.trace_row-row.ensures ∙ ap (traced net s) (sym next) in
    record {
      entries =
          c.in_ok-insert.ensures.entries
          ∙ ap (put c.trace_row-row.result) c.loop-place.invariant.entries
          ∙ ap (λ r. put r (entries_of (by_processor (traced_rows net s k)))) row
          ∙ put_next net s k
          ∙ ap (λ n. entries_of (by_processor (traced_rows net s n))) next;
      within = omega (arith, c.loop-place-test.true, c.count-place-end.ensures.value);
    }

pub returns : goal.returns
returns c =
    let net = net_on c.args.log.now c.args.machine.now in
    let s = start_in (numbers c.args.starts.now) in
    let all : c.loop-place.place ≡ length c.args.log.now.rows = omega (arith, c.loop-place-test.false, c.count-place-end.ensures.value, c.loop-place.invariant.within) in
    ap (λ entries. map (λ entry. entry.1) entries) c.loop-place.invariant.entries
    ∙ rows_of_entries (by_processor (traced_rows net s c.loop-place.place))
    ∙ ap (λ n. by_processor (traced_rows net s n)) all
