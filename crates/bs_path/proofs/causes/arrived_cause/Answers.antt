use Rattle.std.proofs.Common.{◌≡◌, ◌∙◌, length, slice_index_or, subst, sym, ap, arith}
use Rattle.bs_rows.proofs.Numbered.{mail_found}
use Rattle.bs_rows.specs.Rows.{IsSend}
use Rattle.bs_times.specs.Net.{row_of}
use Rattle.bs_path.proofs.causes.arrived_cause.Goals as goal

pub arrives-requires-clause-is_send : goal.arrives-requires-clause-is_send
arrives-requires-clause-is_send c =
    let e : c.as_slice-cause-items.result.now ≡ (row_of c.args.log.now c.args.number).mail = c.as_slice-cause-items.ensures ∙ ap (λ r. r.mail) c.row_at.ensures in
    subst (λ xs. IsSend c.args.log.now (slice_index_or xs c.loop-cause.cause-index (record { row = 0; index = 0 }))) (sym e)
    (mail_found c.args.log.now c.args.number c.loop-cause.cause-index (record { row = 0; index = 0 }) c.requires.valid c.requires.some c.requires.most (omega (arith, c.loop-cause-test.true, ap length e)))
