use Rattle.std.proofs.Common.{◌≡◌, ◌∙◌, get_or, subst, ap}
use Rattle.bs_log.specs.Lists.{Mem}
use Rattle.bs_log.specs.declared.log.MailRef.{MailRef}
use Rattle.bs_schedule.proofs.Places.{place_mem}
use Rattle.bs_times.specs.Net.{row_of}
use Rattle.bs_rows.specs.Rows.{net_on}
use Rattle.bs_line.specs.Making.{AreRowsOn}
use Rattle.bs_line.proofs.Parts.{mail_on, row_there}
use Rattle.bs_line.proofs.making.slots_of.Goals as goal

pub row_at-requires-clause-some : goal.row_at-requires-clause-some
row_at-requires-clause-some c =
    let h = c.requires.coming.1 in
    let rows : AreRowsOn (net_on c.args.log.now c.requires.coming.0) c.args.rows.now = record { processor = h.processor; those = h.those } in
    (row_there c.args.log.now c.requires.coming.0 c.requires.valid c.args.rows.now rows c.args.number c.requires.on).0

pub row_at-requires-clause-most : goal.row_at-requires-clause-most
row_at-requires-clause-most c =
    let h = c.requires.coming.1 in
    let rows : AreRowsOn (net_on c.args.log.now c.requires.coming.0) c.args.rows.now = record { processor = h.processor; those = h.those } in
    (row_there c.args.log.now c.requires.coming.0 c.requires.valid c.args.rows.now rows c.args.number c.requires.on).1

pub mail_place-requires-clause-rises : goal.mail_place-requires-clause-rises
mail_place-requires-clause-rises c = c.requires.coming.1.comes.rises

pub mail_place-requires-clause-among : goal.mail_place-requires-clause-among
mail_place-requires-clause-among c =
    let none : MailRef = record { row = 0; index = 0 } in
    let e : c.as_slice-mail-items.result.now ≡ (row_of c.args.log.now c.args.number).mail = c.as_slice-mail-items.ensures ∙ ap (λ r. r.mail) c.row_at.ensures in
    mail_on c.args.log.now c.requires.coming.0 c.requires.valid c.args.rows.now c.args.mails.now c.args.number _ c.requires.coming.1 c.requires.on (subst (λ xs. Mem (get_or c.as_slice-mail-items.result.now c.loop-mail.mail-index none) xs) e (place_mem c.as_slice-mail-items.result.now c.loop-mail.mail-index none c.loop-mail-test.true))
