use Rattle.std.proofs.Common.{map, string_bytes, refl}
use Rattle.bs_top.specs.Seen.{said_of}
use Rattle.bs_top.specs.declared.reply.Reply.{Reply}
use Rattle.bs_top.specs.Words.{asked_by}
use Rattle.bs_top.proofs.Stages.{each}
use Rattle.bs_top.proofs.Causing.{no_file, read_fault, refused_cause, told_cause}
use Rattle.bs_top.proofs.Counting.{never_fall, only_read, refuses_count, tells_count}
use Rattle.bs_top.proofs.Told.{said_reply, said_refusal, said_nothing}
use Rattle.bs_top.proofs.perform.perform_alone.Goals as goal

pub returns-in-Ok-clause-cause : goal.returns-in-Ok-clause-cause
returns-in-Ok-clause-cause g c =
    let said = said_of c.in-Ok.reply in
    told_cause (asked_by (map string_bytes c.args.words.now)) (g.D.Desk.world c.args.desk.now) (g.D.Desk.world c.reply.new.desk)
    (g.D.Desk.world c.tell.new.desk) c.in-Ok.ensures.reading c.in-Ok.reply c.in-Ok.ensures.cause said.ending said.note said.target said.text
    c.tell.result c.written_status.result c.status_of.result c.tell.ensures c.status_of.ensures c.written_status.ensures

pub returns-in-Err-Refused-clause-cause : goal.returns-in-Err-Refused-clause-cause
returns-in-Err-Refused-clause-cause g c =
    refused_cause (asked_by (map string_bytes c.args.words.now)) (g.D.Desk.world c.args.desk.now) (g.D.Desk.world c.reply.new.desk)
    (g.D.Desk.world c.refuse.new.desk) c.in-Err-Refused.ensures.reading Reply c.in-Err-Refused.fault c.refuse.result
    (rw c.in-Err-Refused.field-0-is at c.in-Err-Refused.ensures.cause) c.refuse.ensures

pub returns-in-Err-NoFile-clause-cause : goal.returns-in-Err-NoFile-clause-cause
returns-in-Err-NoFile-clause-cause g c =
    no_file Reply (g.D.Desk.world c.args.desk.now) (g.D.Desk.world c.reply.new.desk) (asked_by (map string_bytes c.args.words.now))
    (rw c.in-Err-NoFile.field-0-is at c.in-Err-NoFile.ensures.cause)

pub returns-in-Err-ReadFault-clause-cause : goal.returns-in-Err-ReadFault-clause-cause
returns-in-Err-ReadFault-clause-cause g c =
    read_fault Reply (g.D.Desk.world c.args.desk.now) (g.D.Desk.world c.reply.new.desk) (asked_by (map string_bytes c.args.words.now))
    (rw c.in-Err-ReadFault.field-0-is at c.in-Err-ReadFault.ensures.cause)

pub returns-in-Ok-clause-told : goal.returns-in-Ok-clause-told
returns-in-Ok-clause-told g c =
    let old = g.D.Desk.world c.args.desk.now in
    let asked = asked_by (map string_bytes c.args.words.now) in
    each old.files old.files _ _ refl (λ files h.
    said_reply files asked old (g.D.Desk.world c.reply.new.desk) (g.D.Desk.world c.tell.new.desk) (said_of c.in-Ok.reply) c.tell.result c.written_status.result c.status_of.result
    c.in-Ok.ensures.reading h c.tell.ensures c.status_of.ensures c.written_status.ensures) c.in-Ok.ensures.told

pub returns-in-Err-Refused-clause-told : goal.returns-in-Err-Refused-clause-told
returns-in-Err-Refused-clause-told g c =
    let old = g.D.Desk.world c.args.desk.now in
    let asked = asked_by (map string_bytes c.args.words.now) in
    each old.files old.files _ _ refl (λ files h.
    said_refusal files asked old (g.D.Desk.world c.reply.new.desk) (g.D.Desk.world c.refuse.new.desk) c.refuse.result c.in-Err-Refused.fault c.in-Err-Refused.ensures.reading h c.refuse.ensures)
    (rw c.in-Err-Refused.field-0-is at c.in-Err-Refused.ensures.told)

pub returns-in-Err-NoFile-clause-told : goal.returns-in-Err-NoFile-clause-told
returns-in-Err-NoFile-clause-told g c =
    let old = g.D.Desk.world c.args.desk.now in
    let asked = asked_by (map string_bytes c.args.words.now) in
    each old.files old.files _ _ refl (λ files h. said_nothing files asked old (g.D.Desk.world c.reply.new.desk) c.in-Err-NoFile.ensures.reading h)
    (rw c.in-Err-NoFile.field-0-is at c.in-Err-NoFile.ensures.told)

pub returns-in-Ok-clause-counts : goal.returns-in-Ok-clause-counts
returns-in-Ok-clause-counts g c =
    let said = said_of c.in-Ok.reply in
    let mid = g.D.Desk.world c.reply.new.desk in
    let new = g.D.Desk.world c.tell.new.desk in
    never_fall (g.D.Desk.world c.args.desk.now) mid new c.in-Ok.ensures.reading c.in-Ok.ensures.later
    (tells_count said.note said.target said.text mid new c.tell.result c.tell.ensures)

pub returns-in-Err-Refused-clause-counts : goal.returns-in-Err-Refused-clause-counts
returns-in-Err-Refused-clause-counts g c =
    let mid = g.D.Desk.world c.reply.new.desk in
    let new = g.D.Desk.world c.refuse.new.desk in
    never_fall (g.D.Desk.world c.args.desk.now) mid new c.in-Err-Refused.ensures.reading c.in-Err-Refused.ensures.later
    (refuses_count c.in-Err-Refused.fault mid new c.refuse.result c.refuse.ensures)

pub returns-in-Err-NoFile-clause-counts : goal.returns-in-Err-NoFile-clause-counts
returns-in-Err-NoFile-clause-counts g c =
    only_read (g.D.Desk.world c.args.desk.now) (g.D.Desk.world c.reply.new.desk) c.in-Err-NoFile.ensures.reading c.in-Err-NoFile.ensures.later

pub returns-in-Err-ReadFault-clause-counts : goal.returns-in-Err-ReadFault-clause-counts
returns-in-Err-ReadFault-clause-counts g c =
    only_read (g.D.Desk.world c.args.desk.now) (g.D.Desk.world c.reply.new.desk) c.in-Err-ReadFault.ensures.reading c.in-Err-ReadFault.ensures.later

pub returns-in-Err-Memory-clause-counts : goal.returns-in-Err-Memory-clause-counts
returns-in-Err-Memory-clause-counts g c =
    only_read (g.D.Desk.world c.args.desk.now) (g.D.Desk.world c.reply.new.desk) c.in-Err-Memory.ensures.reading c.in-Err-Memory.ensures.later
