use Rattle.std.proofs.Common.{subst}
use Rattle.std.proofs.lemmas.List.{take_all}
use Rattle.bs_line.specs.Listing.{HasAdded}
use Rattle.bs_line.proofs.Keys.{added_more}
use Rattle.bs_line.proofs.choosing.add_keys.Goals as goal

pub loop-mail-preserved : goal.loop-mail-preserved
loop-mail-preserved c = added_more c.args.mails.now c.loop-mail.mail-index (record { row = 0; index = 0 }) c.args.keys.now.keys c.loop-mail.keys.keys c.insert.new.self.keys c.loop-mail-test.true c.loop-mail.invariant c.in_ok-insert.ensures.keys

pub returns : goal.returns
returns c = subst (λ ms. HasAdded ms c.args.keys.now.keys c.loop-mail.keys.keys) (take_all c.loop-mail.mail-index c.args.mails.now c.loop-mail-test.false) c.loop-mail.invariant
