use Rattle.std.proofs.Common.{◌≡◌, ◌<◌, ◌≤◌, ◌∙◌, [], sym, ap, length, refl, arith}
use Rattle.std.proofs.lemmas.List.{get_or_default}
use Rattle.bs_match.specs.Mail.{lookup}
use Rattle.bs_semantics.specs.Run.{history}
use Rattle.bs_rounds.specs.Posting.{held}
use Rattle.bs_rounds.proofs.Taken.{all_taken}
use Rattle.bs_rounds.proofs.taking.take.Goals as goal

pub take_one-requires-clause-shallow : goal.take_one-requires-clause-shallow
take_one-requires-clause-shallow c k m e =
    let l = c.loop-chare in
    let mails = c.args.mails.now in
    let within : l.chare < length mails = omega (arith, c.requires.mails, c.loop-chare-test.true, c.chares-chare-end.ensures) in
    let same = c.index-mails-place.is ∙ get_or_default mails l.chare c.index-mails-place.result [] within in
    c.requires.shallow l.chare k m (ap (λ ms. lookup ms k) (sym same) ∙ e)

pub returns : goal.returns
returns c =
    let l = c.loop-chare in
    let p = c.args.accepted.now.program in
    let end : p.chares ≤ l.chare = omega (arith, c.loop-chare-test.false, c.chares-chare-end.ensures) in
    (all_taken (λ c'. history p c.args.limit c' (held c.args.mails.now c')) p.chares c.args.fresh.now l.histories.items l.chare end l.invariant.count l.invariant.taken, l.invariant.together)
