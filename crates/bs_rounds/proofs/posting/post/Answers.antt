use Rattle.std.proofs.Common.{rules, [], ◌≡◌, Some, None, sym, ap, ◌∙◌, option_copied}
use Rattle.bs_rounds.specs.Posting.{flag, held}
use Rattle.bs_rounds.proofs.Single.{reads, known_one, clash_one, put_one}
use Rattle.std.proofs.lemmas.List.{get_or_default}
use Rattle.bs_match.specs.Mail.{lookup, with_message}
use Rattle.bs_rounds.proofs.Items.{false_is}
use Rattle.bs_rounds.proofs.posting.post.Goals as goal

pub returns-then-same_origin-clause-posted : goal.returns-then-same_origin-clause-posted
returns-then-same_origin-clause-posted c =
    let m = c.args.message.now in
    let mails = c.args.mails.now.items in
    let here = reads mails m.sent.to c.index.result.now m.sent.key c.requires.target c.index.ensures in
    let is : held mails m.sent.to m.sent.key ≡ Some c.in-Some.known.now = sym here ∙ (sym c.get.ensures ∙ ap option_copied c.in-Some.is) in
    known_one (held mails) (flag c.args.news.now.items) m c.in-Some.known.now is (c.same_origin.ensures.0 (search rules))

pub returns-else-same_origin-clause-posted : goal.returns-else-same_origin-clause-posted
returns-else-same_origin-clause-posted c =
    let m = c.args.message.now in
    let mails = c.args.mails.now.items in
    let here = reads mails m.sent.to c.index.result.now m.sent.key c.requires.target c.index.ensures in
    let is : held mails m.sent.to m.sent.key ≡ Some c.in-Some.known.now = sym here ∙ (sym c.get.ensures ∙ ap option_copied c.in-Some.is) in
    clash_one (held mails) m c.in-Some.known.now is (λ e. false_is c.same_origin.result c.if-same_origin.false (c.same_origin.ensures.1 e))

pub returns-in_ok-put-in-None-clause-posted : goal.returns-in_ok-put-in-None-clause-posted
returns-in_ok-put-in-None-clause-posted c =
    let m = c.args.message.now in
    let mails = c.args.mails.now.items in
    let here = reads mails m.sent.to c.index.result.now m.sent.key c.requires.target c.index.ensures in
    let free : held mails m.sent.to m.sent.key ≡ None = sym here ∙ (sym c.get.ensures ∙ ap option_copied c.in-None.is) in
    put_one mails c.args.news.now.items m c.put.new.mail c.requires.marks c.requires.target free
    (c.in_ok-put-in-None.ensures.put ∙ ap (λ ms. with_message m (lookup ms)) (c.index_mut.ensures.value ∙ get_or_default mails m.sent.to c.index_mut.result.now [] c.requires.target))
