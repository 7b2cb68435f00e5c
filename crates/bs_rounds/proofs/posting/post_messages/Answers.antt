use Rattle.std.proofs.Common.{◌≡◌, ◌∷◌, [], ◌∙◌, inl, refl, sym, subst, drop, ◌+◌, length, arith}
use Rattle.bs_log.specs.Lists.{Mem}
use Rattle.bs_log.specs.Messages.{AreFor}
use Rattle.bs_rounds.specs.Posting.{flag, held}
use Rattle.bs_rounds.proofs.Items.{next_item, none_left}
use Rattle.bs_rounds.proofs.Posts.{follows_on, follows_to, follows_end, first_for, rest_for, same_for}
use Rattle.bs_rounds.proofs.posting.post_messages.Goals as goal

pub post-requires-clause-target : goal.post-requires-clause-target
post-requires-clause-target c =
    let x = c.message-item.result in
    let l = c.loop-message in
    let next = next_item c.args.messages.now l.message-index x c.loop-message-test.true c.message-item.is in
    l.invariant.targets x (subst (Mem x) (sym next) (inl refl))

pub loop-message-preserved : goal.loop-message-preserved
loop-message-preserved c =
    let x = c.message-item.result in
    let l = c.loop-message in
    let next = next_item c.args.messages.now l.message-index x c.loop-message-test.true c.message-item.is in
    let rest = drop (l.message-index + 1) c.args.messages.now in
    let done = c.in_ok-post.ensures in
    record {
      mails = done.mails ∙ l.invariant.mails;
      news = done.news ∙ l.invariant.news;
      targets = same_for _ _ rest done.mails (rest_for (length l.mails.items) _ (x ∷ []) rest next l.invariant.targets);
      posted = follows_on c.args.messages.now _ _ _ (x ∷ []) rest (held l.mails.items) (flag l.news.items) next l.invariant.posted _ _ done.posted;
    }

pub returns-clause-posted : goal.returns-clause-posted
returns-clause-posted c =
    let l = c.loop-message in
    let none = none_left c.args.messages.now l.message-index (omega (arith, c.loop-message-test.false)) in
    follows_end c.args.messages.now _ _ _ (held l.mails.items) (flag l.news.items) none l.invariant.posted
