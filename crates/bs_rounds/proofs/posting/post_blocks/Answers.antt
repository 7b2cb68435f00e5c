use Rattle.std.proofs.Common.{◌≡◌, [], ◌∙◌, sym, ap, subst, drop, ◌+◌, length, arith}
use Rattle.std.proofs.lemmas.Result.{err_from_is_err_and}
use Rattle.bs_log.specs.Messages.{sends_of, AreFor}
use Rattle.bs_rounds.specs.Posting.{flag, held}
use Rattle.bs_rounds.proofs.Items.{next_block, none_left}
use Rattle.bs_rounds.proofs.Posts.{follows_on, follows_to, follows_end, first_for, rest_for, same_for}
use Rattle.bs_rounds.proofs.posting.post_blocks.Goals as goal

pub post_messages-requires-clause-targets : goal.post_messages-requires-clause-targets
post_messages-requires-clause-targets c =
    let l = c.loop-block in
    let next = next_block c.args.blocks.now l.block-index c.block-item.result c.as_slice.result.now c.loop-block-test.true c.block-item.is c.as_slice.ensures in
    first_for (length l.mails.items) _ c.as_slice.result.now _ next l.invariant.targets

pub returns-in_err-post_messages-clause-posted : goal.returns-in_err-post_messages-clause-posted
returns-in_err-post_messages-clause-posted c =
    let l = c.loop-block in
    let next = next_block c.args.blocks.now l.block-index c.block-item.result c.as_slice.result.now c.loop-block-test.true c.block-item.is c.as_slice.ensures in
    let broken = follows_to (sends_of c.args.blocks.now) _ _ _ c.as_slice.result.now _ (held l.mails.items) (flag l.news.items) next l.invariant.posted c.in_err-post_messages.field-0.0 _ _ c.in_err-post_messages.ensures.posted in
    let given = err_from_is_err_and c.from_residual.result c.from_residual.ensures.1 in
    rw (given.1, given.2) broken

pub loop-block-preserved : goal.loop-block-preserved
loop-block-preserved c =
    let l = c.loop-block in
    let next = next_block c.args.blocks.now l.block-index c.block-item.result c.as_slice.result.now c.loop-block-test.true c.block-item.is c.as_slice.ensures in
    let rest = sends_of (drop (l.block-index + 1) c.args.blocks.now) in
    let done = c.in_ok-post_messages.ensures in
    record {
      mails = done.mails ∙ l.invariant.mails;
      news = done.news ∙ l.invariant.news;
      targets = same_for _ _ rest done.mails (rest_for (length l.mails.items) _ c.as_slice.result.now rest next l.invariant.targets);
      posted = follows_on (sends_of c.args.blocks.now) _ _ _ c.as_slice.result.now rest (held l.mails.items) (flag l.news.items) next l.invariant.posted _ _ done.posted;
    }

pub returns-clause-posted : goal.returns-clause-posted
returns-clause-posted c =
    let l = c.loop-block in
    let none = ap sends_of (none_left c.args.blocks.now l.block-index (omega (arith, c.loop-block-test.false))) in
    follows_end (sends_of c.args.blocks.now) _ _ _ (held l.mails.items) (flag l.news.items) none l.invariant.posted
