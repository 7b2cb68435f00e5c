use Rattle.std.proofs.Common.{◌≡◌, ◌<◌, ◌≤◌, [], ◌∙◌, sym, ap, subst, drop, ◌+◌, length, arith}
use Rattle.std.proofs.lemmas.Result.{err_from_is_err_and}
use Rattle.bs_log.specs.Messages.{sends_of, AreFor}
use Rattle.bs_rounds.specs.Posting.{flag, held, sent_by}
use Rattle.bs_rounds.proofs.Items.{next_marked, next_unmarked, none_left}
use Rattle.bs_rounds.proofs.Posts.{follows_on, follows_to, follows_end, first_for, rest_for, same_for}
use Rattle.bs_rounds.proofs.posting.post_all.Goals.{then-fresh-chare+in_ok-post_blocks, else-fresh-chare}
use Rattle.bs_rounds.proofs.posting.post_all.Goals as goal

pub post_blocks-requires-clause-targets : goal.post_blocks-requires-clause-targets
post_blocks-requires-clause-targets c =
    let l = c.loop-chare in
    let within : l.chare < length c.args.fresh.now = omega (arith, c.requires.counts, c.loop-chare-test.true) in
    let next = next_marked c.args.fresh.now c.args.histories.now l.chare c.index-histories-chare.result c.as_slice.result.now within c.loop-chare-test.true c.index-histories-chare.is c.if-fresh-chare.true c.as_slice.ensures in
    first_for (length l.mails.items) _ (sends_of c.as_slice.result.now) _ next l.invariant.targets

pub returns-in_err-post_blocks-clause-posted : goal.returns-in_err-post_blocks-clause-posted
returns-in_err-post_blocks-clause-posted c =
    let l = c.loop-chare in
    let within : l.chare < length c.args.fresh.now = omega (arith, c.requires.counts, c.loop-chare-test.true) in
    let next = next_marked c.args.fresh.now c.args.histories.now l.chare c.index-histories-chare.result c.as_slice.result.now within c.loop-chare-test.true c.index-histories-chare.is c.if-fresh-chare.true c.as_slice.ensures in
    let broken = follows_to (sent_by c.args.fresh.now c.args.histories.now) _ _ _ (sends_of c.as_slice.result.now) _ (held l.mails.items) (flag l.news.items) next l.invariant.posted c.in_err-post_blocks.field-0.0 _ _ c.in_err-post_blocks.ensures.posted in
    let given = err_from_is_err_and c.from_residual.result c.from_residual.ensures.1 in
    rw (given.1, given.2) broken

pub loop-chare-preserved : goal.loop-chare-preserved
loop-chare-preserved c =
    let l = c.loop-chare in
    let all = sent_by c.args.fresh.now c.args.histories.now in
    let rest = sent_by (drop (l.chare + 1) c.args.fresh.now) (drop (l.chare + 1) c.args.histories.now) in
    let within : l.chare < length c.args.fresh.now = omega (arith, c.requires.counts, c.loop-chare-test.true) in
    elim c.if-fresh-chare.branch [
      | then-fresh-chare+in_ok-post_blocks w ↦
          let ms = sends_of w.as_slice.result.now in
          let next = next_marked c.args.fresh.now c.args.histories.now l.chare c.index-histories-chare.result w.as_slice.result.now within c.loop-chare-test.true c.index-histories-chare.is w.if-fresh-chare.true w.as_slice.ensures in
          let done = w.in_ok-post_blocks.ensures in
          rw (w.mails-is, w.news-is) (record {
            mails = done.mails ∙ l.invariant.mails;
            news = done.news ∙ l.invariant.news;
            targets = same_for _ _ rest done.mails (rest_for (length l.mails.items) _ ms rest next l.invariant.targets);
            posted = follows_on all _ _ _ ms rest (held l.mails.items) (flag l.news.items) next l.invariant.posted _ _ done.posted;
          })
      | else-fresh-chare w ↦
          let next = next_unmarked c.args.fresh.now c.args.histories.now l.chare c.index-histories-chare.result within c.loop-chare-test.true c.index-histories-chare.is w.if-fresh-chare.false in
          rw (w.mails-is, w.news-is) (record {
            mails = l.invariant.mails;
            news = l.invariant.news;
            targets = λ m i. l.invariant.targets m (rw next i);
            posted = λ r after new p. l.invariant.posted r after new (rw next p);
          })
    ]

pub returns-clause-posted : goal.returns-clause-posted
returns-clause-posted c =
    let l = c.loop-chare in
    let end : length c.args.fresh.now ≤ l.chare = omega (arith, c.requires.counts, c.loop-chare-test.false) in
    let none = ap (λ ms. sent_by ms (drop l.chare c.args.histories.now)) (none_left c.args.fresh.now l.chare end) in
    follows_end (sent_by c.args.fresh.now c.args.histories.now) _ _ _ (held l.mails.items) (flag l.news.items) none l.invariant.posted
