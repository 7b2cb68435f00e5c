use Rattle.std.proofs.Common.{◌≡◌, ◌≤◌, ◌<◌, ◌∙◌, ℕ, false, Err, replicate, sym, ap, length, arith}
use Rattle.std.proofs.lemmas.Result.{err_from_is_err_and}
use Rattle.bs_log.specs.Size.{size_all}
use Rattle.bs_semantics.specs.Rounds.{round}
use Rattle.bs_rounds.specs.Posting.{flag, held}
use Rattle.bs_rounds.proofs.Begun.{kept, shallow, under_is}
use Rattle.bs_rounds.proofs.Becoming.{taken_as, asked_as, posted_as, long_becomes, counted, long_now, targets_now, asked_becomes, posted_becomes, passes, get_same}
use Rattle.bs_rounds.proofs.state.Chares.take_round.Goals as goal

pub take-requires-clause-shallow : goal.take-requires-clause-shallow
take-requires-clause-shallow c =
    let s = c.args.self.now in
    rw c.as_slice.ensures.value (shallow c.args.accepted.now.program c.args.limit c.requires.limit s.rounds s.mails.items s.fresh.items s.histories.items c.requires.state)

pub returns-in_err-self-clause-becomes : goal.returns-in_err-self-clause-becomes
returns-in_err-self-clause-becomes c =
    let s = c.args.self.now in
    let took = taken_as c.args.accepted.now.program c.args.limit _ _ (Err c.in_err-self.field-0.0) c.take.new.histories.items c.as_slice.ensures.value c.in_err-self.ensures in
    let given = err_from_is_err_and c.from_residual.result c.from_residual.ensures.1 in
    rw (given.1, given.2) (long_becomes c.args.accepted.now.program c.args.limit s.rounds s.mails.items s.fresh.items s.histories.items c.requires.state c.requires.limit c.in_err-self.field-0.0 c.take.new.histories.items c.take.new.histories.items s.mails.items s.fresh.items took)

pub returns-then-self-limit-clause-becomes : goal.returns-then-self-limit-clause-becomes
returns-then-self-limit-clause-becomes c =
    let s = c.args.self.now in
    let took = rw c.as_slice.ensures.value at c.in_ok-self.ensures in
    let is : c.take.new.histories.items ≡ round c.args.accepted.now.program c.args.limit s.rounds = took.0 ∙ under_is c.args.accepted.now.program c.args.limit c.requires.limit s.rounds s.mails.items s.fresh.items s.histories.items c.requires.state in
    long_now c.args.accepted.now.program c.args.limit s.rounds s.mails.items s.fresh.items s.histories.items c.requires.state _ is (omega (arith, took.1, c.if-self-limit.true))

pub ask_once-requires : goal.ask_once-requires
ask_once-requires c =
    let s = c.args.self.now in
    let took = rw c.as_slice.ensures.value at c.in_ok-self.ensures in
    let is : c.take.new.histories.items ≡ round c.args.accepted.now.program c.args.limit s.rounds = took.0 ∙ under_is c.args.accepted.now.program c.args.limit c.requires.limit s.rounds s.mails.items s.fresh.items s.histories.items c.requires.state in
    rw (c.as_slice-4.ensures.value, c.as_slice-3.ensures.value) (counted c.args.accepted.now.program c.args.limit s.rounds s.mails.items s.fresh.items s.histories.items c.requires.state _ is)

pub returns-in_err-ask_once-clause-becomes : goal.returns-in_err-ask_once-clause-becomes
returns-in_err-ask_once-clause-becomes c =
    let s = c.args.self.now in
    let took = rw c.as_slice.ensures.value at c.in_ok-self.ensures in
    let is : c.take.new.histories.items ≡ round c.args.accepted.now.program c.args.limit s.rounds = took.0 ∙ under_is c.args.accepted.now.program c.args.limit c.requires.limit s.rounds s.mails.items s.fresh.items s.histories.items c.requires.state in
    let few : size_all c.take.new.histories.items ≤ c.args.limit = omega (arith, took.1, c.if-self-limit.false) in
    let asked = asked_as _ _ _ _ (Err c.in_err-ask_once.field-0.0) c.as_slice-4.ensures.value c.as_slice-3.ensures.value c.in_err-ask_once.ensures in
    let given = err_from_is_err_and c.from_residual-in_err-ask_once.result c.from_residual-in_err-ask_once.ensures.1 in
    rw (given.1, given.2) (asked_becomes c.args.accepted.now.program c.args.limit s.rounds s.mails.items s.fresh.items s.histories.items c.requires.state _ is few c.in_err-ask_once.field-0.0 s.mails.items s.fresh.items asked)

pub post_all-requires-clause-counts : goal.post_all-requires-clause-counts
post_all-requires-clause-counts c =
    let s = c.args.self.now in
    let took = rw c.as_slice.ensures.value at c.in_ok-self.ensures in
    let is : c.take.new.histories.items ≡ round c.args.accepted.now.program c.args.limit s.rounds = took.0 ∙ under_is c.args.accepted.now.program c.args.limit c.requires.limit s.rounds s.mails.items s.fresh.items s.histories.items c.requires.state in
    rw (c.as_slice-6.ensures.value, c.as_slice-5.ensures.value) (counted c.args.accepted.now.program c.args.limit s.rounds s.mails.items s.fresh.items s.histories.items c.requires.state _ is)

pub post_all-requires-clause-targets : goal.post_all-requires-clause-targets
post_all-requires-clause-targets c =
    let s = c.args.self.now in
    let took = rw c.as_slice.ensures.value at c.in_ok-self.ensures in
    let is : c.take.new.histories.items ≡ round c.args.accepted.now.program c.args.limit s.rounds = took.0 ∙ under_is c.args.accepted.now.program c.args.limit c.requires.limit s.rounds s.mails.items s.fresh.items s.histories.items c.requires.state in
    rw (c.as_slice-6.ensures.value, c.as_slice-5.ensures.value) (targets_now c.args.accepted.now.program c.args.limit s.rounds s.mails.items s.fresh.items s.histories.items c.requires.state _ is c.requires.limit (kept c.args.accepted.now.program c.args.accepted.now.is_kept).least)

pub returns-in_err-post_all-clause-becomes : goal.returns-in_err-post_all-clause-becomes
returns-in_err-post_all-clause-becomes c =
    let s = c.args.self.now in
    let took = rw c.as_slice.ensures.value at c.in_ok-self.ensures in
    let is : c.take.new.histories.items ≡ round c.args.accepted.now.program c.args.limit s.rounds = took.0 ∙ under_is c.args.accepted.now.program c.args.limit c.requires.limit s.rounds s.mails.items s.fresh.items s.histories.items c.requires.state in
    let few : size_all c.take.new.histories.items ≤ c.args.limit = omega (arith, took.1, c.if-self-limit.false) in
    let posted = posted_as _ _ _ _ (held s.mails.items) (flag c.in_ok-news.news.items) (Err c.in_err-post_all.field-0.0) (held c.post_all.new.mails.items) (flag c.post_all.new.news.items) c.as_slice-6.ensures.value c.as_slice-5.ensures.value c.in_err-post_all.ensures.posted in
    let given = err_from_is_err_and c.from_residual-in_err-post_all.result c.from_residual-in_err-post_all.ensures.1 in
    rw (given.1, given.2) (posted_becomes c.args.accepted.now.program c.args.limit s.rounds s.mails.items s.fresh.items s.histories.items c.requires.state _ is few c.in_err-post_all.field-0.0 (flag c.in_ok-news.news.items) (held c.post_all.new.mails.items) (flag c.post_all.new.news.items) c.post_all.new.mails.items s.fresh.items posted)

pub returns-clause-becomes : goal.returns-clause-becomes
returns-clause-becomes c =
    let s = c.args.self.now in
    let took = rw c.as_slice.ensures.value at c.in_ok-self.ensures in
    let is : c.take.new.histories.items ≡ round c.args.accepted.now.program c.args.limit s.rounds = took.0 ∙ under_is c.args.accepted.now.program c.args.limit c.requires.limit s.rounds s.mails.items s.fresh.items s.histories.items c.requires.state in
    let few : size_all c.take.new.histories.items ≤ c.args.limit = omega (arith, took.1, c.if-self-limit.false) in
    let asked = rw (c.as_slice-4.ensures.value, c.as_slice-3.ensures.value) at c.in_ok-ask_once.ensures in
    let posted = rw (c.as_slice-6.ensures.value, c.as_slice-5.ensures.value) at c.in_ok-post_all.ensures.posted in
    let blank : c.in_ok-news.news.items ≡ replicate c.len.result false = c.in_ok-news.ensures.items_if_clones_equal (λ y h. h) in
    let count : length c.in_ok-news.news.items ≡ length s.mails.items = omega (arith, c.in_ok-news.ensures.len, c.len.ensures, s.mails.ok.0, c.in_ok-news.news.ok.0) in
    passes c.args.accepted.now.program c.args.limit s.rounds s.mails.items s.fresh.items s.histories.items c.requires.state _ is few asked c.in_ok-news.news.items
    (λ k. ap (λ ms. flag ms k) blank ∙ get_same c.len.result k false) c.post_all.new.mails.items c.post_all.new.news.items posted c.in_ok-post_all.ensures.mails (c.in_ok-post_all.ensures.news ∙ count)
