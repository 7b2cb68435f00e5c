use Rattle.std.proofs.Common.{◌≡◌, ◌≤◌, ◌∙◌, ℕ, false, sym, ap, ap₂, refl, length, arith}
use Rattle.std.specs.List.{list_any}
use Rattle.bs_log.specs.Collected.{log_of}
use Rattle.bs_semantics.specs.Rounds.{round}
use Rattle.bs_semantics.specs.Verdict.{is_too_long, is_clean}
use Rattle.bs_rounds.specs.Posting.{flag}
use Rattle.bs_rounds.proofs.Begun.{kept}
use Rattle.bs_rounds.proofs.Decided.{long_of, twice_from, clean_of, looks, few, names_answer, none_marked, named_as}
use Rattle.bs_rounds.proofs.rounds.decide.Goals as goal

pub returns-in-Err-Long : goal.returns-in-Err-Long
returns-in-Err-Long c =
    let p = c.args.accepted.now.program in
    let n = c.args.chares.now.rounds in
    let new = c.take_round.new.self in
    (is_too_long n c.requires.state.before (long_of p c.args.limit n new.mails.items new.fresh.items new.histories.items c.in-Err-Long.field-0 c.in-Err-Long.field-0-is c.in-Err-Long.ensures.becomes), λ e. absurd (cc))

pub named-requires-clause-few : goal.named-requires-clause-few
named-requires-clause-few c =
    let p = c.args.accepted.now.program in
    let n = c.args.chares.now.rounds in
    let new = c.take_round.new.self in
    let twice = twice_from p c.args.limit n new.mails.items new.fresh.items new.histories.items c.in-Err-Twice.field-0 c.in-Err-Twice.field-0-is c.in-Err-Twice.ensures.becomes in
    rw c.as_slice.ensures.value (few p c.args.limit n new.mails.items new.fresh.items new.histories.items (kept p c.args.accepted.now.is_kept).most twice)

pub returns-in-Err-Twice : goal.returns-in-Err-Twice
returns-in-Err-Twice c =
    let p = c.args.accepted.now.program in
    let n = c.args.chares.now.rounds in
    let new = c.take_round.new.self in
    let twice = twice_from p c.args.limit n new.mails.items new.fresh.items new.histories.items c.in-Err-Twice.field-0 c.in-Err-Twice.field-0-is c.in-Err-Twice.ensures.becomes in
    let names = named_as _ _ c.in_ok-named-in-Err-Twice.field-0 c.as_slice.ensures.value c.in_ok-named-in-Err-Twice.ensures in
    (names_answer p c.args.limit n new.mails.items new.fresh.items new.histories.items c.in_ok-named-in-Err-Twice.field-0 twice names, λ e. absurd (cc))

pub overflow_cast-entries : goal.overflow_cast-entries
overflow_cast-entries c =
    let p = c.args.accepted.now.program in
    let is : length c.as_slice-2.result.now ≡ length p.entries = ap length (c.as_slice-2.ensures ∙ ap (λ p. p.entries) c.program.ensures.value) in
    let small = (kept p c.args.accepted.now.is_kept).entries in
    omega (arith, is, small)

pub collect-requires : goal.collect-requires
collect-requires c =
    let p = c.args.accepted.now.program in
    let n = c.args.chares.now.rounds in
    let new = c.take_round.new.self in
    let none : (k : ℕ) → flag new.fresh.items k ≡ false = none_marked _ refl new.fresh.items (sym (c.contains.ensures.value ∙ ap (list_any _) c.deref.ensures.value) ∙ c.if-contains.false) in
    let keeps = kept p c.args.accepted.now.is_kept in
    rw c.as_slice-3.ensures.value (looks p c.args.limit n new.mails.items new.fresh.items new.histories.items c.requires.limit keeps.least keeps.most c.in-Ok.ensures.becomes none)

pub returns : goal.returns
returns c =
    let p = c.args.accepted.now.program in
    let n = c.args.chares.now.rounds in
    let new = c.take_round.new.self in
    let none : (k : ℕ) → flag new.fresh.items k ≡ false = none_marked _ refl new.fresh.items (sym (c.contains.ensures.value ∙ ap (list_any _) c.deref.ensures.value) ∙ c.if-contains.false) in
    let passed = c.in-Ok.ensures.becomes in
    let is : length c.as_slice-2.result.now ≡ length p.entries = ap length (c.as_slice-2.ensures ∙ ap (λ p. p.entries) c.program.ensures.value) in
    ((round p c.args.limit n, is_clean n (clean_of p c.args.limit n new.mails.items new.fresh.items new.histories.items passed none), c.in_ok-log.ensures ∙ ap₂ log_of (c.as_slice-3.ensures.value ∙ passed.is_round) is), λ e. absurd (cc))
