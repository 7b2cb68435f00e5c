use Rattle.std.proofs.Common.{◌≡◌, ◌∙◌, true, false, refl, sym, ap, subst, drop, ◌+◌, inl, is_some, arith}
use Rattle.std.specs.BTreeMap.{is_at}
use Rattle.std.specs.Map as entry
use Rattle.bs_log.specs.declared.history.Key.{Key}
use Rattle.bs_log.specs.Messages.{key_cmp}
use Rattle.bs_rounds.proofs.Items.{next_item, none_left, false_is}
use Rattle.bs_rounds.proofs.Asked.{has, has_more, Unlisted, without, listed}
use Rattle.bs_model.proofs.asking.are_apart.Goals as goal

pub loop-one-init : goal.loop-one-init
loop-one-init c =
    let none : (k : Key) → has c.new-keys.result k ≡ false = λ k. ap (λ es. is_some (entry.lookup (is_at (key_cmp k)) es)) c.new-keys.ensures.empty in
    record { whole = λ h. h.0; rest = λ h. (h, λ a i. none a.key) }

pub loop-one-preserved : goal.loop-one-preserved
loop-one-preserved c =
    let l = c.loop-one in
    let x = c.one-item.result in
    let rest = drop (l.one-index + 1) c.args.asked.now in
    let next = next_item c.args.asked.now l.one-index x c.loop-one-test.true c.one-item.is in
    let more = has_more l.keys c.insert.new.self x.key c.in-Ok-None.ensures.updates in
    let free : has l.keys x.key ≡ false = ap is_some (sym c.in-Ok-None.ensures.old ∙ c.in-Ok-None.field-0-is) in
    record {
      whole = λ h. l.invariant.whole (subst (Unlisted (has l.keys)) (sym next) (without (has l.keys) (has c.insert.new.self) x rest more free h));
      rest = λ h. listed (has l.keys) (has c.insert.new.self) x rest more (subst (Unlisted (has l.keys)) next (l.invariant.rest h));
    }

pub returns-in-Ok-Some-clause-stopped : goal.returns-in-Ok-Some-clause-stopped
returns-in-Ok-Some-clause-stopped c h =
    let l = c.loop-one in
    let x = c.one-item.result in
    let next = next_item c.args.asked.now l.one-index x c.loop-one-test.true c.one-item.is in
    let kept = subst (Unlisted (has l.keys)) next (l.invariant.rest h) in
    let taken : has l.keys x.key ≡ true = ap is_some (sym c.in-Ok-Some.ensures.old ∙ c.in-Ok-Some.field-0-is) in
    false_is (has l.keys x.key) (kept.1 x (inl refl)) taken

pub returns-clause-apart : goal.returns-clause-apart
returns-clause-apart c =
    let l = c.loop-one in
    let none = none_left c.args.asked.now l.one-index (omega (arith, c.loop-one-test.false)) in
    l.invariant.whole (subst (Unlisted (has l.keys)) (sym none) (tt, λ a i. absurd i))
