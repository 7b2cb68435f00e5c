use Rattle.std.proofs.Common.{◌≡◌, ◌∷◌, [], ◌++◌, ◌∙◌, ap, map, take, arith}
use Rattle.bs_log.specs.Size.{size, size_all}
use Rattle.bs_emul.proofs.Chares.{history_of}
use Rattle.bs_emul.proofs.Told.{next_told, next_size, too_long}
use Rattle.bs_emul.proofs.collected.histories.Goals as goal

pub returns-then-together-limit-clause-stopped : goal.returns-then-together-limit-clause-stopped
returns-then-together-limit-clause-stopped c =
    let l = c.loop-chare in
    let x = c.chare-item.result in
    let same = ap size c.in_ok-history.ensures in
    let before : l.together ≡ size_all (take l.chare-index (map history_of c.args.chares.now)) = l.invariant.together ∙ ap size_all l.invariant.so_far in
    too_long c.args.chares.now l.chare-index x c.loop-chare-test.true c.chare-item.is c.args.limit (omega (arith, c.if-together-limit.true, c.size-together.ensures, same, before))

pub loop-chare-preserved : goal.loop-chare-preserved
loop-chare-preserved c =
    let l = c.loop-chare in
    let x = c.chare-item.result in
    let same = ap size c.in_ok-history.ensures in
    let before : l.together ≡ size_all (take l.chare-index (map history_of c.args.chares.now)) = l.invariant.together ∙ ap size_all l.invariant.so_far in
    let grown = c.in_ok-push.ensures ∙ (ap (λ hs. hs ++ c.in_ok-history.history ∷ []) l.invariant.so_far ∙ ap (λ h. take l.chare-index (map history_of c.args.chares.now) ++ h ∷ []) c.in_ok-history.ensures) in
    let sizes = ap size_all grown ∙ next_size c.args.chares.now l.chare-index x c.loop-chare-test.true c.chare-item.is in
    record {
      so_far = grown ∙ next_told c.args.chares.now l.chare-index x c.loop-chare-test.true c.chare-item.is;
      together = omega (arith, c.size-together.ensures, same, before, sizes, x.is_small, x.limit_in_range.1);
      small = omega (arith, c.if-together-limit.false);
    }
