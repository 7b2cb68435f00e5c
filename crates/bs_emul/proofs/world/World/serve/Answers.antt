use Rattle.std.proofs.Common.{◌∷◌, refl, sym, subst, length, arith}
use Rattle.std.proofs.lemmas.Option.{slice_get_read}
use Rattle.std.proofs.lemmas.Result.{err_from_is_err_and}
use Rattle.bs_emul.specs.Reached.{IsReached}
use Rattle.bs_emul.specs.Stop.{stop_of}
use Rattle.bs_emul.proofs.Steps.{deep_never, in_range, its, refuses, chares_after, reached_after, stopped_if}
use Rattle.bs_emul.proofs.world.World.serve.Goals as goal

pub returns-then-from-limit : goal.returns-then-from-limit
returns-then-from-limit c p ms w =
    let r = subst (IsReached p c.args.limit ms) c.in-Some.ensures.items w.reached in
    deep_never p c.args.limit ms c.in-Some.message c.pop_front.new.self.items c.args.self.now.chares.items w.chares r (omega (arith, c.if-from-limit.true, c.from.ensures))

pub index_mut-requires : goal.index_mut-requires
index_mut-requires c =
    let ms = c.requires.world.1 in
    let p = c.requires.world.0 in
    let w = c.requires.world.2 in
    let r = subst (IsReached p c.args.limit ms) c.in-Some.ensures.items w.reached in
    let l = in_range p c.args.limit ms c.in-Some.message c.pop_front.new.self.items c.args.self.now.chares.items w.chares r in
    omega (arith, l, c.args.self.now.chares.ok.0)

pub accept-requires : goal.accept-requires
accept-requires c =
    let ms = c.requires.world.1 in
    let p = c.requires.world.0 in
    let w = c.requires.world.2 in
    let m = c.in-Some.message in
    let xs = c.args.self.now.chares.items in
    let r = subst (IsReached p c.args.limit ms) c.in-Some.ensures.items w.reached in
    let at = slice_get_read xs (length xs) m.sent.to c.index_mut.result.now refl (in_range p c.args.limit ms m c.pop_front.new.self.items xs w.chares r) c.index_mut.ensures.value in
    record { proper = record { to = sym (its p c.args.limit ms m c.pop_front.new.self.items xs w.chares r c.index_mut.result.now at).number; depth = omega (arith, c.if-from-limit.false, c.from.ensures, c.requires.limit.1) } }

pub returns-in_err-news : goal.returns-in_err-news
returns-in_err-news c p ms w =
    let m = c.in-Some.message in
    let xs = c.args.self.now.chares.items in
    let r = subst (IsReached p c.args.limit ms) c.in-Some.ensures.items w.reached in
    let at = slice_get_read xs (length xs) m.sent.to c.index_mut.result.now refl (in_range p c.args.limit ms m c.pop_front.new.self.items xs w.chares r) c.index_mut.ensures.value in
    let fault = c.in_err-news.field-0.0 in
    let given = err_from_is_err_and c.from_residual.result c.from_residual.ensures.1 in
    rw (given.1, given.2) (stopped_if p c.args.limit (stop_of fault) (λ e. refuses p c.args.limit ms m c.pop_front.new.self.items xs w.chares r c.index_mut.result.now at fault e c.in_err-news.ensures.fault))

pub returns : goal.returns
returns c p ms w =
    let m = c.in-Some.message in
    let queue = c.pop_front.new.self.items in
    let xs = c.args.self.now.chares.items in
    let x = c.index_mut.result.now in
    let r = subst (IsReached p c.args.limit ms) c.in-Some.ensures.items w.reached in
    let at = slice_get_read xs (length xs) m.sent.to x refl (in_range p c.args.limit ms m queue xs w.chares r) c.index_mut.ensures.value in
    let did = c.in_ok-news.ensures in (
      m,
      record {
        chares = chares_after p c.args.limit ms m queue xs w.chares r x at c.accept.new.self did.free did.held did.begun did.same;
        reached = subst (IsReached p c.args.limit (m ∷ ms)) (sym c.in_ok-append.ensures) (reached_after p c.args.limit ms m queue xs w.chares r x at c.accept.new.self did.free did.held did.begun did.same c.in_ok-news.news did.news);
      },
    )
