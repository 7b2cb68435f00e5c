use Rattle.std.proofs.Common.{refl}
use Rattle.bs_check.proofs.Rows.{noted_none, noted_as, then_reads}
use Rattle.bs_check.proofs.Unrolled.{mentions_number, mentions_this, mentions_chares, mentions_at, mentions_two}
use Rattle.bs_check.proofs.uses.+note_expr.Goals as goal

pub returns-in-Number : goal.returns-in-Number
returns-in-Number t c = rw c.in-Number.is (noted_as _ _ _ _ _ _ (noted_none c.args.touches.now) (λ n. mentions_number n _) (λ n. refl))

pub returns-in-This : goal.returns-in-This
returns-in-This t c = rw c.in-This.is (noted_as _ _ _ _ _ _ (noted_none c.args.touches.now) (λ n. mentions_this n) (λ n. refl))

pub returns-in-Chares : goal.returns-in-Chares
returns-in-Chares t c = rw c.in-Chares.is (noted_as _ _ _ _ _ _ (noted_none c.args.touches.now) (λ n. mentions_chares n) (λ n. refl))

pub returns-in-At : goal.returns-in-At
returns-in-At t c =
    let both = then_reads _ _ _ _ _ _ c.read-in-At.ensures (rw c.get.ensures at c.note_expr.ensures) in
    rw c.in-At.is (noted_as _ _ _ _ _ _ both (λ n. mentions_at n _ _) (λ n. refl))

pub returns-in-Two : goal.returns-in-Two
returns-in-Two t c =
    let both = then_reads _ _ _ _ _ _ (rw c.get-in-Two.ensures at c.note_expr-in-Two.ensures) (rw c.get-in-Two-2.ensures at c.note_expr-in-Two-2.ensures) in
    rw c.in-Two.is (noted_as _ _ _ _ _ _ both (λ n. mentions_two n _ _ _) (λ n. refl))
