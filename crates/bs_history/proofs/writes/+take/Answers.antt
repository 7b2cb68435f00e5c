use Rattle.std.proofs.Common.{◌∙◌, ◌||◌, List, refl, ap, sym, map}
use Rattle.bs_tree.specs.declared.tree.Stmt.{Stmt}
use Rattle.std.proofs.lemmas.Bool.{and_parts}
use Rattle.bs_tree.specs.declared.tree.Stmt.TheVariants as v
use Rattle.bs_check.specs.Known.{is_known, is_scalar}
use Rattle.bs_semantics.specs.Layout.{owns}
use Rattle.bs_semantics.specs.Run.{any_part, waits_own}
use Rattle.bs_check.specs.Fits.{is_fit}
use Rattle.bs_block.proofs.Items.{each_left}
use Rattle.bs_history.proofs.Turns.{next_item}
use Rattle.bs_history.specs.Ground.{means, program_of}
use Rattle.bs_history.proofs.Meanings.{for_fits, for_begun, for_stepped}
use Rattle.bs_history.proofs.Takings.{left_next, left_done, takes_as, takes_both, when_writes, for_writes, if_writes}
use Rattle.bs_history.proofs.writes.+take.Goals as goal

pub take_list-returns-clause-taken : goal.take_list-returns-clause-taken
take_list-returns-clause-taken t c =
    let g = c.args.ground.now in
    left_done (λ s. (means g s).writes) (λ xs. any_part (map (means g) xs)) refl (λ x xs. refl) c.args.part.now c.args.env.now c.args.body.now c.loop-stmt.stmt-index c.loop-stmt.env c.loop-stmt-test.false c.loop-stmt.invariant.this c.loop-stmt.invariant.left

pub take_list-loop-stmt-preserved : goal.take_list-loop-stmt-preserved
take_list-loop-stmt-preserved t c =
    let g = c.args.ground.now in
    let xs = c.args.body.now in
    let i = c.loop-stmt.stmt-index in
    let x = c.stmt-item.result in
    let inv = c.loop-stmt.invariant in
    let d = next_item xs i x c.loop-stmt-test.true c.stmt-item.is in
    let done = c.take_written.ensures in
    record {
      fits = (each_left (is_fit (program_of g)) xs i x d inv.fits).1;
      this = done.taken.this ∙ inv.this;
      made = done.made;
      left = left_next (λ s. (means g s).writes) (λ xs. any_part (map (means g) xs)) refl (λ x xs. refl) c.args.part.now c.args.env.now xs i x c.loop-stmt.env c.take_written.new.env d done.taken inv.left;
    }

pub take_written-take_scalar-requires-clause-scalar : goal.take_written-take_scalar-requires-clause-scalar
take_written-take_scalar-requires-clause-scalar t c =
    let p = program_of c.args.ground.now in
    let f = for_fits p c.args.stmt.now c.in-For.first c.in-For.field-1 c.in-For.field-2 c.in-For.next c.in-For.field-4 c.in-For.body c.in-For.is c.requires.fits in
    (and_parts (is_scalar p c.in-For.first) (is_known p c.in-For.field-1) (for_begun p c.in-For.first c.in-For.field-1 c.in-For.field-2 c.in-For.next c.in-For.field-4 f.0)).0

pub take_written-take_scalar-requires-in-For-clause-scalar : goal.take_written-take_scalar-requires-in-For-clause-scalar
take_written-take_scalar-requires-in-For-clause-scalar t c =
    let p = program_of c.args.ground.now in
    let f = for_fits p c.args.stmt.now c.in-For.first c.in-For.field-1 c.in-For.field-2 c.in-For.next c.in-For.field-4 c.in-For.body c.in-For.is c.requires.fits in
    (and_parts (is_scalar p c.in-For.next) (is_known p c.in-For.field-4) (for_stepped p c.in-For.first c.in-For.field-1 c.in-For.field-2 c.in-For.next c.in-For.field-4 f.0)).0

pub take_written-returns-in-When-clause-taken : goal.take_written-returns-in-When-clause-taken
take_written-returns-in-When-clause-taken t c =
    let g = c.args.ground.now in
    let p = program_of g in
    let any = λ (xs : List Stmt). any_part (map (means g) xs) in
    let part = c.args.part.now in
    let old = c.args.env.now in
    let mid = c.take_waits.new.env in
    let new = c.take_list.new.env in
    let first = takes_as (waits_own p c.as_slice-in-When.result.now) (waits_own p c.in-When.waits) part old mid (sym (ap (waits_own p) c.as_slice-in-When.ensures)) c.take_waits.ensures.taken in
    let second = takes_as (any c.as_slice-in-When-2.result.now) (any c.in-When.body) part mid new (sym (ap any c.as_slice-in-When-2.ensures)) c.take_list.ensures.taken in
    takes_as (λ i. waits_own p c.in-When.waits i || any c.in-When.body i) (means g c.args.stmt.now).writes part old new (when_writes g c.args.stmt.now c.in-When.waits c.in-When.body c.in-When.is)
    (takes_both (waits_own p c.in-When.waits) (any c.in-When.body) part old mid new first second)

pub take_written-returns-in-For-clause-taken : goal.take_written-returns-in-For-clause-taken
take_written-returns-in-For-clause-taken t c =
    let g = c.args.ground.now in
    let p = program_of g in
    let any = λ (xs : List Stmt). any_part (map (means g) xs) in
    let part = c.args.part.now in
    let old = c.args.env.now in
    let one = c.take_scalar.new.env in
    let two = c.take_scalar-in-For.new.env in
    let new = c.take_list-in-For.new.env in
    let x = c.in-For.first in
    let y = c.in-For.next in
    let set = takes_both (owns p x) (owns p y) part old one two c.take_scalar.ensures.taken c.take_scalar-in-For.ensures.taken in
    let rest = takes_as (any c.as_slice-in-For.result.now) (any c.in-For.body) part two new (sym (ap any c.as_slice-in-For.ensures)) c.take_list-in-For.ensures.taken in
    takes_as (λ i. owns p x i || owns p y i || any c.in-For.body i) (means g c.args.stmt.now).writes part old new (for_writes g c.args.stmt.now x c.in-For.field-1 c.in-For.field-2 y c.in-For.field-4 c.in-For.body c.in-For.is)
    (takes_both (λ i. owns p x i || owns p y i) (any c.in-For.body) part old two new set rest)

pub take_written-returns-in-Some-clause-taken : goal.take_written-returns-in-Some-clause-taken
take_written-returns-in-Some-clause-taken t c =
    let g = c.args.ground.now in
    let any = λ (xs : List Stmt). any_part (map (means g) xs) in
    let e = c.in-If.is ∙ ap (v.If c.in-If.field-0 c.in-If.body) c.in-Some.is in
    let part = c.args.part.now in
    let old = c.args.env.now in
    let mid = c.take_list-in-If.new.env in
    let new = c.take_list-in-Some.new.env in
    let first = takes_as (any c.as_slice-in-If.result.now) (any c.in-If.body) part old mid (sym (ap any c.as_slice-in-If.ensures)) c.take_list-in-If.ensures.taken in
    let second = takes_as (any c.as_slice-in-Some.result.now) (any c.in-Some.other) part mid new (sym (ap any c.as_slice-in-Some.ensures)) c.take_list-in-Some.ensures.taken in
    takes_as (λ i. any c.in-If.body i || any c.in-Some.other i) (means g c.args.stmt.now).writes part old new (if_writes g c.args.stmt.now c.in-If.field-0 c.in-If.body c.in-Some.other e)
    (takes_both (any c.in-If.body) (any c.in-Some.other) part old mid new first second)
