use Rattle.std.proofs.Common.{◌≡◌, ◌∷◌, [], ◌++◌, drop, arith, sym, ap, ◌∙◌}
use Rattle.std.specs.Prelude.{Ok}
use Rattle.bs_lex.specs.declared.piece.Piece.TheVariants.{Gap, Token as A_Token, BadNumber, BadCharacter}
use Rattle.bs_lex.specs.Lexed.{token_at, tokens_from}
use Rattle.bs_lex.proofs.Spans.{tokens_stand}
use Rattle.bs_lex.proofs.Spelled.{tokens_spelled}
use Rattle.bs_lex.proofs.Steps.{step, after, after_push, ended}
use Rattle.bs_lex.proofs.lexer.tokens_of_utf8.Goals as goal

pub overflow_add-at : goal.overflow_add-at
overflow_add-at c =
    let passed = step c.args.text.now c.loop-at.at (Gap c.in-Gap.length) c.loop-at-test.true c.in-Gap.ensures in
    omega (arith, passed.within.1)

pub loop-at-smaller-in-Gap : goal.loop-at-smaller-in-Gap
loop-at-smaller-in-Gap c =
    let passed = step c.args.text.now c.loop-at.at (Gap c.in-Gap.length) c.loop-at-test.true c.in-Gap.ensures in
    omega (arith, passed.within.0, passed.within.1)

pub loop-at-preserved-in-Gap : goal.loop-at-preserved-in-Gap
loop-at-preserved-in-Gap c =
    let passed = step c.args.text.now c.loop-at.at (Gap c.in-Gap.length) c.loop-at-test.true c.in-Gap.ensures in
    record {
      within = omega (arith, passed.within.1);
      so_far = ap (after c.loop-at.tokens) (sym passed.tokens) ∙ c.loop-at.invariant.so_far;
    }

pub token_at-requires : goal.token_at-requires
token_at-requires c =
    let passed = step c.args.text.now c.loop-at.at (A_Token c.in-Token.kind c.in-Token.length) c.loop-at-test.true c.in-Token.ensures in
    omega (arith, passed.within.1)

pub loop-at-smaller : goal.loop-at-smaller
loop-at-smaller c =
    let passed = step c.args.text.now c.loop-at.at (A_Token c.in-Token.kind c.in-Token.length) c.loop-at-test.true c.in-Token.ensures in
    omega (arith, passed.within.0, passed.within.1)

pub loop-at-preserved : goal.loop-at-preserved
loop-at-preserved c =
    let passed = step c.args.text.now c.loop-at.at (A_Token c.in-Token.kind c.in-Token.length) c.loop-at-test.true c.in-Token.ensures in
    record {
      within = omega (arith, passed.within.1);
      so_far = after_push c.loop-at.tokens c.push.new.self (token_at c.in-Token.kind c.loop-at.at c.in-Token.length) c.token_at.result (tokens_from c.loop-at.at 0 (drop c.loop-at.at c.args.text.now)) _ _
          c.in_ok-push-in-Token.ensures.ok c.token_at.ensures passed.tokens c.loop-at.invariant.so_far;
    }

pub returns-in-BadNumber-clause-err : goal.returns-in-BadNumber-clause-err
returns-in-BadNumber-clause-err c =
    let stopped = step c.args.text.now c.loop-at.at BadNumber c.loop-at-test.true c.in-BadNumber.ensures in
    λ _. sym c.loop-at.invariant.so_far ∙ ap (after c.loop-at.tokens) stopped.tokens

pub returns-in-BadCharacter-clause-err : goal.returns-in-BadCharacter-clause-err
returns-in-BadCharacter-clause-err c =
    let stopped = step c.args.text.now c.loop-at.at BadCharacter c.loop-at-test.true c.in-BadCharacter.ensures in
    λ _. sym c.loop-at.invariant.so_far ∙ ap (after c.loop-at.tokens) stopped.tokens

all_found : (c : goal.In_ok-push) → tokens_from 0 0 c.args.text.now ≡ Ok c.push-2.new.self
all_found c =
    let last = ended c.args.text.now c.loop-at.at c.loop-at-test.false in
    sym c.loop-at.invariant.so_far ∙ ap (after c.loop-at.tokens) last
    ∙ ap Ok (ap (λ t. c.loop-at.tokens ++ t ∷ []) (sym c.token_at-2.ensures) ∙ sym c.in_ok-push.ensures.ok)

pub returns-clause-ok : goal.returns-clause-ok
returns-clause-ok c = all_found c

pub returns-clause-stand : goal.returns-clause-stand
returns-clause-stand c = tokens_stand c.args.text.now c.push-2.new.self (all_found c)

pub returns-clause-spelled : goal.returns-clause-spelled
returns-clause-spelled c = tokens_spelled c.args.text.now c.push-2.new.self (all_found c)
