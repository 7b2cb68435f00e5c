use Rattle.std.proofs.Common.{◌≡◌, ◌∙◌, sym, ap, subst}
use Rattle.std.specs.Prelude.{Ok, Err, IfOk, IfErr, ◌≢◌, List, Result}
use Rattle.bs_lex.specs.declared.token.Token.{Token}
use Rattle.bs_lex.specs.declared.token.LexFault.{LexFault}
use Rattle.bs_lex.specs.declared.token.LexFault.TheVariants.{NotUtf8, Memory}
use Rattle.bs_lex.proofs.Steps.{lexed-IsUtf8, lexed-not_utf8}
use Rattle.bs_lex.proofs.lexer.tokens.Goals as goal

pub returns-in-Err-clause-err : goal.returns-in-Err-clause-err
returns-in-Err-clause-err c _ =
    lexed-not_utf8 c.args.text.now c.in-Err.ensures.cases.0 ∙ ap (λ place. Err (NotUtf8 place)) (sym (c.valid_up_to.ensures ∙ c.in-Err.ensures.valid_len))

pub returns-clause-ok : goal.returns-clause-ok
returns-clause-ok c =
    let found : Result (List Token) LexFault → Type 0 = λ whole. IfOk c.tokens_of_utf8.result (λ tokens. whole ≡ Ok tokens) in
    subst found (sym (lexed-IsUtf8 c.args.text.now c.in_default.ensures.cases.1)) c.tokens_of_utf8.ensures.ok

pub returns-clause-err : goal.returns-clause-err
returns-clause-err c =
    let refused : Result (List Token) LexFault → Type 0 = λ whole. IfErr c.tokens_of_utf8.result (λ fault. fault ≢ Memory → whole ≡ Err fault) in
    subst refused (sym (lexed-IsUtf8 c.args.text.now c.in_default.ensures.cases.1)) c.tokens_of_utf8.ensures.err
