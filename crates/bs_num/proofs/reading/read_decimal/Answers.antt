use Rattle.std.proofs.Common.{rules, ◌≡◌, ◌∙◌, ap, arith, sym, subst}
use Rattle.std.specs.Prelude.{IfOk, Err}
use Rattle.std.specs.Fmt.{decimal}
use Rattle.bs_num.specs.Decimal.{number_in}
use Rattle.bs_num.specs.declared.fault.NumFault.TheVariants.{NotANumber}
use Rattle.bs_num.proofs.RoundTrip.{number_printed, number_read}
use Rattle.bs_num.proofs.reading.read_decimal.Goals as goal

pub returns-then-not-is_plain_text-clause-read : goal.returns-then-not-is_plain_text-clause-read
returns-then-not-is_plain_text-clause-read c n within is =
    let value : Err NotANumber ≡ number_in c.args.most c.args.text.now = search rules in
    value ∙ ap (number_in c.args.most) is ∙ number_read c.args.most n (omega arith) within

pub returns-clause-printed : goal.returns-clause-printed
returns-clause-printed c =
    let value : c.value_up_to.result ≡ number_in c.args.most c.args.text.now = search rules in
    subst (λ read. IfOk read (λ n. decimal n ≡ c.args.text.now)) (sym value) (number_printed c.args.most c.args.text.now (omega arith))

pub returns-clause-read : goal.returns-clause-read
returns-clause-read c n within is =
    let value : c.value_up_to.result ≡ number_in c.args.most c.args.text.now = search rules in
    value ∙ ap (number_in c.args.most) is ∙ number_read c.args.most n (omega arith) within
