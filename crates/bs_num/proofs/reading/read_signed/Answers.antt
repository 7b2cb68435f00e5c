use Rattle.std.proofs.Common.{rules, ◌≡◌, ◌∙◌, ap, arith, sym, subst}
use Rattle.std.specs.Prelude.{IfOk}
use Rattle.std.specs.Fmt.{signed_decimal}
use Rattle.std.proofs.lemmas.Grind.{common_steps}
use Rattle.bs_num.specs.Decimal.{signed_in}
use Rattle.bs_num.proofs.RoundTrip.{signed_printed, signed_read}
use Rattle.bs_num.proofs.reading.read_signed.Goals as goal

pub returns-in-45-clause-printed : goal.returns-in-45-clause-printed
returns-in-45-clause-printed c =
    let value : c.read_below_zero.result ≡ signed_in c.args.text.now = grind (arith, common_steps) in
    subst (λ read. IfOk read (λ n. signed_decimal n ≡ c.args.text.now)) (sym value) (signed_printed c.args.text.now)

pub returns-in-45-clause-read : goal.returns-in-45-clause-read
returns-in-45-clause-read c n fits is =
    let value : c.read_below_zero.result ≡ signed_in c.args.text.now = grind (arith, common_steps) in
    value ∙ ap signed_in is ∙ signed_read n fits

pub returns-in_default-clause-printed : goal.returns-in_default-clause-printed
returns-in_default-clause-printed c =
    let value : c.read_from_zero.result ≡ signed_in c.args.text.now = search rules in
    subst (λ read. IfOk read (λ n. signed_decimal n ≡ c.args.text.now)) (sym value) (signed_printed c.args.text.now)

pub returns-in_default-clause-read : goal.returns-in_default-clause-read
returns-in_default-clause-read c n fits is =
    let value : c.read_from_zero.result ≡ signed_in c.args.text.now = search rules in
    value ∙ ap signed_in is ∙ signed_read n fits
