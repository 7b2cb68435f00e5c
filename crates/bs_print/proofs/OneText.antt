-- A canonical text is that of one program.
use Rattle.std.proofs.Common.{sym, subst}
use Rattle.bs_parse.specs.Text.{Spells}
use Rattle.bs_parse.proofs.OneText as text
use Rattle.bs_print.specs.Canonical.{text_of}
use Rattle.bs_print.specs.Law.{OneCanonicalText}
use Rattle.bs_print.proofs.Law.{printed_read}

pub one_text : OneCanonicalText
one_text p q a b same = text.one (text_of p) p q (printed_read a.0 p a.1) (subst (λ text. Spells text q) (sym same) (printed_read b.0 q b.1))
