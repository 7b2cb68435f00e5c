use Rattle.bs_lex.proofs.WrittenLemmas.{written_is_read}
use Rattle.bs_lex.proofs.laws.written_symbols_are_read.Goals as goal

pub returns : goal.returns
returns c = written_is_read
