use Rattle.bs_parse.proofs.Counted.{few_in_text, known_in_text, used_in_text}
use Rattle.bs_parse.proofs.laws.spelled_programs.Goals as goal

pub returns : goal.returns
returns c = record { statements = few_in_text; known = known_in_text; used = used_in_text }
