use Rattle.bs_top.proofs.laws.some_laws.Goals as goal

pub returns : goal.returns
returns c = record {
  text = c.some_answer.ensures;
  log = c.some_answer-2.ensures;
  verdict = c.verdict.ensures.some;
  serial = c.some_serial.ensures.some;
  clean_run = λ p limit m v is h. (c.verdict_times.ensures.unclean p limit m v is).0 h;
  table = c.uniqueness.ensures.some;
  chain = c.one_chain.ensures.some;
  points = c.one_sweep.ensures.some;
  spans = c.one_sweep.ensures.some_spans;
  tuned_points = c.one_tuning.ensures.some;
  tuned_spans = c.one_tuning.ensures.some_spans;
  settling = c.some_answer-3.ensures.settling;
  noting = c.some_answer-3.ensures.noting;
  moving = c.one_noting.ensures.moving;
  file = c.fitted_machines.ensures.file;
  flat = c.fitted_machines.ensures.flat;
}
