use Rattle.bs_top.proofs.laws.known.Goals as goal

pub returns : goal.returns
returns c = record {
  program = c.one_program.ensures;
  fault_is = c.one_fault.ensures;
  not_both = c.no_both.ensures;
  verdict = c.verdict.ensures.one;
  serial = c.one_serial.ensures;
  logs = record {
    text = c.one_text.ensures;
    fault = c.one_fault-2.ensures.one;
    none = c.one_fault-2.ensures.none;
    small = c.texts_are_small.ensures;
    timely = c.timely_machines.ensures;
    causal = c.causal_nets.ensures;
    run_causal = c.verdict_times.ensures.causal;
    table = c.uniqueness.ensures.one_of;
    spent = c.one_settling.ensures.spent;
    either = c.one_settling.ensures.either;
    noting = c.one_noting.ensures.one;
    chain = c.one_chain.ensures.one;
    points = c.one_sweep.ensures.one;
    spans = c.one_sweep.ensures.one_spans;
    tuned_points = c.one_tuning.ensures.one;
    tuned_spans = c.one_tuning.ensures.one_spans;
    outcome = c.one_outcome.ensures;
  };
}
