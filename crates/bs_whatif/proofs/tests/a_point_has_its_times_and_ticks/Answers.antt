use Rattle.bs_whatif.proofs.tests.a_point_has_its_times_and_ticks.Goals as goal

pub resettle-requires-clause-before : goal.resettle-requires-clause-before
resettle-requires-clause-before g c = c.in_ok-zero.ensures.early c.in_ok-machine.machine
