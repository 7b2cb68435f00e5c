use Rattle.std.proofs.Common.{◌≡◌, true, map, drop, ◌-◌}
use Rattle.bs_check.specs.Known.{are_counted, are_known}
use Rattle.bs_semantics.specs.Acts.{act_of, do_all, times}
use Rattle.bs_block.specs.Env.{MadeFor}
use Rattle.bs_block.specs.Progress.{tally_of}
use Rattle.bs_block.proofs.acts.+acts.Given as goal

abbrev pub invariant-run_acts-loop-act : goal.invariant-run_acts-loop-act
invariant-run_acts-loop-act l = record {
  known : are_known l.accepted.program (drop l.act-index l.acts) ≡ true;
  counted : are_counted l.accepted.program (drop l.act-index l.acts) ≡ true;
  this : l.draft.now.this ≡ l.fn.draft.now.this;
  before : l.draft.before ≡ l.fn.draft.before;
  made : MadeFor l.accepted.program l.draft.now;
  did : do_all (map (act_of l.accepted.program l.draft.now.this) (drop l.act-index l.acts)) (tally_of l.draft.now l.progress) ≡ do_all (map (act_of l.accepted.program l.fn.draft.now.this) l.acts) (tally_of l.fn.draft.now l.fn.progress);
}

abbrev pub invariant-repeat-loop-turn : goal.invariant-repeat-loop-turn
invariant-repeat-loop-turn l = record {
  this : l.draft.now.this ≡ l.fn.draft.now.this;
  before : l.draft.before ≡ l.fn.draft.before;
  made : MadeFor l.accepted.program l.draft.now;
  did : times (l.turns - l._turn) (map (act_of l.accepted.program l.draft.now.this) l.acts) (tally_of l.draft.now l.progress) ≡ times l.turns (map (act_of l.accepted.program l.fn.draft.now.this) l.acts) (tally_of l.fn.draft.now l.fn.progress);
}
