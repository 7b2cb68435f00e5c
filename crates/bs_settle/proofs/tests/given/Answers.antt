use Rattle.std.proofs.Common.{length, ap, arith}
use Rattle.bs_times.specs.Machine.{machine_of}
use Rattle.bs_settle.proofs.tests.given.Goals as goal

pub returns : goal.returns
returns c machine = record {
  each = record {
    mails = c.in_ok-mails.mails;
    listed = c.in_ok-mails.ensures (machine_of machine);
    each = omega (arith, c.if-as_slice.false, ap length c.as_slice.ensures, ap length c.as_slice-2.ensures);
  };
  early = c.in_ok-list.ensures;
}
