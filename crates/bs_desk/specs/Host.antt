-- How a desk of real files counts its refusals.
use Rattle.std.specs.Prelude.{◌≡◌, ◌+◌, min}
use Rattle.bs_desk.specs.declared.desk.DeskFault.{DeskFault}
use Rattle.bs_desk.specs.declared.desk.DeskFault.TheVariants.{Failed}
use Rattle.bs_desk.specs.Outside.{Outside, most}

-- a read fault: its count went up by one, or stands at its last value, and all else is as before
pub record RaisesReading (old new : Outside) (fault : DeskFault) : Type 0 where
  pub failed : fault ≡ Failed
  pub raised : new ≡ record old { read_faults = min (old.read_faults + 1) most }

-- a write fault, likewise
pub record RaisesWriting (old new : Outside) (fault : DeskFault) : Type 0 where
  pub failed : fault ≡ Failed
  pub raised : new ≡ record old { write_faults = min (old.write_faults + 1) most }
