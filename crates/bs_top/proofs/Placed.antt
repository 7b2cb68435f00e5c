-- What is written to a port is a text at its place.
use Rattle.std.proofs.Common.{◌≡◌, ℕ, List, take, ap, ◌∙◌, inl, inr, Result, Ok, Err}
use Rattle.bs_desk.specs.declared.desk.DeskFault.{DeskFault}
use Rattle.bs_desk.specs.declared.desk.Port.TheVariants as port
use Rattle.bs_desk.specs.Outside.{Outside, WriteRefused, with_created}
use Rattle.bs_desk.specs.Whole.{WritesAll}
use Rattle.bs_top.specs.Performs.{Puts}
use Rattle.bs_top.specs.Targets.{output, errors, in_file}
use Rattle.bs_top.proofs.Saved.{saved}

module _ (old new : Outside) where
  pub put_out : (text : List ℕ) (r : Result (Unit {0}) DeskFault) → WritesAll port.Out text old new r → Puts output text old new r
  put_out text (Ok _) e = e
  put_out text (Err fault) h = ((h.1.later, h.1.cause), inl (record { count = h.0; within = h.1.fits; is_put = h.1.same }))

  pub put_errors : (text : List ℕ) (r : Result (Unit {0}) DeskFault) → WritesAll port.Err text old new r → Puts errors text old new r
  put_errors text (Ok _) e = e
  put_errors text (Err fault) h = ((h.1.later, h.1.cause), inl (record { count = h.0; within = h.1.fits; is_put = h.1.same }))

  pub put_file : (name text : List ℕ) (r : Result (Unit {0}) DeskFault) → WritesAll port.File text (with_created name old) new r → Puts (in_file name) text old new r
  put_file name text (Ok _) e = e ∙ saved name text old
  put_file name text (Err fault) h = (
    (h.1.later, h.1.cause),
    inl (record {
      count = h.0;
      within = h.1.fits;
      is_put = h.1.same ∙ ap (λ (o : Outside). record o { write_faults = new.write_faults }) (saved name (take h.0 text) old);
    }),
  )

  pub not_made : (name text : List ℕ) (fault : DeskFault) → WriteRefused fault old new → Puts (in_file name) text old new (Err fault)
  not_made name text fault h = ((h.later, h.cause), inr h.same)
