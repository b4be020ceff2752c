-- The files so far are stored, and nothing else has changed.
use Rattle.std.proofs.Common.{◌≡◌, None, map, take}
use Rattle.tl_program.specs.Change.{between, as_stored}
use Rattle.tl_program.specs.inner.Printing.{IsStored}
use Rattle.tl_program.proofs.output.store_all.Given as goal

abbrev pub invariant-loop-file : goal.invariant-loop-file
invariant-loop-file g l = record {
  stored : IsStored None (between g.D.Desk l.fn.desk l.desk) (map as_stored (take l.file-index l.files));
  loads : g.D.Desk.load_faults l.desk ≡ g.D.Desk.load_faults l.fn.desk;
  said : g.D.Desk.said l.desk ≡ g.D.Desk.said l.fn.desk;
}
