-- A file that could not be stored.
use Rattle.std.proofs.Common.{inl, [], Err, refl, ap}
use Rattle.tl_program.specs.Change.{as_stored}
use Rattle.tl_program.proofs.output.store.Goals as goal

pub returns-in-Err-Failed-clause-stored : goal.returns-in-Err-Failed-clause-stored
returns-in-Err-Failed-clause-stored g c = inl (
  refl,
  c.in-Err-Failed.ensures.failed (ap Err c.in-Err-Failed.field-0-is),
  record {
    done = [];
    next = as_stored c.args.file;
    rest = [];
    split = refl;
    stand = c.in-Err-Failed.ensures.prefix (ap Err c.in-Err-Failed.field-0-is);
  },
)
