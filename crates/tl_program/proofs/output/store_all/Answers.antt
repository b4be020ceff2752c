-- One file after the other is stored.
use Rattle.std.proofs.Common.{◌+◌, Some, None, refl, subst, ◌∙◌, map, List, arith}
use Rattle.std.proofs.lemmas.List.{take_all}
use Rattle.tl_program.specs.declared.output.File.{File}
use Rattle.tl_program.specs.Change.{between, as_stored}
use Rattle.tl_program.specs.inner.Printing.{IsStored}
use Rattle.tl_program.proofs.Storing.{stored_next, stored_up_to}
use Rattle.tl_program.proofs.output.store_all.Goals as goal

pub loop-file-init : goal.loop-file-init
loop-file-init g c = record { stored = (refl, refl); loads = refl; said = refl }

pub returns-in-Some-clause-stored : goal.returns-in-Some-clause-stored
returns-in-Some-clause-stored g c =
    let first = between g.D.Desk c.args.desk.now c.loop-file.desk in
    let second = between g.D.Desk c.loop-file.desk c.store.new.desk in
    stored_up_to c.in-Some.status (between g.D.Desk c.args.desk.now c.store.new.desk) c.args.files.now
    (c.loop-file.file-index + 1)
    (stored_next (Some c.in-Some.status) first second c.args.files.now c.loop-file.file-index _ c.loop-file-test.true refl refl
    c.loop-file.invariant.stored c.in-Some.ensures.stored)

pub returns-in-Some-clause-loads_stay : goal.returns-in-Some-clause-loads_stay
returns-in-Some-clause-loads_stay g c = c.in-Some.ensures.loads_stay ∙ c.loop-file.invariant.loads

pub returns-in-Some-clause-said_stays : goal.returns-in-Some-clause-said_stays
returns-in-Some-clause-said_stays g c = c.in-Some.ensures.said_stays ∙ c.loop-file.invariant.said

pub loop-file-preserved : goal.loop-file-preserved
loop-file-preserved g c =
    let first = between g.D.Desk c.args.desk.now c.loop-file.desk in
    let second = between g.D.Desk c.loop-file.desk c.store.new.desk in
    record {
      stored = stored_next None first second c.args.files.now c.loop-file.file-index _ c.loop-file-test.true refl refl
          c.loop-file.invariant.stored c.in_default.ensures.stored;
      loads = c.in_default.ensures.loads_stay ∙ c.loop-file.invariant.loads;
      said = c.in_default.ensures.said_stays ∙ c.loop-file.invariant.said;
    }

pub returns-clause-stored : goal.returns-clause-stored
returns-clause-stored g c =
    subst (λ (files : List File). IsStored None (between g.D.Desk c.args.desk.now c.loop-file.desk) (map as_stored files))
    (take_all c.loop-file.file-index c.args.files.now (omega (arith, c.loop-file-test.false))) c.loop-file.invariant.stored

pub returns-clause-loads_stay : goal.returns-clause-loads_stay
returns-clause-loads_stay g c = c.loop-file.invariant.loads

pub returns-clause-said_stays : goal.returns-clause-said_stays
returns-clause-said_stays g c = c.loop-file.invariant.said
