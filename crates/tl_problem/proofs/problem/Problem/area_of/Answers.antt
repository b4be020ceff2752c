-- The zone's ranges leave exactly the widths in the zone.
use Rattle.std.proofs.Common.{Some}
use Rattle.tl_problem.specs.Zones.{InZone}
use Rattle.tl_problem.specs.Works.{AreAllowed, places}
use Rattle.tl_problem.proofs.ConstraintLemmas.{KeepsPage-adds, ranges-left, ranges-zone, ranges-none}
use Rattle.tl_problem.proofs.SetLaws.{found_area-same}
use Rattle.tl_problem.proofs.problem.Problem.area_of.Goals as goal
use Rattle.tl_problem.proofs.problem.Problem.area_of.Goals.{then-add_ranges, else-add_ranges}

pub add_ranges-requires-clause-sound : goal.add_ranges-requires-clause-sound
add_ranges-requires-clause-sound c = c.requires.work.sound

pub add_ranges-requires-clause-holds : goal.add_ranges-requires-clause-holds
add_ranges-requires-clause-holds c =
    let fits = c.requires.work.sound.fits in
    rw c.mark.ensures (places c.args.self.now fits.0, (c.requires.work.start.whole fits.0 fits.1).satisfies)

pub area_bound-requires-clause-keeps : goal.area_bound-requires-clause-keeps
area_bound-requires-clause-keeps c =
    let adds = rw c.mark.ensures at c.add_ranges.ensures.adds in
    KeepsPage-adds c.args.self.now c.args.work.now.start.bounds c.add_ranges.new.matrix.bounds adds.variables adds.keeps
    c.requires.work.start.keeps

pub returns-clause-bound : goal.returns-clause-bound
returns-clause-bound c =
    let p = c.args.self.now in
    let zone = c.args.zone.now in
    let base = c.args.work.now.start in
    let adds = rw c.mark.ensures at c.add_ranges.ensures.adds in
    elim c.if-add_ranges.branch [
      | then-add_ranges w ↦
          rw w.bound-is
          (found_area-same p (AreAllowed p c.add_ranges.new.matrix.bounds) (InZone p zone)
          (ranges-zone p zone _ _ base.bounds c.add_ranges.new.matrix c.add_ranges.result adds w.if-add_ranges.true
          c.requires.work.start.keeps)
          (ranges-left p zone _ _ base.bounds c.add_ranges.new.matrix c.add_ranges.result adds c.requires.work.start.whole)
          (Some w.area_bound.result) w.area_bound.ensures)
      | else-add_ranges w ↦
          rw w.bound-is
          (ranges-none p zone _ _ base.bounds c.add_ranges.new.matrix c.add_ranges.result adds w.if-add_ranges.false
          c.requires.work.start.whole
          c.add_ranges.ensures.holds.1)
    ]
