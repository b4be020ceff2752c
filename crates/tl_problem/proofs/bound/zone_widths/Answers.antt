-- The zone's ranges leave exactly the widths in the zone.
use Rattle.tl_problem.specs.Zones.{InZone}
use Rattle.tl_problem.specs.Works.{AreAllowed, places}
use Rattle.tl_problem.proofs.NeedLemmas.{AreLeast-same}
use Rattle.tl_problem.proofs.ConstraintLemmas.{KeepsPage-adds, ranges-left, ranges-zone, ranges-none}
use Rattle.tl_problem.proofs.bound.zone_widths.Goals as goal

pub add_ranges-requires-clause-holds : goal.add_ranges-requires-clause-holds
add_ranges-requires-clause-holds c =
    let fits = c.requires.sound.fits in
    (places c.args.problem.now fits.0, (c.requires.whole fits.0 fits.1).satisfies)

pub returns-then-not-add_ranges-clause-widths : goal.returns-then-not-add_ranges-clause-widths
returns-then-not-add_ranges-clause-widths c =
    ranges-none c.args.problem.now c.args.zone.now _ _ c.args.matrix.now.bounds c.add_ranges.new.matrix c.add_ranges.result
    c.add_ranges.ensures.adds
    c.if-not-add_ranges.true c.requires.whole c.add_ranges.ensures.holds.1

pub returns-then-not-add_ranges-clause-held : goal.returns-then-not-add_ranges-clause-held
returns-then-not-add_ranges-clause-held c = c.add_ranges.ensures.adds.held

pub returns-then-not-add_ranges-clause-marks : goal.returns-then-not-add_ranges-clause-marks
returns-then-not-add_ranges-clause-marks c = c.add_ranges.ensures.adds.marks

pub least_widths-requires-clause-keeps : goal.least_widths-requires-clause-keeps
least_widths-requires-clause-keeps c =
    KeepsPage-adds c.args.problem.now c.args.matrix.now.bounds c.add_ranges.new.matrix.bounds c.add_ranges.ensures.adds.variables
    c.add_ranges.ensures.adds.keeps c.requires.keeps

pub returns-clause-widths : goal.returns-clause-widths
returns-clause-widths c =
    let p = c.args.problem.now in
    let zone = c.args.zone.now in
    AreLeast-same p.spacing.gap (AreAllowed p c.add_ranges.new.matrix.bounds) (InZone p zone) c.in_ok-widths.widths
    (ranges-zone p zone _ _ c.args.matrix.now.bounds c.add_ranges.new.matrix c.add_ranges.result c.add_ranges.ensures.adds
    c.if-not-add_ranges.false
    c.requires.keeps)
    (ranges-left p zone _ _ c.args.matrix.now.bounds c.add_ranges.new.matrix c.add_ranges.result c.add_ranges.ensures.adds
    c.requires.whole)
    c.in_ok-widths.ensures
