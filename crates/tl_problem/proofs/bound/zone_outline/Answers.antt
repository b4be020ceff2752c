-- The zone's ranges leave exactly the widths in the zone.
use Rattle.std.proofs.Common.{ℕ, List}
use Rattle.tl_problem.specs.Zones.{InZone}
use Rattle.tl_problem.specs.Works.{AreAllowed, places}
use Rattle.tl_problem.proofs.NeedLemmas.{AreLeast-same}
use Rattle.tl_problem.proofs.SetLaws.{bound-same}
use Rattle.tl_problem.proofs.ConstraintLemmas.{KeepsPage-adds, ranges-left, ranges-zone, ranges-none}
use Rattle.tl_problem.proofs.bound.zone_outline.Goals as goal

pub add_ranges-requires-clause-holds : goal.add_ranges-requires-clause-holds
add_ranges-requires-clause-holds c =
    let fits = c.requires.sound.fits in
    (places c.args.problem.now fits.0, (c.requires.whole fits.0 fits.1).satisfies)

pub returns-then-not-add_ranges-clause-outline : goal.returns-then-not-add_ranges-clause-outline
returns-then-not-add_ranges-clause-outline c =
    ranges-none c.args.problem.now c.args.zone.now _ _ c.args.matrix.now.bounds c.add_ranges.new.matrix c.add_ranges.result
    c.add_ranges.ensures.adds
    c.if-not-add_ranges.true c.requires.whole c.add_ranges.ensures.holds.1

pub returns-then-not-add_ranges-clause-held : goal.returns-then-not-add_ranges-clause-held
returns-then-not-add_ranges-clause-held c = c.add_ranges.ensures.adds.held

pub returns-then-not-add_ranges-clause-marks : goal.returns-then-not-add_ranges-clause-marks
returns-then-not-add_ranges-clause-marks c = c.add_ranges.ensures.adds.marks

pub outline_in-requires-clause-keeps : goal.outline_in-requires-clause-keeps
outline_in-requires-clause-keeps c =
    KeepsPage-adds c.args.problem.now c.args.matrix.now.bounds c.add_ranges.new.matrix.bounds c.add_ranges.ensures.adds.variables
    c.add_ranges.ensures.adds.keeps c.requires.keeps

pub returns-clause-outline : goal.returns-clause-outline
returns-clause-outline c =
    let p = c.args.problem.now in
    let zone = c.args.zone.now in
    let Left = AreAllowed p c.add_ranges.new.matrix.bounds in
    let there : (widths : List ℕ) → Left widths → InZone p zone widths =
    ranges-zone p zone _ _ c.args.matrix.now.bounds c.add_ranges.new.matrix c.add_ranges.result c.add_ranges.ensures.adds
    c.if-not-add_ranges.false c.requires.keeps in
    let back : (widths : List ℕ) → InZone p zone widths → Left widths =
    ranges-left p zone _ _ c.args.matrix.now.bounds c.add_ranges.new.matrix c.add_ranges.result c.add_ranges.ensures.adds
    c.requires.whole in
    let is = c.in_ok-outline.ensures in
    record {
      bound = bound-same p Left (InZone p zone) there back c.in_ok-outline.outline.bound is.bound;
      widths = AreLeast-same p.spacing.gap Left (InZone p zone) c.in_ok-outline.outline.widths there back is.widths;
    }
