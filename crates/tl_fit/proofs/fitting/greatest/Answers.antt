use Rattle.std.proofs.Common.{inl, inr, refl, arith}
use Rattle.std.proofs.lemmas.Bool.{cases_lt}
use Rattle.tl_text.proofs.WidestLemmas.{widest_within-le}
use Rattle.tl_fit.specs.Units.{units_in_table}
use Rattle.tl_fit.proofs.FitLaws.{no_layout_between, some_as_wide}
use Rattle.tl_fit.proofs.fitting.greatest.Goals as goal

-- the number that is tried holds
pub returns-then-trial-width : goal.returns-then-trial-width
returns-then-trial-width c =
    let (table, read, least, widest) = c.in_ok-trial.ensures in
    record {
      within = c.loop-most.invariant.0;
      fits = inr (table, read, some_as_wide table c.args.style c.args.width c.in_ok-trial.trial.least least c.if-trial-width.true);
      greatest = c.loop-most.invariant.1;
    }

pub loop-most-smaller : goal.loop-most-smaller
loop-most-smaller c =
    let (table, read, least, widest) = c.in_ok-trial.ensures in
    omega (arith, widest_within-le c.loop-most.most (units_in_table table), widest, c.saturating_sub-most.ensures, c.loop-most-test.true)

-- no number from the widest unit on holds
pub loop-most-preserved : goal.loop-most-preserved
loop-most-preserved c =
    let (table, read, least, widest) = c.in_ok-trial.ensures in
    let units = units_in_table table in
    let most = c.loop-most.most in
    let narrower = widest_within-le most units in (
      omega (arith, narrower, widest, c.saturating_sub-most.ensures, c.loop-most.invariant.0),
      λ more above within fits. elim (cases_lt most more) [
        | inl greater ↦ c.loop-most.invariant.1 more greater within fits
        | inr below ↦ no_layout_between c.file_spells_one_table.ensures c.args.source.now c.args.style c.args.width c.args.bytes.now
            more most table c.in_ok-trial.trial.least read least c.if-trial-width.false
            (omega (arith, widest, c.saturating_sub-most.ensures, above)) (omega (arith, above)) below fits
      ],
    )

-- no number holds but 0, if that does
pub returns : goal.returns
returns c = record {
  within = omega arith;
  fits = inl refl;
  greatest = λ more above within fits. c.loop-most.invariant.1 more (omega (arith, c.loop-most-test.false, above)) within fits;
}
