use Rattle.std.proofs.Common.{IfSome, subst}
use Rattle.tl_base.specs.declared.breaking.Breaking.TheVariants.{Words}
use Rattle.tl_base.specs.declared.limits.TheConstants.{MAX_PAGE_WIDTH}
use Rattle.tl_read.specs.declared.reading.Reading.TheVariants as readings
use Rattle.tl_read.specs.Reading.{IsReading}
use Rattle.tl_fit.specs.inner.Trials.{IsTrial}
use Rattle.tl_fit.proofs.FitLaws.{no_layout_narrower}
use Rattle.tl_fit.proofs.fitting.fit.Goals as goal

-- the words whole have no layout
pub returns-in_ok-most-in-Some : goal.returns-in_ok-most-in-Some
returns-in_ok-most-in-Some c =
    let source = c.args.source.now in
    let bytes = c.args.bytes.now in
    let (table, read, least, widest) =
    subst (λ found. IfSome found (IsTrial c.with_breaking-whole.result c.args.style MAX_PAGE_WIDTH bytes)) c.in-Some.is
    c.in_ok-trial.ensures.trial in
    let whole = subst (λ file. IsReading file bytes (readings.Table table)) c.with_breaking-whole.ensures read in (
      record {
        table = table;
        is = whole;
        narrow = no_layout_narrower c.file_spells_one_table.ensures source c.args.style c.args.width bytes Words table
            c.in-Some.trial.least whole least c.if-trial-width.true;
      },
      c.in_ok-most-in-Some.ensures,
    )
