use Rattle.std.proofs.Common.{IfNone, subst}
use Rattle.tl_base.specs.declared.breaking.Breaking.TheVariants.{Words, Wider}
use Rattle.tl_read.specs.declared.reading.Reading.TheVariants as readings
use Rattle.tl_read.specs.Reading.{IsReading}
use Rattle.tl_fit.specs.inner.Trials.{IsNoTable}
use Rattle.tl_fit.proofs.Refusing.{refused_with}
use Rattle.tl_fit.proofs.fitting.tried_within.Goals as goal

pub unreachable-requires : goal.unreachable-requires
unreachable-requires c =
    let none : IsNoTable c.with_breaking-broken.result c.args.bytes.now =
    subst (λ found. IfNone found (IsNoTable c.with_breaking-broken.result c.args.bytes.now)) c.in-None.is
    c.in_ok-trial.ensures.none in
    let refused = subst (λ source. IsReading source c.args.bytes.now (readings.Refused none.0.0))
    c.with_breaking-broken.ensures none.0.1 in
    c.requires none.0.0 (refused_with c.args.source.now (Wider c.args.most) Words c.args.bytes.now none.0.0 refused)
