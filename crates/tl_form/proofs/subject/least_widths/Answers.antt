-- One table after the other.
use Rattle.std.proofs.Common.{◌≤◌, sym, subst}
use Rattle.std.specs.List.{All}
use Rattle.std.proofs.lemmas.List.Elements.{All-push}
use Rattle.tl_base.specs.declared.limits.TheConstants.{MAX_HEIGHT}
use Rattle.tl_form.proofs.SubjectLemmas.{widths_more}
use Rattle.tl_form.proofs.subject.least_widths.Goals as goal

pub loop-one-preserved : goal.loop-one-preserved
loop-one-preserved c = (
  widths_more c.args.style c.args.tables.now c.loop-one.one-index c.in_ok-width.width c.one-item.result c.loop-one.least.items
      c.push.new.self.items c.loop-one-test.true c.one-item.is c.loop-one.invariant.0 c.in_ok-push.ensures.items
      c.in_ok-width.ensures.least,
  subst (All (λ width. width ≤ MAX_HEIGHT)) (sym c.in_ok-push.ensures.items)
      (All-push (λ width. width ≤ MAX_HEIGHT) c.loop-one.least.items c.in_ok-width.width c.loop-one.invariant.1 c.in_ok-width.ensures.small),
)
