-- Pass by pass, until none is taken.
use Rattle.std.proofs.Common.{◌≤◌, List, length, ◌∙◌, subst}
use Rattle.tl_cert.specs.declared.log.Bound.{Bound}
use Rattle.tl_store.specs.Stores.{HaveSame}
use Rattle.tl_store.specs.Shrunk.{IsShrunk}
use Rattle.tl_store.specs.inner.Passes.{line_with}
use Rattle.tl_store.proofs.Trials.{line-shrunk, lessened-start, ok-same}
use Rattle.tl_store.proofs.shrinking.shrink_line.Goals as goal

pub passes-init : goal.passes-init
passes-init c = record {
  lessened = lessened-start c.args.problem.now c.args.trace.now c.args.log.now c.args.lower c.args.line.now c.requires.sound
      c.requires.trace c.requires.good c.in_ok-bounds.bounds.items c.in_ok-bounds.ensures.sorted
      (subst (λ (l : List Bound). HaveSame l c.in_ok-bounds.bounds.items) (c.as_slice.ensures ∙ c.in_ok-given.ensures)
      c.in_ok-bounds.ensures.same)
      (subst (λ (l : List Bound). length c.in_ok-bounds.bounds.items ≤ length l) (c.as_slice.ensures ∙ c.in_ok-given.ensures)
      c.in_ok-bounds.ensures.no_more);
  ended = λ never. absurd cc;
  reserved = c.requires.reserved;
  stays = λ cuts reserved. reserved;
}

pub returns-in_err-fewer-clause-stays : goal.returns-in_err-fewer-clause-stays
returns-in_err-fewer-clause-stays c = λ cuts reserved. c.pass.ensures.stays cuts (c.passes.invariant.stays cuts reserved)

pub passes-preserved : goal.passes-preserved
passes-preserved c = record {
  lessened = c.in_ok-fewer.ensures.pass.lessened;
  ended = c.in_ok-fewer.ensures.pass.none;
  reserved = c.pass.ensures.stays (length c.args.trace.now) c.passes.invariant.reserved;
  stays = λ cuts reserved. c.pass.ensures.stays cuts (c.passes.invariant.stays cuts reserved);
}

pub returns-clause-shrunk : goal.returns-clause-shrunk
returns-clause-shrunk c = ok-same (IsShrunk c.args.problem.now c.args.trace.now c.args.log.now c.args.lower
    (length c.args.log.now) c.args.line.now) c.line_of.result (line_with c.args.line.now c.passes.bounds.items) c.line_of.ensures
    (line-shrunk c.args.problem.now c.args.trace.now c.args.log.now c.args.lower c.args.line.now c.requires.trace c.requires.good
    c.passes.bounds.items c.passes.invariant.lessened (c.passes.invariant.ended c.passes-test.false))
