-- Line by line.
use Rattle.std.proofs.Common.{arith}
use Rattle.tl_check.proofs.Working.{good-next}
use Rattle.tl_check.proofs.checker.Checker.log.Goals as goal

pub line-requires-clause-reserved : goal.line-requires-clause-reserved
line-requires-clause-reserved c = c.loop-k.invariant.stays _ c.requires.reserved

pub returns-then-not-line-clause-bad : goal.returns-then-not-line-clause-bad
returns-then-not-line-clause-bad c =
    record {
      there = omega arith;
      before = c.loop-k.invariant.good;
      bad = λ less good. let yes = c.line.ensures.good.1 good in cc;
      log_bad = λ good. let yes = c.line.ensures.good.1 (λ d. good.lines c.loop-k.k d (omega arith)) in cc;
    }

pub returns-then-not-line-clause-stays : goal.returns-then-not-line-clause-stays
returns-then-not-line-clause-stays c = λ cuts is. c.line.ensures.stays cuts (c.loop-k.invariant.stays cuts is)

pub loop-k-preserved : goal.loop-k-preserved
loop-k-preserved c =
    record {
      good = good-next c.args.problem.now c.args.trace.now c.args.log.now c.args.lower c.loop-k.k c.loop-k.invariant.good
          (c.line.ensures.good.0 c.if-not-line.false);
      stays = λ cuts is. c.line.ensures.stays cuts (c.loop-k.invariant.stays cuts is);
    }
