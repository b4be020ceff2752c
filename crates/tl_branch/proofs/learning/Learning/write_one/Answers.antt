-- A zone that is cut has parts of greater numbers, which have lines; one that stands has no widths or a high bound.
use Rattle.std.proofs.Common.{◌<◌, length, sym, ◌∙◌, subst, arith}
use Rattle.tl_solve.specs.CutsFound.{IsCutFound}
use Rattle.tl_branch.proofs.Closing.{joined-line, open-line}
use Rattle.tl_branch.proofs.Zones.{none-there, some-there}
use Rattle.tl_branch.proofs.learning.Learning.write_one.Goals as goal

pub returns-then-is_some-clause-line : goal.returns-then-is_some-clause-line
returns-then-is_some-clause-line c = some-there c.args.self.now.lines.items c.args.zone c.index.result.now
    (omega (arith, c.requires.learning.lines.count, c.requires.there)) c.index.ensures (sym c.is_some.ensures ∙ c.if-is_some.true)

pub returns-in_ok-join-in-Some-clause-line : goal.returns-in_ok-join-in-Some-clause-line
returns-in_ok-join-in-Some-clause-line c =
    let trace = c.args.self.now.arena.trace in
    joined-line c.args.problem.now c.args.self.now c.requires.learning c.args.zone c.requires.there c.join.new.self
    c.in_ok-join-in-Some.ensures.grown c.in-Some.number
    (subst (IsCutFound trace (length trace) c.args.zone) c.in-Some.is c.requires.cut) c.requires.above
    c.in_ok-join-in-Some.ensures.joined

pub returns-in_ok-close_by_bound-in-None-clause-line : goal.returns-in_ok-close_by_bound-in-None-clause-line
returns-in_ok-close_by_bound-in-None-clause-line c =
    let trace = c.args.self.now.arena.trace in
    let within : c.args.zone < length c.args.self.now.lines.items = omega
    (arith, c.requires.learning.lines.count, c.requires.there) in
    open-line c.args.problem.now c.args.self.now c.requires.learning c.args.zone c.requires.there c.close_by_bound.new.self
    c.in_ok-close_by_bound-in-None.ensures.grown c.in_ok-close_by_bound-in-None.field-0
    (subst (IsCutFound trace (length trace) c.args.zone) c.in-None.is c.requires.cut) c.requires.proves
    (none-there c.args.self.now.lines.items c.args.zone c.index.result.now within c.index.ensures
    (sym c.is_some.ensures ∙ c.if-is_some.false)) c.in_ok-close_by_bound-in-None.ensures.closed
    c.in_ok-close_by_bound-in-None.ensures.open
