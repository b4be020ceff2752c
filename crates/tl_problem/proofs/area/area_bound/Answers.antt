-- The areas are small against the end, so that few lines hold them; where there is no column the area bound is 0.
use Rattle.tl_base.specs.declared.spacing.Spacing.{Spacing}
use Rattle.std.proofs.Common.{◌≡◌, ◌+◌, ◌<◌, length, refl, arith, ap}
use Rattle.std.specs.Int.{div_ceil}
use Rattle.tl_base.specs.declared.limits.TheConstants.{MAX_HEIGHT}
use Rattle.tl_problem.specs.Works.{AreAllowed}
use Rattle.tl_problem.proofs.DemandLemmas.{few-cells}
use Rattle.tl_problem.proofs.WorkLemmas.{left-some}
use Rattle.tl_problem.proofs.AreaFound.{areas-small, rounded-up, IsAreaBound-found}
use Rattle.tl_problem.proofs.area.area_bound.Goals as goal

pub returns-then-cols-eq0 : goal.returns-then-cols-eq0
returns-then-cols-eq0 c =
    let none : c.args.problem.now.cols ≡ 0 = omega (arith, c.cols.ensures, c.if-cols-eq0.true) in
    record {
      some = left-some c.args.problem.now c.args.matrix.now.bounds c.requires.keeps c.requires.some;
      no_column = λ columns. refl;
      columns = λ some. absurd (omega (arith, none));
    }

pub overflow_cast-lines : goal.overflow_cast-lines
overflow_cast-lines c =
    let p = c.args.problem.now in
    let Among = AreAllowed p c.args.matrix.now.bounds in
    let end = c.greatest_end-end.result in
    let total = c.sum_of_areas.result in
    let lines : c.div_ceil-lines.result ≡ div_ceil total end = rw c.from.ensures at c.div_ceil-lines.ensures in
    let few = few-cells p c.requires.sound in
    let most = areas-small p c.requires.sound Among c.requires.keeps.page end c.greatest_end-end.ensures.end total
    c.sum_of_areas.ensures in
    let least = (rounded-up total end c.greatest_end-end.ensures.some).least (MAX_HEIGHT + length p.cells) most in
    omega (arith, lines, few, least)

pub overflow_add-spacing : goal.overflow_add-spacing
overflow_add-spacing c =
    let p = c.args.problem.now in
    let Among = AreAllowed p c.args.matrix.now.bounds in
    let end = c.greatest_end-end.result in
    let total = c.sum_of_areas.result in
    let lines : c.div_ceil-lines.result ≡ div_ceil total end = rw c.from.ensures at c.div_ceil-lines.ensures in
    let few = few-cells p c.requires.sound in
    let most = areas-small p c.requires.sound Among c.requires.keeps.page end c.greatest_end-end.ensures.end total
    c.sum_of_areas.ensures in
    let least = (rounded-up total end c.greatest_end-end.ensures.some).least (MAX_HEIGHT + length p.cells) most in
    omega (arith, lines, few, least, ap (λ (s : Spacing). s.lines) c.spacing-spacing.ensures.spacing, c.spacing-spacing.ensures.sound.few)

pub returns : goal.returns
returns c =
    let p = c.args.problem.now in
    let Among = AreAllowed p c.args.matrix.now.bounds in
    let end = c.greatest_end-end.result in
    let total = c.sum_of_areas.result in
    let lines : c.div_ceil-lines.result ≡ div_ceil total end = rw c.from.ensures at c.div_ceil-lines.ensures in
    let some : 0 < p.cols = omega (arith, c.cols.ensures, c.if-cols-eq0.false) in
    rw (c.saturating_sub.ensures, c.spacing-spacing.ensures.spacing, lines)
    (IsAreaBound-found p c.requires.sound Among c.requires.keeps.page end c.greatest_end-end.ensures.end total some
    c.greatest_end-end.ensures.some c.sum_of_areas.ensures)
