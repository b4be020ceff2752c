use Rattle.std.proofs.Common.{◌≡◌, sym, ap, subst, arith}
use Rattle.std.proofs.lemmas.Result.{IfOk-weaker}
use Rattle.tl_problem.specs.declared.placed.Placed.{Placed}
use Rattle.tl_problem.specs.Layouts.{WithinPage}
use Rattle.tl_problem.specs.Placements.{IsOpening}
use Rattle.tl_solve.proofs.Opening.{placement_in-unique}
use Rattle.tl_rounds.proofs.book.Book.open.Goals as goal

pub new-requires-clause-low : goal.new-requires-clause-low
new-requires-clause-low c = λ other is.
    let p = c.args.problem.now in
    let same = placement_in-unique p (WithinPage p) c.in_ok-best.best other c.in_ok-best.ensures.opening is in
    omega (arith, ap (λ (placed : Placed). placed.height) same)

pub returns-clause-opening : goal.returns-clause-opening
returns-clause-opening c =
    let p = c.args.problem.now in
    let best = c.in_ok-best.best in
    IfOk-weaker c.new.result (λ book. book.best ≡ best) (λ book. IsOpening p book.best)
    (λ book kept. subst (IsOpening p) (sym kept) c.in_ok-best.ensures.opening) c.new.ensures.best
