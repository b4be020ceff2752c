use Rattle.std.proofs.Common.{[], length, sym, ap, subst, arith}
use Rattle.tl_rounds.specs.Book.{IsCovering}
use Rattle.tl_rounds.proofs.Opened.{opened}
use Rattle.tl_rounds.proofs.book.Book.new.Goals as goal

pub returns-clause-book : goal.returns-clause-book
returns-clause-book c =
    let p = c.args.problem.now in
    let sound = c.cells-cells.ensures.sound in
    record {
      sound = sound;
      few = omega (arith, ap length c.new.ensures);
      covering = subst (λ trace. IsCovering p trace c.in_ok-lefts.lefts c.args.best) (sym c.new.ensures)
          (subst (λ lefts. IsCovering p [] lefts c.args.best) (sym c.in_ok-lefts.ensures)
          (opened p sound c.in_ok-_opening._opening c.args.best c.in_ok-_opening.ensures.opening c.requires.tight c.requires.low));
    }
