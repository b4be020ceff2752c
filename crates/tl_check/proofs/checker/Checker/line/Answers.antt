-- The line by its number.
use Rattle.std.proofs.Common.{length, refl, sym, ap, ◌∙◌, subst, arith}
use Rattle.std.proofs.lemmas.List.{get_or_default}
use Rattle.tl_cert.specs.Lines.{IsGoodLine}
use Rattle.tl_check.proofs.Flags.{stays-by}
use Rattle.tl_check.proofs.checker.Checker.line.Goals as goal

pub is_good_line-requires-clause-mark : goal.is_good_line-requires-clause-mark
is_good_line-requires-clause-mark c = omega (arith, ap length c.requires.reserved.none_held, c.requires.reserved.marks)

pub returns-clause-good : goal.returns-clause-good
returns-clause-good c =
    let trace = c.args.trace.now in
    let log = c.args.log.now in
    let item = c.index-lines-number.result in
    let is = rw c.as_slice-lines.ensures at c.index-lines-number.is in
    let good = rw (c.as_slice.ensures, c.as_slice-lines.ensures) at c.is_good_line.ensures.good in (
      λ yes d. subst (IsGoodLine c.args.problem.now trace log c.args.lower c.args.k)
          (is ∙ get_or_default log c.args.k item d c.requires.number) (good.0 yes),
      λ all. good.1 (subst (IsGoodLine c.args.problem.now trace log c.args.lower c.args.k) (sym is) (all item)),
    )

pub returns-clause-stays : goal.returns-clause-stays
returns-clause-stays c =
    stays-by c.args.problem.now c.args.self.now _ (λ page. c.is_good_line.ensures.page) c.is_good_line.ensures.matrix refl
    (omega arith)
