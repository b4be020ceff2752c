use Rattle.tl_table.specs.declared.cell.Table.{out-Table}
use Rattle.tl_form.specs.Problems.{InnerNeeds}
use Rattle.tl_form.proofs.ProblemTruth.{same-problem}
use Rattle.tl_form.proofs.problem_laws.problem_is_determined.Goals as goal

pub returns : goal.returns
returns c = λ table style page inner one other first second.
    same-problem (InnerNeeds (λ bounds. bounds.low) inner) (InnerNeeds (λ bounds. bounds.high) inner) style page
    (out-Table table) one other first second
