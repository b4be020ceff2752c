-- What a call makes of a table that bytes give, and of a refusal, is what it answers for the bytes.
use Rattle.std.proofs.Common.{◌≡◌, List, ℕ, refl}
use Rattle.std.specs.Prelude.{IfOk, Result}
use Rattle.std.specs.declared.alloc.AllocError.{AllocError}
use Rattle.std.proofs.lemmas.Result.{IfOk-weaker}
use Rattle.tl_read.specs.declared.refusal.Refusal.{Refusal}
use Rattle.tl_table.specs.declared.cell.Table.{Table}
use Rattle.tl_lay.specs.declared.answer.Answer.{Answer}
use Rattle.tl_lay.specs.declared.answer.Answer.TheVariants as answers
use Rattle.tl_lay.specs.declared.input.Given.{Given}
use Rattle.tl_lay.specs.declared.input.Input.{Input}
use Rattle.tl_lay.specs.declared.input.Input.TheVariants as inputs
use Rattle.tl_lay.specs.declared.task.Task.{Task}
use Rattle.tl_lay.specs.declared.verdict.Verdict.{Verdict}
use Rattle.tl_lay.specs.declared.verdict.Verdict.TheVariants as verdicts
use Rattle.tl_lay.specs.Answers.{IsAnswered}
use Rattle.tl_lay.specs.Checks.{IsChecked, IsJudged}
use Rattle.tl_lay.specs.Inputs.{GivesInput}
use Rattle.tl_lay.proofs.Inputs.{of_given, of_refused}

-- of a table
pub answered_given : (task : Task) (bytes : List ℕ) (input : Input) (given : Given) (Own : Table → Answer → Type 0)
    (result : Result Answer AllocError) → GivesInput task bytes input → input ≡ inputs.Table given →
    IfOk result (Own given.table) → IfOk result (IsAnswered task Own bytes)
answered_given task bytes input given Own result gives is = IfOk-weaker result (Own given.table) (IsAnswered task Own bytes)
    (λ answer own. of_given task bytes input given (λ refusal. answer ≡ answers.Refused refusal) (λ table. Own table answer) gives is
    own)

-- of a refusal
pub answered_refused : (task : Task) (bytes : List ℕ) (input : Input) (refusal : Refusal) (Own : Table → Answer → Type 0) →
    GivesInput task bytes input → input ≡ inputs.Refused refusal → IsAnswered task Own bytes (answers.Refused refusal)
answered_refused task bytes input refusal Own gives is = of_refused task bytes input refusal
    (λ other. answers.Refused refusal ≡ answers.Refused other) (λ table. Own table (answers.Refused refusal)) gives is refl

-- and so it is of a check
pub checked_given : (task : Task) (bytes text : List ℕ) (input : Input) (given : Given) (result : Result Verdict AllocError) →
    GivesInput task bytes input → input ≡ inputs.Table given → IfOk result (IsJudged task given.table text) →
    IfOk result (IsChecked task bytes text)
checked_given task bytes text input given result gives is = IfOk-weaker result (IsJudged task given.table text)
    (IsChecked task bytes text) (λ verdict judged. of_given task bytes input given (λ refusal. verdict ≡ verdicts.Refused refusal)
    (λ table. IsJudged task table text verdict) gives is judged)

pub checked_refused : (task : Task) (bytes text : List ℕ) (input : Input) (refusal : Refusal) → GivesInput task bytes input →
    input ≡ inputs.Refused refusal → IsChecked task bytes text (verdicts.Refused refusal)
checked_refused task bytes text input refusal gives is = of_refused task bytes input refusal
    (λ other. verdicts.Refused refusal ≡ verdicts.Refused other) (λ table. IsJudged task table text (verdicts.Refused refusal)) gives is
    refl
