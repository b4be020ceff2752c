-- What a run of `narrow` that ended with 0, 3 or 12 went by, and one of `tidy`.
use Rattle.std.proofs.Common.{◌≡◌, inl, inr, ℕ, List, sym, ◌∙◌, arith}
use Rattle.tl_command.specs.declared.command.Command.TheVariants.{Narrow, Tidy}
use Rattle.tl_command.specs.Ask.{Asked}
use Rattle.tl_lay.specs.Budgets.{reach}
use Rattle.tl_lay.specs.Slimmed.{IsSlimmed}
use Rattle.tl_lay.specs.Tidied.{IsTidiedAs}
use Rattle.tl_program.specs.Asks.{IsAskOf}
use Rattle.tl_program.specs.Change.{Change}
use Rattle.tl_program.specs.Complete.{IsSlimStatus}
use Rattle.tl_program.specs.Deliveries.{IsAnswered}
use Rattle.tl_program.specs.Headline.{Ends}
use Rattle.tl_program.specs.Tasks.{slim_task, task_of}
use Rattle.tl_program.proofs.InputRuns.{IsOwnStatus, WentRun, went_run}

-- no other status than these three is meant
pub slim_apart : (told n : ℕ) → IsSlimStatus told → told ≡ n → (n ≡ 0 → ⊥) → (n ≡ 3 → ⊥) → (n ≡ 12 → ⊥) → ⊥
slim_apart told n (inl is) same nought three twelve = nought (sym same ∙ is)
slim_apart told n (inr (inl is)) same nought three twelve = three (sym same ∙ is)
slim_apart told n (inr (inr is)) same nought three twelve = twelve (sym same ∙ is)

pub own_slim : (told : ℕ) → IsSlimStatus told → IsOwnStatus told
own_slim told out = record {
  bad_input = λ same. slim_apart told 5 out same (λ e. omega (arith, e)) (λ e. omega (arith, e)) (λ e. omega (arith, e));
  limit = λ same. slim_apart told 6 out same (λ e. omega (arith, e)) (λ e. omega (arith, e)) (λ e. omega (arith, e));
  read_fault = λ same. slim_apart told 7 out same (λ e. omega (arith, e)) (λ e. omega (arith, e)) (λ e. omega (arith, e));
}

-- the table of the file, and what was delivered
abbrev pub SlimRun : Asked → Change → ℕ → Type 0
SlimRun asked change status = WentRun asked (reach (slim_task asked)) (IsAnswered (IsSlimmed (slim_task asked) asked.number) asked) change status

pub slim_run : (words : List (List ℕ)) (change : Change) (status : ℕ) (asked : Asked) → Ends words change status →
    IsAskOf Narrow words asked → IsSlimStatus status → SlimRun asked change status
slim_run words change status asked ends is out =
    went_run words change status Narrow asked (reach (slim_task asked))
    (IsAnswered (IsSlimmed (slim_task asked) asked.number) asked) ends is (own_slim status out)
    (λ same. slim_apart status 8 out same (λ e. omega (arith, e)) (λ e. omega (arith, e)) (λ e. omega (arith, e)))
    (λ same. slim_apart status 9 out same (λ e. omega (arith, e)) (λ e. omega (arith, e)) (λ e. omega (arith, e)))
    (λ delivery carried. carried)

abbrev pub TidyRun : Asked → Change → ℕ → Type 0
TidyRun asked change status = WentRun asked (reach (task_of asked)) (IsAnswered (IsTidiedAs (task_of asked)) asked) change status

pub tidy_run : (words : List (List ℕ)) (change : Change) (status : ℕ) (asked : Asked) → Ends words change status →
    IsAskOf Tidy words asked → IsSlimStatus status → TidyRun asked change status
tidy_run words change status asked ends is out =
    went_run words change status Tidy asked (reach (task_of asked)) (IsAnswered (IsTidiedAs (task_of asked)) asked) ends is
    (own_slim status out)
    (λ same. slim_apart status 8 out same (λ e. omega (arith, e)) (λ e. omega (arith, e)) (λ e. omega (arith, e)))
    (λ same. slim_apart status 9 out same (λ e. omega (arith, e)) (λ e. omega (arith, e)) (λ e. omega (arith, e)))
    (λ delivery carried. carried)
