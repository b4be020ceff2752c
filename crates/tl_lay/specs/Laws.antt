-- What the answers of the three calls say follows from what each call comes to. Each law is the contract of a function of `laws`.
use Rattle.std.specs.Prelude.{ℕ, List}
use Rattle.tl_lay.specs.declared.answer.Answer.{Answer}
use Rattle.tl_lay.specs.declared.task.Task.{Task}
use Rattle.tl_lay.specs.Answers.{IsLaid}
use Rattle.tl_lay.specs.Inputs.{IsTaskInRange}
use Rattle.tl_lay.specs.Lowest.{Lays}
use Rattle.tl_lay.specs.Narrowest.{Narrows}
use Rattle.tl_lay.specs.Slimmed.{IsNarrowed}
use Rattle.tl_lay.specs.Tidied.{IsTidied}
use Rattle.tl_lay.specs.Tidiest.{Tidies}

-- of `lay`
abbrev pub LaidIsLowest : Type 0
LaidIsLowest = (task : Task) (bytes : List ℕ) (answer : Answer) → IsLaid task bytes answer → Lays task bytes answer

-- of `narrow`
abbrev pub NarrowedIsNarrowest : Type 0
NarrowedIsNarrowest = (task : Task) (height : ℕ) (bytes : List ℕ) (answer : Answer) → IsNarrowed task height bytes answer →
    Narrows task height bytes answer

-- of `tidy`
abbrev pub TidiedIsTidiest : Type 0
TidiedIsTidiest = (task : Task) (bytes : List ℕ) (answer : Answer) → IsTaskInRange task → IsTidied task bytes answer →
    Tidies task bytes answer
