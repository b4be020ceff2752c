-- What a checker finds of a log.
use Rattle.std.specs.Prelude.{ℕ, ◌<◌, ◌≤◌, List, length, get_or}
use Rattle.tl_problem.specs.Problem.{ProblemModel}
use Rattle.tl_cert.specs.declared.log.LogLine.{LogLine}
use Rattle.tl_cert.specs.declared.trace.CutAt.{CutAt}
use Rattle.tl_cert.specs.Lines.{IsGoodLine, IsGoodLog}

-- the line with this number is good
abbrev pub IsGoodAt : ProblemModel → List CutAt → List LogLine → ℕ → ℕ → Type 0
IsGoodAt problem trace log lower k = (d : LogLine) → IsGoodLine problem trace log lower k (get_or log k d)

-- the number of the first line that is not good; or the number of lines, where all are good and the log is not
pub record IsFirstBad (problem : ProblemModel) (trace : List CutAt) (log : List LogLine) (lower k : ℕ) : Type 0 where
  pub there : k ≤ length log
  pub before : (j : ℕ) → j < k → IsGoodAt problem trace log lower j
  pub bad : k < length log → IsGoodAt problem trace log lower k → ⊥
  pub log_bad : IsGoodLog problem trace log lower → ⊥
