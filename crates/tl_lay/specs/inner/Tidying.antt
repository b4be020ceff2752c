-- No public clause cites this file: it says what the parts of `tidy` promise one another.
use Rattle.std.specs.Prelude.{◌≡◌, ℕ, ◌≤◌, List, Option, None, Some}
use Rattle.tl_cert.specs.declared.certificate.Certificate.{Certificate}
use Rattle.tl_problem.specs.declared.placed.Placed.{Placed}
use Rattle.tl_problem.specs.Problem.{ProblemModel}
use Rattle.tl_table.specs.declared.cell.Table.{Table}
use Rattle.tl_narrow.specs.declared.slim.Slim.{Slim}
use Rattle.tl_lay.specs.declared.task.Task.{Task}
use Rattle.tl_lay.specs.Tidied.{IsChosenWithin, IsLeftOpen, IsMet, IsOwnProblem, laid_with, with_kept}

module _ (task : Task) (table : Table) (height : ℕ) where
  -- these are the widths of the chosen placement
  pub record HasWidths (problem : ProblemModel) (widths : List ℕ) : Type 0 where
    pub placed : Placed
    pub within : IsChosenWithin task table height problem placed
    pub low : placed.height ≤ height
    pub same : widths ≡ placed.widths

  -- the widths that are chosen on this problem, or that the choice is left open
  abbrev pub AreChosenOn : ProblemModel → Option (List ℕ) → Type 0
  AreChosenOn problem None = IsLeftOpen task table height problem
  AreChosenOn problem (Some widths) = HasWidths problem widths

  -- and on the problem of the certificate
  abbrev pub AreChosenIn : Certificate → Option (List ℕ) → Type 0
  AreChosenIn certificate widths = (problem : ProblemModel) × IsOwnProblem table task.style certificate problem
      × AreChosenOn problem widths

  -- and on that of the certificate of the narrowest page
  abbrev pub AreChosenAmong : Slim → Option (List ℕ) → Type 0
  AreChosenAmong slim widths = (kept : Certificate) × (problem : ProblemModel) × IsMet task table height slim kept problem
      × AreChosenOn problem widths

-- the certificate that is kept, where there is one, with other widths of the table itself
abbrev pub laid_kept : Slim → Option Certificate → List ℕ → Slim
laid_kept slim None widths = slim
laid_kept slim (Some kept) widths = with_kept slim (laid_with kept widths)
