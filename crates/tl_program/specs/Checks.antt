-- What checking the certificate in a file comes to.
use Rattle.std.specs.Prelude.{◌≡◌, ℕ, List, [], Option}
use Rattle.tl_base.specs.Desk.{Files}
use Rattle.tl_command.specs.Ask.{Asked}
use Rattle.tl_table.specs.declared.cell.Table.{Table}
use Rattle.tl_lay.specs.declared.task.Task.{Task}
use Rattle.tl_lay.specs.declared.verdict.Verdict.{Verdict}
use Rattle.tl_lay.specs.Checks.{IsJudged}
use Rattle.tl_program.specs.declared.report.Report.{Report}
use Rattle.tl_program.specs.Asks.{fitted_in, judged_name}
use Rattle.tl_program.specs.Change.{Holds}
use Rattle.tl_program.specs.Deliveries.{Delivery}
use Rattle.tl_program.specs.Messages.{of_page}
use Rattle.tl_program.specs.Reports.{verdict_report}
use Rattle.tl_program.specs.Tasks.{task_of}

-- the text is judged for the table, and the verdict is reported
pub record IsJudgedAs (task : Task) (table : Table) (text : List ℕ) (report : Report) : Type 0 where
  pub verdict : Verdict
  pub judged : IsJudged task table text verdict
  pub so : report ≡ verdict_report verdict

-- the file of the certificate holds a text, which is judged for the table
abbrev pub IsJudgedIn : Task → Table → Option Files → List ℕ → Report → Type 0
IsJudgedIn task table files name report = (text : List ℕ) × Holds files name text × IsJudgedAs task table text report

-- the certificate is judged for the table, on the files as they are, and nothing is stored
pub record IsChecked (asked : Asked) (files : Option Files) (table : Table) (delivery : Delivery) : Type 0 where
  pub judged : IsJudgedIn (task_of asked) table files (judged_name asked) delivery.report
  pub most : delivery.most ≡ of_page (fitted_in asked) delivery.report
  pub no_file : delivery.stores ≡ []
