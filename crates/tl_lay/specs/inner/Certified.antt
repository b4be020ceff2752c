-- No public clause cites this file: it says which certificate a search leaves.
use Rattle.std.specs.Prelude.{◌≡◌, ℕ, List}
use Rattle.tl_cert.specs.declared.certificate.Certificate.{Certificate}
use Rattle.tl_cert.specs.declared.section.Section.{Section}
use Rattle.tl_table.specs.declared.cell.Table.{Table}
use Rattle.tl_nested.specs.Searched.{AreSectionsOf, AreWritable}
use Rattle.tl_lay.specs.declared.task.Task.{Task}
use Rattle.tl_lay.specs.Answers.{IsOutcomeOf}
use Rattle.tl_narrow.specs.Certified.{certificate_of}

-- the certificate has the sections of the search that is named, and claims what the last of them does
pub record IsFound (task : Task) (table : Table) (budget : ℕ) (certificate : Certificate) : Type 0 where
  pub sections : List Section
  pub expected : AreSectionsOf (IsOutcomeOf task.search task.workers budget) table task.style task.width budget sections
  pub writable : AreWritable sections
  pub made : certificate ≡ certificate_of task.width task.style budget sections
