-- What a subject stands for: the document of a table on a page.
use Rattle.std.specs.Prelude.{◌≤◌}
use Rattle.tl_base.specs.declared.limits.TheConstants.{MAX_PAGE_WIDTH}
use Rattle.tl_form.specs.declared.subject.Due.{Due}
use Rattle.tl_form.specs.declared.subject.Subject.{Subject}
use Rattle.tl_form.specs.Expected.{Document, IsDocumentOf}
use Rattle.tl_form.specs.Expected as expected
use Rattle.tl_table.specs.Numbered.{AreByNumber}
use Rattle.tl_table.specs.Sound.{IsSound}

-- the document that the subject is
abbrev pub meant : Subject → Document
meant subject = record {
  table = subject.table.now;
  style = subject.style;
  page = subject.page;
  last = subject.last;
  least = subject.least.items;
}

-- the section that is due
abbrev pub due_of : Due → expected.Due
due_of due = record { table = due.table; width = due.width }

-- a subject of a sound table on a page
pub record IsSubject (subject : Subject) : Type 0 where
  pub sound : IsSound subject.table.now
  pub narrow : subject.page ≤ MAX_PAGE_WIDTH
  pub document : IsDocumentOf subject.table.now subject.style subject.page (meant subject)
  pub tables : AreByNumber subject.table.now subject.tables.items
