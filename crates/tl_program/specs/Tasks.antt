-- What a command asks of a table: its options, each as it is given, or else a file of HTML, plain style, breaks between words,
-- the best-first search, one worker and a text page; and a certificate where there is a file for it.
use Rattle.std.specs.Prelude.{ℕ, Bool, true, false, List, [], Option, Some, None, is_some}
use Rattle.tl_base.specs.declared.breaking.Breaking.{Breaking}
use Rattle.tl_base.specs.declared.limits.TheConstants.{MAX_PAGE_WIDTH}
use Rattle.tl_base.specs.declared.breaking.Breaking.TheVariants.{Words, Wider}
use Rattle.tl_base.specs.declared.style.Style.{Style}
use Rattle.tl_base.specs.declared.style.Style.TheVariants as styles
use Rattle.tl_base.specs.declared.search.Search.TheVariants as searches
use Rattle.tl_command.specs.Ask.{Asked}
use Rattle.tl_command.specs.declared.options.BreakRule.{BreakRule}
use Rattle.tl_command.specs.declared.options.BreakRule.TheVariants as rules
use Rattle.tl_read.specs.declared.source.Source.{Source}
use Rattle.tl_read.specs.declared.source.Source.TheVariants.{Html, Csv}
use Rattle.tl_sides.specs.declared.align.Align.{Align}
use Rattle.tl_sides.specs.declared.align.Align.TheVariants as aligns
use Rattle.tl_lay.specs.declared.format.Format.{Format}
use Rattle.tl_lay.specs.declared.format.Format.TheVariants as formats
use Rattle.tl_lay.specs.declared.task.Task.{Task}
use Rattle.tl_program.specs.Asks.{certificate_name}

-- what is given, or else the default
abbrev pub given_or : {X : Type 0} → X → Option X → X
given_or default None = default
given_or default (Some given) = given

-- the style of the page
abbrev pub style_of : Asked → Style
style_of asked = given_or styles.Plain asked.options.style

-- how paragraphs are broken into lines where these words may break; they are whole before it is found which may
abbrev pub breaking_by : BreakRule → Breaking
breaking_by rules.Words = Words
breaking_by rules.Any = Wider 0
breaking_by (rules.Wider most) = Wider most
breaking_by rules.Fit = Words
breaking_by (rules.Fitted most) = Wider most

abbrev pub breaking_of : Asked → Breaking
breaking_of asked = breaking_by (given_or rules.Words asked.options.breaking)

-- what kind of file it is: a CSV file, with what is said of its head and its columns, or else HTML
abbrev pub source_by : Bool → Bool → List ℕ → Breaking → Source
source_by true head floors breaking = Csv head floors breaking
source_by false head floors breaking = Html breaking

abbrev pub source_of : Asked → Source
source_of asked = source_by asked.options.csv asked.options.head (given_or [] asked.options.least) (breaking_of asked)

-- how the page is written: as HTML, of which no space can be left out and which has no sides, or else as text, with or without
-- the spaces at the ends of its lines
abbrev pub format_by : Align → Bool → Bool → Format
format_by align trim true = formats.Html
format_by align true false = formats.Trimmed align
format_by align false false = formats.Text align

-- where no sides are given all lines stand at the left
abbrev pub format_of : Asked → Format
format_of asked = format_by (given_or (aligns.Columns []) asked.options.align) asked.options.trim asked.options.html

-- what is asked of the table, for pages of so many columns at most
abbrev pub task_on : ℕ → Asked → Task
task_on width asked = record {
  width = width;
  style = style_of asked;
  source = source_of asked;
  budget = asked.options.budget;
  search = given_or searches.Best asked.options.search;
  workers = given_or 1 asked.options.workers;
  format = format_of asked;
  certified = is_some (certificate_name asked);
}

-- what is asked of the table, where the number is the width of its page
abbrev pub task_of : Asked → Task
task_of asked = task_on asked.number asked

-- what is asked of the table, where its page may be as wide as any: the number is the most lines that it may have
abbrev pub slim_task : Asked → Task
slim_task asked = task_on MAX_PAGE_WIDTH asked
