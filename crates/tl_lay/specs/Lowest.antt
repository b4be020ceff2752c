-- The theorem. Of bytes that are a table, `lay` answers with the lowest page that there is: no layout of the table that fits the
-- page width has fewer lines. HTML is the table that it spells, a CSV file that of its records (`IsTableOfFile`).
use Rattle.std.specs.Prelude.{◌≡◌, ⊤, ℕ, ◌<◌, ◌≤◌, true, List, Option, Some}
use Rattle.tl_cert.specs.declared.certificate.Certificate.{Certificate}
use Rattle.tl_cert.specs.declared.certificate.Claim.TheVariants as claims
use Rattle.tl_cert.specs.Faults.{IsTextOf}
use Rattle.tl_table.specs.declared.cell.Table.{Table}
use Rattle.tl_table.specs.declared.layout.Layout.{Layout, out-Layout}
use Rattle.tl_table.specs.Chains.{IsChain}
use Rattle.tl_table.specs.Layouts.{Fits, total_width}
use Rattle.tl_table.specs.Least.{IsLeastWidth}
use Rattle.tl_table.specs.Sound.{IsSound}
use Rattle.tl_read.specs.Reading.{IsTableOfFile, breaking_in}
use Rattle.tl_narrow.specs.Slimmest.{IsBelowCounts}
use Rattle.tl_lay.specs.declared.answer.Answer.{Answer}
use Rattle.tl_lay.specs.declared.answer.Answer.TheVariants as answers
use Rattle.tl_lay.specs.declared.task.Task.{Task}
use Rattle.tl_lay.specs.Answers.{IsWholePage}
use Rattle.tl_lay.specs.Budgets.{budget_in}

-- the bytes are this table
pub record IsTableIn (task : Task) (bytes : List ℕ) (table : Table) : Type 0 where
  pub is_table : IsTableOfFile task.source bytes table
  pub sound : IsSound table

-- this is the whole page of the table, in a layout of `height` lines and `taken` columns that fits a page of `width` columns
pub record IsPageOf (task : Task) (table : Table) (width height taken : ℕ) (page : List ℕ) : Type 0 where
  pub layout : Layout
  pub fits : Fits table task.style width height layout
  pub wide : taken ≡ total_width task.style (out-Layout layout)
  pub whole : IsWholePage task.format task.style (breaking_in task.source) table height layout page

-- no layout of the table that fits the page width has fewer lines than these
abbrev pub HasNoneBelow : Task → Table → ℕ → Type 0
HasNoneBelow task table lines = (height : ℕ) (layout : Layout) → Fits table task.style task.width height layout → lines ≤ height

-- where its text is wanted, it is that of a certificate that claims this width, with a chain of cells of the table that is as wide
abbrev pub ShowsChain : Task → Table → ℕ → Option (List ℕ) → Type 0
ShowsChain task table least text = task.certified ≡ true → (bytes : List ℕ) × (text ≡ Some bytes) × (certificate : Certificate)
    × IsTextOf bytes certificate × (certificate.claim ≡ claims.Narrow least) × IsChain table task.style certificate.chains least

-- no layout of the table fits the page width, as each needs at least so many columns
abbrev pub FitsNone : Task → Table → ℕ → Option (List ℕ) → Type 0
FitsNone task table least text = IsLeastWidth table task.style least × ShowsChain task table least text
    × ((height : ℕ) (layout : Layout) → Fits table task.style task.width height layout → ⊥)

-- what each answer of `lay` says of the bytes. Lowest: no layout is lower than this page. Bounded: none is below the lower bound,
-- and the budget of each search was below the count of what there is to search. Narrow: none fits. There is no other answer but a
-- refusal, of which `IsLaid` says why
abbrev pub Lays : Task → List ℕ → Answer → Type 0
Lays task bytes (answers.Lowest height width page text) = (table : Table) × IsTableIn task bytes table
    × IsPageOf task table task.width height width page × HasNoneBelow task table height
Lays task bytes (answers.Bounded height lower width page text) = (table : Table) × IsTableIn task bytes table
    × IsPageOf task table task.width height width page × HasNoneBelow task table lower × (lower < height)
    × IsBelowCounts table task.style task.width (budget_in task table)
Lays task bytes (answers.Narrow least width text) = (table : Table) × IsTableIn task bytes table × (width ≡ task.width)
    × FitsNone task table least text
Lays task bytes (answers.Refused refusal) = ⊤
Lays task bytes other = ⊥
