-- Laws of pages: their height and width, and that they hold all text. Each is the contract of a function of `laws`.
use Rattle.std.specs.Prelude.{◌≡◌, ℕ, List, [], ◌∷◌, length, map}
use Rattle.std.specs.List.{AllByRecursion}
use Rattle.tl_text.specs.declared.paragraph.Atom.{Atom}
use Rattle.tl_text.specs.Cuttings.{joined, IsCutting}
use Rattle.tl_text.specs.Words.{width_of}
use Rattle.tl_table.specs.declared.cell.Table.{Table, out-Table}
use Rattle.tl_table.specs.declared.layout.Layout.{Layout, out-Layout}
use Rattle.tl_table.specs.Layouts.{Fits, total_width, total_height}
use Rattle.tl_table.specs.Sound.{IsSound}
use Rattle.tl_page.specs.declared.line.TextLine.{TextLine}
use Rattle.tl_page.specs.declared.look.Look.{Look}
use Rattle.tl_page.specs.Pages.{AreParagraphLines, IsPage, line_from}
use Rattle.tl_page.specs.Signs.{IsSign}
use Rattle.tl_page.specs.Standing.{HoldsAllText}
use Rattle.tl_page.specs.Widths.{TakesColumns}

-- each character that the lines of a table are drawn with takes one column, by the measure of its words
abbrev pub SignsTakeAColumn : Type 0
SignsTakeAColumn = (character : ℕ) → IsSign character → width_of (character ∷ []) ≡ 1

-- a page has as many lines as its layout is high
abbrev pub PagesAreAsHigh : Type 0
PagesAreAsHigh = (look : Look) (table : Table) (layout : Layout) (page : List (List ℕ)) → IsPage look table layout page →
    length page ≡ total_height look.style (out-Table table) (out-Layout layout)

-- the lines of a paragraph have all its units, whole and in order
abbrev pub ParagraphsAreWhole : Type 0
ParagraphsAreWhole = (w : ℕ) (paragraph : List Atom) (lines : List TextLine) → AreParagraphLines w paragraph lines →
    (cut : List (List (List Atom))) × IsCutting paragraph cut × (lines ≡ map line_from (joined cut))

-- each line of a page in a layout that fits is as wide as the layout
abbrev pub LinesAreAsWide : Type 0
LinesAreAsWide = (look : Look) (table : Table) (layout : Layout) (page : List (List ℕ)) (width height : ℕ) → IsSound table →
    Fits table look.style width height layout → IsPage look table layout page →
    AllByRecursion (λ line. TakesColumns line (total_width look.style (out-Layout layout))) page

-- a page in a layout that fits has all text of the table and of the tables nested in it, whole and in order
abbrev pub PagesHoldAllText : Type 0
PagesHoldAllText = (look : Look) (table : Table) (layout : Layout) (page : List (List ℕ)) (width height : ℕ) → IsSound table →
    Fits table look.style width height layout → IsPage look table layout page → HoldsAllText look table layout page
