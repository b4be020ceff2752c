-- The definitions on small cases.
use Rattle.std.proofs.Common.{◌≡◌, ◌∙◌, ℕ, List, [], ◌∷◌, ◌++◌, length, Some, None, false, true, refl, ap, arith}
use Rattle.std.proofs.lemmas.List.{length-append}
use Rattle.std.proofs.lemmas.List.Concat.{flat_map-cons}
use Rattle.tl_base.specs.declared.breaking.Breaking.TheVariants.{Words}
use Rattle.tl_base.specs.declared.style.Style.TheVariants as styles
use Rattle.tl_base.specs.declared.search.Search.TheVariants.{Best}
use Rattle.tl_table.specs.declared.cell.Table.{Table}
use Rattle.tl_table.specs.declared.layout.Layout.{Layout}
use Rattle.tl_narrow.specs.declared.slim.Slim.{Slim}
use Rattle.tl_page.specs.Pages.{page_bytes}
use Rattle.tl_page.specs.Standing.{HoldsAllText}
use Rattle.tl_read.specs.declared.source.Source.TheVariants.{Html}
use Rattle.tl_sides.specs.declared.align.Align.TheVariants.{Columns, Auto}
use Rattle.tl_lay.specs.declared.answer.Answer.TheVariants as answers
use Rattle.tl_lay.specs.declared.answer.Evidence.{Evidence}
use Rattle.tl_lay.specs.declared.format.Format.TheVariants as formats
use Rattle.tl_lay.specs.declared.task.Task.{Task}
use Rattle.tl_lay.specs.Answers.{IsTextWanted, IsWholePage, look_of}
use Rattle.tl_lay.specs.Budgets.{budget_of}
use Rattle.tl_lay.specs.Lowest.{HasNoneBelow, Lays}
use Rattle.tl_lay.specs.Slimmed.{slim_answer}

-- an outer table alone is searched once; with one nested table on a page of 80 columns there are 81 searches; with 100 of
-- them 8,001
alone : budget_of None 1 ≡ 5000
alone = refl

one_nested : budget_of None 81 ≡ 5000
one_nested = refl

many_nested : budget_of None 8001 ≡ 249
many_nested = refl

given : budget_of (Some 100000) 81 ≡ 100000
given = refl

-- an empty file is no page of a layout of one line
no_line : (table : Table) (layout : Layout) → IsWholePage (formats.Text (Columns [])) styles.Plain Words table 1 layout [] → ⊥
no_line table layout whole = by_lines whole.0 whole.1.2 whole.2 where
  by_lines : (lines : List (List ℕ)) → length lines ≡ 1 → [] ≡ page_bytes lines → ⊥
  by_lines [] high same = omega (arith, high)
  by_lines (line ∷ lines) high same = omega (
    arith,
    ap length (same ∙ flat_map-cons (λ (l : List ℕ). l ++ 10 ∷ []) line lines),
    length-append (line ++ 10 ∷ []) (page_bytes lines),
    length-append line (10 ∷ []),
  )

-- the text of a page is that of the table, whole
holds_text : (table : Table) (height : ℕ) (layout : Layout) (page : List ℕ) →
    IsWholePage (formats.Text Auto) styles.Frame Words table height layout page →
    (lines : List (List ℕ)) × HoldsAllText (look_of styles.Frame Auto) table layout lines × (page ≡ page_bytes lines)
holds_text table height layout page whole = (whole.0, whole.1.1, whole.2)

-- a text that is not wanted is not there
not_wanted : (certificate : _) (text : List ℕ) → IsTextWanted false (Some certificate) (Some text) → ⊥
not_wanted certificate text is = none is.0 where
  none : Some text ≡ None → ⊥
  none e = absurd cc

-- a page of at most 7 columns
abbrev seven : Task
seven = record {
  width = 7;
  style = styles.Plain;
  source = Html Words;
  budget = None;
  search = Best;
  workers = 1;
  format = formats.Text (Columns []);
  certified = true;
}

-- nothing is known of a page
abbrev nothing : Evidence
nothing = record { page = None; kept = None; less = None; spent = None }

-- a search that found a page of `width` columns, and that the narrowest has at least `least`
abbrev found : ℕ → ℕ → Slim
found width least = record { width = width; least = least; kept = None; less = None; spent = None }

-- the widths meet at 5: no page of 3 lines is narrower
met : slim_answer seven 3 (found 5 5) nothing ≡ answers.Slimmest 5 3 nothing
met = refl

-- the page of 6 columns may be one too wide, as a page of 5 is not excluded
between : slim_answer seven 3 (found 6 5) nothing ≡ answers.Between (Some 6) 5 nothing
between = refl

-- no page was found yet, and one of 7 columns is not excluded
none_yet : slim_answer seven 3 (found 0 7) nothing ≡ answers.Between None 7 nothing
none_yet = refl

-- the narrowest would have more than 7 columns
too_tall : slim_answer seven 3 (found 0 8) nothing ≡ answers.TooTall 3 nothing
too_tall = refl

-- an answer that a page of 2 lines is the lowest leaves no layout of 1 line
none_of_one : (bytes page : List ℕ) (text : _) → Lays seven bytes (answers.Lowest 2 7 page text) →
    (table : Table) × HasNoneBelow seven table 2
none_of_one bytes page text says = (says.0, says.3)

-- and an answer that it may have 1 line leaves none without lines
none_of_none : (bytes page : List ℕ) (text : _) → Lays seven bytes (answers.Bounded 2 1 7 page text) →
    (table : Table) × HasNoneBelow seven table 1
none_of_none bytes page text says = (says.0, says.3)

-- `lay` never answers with the narrowest page, so a status that such a page has too means the lowest one
never_slim : (bytes : List ℕ) → Lays seven bytes (answers.Slimmest 5 3 nothing) → ⊥
never_slim bytes says = says
