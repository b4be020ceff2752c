-- A block that fits: a paragraph has a cutting, and a nested table the next layout.
use Rattle.std.proofs.Common.{◌≡◌, ℕ, ◌+◌, ◌<◌, ◌≤◌, List, [], ◌∷◌, ◌++◌, length, drop, get_or, map, refl, sym, ◌∙◌, ap, subst, suc}
use Rattle.std.proofs.Common.{arith}
use Rattle.std.proofs.lemmas.List.{get_or-drop, drop_more, length-drop}
use Rattle.std.specs.declared.alloc.Global.{Global}
use Rattle.std.specs.declared.boxed.Box.{Box}
use Rattle.tl_base.specs.declared.style.Style.{Style}
use Rattle.tl_base.specs.Style.{row_gap_of}
use Rattle.tl_base.proofs.SizeLaws.{spacing-sound}
use Rattle.tl_sides.specs.declared.side.Side.{Side}
use Rattle.tl_text.specs.declared.paragraph.Atom.{Atom}
use Rattle.tl_text.specs.Cuttings.{HasCutting}
use Rattle.tl_table.specs.declared.cell.Content.TheOpen as open_content
use Rattle.tl_table.specs.declared.cell.Table.{Table, out-Table}
use Rattle.tl_table.specs.declared.layout.Layout.{Layout, out-Layout}
use Rattle.tl_page.specs.declared.line.Drawn.{Drawn}
use Rattle.tl_page.specs.declared.line.TextLine.{TextLine}
use Rattle.tl_page.specs.declared.look.Look.{Look}
use Rattle.tl_page.specs.Pages.{AreParagraphLines, ShowsWithin, aligned, nested_lines}
use Rattle.tl_page.specs.Pictures.{lines_of}
use Rattle.tl_page.specs.inner.Contents.{FitsPage, FitsBlockRoom, ShowsPart, ShowsCells, picture_with}

-- ---- styles

pub row_gap-small : (style : Style) → row_gap_of style ≤ 2
row_gap-small style = omega (arith, (spacing-sound style 0 (omega arith)).close)

-- ---- paragraphs

pub paragraph_fits : (style : Style) (w : ℕ) (paragraph : List Atom) (inner : List Layout) (next : ℕ) →
    FitsBlockRoom style w (open_content.Para paragraph) inner next → HasCutting w paragraph
paragraph_fits style w paragraph inner next fit = (fit.fits.0.0, fit.fits.0.1, fit.fits.0.2)

pub paragraph_shown : (look : Look) (side : Side) (w : ℕ) (paragraph : List Atom) (inner : List Layout) (next : ℕ)
    (before lines more : List TextLine) →
    AreParagraphLines w paragraph more → lines ≡ before ++ map (aligned side w) more →
    ShowsPart look side w (open_content.Para paragraph) inner next next before lines
paragraph_shown look side w paragraph inner next before lines more are written = record {
  depth = 0;
  content = record { lines = map (aligned side w) more; inner = [] };
  shows = record { lines = more; cut = are; at_side = refl; inner = refl };
  written = written;
  rest = refl;
}

-- ---- nested tables

module _ (style : Style) (w : ℕ) (table : Table) (inner : List Layout) (next : ℕ) where
  -- what is said of a block that is a table
  pub record FitsNested : Type 0 where
    pub layout : Layout
    pub more : List Layout
    pub here : drop next inner ≡ layout ∷ more
    pub fits : FitsPage style table layout

  pub nested_within : FitsNested → next < length inner
  nested_within fit = omega (arith, length-drop next inner, ap length fit.here)

  pub nested_fits : (layout : Layout) → FitsNested → layout ≡ get_or inner next layout → FitsPage style table layout
  nested_fits layout fit is =
      let place : next + 0 ≡ next = omega arith in
      let same : get_or inner (next + 0) layout ≡ fit.layout =
      sym (get_or-drop next inner 0 layout) ∙ ap (λ rest. get_or rest 0 layout) fit.here in
      let at : get_or inner next layout ≡ fit.layout = rw place at same in
      subst (FitsPage style table) (sym (is ∙ at)) fit.fits

-- the lines of a page with cells that show their content
pub page_shown : (look : Look) (table : Table) (layout : Layout) (cells : List Drawn) (page : List (List ℕ)) →
    (shows : ShowsCells look table layout cells) →
    page ≡ lines_of (picture_with look.style (out-Table table) (out-Layout layout) cells) →
    ShowsWithin (suc shows.depth) look table layout page
page_shown look table layout cells page shows drawn = record {
  contents = shows.contents;
  cells = shows.shows;
  inner = shows.inner;
  rows = shows.rows;
  drawn = drawn ∙ ap (λ cells. lines_of (picture_with look.style (out-Table table) (out-Layout layout) cells)) shows.drawn;
}

-- a nested table is given the next layout
pub nested_given : (style : Style) (w : ℕ) (box : Box Table Global) (inner : List Layout) (next : ℕ) →
    FitsBlockRoom style w (open_content.Table box) inner next → FitsNested style w box.value inner next
nested_given style w box inner next fit = record {
  layout = fit.fits.layout;
  more = fit.more;
  here = sym fit.rest ∙ ap (λ given. given ++ fit.more) fit.fits.given;
  fits = (w, fit.fits.height, fit.narrow, omega (arith, fit.fits.within, fit.low), (fit.depth, fit.fits.laid));
}

-- a nested table stands as its page
pub nested_shown : (look : Look) (side : Side) (w : ℕ) (box : Box Table Global) (inner : List Layout) (next : ℕ) (layout : Layout)
    (cells : List Drawn)
    (page : List (List ℕ))
    (before lines : List TextLine) → layout ≡ get_or inner next layout → next < length inner →
    ShowsCells look box.value layout cells →
    page ≡ lines_of (picture_with look.style (out-Table box.value) (out-Layout layout) cells) →
    lines ≡ before ++ nested_lines look.style layout page →
    ShowsPart look side w (open_content.Table box) inner next (next + 1) before lines
nested_shown look side w box inner next layout cells page before lines is within shows drawn written = record {
  depth = suc shows.depth;
  content = record { lines = nested_lines look.style layout page; inner = layout ∷ [] };
  shows = record {
    layout = layout;
    page = page;
    shown = page_shown look box.value layout cells page shows drawn;
    lines = refl;
    inner = refl;
  };
  written = written;
  rest = ap (λ first. first ∷ drop (next + 1) inner) is ∙ sym (drop_more inner next layout within);
}
