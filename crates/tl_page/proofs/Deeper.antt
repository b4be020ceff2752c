-- What is a page by tables of some depth is one by those of any greater depth.
use Rattle.std.proofs.Common.{◌≡◌, ℕ, zero, suc, ◌+◌, List, subst, arith}
use Rattle.tl_align.specs.Sides.{side_of}
use Rattle.tl_base.proofs.Zips.{AllZip-weaker}
use Rattle.tl_sides.specs.declared.side.Side.{Side}
use Rattle.tl_table.specs.declared.cell.Content.{out-Content}
use Rattle.tl_table.specs.declared.cell.Content.TheOpen as open_content
use Rattle.tl_table.specs.declared.cell.Table.{Table, out-Table}
use Rattle.tl_table.specs.declared.cell.TableCell.{out-TableCell}
use Rattle.tl_table.specs.declared.layout.Layout.{Layout, out-Layout}
use Rattle.tl_table.specs.Tables.{OpenTable, OpenCell, OpenContent}
use Rattle.tl_table.specs.Layouts.{OpenLayout, width_for}
use Rattle.tl_page.specs.declared.look.Look.{Look}
use Rattle.tl_page.specs.Pages.{Content, ShowsBlock, ShowsCell, ShowsCellOf, ShowsBy, ShowsWithin}

module _ (some more : Table → Layout → List (List ℕ) → Type 0)
    (weaker : (table : Table) (layout : Layout) (page : List (List ℕ)) → some table layout page → more table layout page) where
  pub ShowsBlock-weaker : (look : Look) (side : Side) (w : ℕ) (block : OpenContent) (content : Content) →
      ShowsBlock some look side w block content →
      ShowsBlock more look side w block content
  ShowsBlock-weaker look side w (open_content.Para paragraph) content shows = shows
  ShowsBlock-weaker look side w (open_content.Table box) content shows = record {
    layout = shows.layout;
    page = shows.page;
    shown = weaker box.value shows.layout shows.page shows.shown;
    lines = shows.lines;
    inner = shows.inner;
  }

  pub ShowsCell-weaker : (look : Look) (side : Side) (w : ℕ) (cell : OpenCell) (content : Content) → ShowsCell some look side w cell content →
      ShowsCell more look side w cell content
  ShowsCell-weaker look side w cell content shows = record {
    parts = shows.parts;
    blocks = AllZip-weaker (λ block part. ShowsBlock some look side w (out-Content block) part)
        (λ block part. ShowsBlock more look side w (out-Content block) part)
        cell.blocks shows.parts (λ block part one. ShowsBlock-weaker look side w (out-Content block) part one) shows.blocks;
    lines = shows.lines;
    inner = shows.inner;
  }

  pub ShowsBy-weaker : (look : Look) (table : OpenTable) (layout : OpenLayout) (page : List (List ℕ)) →
      ShowsBy some look table layout page →
      ShowsBy more look table layout page
  ShowsBy-weaker look table layout page shows = record {
    contents = shows.contents;
    cells = AllZip-weaker (λ cell content. ShowsCellOf some look table layout (out-TableCell cell) content)
        (λ cell content. ShowsCellOf more look table layout (out-TableCell cell) content) table.cells shows.contents
        (λ cell content one. ShowsCell-weaker look (side_of look.align table (out-TableCell cell))
        (width_for look.style layout (out-TableCell cell).place) (out-TableCell cell) content one) shows.cells;
    inner = shows.inner;
    rows = shows.rows;
    drawn = shows.drawn;
  }

ShowsWithin-next : (depth : ℕ) (look : Look) (table : Table) (layout : Layout) (page : List (List ℕ)) →
    ShowsWithin depth look table layout page →
    ShowsWithin (suc depth) look table layout page
ShowsWithin-next zero look table layout page shows = absurd shows
ShowsWithin-next (suc depth) look table layout page shows =
    ShowsBy-weaker (ShowsWithin depth look) (ShowsWithin (suc depth) look) (ShowsWithin-next depth look) look
    (out-Table table)
    (out-Layout layout) page shows

pub ShowsWithin-deeper : (more depth : ℕ) (look : Look) (table : Table) (layout : Layout) (page : List (List ℕ)) →
    ShowsWithin depth look table layout page → ShowsWithin (more + depth) look table layout page
ShowsWithin-deeper zero depth look table layout page shows =
    let same : depth ≡ 0 + depth = omega arith in
    subst (λ (n : ℕ). ShowsWithin n look table layout page) same shows
ShowsWithin-deeper (suc more) depth look table layout page shows =
    let next : suc (more + depth) ≡ suc more + depth = omega arith in
    subst (λ (n : ℕ). ShowsWithin n look table layout page) next
    (ShowsWithin-next (more + depth) look table layout page (ShowsWithin-deeper more depth look table layout page shows))

pub ShowsWithin-deeper' : (more depth : ℕ) (look : Look) (table : Table) (layout : Layout) (page : List (List ℕ)) →
    ShowsWithin depth look table layout page → ShowsWithin (depth + more) look table layout page
ShowsWithin-deeper' more depth look table layout page shows =
    let turned : more + depth ≡ depth + more = omega arith in
    subst (λ (n : ℕ). ShowsWithin n look table layout page) turned (ShowsWithin-deeper more depth look table layout page shows)
