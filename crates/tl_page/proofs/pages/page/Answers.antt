-- The lines of the picture are those of the page.
use Rattle.std.proofs.Common.{ap, suc, ◌∙◌}
use Rattle.std.proofs.lemmas.List.{take_all}
use Rattle.tl_page.specs.Pages.{page_bytes}
use Rattle.tl_page.proofs.Blocks.{page_shown}
use Rattle.tl_page.proofs.pages.page.Goals as goal

pub returns : goal.returns
returns c = (
  c.in_ok-lines.lines,
  (
    suc c.in_ok-cells.ensures.depth,
    page_shown c.args.look c.args.table.now c.args.layout.now c.in_ok-cells.cells c.in_ok-lines.lines
        c.in_ok-cells.ensures c.in_ok-lines.ensures,
  ),
  c.loop-line.invariant ∙ ap page_bytes (take_all c.loop-line.line-index c.as_slice-line-items.result.now
      c.loop-line-test.false ∙ c.as_slice-line-items.ensures),
)
