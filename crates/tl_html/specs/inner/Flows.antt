-- No public clause cites this file. Flows written one after the other, with the layouts of nested tables that they take.
use Rattle.std.specs.Prelude.{◌≡◌, ℕ, ◌≤◌, List, ◌++◌, drop, length}
use Rattle.tl_table.specs.declared.layout.Layout.{Layout}
use Rattle.tl_html.specs.declared.filled.Filled.{Filled}
use Rattle.tl_html.specs.Html.{Block, HtmlCell}

-- a flow's text was appended, and of the layouts, of which `taken` had been taken, `next` are taken after it
pub record Flowed (flow : Block) (inner : List Layout) (taken next : ℕ) (old new : List ℕ) : Type 0 where
  pub text : new ≡ old ++ (flow (drop taken inner)).text
  pub rest : (flow (drop taken inner)).rest ≡ drop next inner
  pub within : next ≤ length inner

-- a cell was given the text of its flow
pub record IsFilled (cell : HtmlCell) (inner : List Layout) (taken next : ℕ) (filled : Filled) : Type 0 where
  pub is : filled ≡ record {
    kind = cell.kind;
    place = cell.place;
    least = cell.least;
    text =
        (cell.flow (drop taken inner)).text;
  }
  pub rest : (cell.flow (drop taken inner)).rest ≡ drop next inner
  pub within : next ≤ length inner
