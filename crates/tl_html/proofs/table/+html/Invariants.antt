use Rattle.std.proofs.Common.{◌≡◌, ◌≤◌, ◌++◌, drop, length, map}
use Rattle.tl_html.specs.Html.{blocks_html, cell_of, fill, flow_of}
use Rattle.tl_html.proofs.table.+html.Given as goal

-- the text so far with that of the blocks and layouts that are left is the whole, and so are the layouts left after them
abbrev pub invariant-write_blocks-loop-block : goal.invariant-write_blocks-loop-block
invariant-write_blocks-loop-block l =
    (l.next ≤ length l.inner)
    × (l.out ++ (blocks_html (map flow_of (drop l.block-index l.blocks)) (drop l.next l.inner)).text
    ≡ l.initial.out ++ (blocks_html (map flow_of l.blocks) (drop l.taken l.inner)).text)
    × ((blocks_html (map flow_of (drop l.block-index l.blocks)) (drop l.next l.inner)).rest
    ≡ (blocks_html (map flow_of l.blocks) (drop l.taken l.inner)).rest)

-- the cells so far with those that are left are all
abbrev pub invariant-fill_cells-loop-cell : goal.invariant-fill_cells-loop-cell
invariant-fill_cells-loop-cell l =
    (l.taken ≤ length l.inner)
    × (l.filled ++ fill (map cell_of (drop l.cell-index l.cells)) (drop l.taken l.inner) ≡ fill (map cell_of l.cells) l.inner)
