-- How many lines a page has.
use Rattle.std.proofs.Common.{◌≡◌, ℕ, zero, suc, ◌+◌, ◌-◌, ◌*◌, List, [], ◌∷◌, ◌++◌, length, map, sum, refl, ◌∙◌, ap, arith}
use Rattle.std.specs.List.{flat_map}
use Rattle.std.proofs.lemmas.List.{length-append}
use Rattle.std.proofs.lemmas.List.FromFn.{length-map-range_with_len}
use Rattle.std.proofs.lemmas.List.Sums.{sum_by-cons}
use Rattle.tl_base.specs.Style.{row_gap_of, edge_of}
use Rattle.tl_base.specs.Sizes.{total}
use Rattle.tl_table.specs.declared.cell.Table.{Table, out-Table}
use Rattle.tl_table.specs.declared.layout.Layout.{Layout, out-Layout}
use Rattle.tl_table.specs.Layouts.{total_height}
use Rattle.tl_page.specs.declared.look.Look.{Look}
use Rattle.tl_page.specs.declared.strip.Gaps.{Gaps}
use Rattle.tl_page.specs.declared.strip.Strip.{Strip}
use Rattle.tl_page.specs.Pages.{IsPage, grid_of}
use Rattle.tl_page.specs.Pictures.{Picture, picture, picture_line, row_gaps, strip_lines}
use Rattle.tl_page.specs.Strips.{gap_after, strips_from, strips}
use Rattle.tl_page.proofs.HeadRows.{lines_beside}
use Rattle.tl_page.proofs.StripLemmas.{lines_from, lines-next}

-- a strip has as many lines as its size
strip_high : (picture : Picture) (strip : Strip) → length (strip_lines picture strip) ≡ strip.size
strip_high picture strip = length-map-range_with_len (picture_line picture strip) strip.from strip.size

-- the strips from a slot on
high-from : (picture : Picture) (gaps : Gaps) (edge slot from size : ℕ) (sizes : List ℕ) →
    length (flat_map (strip_lines picture) (strips_from gaps edge slot from (size ∷ sizes)))
    ≡ size + sum sizes + gaps.between * length sizes + lines_from gaps.lined slot (length sizes) + edge
high-from picture gaps edge slot from size [] =
    let inside : Strip = record { before = slot; after = slot; from = from; size = size } in
    let beyond : Strip = record { before = slot; after = slot + 1; from = from + size; size = edge } in
    omega (
      arith,
      length-append (strip_lines picture inside) (strip_lines picture beyond ++ []),
      length-append (strip_lines picture beyond) [],
      strip_high picture inside,
      strip_high picture beyond,
    )
high-from picture gaps edge slot from size (next ∷ sizes) =
    let gap = gap_after gaps slot in
    let inside : Strip = record { before = slot; after = slot; from = from; size = size } in
    let beyond : Strip = record { before = slot; after = slot + 1; from = from + size; size = gap } in
    let rest = flat_map (strip_lines picture) (strips_from gaps edge (slot + 1) (from + size + gap) (next ∷ sizes)) in
    let others = high-from picture gaps edge (slot + 1) (from + size + gap) next sizes in
    let head = sum_by-cons (λ x. x) next sizes in
    let product : gaps.between * length (next ∷ sizes) ≡ gaps.between * length sizes + gaps.between = grind arith in
    omega (
      arith,
      length-append (strip_lines picture inside) (strip_lines picture beyond ++ rest),
      length-append (strip_lines picture beyond) rest,
      strip_high picture inside,
      strip_high picture beyond,
      others,
      head,
      product,
      lines-next gaps slot (length sizes),
    )

high : (picture : Picture) (gaps : Gaps) (edge : ℕ) (sizes : List ℕ) →
    length (flat_map (strip_lines picture) (strips gaps edge sizes))
    ≡ total gaps.between (2 * edge + lines_from gaps.lined 1 (length sizes - 1)) sizes
high picture gaps edge [] = refl
high picture gaps edge (size ∷ sizes) =
    let first : Strip = record { before = 0; after = 1; from = 0; size = edge } in
    let rest = flat_map (strip_lines picture) (strips_from gaps edge 1 edge (size ∷ sizes)) in
    let others : length (size ∷ sizes) - 1 ≡ length sizes = omega arith in
    rw others (omega (
      arith,
      length-append (strip_lines picture first) rest,
      strip_high picture first,
      high-from picture gaps edge 1 edge size sizes,
    ))

pub as_high : (look : Look) (table : Table) (layout : Layout) (page : List (List ℕ)) → IsPage look table layout page →
    length page ≡ total_height look.style (out-Table table) (out-Layout layout)
as_high look table layout page (zero, shows) = absurd shows
as_high look table layout page (suc depth, shows) =
    ap length shows.drawn ∙ high (picture look.style (grid_of (out-Table table)) (out-Layout layout).widths (out-Layout layout).heights
    (map (λ content. content.lines) shows.contents))
    (row_gaps look.style (grid_of (out-Table table))) (edge_of look.style) (out-Layout layout).heights
    ∙ ap (λ (lines : ℕ). total (row_gap_of look.style) lines (out-Layout layout).heights)
    (lines_beside look.style (out-Table table) (length (out-Layout layout).heights) shows.rows)
