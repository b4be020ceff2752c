-- The cell before those that have their slots gets its own.
use Rattle.std.proofs.Common.{◌≡◌, ◌+◌, ◌-◌, ◌*◌, ◌<◌, Some, if◌then◌else◌, length, map, drop, get_or, sym, ap, ◌∙◌, subst, arith}
use Rattle.std.proofs.lemmas.List.{at_drop_more, get_or-map, length-map}
use Rattle.tl_table.specs.Sound.{place_of}
use Rattle.tl_grid.specs.Dropping.{IsPlaced}
use Rattle.tl_page.specs.Corners.{covers_slot, number_over}
use Rattle.tl_page.proofs.SlotLemmas.{one_more}
use Rattle.tl_page.proofs.owners.put_cells.Goals as goal

pub put_cell-requires : goal.put_cell-requires
put_cell-requires c =
    let cells = c.args.cells.now in
    let n = c.loop-number.number - 1 in
    let cell = get_or cells n c.index-cells-number.result in
    let within : n < length cells = omega arith in
    let many : n < length (map place_of cells) = omega (arith, length-map cells place_of) in
    let same : get_or (map place_of cells) n (place_of cell) ≡ place_of cell =
    get_or-map place_of cells n c.index-cells-number.result (place_of cell) within in (
      c.requires.0,
      c.loop-number.auto.slots ∙ c.requires.1,
      subst (IsPlaced c.args.cols c.requires.0) same
          (c.requires.2 n (place_of cell) many),
    )

pub loop-number-preserved : goal.loop-number-preserved
loop-number-preserved c =
    let cells = c.args.cells.now in
    let places = map place_of cells in
    let n = c.loop-number.number - 1 in
    let cell = get_or cells n c.index-cells-number.result in
    let within : n < length cells = omega arith in
    let many : n < length places = omega (arith, length-map cells place_of) in
    let same : get_or places n (place_of cell) ≡ place_of cell =
    get_or-map place_of cells n c.index-cells-number.result (place_of cell) within in
    let next : c.loop-number.number ≡ n + 1 = omega arith in
    record {
      within = omega arith;
      numbers = λ column row inside none.
          one_more (place_of cell) column row n (get_or c.put_cell.new.slots (row * c.args.cols + column) _)
          (get_or c.loop-number.slots (row * c.args.cols + column) _)
          (number_over (n + 1) (drop (n + 1) places) (column + 1) (row + 1))
          (c.put_cell.ensures.covered column row) (c.put_cell.ensures.other column row inside)
          (c.loop-number.invariant.numbers column row inside none ∙ ap
          (λ k. number_over k (drop k places) (column + 1) (row + 1)) next)
          ∙ ap (λ place. if covers_slot (column + 1) (row + 1) place then Some n else number_over (n + 1) (drop (n + 1) places)
          (column + 1)
          (row + 1)) (sym same)
          ∙ sym (at_drop_more (λ rest. number_over n rest (column + 1) (row + 1)) places n (place_of cell) many);
    }
