-- The least places tell whether some widths are within the page.
use Rattle.std.proofs.Common.{◌≡◌, ◌≤◌, ◌+◌, ◌<◌, length, get_or, inl, inr, refl, arith, tests, ◌∙◌}
use Rattle.std.proofs.lemmas.Bool.{cases_lt, le-leb}
use Rattle.std.proofs.lemmas.List.{get_or-set_same, get_or-set_other, length-set}
use Rattle.tl_problem.specs.inner.Soundness.{IsNextPlace, AreLeastPlaces}
use Rattle.tl_problem.proofs.Soundness.{grid-places, least_places-none, least_places-more, not-past, fits-ends, ends-fit}
use Rattle.tl_problem.proofs.sound.fits_between.Goals as goal

pub find_widest-requires-clause-grid : goal.find_widest-requires-clause-grid
find_widest-requires-clause-grid c = grid-places c.args.side c.args.cells.now c.args.cols c.requires.few c.requires.grid

pub loop-column-init : goal.loop-column-init
loop-column-init c = (
  refl,
  (
    least_places-none c.args.cols c.args.spacing.gap c.args.cells.now c.requires.grid _ refl,
    λ k up. let first : k ≡ 0 = omega arith in rw first (omega arith),
  ),
)

pub returns-then-place-from : goal.returns-then-place-from
returns-then-place-from c = (
  λ yes. cc,
  λ fits.
      let next : IsNextPlace c.args.spacing.gap c.args.cells.now (c.loop-column.column + 1) c.loop-column.places
      c.loop-column.column c.next_place-place.result =
      (c.next_place-place.ensures c.args.cells.now (grid-places c.args.side c.args.cells.now c.args.cols
      c.requires.few c.requires.grid) c.find_widest.ensures) in
      absurd (not-past c.args.cols c.args.spacing c.args.width c.args.cells.now c.requires.grid c.loop-column.column
      c.next_place-place.result
      c.loop-column.places
      (omega (arith, c.loop-column-test.true)) c.loop-column.invariant.1.0 next
      (omega (arith, c.if-place-from.true, c.from.ensures)) fits),
)

pub loop-column-preserved : goal.loop-column-preserved
loop-column-preserved c =
    let places = c.loop-column.places in
    let column = c.loop-column.column in
    let place = c.next_place-place.result in
    let next : IsNextPlace c.args.spacing.gap c.args.cells.now (column + 1) places column place =
    (c.next_place-place.ensures c.args.cells.now (grid-places c.args.side c.args.cells.now c.args.cols
    c.requires.few c.requires.grid) c.find_widest.ensures) in
    let room : column + 1 < length places = omega (arith, c.loop-column.invariant.0, c.loop-column-test.true, c.requires.few) in (
      length-set places (column + 1) place ∙ c.loop-column.invariant.0,
      (
        least_places-more c.args.cols c.args.spacing.gap c.args.cells.now c.requires.grid column place places
            c.loop-column.invariant.1.0 next room,
        λ k up. elim (cases_lt k (column + 1)) [
          | inl before ↦ omega (
            arith,
            get_or-set_other places (column + 1) k place 0 (omega arith),
            c.loop-column.invariant.1.1 k (omega arith),
          )
          | inr last ↦ let e : k ≡ column + 1 = omega arith in
              rw e (omega (arith, get_or-set_same places (column + 1) place 0 room, c.if-place-from.false, c.from.ensures))
        ],
      ),
    )

pub returns : goal.returns
returns c =
    let all : c.loop-column.column ≡ c.args.cols = omega (arith, c.loop-column-test.false, c.loop-column.auto.column-end) in
    let are : AreLeastPlaces c.args.spacing.gap c.args.cells.now c.args.cols c.loop-column.places =
    rw all at c.loop-column.invariant.1.0 in
    let some : 0 < c.args.cols = omega (arith, c.if-cols-eq0.false) in (
      λ yes.
          let within : get_or c.loop-column.places c.args.cols 0 + c.args.spacing.edges ≤ c.args.width + c.args.spacing.gap =
          grind (arith, tests, yes) in
          ends-fit c.args.cols c.args.spacing c.args.width c.args.cells.now c.requires.grid c.loop-column.places are some
          (omega (arith, within)),
      λ fits.
          let ends = fits-ends c.args.cols c.args.spacing c.args.width c.args.cells.now c.requires.grid c.loop-column.places are
          some fits in
          le-leb (get_or c.loop-column.places c.args.cols 0 + c.args.spacing.edges) (c.args.width + c.args.spacing.gap)
          (omega (arith, ends)),
    )
