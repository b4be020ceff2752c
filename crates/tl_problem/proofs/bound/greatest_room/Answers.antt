-- The tightest bound between the edges of the cell's span is its greatest room and a gap.
use Rattle.std.proofs.Common.{◌≡◌, ◌+◌, ◌-◌, pos, arith}
use Rattle.std.specs.Int.{w32}
use mir.Val.{to_z, of_z}
use Rattle.std.proofs.lemmas.Int.{ints}
use Rattle.tl_diff.proofs.BoundLaws.{IsSome-greatest}
use Rattle.tl_problem.proofs.WorkLemmas.{greatest-room}
use Rattle.tl_problem.proofs.ConstraintLemmas.{greatest-some, greatest-small}
use Rattle.tl_problem.proofs.bound.greatest_room.Goals as goal

pub unwrap-apart-requires : goal.unwrap-apart-requires
unwrap-apart-requires c =
    IsSome-greatest c.args.matrix.now.bounds c.args.cell.now.left c.args.cell.now.right c.upper.result c.upper.ensures.exact
    (greatest-some c.args.problem.now c.requires.sound c.args.matrix.now.bounds c.requires.keeps c.args.cell.now.left
    c.args.cell.now.right
    c.requires.cell.columns.0 c.requires.cell.columns.1)

pub overflow_cast-result : goal.overflow_cast-result
overflow_cast-result c =
    let p = c.args.problem.now in
    let left = c.args.cell.now.left in
    let right = c.args.cell.now.right in
    let found = greatest-room p c.args.matrix.now.bounds c.requires.keeps left right c.requires.cell.columns.0
    c.requires.cell.columns.1
    c.unwrap-apart.result (rw c.unwrap-apart.ensures at c.upper.ensures.exact) in
    let small = greatest-small p c.requires.sound c.args.matrix.now.bounds c.requires.keeps left right c.requires.cell.columns.0
    c.requires.cell.columns.1 found.0 found.1.1 in
    let few = c.requires.sound.spaced.near in
    let m : to_z w32 (of_z w32 c.unwrap-apart.result) ≡ pos (found.0 + c.args.gap) =
    omega (arith, ints, found.1.0, small, few, c.requires.gap) in
    rw m (tt, omega (arith, small, few, c.requires.gap))

pub overflow_sub-result : goal.overflow_sub-result
overflow_sub-result c =
    let p = c.args.problem.now in
    let left = c.args.cell.now.left in
    let right = c.args.cell.now.right in
    let found = greatest-room p c.args.matrix.now.bounds c.requires.keeps left right c.requires.cell.columns.0
    c.requires.cell.columns.1
    c.unwrap-apart.result (rw c.unwrap-apart.ensures at c.upper.ensures.exact) in
    let small = greatest-small p c.requires.sound c.args.matrix.now.bounds c.requires.keeps left right c.requires.cell.columns.0
    c.requires.cell.columns.1 found.0 found.1.1 in
    let few = c.requires.sound.spaced.near in
    let m : to_z w32 (of_z w32 c.unwrap-apart.result) ≡ pos (found.0 + c.args.gap) =
    omega (arith, ints, found.1.0, small, few, c.requires.gap) in
    rw m (omega arith)

pub returns-clause-room : goal.returns-clause-room
returns-clause-room c =
    let p = c.args.problem.now in
    let left = c.args.cell.now.left in
    let right = c.args.cell.now.right in
    let found = greatest-room p c.args.matrix.now.bounds c.requires.keeps left right c.requires.cell.columns.0
    c.requires.cell.columns.1
    c.unwrap-apart.result (rw c.unwrap-apart.ensures at c.upper.ensures.exact) in
    let small = greatest-small p c.requires.sound c.args.matrix.now.bounds c.requires.keeps left right c.requires.cell.columns.0
    c.requires.cell.columns.1 found.0 found.1.1 in
    let few = c.requires.sound.spaced.near in
    let m : to_z w32 (of_z w32 c.unwrap-apart.result) ≡ pos (found.0 + c.args.gap) =
    omega (arith, ints, found.1.0, small, few, c.requires.gap) in
    let is : found.0 + c.args.gap - c.args.gap ≡ found.0 = omega arith in
    rw (m, is) found.1.1

pub returns-clause-small : goal.returns-clause-small
returns-clause-small c =
    let p = c.args.problem.now in
    let left = c.args.cell.now.left in
    let right = c.args.cell.now.right in
    let found = greatest-room p c.args.matrix.now.bounds c.requires.keeps left right c.requires.cell.columns.0
    c.requires.cell.columns.1
    c.unwrap-apart.result (rw c.unwrap-apart.ensures at c.upper.ensures.exact) in
    let small = greatest-small p c.requires.sound c.args.matrix.now.bounds c.requires.keeps left right c.requires.cell.columns.0
    c.requires.cell.columns.1 found.0 found.1.1 in
    let few = c.requires.sound.spaced.near in
    let m : to_z w32 (of_z w32 c.unwrap-apart.result) ≡ pos (found.0 + c.args.gap) =
    omega (arith, ints, found.1.0, small, few, c.requires.gap) in
    rw m (omega (arith, small))
