-- The rows that are read are those of the old bounds_of: the one in turn is not yet improved, and the one that the ways go on
-- by never is.
use Rattle.std.proofs.Common.{◌≡◌, ◌+ℤ◌, ◌≤ℤ◌, ℤ, arith, sym, ◌∙◌, pos}
use Rattle.std.specs.Int.{w32}
use mir.Val.{to_z, of_z}
use Rattle.std.proofs.lemmas.Int.{ints}
use Rattle.tl_diff.specs.Bounds.{bounds_of, bound_at}
use Rattle.tl_diff.specs.inner.Closed.{AtMost}
use Rattle.tl_diff.proofs.RowLemmas.{row_same, none_from, IsImproved-skip, IsImproved-row}
use Rattle.tl_diff.proofs.insertion.improve.Goals as goal
use Rattle.tl_diff.proofs.insertion.improve.Goals.{in-Some, in_default}

pub improve_row-requires-clause-way_low : goal.improve_row-requires-clause-way_low
improve_row-requires-clause-way_low c =
    let old = sym (c.loop-variable.invariant.rest c.loop-variable.variable c.args.a c.loop-variable-test.true c.requires.begins
    (omega arith)) ∙ c.in-Some.is in
    omega (
      arith,
      ints,
      c.requires.small c.loop-variable.variable c.loop-variable-test.true c.args.a c.in-Some.way
          c.requires.begins old,
    )

pub improve_row-requires-clause-way_high : goal.improve_row-requires-clause-way_high
improve_row-requires-clause-way_high c =
    let old = sym (c.loop-variable.invariant.rest c.loop-variable.variable c.args.a c.loop-variable-test.true c.requires.begins
    (omega arith)) ∙ c.in-Some.is in
    omega (
      arith,
      ints,
      c.requires.small c.loop-variable.variable c.loop-variable-test.true c.args.a c.in-Some.way
          c.requires.begins old,
    )

pub improve_row-requires-clause-variable_small : goal.improve_row-requires-clause-variable_small
improve_row-requires-clause-variable_small c = λ q e within is.
    c.requires.small c.loop-variable.variable c.loop-variable-test.true q e within
    (sym (c.loop-variable.invariant.rest c.loop-variable.variable q c.loop-variable-test.true within (omega arith)) ∙ is)

pub improve_row-requires-clause-to_small : goal.improve_row-requires-clause-to_small
improve_row-requires-clause-to_small c = λ q e within is.
    let most : ℤ = to_z w32 (of_z w32 c.args.most) in
    let same : most ≡ c.args.most = omega (arith, ints) in
    let row = row_same c.args.variables c.args.rows.now c.loop-variable.rows c.args.a c.args.b most c.loop-variable.variable
    c.requires.begins
    c.requires.ends c.loop-variable-test.true
    (λ t h. omega (arith, ints, same, c.requires.no_cycle t h)) c.loop-variable.invariant q within in
    c.requires.small c.args.b c.requires.ends q e within (sym row ∙ is)

pub loop-variable-preserved : goal.loop-variable-preserved
loop-variable-preserved c =
    let most : ℤ = to_z w32 (of_z w32 c.args.most) in
    let same : most ≡ c.args.most = omega (arith, ints) in
    let no_cycle = λ (t : ℤ) (h : AtMost (bound_at (bounds_of c.args.variables c.args.rows.now) c.args.b c.args.a) t).
    let up : pos 0 ≤ℤ (t +ℤ most) = omega (arith, ints, same, c.requires.no_cycle t h) in up in
    elim c.match-rows-variable.branch [
      | in-Some w ↦
          let old = sym (c.loop-variable.invariant.rest c.loop-variable.variable c.args.a c.loop-variable-test.true
          c.requires.begins (omega arith))
          ∙ w.in-Some.is in
          let small = c.requires.small c.loop-variable.variable c.loop-variable-test.true c.args.a w.in-Some.way
          c.requires.begins old in
          let sum : to_z w32 (of_z w32 (to_z w32 (of_z w32 w.in-Some.way) +ℤ most)) ≡ w.in-Some.way +ℤ most =
          omega (arith, ints, small) in
          rw w.rows-is
          (IsImproved-row c.args.variables c.args.rows.now c.loop-variable.rows c.args.a c.args.b most c.loop-variable.variable
          c.requires.begins
          c.requires.ends c.loop-variable-test.true no_cycle c.loop-variable.invariant
          w.in-Some.way w.improve_row.new.rows w.in-Some.is (rw sum at w.improve_row.ensures))
      | in_default w ↦
          rw w.rows-is
          (IsImproved-skip c.args.variables c.args.rows.now c.loop-variable.rows c.args.a c.args.b most c.loop-variable.variable
          c.requires.begins
          c.requires.ends c.loop-variable-test.true no_cycle c.loop-variable.invariant
          (none_from _ w.in_default.not-Some))
    ]
