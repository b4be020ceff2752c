-- A bound that is read is one of the old bounds_of, so that the way over it fits.
use Rattle.std.proofs.Common.{◌≡◌, ◌+ℤ◌, ℤ, arith, sym, ◌∙◌}
use Rattle.std.specs.Int.{w32}
use mir.Val.{to_z, of_z}
use Rattle.std.proofs.lemmas.Int.{ints}
use Rattle.tl_diff.proofs.RowLemmas.{read_old, none_from, IsRowImproved-skip, IsRowImproved-write}
use Rattle.tl_diff.proofs.insertion.improve_row.Goals as goal
use Rattle.tl_diff.proofs.insertion.improve_row.Goals.{in-Some, in_default}

pub overflow_add-way : goal.overflow_add-way
overflow_add-way c =
    let old = read_old c.args.variables c.args.rows.now c.loop-end.rows c.args.variable c.args.b
    (to_z w32 (of_z w32 c.args.way)) c.loop-end.end
    c.requires.begins c.requires.ends c.loop-end-test.true c.loop-end.invariant in
    omega (arith, ints, c.requires.to_small c.loop-end.end c.in-Some.rest c.loop-end-test.true (sym old ∙ c.in-Some.is))

pub lesser_of-requires : goal.lesser_of-requires
lesser_of-requires c = λ e is.
    omega (
      arith,
      ints,
      c.requires.variable_small c.loop-end.end e c.loop-end-test.true
          (sym (c.loop-end.invariant.rest c.loop-end.end c.loop-end-test.true (omega arith)) ∙ is),
    )

pub loop-end-preserved : goal.loop-end-preserved
loop-end-preserved c =
    let way : ℤ = to_z w32 (of_z w32 c.args.way) in
    let old = read_old c.args.variables c.args.rows.now c.loop-end.rows c.args.variable c.args.b way c.loop-end.end
    c.requires.begins c.requires.ends
    c.loop-end-test.true c.loop-end.invariant in
    elim c.match-rows-b.branch [
      | in-Some w ↦
          let small = c.requires.to_small c.loop-end.end w.in-Some.rest c.loop-end-test.true (sym old ∙ w.in-Some.is) in
          let sum : to_z w32 (of_z w32 (way +ℤ to_z w32 (of_z w32 w.in-Some.rest))) ≡ way +ℤ w.in-Some.rest =
          omega (arith, ints, small) in
          rw w.rows-is
          (IsRowImproved-write c.args.variables c.args.rows.now c.loop-end.rows c.args.variable c.args.b way c.loop-end.end
          c.requires.begins
          c.requires.ends c.loop-end-test.true c.loop-end.invariant w.in-Some.rest w.lesser_of.result w.in-Some.is
          (rw sum at w.lesser_of.ensures))
      | in_default w ↦
          rw w.rows-is
          (IsRowImproved-skip c.args.variables c.args.rows.now c.loop-end.rows c.args.variable c.args.b way c.loop-end.end
          c.requires.begins
          c.requires.ends c.loop-end-test.true c.loop-end.invariant (none_from _ w.in_default.not-Some))
    ]
