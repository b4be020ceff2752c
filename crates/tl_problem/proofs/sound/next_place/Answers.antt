-- Where cells stand between a place and the next column, the widest of them may move the column; elsewhere none does.
use Rattle.std.proofs.Common.{◌≡◌, ◌+◌, ◌*◌, max, get_or, None, Some, arith, inl}
use Rattle.tl_problem.proofs.Soundness.{next-skip, next-more}
use Rattle.tl_problem.proofs.sound.next_place.Goals as goal
use Rattle.tl_problem.proofs.sound.next_place.Goals.{in-Some, in_default}

pub loop-left-init : goal.loop-left-init
loop-left-init c = λ cells grid are. record {
  gaps = omega (arith, c.from.ensures, c.from-2.ensures);
  rooms = λ k below up ends. absurd (omega arith);
  attained = inl (omega (arith, c.from.ensures, c.from-2.ensures));
}

pub loop-left-preserved : goal.loop-left-preserved
loop-left-preserved c = λ cells grid are.
    let left = c.loop-left.left in
    let column = c.args.column in
    let widest = c.args.widest.now in
    let before = c.loop-left.invariant cells grid are in
    let pair : left * c.args.side + (column + 1) ≡ left * c.args.side + column + 1 = omega arith in
    elim c.match-widest-left.branch [
      | in-Some w ↦
          let is : get_or widest (left * c.args.side + (column + 1)) None ≡ Some w.in-Some.least = rw pair w.in-Some.is in
          let more = next-more c.args.side c.args.gap cells grid widest are left c.args.places.now column c.loop-left.place c.requires.inside
          before w.in-Some.least is in
          let new : c.match-widest-left.place ≡ max c.loop-left.place (get_or c.args.places.now left 0 + w.in-Some.least
          + c.args.gap) =
          omega (
            arith,
            w.place-is,
            w.max-place.ensures,
            w.from-in-Some.ensures,
            w.from-in-Some-2.ensures,
            w.from-in-Some-3.ensures,
          ) in
          rw new more
      | in_default w ↦
          let clear : get_or widest (left * c.args.side + (column + 1)) None ≡ None = rw pair w.in_default.is in
          rw w.place-is
          (next-skip c.args.side c.args.gap cells grid widest are left c.args.places.now column c.loop-left.place c.requires.inside before clear)
    ]

pub returns : goal.returns
returns c = λ cells grid are.
    let all : c.loop-left.left ≡ c.args.column + 1 = omega (arith, c.loop-left-test.false, c.loop-left.auto.left-end) in
    rw all at (c.loop-left.invariant cells grid are)
