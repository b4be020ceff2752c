use Rattle.std.proofs.Common.{◌≡◌, ◌<◌, ◌≤◌, ℕ, length}
use Rattle.std.specs.List.{Any}
use Rattle.tl_problem.specs.inner.Axes.{start_of}
use Rattle.tl_problem.proofs.sound.each_begins.Given as goal

abbrev pub invariant-loop-place : goal.invariant-loop-place
invariant-loop-place l = (l.number ≤ length l.cells)
    × ((place : ℕ) → place < l.place → Any (λ cell. start_of l.axis cell ≡ place) l.cells)
