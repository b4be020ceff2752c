-- A cell begins at each place before, and at this one.
use Rattle.std.proofs.Common.{◌≡◌, inl, inr, arith, subst}
use Rattle.std.specs.List.{Any}
use Rattle.std.proofs.lemmas.Bool.{cases_lt}
use Rattle.tl_problem.specs.inner.Axes.{start_of}
use Rattle.tl_problem.proofs.sound.each_begins.Goals as goal

pub loop-place-preserved : goal.loop-place-preserved
loop-place-preserved c = (
  omega (arith, c.in-Some.ensures.some),
  λ place below. elim (cases_lt place c.loop-place.place) [
    | inl before ↦ c.loop-place.invariant.1 place before
    | inr last ↦
        let here : c.loop-place.place ≡ place = omega arith in
        subst (λ at. Any (λ cell. start_of c.args.axis cell ≡ at) c.args.cells.now) here c.in-Some.ensures.there
  ],
)
