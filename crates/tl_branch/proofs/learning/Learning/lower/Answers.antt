-- The least of the bounds of zones that have neither a cut nor a line.
use Rattle.std.proofs.Common.{◌≡◌, ℕ, List, Option, length, ap, subst}
use Rattle.tl_problem.specs.declared.placed.Placed.{Placed}
use Rattle.tl_cert.specs.declared.trace.CutAt.{CutAt}
use Rattle.tl_solve.specs.CutsFound.{AreCutsOf}
use Rattle.tl_solve.specs.Ends.{IsLeastUpto}
use Rattle.tl_branch.specs.inner.Opens.{AreClosers}
use Rattle.tl_branch.proofs.Ends.{least-open}
use Rattle.tl_branch.proofs.learning.Learning.lower.Goals as goal

pub returns : goal.returns
returns c =
    let l = c.args.self.now in
    let least = c.least_standing.result in
    let cuts = c.in_ok-cuts.cuts.items in
    let closers = c.in_ok-closers.closers.items in
    let is_closers = subst (λ (xs : List (Option ℕ)). AreClosers cuts xs (length cuts) closers) c.deref-2.ensures.value
    (subst (λ (xs : List (Option ℕ)). AreClosers xs c.deref-2.result.now (length xs) closers) c.deref.ensures.value
    c.in_ok-closers.ensures) in
    let of_closers = subst (λ (xs : List (Option ℕ)). IsLeastUpto xs c.bounds.result.now c.best.result.now.height
    (length c.bounds.result.now) least) c.deref-3.ensures.value c.least_standing.ensures in
    let of_bounds = subst (λ (xs : List (Option ℕ)). IsLeastUpto closers xs c.best.result.now.height (length xs) least)
    c.bounds.ensures of_closers in
    let of_height = subst (λ (h : ℕ). IsLeastUpto closers l.arena.bounds.items h (length l.arena.bounds.items) least)
    (ap (λ (placed : Placed). placed.height) c.best.ensures) of_bounds in
    least-open c.args.problem.now l.arena.trace cuts l.lines.items closers l.arena.bounds.items
    (subst (λ (t : List CutAt). AreCutsOf t (length t) cuts) c.trace.ensures c.in_ok-cuts.ensures) c.requires.arena.bounds is_closers
    l.arena.best.height least of_height
