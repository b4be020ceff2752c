-- A search before any cut.
use Rattle.std.proofs.Common.{ℕ, List, [], ◌∷◌, ◌++◌, Option, None, refl, ap, ◌∙◌}
use Rattle.tl_problem.specs.declared.placed.Placed.{Placed}
use Rattle.tl_branch.proofs.Walk.{learning-start}
use Rattle.tl_branch.proofs.learning.Learning.begin.Goals as goal

pub returns-clause-learning : goal.returns-clause-learning
returns-clause-learning c = learning-start c.args.problem.now _ c.in_ok-arena.ensures.arena c.in_ok-arena.ensures.no_cut
    c.in_ok-store.ensures.store c.in_ok-store.ensures.reserved c.in_ok-store.ensures.none c.new-2.ensures
    (c.in_ok-push.ensures.items ∙ ap (λ (xs : List (Option ℕ)). xs ++ None ∷ []) c.new-lines.ensures.items)
    (ap (λ (placed : Placed). placed.height) c.best.ensures) refl c.requires c.low_is_high.ensures
