-- The arena has the cut, and its parts have no lines.
use Rattle.std.proofs.Common.{ℕ, List, [], ◌∷◌, ◌++◌, Option, None, refl, sym, ap, ◌∙◌, subst}
use Rattle.tl_problem.specs.declared.placed.Placed.{Placed}
use Rattle.tl_branch.specs.inner.Learnings.{HasLine}
use Rattle.tl_branch.proofs.Learnings.{learning-cut}
use Rattle.tl_branch.proofs.Zones.{has-two, two-has}
use Rattle.tl_branch.proofs.learning.Learning.cut.Goals as goal

pub returns-clause-learning : goal.returns-clause-learning
returns-clause-learning c = learning-cut c.args.problem.now c.args.self.now c.requires.learning c.args.cut c.requires.cut
    c.cut.new.self c.in_ok-cut.ensures.arena c.in_ok-cut.ensures.trace c.in_ok-cut.ensures.opening c.in_ok-cut.ensures.lowered
    c.requires.few c.requires.height c.requires.unclosed c.requires.going c.push-2.new.self
    (c.in_ok-push-2.ensures.items ∙ ap (λ (lines : List (Option ℕ)). lines ++ None ∷ []) c.in_ok-push.ensures.items)
    c.best.result.now.height (ap (λ (placed : Placed). placed.height) c.best.ensures)

pub returns-clause-cut : goal.returns-clause-cut
returns-clause-cut c =
    let items = c.in_ok-push-2.ensures.items ∙ ap (λ (lines : List (Option ℕ)). lines ++ None ∷ [])
    c.in_ok-push.ensures.items in
    record {
      trace = c.in_ok-cut.ensures.trace;
      lowered = c.in_ok-cut.ensures.lowered;
      low_is_high = refl;
      budget = refl;
      height = ap (λ (placed : Placed). placed.height) c.best.ensures;
      going = refl;
      lines = λ z has. subst (λ (lines : List (Option ℕ)). HasLine lines z) (sym items)
          (has-two c.args.self.now.lines.items z has);
      no_more = λ z has. two-has c.args.self.now.lines.items z (subst (λ (lines : List (Option ℕ)). HasLine lines z) items has);
    }
