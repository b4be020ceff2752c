-- What a search promises besides is what the search that is named does.
use Rattle.std.proofs.Common.{ℕ, sym, subst}
use Rattle.std.specs.Prelude.{IfOk}
use Rattle.tl_base.specs.declared.search.Search.{Search}
use Rattle.tl_base.specs.declared.search.Search.TheVariants.{Rounds}
use Rattle.tl_lay.specs.Answers.{IsOutcomeOf}
use Rattle.tl_lay.proofs.makers.NamedSolver.solve.Goals as goal

pub returns-in-Plain-clause-besides : goal.returns-in-Plain-clause-besides
returns-in-Plain-clause-besides g c =
    subst (λ (kind : Search). IfOk c.solve.result (IsOutcomeOf kind c.args.self.now.workers c.args.budget c.args.problem.now))
    (sym c.in-Plain.is) c.solve.ensures.besides

pub returns-in-Best-clause-besides : goal.returns-in-Best-clause-besides
returns-in-Best-clause-besides g c =
    subst (λ (kind : Search). IfOk c.solve-in-Best.result (IsOutcomeOf kind c.args.self.now.workers c.args.budget c.args.problem.now))
    (sym c.in-Best.is) c.solve-in-Best.ensures.besides

pub returns-in-Learn-clause-besides : goal.returns-in-Learn-clause-besides
returns-in-Learn-clause-besides g c =
    subst (λ (kind : Search). IfOk c.solve-in-Learn.result (IsOutcomeOf kind c.args.self.now.workers c.args.budget c.args.problem.now))
    (sym c.in-Learn.is) c.solve-in-Learn.ensures.besides

pub returns-in-Rounds-clause-besides : goal.returns-in-Rounds-clause-besides
returns-in-Rounds-clause-besides g c =
    subst (λ (kind : Search). IfOk c.solve-in-Rounds.result (IsOutcomeOf kind c.args.self.now.workers c.args.budget c.args.problem.now))
    (sym c.in-Rounds.is)
    (subst (λ (workers : ℕ). IfOk c.solve-in-Rounds.result (IsOutcomeOf Rounds workers c.args.budget c.args.problem.now))
    c.new-in-Rounds.ensures.workers c.solve-in-Rounds.ensures.besides)
