use Rattle.std.proofs.Common.{IsTrue, false, inl, inr, sym, subst, rules}
use Rattle.tl_base.proofs.Options.{if_none}
use Rattle.tl_astar.specs.inner.Searches.{IsSearchOf}
use Rattle.tl_astar.proofs.SearchLaws.{search-asked}
use Rattle.tl_astar.proofs.search.Search.first_cut.Goals.{else-self-via-then-self+else-is_area_enough, else-self-via-else-self}
use Rattle.tl_astar.proofs.search.Search.first_cut.Goals as goal

not-true : IsTrue false → ⊥
not-true is = cc

pub returns-in_err-cut-clause-shut : goal.returns-in_err-cut-clause-shut
returns-in_err-cut-clause-shut c = if_none c.from_residual.result _ (inl c.in_err-cut.ensures.closed)

pub returns-then-is_area_enough-clause-shut : goal.returns-then-is_area_enough-clause-shut
returns-then-is_area_enough-clause-shut c =
    inr (c.requires.search.same_steps.0 (search rules), c.if-is_area_enough.ensures.area (search rules))

pub returns-then-is_area_enough-clause-search : goal.returns-then-is_area_enough-clause-search
returns-then-is_area_enough-clause-search c =
    search-asked c.args.problem.now c.args.self.now c.is_area_enough.new.arena c.requires.search c.is_area_enough.ensures.same

pub returns-clause-search : goal.returns-clause-search
returns-clause-search c =
    let is = c.requires.search in
    elim c.else-self.branch [
      | else-self-via-then-self+else-is_area_enough w ↦ subst (IsSearchOf c.args.problem.now) (sym w.self-is)
          (search-asked c.args.problem.now c.args.self.now _ is w.is_area_enough.ensures.same)
      | else-self-via-else-self w ↦ subst (IsSearchOf c.args.problem.now) (sym w.self-is) is
    ]

pub returns-clause-below_by_area : goal.returns-clause-below_by_area
returns-clause-below_by_area c = λ same.
    let bound = c.in_ok-cut.ensures.below in
    elim c.else-self.branch [
      | else-self-via-then-self+else-is_area_enough w ↦ elim (w.is_area_enough.ensures.below w.if-is_area_enough.false) [
        | inl none ↦ absurd (none bound.1.some.0 bound.1.some.1)
        | inr area ↦ area
      ]
      | else-self-via-else-self w ↦ absurd (not-true (subst IsTrue w.if-self.false (c.requires.search.same_steps.1 same)))
    ]
