use Rattle.std.proofs.Common.{◌≡◌, ◌∷◌, ℕ, sym, subst, ap, arith, length}
use Rattle.std.proofs.lemmas.List.Elements.{All-head}
use Rattle.std.proofs.lemmas.Option.{MatchOption-at_some}
use Rattle.tl_base.proofs.Options.{match-none}
use Rattle.tl_cert.specs.declared.trace.CutAt.{CutAt}
use Rattle.tl_cert.specs.Traces.{Stands, zone_of}
use Rattle.tl_astar.specs.Best.{IsShut}
use Rattle.tl_astar.specs.inner.Frontier.{IsUnderBounds}
use Rattle.tl_cert.specs.Worked.{IsBoundOf}
use Rattle.tl_solve.specs.declared.arena.Arena.{Arena}
use Rattle.tl_astar.specs.inner.Searches.{AreLeft, open_zones}
use Rattle.tl_astar.proofs.FrontierLaws.{frontier-shut}
use Rattle.tl_astar.proofs.SearchLaws.{left-kept, least-kept}
use Rattle.tl_astar.proofs.best.BestSolver.solve.Goals as goal

pub choose-requires-clause-stands : goal.choose-requires-clause-stands
choose-requires-clause-stands g c =
    let s = c.next.new.self in
    All-head (Stands s.arena.trace) c.in-Some.first.zone (open_zones s) c.in-Some.ensures.left.standing

pub cut-requires-clause-left : goal.cut-requires-clause-left
cut-requires-clause-left g c =
    let p = c.args.problem.now in
    let s = c.next.new.self in
    let t = c.choose.new.self in
    let told = c.in_ok-cut.ensures in
    let top = MatchOption-at_some _ (λ (cut : CutAt). cut.zone ≡ c.in-Some.first.zone) c.in-Some-2.cut c.in-Some-2.is told.shut in
    subst (λ z. AreLeft p t (z ∷ open_zones t)) (sym top)
    (left-kept p s t told.opens told.trace (λ zones. c.in-Some.first.zone ∷ zones) told.lowered c.in-Some.ensures.left)

pub cut-requires-clause-least : goal.cut-requires-clause-least
cut-requires-clause-least g c =
    let p = c.args.problem.now in
    let s = c.next.new.self in
    let t = c.choose.new.self in
    let told = c.in_ok-cut.ensures in
    let top = MatchOption-at_some _ (λ (cut : CutAt). cut.zone ≡ c.in-Some.first.zone) c.in-Some-2.cut c.in-Some-2.is told.shut in
    subst (λ z. (bound : ℕ) → IsBoundOf p t.arena.trace z bound → IsUnderBounds p t.arena.trace bound (open_zones t)) (sym top)
    (least-kept p s t told.opens told.trace c.in-Some.first.zone c.in-Some.ensures.least)

pub loop-first-preserved : goal.loop-first-preserved
loop-first-preserved g c =
    let p = c.args.problem.now in
    let s = c.next.new.self in
    let t = c.choose.new.self in
    let told = c.in_ok-cut.ensures in
    let z = c.in-Some.first.zone in
    let shut = match-none c.in_ok-cut.field-0 _ (λ (cut : CutAt). cut.zone ≡ z) told.shut c.in_default-2.not-Some in
    let left = left-kept p s t told.opens told.trace (λ zones. z ∷ zones) told.lowered c.in-Some.ensures.left in
    let same = told.trace in
    let here = subst (λ cuts. IsShut p (zone_of p cuts z) t.arena.best.height) (sym same) shut in
    record {
      search = told.search;
      left = frontier-shut p t.arena.trace t.arena.best.height z (open_zones t) left here;
      within = omega (
        arith,
        ap length same,
        ap length (ap (λ (a : Arena). a.trace) c.in-Some.ensures.arena),
        c.loop-first.invariant.within,
      );
      shown = λ none. absurd (c.if-cuts-budget.false
          (omega (
            arith,
            none,
            c.cuts.ensures,
            ap length (ap (λ (a : Arena). a.trace) c.in-Some.ensures.arena),
            c.loop-first.invariant.within,
          )));
    }
