-- The part is placed, or its bound is enough, or its widths are known.
use Rattle.std.proofs.Common.{inr, inl, sym, ◌∙◌, subst, arith}
use Rattle.std.proofs.lemmas.Slice.Eq.{bytes_eq-Decides}
use Rattle.tl_problem.specs.Placements.{HasNoLower, IsOutline}
use Rattle.tl_problem.specs.Zones.{InZone}
use Rattle.tl_solve.proofs.looks.look.Goals as goal
use Rattle.tl_solve.proofs.looks.look.Goals.{then-outline-best+then-not-is_known+in_ok-place, else-outline-best}
use Rattle.tl_solve.proofs.looks.look.Goals.{else-outline-best-via-then-outline-best+else-not-is_known}
use Rattle.tl_solve.proofs.looks.look.Goals.{else-outline-best-via-else-outline-best}

pub returns-clause-looked : goal.returns-clause-looked
returns-clause-looked c =
    let p = c.args.problem.now in
    let outline = c.in-Some.outline in
    let is : IsOutline p (InZone p c.args.zone.now) outline = rw c.in-Some.is at c.in_ok-found.ensures.outline in
    elim c.if-outline-best.branch [
      | then-outline-best+then-not-is_known+in_ok-place w ↦
          rw w.best-is (inr (inr (outline.widths, is.widths, w.in_ok-place.ensures.looked)))
      | else-outline-best w ↦
          rw w.best-is (elim w.else-outline-best.branch [
            | else-outline-best-via-then-outline-best+else-not-is_known w' ↦
                let same = (bytes_eq-Decides outline.widths c.args.known.now).0
                (sym c.eq-is_known.ensures ∙ w'.if-not-is_known.false) in
                inr (inr (
                  outline.widths,
                  is.widths,
                  subst (λ widths. HasNoLower p widths c.args.best.now.height) (sym same)
                      (c.requires.known outline.bound is.bound w'.if-outline-best.true),
                ))
            | else-outline-best-via-else-outline-best w' ↦
                inr (inl (outline.bound, is.bound, omega (arith, w'.if-outline-best.false)))
          ])
    ]
