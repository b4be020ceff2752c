use Rattle.std.proofs.Common.{◌++◌, ◌∷◌, [], refl, sym, ap, ◌∙◌, subst}
use Rattle.tl_problem.specs.Zones.{IsZone}
use Rattle.tl_problem.proofs.ZoneLaws.{whole-is_zone}
use Rattle.tl_solve.specs.Arenas.{IsBoundFound}
use Rattle.tl_solve.proofs.ArenaLaws.{arena-opened}
use Rattle.tl_solve.proofs.arena.Arena.open.Goals as goal

pub bound_of-bound-requires-clause-zone : goal.bound_of-bound-requires-clause-zone
bound_of-bound-requires-clause-zone c = subst (IsZone c.args.problem.now) (sym c.in_ok-whole.ensures)
    (whole-is_zone c.args.problem.now)

pub returns-clause-arena : goal.returns-clause-arena
returns-clause-arena c =
    let p = c.args.problem.now in
    arena-opened p c.bound_of-bound.ensures.work_of.sound _ c.bound_of-bound.result
    c.in_ok-best.ensures.opening
    c.in_ok-best.ensures.tight c.bound_of-bound.ensures.work_of c.new-2.ensures
    (c.in_ok-push.ensures.items ∙ ap (λ zs. zs ++ c.in_ok-whole.whole ∷ []) c.new-zones.ensures.items ∙ ap (λ z. z ∷ [])
    c.in_ok-whole.ensures)
    (c.in_ok-push-2.ensures.items ∙ ap (λ bs. bs ++ c.bound_of-bound.result ∷ []) c.new-bounds.ensures.items)
    (subst (λ zone. IsBoundFound p zone c.bound_of-bound.result) c.in_ok-whole.ensures c.bound_of-bound.ensures.bound) refl
