use Rattle.std.proofs.Common.{◌≡◌, ◌<◌, ◌≤◌, ◌++◌, ◌∷◌, [], length, refl, sym, ap, ◌∙◌, subst}
use Rattle.tl_problem.specs.Bounds.{IsBound}
use Rattle.tl_problem.specs.Placements.{AreLeast}
use Rattle.tl_problem.specs.Zones.{range_at, InZone, IsZone, lower_part, upper_part}
use Rattle.tl_problem.proofs.ZoneLaws.{lower-is_zone, upper-is_zone, lower-inside, upper-inside}
use Rattle.tl_cert.specs.Traces.{zone_of}
use Rattle.tl_solve.specs.Arenas.{IsKnownFor}
use Rattle.tl_solve.proofs.ArenaLaws.{known-part, known-lower, least-some}
use Rattle.tl_solve.proofs.ArenaLaws.{looked-lower, lowered-le, lowered-next, arena-item, arena-zone, cut-span, arena-more}
use Rattle.tl_solve.proofs.arena.Arena.cut.Goals as goal

pub cut-requires-clause-span : goal.cut-requires-clause-span
cut-requires-clause-span c =
    let old = c.args.self.now in
    let same = arena-item c.args.problem.now old c.requires.arena c.args.cut.zone c.index-zone.result.now c.requires.cut.stands.there
    c.index-zone.ensures in
    subst (λ zone. c.args.cut.span < length zone) (sym same)
    (cut-span c.args.problem.now old c.requires.arena c.args.cut c.requires.cut)

pub cut-requires-clause-first : goal.cut-requires-clause-first
cut-requires-clause-first c =
    let same = arena-item c.args.problem.now c.args.self.now c.requires.arena c.args.cut.zone c.index-zone.result.now
    c.requires.cut.stands.there c.index-zone.ensures in
    subst (λ zone. (range_at zone c.args.cut.span).first ≤ c.args.cut.class) (sym same) c.requires.cut.lower

pub cut-requires-clause-last : goal.cut-requires-clause-last
cut-requires-clause-last c =
    let same = arena-item c.args.problem.now c.args.self.now c.requires.arena c.args.cut.zone c.index-zone.result.now
    c.requires.cut.stands.there c.index-zone.ensures in
    subst (λ zone. c.args.cut.class < (range_at zone c.args.cut.span).last) (sym same) c.requires.cut.upper

pub look-requires-clause-zone : goal.look-requires-clause-zone
look-requires-clause-zone c =
    let p = c.args.problem.now in
    let old = c.args.self.now in
    let cut = c.args.cut in
    let zone = zone_of p old.trace cut.zone in
    let same = arena-item p old c.requires.arena cut.zone c.index-zone.result.now c.requires.cut.stands.there c.index-zone.ensures in
    let low : c.in_ok-lower.lower ≡ lower_part zone cut.span cut.class =
    c.in_ok-lower.ensures.lower ∙ ap (λ z. lower_part z cut.span cut.class) same in
    subst (IsZone p) (sym low) (lower-is_zone p c.requires.arena.work.sound zone
    (arena-zone p old c.requires.arena cut.zone c.requires.cut.stands.there) cut.span cut.class
    (cut-span p old c.requires.arena cut c.requires.cut) c.requires.cut.lower c.requires.cut.upper)

pub look-requires-2-clause-zone : goal.look-requires-2-clause-zone
look-requires-2-clause-zone c =
    let p = c.args.problem.now in
    let old = c.args.self.now in
    let cut = c.args.cut in
    let zone = zone_of p old.trace cut.zone in
    let same = arena-item p old c.requires.arena cut.zone c.index-zone.result.now c.requires.cut.stands.there c.index-zone.ensures in
    let high : c.in_ok-lower.upper ≡ upper_part zone cut.span cut.class =
    c.in_ok-lower.ensures.upper ∙ ap (λ z. upper_part z cut.span cut.class) same in
    subst (IsZone p) (sym high) (upper-is_zone p c.requires.arena.work.sound zone
    (arena-zone p old c.requires.arena cut.zone c.requires.cut.stands.there) cut.span cut.class
    (cut-span p old c.requires.arena cut c.requires.cut) c.requires.cut.lower c.requires.cut.upper)

pub least_in-requires-clause-zone : goal.least_in-requires-clause-zone
least_in-requires-clause-zone c =
    let p = c.args.problem.now in
    let old = c.args.self.now in
    let there = c.requires.cut.stands.there in
    let same = arena-item p old c.requires.arena c.args.cut.zone c.index-zone.result.now there c.index-zone.ensures in
    subst (IsZone p) (sym same) (arena-zone p old c.requires.arena c.args.cut.zone there)

-- the zone has widths, as it has a bound
pub unwrap-least-requires : goal.unwrap-least-requires
unwrap-least-requires c =
    let p = c.args.problem.now in
    let old = c.args.self.now in
    let same = arena-item p old c.requires.arena c.args.cut.zone c.index-zone.result.now c.requires.cut.stands.there
    c.index-zone.ensures in
    least-some p c.index-zone.result.now c.in_ok-least_in.field-0 c.requires.below.0
    (subst (λ z. IsBound p (InZone p z) c.requires.below.0) (sym same) c.requires.below.1) c.in_ok-least_in.ensures.widths

pub look-requires-clause-known : goal.look-requires-clause-known
look-requires-clause-known c =
    let p = c.args.problem.now in
    let old = c.args.self.now in
    let cut = c.args.cut in
    let zone = zone_of p old.trace cut.zone in
    let same = arena-item p old c.requires.arena cut.zone c.index-zone.result.now c.requires.cut.stands.there c.index-zone.ensures in
    let low : c.in_ok-lower.lower ≡ lower_part zone cut.span cut.class =
    c.in_ok-lower.ensures.lower ∙ ap (λ z. lower_part z cut.span cut.class) same in
    let found : AreLeast p.spacing.gap (InZone p c.index-zone.result.now) c.unwrap-least.result =
    rw c.unwrap-least.ensures at c.in_ok-least_in.ensures.widths in
    let least = subst (λ z. AreLeast p.spacing.gap (InZone p z) c.unwrap-least.result) same found in
    subst (λ part. IsKnownFor p part c.unwrap-least.result old.best.height) (sym low)
    (known-part p c.requires.arena.work.sound zone (lower_part zone cut.span cut.class) c.unwrap-least.result old.best.height
    (lower-inside p c.requires.arena.work.sound zone (arena-zone p old c.requires.arena cut.zone c.requires.cut.stands.there)
    cut.span cut.class (cut-span p old c.requires.arena cut c.requires.cut) c.requires.cut.lower c.requires.cut.upper)
    (c.requires.arena.looked cut.zone c.requires.cut.stands.there) least)

pub look-requires-2-clause-known : goal.look-requires-2-clause-known
look-requires-2-clause-known c =
    let p = c.args.problem.now in
    let old = c.args.self.now in
    let cut = c.args.cut in
    let zone = zone_of p old.trace cut.zone in
    let same = arena-item p old c.requires.arena cut.zone c.index-zone.result.now c.requires.cut.stands.there c.index-zone.ensures in
    let high : c.in_ok-lower.upper ≡ upper_part zone cut.span cut.class =
    c.in_ok-lower.ensures.upper ∙ ap (λ z. upper_part z cut.span cut.class) same in
    let found : AreLeast p.spacing.gap (InZone p c.index-zone.result.now) c.unwrap-least.result =
    rw c.unwrap-least.ensures at c.in_ok-least_in.ensures.widths in
    let least = subst (λ z. AreLeast p.spacing.gap (InZone p z) c.unwrap-least.result) same found in
    known-lower p c.in_ok-lower.upper c.unwrap-least.result old.best.height c.look.new.best.height
    (lowered-le old.best c.look.new.best c.look.ensures.lowered)
    (subst (λ part. IsKnownFor p part c.unwrap-least.result old.best.height) (sym high)
    (known-part p c.requires.arena.work.sound zone (upper_part zone cut.span cut.class) c.unwrap-least.result old.best.height
    (upper-inside p c.requires.arena.work.sound zone (arena-zone p old c.requires.arena cut.zone c.requires.cut.stands.there)
    cut.span cut.class (cut-span p old c.requires.arena cut c.requires.cut) c.requires.cut.lower c.requires.cut.upper)
    (c.requires.arena.looked cut.zone c.requires.cut.stands.there) least))

pub returns-clause-arena : goal.returns-clause-arena
returns-clause-arena c =
    let p = c.args.problem.now in
    let old = c.args.self.now in
    let cut = c.args.cut in
    let same = arena-item p old c.requires.arena cut.zone c.index-zone.result.now c.requires.cut.stands.there c.index-zone.ensures in
    arena-more p old _ cut c.in_ok-lower.lower c.in_ok-lower.upper c.in_ok-lower_bound.lower_bound c.in_ok-upper_bound.upper_bound
    c.requires.arena c.requires.cut c.requires.below c.requires.few (record {
      low_is = c.in_ok-lower.ensures.lower ∙ ap (λ z. lower_part z cut.span cut.class) same;
      high_is = c.in_ok-lower.ensures.upper ∙ ap (λ z. upper_part z cut.span cut.class) same;
      trace = c.in_ok-push-5.ensures.ok;
      zones = c.in_ok-push-2.ensures.items ∙ ap (λ zs. zs ++ c.in_ok-lower.upper ∷ []) c.in_ok-push.ensures.items;
      bounds = c.in_ok-push-4.ensures.items ∙ ap (λ bs. bs ++ c.in_ok-upper_bound.upper_bound ∷ []) c.in_ok-push-3.ensures.items;
      first_is = c.in_ok-lower_bound.ensures.bound;
      second_is = c.in_ok-upper_bound.ensures.bound;
      first_looked = looked-lower p c.in_ok-lower.lower c.look.new.best.height c.look-2.new.best.height
          (lowered-le c.look.new.best c.look-2.new.best c.look-2.ensures.lowered) c.in_ok-lower_bound.ensures.looked;
      second_looked = c.in_ok-upper_bound.ensures.looked;
      lowered = lowered-next old.best c.look.new.best c.look-2.new.best c.look.ensures.lowered c.look-2.ensures.lowered;
      tight = c.look-2.ensures.tight;
      opening = refl;
      work = c.look-2.ensures.work;
    })
