use Rattle.std.proofs.Common.{length, inr, sym, ap, ◌∙◌, subst, arith}
use Rattle.tl_base.proofs.Options.{if_none}
use Rattle.tl_problem.specs.Agreement.{HasOneClass}
use Rattle.tl_problem.specs.Zones.{range_at, whole_zone, IsFirstOpen}
use Rattle.tl_cert.specs.Traces.{zone_of}
use Rattle.tl_solve.specs.Arenas.{IsBoundFound}
use Rattle.tl_solve.proofs.Agreeing.{one_class-differ}
use Rattle.tl_solve.proofs.ArenaLaws.{arena-item, arena-zone}
use Rattle.tl_problem.proofs.SpanningLemmas.{spans-few}
use Rattle.tl_solve.proofs.ZoneLists.{zones-count}
use Rattle.tl_solve.proofs.arena.Arena.first_cut.Goals as goal

pub index-requires-2 : goal.index-requires-2
index-requires-2 c =
    let count = zones-count (whole_zone c.args.problem.now) c.args.self.now.trace c.args.self.now.zones.items
    c.requires.arena.zones in
    omega (arith, count, c.requires.there)

pub first_open-requires : goal.first_open-requires
first_open-requires c =
    let p = c.args.problem.now in
    let arena = c.args.self.now in
    let same = arena-item p arena c.requires.arena c.args.zone c.index-2.result.now c.requires.there c.index-2.ensures in
    let few = spans-few p c.requires.arena.work.sound in
    let spans = (arena-zone p arena c.requires.arena c.args.zone c.requires.there).spans in
    omega (arith, ap length (c.ranges-ranges.ensures ∙ same), few, spans)

pub returns-in_err-span-clause-closed : goal.returns-in_err-span-clause-closed
returns-in_err-span-clause-closed c =
    let p = c.args.problem.now in
    let arena = c.args.self.now in
    let z = c.args.zone in
    let zone = zone_of p arena.trace z in
    let same = arena-item p arena c.requires.arena z c.index-2.result.now c.requires.there c.index-2.ensures in
    let one : HasOneClass zone = subst HasOneClass (c.ranges-ranges.ensures ∙ same) c.in_err-span.ensures.none in
    let at = sym c.index.ensures ∙ c.in_ok-bound.was in
    let bound = subst (IsBoundFound p zone) at
    (c.requires.arena.bounds.each z c.index.result.now (omega (arith, c.requires.there, c.requires.arena.bounds.count))) in
    let differ = one_class-differ p zone c.requires.arena.work.sound (arena-zone p arena c.requires.arena z c.requires.there) one
    c.in_ok-bound.bound arena.best.height bound c.if-bound-self.false (c.requires.arena.looked z c.requires.there) in
    if_none c.from_residual-in_err-span.result _ (inr (inr (one, differ)))

pub returns-clause-first : goal.returns-clause-first
returns-clause-first c =
    let p = c.args.problem.now in
    let arena = c.args.self.now in
    let span = c.in_ok-span.span in
    let same = arena-item p arena c.requires.arena c.args.zone c.index-2.result.now c.requires.there c.index-2.ensures in
    let ranges = c.ranges-ranges.ensures ∙ same in
    record {
      span = subst (λ zone. IsFirstOpen zone span) ranges c.in_ok-span.ensures.first;
      class = ap (λ zone. (range_at zone span).first) ranges;
    }
