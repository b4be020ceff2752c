-- The line of a zone that implies a nogood of the store.
use Rattle.std.proofs.Common.{◌≡◌, ℕ, List, [], ◌∷◌, ◌++◌, length, get_or, sym, ap, ◌∙◌, subst, arith}
use Rattle.std.specs.List.{All}
use Rattle.tl_problem.specs.declared.zone.Range.{Range}
use Rattle.tl_problem.specs.Zones.{IsZone, InZone, whole_zone}
use Rattle.tl_cert.specs.declared.log.End.TheVariants as ends
use Rattle.tl_cert.specs.Implied.{Implied}
use Rattle.tl_cert.specs.Lines.{IsGoodLine}
use Rattle.tl_cert.proofs.TraceLaws.{zones-length}
use Rattle.tl_solve.proofs.ArenaLaws.{arena-item, arena-zone}
use Rattle.tl_store.specs.Stores.{nogoods_of}
use Rattle.tl_branch.specs.inner.Learnings.{line_of}
use Rattle.tl_branch.specs.Learn.{FiresAreNeeded}
use Rattle.tl_branch.proofs.Fires.{one-needed}
use Rattle.tl_branch.proofs.Closing.{store-line, closes-kept}
use Rattle.tl_branch.proofs.learning.Learning.close_by_store.Goals as goal

pub bounds-zones-zone : goal.bounds-zones-zone
bounds-zones-zone c =
    let l = c.args.self.now in
    omega (
      arith,
      c.requires.there,
      ap length (c.zones.ensures ∙ c.requires.learning.arena.zones),
      zones-length (whole_zone c.args.problem.now ∷ []) l.arena.trace,
    )

pub closes-found-requires-clause-zone : goal.closes-found-requires-clause-zone
closes-found-requires-clause-zone c =
    let p = c.args.problem.now in
    let l = c.args.self.now in
    let is = c.requires.learning.arena in
    let item = c.index-zones-zone.result in
    let at = arena-item p l.arena is c.args.zone item c.requires.there
    (subst (λ (zs : List (List Range)). item ≡ get_or zs c.args.zone item) c.zones.ensures c.index-zones-zone.is) in
    subst (IsZone p) (sym at) (arena-zone p l.arena is c.args.zone c.requires.there)

pub returns-in_default-clause-open : goal.returns-in_default-clause-open
returns-in_default-clause-open c =
    let p = c.args.problem.now in
    let l = c.args.self.now in
    let item = c.index-zones-zone.result in
    let at = arena-item p l.arena c.requires.learning.arena c.args.zone item c.requires.there
    (subst (λ (zs : List (List Range)). item ≡ get_or zs c.args.zone item) c.zones.ensures c.index-zones-zone.is) in
    λ _. record {
      below = c.requires.below;
      none = λ low k within closes.
          let all = closes-kept p l c.requires.learning c.args.zone c.requires.there k within closes in
          c.in_default.ensures.closes k (omega (arith, within, c.requires.learning.kept.count))
          (subst (λ (zone : List Range). All (Implied p (InZone p zone)) (get_or (nogoods_of l.store) k [])) (sym at) all);
    }

pub put-requires-clause-needed : goal.put-requires-clause-needed
put-requires-clause-needed c =
    let l = c.args.self.now in
    let number = c.in-Some.number in
    let fires : c.push.new.self ≡ number ∷ [] = c.in_ok-push.ensures.ok ∙ ap (λ (xs : List ℕ). xs ++ number ∷ [])
    c.new-fires.ensures in
    subst (λ (fs : List ℕ). FiresAreNeeded c.args.problem.now l.arena.trace l.log (length l.log)
    (line_of c.args.zone fs ends.Fired)) (sym fires)
    (one-needed c.args.problem.now l.arena.trace l.log (length l.log) c.args.zone number)

pub put-requires-clause-good : goal.put-requires-clause-good
put-requires-clause-good c =
    let p = c.args.problem.now in
    let l = c.args.self.now in
    let item = c.index-zones-zone.result in
    let number = c.in-Some.number in
    let at = arena-item p l.arena c.requires.learning.arena c.args.zone item c.requires.there
    (subst (λ (zs : List (List Range)). item ≡ get_or zs c.args.zone item) c.zones.ensures c.index-zones-zone.is) in
    let first = c.in-Some.ensures.closes in
    let implied = subst (λ (zone : List Range). All (Implied p (InZone p zone)) (get_or (nogoods_of l.store) number [])) at
    first.implied in
    let fires : c.push.new.self ≡ number ∷ [] = c.in_ok-push.ensures.ok ∙ ap (λ (xs : List ℕ). xs ++ number ∷ [])
    c.new-fires.ensures in
    subst (λ (fs : List ℕ). IsGoodLine p l.arena.trace l.log l.height (length l.log) (line_of c.args.zone fs ends.Fired))
    (sym fires) (store-line p l c.requires.learning c.args.zone c.requires.there number first.there implied)
