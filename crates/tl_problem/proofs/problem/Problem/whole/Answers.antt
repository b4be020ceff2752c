-- Each span has a class, and few; the ranges are those of the spans in order.
use Rattle.std.proofs.Common.{◌≡◌, ◌-◌, ◌<◌, length, map, get_or, List, ℕ, arith, subst, ap, ◌∙◌}
use Rattle.std.proofs.lemmas.List.{take_all, get_or-map, length-map}
use Rattle.std.proofs.lemmas.Simd.{map-map}
use Rattle.tl_problem.specs.Spans.{span, spans_of, classes_of}
use Rattle.tl_problem.specs.Zones.{range}
use Rattle.tl_problem.specs.inner.Parts.{HasParts}
use Rattle.tl_problem.proofs.SpanningLemmas.{classes-few}
use Rattle.tl_problem.proofs.problem.Problem.whole.Goals as goal

pub overflow_sub-len : goal.overflow_sub-len
overflow_sub-len c =
    let p = c.args.self.now in
    let k = c.loop-classes.classes-index in
    let parts : HasParts p c.self.inside.spans.items c.self.inside.classes.items c.self.inside.by_left.items
    c.self.inside.by_top.items =
    subst (λ q. HasParts q c.self.inside.spans.items c.self.inside.classes.items c.self.inside.by_left.items
    c.self.inside.by_top.items)
    c.self.view_is c.self.invariant in
    let are : c.deref-classes-items.result.now ≡ map (classes_of p) (spans_of p) =
    c.deref-classes-items.ensures.value ∙ parts.each_class in
    let within : k < length (spans_of p) = omega (arith, ap length are, length-map (spans_of p) (classes_of p)) in
    let at = c.classes-item.is ∙ ap (λ items. get_or items k c.classes-item.result) are ∙ get_or-map (classes_of p) (spans_of p)
    k (span 0 0)
    c.classes-item.result within in
    omega (arith, c.len.ensures, ap length at, (classes-few p parts.sound k within).0)

pub overflow_cast-len : goal.overflow_cast-len
overflow_cast-len c =
    let p = c.args.self.now in
    let k = c.loop-classes.classes-index in
    let parts : HasParts p c.self.inside.spans.items c.self.inside.classes.items c.self.inside.by_left.items
    c.self.inside.by_top.items =
    subst (λ q. HasParts q c.self.inside.spans.items c.self.inside.classes.items c.self.inside.by_left.items
    c.self.inside.by_top.items)
    c.self.view_is c.self.invariant in
    let are : c.deref-classes-items.result.now ≡ map (classes_of p) (spans_of p) =
    c.deref-classes-items.ensures.value ∙ parts.each_class in
    let within : k < length (spans_of p) = omega (arith, ap length are, length-map (spans_of p) (classes_of p)) in
    let at = c.classes-item.is ∙ ap (λ items. get_or items k c.classes-item.result) are ∙ get_or-map (classes_of p) (spans_of p)
    k (span 0 0)
    c.classes-item.result within in
    omega (arith, c.len.ensures, ap length at, (classes-few p parts.sound k within).1)

pub returns : goal.returns
returns c =
    let p = c.args.self.now in
    let items = c.deref-classes-items.result.now in
    let parts : HasParts p c.self.inside.spans.items c.self.inside.classes.items c.self.inside.by_left.items
    c.self.inside.by_top.items =
    subst (λ q. HasParts q c.self.inside.spans.items c.self.inside.classes.items c.self.inside.by_left.items
    c.self.inside.by_top.items)
    c.self.view_is c.self.invariant in
    let are : items ≡ map (classes_of p) (spans_of p) = c.deref-classes-items.ensures.value ∙ parts.each_class in
    let all = take_all c.loop-classes.classes-index items (omega arith) in
    c.from_ranges.ensures ∙ c.loop-classes.invariant ∙ ap (map (λ (firsts : List ℕ). range 0 (length firsts - 1)))
    (all ∙ are) ∙ map-map
    (λ (firsts : List ℕ). range 0 (length firsts - 1)) (classes_of p) (spans_of p)
