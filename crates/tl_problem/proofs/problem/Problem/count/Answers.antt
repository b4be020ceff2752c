-- The product so far, cut at the greatest number, times the next factor.
use Rattle.std.proofs.Common.{◌≡◌, ◌+◌, ◌-◌, ◌^◌, min, length, take, map, List, ℕ, arith, subst, ap, ◌∙◌}
use Rattle.std.proofs.lemmas.List.{map_more, take_all}
use Rattle.std.proofs.lemmas.Simd.{map-map}
use Rattle.tl_problem.specs.Spans.{product, spans_of, classes_of}
use Rattle.tl_problem.specs.inner.Parts.{HasParts}
use Rattle.tl_problem.proofs.SpanningLemmas.{product-push, min-product}
use Rattle.tl_problem.proofs.problem.Problem.count.Goals as goal

pub loop-classes-preserved : goal.loop-classes-preserved
loop-classes-preserved c =
    let items = c.deref-classes-items.result.now in
    let k = c.loop-classes.classes-index in
    let more = map_more (λ (firsts : List ℕ). length firsts) items k c.classes-item.result c.loop-classes-test.true in
    let pushed = product-push (map (λ (firsts : List ℕ). length firsts) (take k items)) (length c.classes-item.result) in
    let cut = min-product (product (map (λ (firsts : List ℕ). length firsts) (take k items))) (length c.classes-item.result)
    (2 ^ 64 - 1) in
    let wanted : c.capped_product-count.result ≡ min (product (map (λ (firsts : List ℕ). length firsts) (take (k + 1) items)))
    (2 ^ 64 - 1) =
    rw (more, ← c.classes-item.is, pushed, c.capped_product-count.ensures, c.len.ensures, c.loop-classes.invariant) cut in
    wanted

pub returns : goal.returns
returns c =
    let items = c.deref-classes-items.result.now in
    let parts : HasParts c.args.self.now c.self.inside.spans.items c.self.inside.classes.items c.self.inside.by_left.items
    c.self.inside.by_top.items =
    subst (λ p. HasParts p c.self.inside.spans.items c.self.inside.classes.items c.self.inside.by_left.items
    c.self.inside.by_top.items)
    c.self.view_is c.self.invariant in
    let all = take_all c.loop-classes.classes-index items (omega arith) in
    let are : items ≡ map (classes_of c.args.self.now) (spans_of c.args.self.now) =
    c.deref-classes-items.ensures.value ∙ parts.each_class in
    c.loop-classes.invariant ∙ ap (λ ws. min (product (map (λ (firsts : List ℕ). length firsts) ws)) (2 ^ 64 - 1)) (all ∙ are) ∙
    ap (λ ns. min (product ns) (2 ^ 64 - 1)) (map-map (λ (firsts : List ℕ). length firsts) (classes_of c.args.self.now)
    (spans_of c.args.self.now))
