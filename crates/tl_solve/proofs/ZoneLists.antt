-- The zones of a trace, cut by cut, and what is found of each.
use Rattle.std.proofs.Common.{◌≡◌, ℕ, ◌+◌, ◌*◌, ◌<◌, suc, List, [], ◌∷◌, ◌++◌, inl, inr, length, get_or, take, Option, sym, ap}
use Rattle.std.proofs.Common.{◌∙◌, subst}
use Rattle.std.proofs.Common.{arith, append_assoc}
use Rattle.std.proofs.lemmas.Bool.{cases_lt}
use Rattle.std.proofs.lemmas.List.{get_or_default, get_or_append_left, get_or-append-add}
use Rattle.std.proofs.Math.Seq.{take-suc}
use Rattle.tl_problem.specs.declared.zone.Range.{Range}
use Rattle.tl_problem.specs.Problem.{ProblemModel}
use Rattle.tl_problem.specs.Zones.{whole_zone, lower_part, upper_part}
use Rattle.tl_cert.specs.declared.trace.CutAt.{CutAt}
use Rattle.tl_cert.specs.Traces.{with_parts, zones_of, zone_of}
use Rattle.tl_cert.proofs.TraceLaws.{zones-push, zones-length}
use Rattle.tl_solve.specs.Arenas.{IsBoundFound}

-- so many zones
pub zones-count : (whole : List Range) (trace : List CutAt) (zones : List (List Range)) → zones ≡ zones_of whole trace →
    length zones ≡ 2 * length trace + 1
zones-count whole trace zones are = omega (arith, ap length are, zones-length (whole ∷ []) trace)

-- one cut more
pub zones-more : (whole : List Range) (trace : List CutAt) (n : ℕ) (d : CutAt) (zones : List (List Range))
    (item lower upper : List Range) →
    zones ≡ zones_of whole (take n trace) → n < length trace → item ≡ get_or zones (get_or trace n d).zone [] →
    lower ≡ lower_part item (get_or trace n d).span (get_or trace n d).class →
    upper ≡ upper_part item (get_or trace n d).span (get_or trace n d).class →
    (zones ++ lower ∷ []) ++ upper ∷ [] ≡ zones_of whole (take (n + 1) trace)
zones-more whole trace n d zones item lower upper are within is low high =
    let cut = get_or trace n d in
    let next : n + 1 ≡ suc n = omega arith in
    let parts : zones ++ lower ∷ upper ∷ [] ≡ with_parts zones cut =
    ap (λ l. zones ++ l ∷ upper ∷ []) (low ∙ ap (λ z. lower_part z cut.span cut.class) is)
    ∙ ap (λ u. zones ++ lower_part (get_or zones cut.zone []) cut.span cut.class ∷ u ∷ [])
    (high ∙ ap (λ z. upper_part z cut.span cut.class) is) in
    append_assoc zones (lower ∷ []) (upper ∷ []) ∙ parts ∙ ap (λ zs. with_parts zs cut) are
    ∙ sym (zones-push (whole ∷ []) (take n trace) cut) ∙ ap (zones_of whole)
    (sym (ap (λ m. take m trace) next ∙ take-suc trace n d within))

-- an item of the zones is the zone with its number
pub zone-item : (problem : ProblemModel) (trace : List CutAt) (zones : List (List Range)) (n : ℕ) (item : List Range) →
    zones ≡ zones_of (whole_zone problem) trace → n < length zones → item ≡ get_or zones n item → item ≡ zone_of problem trace n
zone-item problem trace zones n item are within is =
    is ∙ ap (λ zs. get_or zs n item) are ∙ get_or_default (zones_of (whole_zone problem) trace) n item []
    (omega (arith, within, ap length are))

-- what is found of one zone more
pub found-more : (problem : ProblemModel) (trace : List CutAt) (items : List (Option ℕ)) (n : ℕ) (bound : Option ℕ) →
    length items ≡ n →
    ((z : ℕ) (d : Option ℕ) → z < n → IsBoundFound problem (zone_of problem trace z) (get_or items z d)) →
    IsBoundFound problem (zone_of problem trace n) bound →
    (z : ℕ) (d : Option ℕ) → z < n + 1 → IsBoundFound problem (zone_of problem trace z) (get_or (items ++ bound ∷ []) z d)
found-more problem trace items n bound count old new z d within =
    elim (cases_lt z n) [
      | inl less ↦ subst (IsBoundFound problem (zone_of problem trace z))
          (sym (get_or_append_left items (bound ∷ []) d z (omega (arith, less, count)))) (old z d less)
      | inr last ↦
          let here : z ≡ length items + 0 = omega (arith, last, within, count) in
          let number : n ≡ z = omega (arith, last, within) in
          let at : get_or (items ++ bound ∷ []) z d ≡ bound =
          ap (λ i. get_or (items ++ bound ∷ []) i d) here ∙ get_or-append-add items (bound ∷ []) 0 d in
          subst (IsBoundFound problem (zone_of problem trace z)) (sym at)
          (subst (λ m. IsBoundFound problem (zone_of problem trace m) bound) number new)
    ]
