-- The zone of each cut of a trace, and its two parts.
use Rattle.std.proofs.Common.{◌≡◌, ℕ, ◌+◌, ◌*◌, ◌<◌, ◌≤◌, List, [], ◌∷◌, ◌++◌, inl, inr, length, get_or, refl, sym, ap, ◌∙◌}
use Rattle.std.proofs.Common.{subst, arith, length-append}
use Rattle.std.proofs.lemmas.Bool.{cases_lt}
use Rattle.std.proofs.lemmas.List.{get_or_append_left, get_or-append-add}
use Rattle.tl_problem.specs.declared.zone.Range.{Range}
use Rattle.tl_problem.specs.Zones.{range_at, lower_part, upper_part}
use Rattle.tl_cert.specs.declared.trace.CutAt.{CutAt}
use Rattle.tl_cert.specs.Traces.{zone_at, IsCut, IsTrace}
use Rattle.tl_cert.proofs.TraceLaws.{zone-old, zone-lower, zone-upper, trace-by}

-- what stands where there is no cut
abbrev pub no_cut : CutAt
no_cut = record { zone = 0; span = 0; class = 0 }

-- cut `i` of the trace: the zone that it cuts comes before, and its two parts are zones `2i + 1` and `2i + 2`
pub record HasParts (whole : List Range) (trace : List CutAt) (i : ℕ) (cut : CutAt) : Type 0 where
  pub before : cut.zone < 2 * i + 1
  pub span : cut.span < length whole
  pub lower : (range_at (zone_at whole trace cut.zone) cut.span).first ≤ cut.class
  pub upper : cut.class < (range_at (zone_at whole trace cut.zone) cut.span).last
  pub low_is : zone_at whole trace (2 * i + 1) ≡ lower_part (zone_at whole trace cut.zone) cut.span cut.class
  pub high_is : zone_at whole trace (2 * i + 2) ≡ upper_part (zone_at whole trace cut.zone) cut.span cut.class

-- each cut of the trace
abbrev AllHaveParts : List Range → List CutAt → Type 0
AllHaveParts whole trace = (i : ℕ) (d : CutAt) → i < length trace → HasParts whole trace i (get_or trace i d)

module _ (whole : List Range) (trace : List CutAt) (cut : CutAt) where
  -- what is so of a cut stays so
  parts-stay : (i : ℕ) (c : CutAt) → i < length trace → HasParts whole trace i c → HasParts whole (trace ++ cut ∷ []) i c
  parts-stay i c within h =
      let from = zone-old whole trace cut c.zone (omega (arith, h.before, within)) in
      let low = zone-old whole trace cut (2 * i + 1) (omega (arith, within)) in
      let high = zone-old whole trace cut (2 * i + 2) (omega (arith, within)) in
      record {
        before = h.before;
        span = h.span;
        lower = rw from h.lower;
        upper = rw from h.upper;
        low_is = rw (from, low) h.low_is;
        high_is = rw (from, high) h.high_is;
      }

  -- and the further cut has its parts
  parts-last : IsCut whole trace cut → HasParts whole (trace ++ cut ∷ []) (length trace) cut
  parts-last now =
      let from = zone-old whole trace cut cut.zone now.stands.there in
      record {
        before = now.stands.there;
        span = now.span;
        lower = rw from now.lower;
        upper = rw from now.upper;
        low_is = rw from (zone-lower whole trace cut);
        high_is = rw from (zone-upper whole trace cut);
      }

-- each cut of a trace has its parts
pub has-parts : (whole : List Range) (trace : List CutAt) → IsTrace whole trace → (i : ℕ) (d : CutAt) → i < length trace
    → HasParts whole trace i (get_or trace i d)
has-parts whole trace is = trace-by whole (AllHaveParts whole) (λ i d within. absurd (omega arith)) more trace is where
  more : (cuts : List CutAt) (cut : CutAt) → IsTrace whole cuts → IsCut whole cuts cut → AllHaveParts whole cuts →
      AllHaveParts whole (cuts ++ cut ∷ [])
  more cuts cut before now all i d within =
      elim (cases_lt i (length cuts)) [
        | inl old ↦ subst (HasParts whole (cuts ++ cut ∷ []) i) (sym (get_or_append_left cuts (cut ∷ []) d i old))
            (parts-stay whole cuts cut i (get_or cuts i d) old (all i d old))
        | inr last ↦
            let here : i ≡ length cuts = omega (arith, last, within, length-append cuts (cut ∷ [])) in
            let number : i ≡ length cuts + 0 = omega (arith, here) in
            let at : get_or (cuts ++ cut ∷ []) i d ≡ cut = ap (λ n. get_or (cuts ++ cut ∷ []) n d)
            number ∙ get_or-append-add cuts (cut ∷ []) 0 d in
            subst (λ n. HasParts whole (cuts ++ cut ∷ []) n (get_or (cuts ++ cut ∷ []) i d)) (sym here)
            (subst (HasParts whole (cuts ++ cut ∷ []) (length cuts)) (sym at) (parts-last whole cuts cut now))
      ]

-- zone 0 stays the whole
pub first-whole : (whole : List Range) (trace : List CutAt) → IsTrace whole trace → zone_at whole trace 0 ≡ whole
first-whole whole trace is =
    trace-by whole (λ cuts. zone_at whole cuts 0 ≡ whole) refl
    (λ cuts cut before now same. zone-old whole cuts cut 0 (omega arith) ∙ same) trace is
