-- The cuts of a piece after those of a trace are a trace again, which has the zones of both.
use Rattle.std.proofs.Common.{◌≡◌, ◌≢◌, ℕ, ◌+◌, ◌-◌, ◌*◌, ◌<◌, ◌≤◌, zero, suc, List, [], ◌∷◌, ◌++◌, ◌⊎◌, inl, inr, length, get_or}
use Rattle.std.proofs.Common.{map, refl, sym, ap, ◌∙◌, subst, arith, append_assoc, length-append, length-set}
use Rattle.std.proofs.lemmas.Bool.{cases_lt, cases_eq}
use Rattle.std.proofs.lemmas.List.{append-nil, length-map, map-append, get_or_append_left}
use Rattle.tl_problem.specs.declared.zone.Range.{Range}
use Rattle.tl_problem.specs.Zones.{range, range_at, lower_part, upper_part}
use Rattle.tl_cert.specs.declared.trace.CutAt.{CutAt}
use Rattle.tl_cert.specs.Traces.{zone_at, IsZoneOf, Stands, IsCut, IsTrace}
use Rattle.tl_cert.specs.ZoneOrders.{ComesFrom, itself, lower, upper}
use Rattle.tl_cert.specs.Appended.{zone_named, cut_named, appended, IsAppended}
use Rattle.tl_cert.proofs.TraceLaws.{zone-old, zone-lower, zone-upper, zone-cases, stands-old, stood-before, stands-new, cuts-there}
use Rattle.tl_cert.proofs.TraceLaws.{trace-by, trace-push}
use Rattle.tl_cert.proofs.Origins.{from-next, from-more, lower-from, upper-from}

-- ---- the numbers

module _ (z n : ℕ) where
  -- any zone of a piece but the first
  pub named-later : (j : ℕ) → 1 ≤ j → zone_named z n j ≡ 2 * n + j
  named-later zero later = absurd (omega arith)
  named-later (suc j) later = refl

  -- two zones of a piece have two numbers, as that of the first one stood before
  pub named-apart : z < 2 * n + 1 → (i j : ℕ) → zone_named z n i ≡ zone_named z n j → i ≡ j
  named-apart there zero zero same = refl
  named-apart there zero (suc j) same = absurd (omega (arith, there, same))
  named-apart there (suc i) zero same = absurd (omega (arith, there, same))
  named-apart there (suc i) (suc j) same = omega (arith, same)

  -- a number of a zone of the trace is that of the first zone, and of no other
  pub named-first : (a j : ℕ) → a < 2 * n + 1 → a ≡ zone_named z n j → a ≡ z
  named-first a zero old same = same
  named-first a (suc j) old same = absurd (omega (arith, old, same))

  pub named-there : (m j : ℕ) → z < 2 * n + 1 → j < 2 * m + 1 → zone_named z n j < 2 * (n + m) + 1
  named-there m zero there within = omega (arith, there)
  named-there m (suc j) there within = omega (arith, within)

-- ---- all zones of a trace have as many ranges

pub zone-spans : (whole : List Range) (trace : List CutAt) → IsTrace whole trace → (z : ℕ) → IsZoneOf trace z →
    length (zone_at whole trace z) ≡ length whole
zone-spans whole trace is = trace-by whole AllSpans none more trace is where
  AllSpans : List CutAt → Type 0
  AllSpans cuts = (z : ℕ) → IsZoneOf cuts z → length (zone_at whole cuts z) ≡ length whole

  none : AllSpans []
  none z there = let first : z ≡ 0 = omega arith in ap (λ n. length (zone_at whole [] n)) first

  more : (cuts : List CutAt) (cut : CutAt) → IsTrace whole cuts → IsCut whole cuts cut → AllSpans cuts →
      AllSpans (cuts ++ cut ∷ [])
  more cuts cut before now all z there =
      let parent = zone_at whole cuts cut.zone in
      let same = all cut.zone now.stands.there in
      elim (zone-cases whole cuts cut z there) [
        | inl old ↦ ap length (zone-old whole cuts cut z old) ∙ all z old
        | inr (inl first) ↦ ap (λ n. length (zone_at whole (cuts ++ cut ∷ []) n)) first ∙ ap length
            (zone-lower whole cuts cut)
            ∙ length-set parent cut.span (range (range_at parent cut.span).first cut.class) ∙ same
        | inr (inr second) ↦ ap (λ n. length (zone_at whole (cuts ++ cut ∷ []) n)) second ∙ ap length
            (zone-upper whole cuts cut)
            ∙ length-set parent cut.span (range (cut.class + 1) (range_at parent cut.span).last) ∙ same
      ]

-- ---- a piece without cuts

module _ (whole : List Range) (trace : List CutAt) (is : IsTrace whole trace) (z : ℕ) (here : Stands trace z) where
  -- where the trace alone stands, its own zones come from `z` only as `z` itself
  alone : (a : ℕ) → ComesFrom trace z a → a ≡ z
  alone a itself = refl
  alone a (lower i d within rest) = absurd (here.not_cut i d within (alone (get_or trace i d).zone rest))
  alone a (upper i d within rest) = absurd (here.not_cut i d within (alone (get_or trace i d).zone rest))

  appended-none : IsAppended whole trace z [] (appended trace z [])
  appended-none = subst (IsAppended whole trace z []) (sym (append-nil trace)) (record {
    trace_of = is;
    count = omega arith;
    old = λ a there. refl;
    new = λ j there. let first : j ≡ 0 = omega arith in subst (λ i. zone_at whole trace (zone_named z (length trace) i)
        ≡ zone_at (zone_at whole trace z) [] i) (sym first) refl;
    zones = λ a there. inl there;
    stood = λ a stands apart. stands;
    stands = λ j stands. let first : j ≡ 0 = omega (arith, stands.there) in
        subst (λ i. Stands trace (zone_named z (length trace) i)) (sym first) here;
    cases = λ a stands. elim (cases_eq a z) [
      | inl same ↦ inr (0, record { there = omega arith; not_cut = λ i d within. absurd (omega arith) }, same)
      | inr apart ↦ inl (stands, apart)
    ];
    comes = λ j there. let first : j ≡ 0 = omega arith in
        subst (λ i. ComesFrom trace z (zone_named z (length trace) i)) (sym first) itself;
    only = λ a from. (0, omega arith, alone a from);
  })

-- ---- what comes from `z` is of the piece

module _ (whole : List Range) (trace : List CutAt) (is : IsTrace whole trace) (z : ℕ) (here : Stands trace z) (piece : List CutAt) where
  -- a cut of the trace cuts no zone of the piece, and those after it make zones of the piece
  part-named : (i : ℕ) (d : CutAt) → i < length (appended trace z piece) →
      ((j : ℕ) × IsZoneOf piece j × ((get_or (appended trace z piece) i d).zone ≡ zone_named z (length trace) j)) →
      (k : ℕ) → 1 ≤ k → k ≤ 2 → (j : ℕ) × IsZoneOf piece j × (2 * i + k ≡ zone_named z (length trace) j)
  part-named i d within cuts k least most = elim (cases_lt i (length trace)) [
    | inl old ↦
        let same : get_or (appended trace z piece) i d ≡ get_or trace i d = get_or_append_left trace
        (map (cut_named z (length trace)) piece) d i old in
        let zone : (get_or trace i d).zone ≡ zone_named z (length trace) cuts.0 = sym (ap (λ c. c.zone) same) ∙ cuts.2 in
        absurd (here.not_cut i d old
        (named-first z (length trace) (get_or trace i d).zone cuts.0 (cuts-there whole trace is i d old) zone))
    | inr new ↦ (
      2 * (i - length trace) + k,
      omega (
        arith,
        within,
        new,
        most,
        length-append trace (map (cut_named z (length trace)) piece),
        length-map piece (cut_named z (length trace)),
      ),
      omega (arith, new) ∙ sym (named-later z (length trace) (2 * (i - length trace) + k) (omega (arith, least))),
    )
  ]

  only-named : (a : ℕ) → ComesFrom (appended trace z piece) z a →
      (j : ℕ) × IsZoneOf piece j × (a ≡ zone_named z (length trace) j)
  only-named a itself = (0, omega arith, refl)
  only-named a (lower i d within rest) =
      part-named i d within (only-named (get_or (appended trace z piece) i d).zone rest) 1 (omega arith) (omega arith)
  only-named a (upper i d within rest) =
      part-named i d within (only-named (get_or (appended trace z piece) i d).zone rest) 2 (omega arith) (omega arith)

-- ---- a further cut of the piece

module _ (whole : List Range) (trace : List CutAt) (z : ℕ) (here : z < 2 * length trace + 1)
    (spans : length (zone_at whole trace z) ≡ length whole)
    (piece : List CutAt) (cut : CutAt) (after : List CutAt) (is : IsAppended whole trace z piece after)
    (piece_of : IsTrace (zone_at whole trace z) piece) (now : IsCut (zone_at whole trace z) piece cut) where
  abbrev named : ℕ → ℕ
  named = zone_named z (length trace)

  abbrev further : CutAt
  further = cut_named z (length trace) cut

  named-within : (j : ℕ) → IsZoneOf piece j → IsZoneOf after (named j)
  named-within j there = let within = named-there z (length trace) (length piece) j here there in
      omega (arith, within, is.count)

  -- it cuts a zone that stands, as the cut of the piece does
  is-cut : IsCut whole after further
  is-cut =
      let same = is.new cut.zone now.stands.there in
      record {
        stands = is.stands cut.zone now.stands;
        span = omega (arith, now.span, spans);
        lower = rw same now.lower;
        upper = rw same now.upper;
      }

  abbrev later : List CutAt
  later = after ++ further ∷ []

  -- the zone of the further cut is one of the piece, and none that stood apart from `z`
  apart-named : (a : ℕ) → Stands trace a → a ≢ z → further.zone ≢ a
  apart-named a stands apart same =
      apart (named-first z (length trace) a cut.zone stands.there (sym same))

  zone-new : (j : ℕ) → IsZoneOf (piece ++ cut ∷ []) j → zone_at whole later (named j)
      ≡ zone_at (zone_at whole trace z) (piece ++ cut ∷ []) j
  zone-new j there =
      let whole_too = zone_at whole trace z in
      let cut_zone = is.new cut.zone now.stands.there in
      elim (zone-cases whole_too piece cut j there) [
        | inl old ↦ zone-old whole after further (named j) (named-within j old) ∙ is.new j old ∙ sym
            (zone-old whole_too piece cut j old)
        | inr (inl first) ↦
            let number : named j ≡ 2 * length after + 1 = named-later z (length trace) j (omega (arith, first)) ∙
            omega (arith, first, is.count) in
            ap (zone_at whole later) number ∙ zone-lower whole after further
            ∙ ap (λ zone. set_lower zone) cut_zone ∙ sym (zone-lower whole_too piece cut) ∙ ap
            (zone_at whole_too (piece ++ cut ∷ [])) (sym first)
        | inr (inr second) ↦
            let number : named j ≡ 2 * length after + 2 = named-later z (length trace) j (omega (arith, second)) ∙
            omega (arith, second, is.count) in
            ap (zone_at whole later) number ∙ zone-upper whole after further
            ∙ ap (λ zone. set_upper zone) cut_zone ∙ sym (zone-upper whole_too piece cut) ∙ ap
            (zone_at whole_too (piece ++ cut ∷ [])) (sym second)
      ] where
        set_lower : List Range → List Range
        set_lower zone = lower_part zone cut.span cut.class

        set_upper : List Range → List Range
        set_upper zone = upper_part zone cut.span cut.class

  zones-more : (a : ℕ) → IsZoneOf later a → IsZoneOf trace a
      ⊎ ((j : ℕ) × IsZoneOf (piece ++ cut ∷ []) j × (a ≡ named j))
  zones-more a there = elim (cases_lt a (2 * length trace + 1)) [
    | inl old ↦ inl old
    | inr new ↦ inr (
      a - 2 * length trace,
      omega (arith, there, is.count, length-append after (further ∷ []), length-append piece (cut ∷ []), new),
      omega (arith, new) ∙ sym (named-later z (length trace) (a - 2 * length trace) (omega (arith, new))),
    )
  ]

  stands-more : (j : ℕ) → Stands (piece ++ cut ∷ []) j → Stands later (named j)
  stands-more j stands = elim (cases_lt j (2 * length piece + 1)) [
    | inl old ↦
        let before = stood-before (zone_at whole trace z) piece cut j stands old in
        stands-old whole after further (named j) (is.stands j before.0)
        (λ same. before.1 (named-apart z (length trace) here cut.zone j same))
    | inr new ↦
        let number = named-later z (length trace) j (omega (arith, new)) in
        stands-new whole after further is.trace_of is-cut (named j) (omega (arith, number, is.count, new))
        (omega (arith, number, is.count, stands.there, length-append piece (cut ∷ [])))
  ]

  cases-more : (a : ℕ) → Stands later a → (Stands trace a × (a ≢ z))
      ⊎ ((j : ℕ) × Stands (piece ++ cut ∷ []) j × (a ≡ named j))
  cases-more a stands = elim (cases_lt a (2 * length after + 1)) [
    | inl old ↦
        let before = stood-before whole after further a stands old in
        elim (is.cases a before.0) [
          | inl stood ↦ inl stood
          | inr (j, stands_in, same) ↦ inr (
            j,
            stands-old (zone_at whole trace z) piece cut j stands_in
                (λ equal. before.1 (ap (zone_named z (length trace)) equal ∙ sym same)),
            same,
          )
        ]
    | inr new ↦
        let j = a - 2 * length trace in
        let number : a ≡ named j = omega (arith, new, is.count) ∙ sym
        (named-later z (length trace) j (omega (arith, new, is.count))) in
        inr (
          j,
          stands-new (zone_at whole trace z) piece cut piece_of now j (omega (arith, new, is.count))
              (omega (arith, stands.there, is.count, length-append after (further ∷ []))),
          number,
        )
  ]

  comes-more : (j : ℕ) → IsZoneOf (piece ++ cut ∷ []) j → ComesFrom later z (named j)
  comes-more j there =
      let from = from-more after further (is.comes cut.zone now.stands.there) in
      elim (zone-cases (zone_at whole trace z) piece cut j there) [
        | inl old ↦ from-more after further (is.comes j old)
        | inr (inl first) ↦
            let number : named j ≡ 2 * length after + 1 = named-later z (length trace) j (omega (arith, first)) ∙
            omega (arith, first, is.count) in
            subst (ComesFrom later z) (sym number) (from-next from (lower-from after further))
        | inr (inr second) ↦
            let number : named j ≡ 2 * length after + 2 = named-later z (length trace) j (omega (arith, second)) ∙
            omega (arith, second, is.count) in
            subst (ComesFrom later z) (sym number) (from-next from (upper-from after further))
      ]

  appended-more : ((a : ℕ) → ComesFrom later z a → (j : ℕ) × IsZoneOf (piece ++ cut ∷ []) j × (a ≡ named j)) →
      IsAppended whole trace z (piece ++ cut ∷ []) later
  appended-more only = record {
    trace_of = trace-push whole after further is.trace_of is-cut;
    count = omega (arith, is.count, length-append after (further ∷ []), length-append piece (cut ∷ []));
    old = λ a there. zone-old whole after further a (omega (arith, there, is.count)) ∙ is.old a there;
    new = zone-new;
    zones = zones-more;
    stood = λ a stands apart. stands-old whole after further a (is.stood a stands apart) (apart-named a stands apart);
    stands = stands-more;
    cases = cases-more;
    comes = comes-more;
    only = only;
  }

-- ---- all of them

pub appended-law : (whole : List Range) (trace : List CutAt) → IsTrace whole trace → (z : ℕ) → Stands trace z →
    (piece : List CutAt) → IsTrace (zone_at whole trace z) piece → IsAppended whole trace z piece (appended trace z piece)
appended-law whole trace is z here piece piece_of =
    trace-by (zone_at whole trace z) (λ cuts. IsAppended whole trace z cuts (appended trace z cuts))
    (appended-none whole trace is z here) more piece piece_of where
      more : (cuts : List CutAt) (cut : CutAt) → IsTrace (zone_at whole trace z) cuts → IsCut (zone_at whole trace z) cuts cut →
          IsAppended whole trace z cuts (appended trace z cuts) →
          IsAppended whole trace z (cuts ++ cut ∷ []) (appended trace z (cuts ++ cut ∷ []))
      more cuts cut before now so_far =
          let further = cut_named z (length trace) cut in
          let one_more : appended trace z (cuts ++ cut ∷ []) ≡ appended trace z cuts ++ further ∷ [] =
          ap (λ more. trace ++ more) (map-append (cut_named z (length trace)) cuts (cut ∷ [])) ∙ sym
          (append_assoc trace (map (cut_named z (length trace)) cuts) (further ∷ [])) in
          subst (IsAppended whole trace z (cuts ++ cut ∷ [])) (sym one_more)
          (appended-more whole trace z here.there (zone-spans whole trace is z here.there) cuts cut (appended trace z cuts) so_far
          before now
          (λ a from. only-named whole trace is z here (cuts ++ cut ∷ []) a
          (subst (λ after. ComesFrom after z a) (sym one_more) from)))
