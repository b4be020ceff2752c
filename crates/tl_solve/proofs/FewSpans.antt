-- The cuts of a trace are within the ranges of a certificate's text: a problem has few spans, and a span few classes.
use Rattle.std.proofs.Common.{ℕ, ◌+◌, ◌<◌, ◌≤◌, List, [], ◌∷◌, ◌++◌, inl, inr, length, get_or}
use Rattle.std.proofs.Common.{codes, arith, length-append}
use Rattle.std.specs.List.{All, AllByRecursion}
use Rattle.std.proofs.lemmas.List.Elements.{All-nil, All-push, Contains-get_or}
use Rattle.tl_base.specs.declared.limits.TheConstants.{MAX_BUDGET}
use Rattle.tl_base.proofs.Members.{AllByRecursion-append}
use Rattle.tl_problem.specs.Problem.{ProblemModel}
use Rattle.tl_problem.specs.Sound.{IsSound}
use Rattle.tl_problem.specs.Zones.{span_at, classes_at, whole_zone}
use Rattle.tl_problem.proofs.SpanLaws.{classes-rising, classes-first, classes-cases}
use Rattle.tl_problem.proofs.SpanningLemmas.{rising-at, spans-few}
use Rattle.tl_problem.proofs.ZoneLaws.{whole-is_zone}
use Rattle.tl_cert.specs.declared.limits.TheConstants.{MAX_ZONE, MAX_SPAN, MAX_CLASS}
use Rattle.tl_cert.specs.declared.trace.CutAt.{CutAt}
use Rattle.tl_cert.specs.Pieces.{field, word, IsPieceInRange, AllWithin}
use Rattle.tl_cert.specs.Text.{space, line_feed, cut_pieces, IsTraceWritable}
use Rattle.tl_cert.specs.Traces.{IsTraceOf, zone_of, IsCut}
use Rattle.tl_cert.proofs.TraceLaws.{trace-by, zones-are}
use Rattle.tl_cert.proofs.reading.Words.{within-word}
use Rattle.tl_solve.proofs.Writable.{all-flat_map}

-- ---- the classes of a span

-- a class after the first begins within the page
pub class-few : (problem : ProblemModel) → IsSound problem → (s class : ℕ) → class + 1 < length (classes_at problem s) →
    class ≤ MAX_CLASS
class-few problem sound s class within =
    let columns = span_at problem s in
    let w = get_or (classes_at problem s) (class + 1) 0 in
    let rising = classes-rising problem columns in
    let from = rising-at (classes_at problem s) rising (class + 1) within in
    let past = rising 0 (class + 1) 0 (omega arith) within in
    let first = classes-first problem columns 0 in
    elim (classes-cases problem columns w (Contains-get_or (classes_at problem s) (class + 1) 0 within)) [
      | inl least ↦ absurd (omega (arith, least, past, first))
      | inr page ↦ omega (arith, page.1, from, sound.narrow)
    ]

-- ---- the cuts

cut-within : (cut : CutAt) → cut.zone ≤ MAX_ZONE → cut.span ≤ MAX_SPAN → cut.class ≤ MAX_CLASS → AllWithin (cut_pieces cut)
cut-within cut zone span class =
    let third : AllWithin (field 0 MAX_CLASS cut.class line_feed) = ((omega arith, class), (tt, tt)) in
    let second : AllWithin (field 0 MAX_SPAN cut.span space ++ field 0 MAX_CLASS cut.class line_feed) =
    ((omega arith, span), (tt, third)) in
    let first : AllWithin (field 0 MAX_ZONE cut.zone space ++
    (field 0 MAX_SPAN cut.span space ++ field 0 MAX_CLASS cut.class line_feed)) =
    ((omega arith, zone), (tt, second)) in
    AllByRecursion-append IsPieceInRange (word (codes "cut "))
    (field 0 MAX_ZONE cut.zone space ++ (field 0 MAX_SPAN cut.span space
    ++ field 0 MAX_CLASS cut.class line_feed)) (within-word (codes "cut ")) first

pub trace-writable : (problem : ProblemModel) → IsSound problem → (trace : List CutAt) → IsTraceOf problem trace →
    length trace ≤ MAX_BUDGET →
    IsTraceWritable trace
trace-writable problem sound trace is few =
    (few, all-flat_map IsPieceInRange cut_pieces trace (trace-by (whole_zone problem) AllCuts none more trace is few)) where
      AllCuts : List CutAt → Type 0
      AllCuts cuts = length cuts ≤ MAX_BUDGET → All (λ cut. AllByRecursion IsPieceInRange (cut_pieces cut)) cuts

      none : AllCuts []
      none short = All-nil (λ (cut : CutAt). AllByRecursion IsPieceInRange (cut_pieces cut))

      more : (cuts : List CutAt) (cut : CutAt) → IsTraceOf problem cuts → IsCut (whole_zone problem) cuts cut → AllCuts cuts →
          AllCuts (cuts ++ cut ∷ [])
      more cuts cut before now all short =
          let count = length-append cuts (cut ∷ []) in
          let spans = (whole-is_zone problem).spans in
          let zone = zones-are problem sound cuts before cut.zone now.stands.there in
          let there : cut.span < length (zone_of problem cuts cut.zone) = omega (arith, now.span, zone.spans, spans) in
          let range = zone.ranges cut.span there in
          let here = cut-within cut (omega (arith, now.stands.there, short, count))
          (omega (arith, now.span, spans, spans-few problem sound))
          (class-few problem sound cut.span cut.class (omega (arith, now.upper, range.1))) in
          All-push (λ c. AllByRecursion IsPieceInRange (cut_pieces c)) cuts cut (all (omega (arith, short, count))) here
