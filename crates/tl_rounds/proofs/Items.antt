-- The zones of a trace as a list, by their numbers.
use Rattle.std.proofs.Common.{◌≡◌, ℕ, ◌+◌, ◌<◌, List, [], ◌∷◌, ◌++◌, length, map, get_or, take, sym, ap, ◌∙◌, arith}
use Rattle.std.proofs.lemmas.List.{get_or_default, map-append, take_more}
use Rattle.tl_problem.specs.declared.zone.Range.{Range}
use Rattle.tl_problem.specs.Problem.{ProblemModel}
use Rattle.tl_problem.specs.Zones.{whole_zone, IsZone}
use Rattle.tl_cert.specs.declared.trace.CutAt.{CutAt}
use Rattle.tl_cert.specs.Traces.{zones_of, zone_of, IsZoneOf}
use Rattle.tl_cert.proofs.TraceLaws.{zones-length, zones-are}
use Rattle.tl_rounds.specs.declared.book.Book.{Book}
use Rattle.tl_rounds.specs.Book.{IsBook, problem_of}

module _ (problem : ProblemModel) (trace : List CutAt) (zones : List (List Range))
    (is : zones ≡ zones_of (whole_zone problem) trace) where
  pub zones-there : (z : ℕ) → IsZoneOf trace z → z < length zones
  zones-there z there = omega (arith, there, ap length is, zones-length (whole_zone problem ∷ []) trace)

  pub zone-item : (z : ℕ) (item : List Range) → IsZoneOf trace z → item ≡ get_or zones z item → item ≡ zone_of problem trace z
  zone-item z item there at = at ∙ ap (λ all. get_or all z item) is ∙
      get_or_default (zones_of (whole_zone problem) trace) z item [] (omega (
        arith,
        there,
        zones-length (whole_zone problem ∷ []) trace,
      ))

-- the zones of a book are zones of its problem
pub book-zone : (book : Book) → IsBook book → (z : ℕ) → IsZoneOf book.trace z →
    IsZone (problem_of book) (zone_of (problem_of book) book.trace z)
book-zone book is z there = zones-are (problem_of book) is.sound book.trace is.covering.trace_of z there

-- one more of the zones that are left
pub zones-next : {X : Type 0} (f : ℕ → X) (lefts : List ℕ) (place : ℕ) (old new : List X) (x : X) → place < length lefts →
    old ≡ map f (take place lefts) → x ≡ f (get_or lefts place 0) → new ≡ old ++ x ∷ [] →
    new ≡ map f (take (place + 1) lefts)
zones-next f lefts place old new x within before is more =
    more ∙ ap (λ some. some ++ x ∷ []) before ∙ ap (λ y. map f (take place lefts) ++ y ∷ []) is ∙
    sym (map-append f (take place lefts) (get_or lefts place 0 ∷ [])) ∙ ap (map f) (sym (take_more lefts place 0 within))
