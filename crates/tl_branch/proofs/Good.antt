-- Lines that are good stay so for a lower height, and once further cuts and lines come.
use Rattle.std.proofs.Common.{◌≡◌, ◌∙◌, ℕ, ◌<◌, ◌≤◌, suc, List, [], ◌∷◌, length, get_or, map, refl, sym, ap, subst, arith}
use Rattle.std.specs.List.{All, remove}
use Rattle.tl_problem.specs.Problem.{ProblemModel}
use Rattle.tl_cert.specs.declared.limits.TheConstants.{MAX_BOUNDS}
use Rattle.tl_cert.specs.declared.log.Bound.{Bound}
use Rattle.tl_cert.specs.declared.log.End.{End}
use Rattle.tl_cert.specs.declared.log.End.TheVariants.{Fired, Cycle, Chain, Area}
use Rattle.tl_cert.specs.declared.log.LogLine.{LogLine}
use Rattle.tl_cert.specs.declared.log.Nogood.{Nogood}
use Rattle.tl_cert.specs.declared.log.Nogood.TheVariants.{Zone, Bounds}
use Rattle.tl_cert.specs.declared.trace.CutAt.{CutAt}
use Rattle.tl_cert.specs.Implied.{IsLeft}
use Rattle.tl_cert.specs.Learnt.{with_bounds, AreAllBut, IsMinimalLine}
use Rattle.tl_cert.specs.Lines.{nogood_at, Fires, LineEndsBy, fired, IsGoodLine}
use Rattle.tl_cert.specs.Nogoods.{zone_bounds, nogood_bounds, NamesAreThere}
use Rattle.tl_cert.specs.Traces.{zone_of, IsZoneOf}
use Rattle.tl_branch.specs.Learn.{with_fires}
use Rattle.tl_branch.specs.inner.Learnings.{IsKeptLine}

-- ---- a lower height

ends-lower : (problem : ProblemModel) (Among : List ℕ → Type 0) (nogoods : List (List Bound)) (low high : ℕ) → low ≤ high →
    (end : End) → LineEndsBy problem Among nogoods high end → LineEndsBy problem Among nogoods low end
ends-lower problem Among nogoods low high less Fired ends = ends
ends-lower problem Among nogoods low high less Cycle ends = ends
ends-lower problem Among nogoods low high less Chain ends = (ends.0, ends.1, omega (arith, ends.2, less))
ends-lower problem Among nogoods low high less Area ends = (ends.0, ends.1, omega (arith, ends.2, less))

pub good-lower : (problem : ProblemModel) (trace : List CutAt) (log : List LogLine) (low high k : ℕ) (line : LogLine) →
    low ≤ high → IsGoodLine problem trace log high k line → IsGoodLine problem trace log low k line
good-lower problem trace log low high k line less good = record {
  names = good.names;
  earlier = good.earlier;
  joined = good.joined;
  fires = good.fires;
  ends = ends-lower problem (IsLeft problem (nogood_bounds problem trace line.nogood) good.joined)
      (fired problem trace log line) low high less line.end good.ends;
}

-- what cannot be shrunk for a height cannot be for a greater one
pub minimal-higher : (problem : ProblemModel) (trace : List CutAt) (log : List LogLine) (low high k : ℕ) (line : LogLine) →
    low ≤ high → IsMinimalLine problem trace log low k line → IsMinimalLine problem trace log high k line
minimal-higher problem trace log low high k line less minimal bound others are good = minimal bound others are
    (good-lower problem trace log low high k (with_bounds line others) less good)

-- ---- another trace and log

-- the same bounds, given and fired
pub good-moved : (problem : ProblemModel) (t u : List CutAt) (l m : List LogLine) (height k : ℕ) (line : LogLine) →
    nogood_bounds problem t line.nogood ≡ nogood_bounds problem u line.nogood →
    fired problem t l line ≡ fired problem u m line →
    NamesAreThere problem u line.nogood → All (λ f. (f < k) × NamesAreThere problem u (nogood_at m f)) line.fires →
    IsGoodLine problem t l height k line → IsGoodLine problem u m height k line
good-moved problem t u l m height k line given same names earlier good = record {
  names = names;
  earlier = earlier;
  joined = good.joined;
  fires = subst (λ (ns : List (List Bound)). Fires problem (nogood_bounds problem u line.nogood) [] ns good.joined) same
      (subst (λ (g : List Bound). Fires problem g [] (fired problem t l line) good.joined) given good.fires);
  ends = subst (λ (ns : List (List Bound)). LineEndsBy problem (IsLeft problem (nogood_bounds problem u line.nogood) good.joined)
      ns height line.end) same
      (subst (λ (g : List Bound). LineEndsBy problem (IsLeft problem g good.joined) (fired problem t l line) height line.end)
      given good.ends);
}

pub map-same : {X Y : Type 0} (f g : X → Y) (xs : List X) → All (λ x. f x ≡ g x) xs → map f xs ≡ map g xs
map-same f g [] all = refl
map-same f g (x ∷ xs) all =
    let head : f x ≡ g x = all 0 x (omega arith) in
    let tail = map-same f g xs (λ i d within. all (suc i) d (omega (arith, within))) in
    cc

-- the trace and the log go on: zones and lines that were there stay
pub record GoesOn (problem : ProblemModel) (t u : List CutAt) (l m : List LogLine) : Type 0 where
  pub zones : (z : ℕ) → IsZoneOf t z → IsZoneOf u z
  pub same : (z : ℕ) → IsZoneOf t z → zone_of problem u z ≡ zone_of problem t z
  pub lines : (k : ℕ) (d : LogLine) → k < length l → get_or m k d ≡ get_or l k d
  pub names : (k : ℕ) (d : LogLine) → k < length l → NamesAreThere problem t (get_or l k d).nogood

module _ (problem : ProblemModel) (t u : List CutAt) (l m : List LogLine) (on : GoesOn problem t u l m) where
  pub names-on : (n : Nogood) → NamesAreThere problem t n → NamesAreThere problem u n
  names-on (Zone z) names = on.zones z names
  names-on (Bounds bounds) names = names

  pub bounds-on : (n : Nogood) → NamesAreThere problem t n → nogood_bounds problem t n ≡ nogood_bounds problem u n
  bounds-on (Zone z) names = ap (zone_bounds problem) (sym (on.same z names))
  bounds-on (Bounds bounds) names = refl

  at-names : (f : ℕ) → f < length l → NamesAreThere problem t (nogood_at l f)
  at-names f within = on.names f (record { nogood = Zone 0; fires = []; end = Cycle }) within

  at-same : (f : ℕ) → f < length l → nogood_at m f ≡ nogood_at l f
  at-same f within = ap (λ (line : LogLine). line.nogood) (on.lines f (record { nogood = Zone 0; fires = []; end = Cycle }) within)

  fired-on : (k : ℕ) → k ≤ length l → (line : LogLine) → All (λ f. f < k) line.fires →
      fired problem t l line ≡ fired problem u m line
  fired-on k within line before = map-same (λ f. nogood_bounds problem t (nogood_at l f))
      (λ f. nogood_bounds problem u (nogood_at m f)) line.fires (λ i d inside.
      let f = get_or line.fires i d in
      let less : f < length l = (let b = before i d inside in omega (arith, b, within)) in
      bounds-on (nogood_at l f) (at-names f less)
      ∙ ap (nogood_bounds problem u) (sym (at-same f less)))

  -- a line that was good is good
  pub good-on : (height k : ℕ) (line : LogLine) → k ≤ length l → IsGoodLine problem t l height k line →
      IsGoodLine problem u m height k line
  good-on height k line within good = good-moved problem t u l m height k line (bounds-on line.nogood good.names)
      (fired-on k within line (λ i d inside. (good.earlier i d inside).0)) (names-on line.nogood good.names)
      (λ i d inside.
      let e = good.earlier i d inside in (
        e.0,
        subst (NamesAreThere problem u) (sym (at-same (get_or line.fires i d) (omega (arith, e.0, within))))
            (names-on (nogood_at l (get_or line.fires i d)) e.1),
      )) good

  -- a line that is good was good, where what it names was there
  good-back : (height k : ℕ) (line : LogLine) → k ≤ length l → NamesAreThere problem t line.nogood →
      IsGoodLine problem u m height k line → IsGoodLine problem t l height k line
  good-back height k line within names good = good-moved problem u t m l height k line (sym (bounds-on line.nogood names))
      (sym (fired-on k within line (λ i d inside. (good.earlier i d inside).0))) names
      (λ i d inside.
      let e = good.earlier i d inside in
      (e.0, at-names (get_or line.fires i d) (omega (arith, e.0, within)))) good

  -- so a line that is kept stays so
  pub kept-on : (height best opening k : ℕ) (line : LogLine) → k ≤ length l → best ≤ height →
      IsKeptLine problem t l height opening k line → IsKeptLine problem u m best opening k line
  kept-on height best opening k line within less kept =
      let same = bounds-on line.nogood kept.good.names in
      record {
        good = good-lower problem u m best height k line less (good-on height k line within kept.good);
        minimal = λ few bound others are good. kept.minimal
            (subst (λ (bounds : List Bound). length bounds ≤ MAX_BOUNDS) (sym same) few) bound others
            (subst (λ (bounds : List Bound). AreAllBut bounds bound others) (sym same) are)
            (good-back opening k (with_bounds line others) within good.names good);
        needed = λ i h inside good. kept.needed i h inside
            (good-back h k (with_fires line (remove line.fires i)) within kept.good.names good);
        writable = kept.writable;
      }
