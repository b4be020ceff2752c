-- The lines that close zones, and those of zones whose parts have lines, in the words of a search that learns.
use Rattle.std.proofs.Common.{◌≡◌, ℕ, ◌+◌, ◌*◌, ◌<◌, ◌≤◌, Bool, true, false, List, [], ◌∷◌, length, get_or}
use Rattle.std.proofs.Common.{Option, Some, None, refl, sym, ap, ◌∙◌, subst, arith}
use Rattle.std.specs.List.{All, Contains}
use Rattle.std.proofs.lemmas.List.{get_or_default}
use Rattle.std.proofs.lemmas.List.Elements.{All-contains}
use Rattle.tl_base.proofs.Members.{All-from_Contains}
use Rattle.tl_problem.specs.declared.zone.Range.{Range}
use Rattle.tl_problem.specs.Problem.{ProblemModel}
use Rattle.tl_problem.specs.Bounds.{HasNoWidths, IsBound}
use Rattle.tl_problem.specs.Zones.{InZone, whole_zone}
use Rattle.tl_cert.specs.declared.log.Bound.{Bound}
use Rattle.tl_cert.specs.declared.log.End.TheVariants.{Fired, Cycle, Chain}
use Rattle.tl_cert.specs.declared.trace.CutAt.{CutAt}
use Rattle.tl_cert.specs.Implied.{Implied}
use Rattle.tl_cert.specs.Learnt.{NogoodCloses}
use Rattle.tl_cert.specs.Lines.{IsGoodLine}
use Rattle.tl_cert.specs.Traces.{Stands, zone_of, IsZoneOf}
use Rattle.tl_cert.proofs.CutParts.{HasParts, has-parts, no_cut}
use Rattle.tl_solve.specs.declared.arena.Arena.{Arena}
use Rattle.tl_solve.specs.Arenas.{IsBoundFound, HasBoundBelow}
use Rattle.tl_solve.specs.CutsFound.{IsCutFound}
use Rattle.tl_store.specs.Stores.{HaveSame, nogoods_of}
use Rattle.tl_branch.specs.declared.learning.Learning.{Learning}
use Rattle.tl_branch.specs.Learn.{IsUnclosed}
use Rattle.tl_branch.specs.inner.Learnings.{IsClosedByBound}
use Rattle.tl_branch.specs.inner.Learnings.{IsLearning, IsGrown, IsRetried, IsShut, ArePartLines, HasLine}
use Rattle.tl_branch.specs.inner.Learnings.{HasLineOfCut, line_of, log_nogoods}
use Rattle.tl_branch.specs.inner.Opens.{HaveLinesFrom, OpenProve}
use Rattle.tl_branch.proofs.ZoneLines.{cycle-good, chain-good, one-good, both-good}
use Rattle.tl_branch.proofs.Zones.{no_line, nogood-in, nogoods-count}

-- ---- what calls change

pub retried-next : (a b c : Learning) → IsRetried a b → IsRetried b c → IsRetried a c
retried-next a b c first second = record {
  store = second.store;
  same = second.same ∙ ap (λ (l : Learning). record l { store = second.store }) first.same;
}

pub grown-next : (a b c : Learning) → IsGrown a b → IsGrown b c → IsGrown a c
grown-next a b c first second = record {
  alloc = second.alloc ∙ first.alloc;
  arena = second.arena ∙ first.arena;
  low_is_high = second.low_is_high ∙ first.low_is_high;
  budget = second.budget ∙ first.budget;
  height = second.height ∙ first.height;
  lines = λ z has. second.lines z (first.lines z has);
  unclosed = λ problem cut was. subst (λ (arena : Arena). IsUnclosed problem (log_nogoods problem c) arena.trace cut) first.arena
      (second.unclosed problem cut (subst (λ (arena : Arena). IsUnclosed problem (log_nogoods problem b) arena.trace cut)
      (sym first.arena) (first.unclosed problem cut was)));
}

-- nothing changes
pub grown-same : (l : Learning) → IsGrown l l
grown-same l = record {
  alloc = refl;
  arena = refl;
  low_is_high = refl;
  budget = refl;
  height = refl;
  lines = λ z has. has;
  unclosed = λ problem cut was. was;
}

pub grown-of_retried : (a b : Learning) → IsRetried a b → IsGrown a b
grown-of_retried a b first = subst (IsGrown a) (sym first.same) (record {
  alloc = refl;
  arena = refl;
  low_is_high = refl;
  budget = refl;
  height = refl;
  lines = λ z has. has;
  unclosed = λ problem cut was. was;
})

pub grown-retried : (a b c : Learning) → IsRetried a b → IsGrown b c → IsGrown a c
grown-retried a b c first second = grown-next a b c (grown-of_retried a b first) second

pub line-at : (lines : List (Option ℕ)) (z k : ℕ) (o : Option ℕ) → z < length lines → o ≡ get_or lines z o → o ≡ Some k →
    get_or lines z None ≡ Some k
line-at lines z k o within at is = get_or_default lines z None o within ∙ sym at ∙ is

all-same : (P : Bound → Type 0) (first second : List Bound) → HaveSame first second → All P first → All P second
all-same P first second same all = All-from_Contains P second (λ b has. All-contains P first b all ((same b).1 has))

module _ (problem : ProblemModel) (l : Learning) (is : IsLearning problem l) (z : ℕ) (there : IsZoneOf l.arena.trace z) where
  abbrev zone : List Range
  zone = zone_of problem l.arena.trace z

  -- ---- its bound

  pub none-widths : get_or l.arena.bounds.items z None ≡ None → HasNoWidths (InZone problem (zone_of problem l.arena.trace z))
  none-widths none = subst (IsBoundFound problem zone) none
      (is.arena.bounds.each z None (omega (arith, there, is.arena.bounds.count)))

  pub some-bound : (bound : ℕ) → get_or l.arena.bounds.items z None ≡ Some bound →
      IsBound problem (InZone problem (zone_of problem l.arena.trace z)) bound
  some-bound bound some = subst (IsBoundFound problem zone) some
      (is.arena.bounds.each z None (omega (arith, there, is.arena.bounds.count)))

  pub cycle-line : get_or l.arena.bounds.items z None ≡ None →
      IsGoodLine problem l.arena.trace l.log l.height (length l.log) (line_of z [] Cycle)
  cycle-line none = cycle-good problem is.arena.work.sound l.arena.trace is.arena.trace_of l.log l.height (length l.log) z there
      (none-widths none)

  pub chain-line : (bound : ℕ) → get_or l.arena.bounds.items z None ≡ Some bound → l.height ≤ bound →
      IsGoodLine problem l.arena.trace l.log l.height (length l.log) (line_of z [] Chain)
  chain-line bound some enough = chain-good problem is.arena.work.sound l.arena.trace is.arena.trace_of l.log l.height
      (length l.log) z there bound (some-bound bound some) enough

  pub shut-grown : (new : Learning) → IsGrown l new → HasLine new.lines.items z →
      IsClosedByBound problem (zone_of problem l.arena.trace z) l.height → IsShut problem new z
  shut-grown new grown line closed = record {
    line = line;
    closed = subst (λ (h : ℕ). IsClosedByBound problem (zone_of problem new.arena.trace z) h) (sym grown.height)
        (subst (λ (arena : Arena). IsClosedByBound problem (zone_of problem arena.trace z) l.height) (sym grown.arena) closed);
  }

  -- ---- a nogood of the store

  pub store-line : (number : ℕ) → number < length (nogoods_of l.store) →
      All (Implied problem (InZone problem (zone_of problem l.arena.trace z))) (get_or (nogoods_of l.store) number []) →
      IsGoodLine problem l.arena.trace l.log l.height (length l.log) (line_of z (number ∷ []) Fired)
  store-line number within implied =
      let P = Implied problem (InZone problem zone) in
      let count = nogoods-count problem l.arena.trace l.log in
      let inside : number < length (log_nogoods problem l) = omega (arith, within, is.kept.count) in
      let here : number < length l.log = omega (arith, inside, count) in
      let same = is.kept.each number inside in
      one-good problem is.arena.work.sound l.arena.trace is.arena.trace_of l.log l.height (length l.log) z there number here
      (is.lines_good number no_line here).good.names
      (subst (All P) (nogood-in problem l.arena.trace l.log number here)
      (all-same P (get_or (nogoods_of l.store) number []) (get_or (log_nogoods problem l) number [])
      (λ b. ((same b).1, (same b).0)) implied))

  pub closes-kept : (k : ℕ) → k < length (log_nogoods problem l) → NogoodCloses problem l.arena.trace (log_nogoods problem l) k z →
      All (Implied problem (InZone problem (zone_of problem l.arena.trace z))) (get_or (nogoods_of l.store) k [])
  closes-kept k within closes = all-same (Implied problem (InZone problem zone)) (get_or (log_nogoods problem l) k [])
      (get_or (nogoods_of l.store) k []) (is.kept.each k within) closes

-- ---- zones that are cut

module _ (problem : ProblemModel) (l : Learning) (is : IsLearning problem l) (zone low high : ℕ)
    (cut : ArePartLines problem l zone low high) where
  abbrev made : CutAt
  made = get_or l.arena.trace cut.i no_cut

  parts : HasParts (whole_zone problem) l.arena.trace cut.i made
  parts = has-parts (whole_zone problem) l.arena.trace is.arena.trace_of cut.i no_cut cut.there

  pub cut-there : IsZoneOf l.arena.trace zone
  cut-there = omega (arith, parts.before, cut.cut no_cut, cut.there)

  pub parts-good : (IsGoodLine problem l.arena.trace l.log l.height (length l.log) (line_of zone (low ∷ []) Fired) → ⊥) →
      IsGoodLine problem l.arena.trace l.log l.height (length l.log) (line_of zone (low ∷ high ∷ []) Fired)
  parts-good alone =
      let trace = l.arena.trace in
      let count = nogoods-count problem trace l.log in
      let one = is.lines.each (2 * cut.i + 1) low cut.low in
      let other = is.lines.each (2 * cut.i + 2) high cut.high in
      let low_there : low < length l.log = omega (arith, one.there, count) in
      let high_there : high < length l.log = omega (arith, other.there, count) in
      let within : 2 * cut.i + 2 < length l.arena.bounds.items = omega (arith, cut.there, is.arena.bounds.count) in
      subst (λ (z : ℕ). IsGoodLine problem trace l.log l.height (length l.log) (line_of z (low ∷ high ∷ []) Fired))
      (cut.cut no_cut)
      (both-good problem is.arena.work.sound trace is.arena.trace_of l.log l.height (length l.log) cut.i made cut.there parts
      low high low_there high_there (is.lines_good low no_line low_there).good.names
      (is.lines_good high no_line high_there).good.names
      (λ b has. one.among b (subst (λ (bs : List Bound). Contains bs b) (sym (nogood-in problem trace l.log low low_there)) has))
      (λ b has. other.among b (subst (λ (bs : List Bound). Contains bs b) (sym (nogood-in problem trace l.log high high_there))
      has))
      (get_or l.arena.bounds.items (2 * cut.i + 2) None) (is.arena.bounds.each (2 * cut.i + 2) None within)
      (λ good. alone (subst (λ (z : ℕ). IsGoodLine problem trace l.log l.height (length l.log) (line_of z (low ∷ []) Fired))
      (cut.cut no_cut) good)))

-- ---- zones that are left open

module _ (problem : ProblemModel) (l : Learning) (is : IsLearning problem l) (z : ℕ) (there : IsZoneOf l.arena.trace z)
    (new : Learning) (grown : IsGrown l new) where
  -- the parts of a cut have lines, and so its zone has one
  pub joined-line : (number : ℕ) → IsCutFound l.arena.trace (length l.arena.trace) z (Some number) →
      HaveLinesFrom l.arena.trace l.lines.items (z + 1) →
      (HasLine l.lines.items (2 * number + 1) → HasLine l.lines.items (2 * number + 2) → HasLineOfCut new number) →
      HasLine new.lines.items z
  joined-line number found above joined =
      let parts = has-parts (whole_zone problem) l.arena.trace is.arena.trace_of number no_cut found.0 in
      let same = found.1 no_cut in
      let line = joined (above (2 * number + 1) (omega (arith, parts.before, same)) (omega (arith, found.0)))
      (above (2 * number + 2) (omega (arith, parts.before, same)) (omega (arith, found.0))) no_cut in
      subst (HasLine new.lines.items) (ap (λ (arena : Arena). (get_or arena.trace number no_cut).zone) grown.arena ∙ same) line

  -- a zone that stands without a line has no widths or a high bound
  pub open-line : (closed : Bool) → IsCutFound l.arena.trace (length l.arena.trace) z None →
      OpenProve problem l.arena.trace l.lines.items l.height → get_or l.lines.items z None ≡ None →
      (closed ≡ true → IsShut problem new z) →
      (closed ≡ false → (new ≡ l) × HasBoundBelow problem l.arena.trace z l.height) → HasLine new.lines.items z
  open-line true found proves none shut opens = (shut refl).line
  open-line false found proves none shut opens =
      let below = (opens refl).1 in
      let stands : Stands l.arena.trace z = record { there = there; not_cut = λ i d inside. found i d inside } in
      let enough = proves z below.0 stands none below.1 in
      absurd (omega (arith, enough, below.2))
