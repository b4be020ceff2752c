-- A line is good by the set of its bounds: in which order they are written, and how often, does not matter.
use Rattle.std.proofs.Common.{◌≡◌, ℕ, ◌<◌, List, [], ◌∷◌, ◌++◌, inl, inr, length, sym, subst, arith}
use Rattle.std.specs.List.{Contains}
use Rattle.std.proofs.lemmas.List.Elements.{All-contains}
use Rattle.tl_base.proofs.Members.{All-from_Contains, none-Contains}
use Rattle.tl_problem.specs.declared.zone.Range.{Range}
use Rattle.tl_problem.specs.Problem.{ProblemModel}
use Rattle.tl_problem.specs.Sound.{IsSound}
use Rattle.tl_problem.specs.Spans.{spans_of}
use Rattle.tl_cert.specs.declared.log.Bound.{Bound}
use Rattle.tl_cert.specs.declared.log.LogLine.{LogLine}
use Rattle.tl_cert.specs.declared.log.Nogood.TheVariants.{Zone}
use Rattle.tl_cert.specs.declared.trace.CutAt.{CutAt}
use Rattle.tl_cert.specs.Traces.{IsTraceOf, zone_of}
use Rattle.tl_cert.specs.Nogoods.{Meets, nogood_bounds, zone_bounds}
use Rattle.tl_cert.specs.Implied.{IsLeft}
use Rattle.tl_cert.specs.Lines.{Fires, LineEndsBy, IsGoodLine, fired}
use Rattle.tl_cert.specs.Learnt.{with_bounds}
use Rattle.tl_check.proofs.Deciding.{ends-same}
use Rattle.tl_check.proofs.PartBounds.{whole-no_bounds}
use Rattle.tl_check.proofs.Spans.{nogood-span}
use Rattle.tl_check.proofs.ZoneWalks.{zone-first}
use Rattle.tl_store.specs.Stores.{HaveSame}

pub same-back : (first second : List Bound) → HaveSame first second → HaveSame second first
same-back first second same bound = ((same bound).1, (same bound).0)

pub same-next : (first second third : List Bound) → HaveSame first second → HaveSame second third → HaveSame first third
same-next first second third one other bound = (
  λ has. (other bound).0 ((one bound).0 has),
  λ has. (one bound).1 ((other bound).1 has),
)

-- what is left under the same bounds
left-same : (problem : ProblemModel) (given other : List Bound) → HaveSame given other → (joined : List Bound)
    (widths : List ℕ) → IsLeft problem given joined widths → IsLeft problem other joined widths
left-same problem given other same joined widths left = record {
  page = left.page;
  meets = All-from_Contains (Meets problem widths) other (λ bound has. All-contains (Meets problem widths) given bound left.meets
      ((same bound).1 has));
  breaks = left.breaks;
}

module _ (problem : ProblemModel) (given other : List Bound) (same : HaveSame given other) where
  pub to-other : (joined : List Bound) (widths : List ℕ) → IsLeft problem given joined widths → IsLeft problem other joined widths
  to-other joined widths left = left-same problem given other same joined widths left

  pub from-other : (joined : List Bound) (widths : List ℕ) → IsLeft problem other joined widths →
      IsLeft problem given joined widths
  from-other joined widths left = left-same problem other given (same-back given other same) joined widths left

  pub fires-same : (joined : List Bound) (nogoods : List (List Bound)) (last : List Bound) →
      Fires problem given joined nogoods last → Fires problem other joined nogoods last
  fires-same joined [] last fires = fires
  fires-same joined (nogood ∷ nogoods) last (inl (all, rest)) = inl (
    (λ i d within widths left. all i d within widths (from-other joined widths left)),
    fires-same joined nogoods last rest,
  )
  fires-same joined (nogood ∷ nogoods) last (inr (bound, one, rest)) = inr (
    bound,
    record {
      among = one.among;
      not_implied = λ implied. one.not_implied (λ widths left. implied widths (to-other joined widths left));
      others = λ b has apart widths left. one.others b has apart widths (from-other joined widths left);
    },
    fires-same (joined ++ bound ∷ []) nogoods last rest,
  )

-- the line with the same bounds is good as well
pub good-same : (problem : ProblemModel) (trace : List CutAt) (log : List LogLine) (lower k : ℕ) (line : LogLine)
    (given other : List Bound) → HaveSame given other →
    IsGoodLine problem trace log lower k (with_bounds line given) → IsGoodLine problem trace log lower k (with_bounds line other)
good-same problem trace log lower k line given other same good = record {
  names = All-from_Contains (λ bound. bound.span < length (spans_of problem)) other
      (λ bound has. All-contains (λ b. b.span < length (spans_of problem)) given bound good.names ((same bound).1 has));
  earlier = good.earlier;
  joined = good.joined;
  fires = fires-same problem given other same [] (fired problem trace log line) good.joined good.fires;
  ends = ends-same problem (IsLeft problem given good.joined) (IsLeft problem other good.joined)
      (to-other problem given other same good.joined) (from-other problem given other same good.joined)
      (fired problem trace log line) lower line.end good.ends;
}

-- a line is good with its bounds written out
pub good-written : (problem : ProblemModel) → IsSound problem → (trace : List CutAt) → IsTraceOf problem trace →
    (log : List LogLine) (lower k : ℕ) (line : LogLine) → IsGoodLine problem trace log lower k line →
    IsGoodLine problem trace log lower k (with_bounds line (nogood_bounds problem trace line.nogood))
good-written problem sound trace is log lower k line good = record {
  names = All-from_Contains (λ bound. bound.span < length (spans_of problem)) (nogood_bounds problem trace line.nogood)
      (nogood-span problem sound trace is line.nogood good.names);
  earlier = good.earlier;
  joined = good.joined;
  fires = good.fires;
  ends = good.ends;
}

-- zone 0 has no bounds
pub zero-bounds : (problem : ProblemModel) (trace : List CutAt) → IsTraceOf problem trace →
    nogood_bounds problem trace (Zone 0) ≡ []
zero-bounds problem trace is = none-Contains (zone_bounds problem (zone_of problem trace 0))
    (λ bound has. whole-no_bounds problem bound (subst (λ (zone : List Range). Contains (zone_bounds problem zone) bound)
    (zone-first problem trace is) has))

-- a line that is good with no bounds is good with zone 0
pub good-zero : (problem : ProblemModel) (trace : List CutAt) → IsTraceOf problem trace → (log : List LogLine)
    (lower k : ℕ) (line : LogLine) → IsGoodLine problem trace log lower k (with_bounds line []) →
    IsGoodLine problem trace log lower k (record { nogood = Zone 0; fires = line.fires; end = line.end })
good-zero problem trace is log lower k line good =
    let none : [] ≡ nogood_bounds problem trace (Zone 0) = sym (zero-bounds problem trace is) in
    record {
      names = omega arith;
      earlier = good.earlier;
      joined = good.joined;
      fires = subst (λ (given : List Bound). Fires problem given [] (fired problem trace log line) good.joined) none good.fires;
      ends = subst (λ (given : List Bound). LineEndsBy problem (IsLeft problem given good.joined) (fired problem trace log line)
          lower line.end) none good.ends;
    }
