-- Which fires a line needs: from a line of two parts neither can be taken, if neither is enough alone; and a line with fewer
-- bounds needs what the one with more needed.
use Rattle.std.proofs.Common.{◌≡◌, ℕ, ◌<◌, ◌≤◌, ◌⊎◌, zero, suc, List, [], ◌∷◌, inl, inr, length, refl, sym, ap}
use Rattle.std.proofs.Common.{◌∙◌, subst, arith}
use Rattle.std.specs.List.{All, Contains, remove}
use Rattle.std.proofs.lemmas.List.Edits.{length-remove}
use Rattle.std.proofs.lemmas.List.Elements.{All-nil, All-cons, All-contains}
use Rattle.tl_base.proofs.Members.{All-from_Contains}
use Rattle.tl_problem.specs.Problem.{ProblemModel}
use Rattle.tl_cert.specs.declared.log.Bound.{Bound}
use Rattle.tl_cert.specs.declared.log.End.{End}
use Rattle.tl_cert.specs.declared.log.End.TheVariants.{Fired}
use Rattle.tl_cert.specs.declared.log.LogLine.{LogLine}
use Rattle.tl_cert.specs.declared.log.Nogood.{Nogood}
use Rattle.tl_cert.specs.declared.trace.CutAt.{CutAt}
use Rattle.tl_cert.specs.Implied.{IsLeft, Implied}
use Rattle.tl_cert.specs.Lines.{nogood_at, Fires, IsGoodLine}
use Rattle.tl_cert.specs.Nogoods.{Meets, Breaks, nogood_bounds, NamesAreThere}
use Rattle.tl_cert.proofs.LogLaws.{meets-or_breaks}
use Rattle.tl_branch.specs.Learn.{FiresAreNeeded}
use Rattle.tl_branch.specs.inner.Learnings.{line_of}

-- ---- one fire alone

-- a nogood that was fired alone and is implied then was implied before
alone-implied : (problem : ProblemModel) (given nogood joined : List Bound) →
    Fires problem given [] (nogood ∷ []) joined → All (Implied problem (IsLeft problem given joined)) nogood →
    All (Implied problem (IsLeft problem given [])) nogood
alone-implied problem given nogood joined (inl whole) implied = whole.0
alone-implied problem given nogood joined (inr one) implied =
    let bound = one.0 in
    let after : All (Implied problem (IsLeft problem given (bound ∷ []))) nogood =
    subst (λ (bs : List Bound). All (Implied problem (IsLeft problem given bs)) nogood) one.2 implied in
    absurd (one.1.not_implied (λ widths left. elim (meets-or_breaks problem widths bound) [
      | inl meets ↦ meets
      | inr breaks ↦ All-contains (Implied problem (IsLeft problem given (bound ∷ []))) nogood bound after one.1.among widths
          (record {
            page = left.page;
            meets = left.meets;
            breaks = All-cons (Breaks problem widths) bound [] breaks (All-nil (Breaks problem widths));
          })
    ]))

module _ (problem : ProblemModel) (trace : List CutAt) (log : List LogLine) (k : ℕ) where
  -- so a line that is good by at most one fire is good with more bounds, for every height
  pub few-widened : (fires : List ℕ) → length fires ≤ 1 → (fewer more : Nogood) (low high : ℕ) →
      NamesAreThere problem trace more →
      ((b : Bound) → Contains (nogood_bounds problem trace fewer) b → Contains (nogood_bounds problem trace more) b) →
      IsGoodLine problem trace log low k (record { nogood = fewer; fires = fires; end = Fired }) →
      IsGoodLine problem trace log high k (record { nogood = more; fires = fires; end = Fired })
  few-widened [] short fewer more low high names among good = absurd good.ends
  few-widened (f ∷ []) short fewer more low high names among good =
      let given = nogood_bounds problem trace more in
      let nogood = nogood_bounds problem trace (nogood_at log f) in
      let alone = alone-implied problem (nogood_bounds problem trace fewer) nogood good.joined good.fires good.ends in
      let implied : All (Implied problem (IsLeft problem given [])) nogood = λ i d within widths left. alone i d within widths
      (record {
        page = left.page;
        meets = All-from_Contains (Meets problem widths) (nogood_bounds problem trace fewer)
            (λ b has. All-contains (Meets problem widths) given b left.meets (among b has));
        breaks = All-nil (Breaks problem widths);
      }) in
      record { names = names; earlier = good.earlier; joined = []; fires = inl (implied, refl); ends = implied }
  few-widened (f ∷ g ∷ rest) short fewer more low high names among good = absurd (omega (arith, short))

  -- ---- which fires are needed

  -- one fire is needed: a line that fires nothing does not end by what it fired
  pub one-needed : (z f : ℕ) → FiresAreNeeded problem trace log k (line_of z (f ∷ []) Fired)
  one-needed z f zero height within good = good.ends
  one-needed z f (suc i) height within good = absurd (omega (arith, within))

  -- a line that fires nothing needs no less
  pub none-needed : (z : ℕ) (end : End) → FiresAreNeeded problem trace log k (line_of z [] end)
  none-needed z end i height within good = absurd (omega (arith, within))

  -- both parts are needed, if neither is enough alone
  pub both-needed : (z low high best : ℕ) →
      (IsGoodLine problem trace log best k (line_of z (low ∷ []) Fired) → ⊥) →
      (IsGoodLine problem trace log best k (line_of z (high ∷ []) Fired) → ⊥) →
      FiresAreNeeded problem trace log k (line_of z (low ∷ high ∷ []) Fired)
  both-needed z low high best no_low no_high zero height within good = no_high (at-height good) where
    at-height : IsGoodLine problem trace log height k (line_of z (high ∷ []) Fired) →
        IsGoodLine problem trace log best k (line_of z (high ∷ []) Fired)
    at-height good = record { names = good.names; earlier = good.earlier; joined = good.joined; fires = good.fires; ends = good.ends }
  both-needed z low high best no_low no_high (suc zero) height within good = no_low (at-height good) where
    at-height : IsGoodLine problem trace log height k (line_of z (low ∷ []) Fired) →
        IsGoodLine problem trace log best k (line_of z (low ∷ []) Fired)
    at-height good = record { names = good.names; earlier = good.earlier; joined = good.joined; fires = good.fires; ends = good.ends }
  both-needed z low high best no_low no_high (suc (suc i)) height within good = absurd (omega (arith, within))

  -- a line with fewer bounds needs them too
  pub needed-fewer : (line new : LogLine) → (line.fires ≡ []) ⊎ (line.end ≡ Fired) → length line.fires ≤ 2 →
      NamesAreThere problem trace line.nogood → new.fires ≡ line.fires → new.end ≡ line.end →
      ((b : Bound) → Contains (nogood_bounds problem trace new.nogood) b → Contains (nogood_bounds problem trace line.nogood) b) →
      FiresAreNeeded problem trace log k line → FiresAreNeeded problem trace log k new
  needed-fewer line new (inl none) few names fires end among needed i height within good =
      absurd (omega (arith, within, ap length fires, ap length none))
  needed-fewer line new (inr fired) few names fires end among needed i height within good =
      let there : i < length line.fires = omega (arith, within, ap length fires) in
      let left : List ℕ = remove line.fires i in
      let short : length left ≤ 1 = omega (arith, few, length-remove line.fires i there) in
      let by_fires : IsGoodLine problem trace log height k (record { nogood = new.nogood; fires = left; end = new.end }) =
      subst (λ (fs : List ℕ). IsGoodLine problem trace log height k (record {
        nogood = new.nogood;
        fires = remove fs i;
        end = new.end;
      })) fires good in
      let by_end : IsGoodLine problem trace log height k (record { nogood = new.nogood; fires = left; end = Fired }) =
      subst (λ (e : End). IsGoodLine problem trace log height k (record { nogood = new.nogood; fires = left; end = e }))
      (end ∙ fired) by_fires in
      needed i height there (subst (λ (e : End). IsGoodLine problem trace log height k (record {
        nogood = line.nogood;
        fires = left;
        end = e;
      })) (sym fired) (few-widened left short new.nogood line.nogood height height names among by_end))
