-- The cut of each zone, cut by cut.
use Rattle.std.proofs.Common.{◌≡◌, ◌≢◌, ℕ, ◌+◌, ◌*◌, ◌<◌, List, inl, inr, length, get_or, set, Option, Some, None, sym, ap, ◌∙◌}
use Rattle.std.proofs.Common.{subst, arith}
use Rattle.std.proofs.lemmas.Bool.{cases_lt}
use Rattle.std.proofs.lemmas.List.{get_or-set_same, get_or-set_other, length-set, get_or_default}
use Rattle.tl_problem.proofs.ZoneLaws.{cases_eq}
use Rattle.tl_cert.specs.declared.trace.CutAt.{CutAt}
use Rattle.tl_solve.specs.CutsFound.{IsCutFound, AreCutsOf}
use Rattle.tl_solve.specs.inner.Found.{ArePartsThere}

module _ (trace : List CutAt) (upto : ℕ) (d : CutAt) (within : upto < length trace) where
  -- the next cut leaves other zones as they are
  others-stay : (z : ℕ) (found : Option ℕ) → (get_or trace upto d).zone ≢ z → IsCutFound trace upto z found →
      IsCutFound trace (upto + 1) z found
  others-stay z None apart none = λ i e before.
      elim (cases_lt i upto) [
        | inl less ↦ none i e less
        | inr same ↦
            let here : i ≡ upto = omega (arith, before, same) in
            subst (λ n. (get_or trace n e).zone ≢ z) (sym here)
            (subst (λ (cut : CutAt). cut.zone ≢ z) (get_or_default trace upto d e within) apart)
      ]
  others-stay z (Some i) apart found = (omega (arith, found.0), found.1)

  pub cuts-next : (cuts : List (Option ℕ)) → AreCutsOf trace upto cuts →
      AreCutsOf trace (upto + 1) (set cuts (get_or trace upto d).zone (Some upto))
  cuts-next cuts are = record { count = length-set cuts (get_or trace upto d).zone (Some upto) ∙ are.count; each = each } where
    each : (z : ℕ) (e : Option ℕ) → z < length (set cuts (get_or trace upto d).zone (Some upto)) →
        IsCutFound trace (upto + 1) z (get_or (set cuts (get_or trace upto d).zone (Some upto)) z e)
    each z e inside =
        let zone = (get_or trace upto d).zone in
        let long : z < length cuts = omega (arith, inside, length-set cuts zone (Some upto)) in
        elim (cases_eq z zone) [
          | inl same ↦
              let at : get_or (set cuts zone (Some upto)) z e ≡ Some upto =
              ap (λ n. get_or (set cuts zone (Some upto)) n e) same ∙ get_or-set_same cuts zone (Some upto) e
              (subst (λ n. n < length cuts) same long) in
              subst (IsCutFound trace (upto + 1) z) (sym at)
              (omega arith, λ f. ap (λ (cut : CutAt). cut.zone) (get_or_default trace upto f d within) ∙ sym same)
          | inr differ ↦ subst (IsCutFound trace (upto + 1) z) (sym (get_or-set_other cuts zone z (Some upto) e differ))
              (others-stay z (get_or cuts z e) (λ equal. differ (sym equal)) (are.each z e long))
        ]

-- both parts of each cut are there
pub parts-there : (trace : List CutAt) (cuts : List (Option ℕ)) → AreCutsOf trace (length trace) cuts →
    ArePartsThere (2 * length trace) cuts
parts-there trace cuts are z d cut within is =
    let found : IsCutFound trace (length trace) z (Some cut) =
    subst (IsCutFound trace (length trace) z) is (are.each z d within) in
    omega (arith, found.0)
