-- A trace with one cut more, and the flags of its zones; and what a checker stays reserved for.
use Rattle.std.proofs.Common.{◌≡◌, ◌≢◌, ℕ, ◌+◌, ◌*◌, ◌<◌, ◌≤◌, Bool, true, false, List, [], ◌∷◌}
use Rattle.std.proofs.Common.{◌++◌, inl, inr, length, take, drop, get_or, set, sym, ap, subst, ◌∙◌, arith, length-append}
use Rattle.std.specs.List.{All}
use Rattle.std.proofs.lemmas.List.{get_or-set_same, get_or-set_other, length-set, length-take-le}
use Rattle.std.proofs.lemmas.List.Elements.{All-push}
use Rattle.tl_base.proofs.Members.{All-prefix, All-last}
use Rattle.tl_diff.specs.Marks.{MarkedBounds}
use Rattle.tl_problem.specs.declared.placed.Placed.{Placed}
use Rattle.tl_problem.specs.Problem.{ProblemModel}
use Rattle.tl_problem.specs.Placements.{IsOpening}
use Rattle.tl_problem.specs.Works.{HasPage}
use Rattle.tl_problem.proofs.ZoneLaws.{cases_eq}
use Rattle.tl_cert.specs.declared.trace.CutAt.{CutAt}
use Rattle.tl_check.specs.declared.checker.Checker.{Checker}
use Rattle.tl_check.specs.Checkers.{StaysReserved}
use Rattle.tl_check.specs.inner.Traces.{AreFlags}

pub flags-push : (cuts : List CutAt) (cut : CutAt) (flags : List Bool) → 2 * (length cuts + 1) + 1 ≤ length flags →
    cut.zone < length flags →
    AreFlags cuts flags → AreFlags (cuts ++ cut ∷ []) (set flags cut.zone true)
flags-push cuts cut flags room there h = record {
  room = omega (arith, room, count, length-append cuts (cut ∷ []));
  cut =
      is_cut;
  not_cut = is_not;
} where
  count : length (set flags cut.zone true) ≡ length flags
  count = length-set flags cut.zone true

  is_cut : (z : ℕ) (d : Bool) → z < length (set flags cut.zone true) → get_or (set flags cut.zone true) z d ≡ true →
      All (λ c. c.zone ≢ z) (cuts ++ cut ∷ []) → ⊥
  is_cut z d within is all =
      elim (cases_eq z cut.zone) [
        | inl same ↦ All-last (λ c. c.zone ≢ z) cuts cut all (sym same)
        | inr apart ↦ h.cut z d (omega (arith, within, count)) (sym (get_or-set_other flags cut.zone z true d apart) ∙ is)
            (All-prefix (λ c. c.zone ≢ z) cuts cut all)
      ]

  is_not : (z : ℕ) (d : Bool) → z < length (set flags cut.zone true) → get_or (set flags cut.zone true) z d ≡ false →
      All (λ c. c.zone ≢ z) (cuts ++ cut ∷ [])
  is_not z d within is =
      elim (cases_eq z cut.zone) [
        | inl same ↦
            let at : get_or (set flags cut.zone true) z d ≡ true = ap (λ n. get_or (set flags cut.zone true) n d) same
            ∙ get_or-set_same flags cut.zone true d there in
            absurd cc
        | inr apart ↦ All-push (λ c. c.zone ≢ z) cuts cut (h.not_cut z d (omega (arith, within, count))
            (sym (get_or-set_other flags cut.zone z true d apart) ∙ is))
            (λ same. apart (sym same))
      ]

-- flags that are written over all those of a vector are as many
pub written-room : (len : ℕ) (new old : List Bool) → len ≡ length old → length new ≡ length old →
    length old ≤ length (take len (new ++ drop (length new) old))
written-room len new old whole same =
    let all = new ++ drop (length new) old in
    let grown = length-append new (drop (length new) old) in
    omega (arith, whole, length-take-le len all (omega (arith, whole, same, grown)))

-- a checker stays reserved for what it was where its constraints and its height stay, and its flags are no fewer
pub stays-by : (problem : ProblemModel) (old new : Checker) → (HasPage problem old.work → HasPage problem new.work) →
    new.work.matrix ≡ old.work.matrix → new.opening ≡ old.opening → length old.is_cut.items ≤ length new.is_cut.items →
    StaysReserved problem old new
stays-by problem old new page matrix opening flags = λ cuts is.
    record {
      few = is.few;
      page = page is.page;
      none_held = ap (λ (m : MarkedBounds). m.held) matrix ∙ is.none_held;
      marks = subst (λ (m : MarkedBounds). 1 ≤ m.marks) (sym matrix) is.marks;
      opening = subst (λ height. (placed : Placed) × IsOpening problem placed × (placed.height ≡ height)) (sym opening)
          is.opening;
      flags = omega (arith, flags, is.flags);
    }
