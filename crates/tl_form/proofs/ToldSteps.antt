-- The steps that the sections of a table tell: what is collected width by width, and what is said of sections.
use Rattle.std.proofs.Common.{◌≡◌, ◌∙◌, ℕ, ◌+◌, ◌-◌, ◌^◌, ◌<◌, ◌≤◌, List, [], subst, arith}
use Rattle.tl_base.specs.declared.steps.Config.{Config}
use Rattle.tl_base.specs.declared.style.Style.{Style}
use Rattle.tl_base.proofs.Stacking.{first_width-within}
use Rattle.tl_cert.specs.declared.section.Section.{Section}
use Rattle.tl_table.specs.declared.cell.Table.{Table, out-Table}
use Rattle.tl_form.specs.declared.heights.HeightBound.{HeightBound}
use Rattle.tl_form.specs.declared.heights.HeightBound.TheVariants.{Low, High}
use Rattle.tl_form.specs.declared.heights.InnerSteps.{InnerSteps}
use Rattle.tl_form.specs.declared.nested_steps.Finding.{Finding}
use Rattle.tl_table.specs.Least.{IsLeastWidth}
use Rattle.tl_form.specs.Nested.{IsGreatestLower, IsLeastFound, AreStepsBy}
use Rattle.tl_form.specs.inner.Collecting.{AreStepsBelow, AreToldSteps, TellsHeight, told_by, with_step}
use Rattle.tl_table.proofs.LinkLemmas.{IsLeastWidth-unique}
use Rattle.tl_form.proofs.NeedSteps.{AreStepsOf-same}
use Rattle.tl_form.proofs.SectionHeights.{height_falls, height_one, lower_told, told_lower, found_told, told_found}
use Rattle.tl_form.proofs.StepsBelow.{below_none, below_more, below_steps, below_begins}
use Rattle.tl_form.proofs.Truth.{height_from}

-- ---- width by width

pub never_wide : (bound : HeightBound) (told : List Finding) (least page : ℕ) (steps : List Config) →
    AreToldSteps bound told least page steps →
    page < least → ⊥
never_wide bound told least page steps is wide =
    omega (arith, wide, is.begins, first_width-within page steps is.are.decreasing is.are.within)

pub height_missing : (bound : HeightBound) (told : List Finding) (least page w : ℕ) (steps : List Config) →
    AreToldSteps bound told least page steps →
    least ≤ w → w ≤ page → ((h : ℕ) → TellsHeight bound told w h → ⊥) → ⊥
height_missing bound told least page w steps is from within none =
    let here = height_from steps w is.are.decreasing (omega (arith, is.begins, from)) in
    none here.0 ((is.are.each w here.0 within).0 here.1).1

pub told_none : (bound : HeightBound) (told : List Finding) (least : ℕ) (steps : List Config) → steps ≡ [] →
    AreStepsBelow (TellsHeight bound told) least least steps
told_none bound told least steps is =
    below_none (TellsHeight bound told) (height_one bound told)
    (λ v w a b wider first second. height_falls bound told v w a b wider first second)
    least steps is

pub told_more : (bound : HeightBound) (told : List Finding) (least w h : ℕ) (steps : List Config) → least ≤ w →
    AreStepsBelow (TellsHeight bound told) least w steps → TellsHeight bound told w h →
    AreStepsBelow (TellsHeight bound told) least (w + 1) (with_step steps w h)
told_more bound told least w h steps from below here =
    below_more (TellsHeight bound told) (height_one bound told)
    (λ v x a b wider first second. height_falls bound told v x a b wider first second) least
    w h steps from below here

pub told_done : (bound : HeightBound) (told : List Finding) (least page w : ℕ) (steps : List Config) → least ≤ page → w ≡ page + 1 →
    AreStepsBelow (TellsHeight bound told) least w steps → AreToldSteps bound told least page steps
told_done bound told least page w steps wide end below =
    let all = subst (λ n. AreStepsBelow (TellsHeight bound told) least n steps) end below in
    record {
      begins = below_begins (TellsHeight bound told) (height_one bound told)
          (λ v x a b wider first second. height_falls bound told v x a b wider first second) least page steps wide all;
      are = below_steps (TellsHeight bound told) (height_one bound told)
          (λ v x a b wider first second. height_falls bound told v x a b wider first second) least page steps wide all;
    }

-- ---- in words of sections

module _ (style : Style) (page : ℕ) (sections : List Section) (nested : Table) (least : ℕ) (small : page < 2 ^ 64 - 1)
    (is_least : IsLeastWidth nested style least) where
  number : ℕ
  number = (out-Table nested).number

  abbrev told : List Finding
  told = told_by style (out-Table nested).number sections

  pub to_low : (steps : InnerSteps) → AreStepsBy style page sections nested steps → AreToldSteps Low told least page steps.low
  to_low steps is =
      let same = IsLeastWidth-unique nested style is.least least is.is_least is_least in record {
        begins = is.begins.0 ∙ same;
        are = AreStepsOf-same (λ w h. (is.least ≤ w) × IsGreatestLower sections (out-Table nested).number w h)
            (λ w h. (least ≤ w) × TellsHeight Low told w h) page steps.low
            (λ w h within both. (omega (arith, same, both.0), lower_told style (out-Table nested).number sections w h both.1))
            (λ w h within both. (omega (arith, same, both.0), told_lower style (out-Table nested).number sections w h both.1))
            is.low;
      }

  pub to_high : (steps : InnerSteps) → AreStepsBy style page sections nested steps → AreToldSteps High told least page steps.high
  to_high steps is =
      let same = IsLeastWidth-unique nested style is.least least is.is_least is_least in record {
        begins = is.begins.1 ∙ same;
        are = AreStepsOf-same (λ w h. (is.least ≤ w) × IsLeastFound style sections (out-Table nested).number w h)
            (λ w h. (least ≤ w) × TellsHeight High told w h) page steps.high
            (λ w h within both. (
              omega (arith, same, both.0),
              found_told style (out-Table nested).number sections w h (omega (arith, within, small)) both.1,
            ))
            (λ w h within both. (
              omega (arith, same, both.0),
              told_found style (out-Table nested).number sections w h (omega (arith, within, small)) both.1,
            )) is.high;
      }

  pub from_told : (steps : InnerSteps) → steps.table ≡ (out-Table nested).number → AreToldSteps Low told least page steps.low →
      AreToldSteps High told least page steps.high → AreStepsBy style page sections nested steps
  from_told steps named low high = record {
    named = named;
    least = least;
    is_least = is_least;
    begins = (low.begins, high.begins);
    low = AreStepsOf-same (λ w h. (least ≤ w) × TellsHeight Low told w h)
        (λ w h. (least ≤ w) × IsGreatestLower sections (out-Table nested).number w h) page steps.low
        (λ w h within both. (both.0, told_lower style (out-Table nested).number sections w h both.1))
        (λ w h within both. (both.0, lower_told style (out-Table nested).number sections w h both.1)) low.are;
    high = AreStepsOf-same (λ w h. (least ≤ w) × TellsHeight High told w h)
        (λ w h. (least ≤ w) × IsLeastFound style sections (out-Table nested).number w h) page steps.high
        (λ w h within both. (
          both.0,
          told_found style (out-Table nested).number sections w h (omega (arith, within, small))
              both.1,
        ))
        (λ w h within both. (
          both.0,
          found_told style (out-Table nested).number sections w h (omega (arith, within, small))
              both.1,
        )) high.are;
  }
