-- What comes of the same bytes twice is alike: they are refused alike, or are tables that are the same; two lowest layouts are as
-- high, and a page that is too narrow is so in each layout.
use Rattle.std.proofs.Common.{◌≡◌, inl, inr, ℕ, ◌<◌, List, Option, ap, subst, arith}
use Rattle.tl_base.specs.declared.style.Style.{Style}
use Rattle.tl_table.specs.declared.cell.Table.{Table}
use Rattle.tl_table.specs.declared.layout.Layout.{Layout}
use Rattle.tl_table.specs.Layouts.{Fits}
use Rattle.tl_table.specs.Least.{IsLeastHeight, IsLeastWidth}
use Rattle.tl_table.specs.Same.{AreSame}
use Rattle.tl_table.specs.Sound.{IsSound}
use Rattle.tl_table.proofs.LinkLemmas.{IsLeastWidth-unique}
use Rattle.tl_table.proofs.SameFits.{same_fits, same_least}
use Rattle.tl_table.proofs.SameTables.{same_turned}
use Rattle.tl_read.specs.declared.reading.Reading.{Reading}
use Rattle.tl_read.specs.declared.reading.Reading.TheVariants as readings
use Rattle.tl_read.specs.declared.refusal.Limit.TheVariants as limits
use Rattle.tl_read.specs.declared.refusal.Refusal.{Refusal}
use Rattle.tl_read.specs.declared.refusal.Refusal.TheVariants as refusals
use Rattle.tl_read.specs.declared.source.Source.{Source}
use Rattle.tl_read.specs.Reading.{AreSameReadings, IsSoundReading}
use Rattle.tl_lay.specs.declared.answer.Answer.{Answer}
use Rattle.tl_lay.specs.declared.answer.Answer.TheVariants as answers
use Rattle.tl_lay.specs.declared.task.Task.{Task}
use Rattle.tl_lay.specs.Answers.{IsLaidAs, bounded_laid, lowest_laid, narrow_laid}
use Rattle.tl_lay.specs.Inputs.{IsOfBytes, IsOfReading}

-- ---- the same bytes

-- What comes of the same bytes, twice. Where they are refused, or their table, the refusals are the same; and where both go on with
-- their own parts on tables that are the same, it is as alike as those make it
module _ (source : Source) (reach : Table → ℕ) (one_reach : (one other : Table) → AreSame one other → reach one ≡ reach other)
    (Refuses Passes : Refusal → Type 0) (One Other : Table → Type 0) (Alike : Type 0)
    (refused : (refusal : Refusal) → Refuses refusal → Passes refusal → Alike)
    (own : (one other : Table) → IsSound other → AreSame one other → One one → Other other → Alike) where
  by_readings : (one other : Reading) → IsSoundReading other → AreSameReadings one other → IsOfReading reach Refuses One one →
      IsOfReading reach Passes Other other → Alike
  by_readings (readings.Table one) (readings.Table other) sound alike (inl far) (inl beyond) =
      refused (refusals.Limit limits.Reach (reach other))
      (subst (λ (n : ℕ). Refuses (refusals.Limit limits.Reach n)) (one_reach one other alike) far.1) beyond.1
  by_readings (readings.Table one) (readings.Table other) sound alike (inl far) (inr near) =
      absurd (omega (arith, far.0, near.0, one_reach one other alike))
  by_readings (readings.Table one) (readings.Table other) sound alike (inr near) (inl far) =
      absurd (omega (arith, far.0, near.0, one_reach one other alike))
  by_readings (readings.Table one) (readings.Table other) sound alike (inr near) (inr close) =
      own one other sound.0 alike near.1 close.1
  by_readings (readings.Table one) (readings.Refused refusal) sound alike so also = absurd alike
  by_readings (readings.Refused refusal) (readings.Table other) sound alike so also = absurd alike
  by_readings (readings.Refused one) (readings.Refused other) sound alike so also = refused other (subst Refuses alike so) also

  pub same_bytes_alike : (bytes : List ℕ) → IsOfBytes source reach Refuses One bytes → IsOfBytes source reach Passes Other bytes →
      Alike
  same_bytes_alike bytes of also = by_readings of.reading also.reading also.sound (of.only also.reading also.read) of.so also.so

-- ---- layouts

-- two least heights are one
pub one_least : (table : Table) (style : Style) (width one other : ℕ) → IsLeastHeight table style width one →
    IsLeastHeight table style width other → one ≡ other
one_least table style width one other is are =
    let first = is.least other are.attained.0 are.attained.1 in
    let second = are.least one is.attained.0 is.attained.1 in
    omega (arith, first, second)

-- and are so for tables that are the same
pub as_high : (one other : Table) (style : Style) (width height more : ℕ) → AreSame one other →
    IsLeastHeight one style width height → IsLeastHeight other style width more → height ≡ more
as_high one other style width height more same first = one_least other style width height more (record {
  attained = (first.attained.0, same_fits one other style width height first.attained.0 same first.attained.1);
  least = λ lines layout fits. first.least lines layout
      (same_fits other one style width lines layout (same_turned one other same) fits);
})

-- no layout fits a page that is narrower than the least width
none_fits : (table : Table) (style : Style) (width least height : ℕ) (layout : Layout) → IsLeastWidth table style least →
    width < least → Fits table style width height layout → ⊥
none_fits table style width least height layout is narrow fits =
    let within = is.least width height layout fits in omega (arith, within, narrow)

-- where a page is too narrow for a table, this is answered for it
pub narrow_answered : (task : Task) (table : Table) {answer : Answer} → IsLaidAs task table answer → (least : ℕ) →
    IsLeastWidth table task.style least → task.width < least →
    (text : Option (List ℕ)) × (answer ≡ answers.Narrow least task.width text)
narrow_answered task table (lowest_laid {height} is) least is_least narrow =
    absurd (none_fits table task.style task.width least height is.written.layout is_least narrow is.written.is_page.fits)
narrow_answered task table (bounded_laid {height} is) least is_least narrow =
    absurd (none_fits table task.style task.width least height is.written.layout is_least narrow is.written.is_page.fits)
narrow_answered task table (narrow_laid {least = found} {text} is) least is_least narrow = (
  text,
  ap (λ (n : ℕ). answers.Narrow n task.width text) (IsLeastWidth-unique table task.style found least is.is_least is_least),
)

-- and for one that is the same, on a page that is as wide
pub also_narrow : (task twin : Task) (one other : Table) (least : ℕ) {answer : Answer} → task.style ≡ twin.style →
    task.width ≡ twin.width → AreSame one other → IsLeastWidth one task.style least → task.width < least →
    IsLaidAs twin other answer → (text : Option (List ℕ)) × (answer ≡ answers.Narrow least twin.width text)
also_narrow task twin one other least styles widths same is_least narrow laid = narrow_answered twin other laid least
    (subst (λ (style : Style). IsLeastWidth other style least) styles (same_least one other task.style least same is_least))
    (subst (λ (n : ℕ). n < least) widths narrow)
