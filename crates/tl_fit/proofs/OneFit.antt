-- A file has one fit on a page of a width.
use Rattle.std.proofs.Common.{◌≡◌, inl, inr, ℕ, ◌<◌, List, ap, refl, arith}
use Rattle.std.proofs.lemmas.Bool.{cases_order}
use Rattle.tl_base.specs.declared.breaking.Breaking.{Breaking}
use Rattle.tl_base.specs.declared.breaking.Breaking.TheVariants.{Words, Wider}
use Rattle.tl_base.specs.declared.style.Style.{Style}
use Rattle.tl_read.specs.declared.source.Source.{Source}
use Rattle.tl_fit.specs.Fit.{HasWideWords, IsFit, IsGreatest}

module _ (source : Source) (style : Style) (width : ℕ) (bytes : List ℕ) where
  -- words that no page of the width holds whole do not stay whole
  not_whole : HasWideWords source style width bytes → IsFit source style width bytes Words → ⊥
  not_whole wide (inl fits) = wide.narrow fits
  not_whole wide (inr none) = none wide.table wide.is

  -- a number that is less than a greatest one is none
  none_less : (less most : ℕ) → less < most → IsGreatest source style width bytes less →
      IsGreatest source style width bytes most → ⊥
  none_less less most below small great = elim great.fits [
    | inl none ↦ omega (arith, below, none)
    | inr fits ↦ small.greatest most below great.within fits
  ]

  -- there is one greatest number
  one_greatest : (one other : ℕ) → IsGreatest source style width bytes one → IsGreatest source style width bytes other →
      one ≡ other
  one_greatest one other first second = elim (cases_order one other) [
    | inl same ↦ same
    | inr (inl below) ↦ absurd (none_less one other below first second)
    | inr (inr above) ↦ absurd (none_less other one above second first)
  ]

-- a file has one fit on a page of a width
pub one_fit : (source : Source) (style : Style) (width : ℕ) (bytes : List ℕ) (one other : Breaking) →
    IsFit source style width bytes one → IsFit source style width bytes other → one ≡ other
one_fit source style width bytes Words Words first second = refl
one_fit source style width bytes Words (Wider most) first second = absurd (not_whole source style width bytes second.0 first)
one_fit source style width bytes (Wider most) Words first second = absurd (not_whole source style width bytes first.0 second)
one_fit source style width bytes (Wider most) (Wider least) first second =
    ap Wider (one_greatest source style width bytes most least first.1 second.1)
