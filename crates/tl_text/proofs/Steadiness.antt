-- Two numbers of columns break a paragraph alike where no unit of it is of a width between them.
use Rattle.std.proofs.Common.{◌≡◌, ℕ, ◌<◌, ◌≤◌, Bool, true, false, cond, List, [], ◌∷◌, ◌++◌, map, ◌⊎◌, inl, inr, refl, ap, arith}
use Rattle.std.specs.List.{All, AllByRecursion, flat_map}
use Rattle.std.proofs.lemmas.Bool.Decides.{nat_tests}
use Rattle.std.proofs.lemmas.List.Elements.{recursion_from_All}
use Rattle.tl_base.proofs.Members.{AllByRecursion-prefix, AllByRecursion-suffix}
use Rattle.tl_text.specs.declared.paragraph.Atom.{Atom}
use Rattle.tl_text.specs.declared.paragraph.Atom.TheVariants.{Word, Glue, Break}
use Rattle.tl_text.specs.Words.{width_of}
use Rattle.tl_text.specs.Paragraph.{unit_width}
use Rattle.tl_text.specs.Clusters.{clusters_of, word_of}
use Rattle.tl_text.specs.Parts.{parts_of, stays_whole, part_pieces, word_pieces, units_within, broken_above}

-- a text that a number keeps whole is not separated at a greater one
pub kept-more : (less more : ℕ) (text : List ℕ) → less ≤ more → stays_whole less text ≡ true → stays_whole more text ≡ false → ⊥
kept-more less more text below kept separated = grind (arith, nat_tests, kept, separated, below)

module _ (wide less most : ℕ) (wide_below : wide ≤ less) (some : 0 < less) (below : less ≤ most) where
  -- a width is not between `wide` and `most`
  abbrev IsApart : ℕ → Type 0
  IsApart width = (width ≤ wide) ⊎ (most < width)

  -- each text of a list has such a width, and each unit
  abbrev AreApart : List (List ℕ) → Type 0
  AreApart texts = AllByRecursion (λ text. IsApart (width_of text)) texts

  abbrev UnitsApart : List Atom → Type 0
  UnitsApart units = AllByRecursion (λ unit. IsApart (unit_width unit)) units

  -- a text of such a width that the greater number keeps whole is not separated at the lesser one
  kept-less : (text : List ℕ) → IsApart (width_of text) → stays_whole less text ≡ false → stays_whole most text ≡ true → ⊥
  kept-less text (inl narrow) separated kept = grind (arith, nat_tests, narrow, separated, wide_below, some)
  kept-less text (inr broad) separated kept = grind (arith, nat_tests, broad, kept)

  -- a text whose pieces are of such widths has the same pieces at both numbers, if it has where it is
  -- separated at both
  steady-choice : (text : List ℕ) (fine coarse : List (List ℕ)) →
      AreApart (cond (stays_whole most text) (text ∷ []) coarse) → (AreApart coarse → fine ≡ coarse) →
      cond (stays_whole less text) (text ∷ []) fine ≡ cond (stays_whole most text) (text ∷ []) coarse
  steady-choice text fine coarse each same = by (stays_whole less text) (stays_whole most text) refl refl each
    where
      by : (finely coarsely : Bool) → stays_whole less text ≡ finely → stays_whole most text ≡ coarsely →
          AreApart (cond coarsely (text ∷ []) coarse) → cond finely (text ∷ []) fine ≡ cond coarsely (text ∷ []) coarse
      by true true at_less at_most apart = refl
      by true false at_less at_most apart = absurd (kept-more less most text below at_less at_most)
      by false true at_less at_most apart = absurd (kept-less text apart.0 at_less at_most)
      by false false at_less at_most apart = same apart

  -- the pieces of a part, of parts and of a word
  steady-part : (part : List ℕ) → AreApart (part_pieces most part) → part_pieces less part ≡ part_pieces most part
  steady-part part each = steady-choice part (clusters_of part) (clusters_of part) each (λ _. refl)

  steady-parts : (parts : List (List ℕ)) → AreApart (flat_map (part_pieces most) parts) →
      flat_map (part_pieces less) parts ≡ flat_map (part_pieces most) parts
  steady-parts [] each = refl
  steady-parts (part ∷ parts) each =
      let P : List ℕ → Type 0 = λ text. IsApart (width_of text) in
      let first = AllByRecursion-prefix P (part_pieces most part) (flat_map (part_pieces most) parts) each in
      let others = AllByRecursion-suffix P (part_pieces most part) (flat_map (part_pieces most) parts) each in
      λ i. steady-part part first i ++ steady-parts parts others i

  steady-word : (text : List ℕ) → AreApart (word_pieces most text) → word_pieces less text ≡ word_pieces most text
  steady-word text each =
      steady-choice text (flat_map (part_pieces less) (parts_of text)) (flat_map (part_pieces most) (parts_of text)) each
      (steady-parts (parts_of text))

  -- the texts of a word's units
  texts-glues : (texts : List (List ℕ)) → UnitsApart (map Glue texts) → AreApart texts
  texts-glues [] each = tt
  texts-glues (text ∷ texts) each = (each.0, texts-glues texts each.1)

  texts-word : (texts : List (List ℕ)) → UnitsApart (word_of texts) → AreApart texts
  texts-word [] each = tt
  texts-word (text ∷ texts) each = (each.0, texts-glues texts each.1)

  -- the units of an atom and of a paragraph
  steady-units : (atom : Atom) → UnitsApart (units_within most atom) → units_within less atom ≡ units_within most atom
  steady-units (Word text) each = ap word_of (steady-word text (texts-word (word_pieces most text) each))
  steady-units (Glue text) each = refl
  steady-units Break each = refl

  steady-atoms : (atoms : List Atom) → UnitsApart (broken_above most atoms) → broken_above less atoms ≡ broken_above most atoms
  steady-atoms [] each = refl
  steady-atoms (atom ∷ atoms) each =
      let P : Atom → Type 0 = λ unit. IsApart (unit_width unit) in
      let first = AllByRecursion-prefix P (units_within most atom) (broken_above most atoms) each in
      let others = AllByRecursion-suffix P (units_within most atom) (broken_above most atoms) each in
      λ i. steady-units atom first i ++ steady-atoms atoms others i

-- where each unit is at most `wide` columns wide or wider than `most`, a lesser number of at least
-- `wide` columns breaks the same
pub broken_above-steady : (atoms : List Atom) (wide less most : ℕ) →
    All (λ unit. (unit_width unit ≤ wide) ⊎ (most < unit_width unit)) (broken_above most atoms) →
    wide ≤ less → 0 < less → less ≤ most → broken_above less atoms ≡ broken_above most atoms
broken_above-steady atoms wide less most each wide_below some below =
    steady-atoms wide less most wide_below some below atoms
    (recursion_from_All (λ unit. (unit_width unit ≤ wide) ⊎ (most < unit_width unit)) (broken_above most atoms) each)
