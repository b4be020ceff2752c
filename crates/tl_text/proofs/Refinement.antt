-- The units of a paragraph that is broken above a number of columns are made up of those that it has
-- above a lesser number.
use Rattle.std.proofs.Common.{◌≡◌, ℕ, ◌<◌, ◌≤◌, Bool, true, false, cond, List, [], ◌∷◌, ◌++◌, length, map, refl, ap, sym, ◌∙◌, arith}
use Rattle.std.specs.List.{AllByRecursion, AllZip, flat_map}
use Rattle.std.proofs.lemmas.List.{append-nil, map-append}
use Rattle.std.proofs.lemmas.List.Concat.{flat_map-append}
use Rattle.unicode_segmentation.specs.Segments.{Rule, cut}
use Rattle.tl_base.proofs.Zips.{AllZip-append}
use Rattle.tl_text.specs.declared.paragraph.Atom.{Atom}
use Rattle.tl_text.specs.declared.paragraph.Atom.TheVariants.{Word, Glue, Break}
use Rattle.tl_text.specs.Cuttings.{joined}
use Rattle.tl_text.specs.Clusters.{clusters_of, word_of}
use Rattle.tl_text.specs.Parts.{is_part_break, parts_of, stays_whole, part_pieces, word_pieces, units_within, broken_above}
use Rattle.tl_text.specs.Refined.{MakesUp, Refines}
use Rattle.tl_text.proofs.ClusterLemmas.{all-cut}
use Rattle.tl_text.proofs.PartLemmas.{joined-part, joined-word}
use Rattle.tl_text.proofs.Steadiness.{kept-more}

-- ---- texts that are made up of texts

-- some texts, joined, are this one
abbrev IsGroup : List ℕ → List (List ℕ) → Type 0
IsGroup text group = (0 < length group) × (joined group ≡ text)

-- the texts of `fine` fall into groups, in order, one for each text of `coarse`
abbrev Grouped : List (List ℕ) → List (List ℕ) → Type 0
Grouped fine coarse = (groups : List (List (List ℕ))) × (joined groups ≡ fine) × AllZip IsGroup coarse groups

-- each text is a group of its own
grouped-same : (texts : List (List ℕ)) → Grouped texts texts
grouped-same [] = ([], refl, tt)
grouped-same (text ∷ texts) =
    let (groups, are, each) = grouped-same texts in
    ((text ∷ []) ∷ groups, ap (λ (others : List (List ℕ)). text ∷ others) are, ((omega arith, append-nil text), each))

-- all texts are one group
grouped-one : (text : List ℕ) (fine : List (List ℕ)) → 0 < length text → joined fine ≡ text → Grouped fine (text ∷ [])
grouped-one text fine some is = (fine ∷ [], append-nil fine, ((has fine is, is), tt))
  where
    has : (texts : List (List ℕ)) → joined texts ≡ text → 0 < length texts
    has [] none = absurd (omega (arith, some, ap (λ (t : List ℕ). length t) none))
    has (first ∷ others) same = omega arith

grouped-append : (fine coarse more_fine more_coarse : List (List ℕ)) → Grouped fine coarse → Grouped more_fine more_coarse →
    Grouped (fine ++ more_fine) (coarse ++ more_coarse)
grouped-append fine coarse more_fine more_coarse (groups, are, each) (more_groups, more_are, more_each) = (
  groups ++ more_groups,
  flat_map-append (λ (group : List (List ℕ)). group) groups more_groups ∙ (λ i. are i ++ more_are i),
  AllZip-append IsGroup coarse more_coarse groups more_groups each more_each,
)

-- a text that is cut by a rule gives no empty piece
some-cut : (rule : Rule) (text : List ℕ) → AllByRecursion (λ piece. 0 < length piece) (cut rule [] text [])
some-cut rule text =
    all-cut (λ c. Unit {0}) (λ piece. 0 < length piece) (λ c _. omega arith) (λ c piece _ _. omega arith) rule [] text []
    (each text)
  where
    each : (cs : List ℕ) → AllByRecursion (λ c. Unit {0}) cs
    each [] = tt
    each (c ∷ cs) = (tt, each cs)

-- ---- units that are made up of units

-- units that go on with a word
glues-make_up : (texts : List (List ℕ)) (groups : List (List (List ℕ))) → AllZip IsGroup texts groups →
    AllZip MakesUp (map Glue texts) (map (map Glue) groups)
glues-make_up [] [] each = tt
glues-make_up [] (group ∷ groups) each = absurd each
glues-make_up (text ∷ texts) [] each = absurd each
glues-make_up (text ∷ texts) (group ∷ groups) each = ((group, refl, each.0.1), glues-make_up texts groups each.1)

joined-glues : (groups : List (List (List ℕ))) → joined (map (map Glue) groups) ≡ map Glue (joined groups)
joined-glues [] = refl
joined-glues (group ∷ groups) =
    ap (λ (units : List Atom). map Glue group ++ units) (joined-glues groups) ∙ sym (map-append Glue group (joined groups))

-- a word of texts that are made up of texts
words-refine : (fine coarse : List (List ℕ)) → Grouped fine coarse → Refines (word_of fine) (word_of coarse)
words-refine fine [] ([], are, each) = ([], ap word_of are, tt)
words-refine fine [] (group ∷ groups, are, each) = absurd each
words-refine fine (text ∷ texts) ([], are, each) = absurd each
words-refine fine (text ∷ texts) ([] ∷ groups, are, each) = absurd (omega (arith, each.0.0))
words-refine fine (text ∷ texts) ((first ∷ group) ∷ groups, are, each) = (
  word_of (first ∷ group) ∷ map (map Glue) groups,
  ap (λ (units : List Atom). Word first ∷ units) (joined-glues (group ∷ groups)) ∙ ap word_of are,
  ((first ∷ group, refl, each.0.1), glues-make_up texts groups each.1),
)

refines-append : (fine coarse more_fine more_coarse : List Atom) → Refines fine coarse → Refines more_fine more_coarse →
    Refines (fine ++ more_fine) (coarse ++ more_coarse)
refines-append fine coarse more_fine more_coarse (groups, are, each) (more_groups, more_are, more_each) = (
  groups ++ more_groups,
  flat_map-append (λ (group : List Atom). group) groups more_groups ∙ (λ i. are i ++ more_are i),
  AllZip-append MakesUp coarse more_coarse groups more_groups each more_each,
)

-- ---- a lesser number and a greater one

module _ (less more : ℕ) (below : less ≤ more) where
  -- the greater number keeps a text whole, or both separate it
  choice : (P : List (List ℕ) → List (List ℕ) → Type 0) (text : List ℕ) (fine coarse : List (List ℕ)) →
      P (cond (stays_whole less text) (text ∷ []) fine) (text ∷ []) → P fine coarse →
      P (cond (stays_whole less text) (text ∷ []) fine) (cond (stays_whole more text) (text ∷ []) coarse)
  choice P text fine coarse whole separated = by (stays_whole less text) (stays_whole more text) refl refl whole
    where
      by : (finely coarsely : Bool) → stays_whole less text ≡ finely → stays_whole more text ≡ coarsely →
          P (cond finely (text ∷ []) fine) (text ∷ []) → P (cond finely (text ∷ []) fine) (cond coarsely (text ∷ []) coarse)
      by finely true at_less at_more one = one
      by true false at_less at_more one = absurd (kept-more less more text below at_less at_more)
      by false false at_less at_more one = separated

  grouped-part : (part : List ℕ) → 0 < length part → Grouped (part_pieces less part) (part_pieces more part)
  grouped-part part some =
      choice Grouped part (clusters_of part) (clusters_of part) (grouped-one part (part_pieces less part) some (joined-part less part))
      (grouped-same (clusters_of part))

  grouped-parts : (parts : List (List ℕ)) → AllByRecursion (λ part. 0 < length part) parts →
      Grouped (flat_map (part_pieces less) parts) (flat_map (part_pieces more) parts)
  grouped-parts [] each = ([], refl, tt)
  grouped-parts (part ∷ parts) each =
      grouped-append (part_pieces less part) (part_pieces more part) (flat_map (part_pieces less) parts)
      (flat_map (part_pieces more) parts) (grouped-part part each.0) (grouped-parts parts each.1)

  word-refines : (text : List ℕ) → Refines (word_of (word_pieces less text)) (word_of (word_pieces more text))
  word-refines text =
      let fine = flat_map (part_pieces less) (parts_of text) in
      let coarse = flat_map (part_pieces more) (parts_of text) in
      choice (λ few many. Refines (word_of few) (word_of many)) text fine coarse (
        word_of (word_pieces less text) ∷ [],
        append-nil (word_of (word_pieces less text)),
        ((word_pieces less text, refl, joined-word less text), tt),
      )
      (words-refine fine coarse (grouped-parts (parts_of text) (some-cut is_part_break text)))

  units-refine : (atom : Atom) → Refines (units_within less atom) (units_within more atom)
  units-refine (Word text) = word-refines text
  units-refine (Glue text) = ((Glue text ∷ []) ∷ [], refl, ((text ∷ [], refl, append-nil text), tt))
  units-refine Break = ((Break ∷ []) ∷ [], refl, (refl, tt))

-- the units of a lesser number make up those of a greater one
pub broken_above-refines : (atoms : List Atom) (less more : ℕ) → less ≤ more →
    Refines (broken_above less atoms) (broken_above more atoms)
broken_above-refines [] less more below = ([], refl, tt)
broken_above-refines (atom ∷ atoms) less more below =
    refines-append (units_within less atom) (units_within more atom) (broken_above less atoms) (broken_above more atoms)
    (units-refine less more below atom) (broken_above-refines atoms less more below)
