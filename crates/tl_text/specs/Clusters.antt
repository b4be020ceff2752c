-- Paragraphs whose words may be broken between grapheme clusters: the extended clusters of Unicode
-- Standard Annex #29, as the crate `unicode_segmentation` has them.
use Rattle.std.specs.Prelude.{ℕ, true, List, [], ◌∷◌, map}
use Rattle.std.specs.List.{flat_map}
use Rattle.unicode_segmentation.specs.Grapheme.{is_grapheme_break}
use Rattle.unicode_segmentation.specs.Segments.{cut}
use Rattle.tl_text.specs.declared.paragraph.Atom.{Atom}
use Rattle.tl_text.specs.declared.paragraph.Atom.TheVariants.{Word, Glue, Break}

-- the extended grapheme clusters of a text, in order: its characters, cut at each boundary of a
-- cluster
abbrev pub clusters_of : List ℕ → List (List ℕ)
clusters_of text = cut (is_grapheme_break true) [] text []

-- a word of these units: the first begins it, and the others go on with it
abbrev pub word_of : List (List ℕ) → List Atom
word_of [] = []
word_of (first ∷ others) = Word first ∷ map Glue others

-- a word becomes a word of its clusters; any other atom stays
abbrev pub units_of : Atom → List Atom
units_of (Word text) = word_of (clusters_of text)
units_of (Glue text) = Glue text ∷ []
units_of Break = Break ∷ []

-- the paragraph with each word separated into its clusters
abbrev pub by_clusters : List Atom → List Atom
by_clusters atoms = flat_map units_of atoms
