-- When one paragraph is another with some of its units broken further: nothing is said of widths here.
use Rattle.std.specs.Prelude.{◌≡◌, ℕ, List, [], ◌∷◌, map}
use Rattle.std.specs.List.{AllZip}
use Rattle.tl_text.specs.declared.paragraph.Atom.{Atom}
use Rattle.tl_text.specs.declared.paragraph.Atom.TheVariants.{Word, Glue, Break}
use Rattle.tl_text.specs.Clusters.{word_of}
use Rattle.tl_text.specs.Cuttings.{joined}

-- these units, in order, make up one unit: their texts, joined, are its text; the first of them begins
-- a word where it does, and the others go on with that word. A break is made up of itself alone.
abbrev pub MakesUp : Atom → List Atom → Type 0
MakesUp (Word text) units = (pieces : List (List ℕ)) × (units ≡ word_of pieces) × (joined pieces ≡ text)
MakesUp (Glue text) units = (pieces : List (List ℕ)) × (units ≡ map Glue pieces) × (joined pieces ≡ text)
MakesUp Break units = units ≡ Break ∷ []

-- the units of `finer` fall into groups, in order, one for each unit of `coarser`, which the group
-- makes up: so a line may end in `finer` wherever it may in `coarser`
abbrev pub Refines : List Atom → List Atom → Type 0
Refines finer coarser = (groups : List (List Atom)) × (joined groups ≡ finer) × AllZip MakesUp coarser groups
