-- The clusters of a text make it up and none is empty; so a paragraph that is separated into clusters is a paragraph.
use Rattle.std.proofs.Common.{◌≡◌, ℕ, ◌+◌, Bool, true, false, cond, ◌&&◌, List, [], ◌∷◌, ◌++◌, map, sum_by}
use Rattle.std.proofs.Common.{refl, ap, sym}
use Rattle.std.proofs.Common.{◌∙◌}
use Rattle.std.specs.List.{AllByRecursion}
use Rattle.std.specs.Str.{chars, encode_utf8_all, IsUtf8}
use Rattle.std.proofs.Math.Utf8.{scalar, scalars}
use Rattle.std.proofs.lemmas.Str.{chars-encodes, scalars-chars}
use Rattle.std.proofs.lemmas.List.{map-append}
use Rattle.std.proofs.lemmas.List.Sums.{sum_by-cons}
use Rattle.unicode_segmentation.specs.Grapheme.{is_grapheme_break, graphemes}
use Rattle.unicode_segmentation.specs.Segments.{Rule, cut, prepend, segments}
use Rattle.tl_base.proofs.Texts.{byte_count-append}
use Rattle.tl_text.specs.declared.paragraph.Atom.{Atom}
use Rattle.tl_text.specs.declared.paragraph.Atom.TheVariants.{Word, Glue}
use Rattle.tl_base.specs.Text.{byte_count}
use Rattle.tl_text.specs.Cuttings.{joined}
use Rattle.tl_text.specs.Clusters.{clusters_of, word_of}

-- ---- pieces of a text that is cut by a rule

-- what holds of a character alone, and of a character before a piece of which it holds, holds of each piece
module _ (Q : ℕ → Type 0) (P : List ℕ → Type 0) (one : (c : ℕ) → Q c → P (c ∷ [])) (more : (c : ℕ) (piece : List ℕ) → Q c →
    P piece → P (c ∷ piece)) where
  all-prepend : (c : ℕ) (pieces : List (List ℕ)) → Q c → AllByRecursion P pieces → AllByRecursion P (prepend (c ∷ []) pieces)
  all-prepend c [] is each = (one c is, tt)
  all-prepend c (piece ∷ pieces) is each = (more c piece is each.0, each.1)

  all-choice : (b : Bool) (c : ℕ) (pieces : List (List ℕ)) → Q c → AllByRecursion P pieces
      → AllByRecursion P (cond b ((c ∷ []) ∷ pieces) (prepend (c ∷ []) pieces))
  all-choice true c pieces is each = (one c is, each)
  all-choice false c pieces is each = all-prepend c pieces is each

  pub all-cut : (rule : Rule) (before cs after : List ℕ) → AllByRecursion Q cs → AllByRecursion P (cut rule before cs after)
  unfolding cut
  all-cut rule before [] after each = tt
  all-cut rule before (c ∷ cs) after each =
      all-choice (rule (c ∷ before) (cs ++ after)) c (cut rule (c ∷ before) cs after) each.0
      (all-cut rule (c ∷ before) cs after each.1)

-- the pieces make up the text
joined-choice : (b : Bool) (c : ℕ) (pieces : List (List ℕ)) →
    joined (cond b ((c ∷ []) ∷ pieces) (prepend (c ∷ []) pieces)) ≡ c ∷ joined pieces
joined-choice true c pieces = refl
joined-choice false c [] = refl
joined-choice false c (piece ∷ pieces) = refl

pub joined-cut : (rule : Rule) (before cs after : List ℕ) → joined (cut rule before cs after) ≡ cs
unfolding cut
joined-cut rule before [] after = refl
joined-cut rule before (c ∷ cs) after =
    joined-choice (rule (c ∷ before) (cs ++ after)) c (cut rule (c ∷ before) cs after)
    ∙ ap (λ (rest : List ℕ). c ∷ rest) (joined-cut rule (c ∷ before) cs after)

-- the clusters of a text, joined, are the text
pub joined-clusters : (text : List ℕ) → joined (clusters_of text) ≡ text
joined-clusters text = joined-cut (is_grapheme_break true) [] text []

-- the bytes of the pieces are those of the text
pub size-joined : (pieces : List (List ℕ)) → sum_by byte_count pieces ≡ byte_count (joined pieces)
size-joined [] = refl
size-joined (piece ∷ pieces) =
    sum_by-cons byte_count piece pieces ∙ ap (λ n. byte_count piece + n) (size-joined pieces) ∙ sym
    (byte_count-append piece (joined pieces))

-- ---- the crate's list of clusters, as bytes

pub both-left : (a b : Bool) → (a && b) ≡ true → a ≡ true
both-left true b is = refl
both-left false b is = is

pub both-right : (a b : Bool) → (a && b) ≡ true → b ≡ true
both-right true b is = is
both-right false b is = absurd (cc)

-- each character of a text may be written in UTF-8
each-scalar : (cs : List ℕ) → scalars cs ≡ true → AllByRecursion (λ c. scalar c ≡ true) cs
each-scalar [] is = tt
each-scalar (c ∷ cs) is = (here, each-scalar cs later)
  where
    here : scalar c ≡ true
    here = both-left (scalar c) (scalars cs) is

    later : scalars cs ≡ true
    later = both-right (scalar c) (scalars cs) is

-- each piece as its bytes, read again
shown-pieces : (pieces : List (List ℕ)) → AllByRecursion (λ piece. scalars piece ≡ true) pieces →
    map chars (map encode_utf8_all pieces) ≡ pieces
shown-pieces [] each = refl
shown-pieces (piece ∷ pieces) each = λ i. chars-encodes piece each.0 i ∷ shown-pieces pieces each.1 i

-- the crate's clusters of the bytes, as texts, are the clusters of the text
pub shown-graphemes : (bytes : List ℕ) → IsUtf8 bytes → map chars (graphemes true bytes) ≡ clusters_of (chars bytes)
unfolding segments
shown-graphemes bytes utf8 =
    shown-pieces (clusters_of (chars bytes))
    (all-cut (λ c. scalar c ≡ true) (λ piece. scalars piece ≡ true) (λ c is. ap (λ b. b && true) is)
    (λ c piece is each. ap (λ b. b && scalars piece) is ∙ each) (is_grapheme_break true) [] (chars bytes) []
    (each-scalar (chars bytes) (scalars-chars bytes utf8)))

-- ---- one more cluster

-- no text is in the list
abbrev pub is_none : List (List ℕ) → Bool
is_none [] = true
is_none (text ∷ texts) = false

pub word_of-more : (texts : List (List ℕ)) (text : List ℕ) →
    word_of (texts ++ text ∷ []) ≡ word_of texts ++ cond (is_none texts) (Word text) (Glue text) ∷ []
word_of-more [] text = refl
word_of-more (first ∷ others) text = ap (λ (units : List Atom). Word first ∷ units) (map-append Glue others (text ∷ []))
