-- A word in its pieces: they make up the word, and a paragraph of such words is a paragraph.
use Rattle.std.proofs.Common.{◌≡◌, ℕ, ◌<◌, Bool, true, false, cond, ◌||◌, List, [], ◌∷◌, ◌++◌, length, map, refl, ap, sym, ◌∙◌, subst, arith}
use Rattle.std.proofs.Common.{length-append, sum_by}
use Rattle.std.specs.List.{AllByRecursion, list_any, flat_map}
use Rattle.std.specs.Char.{is_ascii_whitespace}
use Rattle.std.proofs.lemmas.List.{append-nil}
use Rattle.std.proofs.lemmas.List.Concat.{flat_map-append}
use Rattle.std.proofs.lemmas.List.Sums.{sum_by-cons, sum_by-append}
use Rattle.std.proofs.lemmas.List.Elements.{All-from_recursion, recursion_from_All}
use Rattle.std.proofs.lemmas.Bool.{or_parts}
use Rattle.unicode_segmentation.specs.Grapheme.{is_grapheme_break}
use Rattle.unicode_segmentation.specs.Segments.{Rule, cut}
use Rattle.tl_base.specs.Text.{byte_count}
use Rattle.tl_text.specs.declared.paragraph.Atom.{Atom}
use Rattle.tl_text.specs.declared.paragraph.Atom.TheVariants.{Word, Glue, Break}
use Rattle.tl_text.specs.Paragraph.{IsSolid, IsSpeltAtom, IsParagraph, atom_size}
use Rattle.tl_text.specs.Cuttings.{joined}
use Rattle.tl_text.specs.Clusters.{clusters_of, word_of}
use Rattle.tl_text.specs.Parts.{is_part_break, parts_of, stays_whole, part_pieces, word_pieces, units_within, broken_above}
use Rattle.tl_text.proofs.ClusterLemmas.{all-cut, joined-cut, joined-clusters, size-joined}
use Rattle.tl_text.proofs.Leading.{leads, leads_is}

-- ---- the pieces make up the word

joined-choice : (whole : Bool) (text : List ℕ) (pieces : List (List ℕ)) → joined pieces ≡ text →
    joined (cond whole (text ∷ []) pieces) ≡ text
joined-choice true text pieces is = append-nil text
joined-choice false text pieces is = is

pub joined-part : (most : ℕ) (part : List ℕ) → joined (part_pieces most part) ≡ part
joined-part most part = joined-choice (stays_whole most part) part (clusters_of part) (joined-clusters part)

joined-parts : (most : ℕ) (parts : List (List ℕ)) → joined (flat_map (part_pieces most) parts) ≡ joined parts
joined-parts most [] = refl
joined-parts most (part ∷ parts) =
    flat_map-append (λ (list : List ℕ). list) (part_pieces most part) (flat_map (part_pieces most) parts)
    ∙ (λ i. joined-part most part i ++ joined-parts most parts i)

pub joined-word : (most : ℕ) (text : List ℕ) → joined (word_pieces most text) ≡ text
joined-word most text =
    joined-choice (stays_whole most text) text (flat_map (part_pieces most) (parts_of text))
    (joined-parts most (parts_of text) ∙ joined-cut is_part_break [] text [])

-- a word with a character has a piece
pub some-piece : (most c : ℕ) (text : List ℕ) →
    (first : List ℕ) × (others : List (List ℕ)) × (word_pieces most (c ∷ text) ≡ first ∷ others)
some-piece most c text = from (word_pieces most (c ∷ text)) (joined-word most (c ∷ text))
  where
    from : (pieces : List (List ℕ)) → joined pieces ≡ c ∷ text →
        (first : List ℕ) × (others : List (List ℕ)) × (pieces ≡ first ∷ others)
    from [] is = absurd (cc)
    from (first ∷ others) is = (first, others, refl)

-- ---- the pieces of a solid text are solid

solid-cut : (rule : Rule) (text : List ℕ) → list_any is_ascii_whitespace text ≡ false →
    AllByRecursion IsSolid (cut rule [] text [])
solid-cut rule text is = all-cut (λ c. is_ascii_whitespace c ≡ false) IsSolid one more rule [] text [] (each text is)
  where
    one : (c : ℕ) → is_ascii_whitespace c ≡ false → IsSolid (c ∷ [])
    one c is = (omega arith, ap (λ b. b || false) is)

    more : (c : ℕ) (piece : List ℕ) → is_ascii_whitespace c ≡ false → IsSolid piece → IsSolid (c ∷ piece)
    more c piece is solid = (omega arith, ap (λ b. b || list_any is_ascii_whitespace piece) is ∙ solid.1)

    each : (cs : List ℕ) → list_any is_ascii_whitespace cs ≡ false → AllByRecursion (λ c. is_ascii_whitespace c ≡ false) cs
    each [] is = tt
    each (c ∷ cs) is = let parts = or_parts (is_ascii_whitespace c) _ is in (parts.0, each cs parts.1)

solid-choice : (whole : Bool) (text : List ℕ) (pieces : List (List ℕ)) → IsSolid text → AllByRecursion IsSolid pieces →
    AllByRecursion IsSolid (cond whole (text ∷ []) pieces)
solid-choice true text pieces is each = (is, tt)
solid-choice false text pieces is each = each

solid-part : (most : ℕ) (part : List ℕ) → IsSolid part → AllByRecursion IsSolid (part_pieces most part)
solid-part most part is = solid-choice (stays_whole most part) part (clusters_of part) is
    (solid-cut (is_grapheme_break true) part is.1)

each-joined : (texts others : List (List ℕ)) → AllByRecursion IsSolid texts → AllByRecursion IsSolid others →
    AllByRecursion IsSolid (texts ++ others)
each-joined [] others each after = after
each-joined (text ∷ texts) others each after = (each.0, each-joined texts others each.1 after)

solid-parts : (most : ℕ) (parts : List (List ℕ)) → AllByRecursion IsSolid parts →
    AllByRecursion IsSolid (flat_map (part_pieces most) parts)
solid-parts most [] each = tt
solid-parts most (part ∷ parts) each =
    each-joined (part_pieces most part) (flat_map (part_pieces most) parts) (solid-part most part each.0)
    (solid-parts most parts each.1)

solid-word : (most : ℕ) (text : List ℕ) → IsSolid text → AllByRecursion IsSolid (word_pieces most text)
solid-word most text is =
    solid-choice (stays_whole most text) text (flat_map (part_pieces most) (parts_of text)) is
    (solid-parts most (parts_of text) (solid-cut is_part_break text is.1))

-- ---- a broken paragraph is a paragraph

-- units whose texts are solid
spelt-glues : (texts : List (List ℕ)) (rest : List Atom) → AllByRecursion IsSolid texts → AllByRecursion IsSpeltAtom rest
    → AllByRecursion IsSpeltAtom (map Glue texts ++ rest)
spelt-glues [] rest each after = after
spelt-glues (text ∷ texts) rest each after = (each.0, spelt-glues texts rest each.1 after)

spelt-word : (texts : List (List ℕ)) (rest : List Atom) → AllByRecursion IsSolid texts → AllByRecursion IsSpeltAtom rest
    → AllByRecursion IsSpeltAtom (word_of texts ++ rest)
spelt-word [] rest each after = after
spelt-word (text ∷ texts) rest each after = (each.0, spelt-glues texts rest each.1 after)

-- units that are spelt stay so
spelt-units : (most : ℕ) (atom : Atom) (rest : List Atom) → IsSpeltAtom atom → AllByRecursion IsSpeltAtom rest →
    AllByRecursion IsSpeltAtom (units_within most atom ++ rest)
spelt-units most (Word text) rest is after = spelt-word (word_pieces most text) rest (solid-word most text is) after
spelt-units most (Glue text) rest is after = (is, after)
spelt-units most Break rest is after = (is, after)

spelt-broken : (most : ℕ) (atoms : List Atom) → AllByRecursion IsSpeltAtom atoms →
    AllByRecursion IsSpeltAtom (broken_above most atoms)
spelt-broken most [] each = tt
spelt-broken most (atom ∷ atoms) each = spelt-units most atom (broken_above most atoms) each.0
    (spelt-broken most atoms each.1)

-- no byte is lost and none comes
size-glues : (texts : List (List ℕ)) → sum_by atom_size (map Glue texts) ≡ sum_by byte_count texts
size-glues [] = refl
size-glues (text ∷ texts) = omega (
  arith,
  size-glues texts,
  sum_by-cons atom_size (Glue text) (map Glue texts),
  sum_by-cons byte_count text texts,
)

size-word : (texts : List (List ℕ)) → sum_by atom_size (word_of texts) ≡ sum_by byte_count texts
size-word [] = refl
size-word (text ∷ texts) = omega (
  arith,
  size-glues texts,
  sum_by-cons atom_size (Word text) (map Glue texts),
  sum_by-cons byte_count text texts,
)

size-units : (most : ℕ) (atom : Atom) → sum_by atom_size (units_within most atom) ≡ atom_size atom
size-units most (Word text) =
    size-word (word_pieces most text) ∙ size-joined (word_pieces most text) ∙ ap byte_count (joined-word most text)
size-units most (Glue text) = omega arith
size-units most Break = omega arith

pub size-broken : (most : ℕ) (atoms : List Atom) → sum_by atom_size (broken_above most atoms) ≡ sum_by atom_size atoms
size-broken most [] = refl
size-broken most (atom ∷ atoms) = omega (
  arith,
  sum_by-append atom_size (units_within most atom) (broken_above most atoms),
  size-units most atom,
  size-broken most atoms,
  sum_by-cons atom_size atom atoms,
)

-- each piece begins as it did
leads-glues : (texts : List (List ℕ)) (rest : List Atom) → leads false (map Glue texts ++ rest) ≡ leads false rest
leads-glues [] rest = refl
leads-glues (text ∷ texts) rest = leads-glues texts rest

-- a word begins with a unit that begins a word
leads-word : (begins : Bool) (most : ℕ) (text : List ℕ) (rest : List Atom) → 0 < length text →
    leads begins (word_of (word_pieces most text) ++ rest) ≡ leads false rest
leads-word begins most [] rest some = absurd (omega arith)
leads-word begins most (c ∷ text) rest some =
    let (first, others, is) = some-piece most c text in
    ap (λ texts. leads begins (word_of texts ++ rest)) is ∙ leads-glues others rest

leads-broken : (begins : Bool) (most : ℕ) (atoms : List Atom) → AllByRecursion IsSpeltAtom atoms →
    leads begins (broken_above most atoms) ≡ leads begins atoms
leads-broken begins most [] each = refl
leads-broken begins most (Word text ∷ atoms) each =
    leads-word begins most text (broken_above most atoms) each.0.0 ∙ leads-broken false most atoms each.1
leads-broken true most (Glue text ∷ atoms) each = refl
leads-broken false most (Glue text ∷ atoms) each = leads-broken false most atoms each.1
leads-broken begins most (Break ∷ atoms) each = leads-broken true most atoms each.1

-- an atom that is spelt gives a unit or stays a break
some-units : (most : ℕ) (atom : Atom) → IsSpeltAtom atom → 0 < length (units_within most atom)
some-units most (Word []) is = absurd (omega (arith, is.0))
some-units most (Word (c ∷ text)) is =
    let (first, others, same) = some-piece most c text in
    let P : List (List ℕ) → Type 0 = λ texts. 0 < length (word_of texts) in
    subst P (sym same) (omega arith)
some-units most (Glue text) is = omega arith
some-units most Break is = omega arith

some-broken : (most : ℕ) (atoms : List Atom) → 0 < length atoms → AllByRecursion IsSpeltAtom atoms →
    0 < length (broken_above most atoms)
some-broken most [] some each = absurd (omega arith)
some-broken most (atom ∷ atoms) some each =
    omega (arith, length-append (units_within most atom) (broken_above most atoms), some-units most atom each.0)

-- a paragraph whose wide words are in their pieces is a paragraph
pub broken_paragraph : (most : ℕ) (atoms : List Atom) → IsParagraph atoms → IsParagraph (broken_above most atoms)
broken_paragraph most atoms is =
    let each = recursion_from_All IsSpeltAtom atoms is.spelt in
    record {
      has_atom = some-broken most atoms is.has_atom each;
      begun = sym (leads_is true (broken_above most atoms)) ∙ leads-broken true most atoms each ∙ leads_is true atoms ∙ is.begun;
      spelt = All-from_recursion IsSpeltAtom (broken_above most atoms) (spelt-broken most atoms each);
      size = omega (arith, size-broken most atoms, is.size);
    }
