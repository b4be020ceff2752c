-- The clusters of the parts of a text are its clusters: a part begins with a letter or digit of ASCII,
-- before which a cluster ends and past which no rule on clusters looks back.
use Rattle.std.proofs.Common.{◌≡◌, ℕ, zero, suc, ◌<◌, Bool, true, false, cond, if◌then◌else◌, not, ◌&&◌, ◌||◌, List, [], ◌∷◌}
use Rattle.std.proofs.Common.{◌++◌, map, drop, get_or, unwrap_or, refl, ap, ap₂, sym, ◌∙◌, arith}
use Rattle.std.proofs.Common.{append_assoc, inl, inr}
use Rattle.std.specs.List.{flat_map}
use Rattle.std.specs.Char.{is_ascii_alphanumeric}
use Rattle.std.proofs.lemmas.Bool.{and_parts, cases_lt, cond-true, or_left, or_right}
use Rattle.std.proofs.lemmas.Bool.Decides.{nat_tests}
use Rattle.unicode_segmentation.specs.GraphemeClusterBreak.{grapheme_cluster_break, grapheme_cluster_break_from_number}
use Rattle.unicode_segmentation.specs.IndicConjunctBreak.{indic_conjunct_break, indic_conjunct_break_from_number}
use Rattle.unicode_segmentation.specs.Emoji.{is_extended_pictographic}
use Rattle.unicode_segmentation.specs.Grapheme.{break_by_pair, ends_in_linker, is_consonant, is_extend, is_zwj, is_regional}
use Rattle.unicode_segmentation.specs.Grapheme.{ends_in_pictograph, joins_emoji, ends_in_half_flag, is_grapheme_break}
use Rattle.unicode_segmentation.specs.Segments.{Rule, cut, prepend}
use Rattle.unicode_segmentation.proofs.Computing.{unicode_segmentation}
use Rattle.unicode_segmentation.proofs.GraphemeLemmas.{joins_emoji-not_zwj, is_grapheme_break-others}
use Rattle.tl_text.specs.declared.paragraph.Atom.{Atom}
use Rattle.tl_text.specs.declared.paragraph.Atom.TheVariants.{Word, Glue, Break}
use Rattle.tl_text.specs.Clusters.{clusters_of, word_of, units_of, by_clusters}
use Rattle.tl_text.specs.Parts.{is_mark, is_part_break, parts_of, units_within, broken_above}

-- ---- a text that is cut by a coarse rule, and each part by a fine one

-- a character before the pieces: it ends a piece of its own, or goes on into the first of them
abbrev put : Bool → ℕ → List (List ℕ) → List (List ℕ)
put ends c pieces = cond ends ((c ∷ []) ∷ pieces) (prepend (c ∷ []) pieces)

-- a character alone is one piece
put-alone : (ends : Bool) (c : ℕ) → put ends c [] ≡ (c ∷ []) ∷ []
put-alone true c = refl
put-alone false c = refl

-- the first piece begins with the character
put-begins : (ends : Bool) (c : ℕ) (pieces : List (List ℕ)) →
    (piece : List ℕ) × (others : List (List ℕ)) × (put ends c pieces ≡ (c ∷ piece) ∷ others)
put-begins true c pieces = ([], pieces, refl)
put-begins false c [] = ([], [], refl)
put-begins false c (piece ∷ pieces) = (piece, pieces, refl)

cut-begins : (rule : Rule) (before : List ℕ) (c : ℕ) (cs after : List ℕ) →
    (piece : List ℕ) × (others : List (List ℕ)) × (cut rule before (c ∷ cs) after ≡ (c ∷ piece) ∷ others)
unfolding cut
cut-begins rule before c cs after = put-begins (rule (c ∷ before) (cs ++ after)) c (cut rule (c ∷ before) cs after)

-- pieces at the end do not see the character, where there is a piece before them
put-append : (ends : Bool) (c : ℕ) (piece : List ℕ) (pieces rest : List (List ℕ)) →
    put ends c (piece ∷ pieces) ++ rest ≡ put ends c ((piece ∷ pieces) ++ rest)
put-append true c piece pieces rest = refl
put-append false c piece pieces rest = refl

-- The fine rule breaks where the coarse one does, looks forward at the next character only, and does not
-- look back past the character with which a part begins.
module _ (coarse fine : Rule)
    (finer : (before : List ℕ) (next : ℕ) (after : List ℕ) → coarse before (next ∷ after) ≡ true →
    fine before (next ∷ after) ≡ true)
    (near : (before : List ℕ) (next : ℕ) (after others : List ℕ) →
    fine before (next ∷ after) ≡ fine before (next ∷ others))
    (forgets : (before : List ℕ) (next : ℕ) (after : List ℕ) → coarse before (next ∷ after) ≡ true →
    (more left : List ℕ) → fine (more ++ next ∷ before) left ≡ fine (more ++ next ∷ []) left) where
  -- the rule gives the same after both, whatever is read after them
  abbrev Alike : List ℕ → List ℕ → Type 0
  Alike before front = (more left : List ℕ) → fine (more ++ before) left ≡ fine (more ++ front) left

  -- one more character keeps them alike
  alike-more : (c : ℕ) (before front : List ℕ) → Alike before front → Alike (c ∷ before) (c ∷ front)
  alike-more c before front alike more left =
      ap (λ read. fine read left) (sym (append_assoc more (c ∷ []) before))
      ∙ alike (more ++ c ∷ []) left
      ∙ ap (λ read. fine read left) (append_assoc more (c ∷ []) front)

  -- the pieces of a part
  abbrev pieces_of : List ℕ → List (List ℕ)
  pieces_of part = cut fine [] part []

  -- the pieces of the parts, where these characters of the first, nearest first, are read
  abbrev pieces_after : List ℕ → List (List ℕ) → List (List ℕ)
  pieces_after front [] = []
  pieces_after front (part ∷ parts) = cut fine front part [] ++ flat_map pieces_of parts

  -- nothing of the first part is read yet
  pieces_after-none : (parts : List (List ℕ)) → pieces_after [] parts ≡ flat_map pieces_of parts
  pieces_after-none [] = refl
  pieces_after-none (part ∷ parts) = refl

  -- one more character of the first part is read
  pieces_after-put : (ends : Bool) (c d : ℕ) (front part : List ℕ) (parts : List (List ℕ)) →
      fine (c ∷ front) (d ∷ part ++ []) ≡ ends →
      pieces_after front ((c ∷ d ∷ part) ∷ parts) ≡ put ends c (pieces_after (c ∷ front) ((d ∷ part) ∷ parts))
  unfolding cut
  pieces_after-put ends c d front part parts is =
      let (piece, others, begins) = cut-begins fine (c ∷ front) d part [] in
      let rest = flat_map pieces_of parts in
      ap (λ e. put e c (cut fine (c ∷ front) (d ∷ part) []) ++ rest) is
      ∙ ap (λ pieces. put ends c pieces ++ rest) begins
      ∙ put-append ends c (d ∷ piece) others rest
      ∙ ap (λ pieces. put ends c (pieces ++ rest)) (sym begins)

  -- a part ends after the character, or goes on
  chosen : (parted ends : Bool) (c d : ℕ) (front part : List ℕ) (parts pieces : List (List ℕ)) →
      (parted ≡ true → ends ≡ true) →
      fine (c ∷ front) (d ∷ part ++ []) ≡ ends →
      (parted ≡ true → pieces ≡ pieces_after [] ((d ∷ part) ∷ parts)) →
      (parted ≡ false → pieces ≡ pieces_after (c ∷ front) ((d ∷ part) ∷ parts)) →
      put ends c pieces ≡ pieces_after front (put parted c ((d ∷ part) ∷ parts))
  unfolding cut
  chosen true ends c d front part parts pieces breaks is apart inside =
      ap (λ e. put e c pieces) (breaks refl)
      ∙ ap (λ rest. (c ∷ []) ∷ rest) (apart refl)
      ∙ ap (λ first. first ++ pieces_after [] ((d ∷ part) ∷ parts)) (sym (put-alone (fine (c ∷ front) []) c))
  chosen false ends c d front part parts pieces breaks is apart inside =
      ap (put ends c) (inside refl) ∙ sym (pieces_after-put ends c d front part parts is)

  -- the fine pieces of what is left are those of its coarse parts, once these characters are read
  cut-twice : (c : ℕ) (before front cs : List ℕ) → Alike (c ∷ before) (c ∷ front) →
      cut fine before (c ∷ cs) [] ≡ pieces_after front (cut coarse before (c ∷ cs) [])
  unfolding cut
  cut-twice c before front [] alike =
      put-alone (fine (c ∷ before) []) c
      ∙ ap (λ first. first ++ []) (sym (put-alone (fine (c ∷ front) []) c))
      ∙ ap (pieces_after front) (sym (put-alone (coarse (c ∷ before) []) c))
  cut-twice c before front (d ∷ cs) alike =
      let (part, parts, begins) = cut-begins coarse (c ∷ before) d cs [] in
      let parted = coarse (c ∷ before) (d ∷ cs ++ []) in
      chosen parted (fine (c ∷ before) (d ∷ cs ++ [])) c d front part parts (cut fine (c ∷ before) (d ∷ cs) [])
      (finer (c ∷ before) d (cs ++ []))
      (sym (alike [] (d ∷ part ++ [])) ∙ near (c ∷ before) d (part ++ []) (cs ++ []))
      (λ is. cut-twice d (c ∷ before) [] cs (forgets (c ∷ before) d (cs ++ []) is) ∙ ap (pieces_after []) begins)
      (λ is. cut-twice d (c ∷ before) (c ∷ front) cs (alike-more d (c ∷ before) (c ∷ front) alike)
      ∙ ap (pieces_after (c ∷ front)) begins)
      ∙ ap (λ all. pieces_after front (put parted c all)) (sym begins)

  -- to cut a text by the fine rule is to cut it by the coarse one, and each part by the fine one
  pub cut-parts : (text : List ℕ) → cut fine [] text [] ≡ flat_map pieces_of (cut coarse [] text [])
  unfolding cut
  cut-parts [] = refl
  cut-parts (c ∷ cs) = cut-twice c [] [] cs (λ more left. refl) ∙ pieces_after-none (cut coarse [] (c ∷ cs) [])

-- ---- the tables at the marks, letters and digits of ASCII

-- the values of a function below a number, the last first
firsts : {A : Type 0} → (ℕ → A) → ℕ → List A
firsts f zero = []
firsts f (suc n) = f n ∷ firsts f n

-- two functions with the same values below a number agree there
same_below : {A : Type 0} (f g : ℕ → A) (n c : ℕ) → firsts f n ≡ firsts g n → c < n → f c ≡ g c
unfolding firsts
same_below f g zero c same below = absurd (omega arith)
same_below f g (suc n) c same below = elim (cases_lt c n) [
  | inl lower ↦ same_below f g n c (ap (drop 1) same) lower
  | inr last ↦
      let at : n ≡ c = omega arith in
      ap f (sym at) ∙ ap (λ values. get_or values 0 (f n)) same ∙ ap g at
]

-- a function that is the same with this value wherever the test passes has the value there
at_passing : {A : Type 0} (passes : ℕ → Bool) (value : A) (f : ℕ → A) →
    firsts (λ c. if passes c then value else f c) 128 ≡ firsts f 128 → (c : ℕ) → passes c ≡ true → c < 128 → value ≡ f c
at_passing passes value f same c is below =
    sym (cond-true (passes c) value (f c) is) ∙ same_below (λ c. if passes c then value else f c) f 128 c same below

-- a mark, or a letter or digit of ASCII
abbrev is_plain : ℕ → Bool
is_plain c = is_mark c || is_ascii_alphanumeric c

-- all of them are in ASCII
plain_below : (c : ℕ) → is_plain c ≡ true → c < 128
plain_below c is = grind (arith, nat_tests, is)

-- none of them has a break value of its own: 12 is Other
plain_other : (c : ℕ) → is_plain c ≡ true → grapheme_cluster_break_from_number 12 ≡ grapheme_cluster_break c
unfolding unicode_segmentation firsts
plain_other c is =
    at_passing is_plain (grapheme_cluster_break_from_number 12) grapheme_cluster_break refl c is (plain_below c is)

-- none of them has a part in a conjunct: 3 is None
plain_no_conjunct : (c : ℕ) → is_plain c ≡ true → indic_conjunct_break_from_number 3 ≡ indic_conjunct_break c
unfolding unicode_segmentation firsts
plain_no_conjunct c is =
    at_passing is_plain (indic_conjunct_break_from_number 3) indic_conjunct_break refl c is (plain_below c is)

-- none of them is a pictograph
plain_no_pictograph : (c : ℕ) → is_plain c ≡ true → false ≡ is_extended_pictographic c
unfolding unicode_segmentation firsts
plain_no_pictograph c is = at_passing is_plain false is_extended_pictographic refl c is (plain_below c is)

-- ---- the rule on clusters does not look back past such a character

-- one more character keeps two texts alike
linker-more : (c : ℕ) (one two : List ℕ) →
    ends_in_linker (map indic_conjunct_break one) ≡ ends_in_linker (map indic_conjunct_break two) →
    ends_in_linker (map indic_conjunct_break (c ∷ one)) ≡ ends_in_linker (map indic_conjunct_break (c ∷ two))
unfolding ends_in_linker
linker-more c one two same = grind (arith, same)

-- two texts with the same last character, which join the next alike, break alike before it
same_break : (last : ℕ) (one two : List ℕ) (next : ℕ) (after : List ℕ) →
    ends_in_linker (map indic_conjunct_break (last ∷ one)) ≡ ends_in_linker (map indic_conjunct_break (last ∷ two)) →
    joins_emoji (last ∷ one) next ≡ joins_emoji (last ∷ two) next →
    ends_in_half_flag (last ∷ one) ≡ ends_in_half_flag (last ∷ two) →
    is_grapheme_break true (last ∷ one) (next ∷ after) ≡ is_grapheme_break true (last ∷ two) (next ∷ after)
unfolding is_grapheme_break
same_break last one two next after linker emoji flag =
    let conjunct = ap (λ ends. ends && is_consonant (indic_conjunct_break next)) linker in
    let half = ap (λ ends. ends && is_regional (grapheme_cluster_break next)) flag in
    let pair = break_by_pair true (grapheme_cluster_break last) (grapheme_cluster_break next) in
    λ i. unwrap_or pair (not (conjunct i || emoji i || half i))

module _ (x : ℕ) (is : is_plain x ≡ true) where
  -- a text that ends in such a character ends in nothing that joins the next
  no_linker : (before : List ℕ) → false ≡ ends_in_linker (map indic_conjunct_break (x ∷ before))
  unfolding ends_in_linker
  no_linker before =
      ap (λ value. ends_in_linker (value ∷ map indic_conjunct_break before)) (plain_no_conjunct x is)

  no_pictograph : (before : List ℕ) → false ≡ ends_in_pictograph (x ∷ before)
  unfolding ends_in_pictograph
  no_pictograph before =
      ap₂ (λ pictograph value. pictograph || (is_extend value && ends_in_pictograph before))
      (plain_no_pictograph x is) (plain_other x is)

  no_half_flag : (before : List ℕ) → false ≡ ends_in_half_flag (x ∷ before)
  unfolding ends_in_half_flag
  no_half_flag before = ap (λ value. is_regional value && not (ends_in_half_flag before)) (plain_other x is)

  no_emoji : (before : List ℕ) (next : ℕ) → joins_emoji (x ∷ before) next ≡ false
  no_emoji before next = joins_emoji-not_zwj (x ∷ before) next (ap is_zwj (sym (plain_other x is)))

  -- what stands before such a character makes no difference once more characters are read
  module _ (before : List ℕ) where
    same_linker : (more : List ℕ) →
        ends_in_linker (map indic_conjunct_break (more ++ x ∷ before))
        ≡ ends_in_linker (map indic_conjunct_break (more ++ x ∷ []))
    same_linker [] = sym (no_linker before) ∙ no_linker []
    same_linker (c ∷ more) = linker-more c (more ++ x ∷ before) (more ++ x ∷ []) (same_linker more)

    same_pictograph : (more : List ℕ) → ends_in_pictograph (more ++ x ∷ before) ≡ ends_in_pictograph (more ++ x ∷ [])
    unfolding ends_in_pictograph
    same_pictograph [] = sym (no_pictograph before) ∙ no_pictograph []
    same_pictograph (c ∷ more) =
        ap (λ ends. is_extended_pictographic c || (is_extend (grapheme_cluster_break c) && ends)) (same_pictograph more)

    same_half_flag : (more : List ℕ) → ends_in_half_flag (more ++ x ∷ before) ≡ ends_in_half_flag (more ++ x ∷ [])
    unfolding ends_in_half_flag
    same_half_flag [] = sym (no_half_flag before) ∙ no_half_flag []
    same_half_flag (c ∷ more) =
        ap (λ ends. is_regional (grapheme_cluster_break c) && not ends) (same_half_flag more)

    same_emoji : (more : List ℕ) (next : ℕ) → joins_emoji (more ++ x ∷ before) next ≡ joins_emoji (more ++ x ∷ []) next
    same_emoji [] next = no_emoji before next ∙ sym (no_emoji [] next)
    same_emoji (c ∷ more) next =
        ap (λ ends. is_zwj (grapheme_cluster_break c) && ends && is_extended_pictographic next) (same_pictograph more)

    -- the rule does not look back past such a character
    break-forgets : (more left : List ℕ) →
        is_grapheme_break true (more ++ x ∷ before) left ≡ is_grapheme_break true (more ++ x ∷ []) left
    unfolding is_grapheme_break
    break-forgets [] [] = refl
    break-forgets (c ∷ more) [] = refl
    break-forgets [] (next ∷ after) =
        same_break x before [] next after (same_linker []) (same_emoji [] next) (same_half_flag [])
    break-forgets (c ∷ more) (next ∷ after) =
        same_break c (more ++ x ∷ before) (more ++ x ∷ []) next after
        (same_linker (c ∷ more)) (same_emoji (c ∷ more) next) (same_half_flag (c ∷ more))

-- ---- clusters and parts

-- where a part ends stands a mark, and a letter or digit of ASCII follows
part_end : (c : ℕ) (before : List ℕ) (next : ℕ) (after : List ℕ) → is_part_break (c ∷ before) (next ∷ after) ≡ true →
    (is_mark c ≡ true) × (is_ascii_alphanumeric next ≡ true)
part_end c before next after ends =
    and_parts (is_mark c) (is_ascii_alphanumeric next) (and_parts (is_mark c && is_ascii_alphanumeric next) _ ends).0

-- a part begins with a letter or digit of ASCII
part_next : (before : List ℕ) (next : ℕ) (after : List ℕ) → is_part_break before (next ∷ after) ≡ true →
    is_plain next ≡ true
part_next [] next after ends = absurd (cc)
part_next (c ∷ before) next after ends =
    or_right (is_mark next) (is_ascii_alphanumeric next) (part_end c before next after ends).1

-- where a part ends, a cluster ends
part-finer : (before : List ℕ) (next : ℕ) (after : List ℕ) → is_part_break before (next ∷ after) ≡ true →
    is_grapheme_break true before (next ∷ after) ≡ true
part-finer [] next after ends = absurd (cc)
part-finer (c ∷ before) next after ends =
    let follows = part_next (c ∷ before) next after ends in
    let stands = or_left (is_mark c) (is_ascii_alphanumeric c) (part_end c before next after ends).0 in
    sym (is_grapheme_break-others true (c ∷ before) next after (omega arith) (omega (arith, plain_below next follows))
    (plain_other c stands) (plain_other next follows))

-- the rule on clusters looks forward at the next character only
break-near : (before : List ℕ) (next : ℕ) (after others : List ℕ) →
    is_grapheme_break true before (next ∷ after) ≡ is_grapheme_break true before (next ∷ others)
unfolding is_grapheme_break
break-near [] next after others = refl
break-near (c ∷ before) next after others = refl

-- the clusters of a text are those of its parts
pub clusters-parts : (text : List ℕ) → clusters_of text ≡ flat_map clusters_of (parts_of text)
clusters-parts text =
    cut-parts is_part_break (is_grapheme_break true) part-finer break-near
    (λ before next after ends. break-forgets next (part_next before next after ends) before) text

-- with 0 an atom has the units of its clusters
units-zero : (atom : Atom) → units_within 0 atom ≡ units_of atom
units-zero (Word text) = ap word_of (sym (clusters-parts text))
units-zero (Glue text) = refl
units-zero Break = refl

-- with 0 every word is in its clusters
pub broken_above-zero : (atoms : List Atom) → broken_above 0 atoms ≡ by_clusters atoms
broken_above-zero atoms = ap (λ units. flat_map units atoms) (λ i atom. units-zero atom i)
