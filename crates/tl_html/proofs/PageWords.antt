-- Paragraphs on a page: the tags and texts that they are, and the same words read back.
use Rattle.std.proofs.Common.{◌≡◌, ℕ, ◌<◌, Bool, true, false, cond, List, [], ◌∷◌, ◌++◌, map, length, refl, sym, ap, ◌∙◌, subst}
use Rattle.std.proofs.Common.{append_assoc}
use Rattle.std.proofs.Common.{append-nil, arith, codes}
use Rattle.std.specs.List.{AllByRecursion, flat_map, list_any}
use Rattle.std.specs.Char.{is_ascii_whitespace}
use Rattle.std.proofs.lemmas.Bool.{true≢false, lt-ltb, or_parts, cond-true}
use Rattle.std.proofs.lemmas.List.{map-append}
use Rattle.std.proofs.lemmas.List.Concat.{flat_map-append}
use Rattle.tl_token.specs.Characters.{is_control}
use Rattle.tl_token.specs.Elements.{no_spans}
use Rattle.tl_token.specs.declared.token.Element.TheVariants as elements
use Rattle.tl_text.specs.declared.paragraph.Atom.{Atom}
use Rattle.tl_text.specs.declared.paragraph.Atom.TheVariants.{Word, Glue, Break}
use Rattle.tl_text.specs.Words.{has_character}
use Rattle.tl_text.specs.Paragraph.{IsSolid, IsSpeltAtom}
use Rattle.tl_text.specs.Clusters.{word_of}
use Rattle.tl_text.specs.Parts.{word_pieces, broken_above}
use Rattle.tl_text.specs.Cuttings.{joined}
use Rattle.tl_text.proofs.PartLemmas.{joined-word, some-piece}
use Rattle.tl_text.proofs.WordLemmas.{words_from-end}
use Rattle.tl_tree.specs.Sound.{IsPlainAtom}
use Rattle.tl_tree.specs.Grammar as marks
use Rattle.tl_tree.specs.Grammar.{Mark, Marks, Flow, character, line_break, words, break, edge}
use Rattle.tl_tree.specs.Outline.{Entries, paragraph}
use Rattle.tl_tree.specs.Paragraphs.{leading, atoms_of, paragraph_of, entries_after}
use Rattle.tl_tree.specs.Tags.{Kind, Kinds, class_of, p_or_div, br}
use Rattle.tl_tree.proofs.Lines.{atoms_from, open_atoms, read_letter, read_white, read_line_break, read_end, read_none}
use Rattle.tl_html.specs.Html.{escaped, atoms_html, paragraph_html}
use Rattle.tl_html.proofs.Items.{Item, item_text, items_text, item_kinds, text_kinds, IsItem, AreFine}
use Rattle.tl_html.proofs.PageTags.{paragraph_start, paragraph_end}
use Rattle.tl_html.proofs.PageTags as page_tags

-- ---- the items of a paragraph

-- the text up to the first break, where a unit stands before it or none does
abbrev pub lead : Bool → List Atom → List ℕ
lead follows [] = []
lead follows (Word word ∷ atoms) = cond follows (0x20 ∷ []) [] ++ (word ++ lead true atoms)
lead follows (Glue unit ∷ atoms) = unit ++ lead true atoms
lead follows (Break ∷ atoms) = []

abbrev pub break_item : List ℕ → Item
break_item line = record { mark = codes "<br>"; is_end = false; element = elements.Br; spans = no_spans; text = line }

-- each break, with the text up to the next one
abbrev pub break_items : List Atom → List Item
break_items [] = []
break_items (Word word ∷ atoms) = break_items atoms
break_items (Glue unit ∷ atoms) = break_items atoms
break_items (Break ∷ atoms) = break_item (lead false atoms) ∷ break_items atoms

abbrev pub start_item : List ℕ → Item
start_item line = record { mark = codes "<p>"; is_end = false; element = elements.P; spans = no_spans; text = line }

abbrev pub end_item : Item
end_item = record { mark = codes "</p>"; is_end = true; element = elements.P; spans = no_spans; text = [] }

abbrev pub paragraph_items : List Atom → List Item
paragraph_items atoms = start_item (lead false atoms) ∷ (break_items atoms ++ end_item ∷ [])

atoms_written : (follows : Bool) (atoms : List Atom) → atoms_html follows atoms ≡ flat_map escaped
    (lead follows atoms) ++ items_text (break_items atoms)
atoms_written follows [] = refl
atoms_written true (Word word ∷ atoms) =
    ap (λ (cs : List ℕ). 0x20 ∷ (flat_map escaped word ++ cs)) (atoms_written true atoms)
    ∙ ap (λ (cs : List ℕ). 0x20 ∷ cs) (sym (append_assoc (flat_map escaped word) (flat_map escaped (lead true atoms))
    (items_text (break_items atoms)))
    ∙ ap (λ (cs : List ℕ). cs ++ items_text (break_items atoms)) (sym (flat_map-append escaped word (lead true atoms))))
atoms_written false (Word word ∷ atoms) =
    ap (λ (cs : List ℕ). flat_map escaped word ++ cs) (atoms_written true atoms)
    ∙ sym (append_assoc (flat_map escaped word) (flat_map escaped (lead true atoms)) (items_text (break_items atoms)))
    ∙ ap (λ (cs : List ℕ). cs ++ items_text (break_items atoms)) (sym (flat_map-append escaped word (lead true atoms)))
atoms_written true (Glue word ∷ atoms) =
    ap (λ (cs : List ℕ). flat_map escaped word ++ cs) (atoms_written true atoms)
    ∙ sym (append_assoc (flat_map escaped word) (flat_map escaped (lead true atoms)) (items_text (break_items atoms)))
    ∙ ap (λ (cs : List ℕ). cs ++ items_text (break_items atoms)) (sym (flat_map-append escaped word (lead true atoms)))
atoms_written false (Glue word ∷ atoms) =
    ap (λ (cs : List ℕ). flat_map escaped word ++ cs) (atoms_written true atoms)
    ∙ sym (append_assoc (flat_map escaped word) (flat_map escaped (lead true atoms)) (items_text (break_items atoms)))
    ∙ ap (λ (cs : List ℕ). cs ++ items_text (break_items atoms)) (sym (flat_map-append escaped word (lead true atoms)))
atoms_written true (Break ∷ atoms) = ap (λ (cs : List ℕ). codes "<br>" ++ cs) (atoms_written false atoms)
atoms_written false (Break ∷ atoms) = ap (λ (cs : List ℕ). codes "<br>" ++ cs) (atoms_written false atoms)

-- a paragraph is written as its items
pub paragraph_written : (atoms : List Atom) → paragraph_html atoms ≡ items_text (paragraph_items atoms)
paragraph_written atoms =
    ap (λ (cs : List ℕ). codes "<p>" ++ (cs ++ codes "</p>")) (atoms_written false atoms)
    ∙ ap (λ (cs : List ℕ). codes "<p>" ++ cs) (append_assoc (flat_map escaped (lead false atoms))
    (items_text (break_items atoms)) (codes "</p>")
    ∙ ap (λ (cs : List ℕ). flat_map escaped (lead false atoms) ++ cs)
    (sym (flat_map-append item_text (break_items atoms) (end_item ∷ []))))

-- ---- units that are separated are written as their word

glues_lead : (units : List (List ℕ)) (rest : List Atom) → lead true (map Glue units ++ rest) ≡ joined units ++ lead true rest
glues_lead [] rest = refl
glues_lead (unit ∷ units) rest =
    ap (λ (cs : List ℕ). unit ++ cs) (glues_lead units rest) ∙ sym (append_assoc unit (joined units) (lead true rest))

glues_break : (units : List (List ℕ)) (rest : List Atom) → break_items (map Glue units ++ rest) ≡ break_items rest
glues_break [] rest = refl
glues_break (unit ∷ units) rest = glues_break units rest

-- the pieces of a word that has a character
some_pieces : (most : ℕ) (word : List ℕ) → IsSolid word →
    (first : List ℕ) × (others : List (List ℕ)) × (word_pieces most word ≡ first ∷ others)
some_pieces most [] solid = absurd (omega (arith, solid.0))
some_pieces most (c ∷ cs) solid = some-piece most c cs

word_lead : (most : ℕ) (follows : Bool) (word : List ℕ) (rest : List Atom) → IsSolid word →
    lead follows (word_of (word_pieces most word) ++ rest) ≡ cond follows (0x20 ∷ []) [] ++ (word ++ lead true rest)
word_lead most follows word rest solid =
    let (first, others, split) = some_pieces most word solid in
    let whole : first ++ joined others ≡ word = ap joined (sym split) ∙ joined-word most word in
    ap (λ (units : List (List ℕ)). lead follows (word_of units ++ rest)) split
    ∙ ap (λ (cs : List ℕ). cond follows (0x20 ∷ []) [] ++ (first ++ cs)) (glues_lead others rest)
    ∙ ap (λ (cs : List ℕ). cond follows (0x20 ∷ []) [] ++ cs)
    (sym (append_assoc first (joined others) (lead true rest)) ∙ ap (λ (cs : List ℕ). cs ++ lead true rest) whole)

word_break : (most : ℕ) (word : List ℕ) (rest : List Atom) →
    break_items (word_of (word_pieces most word) ++ rest) ≡ break_items rest
word_break most word rest = by_units (word_pieces most word)
  where
    by_units : (units : List (List ℕ)) → break_items (word_of units ++ rest) ≡ break_items rest
    by_units [] = refl
    by_units (first ∷ others) = glues_break others rest

module _ (most : ℕ) where
  pieces_lead : (follows : Bool) (atoms : List Atom) → AllByRecursion IsSpeltAtom atoms →
      lead follows (broken_above most atoms) ≡ lead follows atoms
  pieces_lead follows [] spelt = refl
  pieces_lead follows (Word word ∷ atoms) spelt =
      word_lead most follows word (broken_above most atoms) spelt.0
      ∙ ap (λ (cs : List ℕ). cond follows (0x20 ∷ []) [] ++ (word ++ cs)) (pieces_lead true atoms spelt.1)
  pieces_lead follows (Glue unit ∷ atoms) spelt = ap (λ (cs : List ℕ). unit ++ cs) (pieces_lead true atoms spelt.1)
  pieces_lead follows (Break ∷ atoms) spelt = refl

  pieces_break : (atoms : List Atom) → AllByRecursion IsSpeltAtom atoms →
      break_items (broken_above most atoms) ≡ break_items atoms
  pieces_break [] spelt = refl
  pieces_break (Word word ∷ atoms) spelt = word_break most word (broken_above most atoms) ∙ pieces_break atoms spelt.1
  pieces_break (Glue unit ∷ atoms) spelt = pieces_break atoms spelt.1
  pieces_break (Break ∷ atoms) spelt =
      ap (λ (cs : List ℕ). break_item cs ∷ break_items (broken_above most atoms)) (pieces_lead false atoms spelt.1)
      ∙ ap (λ (items : List Item). break_item (lead false atoms) ∷ items) (pieces_break atoms spelt.1)

  pub pieces_items : (atoms : List Atom) → AllByRecursion IsSpeltAtom atoms →
      paragraph_items (broken_above most atoms) ≡ paragraph_items atoms
  pieces_items atoms spelt =
      ap (λ (cs : List ℕ). start_item cs ∷ (break_items (broken_above most atoms) ++ end_item ∷ [])) (pieces_lead false atoms spelt)
      ∙ ap (λ (items : List Item). start_item (lead false atoms) ∷ (items ++ end_item ∷ [])) (pieces_break atoms spelt)

-- ---- the items are tags and texts

fine_text : (cs : List ℕ) → list_any is_control cs ≡ false → AreFine cs
fine_text [] none = tt
fine_text (c ∷ cs) none = let both = or_parts (is_control c) (list_any is_control cs) none in (both.0, fine_text cs both.1)

fine_append : (xs ys : List ℕ) → AreFine xs → AreFine ys → AreFine (xs ++ ys)
fine_append [] ys one two = two
fine_append (x ∷ xs) ys one two = (one.0, fine_append xs ys one.1 two)

lead_fine : (follows : Bool) (atoms : List Atom) → AllByRecursion IsPlainAtom atoms → AreFine (lead follows atoms)
lead_fine follows [] plain = tt
lead_fine true (Word word ∷ atoms) plain =
    (refl, fine_append word (lead true atoms) (fine_text word plain.0) (lead_fine true atoms plain.1))
lead_fine false (Word word ∷ atoms) plain = fine_append word (lead true atoms) (fine_text word plain.0)
    (lead_fine true atoms plain.1)
lead_fine follows (Glue unit ∷ atoms) plain = absurd plain.0
lead_fine follows (Break ∷ atoms) plain = tt

breaks_are_items : (atoms : List Atom) → AllByRecursion IsPlainAtom atoms →
    AllByRecursion IsItem (break_items atoms ++ end_item ∷ [])
breaks_are_items [] plain = ((paragraph_end, tt), tt)
breaks_are_items (Word word ∷ atoms) plain = breaks_are_items atoms plain.1
breaks_are_items (Glue unit ∷ atoms) plain = absurd plain.0
breaks_are_items (Break ∷ atoms) plain = ((page_tags.line_break, lead_fine false atoms plain.1), breaks_are_items atoms plain.1)

pub paragraph_is_items : (atoms : List Atom) → AllByRecursion IsPlainAtom atoms → AllByRecursion IsItem (paragraph_items atoms)
paragraph_is_items atoms plain = ((paragraph_start, lead_fine false atoms plain), breaks_are_items atoms plain)

-- ---- the words of marks, read from the left

-- ---- the marks of a paragraph

abbrev break_marks : List Atom → Marks
break_marks [] = []
break_marks (Word word ∷ atoms) = break_marks atoms
break_marks (Glue unit ∷ atoms) = break_marks atoms
break_marks (Break ∷ atoms) = line_break ∷ (map character (lead false atoms) ++ break_marks atoms)

abbrev line_marks : List Atom → Marks
line_marks atoms = map character (lead false atoms) ++ break_marks atoms

-- letters join the open word
letters : (list : List Atom) (word more : List ℕ) (ms : Marks) → list_any is_ascii_whitespace more ≡ false →
    atoms_from list word (map character more ++ ms) ≡ atoms_from list (word ++ more) ms
letters list word [] ms solid = ap (λ (w : List ℕ). atoms_from list w ms) (sym (append-nil word))
letters list word (c ∷ more) ms solid =
    let both = or_parts (is_ascii_whitespace c) (list_any is_ascii_whitespace more) solid in
    sym (read_letter list word c (map character more ++ ms) both.0)
    ∙ letters list (word ++ c ∷ []) more ms both.1
    ∙ ap (λ (w : List ℕ). atoms_from list w ms) (append_assoc word (c ∷ []) more)

whole_word : (word : List ℕ) → IsSolid word → open_atoms word ≡ Word word ∷ []
whole_word word solid =
    ap (map Word) (words_from-end word ∙ cond-true (has_character word) (word ∷ []) [] (lt-ltb 0 (length word) solid.0))

-- no unit goes on with a word
abbrev pub NoGlue : Atom → Type 0
NoGlue atom = IsSpeltAtom atom × IsPlainAtom atom

-- the words that come once the open word and these marks are read
words_back : (atoms : List Atom) (follows : Bool) (list : List Atom) (word : List ℕ) → (follows ≡ false → word ≡ []) →
    AllByRecursion NoGlue atoms →
    atoms_from list word (map character (lead follows atoms) ++ break_marks atoms) ≡ (list ++ open_atoms word) ++ atoms
words_back [] follows list word none fine = read_end list word ∙ sym (append-nil (list ++ open_atoms word))
words_back (Word next ∷ atoms) true list word none fine =
    let ms = map character (lead true atoms) ++ break_marks atoms in
    let split : map character (next ++ lead true atoms) ++ break_marks atoms ≡ map character next ++ ms =
    ap (λ (m : Marks). m ++ break_marks atoms) (map-append character next (lead true atoms))
    ∙ append_assoc (map character next) (map character (lead true atoms)) (break_marks atoms) in
    sym (read_white list word 0x20 (map character (next ++ lead true atoms) ++ break_marks atoms) refl)
    ∙ ap (atoms_from (list ++ open_atoms word) []) split
    ∙ letters (list ++ open_atoms word) [] next ms fine.0.0.1
    ∙ words_back atoms true (list ++ open_atoms word) next (λ e. absurd (true≢false e)) fine.1
    ∙ ap (λ (w : List Atom). ((list ++ open_atoms word) ++ w) ++ atoms) (whole_word next fine.0.0)
    ∙ append_assoc (list ++ open_atoms word) (Word next ∷ []) atoms
words_back (Word next ∷ atoms) false list word none fine =
    let ms = map character (lead true atoms) ++ break_marks atoms in
    let split : map character (next ++ lead true atoms) ++ break_marks atoms ≡ map character next ++ ms =
    ap (λ (m : Marks). m ++ break_marks atoms) (map-append character next (lead true atoms))
    ∙ append_assoc (map character next) (map character (lead true atoms)) (break_marks atoms) in
    let empty : word ≡ [] = none refl in
    ap (λ (w : List ℕ). atoms_from list w (map character (next ++ lead true atoms) ++ break_marks atoms)) empty
    ∙ ap (atoms_from list []) split
    ∙ letters list [] next ms fine.0.0.1
    ∙ words_back atoms true list next (λ e. absurd (true≢false e)) fine.1
    ∙ ap (λ (w : List Atom). (list ++ w) ++ atoms) (whole_word next fine.0.0)
    ∙ append_assoc list (Word next ∷ []) atoms
    ∙ ap (λ (l : List Atom). l ++ (Word next ∷ atoms)) (sym (append-nil list))
    ∙ ap (λ (w : List ℕ). (list ++ open_atoms w) ++ (Word next ∷ atoms)) (sym empty)
words_back (Glue unit ∷ atoms) follows list word none fine = absurd fine.0.1
words_back (Break ∷ atoms) follows list word none fine =
    sym (read_line_break list word (map character (lead false atoms) ++ break_marks atoms))
    ∙ words_back atoms false ((list ++ open_atoms word) ++ Break ∷ []) [] (λ e. refl) fine.1
    ∙ ap (λ (l : List Atom). l ++ atoms) (append-nil ((list ++ open_atoms word) ++ Break ∷ []))
    ∙ append_assoc (list ++ open_atoms word) (Break ∷ []) atoms

-- the marks of a paragraph's items come to its atoms
pub atoms_back : (atoms : List Atom) → AllByRecursion NoGlue atoms → atoms_of (line_marks atoms) ≡ atoms
atoms_back atoms fine = sym (read_none (line_marks atoms)) ∙ words_back atoms false [] [] (λ e. refl) fine

-- ---- the grammar of a flow

-- what kinds of tokens items are to the grammar
abbrev pub grammar_kinds : List Item → Kinds
grammar_kinds items = map class_of (flat_map item_kinds items)

-- the tokens go on with a flow, and their marks with its marks
abbrev pub GoesOn : Kinds → Marks → Type 0
GoesOn ks ms = (k1 rest : Kinds) (m1 more : Marks) → Flow k1 m1 rest more → Flow (ks ++ k1) (ms ++ m1) rest more

pub goes_append : (ks ls : Kinds) (ms ns : Marks) → GoesOn ks ms → GoesOn ls ns → GoesOn (ks ++ ls) (ms ++ ns)
goes_append ks ls ms ns one two k1 rest m1 more flow =
    subst (λ (k : Kinds). Flow k ((ms ++ ns) ++ m1) rest more) (sym (append_assoc ks ls k1))
    (subst (λ (m : Marks). Flow (ks ++ (ls ++ k1)) m rest more) (sym (append_assoc ms ns m1))
    (one (ls ++ k1) rest (ns ++ m1) more (two k1 rest m1 more flow)))

pub text_goes : (cs : List ℕ) → GoesOn (map class_of (text_kinds cs)) (map character cs)
text_goes [] k1 rest m1 more flow = flow
text_goes (c ∷ cs) k1 rest m1 more flow = words flow

-- the tag and the text of an item
item_goes : (mark : List ℕ) (cs : List ℕ) (tag : Kind) (m : Mark) → GoesOn (tag ∷ []) (m ∷ []) →
    GoesOn (tag ∷ map class_of (text_kinds cs)) (m ∷ map character cs)
item_goes mark cs tag m one = goes_append (tag ∷ []) (map class_of (text_kinds cs)) (m ∷ []) (map character cs) one (text_goes cs)

pub kinds_append : (xs ys : List Item) → grammar_kinds (xs ++ ys) ≡ grammar_kinds xs ++ grammar_kinds ys
kinds_append xs ys = ap (map class_of) (flat_map-append item_kinds xs ys) ∙ map-append class_of (flat_map item_kinds xs)
    (flat_map item_kinds ys)

pub kinds_cons : (x : Item) (ys : List Item) → grammar_kinds (x ∷ ys) ≡ map class_of (item_kinds x) ++ grammar_kinds ys
kinds_cons x ys = map-append class_of (item_kinds x) (flat_map item_kinds ys)

breaks_go : (atoms : List Atom) → GoesOn (grammar_kinds (break_items atoms ++ end_item ∷ []))
    (break_marks atoms ++ marks.paragraph_ends ∷ [])
breaks_go [] = λ k1 rest m1 more flow. edge flow
breaks_go (Word word ∷ atoms) = breaks_go atoms
breaks_go (Glue unit ∷ atoms) = breaks_go atoms
breaks_go (Break ∷ atoms) =
    subst (λ (ks : Kinds). GoesOn ks (line_break ∷ (map character
    (lead false atoms) ++ break_marks atoms) ++ marks.paragraph_ends ∷ []))
    (sym (kinds_cons (break_item (lead false atoms)) (break_items atoms ++ end_item ∷ [])))
    (subst (λ (ms : Marks). GoesOn (map class_of (item_kinds (break_item (lead false atoms))) ++ grammar_kinds
    (break_items atoms ++ end_item ∷ []))
    (line_break ∷ ms))
    (sym (append_assoc (map character (lead false atoms)) (break_marks atoms) (marks.paragraph_ends ∷ [])))
    (goes_append (map class_of (item_kinds (break_item (lead false atoms)))) (grammar_kinds (break_items atoms ++ end_item ∷ []))
    (line_break ∷ map character (lead false atoms)) (break_marks atoms ++ marks.paragraph_ends ∷ [])
    (item_goes [] (lead false atoms) br line_break (λ k1 rest m1 more flow. break flow)) (breaks_go atoms)))

-- the marks of a paragraph as a block
abbrev pub paragraph_marks : List Atom → Marks
paragraph_marks atoms = marks.paragraph_ends ∷ (line_marks atoms ++ marks.paragraph_ends ∷ [])

pub paragraph_goes : (atoms : List Atom) → GoesOn (grammar_kinds (paragraph_items atoms)) (paragraph_marks atoms)
paragraph_goes atoms =
    subst (λ (ks : Kinds). GoesOn ks (paragraph_marks atoms))
    (sym (kinds_cons (start_item (lead false atoms)) (break_items atoms ++ end_item ∷ [])))
    (subst (λ (ms : Marks). GoesOn (map class_of (item_kinds (start_item (lead false atoms))) ++ grammar_kinds
    (break_items atoms ++ end_item ∷ []))
    (marks.paragraph_ends ∷ ms))
    (sym (append_assoc (map character (lead false atoms)) (break_marks atoms) (marks.paragraph_ends ∷ [])))
    (goes_append (map class_of (item_kinds (start_item (lead false atoms)))) (grammar_kinds (break_items atoms ++ end_item ∷ []))
    (marks.paragraph_ends ∷ map character (lead false atoms)) (break_marks atoms ++ marks.paragraph_ends ∷ [])
    (item_goes [] (lead false atoms) p_or_div marks.paragraph_ends (λ k1 rest m1 more flow. edge flow)) (breaks_go atoms)))

-- ---- the entries of a flow

-- no paragraph is open before these marks
abbrev pub IsSharp : Marks → Type 0
IsSharp ms = leading ms ≡ []

-- The marks stand for these entries, where tables are numbered from k on and from `next` on after them.
pub record StandFor (k : ℕ) (ms : Marks) (entries : Entries) (next : ℕ) : Type 0 where
  pub sharp : (later : Marks) → IsSharp later → IsSharp (ms ++ later)
  pub same : (later : Marks) → IsSharp later → entries_after k (ms ++ later) ≡ entries ++ entries_after next later

abbrev IsLineMark : Mark → Type 0
IsLineMark (character c) = Unit {0}
IsLineMark line_break = Unit {0}
IsLineMark _ = ⊥

letters_in_line : (cs : List ℕ) (ms : Marks) → AllByRecursion IsLineMark ms → AllByRecursion IsLineMark (map character cs ++ ms)
letters_in_line [] ms all = all
letters_in_line (c ∷ cs) ms all = (tt, letters_in_line cs ms all)

breaks_in_line : (atoms : List Atom) → AllByRecursion IsLineMark (break_marks atoms)
breaks_in_line [] = tt
breaks_in_line (Word word ∷ atoms) = breaks_in_line atoms
breaks_in_line (Glue unit ∷ atoms) = breaks_in_line atoms
breaks_in_line (Break ∷ atoms) = (tt, letters_in_line (lead false atoms) (break_marks atoms) (breaks_in_line atoms))

line_leads : (ms later : Marks) → AllByRecursion IsLineMark ms → IsSharp later → leading (ms ++ later) ≡ ms
line_leads [] later all sharp = sharp
line_leads (character c ∷ ms) later all sharp = ap (λ (m : Marks). character c ∷ m) (line_leads ms later all.1 sharp)
line_leads (line_break ∷ ms) later all sharp = ap (λ (m : Marks). line_break ∷ m) (line_leads ms later all.1 sharp)
line_leads (_ ∷ ms) later all sharp = absurd all.0

line_passed : (k : ℕ) (ms later : Marks) → AllByRecursion IsLineMark ms → entries_after k (ms ++ later) ≡ entries_after k later
line_passed k [] later all = refl
line_passed k (character c ∷ ms) later all = line_passed k ms later all.1
line_passed k (line_break ∷ ms) later all = line_passed k ms later all.1
line_passed k (_ ∷ ms) later all = absurd all.0

-- a paragraph ends before what is sharp
pub ends_sharp : (k : ℕ) (later : Marks) → IsSharp later → entries_after k (marks.paragraph_ends ∷ later) ≡ entries_after k later
ends_sharp k later sharp = ap (λ (ms : Marks). paragraph_of (atoms_of ms) ++ entries_after k later) sharp

pub paragraph_stands : (k : ℕ) (atoms : List Atom) → 0 < length atoms → AllByRecursion NoGlue atoms →
    StandFor k (paragraph_marks atoms) (paragraph atoms ∷ []) k
paragraph_stands k [] some fine = absurd (omega arith)
paragraph_stands k (atom ∷ atoms) some fine =
    let all = atom ∷ atoms in
    let line : AllByRecursion IsLineMark (line_marks all) = letters_in_line (lead false all) (break_marks all)
    (breaks_in_line all) in
    record {
      sharp = λ later sharp. refl;
      same = λ later sharp.
          ap (λ (ms : Marks). paragraph_of (atoms_of (leading ms)) ++ entries_after k ms)
          (append_assoc (line_marks all) (marks.paragraph_ends ∷ []) later)
          ∙ ap (λ (ms : Marks). paragraph_of (atoms_of ms) ++ entries_after k (line_marks all ++ marks.paragraph_ends ∷ later))
          (line_leads (line_marks all) (marks.paragraph_ends ∷ later) line refl)
          ∙ ap (λ (l : List Atom). paragraph_of l ++ entries_after k (line_marks all ++ marks.paragraph_ends ∷ later))
          (atoms_back all fine)
          ∙ ap (λ (es : Entries). paragraph all ∷ es) (line_passed k (line_marks all) (marks.paragraph_ends ∷ later)
          line ∙ ends_sharp k later sharp);
    }
