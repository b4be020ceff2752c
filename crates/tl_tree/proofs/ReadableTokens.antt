-- What `tokens` returns is what `tree` reads.
use Rattle.std.proofs.Common.{◌≡◌, ◌<◌, ◌≤◌, ℕ, Bool, true, false, not, ◌&&◌, ◌||◌, List, [], ◌∷◌, Option, Some, None, length}
use Rattle.std.proofs.Common.{sum_by, refl, sym}
use Rattle.std.proofs.Common.{ap, ◌∙◌, subst, inl, inr, cond, arith, drop}
use Rattle.std.specs.List.{AllByRecursion, list_any}
use Rattle.std.proofs.lemmas.Int.{clamps}
use Rattle.std.proofs.lemmas.List.Sums.{sum_by-cons}
use Rattle.std.proofs.lemmas.Bool.{not-true}
use lib.Utf8.{scalar}
use Rattle.tl_base.specs.declared.limits.TheConstants.{MAX_FILE_BYTES, MAX_COLSPAN, MAX_ROWSPAN, MAX_PAGE_WIDTH}
use Rattle.tl_base.proofs.Options.{Some-same}
use Rattle.tl_token.specs.Characters.{◌∈◌, is_control, begins}
use Rattle.tl_token.specs.Numbers.{number, columns_spanned, rows_spanned, floor_of}
use Rattle.tl_token.specs.Elements.{Attribute, Tag, tag_token, span_numbers}
use Rattle.tl_token.specs.Grammar.{named_character, numbered_character, referred, numeric_reference, reference, Lexeme}
use Rattle.tl_token.specs.Grammar.{LexemeStands, comment, doctype, markup, by_reference, plain}
use Rattle.tl_token.specs.Spelling.{Part, place_of_rest, Leads, here, next, join_before, character_before, piece_before}
use Rattle.tl_token.specs.Spelling.{tokens_of}
use Rattle.tl_token.specs.Spelling.{token_size, size_of}
use Rattle.tl_token.specs.Spelling.{SpellsTokens}
use Rattle.tl_token.specs.declared.token.Element.{Element}
use Rattle.tl_token.specs.declared.token.Element.TheVariants.{Table, Caption, Colgroup, Col, Thead, Tbody, Tfoot, Tr, Td, Th, Br}
use Rattle.tl_token.specs.declared.token.Element.TheVariants.{P, Div, Inline, Outer}
use Rattle.tl_token.specs.declared.token.Spans.{Spans}
use Rattle.tl_token.specs.declared.token.Token.{Token}
use Rattle.tl_token.specs.declared.token.TokenKind.{TokenKind}
use Rattle.tl_token.specs.declared.token.TokenKind.TheVariants.{Start, End, Text}
use Rattle.tl_token.proofs.CharacterTests.{chosen}
use Rattle.tl_text.proofs.ClusterLemmas.{both-right}
use Rattle.tl_tree.specs.Tags.{kinds, class_of, kind_of_start, kind_of_end}
use Rattle.tl_tree.specs.Readable.{IsReadable, AreReadable, kind_size}

-- a character by its number is no control character
numbered_plain : (n d : ℕ) → numbered_character n ≡ Some d → is_control d ≡ false
numbered_plain n d h = elim (chosen (λ (o : Option ℕ). o ≡ Some d) (scalar n && not (is_control n)) (Some n) None h) [
  | inl e ↦
      let same = Some-same (e.1) in
      let P : ℕ → Type 0 = λ x. is_control x ≡ false in
      subst P same (not-true (is_control n) (both-right (scalar n) (not (is_control n)) (e.0)))
  | inr e ↦ let never = e.1 in cc
]

-- neither is one with a name
named_plain : (name : List ℕ) (d : ℕ) → named_character name ≡ Some d → is_control d ≡ false
named_plain name d h = grind (arith, h)

abbrev meant : Option (Option ℕ × List ℕ) → Option ℕ
meant None = None
meant (Some q) = q.0

-- what a run stands for
referred_plain : (meaning : List ℕ → Option ℕ) (ended : Option (List ℕ × List ℕ)) (d : ℕ) (rest : List ℕ)
    → ((text : List ℕ) → meaning text ≡ Some d → is_control d ≡ false)
    → referred meaning ended ≡ Some (Some d, rest) → is_control d ≡ false
referred_plain meaning None d rest fine h = cc
referred_plain meaning (Some p) d rest fine h = fine (p.0) (ap (λ o. meant o) h)

numeric_plain : (cs : List ℕ) (d : ℕ) (rest : List ℕ) → numeric_reference cs ≡ Some (Some d, rest) → is_control d ≡ false
numeric_plain cs d rest h =
    elim (chosen (λ (o : Option (Option ℕ × List ℕ)). o ≡ Some (Some d, rest)) (begins (λ c. c ∈ "xX") cs) _ _ h) [
      | inl e ↦ referred_plain _ _ d rest (λ text. numbered_plain (number 16 text) d) (e.1)
      | inr e ↦ referred_plain _ _ d rest (λ text. numbered_plain (number 10 text) d) (e.1)
    ]

reference_plain : (cs : List ℕ) (d : ℕ) (rest : List ℕ) → reference cs ≡ Some (Some d, rest) → is_control d ≡ false
reference_plain cs d rest h =
    elim (chosen (λ (o : Option (Option ℕ × List ℕ)). o ≡ Some (Some d, rest)) (begins (λ c. c ∈ "#") cs) _ _ h) [
      | inl e ↦ numeric_plain (drop 1 cs) d rest (e.1)
      | inr e ↦ referred_plain named_character _ d rest (λ text. named_plain text d) (e.1)
    ]

-- the numbers of a start tag
some_columns : (n : Option ℕ) → (0 < columns_spanned n) × (columns_spanned n ≤ MAX_COLSPAN)
some_columns None = (omega arith, omega arith)
some_columns (Some n) = (omega (arith, clamps), omega (arith, clamps))

few_rows : (n : Option ℕ) → rows_spanned n ≤ MAX_ROWSPAN
few_rows None = omega arith
few_rows (Some n) = omega (arith, clamps)

narrow : (n : Option ℕ) → floor_of n ≤ MAX_PAGE_WIDTH
narrow None = omega arith
narrow (Some n) = omega (arith, clamps)

start_readable : (e : Element) (attributes : List Attribute) → IsReadable (kind_of_start e (span_numbers e attributes))
start_readable Td attributes = record {
  some_column = (some_columns _).0;
  few_columns = (some_columns _).1;
  few_rows =
      few_rows _;
  narrow = narrow _;
}
start_readable Th attributes = record {
  some_column = (some_columns _).0;
  few_columns = (some_columns _).1;
  few_rows =
      few_rows _;
  narrow = narrow _;
}
start_readable Col attributes = (some_columns _).1
start_readable Colgroup attributes = (some_columns _).1
start_readable Table attributes = tt
start_readable Caption attributes = tt
start_readable Thead attributes = tt
start_readable Tbody attributes = tt
start_readable Tfoot attributes = tt
start_readable Tr attributes = tt
start_readable Br attributes = tt
start_readable P attributes = tt
start_readable Div attributes = tt
start_readable Inline attributes = tt
start_readable Outer attributes = tt

end_readable : (e : Element) → IsReadable (kind_of_end e)
end_readable Table = tt
end_readable Caption = tt
end_readable Colgroup = tt
end_readable Col = tt
end_readable Thead = tt
end_readable Tbody = tt
end_readable Tfoot = tt
end_readable Tr = tt
end_readable Td = tt
end_readable Th = tt
end_readable Br = tt
end_readable P = tt
end_readable Div = tt
end_readable Inline = tt
end_readable Outer = tt

tag_readable : (e : Element) (t : Tag) → IsReadable (class_of (tag_token e t))
tag_readable e t = by_end (t.is_end)
  where
    by_end : (b : Bool) → IsReadable (class_of (cond b (End e) (Start e (span_numbers e (t.attributes)))))
    by_end true = end_readable e
    by_end false = start_readable e (t.attributes)

any_control : (c : ℕ) (cs : List ℕ) → is_control c ≡ false → list_any is_control cs ≡ false → list_any is_control (c ∷ cs) ≡ false
any_control c cs allowed fine = ap (λ b. b || list_any is_control cs) allowed ∙ fine

abbrev AllReadable : List Token → Type 0
AllReadable tokens = AllByRecursion IsReadable (kinds tokens)

-- a character before tokens
character_readable : (c first past : ℕ) (later : List Token) → is_control c ≡ false → AllReadable later →
    AllReadable (character_before c first past later)
character_readable c first past [] allowed fine = ((omega arith, any_control c [] allowed refl), tt)
character_readable c first past (t ∷ later) allowed fine = by_kind (t.kind) (fine.0)
  where
    by_kind : (k : TokenKind) → IsReadable (class_of k) → AllReadable (join_before c first past k t later)
    by_kind (Text cs) text_fine = ((omega arith, any_control c cs allowed (text_fine.1)), fine.1)
    by_kind (Start e spans) start_fine = ((omega arith, any_control c [] allowed refl), fine)
    by_kind (End e) end_fine = ((omega arith, any_control c [] allowed refl), fine)

piece_readable : (cs rest : List ℕ) (piece : Lexeme) (first past : ℕ) (later : List Token) → LexemeStands cs piece rest →
    AllReadable later
    → AllReadable (piece_before piece first past later)
piece_readable cs rest _ first past later (comment k) fine = fine
piece_readable cs rest _ first past later (doctype k) fine = fine
piece_readable cs rest _ first past later (markup e t k known kind) fine =
    let Q : TokenKind → Type 0 = λ x. IsReadable (class_of x) in
    (subst Q (sym kind) (tag_readable e t), fine)
piece_readable _ rest _ first past later (by_reference {c = c} {d = d} {cs = cs} a h) fine =
    character_readable d first past later (reference_plain cs d rest h) fine
piece_readable _ rest _ first past later (plain {c = c} k) fine =
    character_readable c first past later (not-true (is_control c) (k.0)) fine

-- the tokens of pieces that lead somewhere
parts_readable : (size : ℕ) (cs rest : List ℕ) (parts : List Part) → Leads size cs parts rest → AllReadable (tokens_of parts)
parts_readable size cs rest _ here = tt
parts_readable size cs rest _ (next {mid = mid} {parts = parts} piece k later) =
    piece_readable cs mid piece (place_of_rest size cs) (place_of_rest size mid) (tokens_of parts) k
    (parts_readable size mid rest parts later)

start_size : (e : Element) (spans : Spans) → kind_size (kind_of_start e spans) ≡ 1
start_size Table spans = refl
start_size Caption spans = refl
start_size Colgroup spans = refl
start_size Col spans = refl
start_size Thead spans = refl
start_size Tbody spans = refl
start_size Tfoot spans = refl
start_size Tr spans = refl
start_size Td spans = refl
start_size Th spans = refl
start_size Br spans = refl
start_size P spans = refl
start_size Div spans = refl
start_size Inline spans = refl
start_size Outer spans = refl

end_size : (e : Element) → kind_size (kind_of_end e) ≡ 1
end_size Table = refl
end_size Caption = refl
end_size Colgroup = refl
end_size Col = refl
end_size Thead = refl
end_size Tbody = refl
end_size Tfoot = refl
end_size Tr = refl
end_size Td = refl
end_size Th = refl
end_size Br = refl
end_size P = refl
end_size Div = refl
end_size Inline = refl
end_size Outer = refl

class_size : (k : TokenKind) → kind_size (class_of k) ≡ token_size k
class_size (Start e spans) = start_size e spans
class_size (End e) = end_size e
class_size (Text cs) = refl

same_size : (tokens : List Token) → sum_by kind_size (kinds tokens) ≡ size_of tokens
same_size [] = refl
same_size (t ∷ later) =
    let h = same_size later in
    let k = class_size (t.kind) in
    omega (arith, h, k, sum_by-cons kind_size (class_of (t.kind)) (kinds later))

-- The tokens that the bytes of a file spell, of which there are no more than bytes, are readable.
pub tokens_readable : (bytes : List ℕ) (tokens : List Token) → SpellsTokens bytes tokens → size_of tokens ≤ length bytes →
    length bytes ≤ MAX_FILE_BYTES
    → AreReadable tokens
tokens_readable bytes tokens spelt few small =
    let (utf8, parts, leads, same) = spelt in
    record {
      readable = subst AllReadable (sym same) (parts_readable _ _ _ parts leads);
      size = omega (arith, same_size tokens, few, small);
    }
