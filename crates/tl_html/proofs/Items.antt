-- A page as a list of tags, each with the text up to the next tag: the tokens that its characters spell.
use Rattle.std.proofs.Common.{◌≡◌, ℕ, Bool, true, false, cond, eqb, List, [], ◌∷◌, ◌++◌, map, refl, sym, ap, ◌∙◌, subst}
use Rattle.std.proofs.Common.{append_assoc}
use Rattle.std.specs.Prelude.{codes, IsUtf8, chars, length}
use Rattle.std.specs.List.{AllByRecursion, flat_map}
use Rattle.std.proofs.lemmas.Bool.{eqb-true, both_ways, not_from_false}
use Rattle.tl_token.specs.Characters.{is_control}
use Rattle.tl_token.specs.Grammar.{Lexeme, hidden, tag, character, LexemeStands, by_reference, plain}
use Rattle.tl_token.specs.Spelling.{Part, part, place_of_rest, Leads, here, next, join_before, character_before, piece_before}
use Rattle.tl_token.specs.Spelling.{tokens_of, characters}
use Rattle.tl_token.specs.Spelling.{without_mark, SpellsTokens}
use Rattle.tl_token.specs.declared.token.Element.{Element}
use Rattle.tl_token.specs.declared.token.Spans.{Spans}
use Rattle.tl_token.specs.declared.token.Token.{Token}
use Rattle.tl_token.specs.declared.token.TokenKind.{TokenKind}
use Rattle.tl_token.specs.declared.token.TokenKind.TheVariants.{Start, End, Text}
use Rattle.tl_html.specs.Html.{escaped}

-- a tag as it is written and what it is, and the characters of the text after it
pub record Item : Type 0 where
  pub mark : List ℕ
  pub is_end : Bool
  pub element : Element
  pub spans : Spans
  pub text : List ℕ

-- the token of the tag
abbrev pub tag_kind : Item → TokenKind
tag_kind item = cond item.is_end (End item.element) (Start item.element item.spans)

-- the tag and its text as they stand in the page
abbrev pub item_text : Item → List ℕ
item_text item = item.mark ++ flat_map escaped item.text

abbrev pub items_text : List Item → List ℕ
items_text items = flat_map item_text items

-- the characters are a tag, whatever follows
abbrev pub IsTagText : List ℕ → Bool → Element → Spans → Type 0
IsTagText mark is_end element spans = (rest : List ℕ) → LexemeStands (mark ++ rest)
    (tag (cond is_end (End element) (Start element spans))) rest

-- no control character stands in the text
abbrev pub AreFine : List ℕ → Type 0
AreFine text = AllByRecursion (λ c. is_control c ≡ false) text

abbrev pub IsItem : Item → Type 0
IsItem item = IsTagText item.mark item.is_end item.element item.spans × AreFine item.text

-- ---- pieces

-- one piece after another, up to the rest
pub data Reads : List ℕ → List Lexeme → List ℕ → Type 0 where
  done : {cs : List ℕ} → Reads cs [] cs
  step : {cs mid rest : List ℕ} {pieces : List Lexeme} → (piece : Lexeme) → LexemeStands cs piece mid → Reads mid pieces rest →
      Reads cs (piece ∷ pieces) rest

reads_append : (cs mid rest : List ℕ) (one two : List Lexeme) → Reads cs one mid → Reads mid two rest → Reads cs (one ++ two) rest
reads_append cs mid rest _ two done later = later
reads_append cs mid rest _ two (step {mid = m} {pieces = ps} piece stands more) later =
    step piece stands (reads_append m mid rest ps two more later)

-- a character that is escaped reads as itself
escape_reads : (c : ℕ) (rest : List ℕ) → is_control c ≡ false → LexemeStands (escaped c ++ rest) (character c) rest
escape_reads c rest fine = by_tests (eqb c 0x26) (eqb c 0x3C) (eqb c 0x3E) (eqb c 0xA0) refl refl refl refl
  where
    by_tests : (a b d e : Bool) → eqb c 0x26 ≡ a → eqb c 0x3C ≡ b → eqb c 0x3E ≡ d → eqb c 0xA0 ≡ e →
        LexemeStands (cond a (codes "&amp;") (cond b (codes "&lt;")
        (cond d (codes "&gt;") (cond e (codes "&nbsp;") (c ∷ [])))) ++ rest) (character c) rest
    by_tests true b d e p q r s =
        subst (λ x. LexemeStands (codes "&amp;" ++ rest) (character x) rest) (sym (eqb-true c 0x26 p)) (by_reference refl refl)
    by_tests false true d e p q r s =
        subst (λ x. LexemeStands (codes "&lt;" ++ rest) (character x) rest) (sym (eqb-true c 0x3C q)) (by_reference refl refl)
    by_tests false false true e p q r s =
        subst (λ x. LexemeStands (codes "&gt;" ++ rest) (character x) rest) (sym (eqb-true c 0x3E r)) (by_reference refl refl)
    by_tests false false false true p q r s =
        subst (λ x. LexemeStands (codes "&nbsp;" ++ rest) (character x) rest) (sym (eqb-true c 0xA0 s)) (by_reference refl refl)
    by_tests false false false false p q r s =
        plain (
          not_from_false (is_control c) fine,
          (λ h. absurd (both_ways (eqb c 0x3C) q h)),
          (λ h. absurd (both_ways (eqb c 0x26) p h)),
        )

text_reads : (text rest : List ℕ) → AreFine text → Reads (flat_map escaped text ++ rest) (map character text) rest
text_reads [] rest fine = done
text_reads (c ∷ text) rest fine =
    subst (λ (cs : List ℕ). Reads cs (character c ∷ map character text) rest)
    (sym (append_assoc (escaped c) (flat_map escaped text) rest))
    (step (character c) (escape_reads c (flat_map escaped text ++ rest) fine.0) (text_reads text rest fine.1))

-- the pieces of an item
abbrev item_pieces : Item → List Lexeme
item_pieces item = tag (tag_kind item) ∷ map character item.text

item_reads : (item : Item) (rest : List ℕ) → IsItem item → Reads (item_text item ++ rest) (item_pieces item) rest
item_reads item rest is =
    subst (λ (cs : List ℕ). Reads cs (item_pieces item) rest) (sym (append_assoc item.mark (flat_map escaped item.text) rest))
    (step (tag (tag_kind item)) (is.0 (flat_map escaped item.text ++ rest)) (text_reads item.text rest is.1))

items_read : (items : List Item) → AllByRecursion IsItem items → Reads (items_text items) (flat_map item_pieces items) []
items_read [] all = done
items_read (item ∷ items) all =
    reads_append (item_text item ++ items_text items) (items_text items) [] (item_pieces item) (flat_map item_pieces items)
    (item_reads item (items_text items) all.0) (items_read items all.1)

abbrev piece_of : Part → Lexeme
piece_of part = part.piece

-- pieces at their places in a file
placed : (size : ℕ) (cs rest : List ℕ) (pieces : List Lexeme) → Reads cs pieces rest →
    (parts : List Part) × (Leads size cs parts rest × (map piece_of parts ≡ pieces))
placed size cs rest _ done = ([], (here, refl))
placed size cs rest _ (step {mid = mid} {pieces = pieces} piece stands more) =
    let (parts, later) = placed size mid rest pieces more in (
      part piece (place_of_rest size cs) (place_of_rest size mid) ∷ parts,
      (next piece stands later.0, ap (λ (ps : List Lexeme). piece ∷ ps) later.1),
    )

-- ---- tokens

abbrev pub kind_of : Token → TokenKind
kind_of token = token.kind

-- a character before tokens joins a text
abbrev character_kinds : ℕ → List TokenKind → List TokenKind
character_kinds c [] = Text (c ∷ []) ∷ []
character_kinds c (Text cs ∷ ks) = Text (c ∷ cs) ∷ ks
character_kinds c (Start e spans ∷ ks) = Text (c ∷ []) ∷ Start e spans ∷ ks
character_kinds c (End e ∷ ks) = Text (c ∷ []) ∷ End e ∷ ks

abbrev piece_kinds : Lexeme → List TokenKind → List TokenKind
piece_kinds hidden ks = ks
piece_kinds (tag kind) ks = kind ∷ ks
piece_kinds (character c) ks = character_kinds c ks

abbrev kinds_over : List Lexeme → List TokenKind → List TokenKind
kinds_over [] ks = ks
kinds_over (piece ∷ pieces) ks = piece_kinds piece (kinds_over pieces ks)

over_append : (one two : List Lexeme) (ks : List TokenKind) → kinds_over (one ++ two) ks ≡ kinds_over one (kinds_over two ks)
over_append [] two ks = refl
over_append (piece ∷ one) two ks = ap (piece_kinds piece) (over_append one two ks)

joins : (c first past : ℕ) (kind : TokenKind) (t : Token) (later : List Token) → t.kind ≡ kind →
    map kind_of (join_before c first past kind t later) ≡ character_kinds c (kind ∷ map kind_of later)
joins c first past (Text cs) t later is = refl
joins c first past (Start e spans) t later is = ap (λ (k : TokenKind). Text (c ∷ []) ∷ k ∷ map kind_of later) is
joins c first past (End e) t later is = ap (λ (k : TokenKind). Text (c ∷ []) ∷ k ∷ map kind_of later) is

token_kinds : (parts : List Part) → map kind_of (tokens_of parts) ≡ kinds_over (map piece_of parts) []
token_kinds [] = refl
token_kinds (p ∷ parts) = by_piece p.piece (token_kinds parts)
  where
    by_tokens : (c : ℕ) (later : List Token) → map kind_of (character_before c p.first p.past later) ≡ character_kinds c
        (map kind_of later)
    by_tokens c [] = refl
    by_tokens c (t ∷ later) = joins c p.first p.past t.kind t later refl

    by_piece : (piece : Lexeme) → map kind_of (tokens_of parts) ≡ kinds_over (map piece_of parts) [] →
        map kind_of (piece_before piece p.first p.past (tokens_of parts)) ≡ piece_kinds piece (kinds_over (map piece_of parts) [])
    by_piece hidden rest = rest
    by_piece (tag kind) rest = ap (λ (ks : List TokenKind). kind ∷ ks) rest
    by_piece (character c) rest = by_tokens c (tokens_of parts) ∙ ap (character_kinds c) rest

-- a text, if it has a character
abbrev pub text_kinds : List ℕ → List TokenKind
text_kinds [] = []
text_kinds (c ∷ cs) = Text (c ∷ cs) ∷ []

-- the tokens of an item
abbrev pub item_kinds : Item → List TokenKind
item_kinds item = tag_kind item ∷ text_kinds item.text

tags_first : (c : ℕ) (items : List Item) → character_kinds c (flat_map item_kinds items) ≡ Text
    (c ∷ []) ∷ flat_map item_kinds items
tags_first c [] = refl
tags_first c (item ∷ items) = by_end item.is_end
  where
    by_end : (b : Bool) →
        character_kinds c (cond b (End item.element) (Start item.element item.spans) ∷
        (text_kinds item.text ++ flat_map item_kinds items))
        ≡ Text (c ∷ []) ∷ cond b (End item.element) (Start item.element item.spans) ∷
        (text_kinds item.text ++ flat_map item_kinds items)
    by_end true = refl
    by_end false = refl

text_over : (text : List ℕ) (items : List Item) → kinds_over (map character text)
    (flat_map item_kinds items) ≡ text_kinds text ++ flat_map item_kinds items
text_over [] items = refl
text_over (c ∷ []) items = tags_first c items
text_over (c ∷ d ∷ text) items = ap (character_kinds c) (text_over (d ∷ text) items)

items_over : (items : List Item) → kinds_over (flat_map item_pieces items) [] ≡ flat_map item_kinds items
items_over [] = refl
items_over (item ∷ items) =
    over_append (item_pieces item) (flat_map item_pieces items) []
    ∙ ap (λ (ks : List TokenKind). kinds_over (item_pieces item) ks) (items_over items)
    ∙ ap (λ (ks : List TokenKind). tag_kind item ∷ ks) (text_over item.text items)

-- The characters of items spell their tokens.
pub items_spelt : (bytes : List ℕ) (items : List Item) → IsUtf8 bytes → chars bytes ≡ items_text items →
    without_mark (chars bytes) ≡ chars bytes →
    AllByRecursion IsItem items → (tokens : List Token) × (SpellsTokens bytes tokens ×
    (map kind_of tokens ≡ flat_map item_kinds items))
items_spelt bytes items utf8 is no_mark all =
    let (parts, leads) = placed (length bytes) (items_text items) [] (flat_map item_pieces items) (items_read items all) in
    let at : characters bytes ≡ items_text items = no_mark ∙ is in (
      tokens_of parts,
      (
        (utf8, parts, subst (λ (cs : List ℕ). Leads (length bytes) cs parts []) (sym at) leads.0, refl),
        token_kinds parts ∙ ap (λ (ps : List Lexeme). kinds_over ps []) leads.1 ∙ items_over items,
      ),
    )
