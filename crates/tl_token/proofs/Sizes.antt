-- A piece takes at least as many bytes of the file as its token or its character has.
use Rattle.std.proofs.Common.{◌≡◌, ℕ, zero, suc, ◌+◌, ◌<◌, ◌≤◌, Bool, true, false, ◌&&◌, List, [], ◌∷◌, ◌++◌, Option, Some, None}
use Rattle.std.proofs.Common.{length, refl, sym}
use Rattle.std.proofs.Common.{ap, ◌∙◌, subst, inl, inr, cond, arith, drop, length-append}
use Rattle.std.proofs.lemmas.Bool.{false≢true, and_parts}
use Rattle.std.proofs.lemmas.Str.{length-encode, len_utf8_bounds}
use Rattle.std.specs.Prelude.{codes}
use Rattle.std.specs.Char.{len_utf8, is_ascii_hexdigit, is_ascii_alphanumeric}
use Rattle.tl_base.proofs.Texts.{byte_count-append}
use Rattle.tl_token.specs.Numbers.{number}
use lib.Utf8.{encode, encodes}
use Rattle.tl_base.specs.Text.{byte_count}
use Rattle.tl_token.specs.Characters.{◌∈◌, begins, past}
use Rattle.tl_token.specs.Elements.{Attribute, Tag, tag_token, span_numbers}
use Rattle.tl_token.specs.Grammar.{has_prefix, past_first, Value, missing, quoted, unquoted, Attributes, end, gap, attribute}
use Rattle.tl_token.specs.Grammar.{opening, IsTag}
use Rattle.tl_token.specs.Grammar.{named_character, numbered_character, ended_run, referred, numeric_reference, reference, Lexeme}
use Rattle.tl_token.specs.Grammar.{hidden, tag}
use Rattle.tl_token.specs.Grammar.{character, LexemeStands, comment, doctype, markup, by_reference, plain}
use Rattle.tl_token.specs.Spelling.{Part, place_of_rest, Leads, here, next, join_before, character_before, piece_before}
use Rattle.tl_token.specs.Spelling.{tokens_of}
use Rattle.tl_token.specs.Spelling.{token_size, size_of}
use Rattle.tl_token.specs.declared.token.TokenKind.{TokenKind}
use Rattle.tl_token.specs.declared.token.TokenKind.TheVariants.{Start, End, Text}
use Rattle.tl_token.specs.declared.token.Token.{Token}
use Rattle.tl_token.specs.declared.token.Element.{Element}
use Rattle.tl_token.proofs.CharacterTests.{chosen}

pub byte_count-cons : (c : ℕ) (cs : List ℕ) → byte_count (c ∷ cs) ≡ len_utf8 c + byte_count cs
byte_count-cons c cs = length-append (encode c) (encodes cs) ∙ ap (λ n. n + byte_count cs) (length-encode c)

pub more_bytes : (c : ℕ) (cs : List ℕ) → byte_count cs < byte_count (c ∷ cs)
more_bytes c cs = omega (arith, byte_count-cons c cs, (len_utf8_bounds c).0)

-- what follows some text has no more bytes than all
pub after_le : (cs xs rest : List ℕ) → cs ≡ xs ++ rest → byte_count rest ≤ byte_count cs
after_le cs xs rest e = omega (arith, ap byte_count e, byte_count-append xs rest)

drop_le : (n : ℕ) (cs : List ℕ) → byte_count (drop n cs) ≤ byte_count cs
drop_le zero cs = omega arith
drop_le (suc n) [] = omega arith
drop_le (suc n) (c ∷ cs) = let h = drop_le n cs in omega (arith, h, more_bytes c cs)

past_first_le : (mark cs rest : List ℕ) → past_first mark cs ≡ Some rest → byte_count rest ≤ byte_count cs
past_first_le mark [] rest h = cc
past_first_le mark (c ∷ cs) rest h = elim (chosen (λ (o : Option (List ℕ)). o ≡ Some rest) (has_prefix mark (c ∷ cs)) _ _ h) [
  | inl e ↦ let same : drop (length mark) (c ∷ cs) ≡ rest = cc in
      omega (arith, ap byte_count (sym same), drop_le (length mark) (c ∷ cs))
  | inr e ↦ let k = past_first_le mark cs rest (e.1) in omega (arith, k, more_bytes c cs)
]

past_le : (test : ℕ → Bool) (cs : List ℕ) → byte_count (past test cs) ≤ byte_count cs
past_le test [] = omega arith
past_le test (c ∷ cs) = by_test (test c) (past_le test cs)
  where
    by_test : (b : Bool) → byte_count (past test cs) ≤ byte_count cs →
        byte_count (cond b (past test cs) (c ∷ cs)) ≤ byte_count (c ∷ cs)
    by_test true h = omega (arith, h, more_bytes c cs)
    by_test false h = omega arith

past_less : (test : ℕ → Bool) (cs : List ℕ) → begins test cs ≡ true → byte_count (past test cs) < byte_count cs
past_less test [] h = absurd (false≢true h)
past_less test (c ∷ cs) h =
    let k : past test (c ∷ cs) ≡ past test cs = ap (λ b. cond b (past test cs) (c ∷ cs)) h in
    omega (arith, ap byte_count k, past_le test cs, more_bytes c cs)

one_less : (test : ℕ → Bool) (cs : List ℕ) → begins test cs ≡ true → byte_count (drop 1 cs) < byte_count cs
one_less test [] h = absurd (false≢true h)
one_less test (c ∷ cs) h = more_bytes c cs

value_le : (cs value rest : List ℕ) → Value cs value rest → byte_count rest ≤ byte_count cs
value_le cs value rest (missing v e b) = omega (arith, ap byte_count e)
value_le cs value rest (quoted q i before after b a v e) =
    let inner = quote_le q value rest in
    omega (
      arith,
      ap byte_count e,
      byte_count-append before (codes "=" ++ (after ++ (q ∷ (value ++ (q ∷ rest))))),
      more_bytes 61
          (after ++ (q ∷ (value ++ (q ∷ rest)))),
      byte_count-append after (q ∷ (value ++ (q ∷ rest))),
      inner,
    )
  where
    quote_le : (q : ℕ) (value rest : List ℕ) → byte_count rest ≤ byte_count (q ∷ (value ++ (q ∷ rest)))
    quote_le q value rest = omega (
      arith,
      more_bytes q (value ++ (q ∷ rest)),
      byte_count-append value (q ∷ rest),
      more_bytes q rest,
    )
value_le cs value rest (unquoted before after b a some v k e) =
    omega (
      arith,
      ap byte_count e,
      byte_count-append before (codes "=" ++ (after ++ (value ++ rest))),
      more_bytes 61
          (after ++ (value ++ rest)),
      byte_count-append after (value ++ rest),
      byte_count-append value rest,
    )

attributes_le : (cs : List ℕ) (others : List Attribute) (rest : List ℕ) → Attributes cs others rest →
    byte_count rest ≤ byte_count cs
attributes_le _ _ rest (end {c = c} h) = omega (arith, more_bytes c rest)
attributes_le _ others rest (gap {c = c} {cs = cs} h later) = let k = attributes_le cs others rest later in
    omega (arith, k, more_bytes c cs)
attributes_le cs _ rest (attribute {a = a} {others = others} {following = following} {later =
    later} some each e value attributes) =
    let k = attributes_le later others rest attributes in
    omega (arith, k, value_le following (a.value) later value, after_le cs (a.name) following e)

tag_less : (cs : List ℕ) (t : Tag) (rest : List ℕ) → IsTag cs t rest → byte_count rest < byte_count cs
tag_less cs t rest k = from (t.is_end) (k.spelled)
  where
    later : byte_count rest ≤ byte_count (t.name ++ k.following)
    later = omega (
      arith,
      attributes_le (k.following) (t.attributes) rest (k.attributes),
      byte_count-append (t.name) (k.following),
    )

    from : (e : Bool) → cs ≡ opening e ++ (t.name ++ k.following) → byte_count rest < byte_count cs
    from true e = omega (
      arith,
      ap byte_count e,
      more_bytes 60 (47 ∷ (t.name ++ k.following)),
      more_bytes 47 (t.name ++ k.following),
      later,
    )
    from false e = omega (arith, ap byte_count e, more_bytes 60 (t.name ++ k.following), later)

abbrev after_of : Option (List ℕ × List ℕ) → List ℕ
after_of None = []
after_of (Some p) = p.1

-- a run and its `;` have two bytes at least
run_less : (test : ℕ → Bool) (cs text rest : List ℕ) → ended_run test cs ≡ Some (text, rest) → byte_count rest + 2 ≤ byte_count cs
run_less test cs text rest h =
    elim (chosen (λ (o : Option (List ℕ × List ℕ)). o ≡ Some (text, rest))
    (begins test cs && begins (λ c. c ∈ ";") (past test cs)) _ _ h) [
      | inl e ↦
          let (some, close) = and_parts (begins test cs) _ (e.0) in
          let same : drop 1 (past test cs) ≡ rest = ap after_of (e.1) in
          omega (arith, past_less test cs some, one_less (λ c. c ∈ ";") (past test cs) close, ap byte_count (sym same))
      | inr e ↦ let never = e.1 in cc
    ]

abbrev pub piece_size : Lexeme → ℕ
piece_size hidden = 0
piece_size (tag kind) = token_size kind
piece_size (character c) = len_utf8 c

-- after a run, what it stands for and the rest
referred_from : (meaning : List ℕ → Option ℕ) (ended : Option (List ℕ × List ℕ)) (c : Option ℕ) (rest : List ℕ) →
    referred meaning ended ≡ Some (c, rest)
    → (text : List ℕ) × (ended ≡ Some (text, rest)) × (meaning text ≡ c)
referred_from meaning None c rest h = cc
referred_from meaning (Some p) c rest h =
    let a : p.1 ≡ rest = ap (λ o. after o) h in
    let b : meaning (p.0) ≡ c = ap (λ o. meant o) h in
    let P : List ℕ → Type 0 = λ x. Some p ≡ Some (p.0, x) in
    (p.0, subst P a refl, b)
  where
    after : Option (Option ℕ × List ℕ) → List ℕ
    after None = []
    after (Some q) = q.1

    meant : Option (Option ℕ × List ℕ) → Option ℕ
    meant None = None
    meant (Some q) = q.0

-- each character with a name takes two bytes at most
named_small : (name : List ℕ) (d : ℕ) → named_character name ≡ Some d → len_utf8 d ≤ 2
named_small name d h = grind (arith, h)

-- a reference has more bytes than its character
numeric_less : (cs : List ℕ) (c : Option ℕ) (rest : List ℕ) → numeric_reference cs ≡ Some (c, rest) →
    byte_count rest + 2 ≤ byte_count cs
numeric_less cs c rest h =
    elim (chosen (λ (o : Option (Option ℕ × List ℕ)). o ≡ Some (c, rest)) (begins (λ c. c ∈ "xX") cs) _ _ h) [
      | inl e ↦
          let meaning : List ℕ → Option ℕ = λ digits. numbered_character (number 16 digits) in
          let (text, ended, means) = referred_from meaning (ended_run is_ascii_hexdigit (drop 1 cs)) c rest (e.1) in
          omega (arith, run_less is_ascii_hexdigit (drop 1 cs) text rest ended, one_less (λ c. c ∈ "xX") cs (e.0))
      | inr e ↦
          let (text, ended, means) = referred_from _ _ c rest (e.1) in
          run_less _ cs text rest ended
    ]

referred_less : (cs : List ℕ) (d : ℕ) (rest : List ℕ) → reference cs ≡ Some (Some d, rest) →
    len_utf8 d + byte_count rest < byte_count cs + 2
referred_less cs d rest h =
    elim (chosen (λ (o : Option (Option ℕ × List ℕ)). o ≡ Some (Some d, rest)) (begins (λ c. c ∈ "#") cs) _ _ h) [
      | inl e ↦ omega (
        arith,
        numeric_less (drop 1 cs) (Some d) rest (e.1),
        one_less (λ c. c ∈ "#") cs (e.0),
        (len_utf8_bounds d).1,
      )
      | inr e ↦
          let (text, ended, means) = referred_from named_character (ended_run is_ascii_alphanumeric cs) (Some d) rest (e.1) in
          omega (arith, run_less is_ascii_alphanumeric cs text rest ended, named_small text d means)
    ]

kind_size : (e : Element) (t : Tag) → token_size (tag_token e t) ≡ 1
kind_size e t = by_end (t.is_end)
  where
    by_end : (b : Bool) → token_size (cond b (End e) (Start e (span_numbers e (t.attributes)))) ≡ 1
    by_end true = refl
    by_end false = refl

-- a piece has no more bytes than the text in which it stands
pub piece_le : (cs : List ℕ) (piece : Lexeme) (rest : List ℕ) → LexemeStands cs piece rest →
    (piece_size piece + byte_count rest ≤ byte_count cs)
    × (byte_count rest < byte_count cs)
piece_le cs _ rest (comment k) =
    let h = past_first_le (codes "-->") (k.inside) rest (k.closed) in
    let g : byte_count rest < byte_count cs =
    omega (
      arith,
      h,
      ap byte_count (k.opened),
      more_bytes 60 (33 ∷ 45 ∷ 45 ∷ k.inside),
      more_bytes 33 (45 ∷ 45 ∷ k.inside),
      more_bytes 45
          (45 ∷ k.inside),
      more_bytes 45 (k.inside),
    ) in
    (omega (arith, g), g)
piece_le cs _ rest (doctype k) =
    let h = past_first_le (codes ">") (k.inside) rest (k.closed) in
    let g : byte_count rest < byte_count cs =
    omega (
      arith,
      h,
      ap byte_count (k.opened),
      more_bytes 60 (33 ∷ (k.word ++ k.inside)),
      more_bytes 33 (k.word ++ k.inside),
      byte_count-append
          (k.word) (k.inside),
    ) in
    (omega (arith, g), g)
piece_le cs _ rest (markup e t k known kind) =
    let g = tag_less cs t rest k in
    (omega (arith, g, ap token_size kind, kind_size e t), g)
piece_le _ _ rest (by_reference {c = c} {d = d} {cs = cs} a h) =
    let g = referred_less cs d rest h in (
      omega (arith, g, byte_count-cons c cs, (len_utf8_bounds c).0),
      omega (arith, g, byte_count-cons c cs, (len_utf8_bounds c).0, (len_utf8_bounds d).0),
    )
piece_le _ _ rest (plain {c = c} k) = (omega (arith, byte_count-cons c rest), more_bytes c rest)

-- one piece more adds its size
character_size : (c first past : ℕ) (later : List Token) → size_of
    (character_before c first past later) ≡ len_utf8 c + size_of later
character_size c first past [] = omega (arith, byte_count-cons c [])
character_size c first past (t ∷ later) = by_kind (t.kind) refl
  where
    by_kind : (k : TokenKind) → t.kind ≡ k → size_of (join_before c first past k t later) ≡ len_utf8 c + size_of (t ∷ later)
    by_kind (Text cs) e = omega (arith, byte_count-cons c cs, ap token_size e)
    by_kind (Start el spans) e = omega (arith, byte_count-cons c [])
    by_kind (End el) e = omega (arith, byte_count-cons c [])

before_size : (piece : Lexeme) (first past : ℕ) (later : List Token) →
    size_of (piece_before piece first past later) ≡ piece_size piece + size_of later
before_size hidden first past later = omega arith
before_size (tag kind) first past later = refl
before_size (character c) first past later = character_size c first past later

-- The tokens have no more bytes than the pieces that make them.
pub tokens_le : (size : ℕ) (cs rest : List ℕ) (parts : List Part) → Leads size cs parts rest →
    size_of (tokens_of parts) + byte_count rest ≤ byte_count cs
tokens_le size cs rest _ here = omega arith
tokens_le size cs rest _ (next {mid = mid} {parts = parts} piece k later) =
    omega (
      arith,
      (piece_le cs piece mid k).0,
      tokens_le size mid rest parts later,
      before_size piece (place_of_rest size cs) (place_of_rest size mid) (tokens_of parts),
    )
