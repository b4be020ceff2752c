-- No public clause cites this file: it says what the reader finds at a place, and so decides which
-- piece or which fault of the grammar stands there.
use Rattle.std.specs.Prelude.{ℕ, ◌==◌, List, [], ◌∷◌, Option, Some, None, if◌then◌else◌, codes}
use Rattle.std.specs.Char.{to_ascii_lowercase}
use Rattle.tl_token.specs.Characters.{◌∈◌, is_control, opens_markup}
use Rattle.tl_token.specs.Elements.{Tag, element_of, tag_token}
use Rattle.tl_token.specs.Grammar.{past_first, reference, Lexeme, hidden, tag, character, Fault, unended_tag, unended_comment}
use Rattle.tl_token.specs.Grammar.{bad_tag}
use Rattle.tl_token.specs.Grammar.{unknown_element, bad_reference, bad_character}
use Rattle.tl_token.specs.inner.States.{tag_open, TagOutcome, reads, unended, wrong, read}
use Rattle.tl_token.specs.declared.token.Element.{Element}

-- a piece and what follows it, or a fault
pub data Found : Type 0 where
  stands : Lexeme → List ℕ → Found
  faulty : Fault → Found

-- a comment or a doctype, where what follows its end is known, and the fault where it has no end
abbrev pub closed_or : Fault → Option (List ℕ) → Found
closed_or fault None = faulty fault
closed_or fault (Some rest) = stands hidden rest

-- what is found, from after `<!--` on
abbrev pub in_comment : List ℕ → Found
in_comment cs = closed_or unended_comment (past_first (codes "-->") cs)

-- what is found, from after `<!doctype` on
abbrev pub in_doctype : List ℕ → Found
in_doctype cs = closed_or unended_tag (past_first (codes ">") cs)

-- what is found, from after `<!-` on
abbrev pub comment_open : List ℕ → Found
comment_open [] = faulty unended_tag
comment_open (c ∷ cs) = if c ∈ "-" then in_comment cs else faulty bad_tag

-- what is found, from after `<!` and a prefix of `doctype` on, where the rest of that word is to
-- come
abbrev pub doctype_word : List ℕ → List ℕ → Found
doctype_word [] cs = in_doctype cs
doctype_word (d ∷ ds) [] = faulty unended_tag
doctype_word (d ∷ ds) (c ∷ cs) =
    if to_ascii_lowercase c == d then doctype_word ds cs else faulty bad_tag

-- what is found, from after `<!` on
abbrev pub declaration : List ℕ → Found
declaration [] = faulty unended_tag
declaration (c ∷ cs) = if c ∈ "-" then comment_open cs else doctype_word (codes "doctype") (c ∷ cs)

-- a whole tag of that element, or of none
abbrev pub known_or_not : Tag → List ℕ → Option Element → Found
known_or_not t rest None = faulty unknown_element
known_or_not t rest (Some e) = stands (tag (tag_token e t)) rest

-- what is found where a tag is read
abbrev pub tag_found : TagOutcome → Found
tag_found (reads t rest) = known_or_not t rest (element_of (t.name))
tag_found unended = faulty unended_tag
tag_found wrong = faulty bad_tag

-- what is found, from after `<` on
abbrev pub angle : List ℕ → Found
angle [] = faulty unended_tag
angle (c ∷ cs) =
    if c ∈ "!" then declaration cs
    else if opens_markup c then tag_found (read tag_open (c ∷ cs))
    else stands (character 0x3C) (c ∷ cs)

-- what is found at a `&`, where cs follows it and this is read of cs as a reference
abbrev pub referred_or : List ℕ → Option (Option ℕ × List ℕ) → Found
referred_or cs None = stands (character 0x26) cs
referred_or cs (Some found) = character_or (found.0) (found.1)
  where
    character_or : Option ℕ → List ℕ → Found
    character_or None rest = faulty bad_reference
    character_or (Some c) rest = stands (character c) rest

-- what is found at the character c, where cs follows it
abbrev pub standing : ℕ → List ℕ → Found
standing c cs =
    if c ∈ "<" then angle cs
    else if c ∈ "&" then referred_or cs (reference cs)
    else if is_control c then faulty bad_character
    else stands (character c) cs
