-- How the bytes of a file spell tokens, where the first fault stands, and what `tokens` returns of
-- it. Places count bytes of the file from 0.
use Rattle.std.specs.Prelude.{◌≡◌, ℕ, ◌+◌, ◌-◌, List, [], ◌∷◌, length, ◌==◌, if◌then◌else◌, IsUtf8, chars, alloc_error}
use Rattle.std.specs.Str.Lossy.{utf8_valid_len}
use Rattle.tl_base.specs.Text.{byte_count}
use Rattle.tl_token.specs.Grammar.{Lexeme, hidden, tag, character, LexemeStands, Fault, unended_tag, unended_comment, bad_tag}
use Rattle.tl_token.specs.Grammar.{unknown_element}
use Rattle.tl_token.specs.Grammar.{bad_reference, bad_character, FaultStands}
use Rattle.tl_token.specs.declared.token.TokenKind.{TokenKind}
use Rattle.tl_token.specs.declared.token.TokenKind.TheVariants.{Start, End, Text}
use Rattle.tl_token.specs.declared.token.Token.{Token}
use Rattle.tl_token.specs.declared.token.TokenError.{TokenError}
use Rattle.tl_token.specs.declared.token.TokenError.TheVariants.{Memory, NotUtf8, UnendedTag, UnendedComment, BadTag}
use Rattle.tl_token.specs.declared.token.TokenError.TheVariants.{UnknownElement, BadReference}
use Rattle.tl_token.specs.declared.token.TokenError.TheVariants.{BadCharacter}

-- a piece, and the bytes of the file from its first to past its last
pub record Part : Type 0 where
  pub piece : Lexeme
  pub first : ℕ
  pub past : ℕ

-- a piece between those bytes
abbrev pub part : Lexeme → ℕ → ℕ → Part
part piece first past = record { piece = piece; first = first; past = past }

-- pieces in their order
abbrev pub TokenPieces : Type 0
TokenPieces = List Part

-- the place at which what is left of a file of that size begins
abbrev pub place_of_rest : ℕ → List ℕ → ℕ
place_of_rest size cs = size - byte_count cs

-- one piece after another stands there, up to the rest
pub data Leads (size : ℕ) : List ℕ → List Part → List ℕ → Type 0 where
  here : {cs : List ℕ} → Leads size cs [] cs
  next : {cs mid rest : List ℕ} {parts : List Part} → (piece : Lexeme) → LexemeStands cs piece mid
      → Leads size mid parts rest
      → Leads size cs (part piece (place_of_rest size cs) (place_of_rest size mid) ∷ parts) rest

-- a token between those bytes
abbrev pub token : TokenKind → ℕ → ℕ → Token
token kind first past = record { kind = kind; first = first; past = past }

-- the tokens from a character of text on, before a token: it joins a text that follows it, and is a
-- text of its own before a tag
abbrev pub join_before : ℕ → ℕ → ℕ → TokenKind → Token → List Token → List Token
join_before c first past (Text cs) t later = token (Text (c ∷ cs)) first (t.past) ∷ later
join_before c first past (Start e spans) t later = token (Text (c ∷ [])) first past ∷ t ∷ later
join_before c first past (End e) t later = token (Text (c ∷ [])) first past ∷ t ∷ later

-- the tokens from a character of text on, before later tokens
abbrev pub character_before : ℕ → ℕ → ℕ → List Token → List Token
character_before c first past [] = token (Text (c ∷ [])) first past ∷ []
character_before c first past (t ∷ later) = join_before c first past (t.kind) t later

-- the tokens from a piece on, before later tokens
abbrev pub piece_before : Lexeme → ℕ → ℕ → List Token → List Token
piece_before hidden first past later = later
piece_before (tag kind) first past later = token kind first past ∷ later
piece_before (character c) first past later = character_before c first past later

-- The tokens of the pieces: each tag is one, and so is each longest run of characters with no tag
-- between them.
abbrev pub tokens_of : List Part → List Token
tokens_of [] = []
tokens_of (p ∷ ps) = piece_before (p.piece) (p.first) (p.past) (tokens_of ps)

-- the text without a byte order mark at its start
abbrev pub without_mark : List ℕ → List ℕ
without_mark [] = []
without_mark (c ∷ cs) = if c == 0xFEFF then cs else c ∷ cs

-- the characters of a file
abbrev pub characters : List ℕ → List ℕ
characters bytes = without_mark (chars bytes)

-- The bytes spell the tokens: they are UTF-8, and pieces lead to their end, whose tokens these are.
abbrev pub SpellsTokens : List ℕ → List Token → Type 0
SpellsTokens bytes tokens =
    IsUtf8 bytes × (parts : List Part) × Leads (length bytes) (characters bytes) parts []
    × (tokens ≡ tokens_of parts)

-- the fault stands at that byte, and what stands before it is whole pieces
abbrev pub FirstFault : List ℕ → Fault → ℕ → Type 0
FirstFault bytes fault place =
    IsUtf8 bytes × (parts : List Part) × (rest : List ℕ)
    × Leads (length bytes) (characters bytes) parts rest
    × FaultStands fault rest × (place ≡ place_of_rest (length bytes) rest)

-- The error that refuses the bytes; out of memory is none of them.
abbrev pub SpellsNoTokens : List ℕ → TokenError → Type 0
SpellsNoTokens bytes (Memory error) = ⊥
SpellsNoTokens bytes (NotUtf8 n) = ¬ (IsUtf8 bytes) × (n ≡ utf8_valid_len bytes)
SpellsNoTokens bytes (UnendedTag place) = FirstFault bytes unended_tag place
SpellsNoTokens bytes (UnendedComment place) = FirstFault bytes unended_comment place
SpellsNoTokens bytes (BadTag place) = FirstFault bytes bad_tag place
SpellsNoTokens bytes (UnknownElement place) = FirstFault bytes unknown_element place
SpellsNoTokens bytes (BadReference place) = FirstFault bytes bad_reference place
SpellsNoTokens bytes (BadCharacter place) = FirstFault bytes bad_character place

-- a list of tokens
abbrev pub Tokens : Type 0
Tokens = List Token

-- the error of a call that ran out of memory
abbrev pub out_of_memory : TokenError
out_of_memory = Memory alloc_error

-- the bytes of a text, and 1 for a tag
abbrev pub token_size : TokenKind → ℕ
token_size (Text cs) = byte_count cs
token_size (Start e spans) = 1
token_size (End e) = 1

-- the bytes of the texts and the number of the tags
abbrev pub size_of : List Token → ℕ
size_of [] = 0
size_of (t ∷ later) = token_size (t.kind) + size_of later
