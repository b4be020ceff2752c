-- No public clause cites this file: it says which tokens pieces make, where some pieces are still
-- to come.
use Rattle.std.specs.Prelude.{◌≡◌, ℕ, List, [], ◌∷◌, ◌++◌, string_bytes, chars}
use Rattle.tl_token.specs.Grammar.{Lexeme}
use Rattle.tl_token.specs.Spelling.{Part, part, token, tokens_of}
use Rattle.tl_token.specs.declared.token.TokenKind.{TokenKind}
use Rattle.tl_token.specs.declared.token.TokenKind.TheVariants.{Start, End, Text}
use Rattle.tl_token.specs.declared.token.Token.{Token}
use Rattle.tl_token.specs.declared.output.Output.{Output}

-- the characters of the text that is open
abbrev pub open_text : Output → List ℕ
open_text output = chars (string_bytes output.text)

-- the tokens from a text on, before a token: it joins a text that follows it
abbrev pub text_and : List ℕ → ℕ → ℕ → TokenKind → Token → List Token → List Token
text_and cs first past (Text ds) t later = token (Text (cs ++ ds)) first (t.past) ∷ later
text_and cs first past (Start e spans) t later = token (Text cs) first past ∷ t ∷ later
text_and cs first past (End e) t later = token (Text cs) first past ∷ t ∷ later

-- the tokens from a text on, before later tokens
abbrev pub text_before : List ℕ → ℕ → ℕ → List Token → List Token
text_before cs first past [] = token (Text cs) first past ∷ []
text_before cs first past (t ∷ later) = text_and cs first past (t.kind) t later

-- the tokens from a text on, before later tokens; a text without a character is none
abbrev pub with_text : List ℕ → ℕ → ℕ → List Token → List Token
with_text [] first past later = later
with_text (c ∷ cs) first past later = text_before (c ∷ cs) first past later

-- all the tokens, where the pieces that are still to come are these
abbrev pub resumed : Output → List Part → List Token
resumed output parts =
    output.tokens ++ with_text (open_text output) output.first output.past (tokens_of parts)

-- all the tokens, where no piece is to come
abbrev pub closed : Output → List Token
closed output = output.tokens ++ with_text (open_text output) output.first output.past []

-- The piece between those bytes was taken: whatever follows, the tokens are those that they were
-- where the piece was to come.
abbrev pub Takes : Output → Output → Lexeme → ℕ → ℕ → Type 0
Takes old new piece first past =
    (parts : List Part) → resumed new parts ≡ resumed old (part piece first past ∷ parts)
