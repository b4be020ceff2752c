-- How a text that is open goes on.
use Rattle.std.proofs.Common.{◌≡◌, ◌≢◌, ◌⊎◌, inl, inr, ℕ, List, [], ◌∷◌, ◌++◌, refl, sym, ap, ◌∙◌, append_assoc}
use Rattle.std.proofs.lemmas.List.{append-nil}
use Rattle.std.proofs.Common.{Bool, true, false, ◌&&◌}
use Rattle.std.specs.Str.{chars, IsUtf8}
use Rattle.std.proofs.lemmas.Str.{chars-append, chars-encodes}
use lib.Utf8.{scalar, encode}
use Rattle.tl_token.specs.Spelling.{token, character_before, join_before}
use Rattle.tl_token.specs.inner.Output.{text_and, text_before, with_text}
use Rattle.tl_token.specs.declared.token.TokenKind.{TokenKind}
use Rattle.tl_token.specs.declared.token.TokenKind.TheVariants.{Start, End, Text}
use Rattle.tl_token.specs.declared.token.Token.{Token}

-- the first character of a text
first_character : (c first past : ℕ) (later : List Token) → character_before c first past later ≡ text_before (c ∷ [])
    first past later
first_character c first past [] = refl
first_character c first past (t ∷ later) = by_kind (t.kind)
  where
    by_kind : (k : TokenKind) → join_before c first past k t later ≡ text_and (c ∷ []) first past k t later
    by_kind (Text ds) = refl
    by_kind (Start e spans) = refl
    by_kind (End e) = refl

-- one more character of a text
next_character : (cs : List ℕ) (c first past f p : ℕ) (later : List Token)
    → text_before cs first past (character_before c f p later) ≡ text_before (cs ++ c ∷ []) first p later
next_character cs c first past f p [] = refl
next_character cs c first past f p (t ∷ later) = by_kind (t.kind)
  where
    by_kind : (k : TokenKind) → text_before cs first past (join_before c f p k t later) ≡ text_and (cs ++ c ∷ [])
        first p k t later
    by_kind (Text ds) = ap (λ x. token (Text x) first (t.past) ∷ later) (sym (append_assoc cs (c ∷ []) ds))
    by_kind (Start e spans) = refl
    by_kind (End e) = refl

pub some_text : (cs : List ℕ) (first past : ℕ) (later : List Token) → cs ≢ [] →
    with_text cs first past later ≡ text_before cs first past later
some_text [] first past later h = absurd (h refl)
some_text (c ∷ cs) first past later h = refl

push≢nil : (xs : List ℕ) (x : ℕ) → xs ++ x ∷ [] ≢ []
push≢nil [] x h = cc
push≢nil (y ∷ xs) x h = cc

-- where no text is open, a character opens one
pub text_opens : (c first past f p : ℕ) (later : List Token) →
    with_text ([] ++ c ∷ []) f p later ≡ with_text [] first past (character_before c f p later)
text_opens c first past f p later = sym (first_character c f p later)

-- where one is open, the character belongs to it
pub text_goes_on : (cs : List ℕ) (c first past f p : ℕ) (later : List Token) → cs ≢ []
    → with_text (cs ++ c ∷ []) first p later ≡ with_text cs first past (character_before c f p later)
text_goes_on cs c first past f p later h =
    some_text (cs ++ c ∷ []) first p later (push≢nil cs c)
    ∙ sym (some_text cs first past (character_before c f p later) h ∙ next_character cs c first past f p later)

-- a tag ends the text before it
pub tag_ends : (cs : List ℕ) (first past f p : ℕ) (k : TokenKind) (later : List Token) → ((cs : List ℕ) → k ≡ Text cs → ⊥)
    → with_text cs first past (token k f p ∷ later) ≡ with_text cs first past [] ++ (token k f p ∷ later)
tag_ends [] first past f p k later h = refl
tag_ends (c ∷ cs) first past f p (Text ds) later h = absurd (h ds refl)
tag_ends (c ∷ cs) first past f p (Start e spans) later h = refl
tag_ends (c ∷ cs) first past f p (End e) later h = refl

-- the characters of a text, with one more character
pub chars_push : (bs : List ℕ) (c : ℕ) → IsUtf8 bs → scalar c ≡ true → chars (bs ++ encode c) ≡ chars bs ++ c ∷ []
chars_push bs c u s =
    chars-append bs (encode c) u ∙ ap (λ x. chars bs ++ x) (ap chars (sym (append-nil (encode c))) ∙ chars-encodes (c ∷ [])
    (both (scalar c) s))
  where
    both : (b : Bool) → b ≡ true → (b && true) ≡ true
    both true h = refl
    both false h = h

-- a character where a text is open, and where none is
pub character_taken : (tokens : List Token) (open_cs new_cs : List ℕ) (c first past f p g : ℕ) (later : List Token) →
    new_cs ≡ open_cs ++ c ∷ []
    → ((open_cs ≢ []) × (g ≡ first)) ⊎ ((open_cs ≡ []) × (g ≡ f))
    → tokens ++ with_text new_cs g p later ≡ tokens ++ with_text open_cs first past (character_before c f p later)
character_taken tokens open_cs new_cs c first past f p g later e (inl h) =
    ap (λ x. tokens ++ with_text x g p later) e ∙ ap (λ x. tokens ++ with_text (open_cs ++ c ∷ []) x p later) (h.1)
    ∙ ap (λ x. tokens ++ x) (text_goes_on open_cs c first past f p later (h.0))
character_taken tokens open_cs new_cs c first past f p g later e (inr h) =
    ap (λ x. tokens ++ with_text x g p later) e ∙ ap (λ x. tokens ++ with_text (x ++ c ∷ []) g p later) (h.0)
    ∙ ap (λ x. tokens ++ with_text ([] ++ c ∷ []) x p later) (h.1)
    ∙ ap (λ x. tokens ++ x) (text_opens c first past f p later) ∙ ap
    (λ x. tokens ++ with_text x first past (character_before c f p later)) (sym (h.0))
