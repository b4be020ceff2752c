-- What is read of a text is what its grammar says, and the grammar says one thing only.
use Rattle.std.proofs.Common.{◌≡◌, ℕ, ◌≤◌, Bool, true, false, List, [], ◌∷◌, length, refl, sym, ap, ◌∙◌, subst, inl, inr, eqb}
use Rattle.std.proofs.Common.{cond, arith, Result}
use Rattle.std.proofs.Common.{Ok, Err, IfOk, IfErr}
use Rattle.std.specs.Str.{chars, IsUtf8}
use Rattle.std.specs.Str.Lossy.{utf8_valid_len}
use Rattle.tl_base.specs.Text.{byte_count}
use Rattle.tl_base.proofs.Texts.{byte_count-chars}
use Rattle.tl_token.specs.Grammar.{Lexeme, LexemeStands, FaultStands}
use Rattle.tl_token.specs.Grammar as grammar
use Rattle.tl_token.specs.Spelling.{place_of_rest, tokens_of, without_mark, characters, SpellsTokens, FirstFault, SpellsNoTokens}
use Rattle.tl_token.specs.Spelling.{out_of_memory, Tokens, size_of}
use Rattle.tl_base.specs.Returned.{ReturnsOk, ReturnsError, IsMemoryOr}
use Rattle.tl_token.specs.inner.Reading.{Found, stands, faulty, standing}
use Rattle.tl_token.specs.inner.Reader.{Eats}
use Rattle.tl_token.specs.inner.Found.{fault_of, error_of}
use Rattle.tl_token.specs.declared.token.TokenError.{TokenError}
use Rattle.tl_token.specs.declared.token.TokenError.TheVariants.{Memory, NotUtf8, UnendedTag, UnendedComment, BadTag}
use Rattle.tl_token.specs.declared.token.TokenError.TheVariants.{UnknownElement, BadReference}
use Rattle.tl_token.specs.declared.token.TokenError.TheVariants.{BadCharacter}
use Rattle.tl_token.specs.declared.piece.Fault.{Fault}
use Rattle.tl_token.specs.declared.piece.Fault.TheVariants as fault
use Rattle.tl_token.proofs.Places.{Holds, place_sound}
use Rattle.tl_token.proofs.Endings.{one_way, whole_or_broken, one_break}
use Rattle.tl_token.proofs.Sizes.{tokens_le, more_bytes}

-- a byte order mark is passed
pub mark_passed : (old new : List ℕ) (b : Bool) → Eats 0xFEFF b old new → without_mark old ≡ new
mark_passed old new true h = ap without_mark h
mark_passed [] new false h = sym (h.0)
mark_passed (c ∷ cs) new false h = ap (λ b. cond b cs (c ∷ cs)) (h.1) ∙ sym (h.0)

pub mark_le : (cs : List ℕ) → byte_count (without_mark cs) ≤ byte_count cs
mark_le [] = omega arith
mark_le (c ∷ cs) = by_test (eqb c 0xFEFF)
  where
    by_test : (b : Bool) → byte_count (cond b cs (c ∷ cs)) ≤ byte_count (c ∷ cs)
    by_test true = let h = more_bytes c cs in omega arith
    by_test false = omega arith

-- what stands where the reader finds it
pub stands_there : (c : ℕ) (old cs rest : List ℕ) (piece : Lexeme) → old ≡ c ∷ cs → stands piece rest ≡ standing c cs →
    LexemeStands old piece rest
stands_there c old cs rest piece e h =
    let P : Found → Type 0 = λ f. Holds (c ∷ cs) f in
    let Q : List ℕ → Type 0 = λ x. LexemeStands x piece rest in
    subst Q (sym e) (subst P (sym h) (place_sound c cs))

pub fault_there : (c : ℕ) (old cs : List ℕ) (fault : grammar.Fault) → old ≡ c ∷ cs → faulty fault ≡ standing c cs →
    FaultStands fault old
fault_there c old cs fault e h =
    let P : Found → Type 0 = λ f. Holds (c ∷ cs) f in
    let Q : List ℕ → Type 0 = λ x. FaultStands fault x in
    subst Q (sym e) (subst P (sym h) (place_sound c cs))

-- the error of the first fault
pub refused : (bytes : List ℕ) (f : Fault) (place : ℕ) → FirstFault bytes (fault_of f) place →
    SpellsNoTokens bytes (error_of f place)
refused bytes fault.UnendedTag place h = h
refused bytes fault.UnendedComment place h = h
refused bytes fault.BadTag place h = h
refused bytes fault.UnknownElement place h = h
refused bytes fault.BadReference place h = h
refused bytes fault.BadCharacter place h = h

-- The grammar says one thing of the bytes.
spelled_once : (bytes : List ℕ) (ts us : Tokens) → SpellsTokens bytes ts → SpellsTokens bytes us → ts ≡ us
spelled_once bytes ts us h k = h.3 ∙ ap tokens_of (one_way (length bytes) (characters bytes) (h.1) (k.1) (h.2) (k.2)) ∙ sym (k.3)

not_both : (bytes : List ℕ) (ts : Tokens) (f : grammar.Fault) (place : ℕ) → SpellsTokens bytes ts → FirstFault bytes f place → ⊥
not_both bytes ts f place h k = whole_or_broken (length bytes) (characters bytes) (k.2) (h.1) (k.1) f (h.2) (k.3) (k.4)

spelled_or_refused : (bytes : List ℕ) (ts : Tokens) (error : TokenError) → SpellsTokens bytes ts → SpellsNoTokens bytes error → ⊥
spelled_or_refused bytes ts (Memory e) h k = k
spelled_or_refused bytes ts (NotUtf8 n) h k = k.0 (h.0)
spelled_or_refused bytes ts (UnendedTag p) h k = not_both bytes ts grammar.unended_tag p h k
spelled_or_refused bytes ts (UnendedComment p) h k = not_both bytes ts grammar.unended_comment p h k
spelled_or_refused bytes ts (BadTag p) h k = not_both bytes ts grammar.bad_tag p h k
spelled_or_refused bytes ts (UnknownElement p) h k = not_both bytes ts grammar.unknown_element p h k
spelled_or_refused bytes ts (BadReference p) h k = not_both bytes ts grammar.bad_reference p h k
spelled_or_refused bytes ts (BadCharacter p) h k = not_both bytes ts grammar.bad_character p h k

-- the error of a fault of the grammar
error_at : grammar.Fault → ℕ → TokenError
error_at grammar.unended_tag place = UnendedTag place
error_at grammar.unended_comment place = UnendedComment place
error_at grammar.bad_tag place = BadTag place
error_at grammar.unknown_element place = UnknownElement place
error_at grammar.bad_reference place = BadReference place
error_at grammar.bad_character place = BadCharacter place

-- what an error says of the bytes
data Said (bytes : List ℕ) (error : TokenError) : Type 0 where
  no_text : ¬ (IsUtf8 bytes) → error ≡ NotUtf8 (utf8_valid_len bytes) → Said bytes error
  at_fault : (f : grammar.Fault) (place : ℕ) → error ≡ error_at f place → FirstFault bytes f place → Said bytes error

said : (bytes : List ℕ) (error : TokenError) → SpellsNoTokens bytes error → Said bytes error
unfolding error_at
said bytes (Memory e) k = absurd k
said bytes (NotUtf8 n) k = no_text (k.0) (ap NotUtf8 (k.1))
said bytes (UnendedTag p) k = at_fault grammar.unended_tag p refl k
said bytes (UnendedComment p) k = at_fault grammar.unended_comment p refl k
said bytes (BadTag p) k = at_fault grammar.bad_tag p refl k
said bytes (UnknownElement p) k = at_fault grammar.unknown_element p refl k
said bytes (BadReference p) k = at_fault grammar.bad_reference p refl k
said bytes (BadCharacter p) k = at_fault grammar.bad_character p refl k

said_once : (bytes : List ℕ) (d e : TokenError) → Said bytes d → Said bytes e → d ≡ e
said_once bytes d e (no_text u h) (no_text v k) = h ∙ sym k
said_once bytes d e (no_text u h) (at_fault g q k l) = absurd (u (l.0))
said_once bytes d e (at_fault f p h l) (no_text v k) = absurd (v (l.0))
said_once bytes d e (at_fault f p h l) (at_fault g q k m) =
    let (faults, rests) = one_break (length bytes) (characters bytes) (l.2) (m.2) (l.1) (m.1) f g (l.3) (l.4) (m.3) (m.4) in
    let places : p ≡ q = l.5 ∙ ap (place_of_rest (length bytes)) rests ∙ sym (m.5) in
    h ∙ ap (λ x. error_at x p) faults ∙ ap (error_at g) places ∙ sym k

-- So each result excludes the others.
module _ (bytes : List ℕ) where
  pub only_tokens : (result : Result Tokens TokenError) → IfOk result (SpellsTokens bytes) →
      IfErr result (IsMemoryOr out_of_memory (SpellsNoTokens bytes))
      → (ts : Tokens) → SpellsTokens bytes ts → ReturnsOk out_of_memory ts result
  only_tokens (Ok us) h _ ts k = spelled_once bytes us ts h k
  only_tokens (Err e) _ (inl h) ts k = h
  only_tokens (Err e) _ (inr h) ts k = absurd (spelled_or_refused bytes ts e k h)

  pub only_error : (result : Result Tokens TokenError) → IfOk result (SpellsTokens bytes) →
      IfErr result (IsMemoryOr out_of_memory (SpellsNoTokens bytes))
      → (e : TokenError) → SpellsNoTokens bytes e → ReturnsError out_of_memory e result
  only_error (Ok us) h _ e k = spelled_or_refused bytes us e h k
  only_error (Err d) _ (inl h) e k = inl h
  only_error (Err d) _ (inr h) e k = inr (said_once bytes d e (said bytes d h) (said bytes e k))

  -- and the tokens are no larger than the file
  tokens_small : (ts : Tokens) → SpellsTokens bytes ts → size_of ts ≤ length bytes
  tokens_small ts h =
      omega (
        arith,
        tokens_le (length bytes) (characters bytes) [] (h.1) (h.2),
        ap size_of (h.3),
        mark_le (chars bytes),
        byte_count-chars bytes (h.0),
      )

  pub small : (result : Result Tokens TokenError) → IfOk result (SpellsTokens bytes) →
      IfOk result (λ ts. size_of ts ≤ length bytes)
  small (Ok ts) h = tokens_small ts h
  small (Err e) h = tt
