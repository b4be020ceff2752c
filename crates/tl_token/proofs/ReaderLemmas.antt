-- What a step over one character of a text leaves.
use Rattle.std.proofs.Common.{◌≡◌, ℕ, Bool, true, false, ◌&&◌, List, [], ◌∷◌, ◌++◌, length, Option, Some, None, refl, sym, ap}
use Rattle.std.proofs.Common.{◌∙◌, arith}
use Rattle.std.proofs.Common.{append_assoc, MatchOption, encode_utf8, take, drop, ◌-◌, length-append, subst}
use Rattle.std.specs.Str.{chars, IsUtf8, IsCharBoundary}
use Rattle.std.proofs.lemmas.Str.{IsCharBoundary-at_seam, chars-encodes, encodes-append, scalars-chars, chars-nil}
use Rattle.std.proofs.lemmas.Str.{chars_past_char, encodes-chars}
use Rattle.std.proofs.lemmas.List.{append-nil, take_at}
use Rattle.std.specs.declared.str.Chars.{Chars}
use lib.Utf8.{encodes, scalars, scalar}
use Rattle.std.proofs.lemmas.Bool.{false≢true}
use Rattle.tl_token.specs.Characters.{begins, run, past}

-- the next character, and the characters after it
found_in : (before after : List ℕ) → IsUtf8 before → (o : Option ℕ)
    → MatchOption o ((length before ≡ 0) × (after ≡ before)) (λ c. before ≡ encode_utf8 c ++ after)
    → MatchOption o ((chars before ≡ []) × (chars after ≡ [])) (λ c. chars before ≡ c ∷ chars after)
found_in [] after u None h = (chars-nil, ap chars h.1 ∙ chars-nil)
found_in (b ∷ before) after u None h = absurd (omega (arith, h.0))
found_in before after u (Some c) h = chars_past_char before after c u h

pub next_found : (before after : List ℕ) (s t : Chars) → IsUtf8 before → s.rest.now ≡ before → after ≡ t.rest.now → (o : Option ℕ)
    → MatchOption o ((length (s.rest.now) ≡ 0) × (t ≡ s)) (λ c. s.rest.now ≡ encode_utf8 c ++ t.rest.now)
    → MatchOption o ((chars before ≡ []) × (chars after ≡ [])) (λ c. chars before ≡ c ∷ chars after)
next_found before after s t u e f None h =
    found_in before after u None (ap length (sym e) ∙ h.0, f ∙ ap (λ (x : Chars). x.rest.now) h.1 ∙ e)
next_found before after s t u e f (Some c) h = found_in before after u (Some c) (sym e ∙ h ∙ ap (λ x. encode_utf8 c ++ x) (sym f))

-- a prefix of characters that text may have
pub scalars_prefix : (prefix cs : List ℕ) → scalars (prefix ++ cs) ≡ true → scalars prefix ≡ true
scalars_prefix [] cs h = refl
scalars_prefix (c ∷ prefix) cs h = both (scalar c) (scalars prefix) (λ k. scalars_prefix prefix cs k) h
  where
    both : (a b : Bool) → (scalars (prefix ++ cs) ≡ true → b ≡ true) → (a && scalars (prefix ++ cs)) ≡ true → (a && b) ≡ true
    both true b f k = f k
    both false b f k = k

-- a text that begins with a character of the class has it and others
pub next_passed : (test : ℕ → Bool) (cs after : List ℕ) (o : Option ℕ) → begins test cs ≡ true
    → MatchOption o ((cs ≡ []) × (after ≡ [])) (λ c. cs ≡ c ∷ after) → (c : ℕ) × (cs ≡ c ∷ after) × (test c ≡ true)
next_passed test cs after None b h = absurd (false≢true (ap (begins test) (sym h.0) ∙ b))
next_passed test cs after (Some c) b h = (c, h, ap (begins test) (sym h) ∙ b)

-- the run goes on over a character of its class
pub run_more : (test : ℕ → Bool) (c : ℕ) (cs : List ℕ) → test c ≡ true → run test (c ∷ cs) ≡ c ∷ run test cs
run_more test c cs h = rw h refl

pub past_more : (test : ℕ → Bool) (c : ℕ) (cs : List ℕ) → test c ≡ true → past test (c ∷ cs) ≡ past test cs
past_more test c cs h = rw h refl

-- and ends before one that is not
pub run_none : (test : ℕ → Bool) (cs : List ℕ) → begins test cs ≡ false → run test cs ≡ []
run_none test [] h = refl
run_none test (c ∷ cs) h = rw h refl

pub past_none : (test : ℕ → Bool) (cs : List ℕ) → begins test cs ≡ false → past test cs ≡ cs
past_none test [] h = refl
past_none test (c ∷ cs) h = rw h refl

-- What a loop over a run keeps: what was passed and what is left are the text, and the run is what was passed and the
-- run of what is left.
pub record Passed (test : ℕ → Bool) (whole prefix cs : List ℕ) : Type 0 where
  pub whole_is : whole ≡ prefix ++ cs
  pub run_is : run test whole ≡ prefix ++ run test cs
  pub past_is : past test whole ≡ past test cs

pub Passed-none : (test : ℕ → Bool) (whole : List ℕ) → Passed test whole [] whole
Passed-none test whole = record { whole_is = refl; run_is = refl; past_is = refl }

pub Passed-more : (test : ℕ → Bool) (whole prefix cs ds : List ℕ) (c : ℕ) → Passed test whole prefix cs → cs ≡ c ∷ ds →
    test c ≡ true
    → Passed test whole (prefix ++ c ∷ []) ds
Passed-more test whole prefix cs ds c p e h = record {
  whole_is = p.whole_is ∙ ap (λ x. prefix ++ x) e ∙ sym (append_assoc prefix (c ∷ []) ds);
  run_is = p.run_is ∙ ap (λ x. prefix ++ run test x) e ∙ ap (λ x. prefix ++ x) (run_more test c ds h) ∙ sym
      (append_assoc prefix (c ∷ []) (run test ds));
  past_is = p.past_is ∙ ap (past test) e ∙ past_more test c ds h;
}

-- where the run ends, it is what was passed
pub Passed-run : (test : ℕ → Bool) (whole prefix cs : List ℕ) → Passed test whole prefix cs → begins test cs ≡ false →
    run test whole ≡ prefix
Passed-run test whole prefix cs p h = p.run_is ∙ ap (λ x. prefix ++ x) (run_none test cs h) ∙ append-nil prefix

pub Passed-past : (test : ℕ → Bool) (whole prefix cs : List ℕ) → Passed test whole prefix cs → begins test cs ≡ false →
    past test whole ≡ cs
Passed-past test whole prefix cs p h = p.past_is ∙ past_none test cs h

-- the bytes of a text are those of what was passed and of what is left
pub bytes_passed : (text rest prefix : List ℕ) → IsUtf8 text → IsUtf8 rest → chars text ≡ prefix ++ chars rest →
    text ≡ encodes prefix ++ rest
bytes_passed text rest prefix u v e =
    sym (encodes-chars text u) ∙ ap encodes e ∙ encodes-append prefix (chars rest) ∙ ap (λ x. encodes prefix ++ x)
    (encodes-chars rest v)

pub length_passed : (text rest prefix : List ℕ) → text ≡ encodes prefix ++ rest →
    length text - length rest ≡ length (encodes prefix)
length_passed text rest prefix e = omega (arith, ap length e, length-append (encodes prefix) rest)

pub chars_passed : (text rest prefix : List ℕ) → IsUtf8 text → text ≡ encodes prefix ++ rest → chars text ≡ prefix ++ chars rest
    → chars (take (length text - length rest) text) ≡ prefix
chars_passed text rest prefix u e f =
    let taken : take (length text - length rest) text ≡ encodes prefix =
    ap (λ n. take n text) (length_passed text rest prefix e) ∙ ap (take (length (encodes prefix))) e ∙ take_at (encodes prefix)
    rest _ refl in
    ap chars taken ∙ chars-encodes prefix (scalars_prefix prefix (chars rest) (ap scalars (sym f) ∙ scalars-chars text u))

-- what is left begins at a character of the text
pub boundary_passed : (text rest prefix : List ℕ) → IsUtf8 rest → text ≡ encodes prefix ++ rest →
    IsCharBoundary text (length text - length rest)
boundary_passed text rest prefix v e =
    let P : ℕ → Type 0 = λ n. IsCharBoundary text n in
    subst P (sym (length_passed text rest prefix e)) (IsCharBoundary-at_seam text (encodes prefix) rest e v)

-- what is left after the next character
pub passed_one : (cs after : List ℕ) (o : Option ℕ) → MatchOption o ((cs ≡ []) × (after ≡ [])) (λ c. cs ≡ c ∷ after) →
    after ≡ drop 1 cs
passed_one [] after None h = h.1
passed_one (d ∷ cs) after None h = let e = h.0 in cc
passed_one [] after (Some c) h = cc
passed_one (d ∷ cs) after (Some c) h = cc
