-- How comments and doctypes end, by the runs that the reader passes.
use Rattle.std.proofs.Common.{◌≡◌, ℕ, ◌<◌, Bool, true, false, not, ◌&&◌, List, [], ◌∷◌, ◌++◌, Some, None, length, refl, sym, ap}
use Rattle.std.proofs.Common.{◌∙◌, inl, inr, eqb}
use Rattle.std.proofs.Common.{cond, drop, get_or, ◌+◌, add-one, drop-cons}
use Rattle.std.proofs.lemmas.Bool.{eqb-true, eq-eqb, not-true}
use Rattle.std.proofs.lemmas.Bool.Decides.{eqb_tells}
use Rattle.std.specs.Prelude.{codes}
use Rattle.std.specs.Char.{to_ascii_lowercase}
use Rattle.tl_token.specs.inner.Reading.{doctype_word, in_doctype, faulty, angle, declaration}
use Rattle.tl_token.specs.Grammar.{unended_tag, bad_tag, Each, has_prefix, past_first}
use Rattle.std.proofs.Math.Seq.{drop-length}
use Rattle.tl_token.specs.Characters.{first, begins, run, past}
use Rattle.tl_token.proofs.TagSteps.{run_split, run_each, past_ended, nothing_left}

-- characters that are no `>`, before the first `>`
before_close : (w cs : List ℕ) → Each (λ c. not (eqb c 62)) w → past_first (codes ">") (w ++ cs) ≡ past_first (codes ">") cs
before_close [] cs h = refl
before_close (c ∷ w) cs h =
    ap (λ b. cond (b && true) (Some (w ++ cs)) (past_first (codes ">") (w ++ cs)))
    (not-true (eqb c 62) (h.0)) ∙ before_close w cs (h.1)

pub close_found : (old new : List ℕ) → past (λ c. not (eqb c 62)) old ≡ 62 ∷ new → past_first (codes ">") old ≡ Some new
close_found old new e =
    let test : ℕ → Bool = λ c. not (eqb c 62) in
    ap (past_first (codes ">")) (run_split test old) ∙ before_close (run test old) (past test old) (run_each test old) ∙ ap
    (past_first (codes ">")) e

pub close_missing : (old : List ℕ) → begins (λ c. eqb c 62) (past (λ c. not (eqb c 62)) old) ≡ false →
    past_first (codes ">") old ≡ None
close_missing old h =
    let test : ℕ → Bool = λ c. not (eqb c 62) in
    ap (past_first (codes ">")) (run_split test old) ∙ before_close (run test old) (past test old) (run_each test old)
    ∙ ap (past_first (codes ">")) (nothing_left 62 (past test old) h (past_ended test old))

-- characters that are no `-`, before the first `-->`
before_dash : (w cs : List ℕ) → Each (λ c. not (eqb c 45)) w → past_first (codes "-->") (w ++ cs) ≡ past_first (codes "-->") cs
before_dash [] cs h = refl
before_dash (c ∷ w) cs h =
    ap (λ b. cond (b && has_prefix (codes "->") (w ++ cs)) (Some (drop 3 (c ∷ (w ++ cs)))) (past_first (codes "-->") (w ++ cs)))
    (not-true (eqb c 45) (h.0)) ∙ before_dash w cs (h.1)

pub to_dash : (old : List ℕ) → past_first (codes "-->") old ≡ past_first (codes "-->") (past (λ c. not (eqb c 45)) old)
to_dash old =
    let test : ℕ → Bool = λ c. not (eqb c 45) in
    ap (past_first (codes "-->")) (run_split test old) ∙ before_dash (run test old) (past test old) (run_each test old)

pub dash_missing : (cs : List ℕ) → begins (λ c. eqb c 45) cs ≡ false → begins (λ c. not (eqb c 45)) cs ≡ false →
    past_first (codes "-->") cs ≡ None
dash_missing cs h k = ap (past_first (codes "-->")) (nothing_left 45 cs h k)

-- one `-` alone ends nothing
pub one_dash : (cs : List ℕ) → begins (λ c. eqb c 45) cs ≡ false →
    past_first (codes "-->") (45 ∷ cs) ≡ past_first (codes "-->") cs
one_dash [] h = refl
one_dash (c ∷ cs) h =
    ap (λ b. cond (b && has_prefix (codes ">") cs) (Some (drop 3 (45 ∷ c ∷ cs))) (past_first (codes "-->") (c ∷ cs))) h

-- two and more, and then no `>`
two_dashes : (cs : List ℕ) → begins (λ c. eqb c 45) cs ≡ false → begins (λ c. eqb c 62) cs ≡ false →
    past_first (codes "-->") (45 ∷ 45 ∷ cs)
    ≡ past_first (codes "-->") cs
two_dashes [] h k = refl
two_dashes (c ∷ cs) h k = ap (λ b. cond (b && true) (Some (drop 3 (45 ∷ 45 ∷ c ∷ cs))) (past_first (codes "-->") (45 ∷ c ∷ cs)))
    k ∙ one_dash (c ∷ cs) h

three_dashes : (cs : List ℕ) → past_first (codes "-->") (45 ∷ 45 ∷ 45 ∷ cs) ≡ past_first (codes "-->") (45 ∷ 45 ∷ cs)
three_dashes cs = refl

more_dashes : (w cs : List ℕ) → Each (λ c. eqb c 45) w → past_first (codes "-->") (45 ∷ 45 ∷ (w ++ cs)) ≡ past_first
    (codes "-->") (45 ∷ 45 ∷ cs)
more_dashes [] cs h = refl
more_dashes (c ∷ w) cs h =
    ap (λ x. past_first (codes "-->") (45 ∷ 45 ∷ x ∷ (w ++ cs))) (eqb-true c 45 (h.0)) ∙ three_dashes
    (w ++ cs) ∙ more_dashes w cs (h.1)

pub dashes_close : (b new : List ℕ) → past (λ c. eqb c 45) b ≡ 62 ∷ new → past_first (codes "-->") (45 ∷ 45 ∷ b) ≡ Some new
dashes_close b new e =
    let test : ℕ → Bool = λ c. eqb c 45 in
    ap (λ x. past_first (codes "-->") (45 ∷ 45 ∷ x)) (run_split test b) ∙ more_dashes (run test b) (past test b) (run_each test b)
    ∙ ap (λ x. past_first (codes "-->") (45 ∷ 45 ∷ x)) e

pub dashes_open : (b : List ℕ) → begins (λ c. eqb c 62) (past (λ c. eqb c 45) b) ≡ false
    → past_first (codes "-->") (45 ∷ 45 ∷ b) ≡ past_first (codes "-->") (past (λ c. eqb c 45) b)
dashes_open b h =
    let test : ℕ → Bool = λ c. eqb c 45 in
    ap (λ x. past_first (codes "-->") (45 ∷ 45 ∷ x)) (run_split test b) ∙ more_dashes (run test b) (past test b) (run_each test b)
    ∙ two_dashes (past test b) (past_ended test b) h

-- one letter of the word `doctype` after another
word_step : (w : List ℕ) (i : ℕ) → i < length w → drop i w ≡ get_or w i 0 ∷ drop (i + 1) w
word_step w i h = rw (add-one, drop-cons w i 0) refl

pub word_ends : (w : List ℕ) (i : ℕ) (cs : List ℕ) → i < length w → cs ≡ [] → doctype_word (drop i w) cs ≡ faulty unended_tag
word_ends w i cs h e = ap (doctype_word (drop i w)) e ∙ ap (λ x. doctype_word x []) (word_step w i h)

pub word_differs : (w : List ℕ) (i c : ℕ) (cs ds : List ℕ) → i < length w → cs ≡ c ∷ ds →
    (to_ascii_lowercase c ≡ get_or w i 0 → ⊥)
    → doctype_word (drop i w) cs ≡ faulty bad_tag
word_differs w i c cs ds h e k =
    ap (doctype_word (drop i w)) e ∙ ap (λ x. doctype_word x (c ∷ ds)) (word_step w i h)
    ∙ ap (λ b. cond b (doctype_word (drop (i + 1) w) ds) (faulty bad_tag)) (differs (to_ascii_lowercase c) (get_or w i 0) k)
  where
    differs : (a b : ℕ) → (a ≡ b → ⊥) → eqb a b ≡ false
    differs a b k = elim (eqb_tells a b) [ inl e ↦ absurd (k (e.1)) | inr e ↦ e.0 ]

pub word_agrees : (w : List ℕ) (i c : ℕ) (cs ds : List ℕ) → i < length w → cs ≡ c ∷ ds → to_ascii_lowercase c ≡ get_or w i 0
    → doctype_word (drop i w) cs ≡ doctype_word (drop (i + 1) w) ds
word_agrees w i c cs ds h e k =
    ap (doctype_word (drop i w)) e ∙ ap (λ x. doctype_word x (c ∷ ds)) (word_step w i h)
    ∙ ap (λ b. cond b (doctype_word (drop (i + 1) w) ds) (faulty bad_tag)) (eq-eqb (to_ascii_lowercase c) (get_or w i 0) k)

pub word_over : (w : List ℕ) (i : ℕ) (cs : List ℕ) → length w ≡ i → doctype_word (drop i w) cs ≡ in_doctype cs
word_over w i cs h = ap (λ x. doctype_word x cs) (ap (λ n. drop n w) (sym h) ∙ drop-length w)

-- a `!` after a `<`
pub angle_declares : (old new : List ℕ) → first old ≡ Some 33 → new ≡ drop 1 old → angle old ≡ declaration new
angle_declares [] new h k = cc
angle_declares (c ∷ cs) new h k = let is : c ≡ 33 = cc in ap (λ x. angle (x ∷ cs)) is ∙ ap declaration (sym k)
