-- What more text changes in how a tag is read: nothing where it ended or failed, and where it did not end, some text ends it.
use Rattle.std.proofs.Common.{◌≡◌, ◌≢◌, ℕ, List, [], ◌∷◌, ◌++◌, refl, ap, cond}
use Rattle.std.proofs.lemmas.Bool.{eq-eqb}
use Rattle.std.specs.Prelude.{codes}
use Rattle.tl_token.specs.Elements.{Tag}
use Rattle.tl_token.specs.inner.States.{TagState, tag_open, end_tag_open, tag_name, between, in_name, after_name, before_value}
use Rattle.tl_token.specs.inner.States.{in_quotes, in_value}
use Rattle.tl_token.specs.inner.States.{ended, failed, step, with_attribute, TagOutcome, reads, unended, wrong, read}

-- the tag goes on from there
abbrev pub IsLive : TagState → Type 0
IsLive (ended t) = ⊥
IsLive failed = ⊥
IsLive _ = Unit {0}

-- how the state reads cs and more
abbrev pub Further : TagState → List ℕ → TagOutcome → Type 0
Further s cs (reads t rest) = (more : List ℕ) → read s (cs ++ more) ≡ reads t (rest ++ more)
Further s cs unended = (u : TagState) × IsLive u × ((more : List ℕ) → read s (cs ++ more) ≡ read u more)
Further s cs wrong = (more : List ℕ) → read s (cs ++ more) ≡ wrong

pub further : (s : TagState) (cs : List ℕ) → Further s cs (read s cs)
further (ended t) cs = λ more. refl
further failed cs = λ more. refl
further tag_open [] = (tag_open, tt, λ more. refl)
further tag_open (c ∷ cs) = further (step tag_open c) cs
further end_tag_open [] = (end_tag_open, tt, λ more. refl)
further end_tag_open (c ∷ cs) = further (step end_tag_open c) cs
further (tag_name e n) [] = (tag_name e n, tt, λ more. refl)
further (tag_name e n) (c ∷ cs) = further (step (tag_name e n) c) cs
further (between t) [] = (between t, tt, λ more. refl)
further (between t) (c ∷ cs) = further (step (between t) c) cs
further (in_name t n) [] = (in_name t n, tt, λ more. refl)
further (in_name t n) (c ∷ cs) = further (step (in_name t n) c) cs
further (after_name t n) [] = (after_name t n, tt, λ more. refl)
further (after_name t n) (c ∷ cs) = further (step (after_name t n) c) cs
further (before_value t n) [] = (before_value t n, tt, λ more. refl)
further (before_value t n) (c ∷ cs) = further (step (before_value t n) c) cs
further (in_quotes t n q v) [] = (in_quotes t n q v, tt, λ more. refl)
further (in_quotes t n q v) (c ∷ cs) = further (step (in_quotes t n q v) c) cs
further (in_value t n v) [] = (in_value t n v, tt, λ more. refl)
further (in_value t n v) (c ∷ cs) = further (step (in_value t n v) c) cs

-- some text ends the tag
pub record Ends (s : TagState) : Type 0 where
  pub more : List ℕ
  pub some : more ≢ []
  pub whole : Tag
  pub is_read : read s more ≡ reads whole []

ends_by : (s : TagState) (more : List ℕ) (whole : Tag) → more ≢ [] → read s more ≡ reads whole [] → Ends s
ends_by s more whole n h = record { more = more; some = n; whole = whole; is_read = h }

pub ending : (s : TagState) → IsLive s → Ends s
ending (ended t) live = absurd live
ending failed live = absurd live
ending tag_open live = ends_by tag_open (codes "a>") _ (λ e. cc) refl
ending end_tag_open live = ends_by end_tag_open (codes "a>") _ (λ e. cc) refl
ending (tag_name e n) live = ends_by (tag_name e n) (codes ">") _ (λ e. cc) refl
ending (between t) live = ends_by (between t) (codes ">") _ (λ e. cc) refl
ending (in_name t n) live = ends_by (in_name t n) (codes ">") _ (λ e. cc) refl
ending (after_name t n) live = ends_by (after_name t n) (codes ">") _ (λ e. cc) refl
ending (before_value t n) live = ends_by (before_value t n) (codes "a>") _ (λ e. cc) refl
ending (in_quotes t n q v) live =
    ends_by (in_quotes t n q v) (q ∷ codes ">") (with_attribute t n v) (λ e. cc)
    (ap (λ b. read (cond b (between (with_attribute t n v)) (in_quotes t n q (v ++ q ∷ []))) (codes ">")) (eq-eqb q q refl))
ending (in_value t n v) live = ends_by (in_value t n v) (codes ">") _ (λ e. cc) refl
