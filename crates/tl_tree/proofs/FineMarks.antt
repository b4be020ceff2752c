-- The marks of the tokens of a document: their numbers are in their ranges, their tables within the limits.
use Rattle.std.proofs.Common.{◌≡◌, ◌≤◌, ◌<◌, ℕ, ◌+◌, ◌*◌, ◌-◌, false, [], ◌∷◌, ◌++◌, length, refl, ◌∙◌, arith, append_assoc}
use Rattle.std.specs.List.{AllByRecursion}
use Rattle.tl_base.specs.declared.limits.TheConstants.{MAX_COLSPAN, MAX_DEPTH}
use Rattle.tl_tree.specs.Tags.{Kind, Kinds, table_start, table_end}
use Rattle.tl_tree.specs.Grammar.{Mark, Marks, table_begins, columns, table_ends}
use Rattle.tl_tree.specs.Paragraphs.{number_after}
use Rattle.tl_tree.specs.Readable.{IsReadable}
use Rattle.tl_tree.specs.Spelling.{depth_with, tables_with, tables_after, FitsLimits, FitLimits}
use Rattle.tl_tree.specs.inner.Machine.{DocumentState, next, told, reached, all_told}
use Rattle.tl_tree.specs.inner.Verdict.{is_failed}
use Rattle.tl_tree.proofs.Verdicts.{alive_before}
use Rattle.tl_tree.proofs.FineMoves.{IsFineMark, AreMarksOf, state_columns, fine_step}

-- marks in their ranges, where so many tables are open: none begins inside `MAX_DEPTH` others
abbrev pub AreFineMarks : ℕ → ℕ → Marks → Type 0
AreFineMarks n d [] = Unit {0}
AreFineMarks n d (table_begins ∷ ms) = (d < MAX_DEPTH) × AreFineMarks n (d + 1) ms
AreFineMarks n d (table_ends ∷ ms) = AreFineMarks n (d - 1) ms
AreFineMarks n d (m ∷ ms) = IsFineMark n m × AreFineMarks n d ms

-- the number of the next table after the marks
abbrev pub number_at : ℕ → Marks → ℕ
number_at k [] = k
number_at k (m ∷ ms) = number_at (number_after k m) ms

widen : (n most : ℕ) (m : Mark) → n ≤ most → IsFineMark n m → IsFineMark most m
widen n most (columns c) h fine = omega arith
widen n most _ h fine = fine

inside_fine : (n most d : ℕ) (ms rest : Marks) → n ≤ most → AllByRecursion (IsFineMark n) ms → AreFineMarks most d rest →
    AreFineMarks most d (ms ++ rest)
inside_fine n most d [] rest h fine k = k
inside_fine n most d (table_begins ∷ ms) rest h fine k = absurd fine.0
inside_fine n most d (table_ends ∷ ms) rest h fine k = absurd fine.0
inside_fine n most d (m ∷ ms) rest h fine k = (widen n most m h fine.0, inside_fine n most d ms rest h fine.1 k)

inside_number : (n t : ℕ) (ms rest : Marks) → AllByRecursion (IsFineMark n) ms → number_at t (ms ++ rest) ≡ number_at t rest
inside_number n t [] rest fine = refl
inside_number n t (table_begins ∷ ms) rest fine = absurd fine.0
inside_number n t (table_ends ∷ ms) rest fine = absurd fine.0
inside_number n t (_ ∷ ms) rest fine = inside_number n t ms rest fine.1

-- the marks of a token
token_fine : (n most d t : ℕ) (k : Kind) (ms rest : Marks) → n ≤ most → AreMarksOf n k ms → FitsLimits d t k →
    AreFineMarks most (depth_with d k) rest
    → AreFineMarks most d (ms ++ rest)
token_fine n most d t table_start ms rest h is fits fine = rw is (fits.0, fine)
token_fine n most d t table_end ms rest h (due, is, inside) fits fine =
    rw (is, append_assoc due (table_ends ∷ []) rest) (inside_fine n most d due (table_ends ∷ rest) h inside fine)
token_fine n most d t _ ms rest h inside fits fine = inside_fine n most d ms rest h inside fine

token_number : (n t : ℕ) (k : Kind) (ms rest : Marks) → AreMarksOf n k ms →
    number_at t (ms ++ rest) ≡ number_at (tables_with t k) rest
token_number n t table_start ms rest is = rw is refl
token_number n t table_end ms rest (due, is, inside) =
    rw (is, append_assoc due (table_ends ∷ []) rest) (inside_number n t due (table_ends ∷ rest) inside)
token_number n t _ ms rest inside = inside_number n t ms rest inside

-- the marks of tokens that lead on
pub fine_marks : (most d t : ℕ) (s : DocumentState) (ks : Kinds) → AllByRecursion IsReadable ks → is_failed (reached s ks) ≡ false
    → state_columns s + MAX_COLSPAN * length ks ≤ most → FitLimits d t ks → AreFineMarks most d (all_told s ks)
fine_marks most d t s [] readable alive few fits = tt
fine_marks most d t s (k ∷ ks) (here, later) alive few fits =
    let step = fine_step s k here in
    let more = step.few in
    let rest = fine_marks most (depth_with d k) (tables_with t k) (next s k) ks later alive (omega arith) fits.1 in
    token_fine (state_columns s) most d t k (told s k) (all_told (next s k) ks) (omega arith)
    (step.fine (alive_before (next s k) ks alive)) fits.0 rest

pub number_told : (t : ℕ) (s : DocumentState) (ks : Kinds) → AllByRecursion IsReadable ks → is_failed (reached s ks) ≡ false
    → number_at t (all_told s ks) ≡ tables_after t ks
number_told t s [] readable alive = refl
number_told t s (k ∷ ks) (here, later) alive =
    token_number (state_columns s) t k (told s k) (all_told (next s k) ks)
    ((fine_step s k here).fine (alive_before (next s k) ks alive))
    ∙ number_told (tables_with t k) (next s k) ks later alive
