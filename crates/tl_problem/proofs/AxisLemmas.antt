-- Cells in the order in which they begin: each cell is there once, and nothing else.
use Rattle.std.proofs.Common.{◌≡◌, ℕ, ◌+◌, ◌-◌, ◌<◌, ◌≤◌, zero, suc, true, false, nat_le, nat_lt, List, [], ◌∷◌, ◌++◌, inl, inr}
use Rattle.std.proofs.Common.{length, get_or, take, drop, sum, refl, sym, ap, ◌∙◌, subst, arith}
use Rattle.std.specs.List.{All, Contains, sum_by}
use Rattle.std.specs.List.Sorted.{IsPartitionPoint}
use Rattle.std.proofs.lemmas.Bool.{cases_lt}
use Rattle.std.proofs.lemmas.List.{take_more, take_all, get_or-take, get_or-drop, length-take, length-drop}
use Rattle.std.proofs.lemmas.List.Elements.{Contains-get_or}
use Rattle.std.proofs.lemmas.List.Sorted.{All-permutation, Contains-permutation, sum_by-IsPermutation, length_permutation}
use Rattle.std.proofs.lemmas.List.Sums.{sum_by_push, sum_by_more}
use Rattle.tl_base.proofs.Decreasing.{test_le, lt_test}
use Rattle.tl_problem.specs.declared.axis.Axis.{Axis}
use Rattle.tl_problem.specs.declared.axis.Turn.{Turn}
use Rattle.tl_problem.specs.declared.cell.Cell.{Cell}
use Rattle.tl_problem.specs.inner.Axes.{start_of, turn, turns_from, IsOrder, HaveAllAt}
use Rattle.tl_problem.specs.inner.Demands.{cell_at}

turns_from-push : (axis : Axis) (n : ℕ) (cells : List Cell) (cell : Cell) →
    turns_from axis n (cells ++ cell ∷ []) ≡ turns_from axis n cells ++ turn (start_of axis cell) (n + length cells) ∷ []
turns_from-push axis n [] cell = ap (λ k. turn (start_of axis cell) k ∷ []) (omega arith)
turns_from-push axis n (first ∷ cells) cell =
    let rest = turns_from-push axis (n + 1) cells cell in
    let same : n + 1 + length cells ≡ n + length (first ∷ cells) = omega arith in
    ap (λ ts. turn (start_of axis first) n ∷ ts)
    (subst (λ k. turns_from axis (n + 1) (cells ++ cell ∷ []) ≡ turns_from axis (n + 1) cells ++ turn (start_of axis cell)
    k ∷ []) same rest)

pub turns_from-more : (axis : Axis) (cells : List Cell) (k : ℕ) (d : Cell) → k < length cells →
    turns_from axis 0 (take (k + 1) cells) ≡ turns_from axis 0 (take k cells) ++ turn (start_of axis (get_or cells k d)) k ∷ []
turns_from-more axis cells k d within =
    let more = take_more cells k d within in
    let pushed = turns_from-push axis 0 (take k cells) (get_or cells k d) in
    ap (turns_from axis 0) more ∙ pushed ∙ ap (λ j. turns_from axis 0 (take k cells) ++ turn (start_of axis (get_or cells k d))
    j ∷ [])
    (seen cells k within) where
      seen : (cells : List Cell) (k : ℕ) → k < length cells → 0 + length (take k cells) ≡ k
      seen [] k within = absurd (omega arith)
      seen (cell ∷ cells) zero within = refl
      seen (cell ∷ cells) (suc k) within = omega (arith, seen cells k (omega arith))

turns_from-at : (axis : Axis) (n : ℕ) (cells : List Cell) (k : ℕ) (d : Turn) → k < length cells →
    get_or (turns_from axis n cells) k d ≡ turn (start_of axis (cell_at cells k)) (n + k)
turns_from-at axis n [] k d within = absurd (omega arith)
turns_from-at axis n (cell ∷ cells) zero d within = ap (turn (start_of axis cell)) (omega arith)
turns_from-at axis n (cell ∷ cells) (suc k) d within =
    turns_from-at axis (n + 1) cells k d (omega arith) ∙ ap (turn (start_of axis (cell_at cells k))) (omega arith)

turns_from-length : (axis : Axis) (n : ℕ) (cells : List Cell) → length (turns_from axis n cells) ≡ length cells
turns_from-length axis n [] = refl
turns_from-length axis n (cell ∷ cells) = ap suc (turns_from-length axis (n + 1) cells)

-- the turn is that of a cell
abbrev pub IsTurn : Axis → List Cell → Turn → Type 0
IsTurn axis cells t = (t.cell < length cells) × (t.start ≡ start_of axis (cell_at cells t.cell))

module _ (axis : Axis) (cells : List Cell) (order : List Turn) (is : IsOrder axis cells order) where
  pub order-length : length order ≡ length cells
  order-length = length_permutation (turns_from axis 0 cells) order is.same ∙ turns_from-length axis 0 cells

  pub order-turns : All (IsTurn axis cells) order
  order-turns =
      All-permutation (IsTurn axis cells) (turns_from axis 0 cells) order is.same (λ k d within.
      let inside : k < length cells = omega (arith, turns_from-length axis 0 cells) in
      let at = turns_from-at axis 0 cells k d inside in
      let number : 0 + k ≡ k = omega arith in
      subst (IsTurn axis cells) (sym (rw number at at)) (inside, refl))

  -- each cell has its turn
  pub order-all : (k : ℕ) → k < length cells → Contains order (turn (start_of axis (cell_at cells k)) k)
  order-all k within =
      Contains-permutation (turns_from axis 0 cells) order (turn (start_of axis (cell_at cells k)) k) is.same (
        k,
        omega (arith, turns_from-length axis 0 cells),
        (let number : 0 + k ≡ k = omega arith in
            rw number at (turns_from-at axis 0 cells k (turn (start_of axis (cell_at cells k)) k) within)),
      )

  -- what is given for each cell sums up alike
  pub order-sum : (ns : List ℕ) → length ns ≡ length cells → sum_by (λ t. get_or ns t.cell 0) order ≡ sum ns
  order-sum ns same =
      sum_by-IsPermutation (λ t. get_or ns t.cell 0) (turns_from axis 0 cells) order is.same ∙
      (let all = seen (length cells) (omega arith) in
      let whole = take_all (length cells) cells (omega arith) in
      let every = take_all (length cells) ns (omega arith) in
      rw (whole, every) at all) where
        seen : (k : ℕ) → k ≤ length cells → sum_by (λ t. get_or ns t.cell 0) (turns_from axis 0 (take k cells)) ≡ sum (take k ns)
        seen zero up = none cells ns where
          none : (cells : List Cell) (ns : List ℕ) → sum_by (λ t. get_or ns t.cell 0) (turns_from axis 0 (take 0 cells)) ≡ sum
              (take 0 ns)
          none cells ns = refl
        seen (suc k) up =
            let rest = seen k (omega arith) in
            let d = cell_at cells k in
            let next : suc k ≡ k + 1 = omega arith in
            let turns = ap (sum_by (λ t. get_or ns t.cell 0)) (turns_from-more axis cells k d (omega arith)) in
            let pushed = sum_by_push (λ t. get_or ns t.cell 0) (turns_from axis 0 (take k cells))
            (turn (start_of axis (get_or cells k d)) k) in
            let more = sum_by_more (λ n. n) ns k 0 (omega arith) in
            rw next (omega (arith, turns, pushed, more, rest))

-- the turns that start at one place, among turns in order: of those that do not start before it, the ones that do not start
-- after it
module _ (place : ℕ) (turns : List Turn) (before count : ℕ)
    (low : IsPartitionPoint (λ t. nat_lt t.start place ≡ true) (λ t. nat_lt t.start place ≡ false) turns before)
    (high : IsPartitionPoint (λ t. nat_le t.start place ≡ true) (λ t. nat_le t.start place ≡ false) (drop before turns) count) where
  between-some : All (λ t. Contains turns t) (take count (drop before turns))
  between-some k d inside =
      let size = length-take count (drop before turns) in
      let rest = length-drop before turns in
      let at = get_or-take count (drop before turns) k d (omega (arith, size)) ∙ get_or-drop before turns k d in
      subst (Contains turns) (sym at) (Contains-get_or turns (before + k) d (omega (arith, size, rest)))

  between-each : (t : Turn) → Contains turns t → t.start ≡ place → Contains (take count (drop before turns)) t
  between-each t (k, inside, is) starts =
      let size = length-take count (drop before turns) in
      let rest = length-drop before turns in
      let start : (get_or turns k t).start ≡ place = ap (λ x. x.start) is ∙ starts in
      let after : before ≤ k = elim (cases_lt k before) [
        | inr not_before ↦ omega arith
        | inl is_before ↦ absurd (omega (arith, lt_test (low.0 k t (omega arith) is_before), start))
      ] in
      let there : before + (k - before) ≡ k = omega (arith, after) in
      let at : get_or (drop before turns) (k - before) t ≡ t = get_or-drop before turns (k - before) t
      ∙ ap (λ i. get_or turns i t) there ∙ is in
      let inner : k - before < length (drop before turns) = omega (arith, rest, after, inside) in
      let near : k - before < count = elim (cases_lt (k - before) count) [
        | inl less ↦ less
        | inr beyond ↦
            let begins = ap (λ x. x.start) at ∙ starts in
            let both : true ≡ false = sym (test_le (omega (arith, begins))) ∙ high.1 (k - before) t (omega arith) inner in
            absurd (cc)
      ] in (
        k - before,
        omega (arith, size, inner, near),
        get_or-take count (drop before turns) (k - before) t near ∙ at,
      )

  pub all-at : HaveAllAt turns place (take count (drop before turns))
  all-at = record { some = between-some; each = between-each }
