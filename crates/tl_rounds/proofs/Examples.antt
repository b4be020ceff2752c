-- Two rounds of two workers with a budget of four cuts, on any problem, in which no zone is closed:
--
--   first round    one zone is left, so it has one block, with a quota of 4 / 2 / 1 = 2
--
--        0         cut 0: zone 0 into 1 and 2
--       / \        cut 1: zone 1 into 3 and 4
--      1   2
--     / \
--    3   4         left after it: 2 3 4
--
--   second round   two cuts and three zones are left, so it has two blocks, with a quota of 1, as 2 / 2 / 2 is 0
--
--        0
--       / \        cut 2: zone 2 into 5 and 6
--      1   2       cut 3: zone 3 into 7 and 8
--     / \ / \
--    3  4 5  6
--   / \
--  7   8           left after it: 4 5 6 7 8
use Rattle.std.proofs.Common.{◌≡◌, ◌≢◌, ℕ, ◌+◌, ◌*◌, ◌<◌, zero, suc, List, [], ◌∷◌, ◌++◌, ◌⊎◌, inl, inr, length}
use Rattle.std.proofs.Common.{get_or, refl, sym, ◌∙◌, subst, arith}
use Rattle.std.specs.List.{AllByRecursion, AllPairs, Contains}
use Rattle.std.proofs.lemmas.List.{get_or_default}
use Rattle.std.proofs.lemmas.List.Elements.{All-from_recursion}
use Rattle.tl_base.proofs.Members.{AllPairs-cons, AllPairs-none, Contains-first, Contains-later}
use Rattle.tl_problem.specs.Problem.{ProblemModel}
use Rattle.tl_cert.specs.declared.trace.CutAt.{CutAt}
use Rattle.tl_cert.specs.Traces.{Stands}
use Rattle.tl_cert.specs.ZoneOrders.{ComesFrom, itself, lower, upper}
use Rattle.tl_rounds.specs.Book.{lefts_after}
use Rattle.tl_rounds.specs.MadeOfRounds.{IsBlock, AreBlocks, no_block, block, AreRounds, no_round, round, IsMadeOfRounds}
use Rattle.tl_rounds.specs.MadeOfRounds.{blocks_of, quota_of}

-- how many blocks, and the quota of each
first_blocks : blocks_of 2 1 4 ≡ 1
first_blocks = refl

first_quota : quota_of 4 1 ≡ 2
first_quota = refl

second_blocks : blocks_of 2 3 2 ≡ 2
second_blocks = refl

second_quota : quota_of 2 2 ≡ 1
second_quota = refl

-- sixteen workers with ten cuts have as many blocks as cuts
few_cuts : blocks_of 16 40 10 ≡ 10
few_cuts = refl

-- what is left once the first of three zones is taken away, whose piece made two cuts and left its zones 2, 3 and 4
left_then : lefts_after 2 2 (2 ∷ 3 ∷ 4 ∷ []) (2 ∷ 3 ∷ 4 ∷ []) ≡ 3 ∷ 4 ∷ 6 ∷ 7 ∷ 8 ∷ []
left_then = refl

-- ---- the trace

abbrev cut : ℕ → CutAt
cut zone = record { zone = zone; span = 0; class = 0 }

abbrev first : List CutAt
first = cut 0 ∷ cut 1 ∷ []

abbrev second : List CutAt
second = cut 0 ∷ cut 1 ∷ cut 2 ∷ []

abbrev all : List CutAt
all = cut 0 ∷ cut 1 ∷ cut 2 ∷ cut 3 ∷ []

stands : (trace : List CutAt) (z : ℕ) → z < 2 * length trace + 1 → AllByRecursion (λ cut. cut.zone ≢ z) trace → Stands trace z
stands trace z there not_cut = record { there = there; not_cut = All-from_recursion (λ cut. cut.zone ≢ z) trace not_cut }

two : (a b : ℕ) → a ≢ b → AllPairs (λ one other. one ≢ other) (a ∷ b ∷ [])
two a b apart = AllPairs-cons (λ one other. one ≢ other) a (b ∷ [])
    (All-from_recursion (λ other. a ≢ other) (b ∷ []) (apart, tt))
    (AllPairs-cons (λ one other. one ≢ other) b [] (All-from_recursion (λ other. b ≢ other) [] tt)
    (AllPairs-none (λ one other. one ≢ other)))

-- ---- from which zones others come

-- a part of cut `i` comes only from itself and from what the cut zone comes from
part-from : {trace : List CutAt} {from z : ℕ} → ComesFrom trace from z → (i : ℕ) (d : CutAt) → from ≢ z →
    (z ≡ 2 * i + 1) ⊎ (z ≡ 2 * i + 2) → ComesFrom trace from (get_or trace i d).zone
part-from itself i d apart is = absurd (apart refl)
part-from {trace} {from} (lower k e within rest) i d apart is =
    let same : k ≡ i = elim is [ inl odd ↦ omega (arith, odd) | inr even ↦ absurd (omega (arith, even)) ] in
    subst (λ n. ComesFrom trace from (get_or trace n d).zone) same
    (subst (λ (c : CutAt). ComesFrom trace from c.zone) (get_or_default trace k e d within) rest)
part-from {trace} {from} (upper k e within rest) i d apart is =
    let same : k ≡ i = elim is [ inl odd ↦ absurd (omega (arith, odd)) | inr even ↦ omega (arith, even) ] in
    subst (λ n. ComesFrom trace from (get_or trace n d).zone) same
    (subst (λ (c : CutAt). ComesFrom trace from c.zone) (get_or_default trace k e d within) rest)

-- and the whole from no other zone
whole-from : {trace : List CutAt} {from z : ℕ} → ComesFrom trace from z → z ≡ 0 → from ≡ 0
whole-from itself is = is
whole-from (lower i d within rest) is = absurd (omega (arith, is))
whole-from (upper i d within rest) is = absurd (omega (arith, is))

-- ---- the blocks

module _ (problem : ProblemModel) (height : ℕ) where
  of_whole : IsBlock problem height 2 [] 0 first (2 ∷ 3 ∷ 4 ∷ [])
  of_whole = record {
    few = omega arith;
    own = All-from_recursion (λ (c : CutAt). ComesFrom first 0 c.zone) first (itself, (one, tt));
    left_own = All-from_recursion (λ z. Stands first z × ComesFrom first 0 z) (2 ∷ 3 ∷ 4 ∷ []) (
      (stands first 2 (omega arith) (omega arith, (omega arith, tt)), upper 0 (cut 0) (omega arith) itself),
      (
        (stands first 3 (omega arith) (omega arith, (omega arith, tt)), lower 1 (cut 0) (omega arith) one),
        ((stands first 4 (omega arith) (omega arith, (omega arith, tt)), upper 1 (cut 0) (omega arith) one), tt),
      ),
    );
    different = AllPairs-cons (λ one other. one ≢ other) 2 (3 ∷ 4 ∷ [])
        (All-from_recursion (λ other. 2 ≢ other) (3 ∷ 4 ∷ []) (omega arith, (omega arith, tt))) (two 3 4 (omega arith));
    closed = λ z is from. inl (left z is);
    spent = λ some. refl;
  } where
    one : ComesFrom first 0 1
    one = lower 0 (cut 0) (omega arith) itself

    left : (z : ℕ) → Stands first z → Contains (2 ∷ 3 ∷ 4 ∷ []) z
    left zero is = absurd (is.not_cut 0 (cut 0) (omega arith) refl)
    left (suc zero) is = absurd (is.not_cut 1 (cut 0) (omega arith) refl)
    left (suc (suc zero)) is = Contains-first 2 (3 ∷ 4 ∷ [])
    left (suc (suc (suc zero))) is = Contains-later 2 (3 ∷ 4 ∷ []) 3 (Contains-first 3 (4 ∷ []))
    left (suc (suc (suc (suc zero)))) is = Contains-later 2 (3 ∷ 4 ∷ []) 4
        (Contains-later 3 (4 ∷ []) 4 (Contains-first 4 []))
    left (suc (suc (suc (suc (suc z))))) is = absurd (omega (arith, is.there))

  -- both parts of a single cut of zone `z`, which are all that comes from it
  module _ (before : List CutAt) (z low high : ℕ) (apart : low ≢ high) (after : List CutAt) (same : before ++ cut z ∷ [] ≡ after)
      (low_is : Stands after low × ComesFrom after z low) (high_is : Stands after high × ComesFrom after z high)
      (only : (a : ℕ) → Stands after a → ComesFrom after z a → Contains (low ∷ high ∷ []) a) where
    of_one : IsBlock problem height 1 before z (cut z ∷ []) (low ∷ high ∷ [])
    of_one = record {
      few = omega arith;
      own = All-from_recursion (λ (c : CutAt). ComesFrom (before ++ cut z ∷ []) z c.zone) (cut z ∷ []) (itself, tt);
      left_own = rw same (All-from_recursion (λ a. Stands after a × ComesFrom after z a) (low ∷ high ∷ [])
          (low_is, (high_is, tt)));
      different = two low high apart;
      closed = rw same (λ a is from. inl (only a is from));
      spent = λ some. refl;
    }

  -- of the zones that stand after the third cut only its two parts come from zone 2
  of_third : (a : ℕ) → Stands second a → ComesFrom second 2 a → Contains (5 ∷ 6 ∷ []) a
  of_third zero is from = absurd (is.not_cut 0 (cut 0) (omega arith) refl)
  of_third (suc zero) is from = absurd (is.not_cut 1 (cut 0) (omega arith) refl)
  of_third (suc (suc zero)) is from = absurd (is.not_cut 2 (cut 0) (omega arith) refl)
  of_third (suc (suc (suc zero))) is from = absurd (not_one (part-from from 1 (cut 0) (omega arith) (inl (omega arith)))) where
    not_one : ComesFrom second 2 1 → ⊥
    not_one other = omega (arith, whole-from (part-from other 0 (cut 0) (omega arith) (inl (omega arith))) refl)
  of_third (suc (suc (suc (suc zero)))) is from = absurd (not_one (part-from from 1 (cut 0) (omega arith) (inr (omega arith)))) where
    not_one : ComesFrom second 2 1 → ⊥
    not_one other = omega (arith, whole-from (part-from other 0 (cut 0) (omega arith) (inl (omega arith))) refl)
  of_third (suc (suc (suc (suc (suc zero))))) is from = Contains-first 5 (6 ∷ [])
  of_third (suc (suc (suc (suc (suc (suc zero)))))) is from = Contains-later 5 (6 ∷ []) 6 (Contains-first 6 [])
  of_third (suc (suc (suc (suc (suc (suc (suc a))))))) is from = absurd (omega (arith, is.there))

  -- and after the fourth only its parts from zone 3
  of_fourth : (a : ℕ) → Stands all a → ComesFrom all 3 a → Contains (7 ∷ 8 ∷ []) a
  of_fourth zero is from = absurd (is.not_cut 0 (cut 0) (omega arith) refl)
  of_fourth (suc zero) is from = absurd (is.not_cut 1 (cut 0) (omega arith) refl)
  of_fourth (suc (suc zero)) is from = absurd (is.not_cut 2 (cut 0) (omega arith) refl)
  of_fourth (suc (suc (suc zero))) is from = absurd (is.not_cut 3 (cut 0) (omega arith) refl)
  of_fourth (suc (suc (suc (suc zero)))) is from = absurd (not_one (part-from from 1 (cut 0) (omega arith) (inr (omega arith)))) where
    not_one : ComesFrom all 3 1 → ⊥
    not_one other = omega (arith, whole-from (part-from other 0 (cut 0) (omega arith) (inl (omega arith))) refl)
  of_fourth (suc (suc (suc (suc (suc zero))))) is from = absurd (not_two (part-from from 2 (cut 0) (omega arith) (inl (omega arith)))) where
    not_two : ComesFrom all 3 2 → ⊥
    not_two other = omega (arith, whole-from (part-from other 0 (cut 0) (omega arith) (inr (omega arith))) refl)
  of_fourth (suc (suc (suc (suc (suc (suc zero)))))) is from = absurd (not_two (part-from from 2 (cut 0) (omega arith) (inr (omega arith)))) where
    not_two : ComesFrom all 3 2 → ⊥
    not_two other = omega (arith, whole-from (part-from other 0 (cut 0) (omega arith) (inr (omega arith))) refl)
  of_fourth (suc (suc (suc (suc (suc (suc (suc zero))))))) is from = Contains-first 7 (8 ∷ [])
  of_fourth (suc (suc (suc (suc (suc (suc (suc (suc zero)))))))) is from = Contains-later 7 (8 ∷ []) 8 (Contains-first 8 [])
  of_fourth (suc (suc (suc (suc (suc (suc (suc (suc (suc a))))))))) is from = absurd (omega (arith, is.there))

  -- ---- the rounds

  after_first : AreRounds problem 2 4 height first (2 ∷ 3 ∷ 4 ∷ [])
  after_first = round [] (0 ∷ []) no_round (omega arith) first (2 ∷ 3 ∷ 4 ∷ [])
      (block [] [] [] no_block 0 first (2 ∷ 3 ∷ 4 ∷ []) of_whole)

  both_blocks : AreBlocks problem height 1 first (2 ∷ 3 ∷ []) all (5 ∷ 6 ∷ 7 ∷ 8 ∷ [])
  both_blocks = block (2 ∷ []) second (5 ∷ 6 ∷ [])
      (block [] first [] no_block 2 (cut 2 ∷ []) (5 ∷ 6 ∷ [])
      (of_one first 2 5 6 (omega arith) second refl
      (stands second 5 (omega arith) (omega arith, (omega arith, (omega arith, tt))), lower 2 (cut 0) (omega arith) itself)
      (stands second 6 (omega arith) (omega arith, (omega arith, (omega arith, tt))), upper 2 (cut 0) (omega arith) itself)
      of_third))
      3 (cut 3 ∷ []) (7 ∷ 8 ∷ [])
      (of_one second 3 7 8 (omega arith) all refl (
        stands all 7 (omega arith) (omega arith, (omega arith, (omega arith, (omega arith, tt)))),
        lower 3 (cut 0) (omega arith) itself,
      ) (
        stands all 8 (omega arith) (omega arith, (omega arith, (omega arith, (omega arith, tt)))),
        upper 3 (cut 0) (omega arith) itself,
      )
      of_fourth)

  two_rounds : IsMadeOfRounds problem 2 4 height all
  two_rounds = (
    4 ∷ 5 ∷ 6 ∷ 7 ∷ 8 ∷ [],
    round first (2 ∷ 3 ∷ 4 ∷ []) after_first (omega arith) all (5 ∷ 6 ∷ 7 ∷ 8 ∷ [])
        both_blocks,
    inr refl,
  )

  -- ---- what is none

  -- one search that makes all four cuts is no block of the first round
  all_at_once : (left : List ℕ) → IsBlock problem height 2 [] 0 all left → ⊥
  all_at_once left is = omega (arith, is.few)

  -- a block that leaves zones has all cuts of its quota
  one_cut : IsBlock problem height 2 [] 0 (cut 0 ∷ []) (1 ∷ 2 ∷ []) → ⊥
  one_cut is = omega (arith, is.spent (λ same. cc))

  -- after the first round the search is not at its end
  ends_early : (lefts : List ℕ) → (lefts ≡ 2 ∷ 3 ∷ 4 ∷ []) → (lefts ≡ []) ⊎ (length first ≡ 4) → ⊥
  ends_early lefts are (inl none) = let differ : 2 ∷ 3 ∷ 4 ∷ [] ≡ [] = sym are ∙ none in cc
  ends_early lefts are (inr spent) = omega (arith, spent)
