-- The pieces of a round as blocks of cuts, and rounds one after the other.
use Rattle.std.proofs.Common.{◌≡◌, ◌≢◌, ℕ, ◌+◌, ◌<◌, ◌≤◌, ◌==◌, ◌⊎◌, inl, inr, not, suc, true, false, List, [], ◌∷◌}
use Rattle.std.proofs.Common.{◌++◌, length, map, get_or, drop, Option, refl, sym, ap, ◌∙◌, subst, arith, append_assoc}
use Rattle.std.specs.List.{All, AllPairs, Contains}
use Rattle.std.proofs.lemmas.Bool.{eq-eqb, ne_eqb}
use Rattle.std.proofs.lemmas.List.{length-map}
use Rattle.std.proofs.lemmas.List.Elements.{All-map}
use Rattle.std.proofs.Math.Seq.{drop-cons}
use Rattle.tl_base.proofs.Members.{AllPairs-head, AllPairs-map, Contains-map}
use Rattle.tl_problem.specs.declared.placed.Placed.{Placed}
use Rattle.tl_problem.specs.Problem.{ProblemModel}
use Rattle.tl_problem.specs.Zones.{whole_zone}
use Rattle.tl_cert.specs.declared.trace.CutAt.{CutAt}
use Rattle.tl_cert.specs.Appended.{appended, cut_named, zone_named, IsAppended}
use Rattle.tl_cert.specs.Traces.{Stands, zone_of}
use Rattle.tl_cert.specs.Worked.{IsClosedZone}
use Rattle.tl_cert.specs.ZoneOrders.{ComesFrom}
use Rattle.tl_cert.proofs.AppendedLaws.{named-apart, named-first}
use Rattle.tl_cert.proofs.TraceLaws.{cuts-there}
use Rattle.tl_solve.specs.Piece.{IsPieceOf, final_height}
use Rattle.tl_solve.proofs.WalkLaws.{closed-lower}
use Rattle.tl_rounds.specs.Book.{IsCovering, IsUpToOpening, lefts_after, without}
use Rattle.tl_rounds.specs.MadeOfRounds.{IsBlock, AreBlocks, block, no_block, AreRounds, round, no_round, quota_at}
use Rattle.tl_rounds.proofs.Covered.{here, app}

-- ---- for a lower height

pub block-lower : (problem : ProblemModel) (height best quota : ℕ) (before : List CutAt) (zone : ℕ) (cuts : List CutAt)
    (left : List ℕ) → best ≤ height → IsBlock problem height quota before zone cuts left →
    IsBlock problem best quota before zone cuts left
block-lower problem height best quota before zone cuts left less is = record {
  few = is.few;
  own = is.own;
  left_own = is.left_own;
  different = is.different;
  closed = λ z stands from. elim (is.closed z stands from) [
    | inl has ↦ inl has
    | inr closed ↦ inr (closed-lower problem (zone_of problem (before ++ cuts) z) height best less closed)
  ];
  spent = is.spent;
}

pub blocks-lower : (problem : ProblemModel) (height best quota : ℕ) (before : List CutAt) → best ≤ height →
    {zones : List ℕ} {trace : List CutAt} {left : List ℕ} →
    AreBlocks problem height quota before zones trace left → AreBlocks problem best quota before zones trace left
blocks-lower problem height best quota before less no_block = no_block
blocks-lower problem height best quota before less (block zones trace left are zone cuts more is) =
    block zones trace left (blocks-lower problem height best quota before less are) zone cuts more
    (block-lower problem height best quota trace zone cuts more less is)

pub rounds-lower : (problem : ProblemModel) (workers budget height best : ℕ) → best ≤ height →
    {trace : List CutAt} {lefts : List ℕ} →
    AreRounds problem workers budget height trace lefts → AreRounds problem workers budget best trace lefts
rounds-lower problem workers budget height best less no_round = no_round
rounds-lower problem workers budget height best less (round trace lefts are some after left blocks) =
    round trace lefts (rounds-lower problem workers budget height best less are) some after left
    (blocks-lower problem height best (quota_at workers budget trace lefts) trace less blocks)

-- ---- a piece is a block

module _ (problem : ProblemModel) (trace : List CutAt) (lefts : List ℕ) (best : Placed)
    (cov : IsCovering problem trace lefts best) (z : ℕ) (has : Contains lefts z) (given quota : ℕ) (found : Option Placed)
    (cuts : List CutAt) (more : List ℕ) (piece : IsPieceOf problem (zone_of problem trace z) given quota found cuts more)
    (from : best.height ≤ given) (upto : IsUpToOpening problem given) where
  abbrev named : ℕ → ℕ
  named = zone_named z (length trace)

  abbrev after : List CutAt
  after = appended trace z cuts

  stands : Stands trace z
  stands = here problem trace lefts best cov z has given quota found cuts more piece from upto

  is : IsAppended (whole_zone problem) trace z cuts after
  is = app problem trace lefts best cov z has given quota found cuts more piece from upto

  -- a zone that stands and comes from `z` is a zone of the piece that stands there
  closed-own : (a : ℕ) → Stands after a → ComesFrom after z a →
      Contains (map named more) a ⊎ IsClosedZone problem (zone_of problem after a) (final_height given found)
  closed-own a stands_a comes = elim (is.cases a stands_a) [
    | inl (stood, apart) ↦
        let own = is.only a comes in
        absurd (apart (named-first z (length trace) a own.0 stood.there own.2))
    | inr (j, inside, number) ↦ elim (piece.closed j inside) [
      | inl left ↦ inl (subst (Contains (map named more)) (sym number) (Contains-map named more j left))
      | inr closed ↦ inr (subst (λ n. IsClosedZone problem (zone_of problem after n) (final_height given found)) (sym number)
          (subst (λ zone. IsClosedZone problem zone (final_height given found)) (sym (is.new j inside.there)) closed))
    ]
  ]

  pub piece-block : IsBlock problem (final_height given found) quota trace z (map (cut_named z (length trace)) cuts)
      (map named more)
  piece-block = record {
    few = omega (arith, piece.few, length-map cuts (cut_named z (length trace)));
    own = All-map (λ (cut : CutAt). ComesFrom after z cut.zone) (cut_named z (length trace)) cuts (λ i d within.
        is.comes (get_or cuts i d).zone (cuts-there (zone_of problem trace z) cuts piece.trace_of i d within));
    left_own = All-map (λ a. Stands after a × ComesFrom after z a) named more (λ i d within.
        let inside = piece.left.standing i d within in
        (is.stands (get_or more i d) inside, is.comes (get_or more i d) inside.there));
    different = AllPairs-map (λ one other. one ≢ other) named more (λ i j d less within same.
        piece.left.different i j d less within
        (named-apart z (length trace) stands.there (get_or more i d) (get_or more j d) same));
    closed = closed-own;
    spent = λ some.
        let enough = piece.spent (λ none. some (ap (map named) none)) in
        omega (arith, enough, length-map cuts (cut_named z (length trace)));
  }

-- ---- the zone that is left first is the one that is taken away

without-none : (z : ℕ) (lefts : List ℕ) → All (λ a. z ≢ a) lefts → without z lefts ≡ lefts
without-none z [] apart = refl
without-none z (a ∷ lefts) apart =
    let other : not (a == z) ≡ true = ap not (ne_eqb a z (λ same. apart 0 a (omega arith) (sym same))) in
    rw other (ap (λ rest. a ∷ rest) (without-none z lefts (λ i d within. apart (suc i) d (omega (arith, within)))))

pub without-first : (z : ℕ) (lefts : List ℕ) → AllPairs (λ one other. one ≢ other) (z ∷ lefts) →
    without z (z ∷ lefts) ≡ lefts
without-first z lefts different =
    let gone : not (z == z) ≡ false = ap not (eq-eqb z z refl) in
    rw gone (without-none z lefts (AllPairs-head (λ one other. one ≢ other) z lefts different))

-- the zones left after one more piece of a round
pub lefts-next : (all left : List ℕ) (count z cuts : ℕ) (lefts more : List ℕ) → count < length all →
    lefts ≡ drop count all ++ left → AllPairs (λ one other. one ≢ other) lefts → get_or all count z ≡ z →
    lefts_after z cuts lefts more ≡ drop (count + 1) all ++ (left ++ map (zone_named z cuts) more)
lefts-next all left count z cuts lefts more within are different first =
    let number : count + 1 ≡ suc count = omega arith in
    let begun : drop count all ≡ z ∷ drop (suc count) all = drop-cons all count z within ∙ ap
    (λ a. a ∷ drop (suc count) all) first in
    let whole : lefts ≡ z ∷ (drop (suc count) all ++ left) = are ∙ ap (λ some. some ++ left) begun in
    let kept : without z lefts ≡ drop (suc count) all ++ left = ap (without z) whole ∙ without-first z
    (drop (suc count) all ++ left) (subst (AllPairs (λ one other. one ≢ other)) whole different) in
    ap (λ some. some ++ map (zone_named z cuts) more) kept ∙ append_assoc (drop (suc count) all) left
    (map (zone_named z cuts) more) ∙ ap (λ n. drop n all ++ (left ++ map (zone_named z cuts) more)) (sym number)

-- and the first of them before it
pub lefts-first : (all left : List ℕ) (count d : ℕ) (lefts : List ℕ) → count < length all →
    lefts ≡ drop count all ++ left → get_or lefts 0 d ≡ get_or all count d
lefts-first all left count d lefts within are =
    ap (λ some. get_or some 0 d) (are ∙ ap (λ some. some ++ left) (drop-cons all count d within))
