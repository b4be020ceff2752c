-- Bounds that are taken away one at a time.
use Rattle.std.proofs.Common.{◌≡◌, ◌≢◌, ℕ, zero, suc, ◌+◌, ◌<◌, ◌≤◌, List, [], ◌∷◌, inl, inr}
use Rattle.std.proofs.Common.{Result, Ok, Err, length, get_or, refl, sym, ◌∙◌, subst, arith}
use Rattle.std.specs.List.{AllPairs, Contains, remove}
use Rattle.std.specs.Result.{IfOk}
use Rattle.std.proofs.lemmas.Bool.{cases_lt}
use Rattle.std.proofs.lemmas.List.Elements.{All-contains}
use Rattle.std.proofs.lemmas.List.Edits.{length-remove}
use Rattle.std.proofs.lemmas.List.Quantifiers.{all_pairs_remove}
use Rattle.tl_base.proofs.Members.{Contains-first, Contains-later, Contains-cases, Contains-none, AllPairs-head, AllPairs-tail}
use Rattle.tl_problem.specs.Problem.{ProblemModel}
use Rattle.tl_problem.specs.Sound.{IsSound}
use Rattle.tl_cert.specs.declared.limits.TheConstants.{MAX_BOUNDS}
use Rattle.tl_cert.specs.declared.log.Bound.{Bound}
use Rattle.tl_cert.specs.declared.log.LogLine.{LogLine}
use Rattle.tl_cert.specs.declared.trace.CutAt.{CutAt}
use Rattle.tl_cert.specs.Traces.{IsTraceOf}
use Rattle.tl_cert.specs.Nogoods.{nogood_bounds}
use Rattle.tl_cert.specs.Lines.{IsGoodLine}
use Rattle.tl_cert.specs.Learnt.{with_bounds, AreAllBut, IsMinimalLine}
use Rattle.tl_cert.proofs.ZoneBounds.{lt_test, not_lt_test}
use Rattle.tl_store.specs.Stores.{BoundComesFirst, HaveSame}
use Rattle.tl_store.specs.Shrunk.{IsShrunk}
use Rattle.tl_store.specs.inner.Passes.{AreLessened, NoneIsTaken, nogood_with, line_with}
use Rattle.tl_store.proofs.BoundOrder.{first-apart}
use Rattle.tl_store.proofs.SameBounds.{good-same, good-written, good-zero, zero-bounds}

-- ---- one bound less

get-inside : (xs : List Bound) (i : ℕ) (d : Bound) → i < length xs → Contains xs (get_or xs i d)
get-inside [] i d within = absurd (omega (arith, within))
get-inside (x ∷ xs) zero d within = Contains-first x xs
get-inside (x ∷ xs) (suc i) d within = Contains-later x xs (get_or xs i d) (get-inside xs i d (omega (arith, within)))

-- of bounds that differ those without one place are the others
pub remove-others : (xs : List Bound) (i : ℕ) (d : Bound) → AllPairs (λ a b. a ≢ b) xs → i < length xs →
    AreAllBut xs (get_or xs i d) (remove xs i)
remove-others [] i d apart within = absurd (omega (arith, within))
remove-others (x ∷ xs) zero d apart within = record {
  among = Contains-first x xs;
  each = λ other. (
    λ has. (
      Contains-later x xs other has,
      λ same. All-contains (λ y. x ≢ y) xs other (AllPairs-head (λ a b. a ≢ b) x xs apart) has (sym same),
    ),
    λ both. elim (Contains-cases x xs other both.0) [
      | inl same ↦ absurd (both.1 (sym same))
      | inr later ↦ later
    ],
  );
}
remove-others (x ∷ xs) (suc i) d apart within =
    let inside : i < length xs = omega (arith, within) in
    let rest = remove-others xs i d (AllPairs-tail (λ a b. a ≢ b) x xs apart) inside in
    let differ = All-contains (λ y. x ≢ y) xs (get_or xs i d) (AllPairs-head (λ a b. a ≢ b) x xs apart)
    (get-inside xs i d inside) in
    record {
      among = Contains-later x xs (get_or xs i d) rest.among;
      each = λ other. (
        λ has. elim (Contains-cases x (remove xs i) other has) [
          | inl same ↦ (
            subst (Contains (x ∷ xs)) same (Contains-first x xs),
            λ gone. differ (same ∙ gone),
          )
          | inr later ↦ (Contains-later x xs other ((rest.each other).0 later).0, ((rest.each other).0 later).1)
        ],
        λ both. elim (Contains-cases x xs other both.0) [
          | inl same ↦ subst (Contains (x ∷ remove xs i)) same (Contains-first x (remove xs i))
          | inr later ↦ Contains-later x (remove xs i) other ((rest.each other).1 (later, both.1))
        ],
      );
    }

pub sorted-apart : (xs : List Bound) → AllPairs BoundComesFirst xs → AllPairs (λ a b. a ≢ b) xs
sorted-apart xs sorted i j d before within = first-apart (get_or xs i d) (get_or xs j d) (sorted i j d before within)

others-same : (bounds : List Bound) (bound : Bound) (first second : List Bound) → AreAllBut bounds bound first →
    AreAllBut bounds bound second → HaveSame first second
others-same bounds bound first second one other b = (
  λ has. (other.each b).1 ((one.each b).0 has),
  λ has. (one.each b).1 ((other.each b).0 has),
)

-- ---- lines

module _ (problem : ProblemModel) (trace : List CutAt) (log : List LogLine) (lower : ℕ) (line : LogLine) where
  -- bounds of which none can be taken make a minimal line
  pub taken-minimal : (bounds : List Bound) → AllPairs BoundComesFirst bounds →
      NoneIsTaken problem trace log lower line bounds (length bounds) →
      IsMinimalLine problem trace log lower (length log) (with_bounds line bounds)
  taken-minimal bounds sorted none bound others are good =
      let place = are.among in
      let at : get_or bounds place.0 bound ≡ bound = place.2 in
      let gone = subst (λ b. AreAllBut bounds b (remove bounds place.0)) at
      (remove-others bounds place.0 bound (sorted-apart bounds sorted) place.1) in
      none place.0 place.1 (good-same problem trace log lower (length log) line others (remove bounds place.0)
      (others-same bounds bound others (remove bounds place.0) are gone) good)

  -- one bound less leaves the line lessened, where it is good
  pub lessened-remove : (bounds : List Bound) (i : ℕ) → i < length bounds → AreLessened problem trace log lower line bounds →
      IsGoodLine problem trace log lower (length log) (with_bounds line (remove bounds i)) →
      AreLessened problem trace log lower line (remove bounds i)
  lessened-remove bounds i within is good = record {
    sorted = all_pairs_remove BoundComesFirst bounds i within is.sorted;
    among = λ bound has. is.among bound (((remove-others bounds i bound (sorted-apart bounds is.sorted) within).each bound).0
        has).0;
    no_more = omega (arith, is.no_more, length-remove bounds i within);
    good = good;
  }

  -- the bounds in order, each once, are those with which the line is good
  pub lessened-start : IsSound problem → IsTraceOf problem trace → IsGoodLine problem trace log lower (length log) line →
      (bounds : List Bound) → AllPairs BoundComesFirst bounds → HaveSame (nogood_bounds problem trace line.nogood) bounds →
      length bounds ≤ length (nogood_bounds problem trace line.nogood) → AreLessened problem trace log lower line bounds
  lessened-start sound is good bounds sorted same few = record {
    sorted = sorted;
    among = λ bound has. (same bound).1 has;
    no_more = few;
    good = good-same problem trace log lower (length log) line (nogood_bounds problem trace line.nogood) bounds same
        (good-written problem sound trace is log lower (length log) line good);
  }

  pub none-next : (bounds : List Bound) (upto : ℕ) → NoneIsTaken problem trace log lower line bounds upto →
      (IsGoodLine problem trace log lower (length log) (with_bounds line (remove bounds upto)) → ⊥) →
      NoneIsTaken problem trace log lower line bounds (upto + 1)
  none-next bounds upto before now i less good = elim (cases_lt i upto) [
    | inl old ↦ before i old good
    | inr new ↦
        let here : i ≡ upto = omega (arith, less, new) in
        now (subst (λ k. IsGoodLine problem trace log lower (length log) (with_bounds line (remove bounds k))) here good)
  ]

  -- the line is shrunk
  pub line-shrunk : IsTraceOf problem trace → IsGoodLine problem trace log lower (length log) line → (bounds : List Bound) →
      AreLessened problem trace log lower line bounds → NoneIsTaken problem trace log lower line bounds (length bounds) →
      IsShrunk problem trace log lower (length log) line (line_with line bounds)
  line-shrunk is good bounds less none = elim (cases_lt MAX_BOUNDS (length bounds)) [
    | inl long ↦ rw (lt_test MAX_BOUNDS (length bounds) long) (record {
      good = good;
      fires = refl;
      end = refl;
      among = λ bound has. has;
      small = inr (
        refl,
        record {
          bounds = bounds;
          long = long;
          no_more = less.no_more;
          apart = sorted-apart bounds less.sorted;
          among = less.among;
          good = less.good;
          minimal = taken-minimal bounds less.sorted none;
        },
      );
    })
    | inr few ↦ rw (not_lt_test MAX_BOUNDS (length bounds) few) (short bounds less none few)
  ] where
    short : (xs : List Bound) → AreLessened problem trace log lower line xs →
        NoneIsTaken problem trace log lower line xs (length xs) → length xs ≤ MAX_BOUNDS →
        IsShrunk problem trace log lower (length log) line (record {
          nogood = nogood_with xs;
          fires = line.fires;
          end = line.end;
        })
    short [] is_less none_taken few = record {
      good = good-zero problem trace is log lower (length log) line is_less.good;
      fires = refl;
      end = refl;
      among = λ bound has. absurd (Contains-none bound (subst (λ (bounds : List Bound). Contains bounds bound)
          (zero-bounds problem trace is) has));
      small = inl (
        (λ bound others are _. Contains-none bound (subst (λ (bounds : List Bound). Contains bounds bound)
            (zero-bounds problem trace is) are.among)),
        refl,
      );
    }
    short (x ∷ xs) is_less none_taken few = record {
      good = is_less.good;
      fires = refl;
      end = refl;
      among = is_less.among;
      small = inl (
        taken-minimal (x ∷ xs) is_less.sorted none_taken,
        record { some = omega arith; most = few; sorted = is_less.sorted },
      );
    }

-- what holds of a value holds of a result that is it
pub ok-same : {X E : Type 0} (P : X → Type 0) (result : Result X E) (x : X) → IfOk result (λ y. y ≡ x) → P x → IfOk result P
ok-same P (Ok y) x same holds = subst P (sym same) holds
ok-same P (Err error) x same holds = tt
