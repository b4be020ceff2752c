-- The greatest and the least measure of the items that count, one item at a time.
use Rattle.std.proofs.Common.{◌≡◌, ◌∙◌, ℕ, ◌+◌, ◌<◌, ◌≤◌, max, min, Option, None, Some, MatchOption, List, [], ◌∷◌, ◌++◌, ◌⊎◌}
use Rattle.std.proofs.Common.{inl, inr, length}
use Rattle.std.proofs.Common.{get_or, take, refl, sym, subst, arith, length-append}
use Rattle.std.specs.List.{All, Any}
use Rattle.std.proofs.Math.Seq.{get_or-append_seam}
use Rattle.std.proofs.lemmas.Bool.{cases_lt}
use Rattle.std.proofs.lemmas.List.{get_or_append_left}
use Rattle.std.proofs.lemmas.List.Elements.{All-push}
use Rattle.tl_base.proofs.Taken.{taken_more}
use Rattle.tl_form.specs.inner.Collecting.{IsMost, IsFewest, greater, lesser}

module _ {X : Type 0} (Counts : X → Type 0) (measure : X → ℕ) where
  -- none of the items counts
  abbrev pub NoneCounts : List X → Type 0
  NoneCounts xs = All (λ x. Counts x → ⊥) xs

  earlier : (P : X → Type 0) (xs : List X) (x : X) → Any P xs → Any P (xs ++ x ∷ [])
  earlier P xs x has = (
    has.0,
    has.1,
    omega (arith, has.2, length-append xs (x ∷ [])),
    get_or_append_left xs (x ∷ []) has.1 has.0 has.2 ∙ has.3,
    has.4,
  )

  here : (P : X → Type 0) (xs : List X) (x : X) → P x → Any P (xs ++ x ∷ [])
  here P xs x is = (length xs, x, omega (arith, length-append xs (x ∷ [])), get_or-append_seam xs x [] x, is)

  pub none_skips : (xs : List X) (x : X) → NoneCounts xs → (Counts x → ⊥) → NoneCounts (xs ++ x ∷ [])
  none_skips xs x none other = All-push (λ y. Counts y → ⊥) xs x none other

  pub most_skips : (xs : List X) (x : X) (most : ℕ) → IsMost Counts measure xs most → (Counts x → ⊥) →
      IsMost Counts measure (xs ++ x ∷ []) most
  most_skips xs x most is other = record {
    attained = earlier (λ y. Counts y × (measure y ≡ most)) xs x is.attained;
    never_more = All-push (λ y. Counts y → measure y ≤ most) xs x is.never_more (λ counts. absurd (other counts));
  }

  pub most_begins : (xs : List X) (x : X) → NoneCounts xs → Counts x → IsMost Counts measure (xs ++ x ∷ []) (measure x)
  most_begins xs x none counts = record {
    attained = here (λ y. Counts y × (measure y ≡ measure x)) xs x (counts, refl);
    never_more = All-push (λ y. Counts y → measure y ≤ measure x) xs x (λ k d within is. absurd (none k d within is))
        (λ is. omega arith);
  }

  pub most_grows : (xs : List X) (x : X) (most : ℕ) → IsMost Counts measure xs most → Counts x →
      IsMost Counts measure (xs ++ x ∷ []) (max most (measure x))
  most_grows xs x most is counts = record {
    attained = by_case (cases_lt most (measure x));
    never_more = All-push (λ y. Counts y → measure y ≤ max most (measure x)) xs x
        (λ k d within each. omega (arith, is.never_more k d within each)) (λ each. omega arith);
  } where
    by_case : (most < measure x) ⊎ (measure x ≤ most) → Any (λ y. Counts y × (measure y ≡ max most (measure x))) (xs ++ x ∷ [])
    by_case (inl more) = here (λ y. Counts y × (measure y ≡ max most (measure x))) xs x (counts, omega arith)
    by_case (inr less) =
        let same : max most (measure x) ≡ most = omega arith in
        subst (λ n. Any (λ y. Counts y × (measure y ≡ n)) (xs ++ x ∷ [])) (sym same)
        (earlier (λ y. Counts y × (measure y ≡ most)) xs x is.attained)

  pub fewest_skips : (xs : List X) (x : X) (fewest : ℕ) → IsFewest Counts measure xs fewest → (Counts x → ⊥) →
      IsFewest Counts measure (xs ++ x ∷ []) fewest
  fewest_skips xs x fewest is other = record {
    attained = earlier (λ y. Counts y × (measure y ≡ fewest)) xs x is.attained;
    never_less = All-push (λ y. Counts y → fewest ≤ measure y) xs x is.never_less (λ counts. absurd (other counts));
  }

  pub fewest_begins : (xs : List X) (x : X) → NoneCounts xs → Counts x → IsFewest Counts measure (xs ++ x ∷ []) (measure x)
  fewest_begins xs x none counts = record {
    attained = here (λ y. Counts y × (measure y ≡ measure x)) xs x (counts, refl);
    never_less = All-push (λ y. Counts y → measure x ≤ measure y) xs x (λ k d within is. absurd (none k d within is))
        (λ is. omega arith);
  }

  pub fewest_falls : (xs : List X) (x : X) (fewest : ℕ) → IsFewest Counts measure xs fewest → Counts x →
      IsFewest Counts measure (xs ++ x ∷ [])
      (min fewest (measure x))
  fewest_falls xs x fewest is counts = record {
    attained = by_case (cases_lt (measure x) fewest);
    never_less = All-push (λ y. Counts y → min fewest (measure x) ≤ measure y) xs x
        (λ k d within each. omega (arith, is.never_less k d within each)) (λ each. omega arith);
  } where
    by_case : (measure x < fewest) ⊎ (fewest ≤ measure x) → Any (λ y. Counts y × (measure y ≡ min fewest (measure x)))
        (xs ++ x ∷ [])
    by_case (inl less) = here (λ y. Counts y × (measure y ≡ min fewest (measure x))) xs x (counts, omega arith)
    by_case (inr more) =
        let same : min fewest (measure x) ≡ fewest = omega arith in
        subst (λ n. Any (λ y. Counts y × (measure y ≡ n)) (xs ++ x ∷ [])) (sym same)
        (earlier (λ y. Counts y × (measure y ≡ fewest)) xs x is.attained)

  -- what is known of the items so far, with one more that counts, and with one that does not
  abbrev pub BestMost : List X → Option ℕ → Type 0
  BestMost xs known = MatchOption known (NoneCounts xs) (IsMost Counts measure xs)

  abbrev pub BestFewest : List X → Option ℕ → Type 0
  BestFewest xs known = MatchOption known (NoneCounts xs) (IsFewest Counts measure xs)

  pub most_counted : (xs : List X) (i : ℕ) (x : X) (known : Option ℕ) → i < length xs → x ≡ get_or xs i x →
      BestMost (take i xs) known → Counts x →
      BestMost (take (i + 1) xs) (Some (greater known (measure x)))
  most_counted xs i x known within is best counts =
      subst (λ ys. IsMost Counts measure ys (greater known (measure x))) (sym (taken_more xs i x x within is)) (by_known known best)
    where
      by_known : (known : Option ℕ) → BestMost (take i xs) known →
          IsMost Counts measure (take i xs ++ x ∷ []) (greater known (measure x))
      by_known None none = most_begins (take i xs) x none counts
      by_known (Some most) best = most_grows (take i xs) x most best counts

  pub most_skipped : (xs : List X) (i : ℕ) (x : X) (known : Option ℕ) → i < length xs → x ≡ get_or xs i x →
      BestMost (take i xs) known →
      (Counts x → ⊥) → BestMost (take (i + 1) xs) known
  most_skipped xs i x known within is best other =
      subst (λ ys. BestMost ys known) (sym (taken_more xs i x x within is)) (by_known known best)
    where
      by_known : (known : Option ℕ) → BestMost (take i xs) known → BestMost (take i xs ++ x ∷ []) known
      by_known None none = none_skips (take i xs) x none other
      by_known (Some most) best = most_skips (take i xs) x most best other

  pub fewest_counted : (xs : List X) (i : ℕ) (x : X) (known : Option ℕ) → i < length xs → x ≡ get_or xs i x →
      BestFewest (take i xs) known → Counts x →
      BestFewest (take (i + 1) xs) (Some (lesser known (measure x)))
  fewest_counted xs i x known within is best counts =
      subst (λ ys. IsFewest Counts measure ys (lesser known (measure x))) (sym (taken_more xs i x x within is)) (by_known known best)
    where
      by_known : (known : Option ℕ) → BestFewest (take i xs) known →
          IsFewest Counts measure (take i xs ++ x ∷ []) (lesser known (measure x))
      by_known None none = fewest_begins (take i xs) x none counts
      by_known (Some fewest) best = fewest_falls (take i xs) x fewest best counts

  pub fewest_skipped : (xs : List X) (i : ℕ) (x : X) (known : Option ℕ) → i < length xs → x ≡ get_or xs i x →
      BestFewest (take i xs) known →
      (Counts x → ⊥) → BestFewest (take (i + 1) xs) known
  fewest_skipped xs i x known within is best other =
      subst (λ ys. BestFewest ys known) (sym (taken_more xs i x x within is)) (by_known known best)
    where
      by_known : (known : Option ℕ) → BestFewest (take i xs) known → BestFewest (take i xs ++ x ∷ []) known
      by_known None none = none_skips (take i xs) x none other
      by_known (Some fewest) best = fewest_skips (take i xs) x fewest best other
