-- Where the names end among the arguments, and lists of names with one more.
use Rattle.std.proofs.Common.{◌≡◌, ◌≢◌, ℕ, zero, suc, ◌<◌, ◌≤◌, List, [], ◌∷◌, ◌++◌, length, drop, subst, refl, sym, arith}
use Rattle.std.specs.List.{All}
use Rattle.std.proofs.lemmas.List.Elements.{All-nil, All-cons, All-head, All-tail}
use Rattle.tl_base.proofs.Members.{AllPairs-none, AllPairs-cons, AllPairs-head, AllPairs-tail, first-same, rest-same}
use Rattle.tl_command.specs.Ask.{IsDashed, IsNoOption, AreNames}
use Rattle.tl_command.specs.inner.Parts.{IsDashedAtFirst}

-- no name is a list of names
pub names_none : AreNames []
names_none = record { named = All-nil (λ name. name ≢ []); apart = AllPairs-none (λ one other. one ≢ other) }

-- so is one before others that it is none of
pub names_cons : (name : List ℕ) (later : List (List ℕ)) → (name ≢ []) × All (λ other. name ≢ other) later → AreNames later →
    AreNames (name ∷ later)
names_cons name later first rest = record {
  named = All-cons (λ one. one ≢ []) name later first.0 rest.named;
  apart = AllPairs-cons (λ one other. one ≢ other) name later first.1 rest.apart;
}

pub names_head : (name : List ℕ) (later : List (List ℕ)) → AreNames (name ∷ later) →
    (name ≢ []) × All (λ other. name ≢ other) later
names_head name later are = (
  All-head (λ one. one ≢ []) name later are.named,
  AllPairs-head (λ one other. one ≢ other) name later are.apart,
)

pub names_tail : (name : List ℕ) (later : List (List ℕ)) → AreNames (name ∷ later) → AreNames later
names_tail name later are = record {
  named = All-tail (λ one. one ≢ []) name later are.named;
  apart = AllPairs-tail (λ one other. one ≢ other) name later are.apart;
}

-- a first name that may be left out does not begin as an option does
first_plain : (fewest : ℕ) (name : List ℕ) (names : List (List ℕ)) → fewest ≤ 0 → All IsNoOption (drop fewest (name ∷ names)) →
    IsDashed name → ⊥
first_plain zero name names none plain is = All-head IsNoOption name names plain is
first_plain (suc fewest) name names none plain is = absurd (omega arith)

-- names before the first argument that begins as an option does, or up to the most, are told from what follows
pub names_apart : (one other : List (List ℕ)) (fewest most : ℕ) (xs ys : List (List ℕ)) → one ++ xs ≡ other ++ ys →
    fewest ≤ length one → length one ≤ most → fewest ≤ length other → length other ≤ most →
    All IsNoOption (drop fewest one) → (length one < most → IsDashedAtFirst xs) →
    All IsNoOption (drop fewest other) → (length other < most → IsDashedAtFirst ys) → (one ≡ other) × (xs ≡ ys)
names_apart [] [] fewest most xs ys same few many few2 many2 plain dashed plain2 dashed2 = (refl, same)
names_apart [] (name ∷ other) fewest most xs ys same few many few2 many2 plain dashed plain2 dashed2 =
    absurd (first_plain fewest name other few plain2 (subst IsDashedAtFirst same (dashed (omega arith))))
names_apart (name ∷ one) [] fewest most xs ys same few many few2 many2 plain dashed plain2 dashed2 =
    absurd (first_plain fewest name one few2 plain (subst IsDashedAtFirst (sym same) (dashed2 (omega arith))))
names_apart (name ∷ one) (name2 ∷ other) fewest zero xs ys same few many few2 many2 plain dashed plain2 dashed2 =
    absurd (omega arith)
names_apart (name ∷ one) (name2 ∷ other) zero (suc most) xs ys same few many few2 many2 plain dashed plain2 dashed2 =
    let first : name ≡ name2 = first-same name name2 (one ++ xs) (other ++ ys) same in
    let rest : (one ≡ other) × (xs ≡ ys) = names_apart one other zero most xs ys
    (rest-same name name2 (one ++ xs) (other ++ ys) same) (omega arith) (omega arith) (omega arith) (omega arith)
    (All-tail IsNoOption name one plain) (λ less. dashed (omega arith)) (All-tail IsNoOption name2 other plain2)
    (λ less. dashed2 (omega arith)) in
    (cc, rest.1)
names_apart (name ∷ one) (name2 ∷ other) (suc fewest) (suc most) xs ys same few many few2 many2 plain dashed plain2 dashed2 =
    let first : name ≡ name2 = first-same name name2 (one ++ xs) (other ++ ys) same in
    let rest : (one ≡ other) × (xs ≡ ys) = names_apart one other fewest most xs ys
    (rest-same name name2 (one ++ xs) (other ++ ys) same) (omega arith) (omega arith) (omega arith) (omega arith) plain
    (λ less. dashed (omega arith)) plain2 (λ less. dashed2 (omega arith)) in
    (cc, rest.1)
