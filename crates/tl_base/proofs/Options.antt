-- What is told of an option by cases.
use Rattle.std.proofs.Common.{◌≡◌, Option, None, Some, MatchOption, refl}
use Rattle.std.specs.Option.{IfNone}

-- what is given twice is the same
pub Some-same : {A : Type 0} {x y : A} → Some x ≡ Some y → x ≡ y
Some-same same = cc

-- it is nothing, and what is told then is so
pub match-none : {A : Type 0} (o : Option A) (P : Type 0) (Q : A → Type 0) → MatchOption o P Q → ((x : A) → o ≡ Some x → ⊥) → P
match-none None P Q holds not = holds
match-none (Some x) P Q holds not = absurd (not x refl)

pub not-some : {A : Type 0} (o : Option A) (P : Type 0) → IfNone o P → ((x : A) → o ≡ Some x → ⊥) → P
not-some None P holds not = holds
not-some (Some x) P holds not = absurd (not x refl)

-- what is so is so where it is nothing
pub if_none : {A : Type 0} (o : Option A) (P : Type 0) → P → IfNone o P
if_none None P holds = holds
if_none (Some x) P holds = tt
