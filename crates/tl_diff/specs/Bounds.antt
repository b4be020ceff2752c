-- Difference constraints, the assignments that satisfy them, and the tightest bound between two variables.
--
-- An assignment gives each variable a whole number of any sign. A constraint from variable a to variable b says
-- `x_b <= x_a + m`. Such systems are known as difference constraints; a matrix with the tightest bound for each pair is a
-- closed difference bound matrix. All that is said here is said of every assignment that satisfies the constraints.
use Rattle.std.specs.Prelude.{◌≡◌, ℕ, ◌+◌, ◌*◌, ◌<◌, ℤ, pos, ◌+ℤ◌, neg_ℤ, ◌≤ℤ◌, ◌<ℤ◌, Option, None, List, get_or}
use Rattle.std.specs.Option.{ForSome}
use Rattle.tl_diff.specs.declared.matrix.TheConstants.{MAX_BOUND, MAX_VARIABLES}

-- The constraints between n variables, row by row: number a * n + b is the m of `x_b <= x_a + m`, where there is one.
pub record Bounds : Type 0 where
  pub n : ℕ
  pub rows : List (Option ℤ)

-- the constraints between n variables that these rows have
abbrev pub bounds_of : ℕ → List (Option ℤ) → Bounds
bounds_of n rows = record { n = n; rows = rows }

-- the m of the constraint `x_b <= x_a + m`
abbrev pub bound_at : Bounds → ℕ → ℕ → Option ℤ
bound_at bounds a b = get_or bounds.rows (a * bounds.n + b) None

-- the assignment has `x_b <= x_a + m`
abbrev pub MeetsConstraint : (ℕ → ℤ) → ℕ → ℕ → ℤ → Type 0
MeetsConstraint x a b m = x b ≤ℤ (x a +ℤ m)

-- the assignment satisfies every constraint
abbrev pub Satisfies : Bounds → (ℕ → ℤ) → Type 0
Satisfies bounds x = (a b : ℕ) → a < bounds.n → b < bounds.n → ForSome (bound_at bounds a b) (MeetsConstraint x a b)

-- some assignment satisfies every constraint
abbrev pub IsSatisfiable : Bounds → Type 0
IsSatisfiable bounds = (x : ℕ → ℤ) × Satisfies bounds x

-- `x_b <= x_a + m` is implied: every assignment that satisfies the constraints has it
abbrev pub Implies : Bounds → ℕ → ℕ → ℤ → Type 0
Implies bounds a b m = (x : ℕ → ℤ) → Satisfies bounds x → MeetsConstraint x a b m

-- the assignments that satisfy the new constraints are those that satisfy the old ones and have `x_b <= x_a + m`
pub record AddsBound (old new : Bounds) (a b : ℕ) (m : ℤ) : Type 0 where
  pub variables : new.n ≡ old.n
  pub keeps : (x : ℕ → ℤ) → Satisfies new x → Satisfies old x
  pub adds : Implies new a b m
  pub all : (x : ℕ → ℤ) → Satisfies old x → MeetsConstraint x a b m → Satisfies new x

-- m is the greatest `x_b - x_a`: the bound is implied, and some assignment that satisfies the constraints reaches it
pub record IsGreatest (bounds : Bounds) (a b : ℕ) (m : ℤ) : Type 0 where
  pub implied : Implies bounds a b m
  pub reached : (x : ℕ → ℤ) × (Satisfies bounds x × (x b ≡ x a +ℤ m))

-- there is a greatest `x_b - x_a`
abbrev pub HasGreatest : Bounds → ℕ → ℕ → Type 0
HasGreatest bounds a b = (m : ℤ) × IsGreatest bounds a b m

-- there is no greatest `x_b - x_a`: for each number some assignment that satisfies the constraints has more
abbrev pub HasNoGreatest : Bounds → ℕ → ℕ → Type 0
HasNoGreatest bounds a b = (m : ℤ) → (x : ℕ → ℤ) × (Satisfies bounds x × ((x a +ℤ m) <ℤ x b))

-- as each tightest bound is: up to the greatest number of a constraint times the most variables, or as much below 0
abbrev pub IsSmall : ℤ → Type 0
IsSmall m = (neg_ℤ (pos (MAX_BOUND * MAX_VARIABLES)) ≤ℤ m) × (m ≤ℤ pos (MAX_BOUND * MAX_VARIABLES))

-- the assignment that a list gives
abbrev pub assignment_of : List ℤ → ℕ → ℤ
assignment_of xs k = get_or xs k (pos 0)

-- of all assignments with `x_0 = 0` that satisfy the constraints, this one has each variable as small as possible
pub record IsLeast (bounds : Bounds) (x : ℕ → ℤ) : Type 0 where
  pub starts : x 0 ≡ pos 0
  pub satisfies : Satisfies bounds x
  pub least : (y : ℕ → ℤ) → Satisfies bounds y → y 0 ≡ pos 0 → (k : ℕ) → k < bounds.n → x k ≤ℤ y k
