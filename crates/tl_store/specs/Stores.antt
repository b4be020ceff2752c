-- What a store keeps of a problem: nogoods by their numbers, each once, with their bounds in order.
use Rattle.std.specs.Prelude.{◌≡◌, ◌⊎◌, ◌↔◌, ℕ, ◌+◌, ◌*◌, ◌^◌, ◌<◌, ◌≤◌, List, [], ◌∷◌, ◌++◌, Option, None, Some, length, get_or, map}
use Rattle.std.specs.Prelude.{IfSome}
use Rattle.std.specs.List.{All, AllPairs, Contains}
use Rattle.tl_problem.specs.Problem.{ProblemModel}
use Rattle.tl_problem.specs.Spans.{spans_of}
use Rattle.tl_problem.specs.Works.{HasPage}
use Rattle.tl_cert.specs.declared.log.Bound.{Bound}
use Rattle.tl_cert.specs.declared.log.Side.{Side}
use Rattle.tl_cert.specs.declared.log.Side.TheVariants.{Most, Least}
use Rattle.tl_cert.specs.Implied.{Implied}
use Rattle.tl_store.specs.declared.groups.Group.{Group}
use Rattle.tl_store.specs.declared.store.Store.{Store}

-- ---- the order of bounds

-- the place of a bound by its span and its side: "at most" before "at least"
abbrev pub side_place : Side → ℕ
side_place Most = 0
side_place Least = 1

abbrev pub bound_place : Bound → ℕ
bound_place bound = 2 * bound.span + side_place bound.side

-- bounds come by span, "at most" before "at least", and then by width
abbrev pub BoundComesFirst : Bound → Bound → Type 0
BoundComesFirst a b = (bound_place a < bound_place b) ⊎ ((bound_place a ≡ bound_place b) × (a.width < b.width))

-- two lists have the same bounds
abbrev pub HaveSame : List Bound → List Bound → Type 0
HaveSame first second = (bound : Bound) → Contains first bound ↔ Contains second bound

-- ---- what is kept

-- the nogoods of the store, by their numbers
abbrev pub nogoods_of : Store → List (List Bound)
nogoods_of store = map (λ key. key.items) store.kept.keys

-- the bound that the nogoods of a group have is one of these; a group without one is that of no bounds
abbrev pub IsHeadOf : Option Bound → List Bound → Type 0
IsHeadOf None bounds = bounds ≡ []
IsHeadOf (Some bound) bounds = Contains bounds bound

-- the group has the nogood with these bounds, under this number
pub record IsListedBy (group : Group) (bounds : List Bound) (number : ℕ) : Type 0 where
  pub head : IsHeadOf group.head bounds
  pub has : Contains group.numbers.items number

-- one of the groups has the nogood
pub record IsListed (groups : List Group) (bounds : List Bound) (number : ℕ) : Type 0 where
  pub group : Group
  pub there : Contains groups group
  pub listed : IsListedBy group bounds number

-- each nogood is in a group, under its number
abbrev pub AreListed : List Group → List (List Bound) → Type 0
AreListed groups nogoods = (k : ℕ) → k < length nogoods → IsListed groups (get_or nogoods k []) k

-- the bounds of the groups are on spans below a count
abbrev pub AreOnSpans : ℕ → List Group → Type 0
AreOnSpans count groups = All (λ group. IfSome group.head (λ bound. bound.span < count)) groups

-- the store is one of this problem: it leaves the widths within the page, with room for a mark; its nogoods are on spans
-- that are there, and each has its bounds in order and once, and is in a group
pub record IsStoreOf (problem : ProblemModel) (store : Store) : Type 0 where
  pub page : HasPage problem store.work
  pub mark : length store.work.matrix.held < store.work.matrix.marks
  pub spans : All (All (λ bound. bound.span < length (spans_of problem))) (nogoods_of store)
  pub sorted : All (AllPairs BoundComesFirst) (nogoods_of store)
  pub few : length (nogoods_of store) < 2 ^ 32
  pub heads : AreOnSpans (length (spans_of problem)) store.groups.items
  pub listed : AreListed store.groups.items (nogoods_of store)

-- a nogood was put into the store under this number: the first one with the same bounds keeps its number and the store stays
-- as it was; where there is none the nogood comes last
pub record IsAddedNogood (old new : List (List Bound)) (nogood : List Bound) (number : ℕ) : Type 0 where
  pub there : number < length new
  pub same : HaveSame nogood (get_or new number [])
  pub before : number < length old → new ≡ old
  pub last : length old ≤ number → (number ≡ length old) × (new ≡ old ++ get_or new number [] ∷ [])
  pub first : (k : ℕ) → k < length old → HaveSame nogood (get_or old k []) → number < length old

-- ---- what is closed

-- the widths imply no nogood whole
abbrev pub NoneCloses : ProblemModel → (List ℕ → Type 0) → List (List Bound) → Type 0
NoneCloses problem Among nogoods = (k : ℕ) → k < length nogoods → All (Implied problem Among) (get_or nogoods k []) → ⊥

-- this is the first nogood that the widths imply whole
pub record IsFirstClosing (problem : ProblemModel) (Among : List ℕ → Type 0) (nogoods : List (List Bound)) (k : ℕ) : Type 0 where
  pub there : k < length nogoods
  pub implied : All (Implied problem Among) (get_or nogoods k [])
  pub before : (j : ℕ) → j < k → All (Implied problem Among) (get_or nogoods j []) → ⊥
