-- What a line leads to, and what decides its end.
use Rattle.std.proofs.Common.{◌≡◌, ℕ, zero, suc, ◌+◌, ◌-◌, ◌<◌, ◌≤◌, Bool, true, false, not, List, [], ◌∷◌}
use Rattle.std.proofs.Common.{◌++◌, length, get_or, take, drop, map, Option, Some, None, refl, sym, ap, ◌∙◌, subst, arith}
use Rattle.std.specs.Prelude.{MatchOption, IsSomeAnd, IsTrue, ◌↔◌}
use Rattle.std.specs.List.{All, last_or}
use Rattle.std.proofs.lemmas.List.{take_more, get_or_default, map_push}
use Rattle.tl_diff.specs.Bounds.{Bounds, IsSatisfiable}
use Rattle.tl_problem.specs.Problem.{ProblemModel}
use Rattle.tl_problem.specs.Bounds.{HasNoWidths, IsBound}
use Rattle.tl_problem.specs.Areas.{IsAreaBound}
use Rattle.tl_problem.specs.Works as works
use Rattle.tl_problem.specs.Works.{places}
use Rattle.tl_problem.proofs.BoundLaws.{bound-unique}
use Rattle.tl_problem.proofs.AreaLaws.{area-unique}
use Rattle.tl_problem.proofs.SetLaws.{found_bound-same, found_area-same}
use Rattle.tl_problem.proofs.WorkLemmas.{left-some}
use Rattle.tl_cert.specs.declared.log.Bound.{Bound}
use Rattle.tl_cert.specs.declared.log.End.{End}
use Rattle.tl_cert.specs.declared.log.End.TheVariants.{Fired, Cycle, Chain, Area}
use Rattle.tl_cert.specs.declared.log.LogLine.{LogLine}
use Rattle.tl_cert.specs.declared.log.Nogood.TheVariants.{Zone}
use Rattle.tl_cert.specs.declared.trace.CutAt.{CutAt}
use Rattle.tl_cert.specs.Nogoods.{NamesAreThere, nogood_bounds}
use Rattle.tl_cert.specs.Implied.{IsLeft, Implied}
use Rattle.tl_cert.specs.Lines.{Fires, LineEndsBy, IsGoodLine, fired, nogood_at}
use Rattle.tl_cert.proofs.FireLaws.{fires-unique, fires-split}
use Rattle.tl_check.specs.Matrices.{IsMatrixOf}
use Rattle.std.proofs.lemmas.List.Elements.{All-contains}
use Rattle.tl_check.specs.declared.left.Left.{Left}
use Rattle.tl_check.specs.declared.left.Left.TheVariants.{Nothing, One, More}
use Rattle.tl_check.specs.inner.Firing.{HasLeft, LeadsTo, NeverFires, LeadsToEnd}

-- ---- sets that hold each other have one end

some-same : {X : Type 0} (P Q : X → Type 0) → ((x : X) → P x → Q x) → (o : Option X) → IsSomeAnd o P → IsSomeAnd o Q
some-same P Q to None h = h
some-same P Q to (Some x) h = to x h

pub ends-same : (problem : ProblemModel) (A B : List ℕ → Type 0) → ((widths : List ℕ) → A widths → B widths) →
    ((widths : List ℕ) → B widths → A widths) →
    (nogoods : List (List Bound)) (lower : ℕ) (end : End) → LineEndsBy problem A nogoods lower end →
    LineEndsBy problem B nogoods lower end
ends-same problem A B to from nogoods lower Cycle none = λ widths left. none widths (from widths left)
ends-same problem A B to from nogoods lower Chain (bound, is, enough) =
    (bound, found_bound-same problem A B to from (Some bound) is, enough)
ends-same problem A B to from nogoods lower Area (bound, is, enough) =
    (bound, found_area-same problem A B to from (Some bound) is, enough)
ends-same problem A B to from nogoods lower Fired last =
    some-same (All (Implied problem A)) (All (Implied problem B))
    (λ nogood all k d within widths left. all k d within widths (from widths left))
    (last_or None nogoods) last

-- ---- each end

pub cycle-decided : (problem : ProblemModel) (bounds : Bounds) → IsMatrixOf problem bounds → (holds : Bool) →
    (IsTrue holds ↔ IsSatisfiable bounds) →
    (IsTrue (not holds) ↔ HasNoWidths (works.AreAllowed problem bounds))
cycle-decided problem bounds keeps true is = (
  λ never. absurd cc,
  λ none. let some = left-some problem bounds keeps.page (is.0 refl) in absurd (none some.0 some.1),
)
cycle-decided problem bounds keeps false is = (
  λ yes widths left. let some = is.1 (places problem widths, left.satisfies) in absurd cc,
  λ none. refl,
)

pub chain-decided : (problem : ProblemModel) (Among : List ℕ → Type 0) (lower : ℕ) (o : Option ℕ) →
    MatchOption o (HasNoWidths Among) (IsBound problem Among) →
    (IsSomeAnd o (λ bound. lower ≤ bound) ↔ ((bound : ℕ) × IsBound problem Among bound × (lower ≤ bound)))
chain-decided problem Among lower None none = (λ never. absurd never, λ found. absurd (none found.1.some.0 found.1.some.1))
chain-decided problem Among lower (Some bound) is = (
  λ enough. (bound, is, enough),
  λ found. let same = bound-unique problem Among bound found.0 is found.1 in omega (arith, same, found.2),
)

pub area-decided : (problem : ProblemModel) (Among : List ℕ → Type 0) (lower : ℕ) (o : Option ℕ)
    → MatchOption o (HasNoWidths Among) (IsAreaBound problem Among) →
    (IsSomeAnd o (λ bound. lower ≤ bound) ↔ ((bound : ℕ) × IsAreaBound problem Among bound × (lower ≤ bound)))
area-decided problem Among lower None none = (λ never. absurd never, λ found. absurd (none found.1.some.0 found.1.some.1))
area-decided problem Among lower (Some bound) is = (
  λ enough. (bound, is, enough),
  λ found. let same = area-unique problem Among bound found.0 is found.1 in omega (arith, same, found.2),
)

pub nothing-decided : (problem : ProblemModel) (Among : List ℕ → Type 0) (nogood : List Bound) (left : Left) →
    HasLeft problem Among nogood left →
    ((left ≡ Nothing) ↔ All (Implied problem Among) nogood)
nothing-decided problem Among nogood Nothing all = (λ same. all, λ also. refl)
nothing-decided problem Among nogood (One bound) one = (
  λ same. absurd cc,
  λ all. absurd (one.not_implied (All-contains (Implied problem Among) nogood bound all one.among)),
)
nothing-decided problem Among nogood More two = (
  λ same. absurd cc,
  λ all. absurd (two.not_implied (All-contains (Implied problem Among) nogood two.one all two.among)),
)

-- the last of the images is the image of the last
abbrev pub image : {X Y : Type 0} → (X → Y) → Option X → Option Y
image f None = None
image f (Some x) = Some (f x)

pub last-map : {X Y : Type 0} (f : X → Y) (o : Option X) (xs : List X) → last_or (image f o) (map f xs) ≡ image f (last_or o xs)
last-map f o [] = refl
last-map f o (x ∷ xs) = last-map f (Some x) xs

pub last-get : {X : Type 0} (o : Option X) (xs : List X) (d : X) → 0 < length xs →
    last_or o xs ≡ Some (get_or xs (length xs - 1) d)
last-get o [] d long = absurd (omega arith)
last-get o (x ∷ []) d long =
    let e : length (x ∷ []) - 1 ≡ 0 = omega arith in
    sym (ap (λ n. Some (get_or (x ∷ []) n d)) e)
last-get o (x ∷ y ∷ ys) d long =
    let e : length (x ∷ y ∷ ys) - 1 ≡ suc (length ys) = omega arith in
    let f : length (y ∷ ys) - 1 ≡ length ys = omega arith in
    last-get (Some x) (y ∷ ys) d (omega arith) ∙ ap (λ n. Some (get_or (y ∷ ys) n d)) f ∙ sym
    (ap (λ n. Some (get_or (x ∷ y ∷ ys) n d)) e)

pub none-last : {X Y : Type 0} (f : X → Y) (P : Y → Type 0) (xs : List X) → length xs ≡ 0 →
    IsSomeAnd (last_or None (map f xs)) P → ⊥
none-last f P [] none h = h
none-last f P (x ∷ xs) none h = omega arith

-- ---- the nogoods that are fired, one after the other

module _ (problem : ProblemModel) (trace : List CutAt) (log : List LogLine) (line : LogLine) where
  abbrev pub bounds_at : ℕ → List Bound
  bounds_at f = nogood_bounds problem trace (nogood_at log f)

  -- the nogood of a line by its number
  pub nogood-at : (f : ℕ) (item : LogLine) → f < length log → item ≡ get_or log f item → nogood_at log f ≡ item.nogood
  nogood-at f item within is = ap (λ (l : LogLine). l.nogood)
      (get_or_default log f (record { nogood = Zone 0; fires = []; end = Cycle }) item within ∙ sym is)

  pub fired-next : (i : ℕ) (item : LogLine) → i < length line.fires → get_or line.fires i 0 < length log →
      item ≡ get_or log (get_or line.fires i 0) item →
      map bounds_at (take i line.fires) ++ nogood_bounds problem trace item.nogood ∷ [] ≡ map bounds_at (take (i + 1) line.fires)
  fired-next i item within there is =
      let f = get_or line.fires i 0 in
      ap (λ nogood. map bounds_at (take i line.fires) ++ nogood_bounds problem trace nogood ∷ [])
      (sym (nogood-at f item there is))
      ∙ sym (ap (map bounds_at) (take_more line.fires i 0 within) ∙ map_push bounds_at (take i line.fires) f)

  -- what can never be fired can never be fired with more after it
  pub never-longer : (given : List Bound) (nogoods more : List (List Bound)) → NeverFires problem given nogoods →
      NeverFires problem given (nogoods ++ more)
  never-longer given nogoods more never last fires = let split = fires-split problem given [] nogoods more last fires in
      never split.0 split.1

  pub never-all : (given : List Bound) (n : ℕ) → NeverFires problem given (map bounds_at (take n line.fires))
      → NeverFires problem given (fired problem trace log line)
  never-all given n never last fires = never-longer given (map bounds_at (take n line.fires))
      (map bounds_at (drop n line.fires)) never last
      (subst (λ l. Fires problem given [] l last) (parts n line.fires) fires)
    where
      parts : (n : ℕ) (fs : List ℕ) → map bounds_at fs ≡ map bounds_at (take n fs) ++ map bounds_at (drop n fs)
      parts zero fs = refl
      parts (suc n) [] = refl
      parts (suc n) (f ∷ fs) = ap (λ l. bounds_at f ∷ l) (parts n fs)

  -- ---- the end

  abbrev given_of : List Bound
  given_of = nogood_bounds problem trace line.nogood

  pub leads-decided : (lower : ℕ) (bounds : Bounds) → LeadsTo problem given_of (fired problem trace log line) bounds →
      (r : Bool) →
      (IsTrue r ↔ LineEndsBy problem (works.AreAllowed problem bounds) (fired problem trace log line) lower line.end) →
      (IsTrue r ↔ LeadsToEnd problem trace log line lower)
  leads-decided lower bounds leads r ends = (
    λ yes. record {
      joined = leads.joined;
      fires = leads.fires;
      ends = ends-same problem (works.AreAllowed problem bounds) (IsLeft problem given_of leads.joined)
          leads.describes.to leads.describes.from
          (fired problem trace log line) lower line.end (ends.0 yes);
    },
    λ h.
        let same = fires-unique problem given_of [] (fired problem trace log line) h.joined leads.joined h.fires leads.fires in
        ends.1 (ends-same problem (IsLeft problem given_of leads.joined) (works.AreAllowed problem bounds)
        leads.describes.from leads.describes.to
        (fired problem trace log line) lower line.end
        (subst (λ js. LineEndsBy problem (IsLeft problem given_of js)
        (fired problem trace log line) lower line.end) same h.ends)),
  )

  pub good-decided : (lower k : ℕ) → NamesAreThere problem trace line.nogood →
      All (λ f. (f < k) × NamesAreThere problem trace (nogood_at log f)) line.fires →
      (r : Bool) → (IsTrue r ↔ LeadsToEnd problem trace log line lower) → (IsTrue r ↔ IsGoodLine problem trace log lower k line)
  good-decided lower k names earlier r leads = (
    λ yes. let h = leads.0 yes in record { names = names; earlier = earlier; joined = h.joined; fires = h.fires; ends = h.ends },
    λ good. leads.1 (record { joined = good.joined; fires = good.fires; ends = good.ends }),
  )
