-- Which zones have lines, and which nogoods a log has, once a line is put or a cut is made.
use Rattle.std.proofs.Common.{◌≡◌, ◌≢◌, ℕ, ◌+◌, ◌-◌, ◌*◌, ◌<◌, ◌≤◌, List, [], ◌∷◌, ◌++◌, inl, inr, length, get_or, set, take, cond}
use Rattle.std.proofs.Common.{true, false, Option, Some, None, refl, sym, ap, ◌∙◌, subst, arith, length-append}
use Rattle.std.specs.Option.{is_some}
use Rattle.std.specs.List.{All, Contains, count_by}
use Rattle.std.proofs.lemmas.Bool.{cases_lt}
use Rattle.std.proofs.lemmas.List.{get_or-map, get_or_append_left, get_or_push, get_or_past, get_or-set_same, get_or-set_other, get_or_default}
use Rattle.std.proofs.lemmas.List.{length-map, length-set, map_push}
use Rattle.std.proofs.lemmas.List.Sums.{sum_by-set, sum_by-append}
use Rattle.tl_problem.specs.declared.zone.Range.{Range}
use Rattle.tl_problem.specs.Problem.{ProblemModel}
use Rattle.tl_problem.specs.Zones.{InZone, whole_zone}
use Rattle.tl_problem.proofs.ZoneLaws.{cases_eq}
use Rattle.tl_cert.specs.declared.log.Bound.{Bound}
use Rattle.tl_cert.specs.declared.log.End.TheVariants.{Cycle}
use Rattle.tl_cert.specs.declared.log.LogLine.{LogLine}
use Rattle.tl_cert.specs.declared.log.Nogood.TheVariants.{Zone}
use Rattle.tl_cert.specs.declared.trace.CutAt.{CutAt}
use Rattle.tl_cert.specs.Implied.{Implied}
use Rattle.tl_cert.specs.Learnt.{nogoods_in}
use Rattle.tl_cert.specs.Lines.{nogood_at}
use Rattle.tl_cert.specs.Nogoods.{nogood_bounds, zone_bounds}
use Rattle.tl_cert.proofs.TraceLaws.{zone-old}
use Rattle.tl_solve.proofs.OrderLaws.{at-each-push}
use Rattle.tl_store.specs.Stores.{HaveSame}
use Rattle.tl_branch.specs.Learn.{IsUnclosed}
use Rattle.tl_branch.specs.inner.Learnings.{HasLine, IsOfZone, AreLinesOf, KeepsLog, WereKnown, HasEnd}
use Rattle.tl_branch.proofs.Good.{GoesOn, map-same, bounds-on}

-- ---- a line of a zone

pub has-set : (lines : List (Option ℕ)) (z k y : ℕ) → z < length lines → HasLine lines y → HasLine (set lines z (Some k)) y
has-set lines z k y within has = elim (cases_eq y z) [
  | inl same ↦ (
    k,
    ap (λ (n : ℕ). get_or (set lines z (Some k)) n None) same ∙ get_or-set_same lines z (Some k) None within,
  )
  | inr apart ↦ (has.0, get_or-set_other lines z y (Some k) None apart ∙ has.1)
]

-- no other zone got it
pub has-other : (lines : List (Option ℕ)) (z k y : ℕ) → y ≢ z → HasLine (set lines z (Some k)) y → HasLine lines y
has-other lines z k y apart has = (has.0, sym (get_or-set_other lines z y (Some k) None apart) ∙ has.1)

-- a look at the line of a zone
pub none-there : (lines : List (Option ℕ)) (z : ℕ) (o : Option ℕ) → z < length lines → o ≡ get_or lines z o → is_some o ≡ false →
    get_or lines z None ≡ None
none-there lines z None within at no_line_there = sym at
none-there lines z (Some k) within at no_line_there = absurd cc

pub some-there : (lines : List (Option ℕ)) (z : ℕ) (o : Option ℕ) → z < length lines → o ≡ get_or lines z o → is_some o ≡ true →
    HasLine lines z
some-there lines z None within at some_line = absurd cc
some-there lines z (Some k) within at some_line = (k, get_or_default lines z None (Some k) within ∙ sym at)

count-set : (lines : List (Option ℕ)) (z k : ℕ) → z < length lines → get_or lines z None ≡ None →
    count_by is_some (set lines z (Some k)) ≡ count_by is_some lines + 1
count-set lines z k within none =
    let f = λ (o : Option ℕ). cond (is_some o) 1 0 in
    let sums = sum_by-set f lines z (Some k) None within in
    let zero_there : f (get_or lines z None) ≡ 0 = ap f none in
    omega (arith, sums, zero_there)

module _ (problem : ProblemModel) (trace : List CutAt) where
  pub of-zone-push : (nogoods : List (List Bound)) (x : List Bound) (z k : ℕ) → IsOfZone problem trace nogoods z k →
      IsOfZone problem trace (nogoods ++ x ∷ []) z k
  of-zone-push nogoods x z k is = record {
    there = omega (arith, is.there, length-append nogoods (x ∷ []));
    among = λ bound has. is.among bound (subst (λ (bounds : List Bound). Contains bounds bound)
        (get_or_append_left nogoods (x ∷ []) [] k is.there) has);
  }

  -- the zone gets a line, of the nogoods that are there or of one more
  pub lines-put : (nogoods new : List (List Bound)) (lines : List (Option ℕ)) (z k : ℕ) →
      AreLinesOf problem trace nogoods lines → z < length lines → get_or lines z None ≡ None → length new ≤ length nogoods + 1 →
      ((y n : ℕ) → IsOfZone problem trace nogoods y n → IsOfZone problem trace new y n) → IsOfZone problem trace new z k →
      AreLinesOf problem trace new (set lines z (Some k))
  lines-put nogoods new lines z k are within none more keep now = record {
    count = length-set lines z (Some k) ∙ are.count;
    each = λ y n is. elim (cases_eq y z) [
      | inl same ↦
          let here : Some k ≡ Some n = sym (get_or-set_same lines z (Some k) None within)
          ∙ subst (λ (m : ℕ). get_or (set lines z (Some k)) m None ≡ Some n) same is in
          let number : k ≡ n = cc in
          subst (λ (m : ℕ). IsOfZone problem trace new m n) (sym same)
          (subst (λ (m : ℕ). IsOfZone problem trace new z m) number now)
      | inr apart ↦ keep y n (are.each y n (sym (get_or-set_other lines z y (Some k) None apart) ∙ is))
    ];
    few = omega (arith, more, are.few, count-set lines z k within none);
  }

-- ---- nothing more

none-past : (lines : List (Option ℕ)) (z : ℕ) → length lines ≤ z → get_or (lines ++ None ∷ []) z None ≡ None
none-past lines z past = elim (cases_eq z (length lines)) [
  | inl same ↦ get_or_push lines None None z (sym same)
  | inr apart ↦ elim (cases_lt (length lines) z) [
    | inl beyond ↦ get_or_past (lines ++ None ∷ []) z None (omega (arith, beyond, length-append lines (None ∷ [])))
    | inr within ↦ absurd (apart (omega (arith, past, within)))
  ]
]

-- a zone without a line more changes no line
line-more : (lines : List (Option ℕ)) (z k : ℕ) → get_or (lines ++ None ∷ []) z None ≡ Some k → get_or lines z None ≡ Some k
line-more lines z k is = elim (cases_lt z (length lines)) [
  | inl within ↦ sym (get_or_append_left lines (None ∷ []) None z within) ∙ is
  | inr past ↦ let never : None ≡ Some k = sym (none-past lines z past) ∙ is in absurd cc
]

has-more : (lines : List (Option ℕ)) (z : ℕ) → HasLine lines z → HasLine (lines ++ None ∷ []) z
has-more lines z has = elim (cases_lt z (length lines)) [
  | inl within ↦ (has.0, get_or_append_left lines (None ∷ []) None z within ∙ has.1)
  | inr past ↦ let never : None ≡ Some (has.0) = sym (get_or_past lines z None past) ∙ has.1 in absurd cc
]

pub has-two : (lines : List (Option ℕ)) (z : ℕ) → HasLine lines z → HasLine ((lines ++ None ∷ []) ++ None ∷ []) z
has-two lines z has = has-more (lines ++ None ∷ []) z (has-more lines z has)

pub two-has : (lines : List (Option ℕ)) (z : ℕ) → HasLine ((lines ++ None ∷ []) ++ None ∷ []) z → HasLine lines z
two-has lines z has = (has.0, line-more lines z has.0 (line-more (lines ++ None ∷ []) z has.0 has.1))

count-more : (lines : List (Option ℕ)) → count_by is_some (lines ++ None ∷ []) ≡ count_by is_some lines
count-more lines =
    let sums = sum_by-append (λ (o : Option ℕ). cond (is_some o) 1 0) lines (None ∷ []) in
    omega (arith, sums)

-- the parts of a cut have no lines yet
pub lines-cut : (problem : ProblemModel) (trace : List CutAt) (cut : CutAt) (nogoods : List (List Bound))
    (lines : List (Option ℕ)) → AreLinesOf problem trace nogoods lines →
    AreLinesOf problem (trace ++ cut ∷ []) nogoods ((lines ++ None ∷ []) ++ None ∷ [])
lines-cut problem trace cut nogoods lines are = record {
  count = omega (
    arith,
    are.count,
    length-append trace (cut ∷ []),
    length-append lines (None ∷ []),
    length-append (lines ++ None ∷ []) (None ∷ []),
  );
  each = λ z k is.
      let old : get_or lines z None ≡ Some k = line-more lines z k (line-more (lines ++ None ∷ []) z k is) in
      let was = are.each z k old in
      let there : z < 2 * length trace + 1 = elim (cases_lt z (length lines)) [
        | inl within ↦ omega (arith, within, are.count)
        | inr past ↦ let never : None ≡ Some k = sym (get_or_past lines z None past) ∙ old in absurd cc
      ] in
      record {
        there = was.there;
        among = λ bound has. subst (λ (zone : List Range). Contains (zone_bounds problem zone) bound)
            (sym (zone-old (whole_zone problem) trace cut z there)) (was.among bound has);
      };
  few = omega (arith, are.few, count-more lines, count-more (lines ++ None ∷ []));
}

-- ---- the nogoods of a log

abbrev pub no_line : LogLine
no_line = record { nogood = Zone 0; fires = []; end = Cycle }

pub nogood-in : (problem : ProblemModel) (trace : List CutAt) (log : List LogLine) (k : ℕ) → k < length log →
    get_or (nogoods_in problem trace log) k [] ≡ nogood_bounds problem trace (nogood_at log k)
nogood-in problem trace log k within = get_or-map (λ (line : LogLine). nogood_bounds problem trace line.nogood) log k no_line []
    within

pub nogoods-count : (problem : ProblemModel) (trace : List CutAt) (log : List LogLine) →
    length (nogoods_in problem trace log) ≡ length log
nogoods-count problem trace log = length-map log (λ (line : LogLine). nogood_bounds problem trace line.nogood)

pub nogoods-push : (problem : ProblemModel) (trace : List CutAt) (log : List LogLine) (line : LogLine) →
    nogoods_in problem trace (log ++ line ∷ []) ≡ nogoods_in problem trace log ++ nogood_bounds problem trace line.nogood ∷ []
nogoods-push problem trace log line = map_push (λ (l : LogLine). nogood_bounds problem trace l.nogood) log line

pub nogoods-on : (problem : ProblemModel) (t u : List CutAt) (log : List LogLine) → GoesOn problem t u log log →
    nogoods_in problem u log ≡ nogoods_in problem t log
nogoods-on problem t u log on = map-same (λ (line : LogLine). nogood_bounds problem u line.nogood)
    (λ (line : LogLine). nogood_bounds problem t line.nogood) log
    (λ k d within. sym (bounds-on problem t u log log on (get_or log k d).nogood (on.names k d within)))

pub keeps-push : (nogoods kept : List (List Bound)) (x y : List Bound) → KeepsLog nogoods kept → HaveSame x y →
    KeepsLog (nogoods ++ x ∷ []) (kept ++ y ∷ [])
keeps-push nogoods kept x y keeps same = record {
  count = omega (arith, keeps.count, length-append nogoods (x ∷ []), length-append kept (y ∷ []));
  each = λ k within. elim (cases_lt k (length nogoods)) [
    | inl old ↦ subst (HaveSame (get_or (nogoods ++ x ∷ []) k []))
        (sym (get_or_append_left kept (y ∷ []) [] k (omega (arith, old, keeps.count))))
        (subst (λ (bounds : List Bound). HaveSame bounds (get_or kept k [])) (sym (get_or_append_left nogoods (x ∷ []) [] k old))
        (keeps.each k old))
    | inr new ↦
        let last : length nogoods ≡ k = omega (arith, new, within, length-append nogoods (x ∷ [])) in
        subst (HaveSame (get_or (nogoods ++ x ∷ []) k [])) (sym (get_or_push kept y [] k (omega (arith, last, keeps.count))))
        (subst (λ (bounds : List Bound). HaveSame bounds y) (sym (get_or_push nogoods x [] k last)) same)
  ];
}

-- a nogood more changes nothing of what was known
pub unclosed-push : (problem : ProblemModel) (nogoods : List (List Bound)) (x : List Bound) (cuts : List CutAt) (cut : CutAt) →
    IsUnclosed problem nogoods cuts cut → IsUnclosed problem (nogoods ++ x ∷ []) cuts cut
unclosed-push problem nogoods x cuts cut was =
    let same : (k : ℕ) → k < was.n → get_or (nogoods ++ x ∷ []) k [] ≡ get_or nogoods k [] =
    λ k less. get_or_append_left nogoods (x ∷ []) [] k (omega (arith, less, was.there)) in
    record {
      n = was.n;
      there = omega (arith, was.there, length-append nogoods (x ∷ []));
      before = λ z zone_there passed.
          let closing = was.before z zone_there passed in
          (closing.0, closing.1, subst (All (Implied problem (InZone problem _))) (sym (same closing.0 closing.1)) closing.2);
      none = λ k less closes. was.none k less (subst (All (Implied problem (InZone problem _))) (same k less) closes);
    }

pub known-push : (problem : ProblemModel) (trace : List CutAt) (nogoods : List (List Bound)) (x : List Bound) →
    WereKnown problem trace nogoods → WereKnown problem trace (nogoods ++ x ∷ [])
known-push problem trace nogoods x known i d within = unclosed-push problem nogoods x (take i trace) (get_or trace i d)
    (known i d within)

pub known-cut : (problem : ProblemModel) (trace : List CutAt) (cut : CutAt) (nogoods : List (List Bound)) →
    WereKnown problem trace nogoods → IsUnclosed problem nogoods trace cut → WereKnown problem (trace ++ cut ∷ []) nogoods
known-cut problem trace cut nogoods known now = at-each-push (IsUnclosed problem nogoods) trace cut known now

-- no nogood is empty, with one more that is not
pub going-push : (nogoods : List (List Bound)) (x : List Bound) → ((k : ℕ) → k < length nogoods → get_or nogoods k [] ≢ []) →
    x ≢ [] → (k : ℕ) → k < length (nogoods ++ x ∷ []) → get_or (nogoods ++ x ∷ []) k [] ≢ []
going-push nogoods x going some k within empty = elim (cases_lt k (length nogoods)) [
  | inl old ↦ going k old (sym (get_or_append_left nogoods (x ∷ []) [] k old) ∙ empty)
  | inr new ↦
      let last : length nogoods ≡ k = omega (arith, new, within, length-append nogoods (x ∷ [])) in
      some (sym (get_or_push nogoods x [] k last) ∙ empty)
]

pub end-push : (problem : ProblemModel) (trace : List CutAt) (log : List LogLine) (line : LogLine) →
    nogood_bounds problem trace line.nogood ≡ [] → HasEnd problem trace (log ++ line ∷ [])
end-push problem trace log line empty =
    let count = length-append log (line ∷ []) in
    let last : length (log ++ line ∷ []) - 1 ≡ length log = omega (arith, count) in
    record {
      some = omega (arith, count);
      last = ap (λ (n : ℕ). nogood_bounds problem trace (nogood_at (log ++ line ∷ []) n)) last
          ∙ ap (λ (l : LogLine). nogood_bounds problem trace l.nogood) (get_or_push log line no_line (length log) refl) ∙ empty;
    }
