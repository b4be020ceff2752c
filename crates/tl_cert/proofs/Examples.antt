-- A whole log, line by line. Four columns in plain style on 25 columns of the page, so that the columns have 19 in all:
--
--   a a  b b  c
--             c
--   p    q    cccc  dddd
--             cccc  dddd
--
-- `a a` and `b b` need two lines, and one from three columns on; `c` is broken in two lines at any width; `cccc cccc` and
-- `dddd dddd` need two, and one from nine columns on. So the upper row has two lines, and the lower row one only where
-- both last columns have nine: that is 1 + 1 + 9 + 9, one too many. This log proves that no page is below four lines:
--
--   2-8 chain           where the third column has at most 8, the heights sum to 4
--   2+9 chain           where it has at least 9, the fourth has at most 19 - 1 - 1 - 9, and they do as well
--   z0 @0 @1 fired      the first line's bound fails, so the third column has 9: the second line's nogood holds
use Rattle.std.proofs.Common.{◌≡◌, ◌≢◌, ℕ, ◌+◌, ◌*◌, ◌<◌, ◌≤◌, zero, suc, List, []}
use Rattle.std.proofs.Common.{◌∷◌, ◌⊎◌, inl, inr, length, get_or, take, refl, sym, ◌∙◌, subst, arith}
use Rattle.std.specs.List.{All, Contains}
use Rattle.std.proofs.lemmas.Bool.{cases_lt}
use Rattle.std.proofs.lemmas.List.Elements.{All-nil, All-from_recursion}
use Rattle.tl_base.specs.Style.{spacing_of}
use Rattle.tl_base.specs.declared.style.Style.TheVariants.{Plain}
use Rattle.tl_base.specs.declared.steps.Config.{Config}
use Rattle.tl_base.specs.Steps.{first_width, IsLowAt}
use Rattle.tl_base.proofs.Members.{Contains-first, Contains-cases, Contains-none, All-from_Contains}
use Rattle.tl_problem.specs.declared.cell.Cell.{Cell}
use Rattle.tl_base.specs.Sizes.{room, total}
use Rattle.tl_problem.specs.Problem.{ProblemModel, cell_width, cell_height}
use Rattle.tl_problem.specs.Layouts.{WithinPage}
use Rattle.tl_problem.specs.Spans.{spans_of, classes_of, count_of}
use Rattle.tl_problem.specs.Zones.{whole_zone}
use Rattle.tl_problem.specs.Bounds.{IsGreatestRoom, GiveLow, IsBound}
use Rattle.tl_problem.proofs.Heights.{test_le, test_le_false}
use Rattle.tl_cert.specs.declared.limits.TheConstants.{MAX_BOUNDS}
use Rattle.tl_cert.specs.declared.log.Bound.{Bound}
use Rattle.tl_cert.specs.declared.log.End.TheVariants.{Fired, Chain}
use Rattle.tl_cert.specs.declared.log.LogLine.{LogLine}
use Rattle.tl_cert.specs.declared.log.Nogood.TheVariants.{Zone, Bounds}
use Rattle.tl_cert.specs.declared.trace.CutAt.{CutAt}
use Rattle.tl_cert.specs.Traces.{IsTraceOf}
use Rattle.tl_cert.specs.Nogoods.{Meets, Breaks, at_most, at_least, zone_bounds, nogood_bounds, NamesAreThere}
use Rattle.tl_cert.specs.Implied.{IsLeft, Implied}
use Rattle.tl_cert.specs.Lines.{nogood_at, IsGoodLine, IsGoodLog}
use Rattle.tl_cert.specs.Worked.{IsWorked}
use Rattle.tl_cert.specs.ZoneOrders.{ComesFrom, itself, lower as from_lower, upper as from_upper}
use Rattle.tl_cert.specs.Learnt.{AreAllBut, IsMinimalLine, NogoodCloses, StandsBefore, AreEnough, IsKnown, IsLearnt}

abbrev step : ℕ → ℕ → Config
step width height = record { width = width; height = height }

abbrev cell : ℕ → ℕ → List Config → Cell
cell left top steps = record { left = left; right = left + 1; top = top; bottom = top + 1; low = steps; high = steps }

-- two words of so many letters
abbrev two_words : ℕ → List Config
two_words n = step n 2 ∷ step (2 * n + 1) 1 ∷ []

abbrev cells : List Cell
cells = cell 0 0 (two_words 1) ∷ cell 1 0 (two_words 1) ∷ cell 2 0 (step 1 2 ∷ []) ∷ cell 0 1 (step 1 1 ∷ []) ∷ cell 1 1
    (step 1 1 ∷ []) ∷ cell 2 1
    (two_words 4) ∷ cell 3 1 (two_words 4) ∷ []

abbrev problem : ProblemModel
problem = record { cols = 4; rows = 2; spacing = spacing_of Plain 0; width = 25; cells = cells }

sixteen : count_of problem ≡ 16
unfolding spans_of classes_of
sixteen = refl

-- ---- the trace: the first three columns are cut, each time in the lower zone

abbrev cut : ℕ → ℕ → CutAt
cut zone span = record { zone = zone; span = span; class = 0 }

abbrev trace : List CutAt
trace = cut 0 0 ∷ cut 1 1 ∷ cut 3 2 ∷ []

is_trace : IsTraceOf problem trace
unfolding spans_of classes_of
is_trace zero d within = record {
  stands = record { there = omega arith; not_cut = All-nil (λ c. c.zone ≢ 0) };
  span = omega arith;
  lower =
      omega arith;
  upper = omega arith;
}
is_trace (suc zero) d within = record {
  stands = record {
    there = omega arith;
    not_cut =
        All-from_recursion (λ c. c.zone ≢ 1) (take 1 trace) ((λ same. omega arith), tt);
  };
  span = omega arith;
  lower = omega arith;
  upper = omega arith;
}
is_trace (suc (suc zero)) d within = record {
  stands = record {
    there = omega arith;
    not_cut =
        All-from_recursion (λ c. c.zone ≢ 3) (take 2 trace) ((λ same. omega arith), ((λ same. omega arith), tt));
  };
  span = omega arith;
  lower =
      omega arith;
  upper = omega arith;
}
is_trace (suc (suc (suc i))) d within = absurd (omega arith)

-- ---- the widths that are left

abbrev third_at_most_8 : Bound
third_at_most_8 = at_most 2 8

abbrev third_at_least_9 : Bound
third_at_least_9 = at_least 2 9

fits : (a b c d : ℕ) → 1 ≤ a → 1 ≤ b → 4 ≤ c → 4 ≤ d → a + b + c + d ≤ 19 → WithinPage problem (a ∷ b ∷ c ∷ d ∷ [])
fits a b c d first second third fourth page = record {
  columns = refl;
  page = omega arith;
  cells = All-from_recursion (λ one. first_width one.low ≤ cell_width problem (a ∷ b ∷ c ∷ d ∷ []) one) cells (
    omega arith,
    (omega arith, (omega arith, (omega arith, (omega arith, (omega arith, (omega arith, tt)))))),
  );
}

-- of any widths within the page the four rooms sum to at most 19
rooms : (widths : List ℕ) → WithinPage problem widths → (1 ≤ room 2 widths 0 1) × (1 ≤ room 2 widths 1 2) ×
    (4 ≤ room 2 widths 2 3) × (4 ≤ room 2 widths 3 4)
    × (room 2 widths 0 1 + room 2 widths 1 2 + room 2 widths 2 3 + room 2 widths 3 4 ≤ 19)
rooms widths is = (
  is.cells 3 (cell 0 0 []) (omega arith),
  is.cells 4 (cell 0 0 []) (omega arith),
  is.cells 5 (cell 0 0 []) (omega arith),
  is.cells 6 (cell 0 0 []) (omega arith),
  all widths is.columns is.page,
) where
  all : (ws : List ℕ) → length ws ≡ 4 → total 2 0 ws ≤ 25 → room 2 ws 0 1 + room 2 ws 1 2 + room 2 ws 2 3 + room 2 ws 3 4 ≤ 19
  all [] four page = absurd (omega arith)
  all (a ∷ []) four page = absurd (omega arith)
  all (a ∷ b ∷ []) four page = absurd (omega arith)
  all (a ∷ b ∷ c ∷ []) four page = absurd (omega arith)
  all (a ∷ b ∷ c ∷ d ∷ []) four page = omega arith
  all (a ∷ b ∷ c ∷ d ∷ e ∷ more) four page = absurd (omega arith)

-- ---- heights

-- two words of `n` letters need at most two lines, and two where they have no room for both on one
two-enough : (n w h : ℕ) → n ≤ w → 2 ≤ h → IsLowAt (two_words n) h w
two-enough n w h wider two =
    elim (cases_lt w (2 * n + 1)) [
      | inl narrow ↦ rw (test_le n w wider, test_le_false (2 * n + 1) w narrow) two
      | inr enough ↦ rw (test_le n w wider, test_le (2 * n + 1) w enough) (omega arith)
    ]

two-needed : (n w h : ℕ) → n ≤ w → w ≤ 2 * n → IsLowAt (two_words n) h w → 2 ≤ h
two-needed n w h wider narrow low = rw (test_le n w wider, test_le_false (2 * n + 1) w (omega arith)) at low

-- a cell of one step needs as many lines at each width
step-enough : (n lines w h : ℕ) → n ≤ w → lines ≤ h → IsLowAt (step n lines ∷ []) h w
step-enough n lines w h wider high = rw (test_le n w wider) high

step-needed : (n lines w h : ℕ) → n ≤ w → IsLowAt (step n lines ∷ []) h w → lines ≤ h
step-needed n lines w h wider low = rw (test_le n w wider) at low

-- ---- the bound of widths that are left: four, where the lower row needs two lines

module _ (Among : List ℕ → Type 0) (page : (widths : List ℕ) → Among widths →
    WithinPage problem widths) (some : List ℕ) (among : Among some) where
  enough : GiveLow problem Among (2 ∷ 2 ∷ [])
  enough = record {
    rows = refl;
    cells = All-from_recursion Given cells (
      above 0 0 1 first (omega arith),
      (
        above 1 0 1 second (omega arith),
        (
          upper,
          (
            line 0 first,
            (line 1 second, (above 2 1 4 third (omega arith), (above 3 1 4 fourth (omega arith), tt))),
          ),
        ),
      ),
    );
  } where
    least : (1 ≤ room 2 some 0 1) × (1 ≤ room 2 some 1 2) × (4 ≤ room 2 some 2 3) × (4 ≤ room 2 some 3 4) ×
        (room 2 some 0 1 + room 2 some 1 2 + room 2 some 2 3 + room 2 some 3 4 ≤ 19)
    least = rooms some (page some among)

    first : 1 ≤ room 2 some 0 1
    first = least.0

    second : 1 ≤ room 2 some 1 2
    second = least.1

    third : 4 ≤ room 2 some 2 3
    third = least.2

    fourth : 4 ≤ room 2 some 3 4
    fourth = least.3

    Given : Cell → Type 0
    Given c = (w : ℕ) → IsGreatestRoom problem Among c.left c.right w → IsLowAt c.low (cell_height problem (2 ∷ 2 ∷ []) c) w

    above : (left top n : ℕ) → n ≤ room 2 some left (left + 1) → 2 ≤ cell_height problem (2 ∷ 2 ∷ []) (cell left top []) →
        Given (cell left top (two_words n))
    above left top n wide two w greatest = let more = greatest.never_more some among in
        two-enough n w (cell_height problem (2 ∷ 2 ∷ []) (cell left top [])) (omega (arith, wide, more)) two

    upper : Given (cell 2 0 (step 1 2 ∷ []))
    upper w greatest = let more = greatest.never_more some among in step-enough 1 2 w 2 (omega (arith, third, more)) (omega arith)

    line : (left : ℕ) → 1 ≤ room 2 some left (left + 1) → Given (cell left 1 (step 1 1 ∷ []))
    line left wide w greatest = let more = greatest.never_more some among in
        step-enough 1 1 w 2 (omega (arith, wide, more)) (omega arith)

  pub bound-four : (w : ℕ) → IsGreatestRoom problem Among 2 3 w →
      ((heights : List ℕ) → GiveLow problem Among heights → 2 ≤ room 0 heights 1 2) →
      IsBound problem Among 4
  bound-four w third lower = record {
    some = (some, among);
    least = record {
      attained = (2 ∷ 2 ∷ [], enough, refl);
      never_less = λ heights give.
          let more = third.never_more some among in
          let wide = (rooms some (page some among)).2 in
          let first = step-needed 1 2 w (room 0 heights 0 1) (omega (arith, more, wide))
          (give.cells 2 (cell 0 0 []) (omega arith) w third) in
          two_rows heights give.rows first (lower heights give);
    };
  } where
    two_rows : (hs : List ℕ) → length hs ≡ 2 → 2 ≤ room 0 hs 0 1 → 2 ≤ room 0 hs 1 2 → 4 ≤ total 0 0 hs
    two_rows [] rows first second = absurd (omega arith)
    two_rows (a ∷ []) rows first second = absurd (omega arith)
    two_rows (a ∷ b ∷ []) rows first second = omega arith
    two_rows (a ∷ b ∷ c ∷ more) rows first second = absurd (omega arith)

-- ---- the three lines

-- where the third column has at most 8
narrow : List ℕ → Type 0
narrow widths = IsLeft problem (third_at_most_8 ∷ []) [] widths

narrow-fits : (a b c d : ℕ) → WithinPage problem (a ∷ b ∷ c ∷ d ∷ []) → c ≤ 8 → narrow (a ∷ b ∷ c ∷ d ∷ [])
unfolding narrow spans_of
narrow-fits a b c d page third = record {
  page = page;
  meets =
      All-from_recursion (Meets problem (a ∷ b ∷ c ∷ d ∷ [])) (third_at_most_8 ∷ []) (omega arith, tt);
  breaks =
      All-nil (Breaks problem (a ∷ b ∷ c ∷ d ∷ []));
}

narrow-third : (widths : List ℕ) → narrow widths → room 2 widths 2 3 ≤ 8
unfolding narrow spans_of
narrow-third widths left = left.meets 0 third_at_most_8 (omega arith)

narrow_room : IsGreatestRoom problem narrow 2 3 8
narrow_room = record {
  attained = (
    1 ∷ 1 ∷ 8 ∷ 4 ∷ [],
    narrow-fits 1 1 8 4
        (fits 1 1 8 4 (omega arith) (omega arith) (omega arith) (omega arith) (omega arith)) (omega arith),
    refl,
  );
  never_more = narrow-third;
}

narrow_bound : IsBound problem narrow 4
unfolding narrow narrow_room
narrow_bound = bound-four narrow (λ widths left. left.page) (1 ∷ 1 ∷ 8 ∷ 4 ∷ []) (narrow_room.attained.1) 8 narrow_room
    (λ heights give. two-needed 4 8 (room 0 heights 1 2) (omega arith) (omega arith)
    (give.cells 5 (cell 0 0 []) (omega arith) 8 narrow_room))

-- where it has at least 9
wide : List ℕ → Type 0
wide widths = IsLeft problem (third_at_least_9 ∷ []) [] widths

wide-fits : (a b c d : ℕ) → WithinPage problem (a ∷ b ∷ c ∷ d ∷ []) → 9 ≤ c → wide (a ∷ b ∷ c ∷ d ∷ [])
unfolding wide spans_of
wide-fits a b c d page third = record {
  page = page;
  meets = All-from_recursion (Meets problem (a ∷ b ∷ c ∷ d ∷ [])) (third_at_least_9 ∷ [])
      (omega arith, tt);
  breaks = All-nil (Breaks problem (a ∷ b ∷ c ∷ d ∷ []));
}

wide-rooms : (widths : List ℕ) → wide widths → (room 2 widths 2 3 ≤ 13) × (room 2 widths 3 4 ≤ 8)
unfolding wide spans_of
wide-rooms widths left = let all = rooms widths left.page in let third = left.meets 0 third_at_least_9 (omega arith) in
    (omega (arith, all), omega (arith, all, third))

wide_room : IsGreatestRoom problem wide 2 3 13
wide_room = record {
  attained = (
    1 ∷ 1 ∷ 13 ∷ 4 ∷ [],
    wide-fits 1 1 13 4
        (fits 1 1 13 4 (omega arith) (omega arith) (omega arith) (omega arith) (omega arith)) (omega arith),
    refl,
  );
  never_more =
      λ widths left. (wide-rooms widths left).0;
}

fourth_room : IsGreatestRoom problem wide 3 4 8
fourth_room = record {
  attained = (
    1 ∷ 1 ∷ 9 ∷ 8 ∷ [],
    wide-fits 1 1 9 8
        (fits 1 1 9 8 (omega arith) (omega arith) (omega arith) (omega arith) (omega arith)) (omega arith),
    refl,
  );
  never_more =
      λ widths left. (wide-rooms widths left).1;
}

wide_bound : IsBound problem wide 4
unfolding wide wide_room
wide_bound = bound-four wide (λ widths left. left.page) (1 ∷ 1 ∷ 13 ∷ 4 ∷ []) (wide_room.attained.1) 13 wide_room
    (λ heights give. two-needed 4 8 (room 0 heights 1 2) (omega arith) (omega arith)
    (give.cells 6 (cell 0 0 []) (omega arith) 8 fourth_room))

abbrev log : List LogLine
log = record { nogood = Bounds (third_at_most_8 ∷ []); fires = []; end = Chain } ∷ record {
  nogood = Bounds (third_at_least_9 ∷ []);
  fires = [];
  end = Chain;
} ∷ record { nogood = Zone 0; fires = 0 ∷ 1 ∷ []; end = Fired } ∷ []

-- the whole has no bounds
no_bounds : zone_bounds problem (whole_zone problem) ≡ []
unfolding spans_of classes_of
no_bounds = refl

-- of all widths within the page, some give the third column 9
not_implied : Implied problem (IsLeft problem [] []) third_at_most_8 → ⊥
unfolding spans_of
not_implied all =
    let room = all (1 ∷ 1 ∷ 9 ∷ 4 ∷ []) (record {
      page = fits 1 1 9 4 (omega arith) (omega arith) (omega arith) (omega arith) (omega arith);
      meets =
          All-nil (Meets problem (1 ∷ 1 ∷ 9 ∷ 4 ∷ []));
      breaks = All-nil (Breaks problem (1 ∷ 1 ∷ 9 ∷ 4 ∷ []));
    }) in
    omega (arith, room)

-- and where it has not at most 8, it has at least 9
then_implied : All (Implied problem (IsLeft problem [] (third_at_most_8 ∷ []))) (third_at_least_9 ∷ [])
unfolding spans_of
then_implied = All-from_recursion (Implied problem (IsLeft problem [] (third_at_most_8 ∷ []))) (third_at_least_9 ∷ [])
    ((λ widths left. let past = left.breaks 0 third_at_most_8 (omega arith) in omega (arith, past)), tt)

pub good_log : IsGoodLog problem trace log 4
unfolding spans_of classes_of narrow wide
good_log = record { some = omega arith; lines = lines; last = no_bounds } where
  lines : (k : ℕ) (d : LogLine) → k < 3 → IsGoodLine problem trace log 4 k (get_or log k d)
  lines zero d within = record {
    names = All-from_recursion (λ bound. bound.span < length (spans_of problem)) (third_at_most_8 ∷ []) (omega arith, tt);
    earlier = All-nil (λ f. (f < 0) × NamesAreThere problem trace (nogood_at log f));
    joined = [];
    fires = refl;
    ends = (4, narrow_bound, omega arith);
  }
  lines (suc zero) d within = record {
    names = All-from_recursion (λ bound. bound.span < length (spans_of problem)) (third_at_least_9 ∷ []) (omega arith, tt);
    earlier = All-nil (λ f. (f < 1) × NamesAreThere problem trace (nogood_at log f));
    joined = [];
    fires = refl;
    ends = (4, wide_bound, omega arith);
  }
  lines (suc (suc zero)) d within = record {
    names = omega arith;
    earlier = All-from_recursion (λ f. (f < 2) × NamesAreThere problem trace (nogood_at log f)) (0 ∷ 1 ∷ []) (
      (omega arith, first_names),
      ((omega arith, second_names), tt),
    );
    joined = third_at_most_8 ∷ [];
    fires = inr (
      third_at_most_8,
      record {
        among = Contains-first third_at_most_8 [];
        not_implied = not_implied;
        others =
            λ other has apart. elim (Contains-cases third_at_most_8 [] other has) [
              | inl same ↦ absurd (apart (sym same))
              | inr none ↦
                  absurd (Contains-none other none)
            ];
      },
      inl (then_implied, refl),
    );
    ends = then_implied;
  } where
    first_names : NamesAreThere problem trace (nogood_at log 0)
    first_names = All-from_recursion (λ bound. bound.span < length (spans_of problem)) (third_at_most_8 ∷ []) (omega arith, tt)

    second_names : NamesAreThere problem trace (nogood_at log 1)
    second_names = All-from_recursion (λ bound. bound.span < length (spans_of problem)) (third_at_least_9 ∷ []) (omega arith, tt)
  lines (suc (suc (suc k))) d within = absurd (omega arith)

-- and the section of this height, trace and log was worked for its three cuts
worked : IsWorked problem trace 4 4 3
worked = record { trace_of = is_trace; within = omega arith; ordered = omega arith; below = λ less. absurd (omega arith) }

-- ---- the trace and the log are learnt: the opening has four lines too

-- Without its bound none of the first two lines is good: the greatest rooms of both last columns are then at least 9, so
-- that the lower row needs one line by them, and both rows three.
module _ (given : List Bound) (none : (bound : Bound) → Contains given bound → ⊥) where
  free : List ℕ → Type 0
  free widths = IsLeft problem given [] widths

  free-fits : (a b c d : ℕ) → WithinPage problem (a ∷ b ∷ c ∷ d ∷ []) → free (a ∷ b ∷ c ∷ d ∷ [])
  unfolding free
  free-fits a b c d page = record {
    page = page;
    meets = All-from_Contains (Meets problem (a ∷ b ∷ c ∷ d ∷ [])) given (λ bound has. absurd (none bound has));
    breaks = All-nil (Breaks problem (a ∷ b ∷ c ∷ d ∷ []));
  }

  third_nine : free (1 ∷ 1 ∷ 9 ∷ 4 ∷ [])
  third_nine = free-fits 1 1 9 4 (fits 1 1 9 4 (omega arith) (omega arith) (omega arith) (omega arith) (omega arith))

  fourth_nine : free (1 ∷ 1 ∷ 4 ∷ 9 ∷ [])
  fourth_nine = free-fits 1 1 4 9 (fits 1 1 4 9 (omega arith) (omega arith) (omega arith) (omega arith) (omega arith))

  one-enough : (n w h : ℕ) → 2 * n + 1 ≤ w → 1 ≤ h → IsLowAt (two_words n) h w
  one-enough n w h wide one = rw (test_le n w (omega (arith, wide)), test_le (2 * n + 1) w wide) one

  three_lines : GiveLow problem free (2 ∷ 1 ∷ [])
  three_lines = record {
    rows = refl;
    cells = All-from_recursion Given cells (
      (λ w greatest. let more = greatest.never_more (1 ∷ 1 ∷ 9 ∷ 4 ∷ []) third_nine in two-enough 1 w 2 (omega (arith, more))
          (omega arith)),
      (
        (λ w greatest. let more = greatest.never_more (1 ∷ 1 ∷ 9 ∷ 4 ∷ []) third_nine in two-enough 1 w 2 (omega (arith, more))
            (omega arith)),
        (
          (λ w greatest. let more = greatest.never_more (1 ∷ 1 ∷ 9 ∷ 4 ∷ []) third_nine in step-enough 1 2 w 2
              (omega (arith, more)) (omega arith)),
          (
            (λ w greatest. let more = greatest.never_more (1 ∷ 1 ∷ 9 ∷ 4 ∷ []) third_nine in step-enough 1 1 w 1
                (omega (arith, more)) (omega arith)),
            (
              (λ w greatest. let more = greatest.never_more (1 ∷ 1 ∷ 9 ∷ 4 ∷ []) third_nine in step-enough 1 1 w 1
                  (omega (arith, more)) (omega arith)),
              (
                (λ w greatest. let more = greatest.never_more (1 ∷ 1 ∷ 9 ∷ 4 ∷ []) third_nine in one-enough 4 w 1
                    (omega (arith, more)) (omega arith)),
                (
                  (λ w greatest. let more = greatest.never_more (1 ∷ 1 ∷ 4 ∷ 9 ∷ []) fourth_nine in one-enough 4 w 1
                      (omega (arith, more)) (omega arith)),
                  tt,
                ),
              ),
            ),
          ),
        ),
      ),
    );
  } where
    Given : Cell → Type 0
    Given c = (w : ℕ) → IsGreatestRoom problem free c.left c.right w → IsLowAt c.low (cell_height problem (2 ∷ 1 ∷ []) c) w

  at-most-three : (bound : ℕ) → IsBound problem free bound → bound ≤ 3
  at-most-three bound is = let least = is.least.never_less (2 ∷ 1 ∷ []) three_lines in omega (arith, least)

-- a single bound has no others
single-others : (one bound : Bound) (others : List Bound) → AreAllBut (one ∷ []) bound others → (other : Bound) →
    Contains others other → ⊥
single-others one bound others are other has =
    let both = (are.each other).0 has in
    both.1 (sym (only other both.0) ∙ only bound are.among) where
      only : (b : Bound) → Contains (one ∷ []) b → one ≡ b
      only b inside = elim (Contains-cases one [] b inside) [ inl same ↦ same | inr never ↦ absurd (Contains-none b never) ]

shrunk : (k : ℕ) → k < 2 → (one : Bound) → IsMinimalLine problem trace log 4 k
    (record { nogood = Bounds (one ∷ []); fires = []; end = Chain })
unfolding free
shrunk k within one bound others are good =
    let none : good.joined ≡ [] = good.fires in
    let ends = subst (λ (joined : List Bound). (b : ℕ) × IsBound problem (IsLeft problem others joined) b × (4 ≤ b)) none
    good.ends in
    let few = at-most-three others (single-others one bound others are) ends.0 ends.1 in
    omega (arith, few, ends.2)

-- ---- each cut is in the lowest zone: none comes before it

first_zone : (n : ℕ) (d : CutAt) → 0 < length (take n trace) → (get_or (take n trace) 0 d).zone ≡ 0
first_zone zero d within = absurd (omega arith)
first_zone (suc n) d within = refl

second_zone : (n : ℕ) (d : CutAt) → 1 < length (take n trace) → (get_or (take n trace) 1 d).zone ≡ 1
second_zone zero d within = absurd (omega arith)
second_zone (suc zero) d within = absurd (omega arith)
second_zone (suc (suc n)) d within = refl

-- of the zones that are cut none comes from an upper part
not-upper : (n i z : ℕ) → ComesFrom (take n trace) (2 * i + 2) z → (z ≡ 0) ⊎ ((z ≡ 1) ⊎ (z ≡ 3)) → ⊥
not-upper n i z itself is = elim is [
  | inl whole ↦ omega (arith, whole)
  | inr odd ↦ elim odd [ inl one ↦ omega (arith, one) | inr three ↦ omega (arith, three) ]
]
not-upper n i z (from_upper j d within rest) is = elim is [
  | inl whole ↦ omega (arith, whole)
  | inr odd ↦ elim odd [ inl one ↦ omega (arith, one) | inr three ↦ omega (arith, three) ]
]
not-upper n i z (from_lower j d within rest) is = elim is [
  | inl whole ↦ omega (arith, whole)
  | inr odd ↦ elim odd [
    | inl one ↦
        let here : j ≡ 0 = omega (arith, one) in
        not-upper n i (get_or (take n trace) j d).zone rest (inl (subst (λ k. k < length (take n trace) →
        (get_or (take n trace) k d).zone ≡ 0) (sym here) (first_zone n d) within))
    | inr three ↦
        let here : j ≡ 1 = omega (arith, three) in
        not-upper n i (get_or (take n trace) j d).zone rest (inr (inl (subst (λ k. k < length (take n trace) →
        (get_or (take n trace) k d).zone ≡ 1) (sym here) (second_zone n d) within)))
  ]
]

none-before : (i : ℕ) (d : CutAt) → i < 3 → (z : ℕ) → StandsBefore (take i trace) (get_or trace i d) z → ⊥
none-before zero d within z is = not-upper 0 is.before.0 0 is.before.3 (inl refl)
none-before (suc zero) d within z is = not-upper 1 is.before.0 1 is.before.3 (inr (inl refl))
none-before (suc (suc zero)) d within z is = not-upper 2 is.before.0 3 is.before.3 (inr (inr refl))
none-before (suc (suc (suc i))) d within z is = absurd (omega arith)

-- so no line is known at a cut, and none has to be
pub learnt : IsLearnt problem 4 trace log
unfolding spans_of classes_of
learnt = record {
  stay = λ i d within z is. absurd (none-before i d within z is);
  enough = λ i d within. (0, omega arith, λ z is. absurd (none-before i d within z is));
  not_closed = λ i d within k known closes.
      let less = known 0 (λ z is. absurd (none-before i d within z is)) in omega (arith, less);
  shrunk = lines;
} where
  lines : (k : ℕ) (d : LogLine) → k < 3 → length (nogood_bounds problem trace (get_or log k d).nogood) ≤ MAX_BOUNDS →
      IsMinimalLine problem trace log 4 k (get_or log k d)
  lines zero d within few = shrunk 0 (omega arith) third_at_most_8
  lines (suc zero) d within few = shrunk 1 (omega arith) third_at_least_9
  lines (suc (suc zero)) d within few = λ bound others are good. Contains-none bound
      (subst (λ (bounds : List Bound). Contains bounds bound) no_bounds are.among)
  lines (suc (suc (suc k))) d within few = absurd (omega arith)

-- ---- which lines are known: zones 3 and 4 come before zone 2, the third that is cut here
--
--          0               cut 0: zone 0 into 1 and 2
--        /   \             cut 1: zone 1 into 3 and 4
--       1     2            cut 2: zone 2
--      / \
--     3   4

abbrev two_cuts : List CutAt
two_cuts = cut 0 0 ∷ cut 1 1 ∷ []

three_before : StandsBefore two_cuts (cut 2 0) 3
three_before = record {
  stands = record {
    there = omega arith;
    not_cut = All-from_recursion (λ c. c.zone ≢ 3) two_cuts ((λ same. omega arith), ((λ same. omega arith), tt));
  };
  before = (0, omega arith, from_lower 1 (cut 0 0) (omega arith) itself, itself);
}

four_before : StandsBefore two_cuts (cut 2 0) 4
four_before = record {
  stands = record {
    there = omega arith;
    not_cut = All-from_recursion (λ c. c.zone ≢ 4) two_cuts ((λ same. omega arith), ((λ same. omega arith), tt));
  };
  before = (0, omega arith, from_upper 1 (cut 0 0) (omega arith) itself, itself);
}

-- the first line is known, whatever it says
first_known : (nogoods : List (List Bound)) → IsKnown problem nogoods two_cuts (cut 2 0) 0
first_known nogoods n enough = let line = enough 3 three_before in omega (arith, line.1)

-- the second is where the first does not close zone 4
second_known : (nogoods : List (List Bound)) → (NogoodCloses problem two_cuts nogoods 0 4 → ⊥) →
    IsKnown problem nogoods two_cuts (cut 2 0) 1
second_known nogoods not n enough =
    let line = enough 4 four_before in
    elim (cases_lt 0 line.0) [
      | inl later ↦ omega (arith, line.1, later)
      | inr first ↦
          let here : line.0 ≡ 0 = omega (arith, first) in
          absurd (not (subst (λ k. NogoodCloses problem two_cuts nogoods k 4) here line.2))
    ]

-- and it is not where the first closes both zones
not_known : (nogoods : List (List Bound)) → AreEnough problem nogoods two_cuts (cut 2 0) 1 →
    IsKnown problem nogoods two_cuts (cut 2 0) 1 → ⊥
not_known nogoods enough known = let less = known 1 enough in omega (arith, less)
