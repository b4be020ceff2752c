-- Lists of numbers in one argument: where a number ends, and that an argument spells at most one list.
use Rattle.std.proofs.Common.{◌≡◌, ◌≢◌, ℕ, ◌+◌, ◌<◌, ◌≤◌, Bool, true, false, List, [], ◌∷◌, ◌++◌, length, drop}
use Rattle.std.proofs.Common.{get_or, refl, sym, ap, subst, ◌∙◌, arith, cond, ◌&&◌, codes, decimal}
use Rattle.std.specs.Char.{is_ascii_digit}
use Rattle.std.specs.List.{All, take_while}
use Rattle.std.specs.Str.{all_ascii_digits}
use Rattle.std.specs.Prelude.{Contains}
use Rattle.std.proofs.Math.ListN.{drop_of_length-le}
use Rattle.std.proofs.Math.Seq.{drop-append_seam}
use Rattle.std.proofs.lemmas.Fmt.{decimal_is_IsNumeral}
use Rattle.std.proofs.lemmas.Grind.{common_steps}
use Rattle.std.proofs.lemmas.List.{append-nil, append_assoc, drop-drop, drop_more, length-append, length-drop}
use Rattle.std.proofs.lemmas.List.Concat.{flat_map-cons, flat_map-append}
use Rattle.std.proofs.lemmas.List.Elements.{All-head, All-tail, All-push, All-contains, Contains-append_right}
use Rattle.std.proofs.lemmas.List.Sums.{take_while-cons}
use Rattle.tl_base.specs.declared.limits.TheConstants.{MAX_COLUMNS, MAX_PAGE_WIDTH}
use Rattle.tl_base.specs.Number.{NumberStandsAt}
use Rattle.tl_base.proofs.Decimals.{own, stands_once}
use Rattle.tl_base.proofs.Members.{Contains-first, first-same, rest-same}
use Rattle.tl_command.specs.Options.{AreFloors, comma_numbers, list_word}

-- ---- where a number ends

-- nothing follows, or a comma
abbrev pub IsSeparated : List ℕ → Type 0
IsSeparated [] = Unit {0}
IsSeparated (b ∷ bytes) = b ≡ 44

-- each number has 64 bits
IsSmall : ℕ → Type 0
IsSmall floor = floor ≤ MAX_PAGE_WIDTH

digits_of : (n : ℕ) → n ≤ MAX_PAGE_WIDTH → all_ascii_digits (decimal n) ≡ true
digits_of n small = own.from (decimal n) (decimal_is_IsNumeral n (omega (arith, small))).0.1

-- the run of digits ends before it
run_one : (is_digit : Bool) (d : ℕ) (ds rest : List ℕ) → (is_digit && all_ascii_digits ds) ≡ true →
    (all_ascii_digits ds ≡ true → take_while is_ascii_digit (ds ++ rest) ≡ ds) →
    cond is_digit (d ∷ take_while is_ascii_digit (ds ++ rest)) [] ≡ d ∷ ds
run_one true d ds rest digits later = ap (λ run. d ∷ run) (later digits)
run_one false d ds rest digits later = cc

run_ends : (ds rest : List ℕ) → all_ascii_digits ds ≡ true → IsSeparated rest → take_while is_ascii_digit (ds ++ rest) ≡ ds
run_ends [] [] digits is = refl
run_ends [] (b ∷ rest) digits is = subst (λ (c : ℕ). take_while is_ascii_digit (c ∷ rest) ≡ []) (sym is) refl
run_ends (d ∷ ds) rest digits is =
    rw (take_while-cons is_ascii_digit d (ds ++ rest))
    (run_one (is_ascii_digit d) d ds rest digits (λ all. run_ends ds rest all is))

-- what is left where a run ends
run_split : (bytes : List ℕ) → bytes ≡ take_while is_ascii_digit bytes ++ drop (length (take_while is_ascii_digit bytes)) bytes
run_split [] = refl
run_split (b ∷ bytes) =
    by_digit (is_ascii_digit b) (run_split bytes)
    ∙ ap (λ (run : List ℕ). run ++ drop (length run) (b ∷ bytes)) (sym (take_while-cons is_ascii_digit b bytes)) where
      by_digit : (is_digit : Bool) → bytes ≡ take_while is_ascii_digit bytes ++
          drop (length (take_while is_ascii_digit bytes)) bytes →
          b ∷ bytes ≡ cond is_digit (b ∷ take_while is_ascii_digit bytes) [] ++
          drop (length (cond is_digit (b ∷ take_while is_ascii_digit bytes) [])) (b ∷ bytes)
      by_digit true rest = ap (λ (bs : List ℕ). b ∷ bs) rest
      by_digit false rest = refl

-- a number before nothing, or before a comma, stands there
pub stands_separated : (bytes : List ℕ) (at n : ℕ) (rest : List ℕ) → n ≤ MAX_PAGE_WIDTH → IsSeparated rest →
    drop at bytes ≡ decimal n ++ rest → NumberStandsAt bytes at n
stands_separated bytes at n rest small is same = (
  omega (arith, small),
  ap (take_while is_ascii_digit) same ∙ run_ends (decimal n) rest (digits_of n small) is,
)

-- what stands where a number does
pub standing_split : (bytes : List ℕ) (at n : ℕ) → NumberStandsAt bytes at n →
    drop at bytes ≡ decimal n ++ drop (at + length (decimal n)) bytes
standing_split bytes at n stands =
    run_split (drop at bytes)
    ∙ ap (λ (ds : List ℕ). ds ++ drop (length ds) (drop at bytes)) stands.1
    ∙ ap (λ (rest : List ℕ). decimal n ++ rest) (drop-drop (length (decimal n)) at bytes)

-- the place past a number is within the bytes
pub past_within : (bytes : List ℕ) (at n : ℕ) → at ≤ length bytes → NumberStandsAt bytes at n →
    at + length (decimal n) ≤ length bytes
past_within bytes at n within stands = omega (
  arith,
  within,
  length-drop at bytes,
  ap length (standing_split bytes at n stands),
  length-append (decimal n) (drop (at + length (decimal n)) bytes),
)

-- two numbers before nothing, or before a comma
number_split : (m n : ℕ) (rest more : List ℕ) → m ≤ MAX_PAGE_WIDTH → n ≤ MAX_PAGE_WIDTH → IsSeparated rest → IsSeparated more →
    decimal m ++ rest ≡ decimal n ++ more → (m ≡ n) × (rest ≡ more)
number_split m n rest more small tiny is are same = (
  number,
  sym (drop-append_seam (decimal m) rest) ∙ ap (drop (length (decimal m))) same
      ∙ ap (λ (k : ℕ). drop (length (decimal k)) (decimal n ++ more)) number ∙ drop-append_seam (decimal n) more,
) where
  number : m ≡ n
  number = stands_once (decimal n ++ more) 0 m n (stands_separated (decimal n ++ more) 0 m rest small is (sym same))
      (stands_separated (decimal n ++ more) 0 n more tiny are refl)

-- ---- lists

-- numbers with a comma before each begin with one
separated : (floors rest : List ℕ) → IsSeparated rest → IsSeparated (comma_numbers floors ++ rest)
separated [] rest is = is
separated (floor ∷ floors) rest is = refl

all_separated : (floors : List ℕ) → IsSeparated (comma_numbers floors)
all_separated [] = tt
all_separated (floor ∷ floors) = refl

comma_cons : (floor : ℕ) (floors : List ℕ) → comma_numbers (floor ∷ floors) ≡ 44 ∷ (decimal floor ++ comma_numbers floors)
comma_cons floor floors = flat_map-cons (λ (n : ℕ). codes "," ++ decimal n) floor floors

-- numbers that are spelled as these and more are these and more
follow : (read floors rest : List ℕ) → All (λ floor. floor ≤ MAX_PAGE_WIDTH) read →
    All (λ floor. floor ≤ MAX_PAGE_WIDTH) floors → IsSeparated rest → comma_numbers floors ≡ comma_numbers read ++ rest →
    (later : List ℕ) × (floors ≡ read ++ later) × (comma_numbers later ≡ rest)
follow [] floors rest are_read are is e = (floors, refl, e)
follow (one ∷ read) [] rest are_read are is e = absurd (omega (arith, ap length e))
follow (one ∷ read) (other ∷ floors) rest are_read are is e =
    let joined : decimal other ++ comma_numbers floors ≡ decimal one ++ (comma_numbers read ++ rest) =
    rest-same 44 44 _ _ (sym (comma_cons other floors) ∙ e ∙ ap (λ (bs : List ℕ). bs ++ rest) (comma_cons one read)
    ∙ ap (λ (bs : List ℕ). 44 ∷ bs) (append_assoc (decimal one) (comma_numbers read) rest)) in
    let split = number_split other one (comma_numbers floors) (comma_numbers read ++ rest)
    (All-head (λ (floor : ℕ). floor ≤ MAX_PAGE_WIDTH) other floors are)
    (All-head (λ (floor : ℕ). floor ≤ MAX_PAGE_WIDTH) one read are_read) (all_separated floors) (separated read rest is) joined in
    let more = follow read floors rest (All-tail (λ (floor : ℕ). floor ≤ MAX_PAGE_WIDTH) one read are_read)
    (All-tail (λ (floor : ℕ). floor ≤ MAX_PAGE_WIDTH) other floors are) is split.1 in
    (more.0, cc, more.2)

-- the word of some numbers, after a comma
pub list_full : (floors : List ℕ) → 1 ≤ length floors → 44 ∷ list_word floors ≡ comma_numbers floors
list_full [] some = absurd (omega (arith, some))
list_full (floor ∷ floors) some =
    ap (λ (bs : List ℕ). 44 ∷ drop 1 bs) (comma_cons floor floors) ∙ sym (comma_cons floor floors)

-- an argument spells at most one list
pub list_once : (one other : List ℕ) → AreFloors one → AreFloors other → list_word one ≡ list_word other → one ≡ other
list_once one other first second same =
    let next = follow other one [] second.narrow first.narrow tt (sym (list_full one first.some)
    ∙ ap (λ (bs : List ℕ). 44 ∷ bs) same ∙ list_full other second.some ∙ sym (append-nil (comma_numbers other))) in
    by_later next.0 next.1 next.2 where
      by_later : (later : List ℕ) → one ≡ other ++ later → comma_numbers later ≡ [] → one ≡ other
      by_later [] is none = is ∙ append-nil other
      by_later (floor ∷ later) is none = absurd (omega (arith, ap length none))

-- ---- reading

-- these numbers have been read, and what is left after a comma begins at this byte
pub record HasReadFloors (bytes floors : List ℕ) (at : ℕ) : Type 0 where
  pub spelled : 44 ∷ bytes ≡ comma_numbers floors ++ 44 ∷ drop at bytes
  pub within : at ≤ length bytes
  pub narrow : All (λ floor. floor ≤ MAX_PAGE_WIDTH) floors
  pub few : length floors ≤ MAX_COLUMNS

module _ (bytes read : List ℕ) (at : ℕ) (so_far : HasReadFloors bytes read at) where
  -- the numbers of which the argument is the list go on with the one that stands there
  pub record GoesOn (floors : List ℕ) : Type 0 where
    pub next : ℕ
    pub later : List ℕ
    pub same : floors ≡ read ++ next ∷ later
    pub small : next ≤ MAX_PAGE_WIDTH
    pub left : drop at bytes ≡ decimal next ++ comma_numbers later
    pub stands : NumberStandsAt bytes at next

  pub goes_on : (floors : List ℕ) → AreFloors floors → list_word floors ≡ bytes → GoesOn floors
  goes_on floors are is =
      let found = follow read floors (44 ∷ drop at bytes) so_far.narrow are.narrow refl
      (sym (list_full floors are.some) ∙ ap (λ (bs : List ℕ). 44 ∷ bs) is ∙ so_far.spelled) in
      by_later found.0 found.1 found.2 where
        by_later : (later : List ℕ) → floors ≡ read ++ later → comma_numbers later ≡ 44 ∷ drop at bytes → GoesOn floors
        by_later [] same rest = absurd (omega (arith, ap length rest))
        by_later (next ∷ later) same rest =
            let left : drop at bytes ≡ decimal next ++ comma_numbers later =
            sym (rest-same 44 44 _ _ (sym (comma_cons next later) ∙ rest)) in
            let small : next ≤ MAX_PAGE_WIDTH = All-contains (λ (floor : ℕ). floor ≤ MAX_PAGE_WIDTH) floors next are.narrow
            (subst (λ (all : List ℕ). Contains all next) (sym same)
            (Contains-append_right read (next ∷ later) next (Contains-first next later))) in
            record {
              next = next;
              later = later;
              same = same;
              small = small;
              left = left;
              stands = stands_separated bytes at next (comma_numbers later) small (all_separated later) left;
            }

  -- so the argument is no list where none stands there
  pub none_stands : ((floor : ℕ) → floor ≤ MAX_PAGE_WIDTH → NumberStandsAt bytes at floor → ⊥) → (floors : List ℕ) →
      AreFloors floors → list_word floors ≢ bytes
  none_stands none floors are is = let on = goes_on floors are is in none on.next on.small on.stands

  -- nor where there are as many already as there may be
  pub none_more : MAX_COLUMNS ≤ length read → (floors : List ℕ) → AreFloors floors → list_word floors ≢ bytes
  none_more full floors are is =
      let on = goes_on floors are is in
      omega (arith, full, are.few, ap length on.same, length-append read (on.next ∷ on.later))

  -- where one stands there
  module _ (floor past : ℕ) (stands : NumberStandsAt bytes at floor) (small : floor ≤ MAX_PAGE_WIDTH)
      (is_past : past ≡ at + length (decimal floor)) where
    rest_is : drop at bytes ≡ decimal floor ++ drop past bytes
    rest_is = standing_split bytes at floor stands ∙ ap (λ (k : ℕ). decimal floor ++ drop k bytes) (sym is_past)

    read_one : 44 ∷ bytes ≡ comma_numbers (read ++ floor ∷ []) ++ drop past bytes
    read_one = so_far.spelled ∙ ap (λ (rest : List ℕ). comma_numbers read ++ 44 ∷ rest) rest_is ∙ grind (
      arith,
      common_steps,
      flat_map-append (λ (n : ℕ). codes "," ++ decimal n) read (floor ∷ []),
      comma_cons floor [],
    )

    -- the argument is no list where something other than a comma follows
    pub none_follows : past < length bytes → (get_or bytes past 0 ≢ 44) → (floors : List ℕ) → AreFloors floors →
        list_word floors ≢ bytes
    none_follows more apart floors are is =
        let on = goes_on floors are is in
        let same : on.next ≡ floor = stands_once bytes at on.next floor on.stands stands in
        let after : comma_numbers on.later ≡ drop past bytes =
        sym (drop-append_seam (decimal floor) (comma_numbers on.later))
        ∙ ap (λ (k : ℕ). drop (length (decimal floor)) (decimal k ++ comma_numbers on.later)) (sym same)
        ∙ ap (drop (length (decimal floor))) (sym on.left ∙ rest_is) ∙ drop-append_seam (decimal floor) (drop past bytes) in
        by_later on.later (after ∙ drop_more bytes past 0 more) where
          by_later : (later : List ℕ) → comma_numbers later ≡ get_or bytes past 0 ∷ drop (past + 1) bytes → ⊥
          by_later [] e = absurd (omega (arith, ap length e))
          by_later (next ∷ later) e = apart (first-same _ _ _ _ (sym e ∙ comma_cons next later))

    -- and the list where nothing does
    pub all_read : past ≡ length bytes → list_word (read ++ floor ∷ []) ≡ bytes
    all_read ended =
        sym (ap (drop 1) (read_one ∙ ap (λ (rest : List ℕ). comma_numbers (read ++ floor ∷ []) ++ rest)
        (drop_of_length-le bytes (omega (arith, ended))) ∙ append-nil (comma_numbers (read ++ floor ∷ []))))

    -- and goes on where a comma does
    pub one_more : past < length bytes → get_or bytes past 0 ≡ 44 → length read < MAX_COLUMNS →
        HasReadFloors bytes (read ++ floor ∷ []) (past + 1)
    one_more more comma room = record {
      spelled = read_one ∙ ap (λ (rest : List ℕ). comma_numbers (read ++ floor ∷ []) ++ rest)
          (drop_more bytes past 0 more ∙ ap (λ (b : ℕ). b ∷ drop (past + 1) bytes) comma);
      within = omega (arith, more);
      narrow = All-push (λ (n : ℕ). n ≤ MAX_PAGE_WIDTH) read floor so_far.narrow small;
      few = omega (arith, room, length-append read (floor ∷ []));
    }
