-- The greedy cutting as ranges of atoms, one atom after the other.
use Rattle.std.proofs.Common.{◌≡◌, ℕ, ◌+◌, ◌-◌, ◌≤◌, ◌<◌, Bool, true, false, if◌then◌else◌, nat_le, List, [], ◌∷◌, ◌++◌}
use Rattle.std.proofs.Common.{length, drop, take}
use Rattle.std.proofs.Common.{get_or, map, Option, Some, None, IsSome, is_some, refl, sym, ap, ◌∙◌, subst, arith, append_assoc}
use Rattle.std.proofs.Common.{inl, inr}
use Rattle.std.specs.List.{onto_first, AllZip, slice_range}
use Rattle.std.proofs.lemmas.List.{append-nil, drop_more, drop_all, take_at, length_push}
use Rattle.std.proofs.lemmas.Slice.Zip.{AllZip-long}
use Rattle.std.proofs.lemmas.Bool.{false≢true, not-false, not-true}
use Rattle.tl_base.proofs.Zips.{AllZip-push}
use Rattle.tl_text.specs.declared.paragraph.Atom.{Atom}
use Rattle.tl_text.specs.declared.paragraph.Atom.TheVariants.{Word, Glue, Break}
use Rattle.tl_text.specs.declared.ranges.Line.{Line}
use Rattle.tl_text.specs.Paragraph.{unit_width, gap_before, lined_pieces}
use Rattle.tl_text.specs.Cuttings.{line_width, joined, LeastLines}
use Rattle.tl_text.specs.inner.Measure.{measure_of, next_line, ends_line}
use Rattle.tl_text.specs.Ranges.{AreConsecutive, ShowsLine, ShowsGreedyCutting}
use Rattle.tl_text.proofs.Widths.{line_width-push}
use Rattle.tl_text.proofs.Greedy.{fill, piece_lines, line_width-single}
use Rattle.tl_text.proofs.Paragraphs.{AllFit, greedy_cut, greedy_cut-IsGreedyCutting, greedy_cut-least}

-- ---- the lines that a loop over the atoms makes

-- the lines that come, where a line with these units is open
abbrev pub lines_from : ℕ → List Atom → List Atom → List (List Atom)
lines_from w [] [] = []
lines_from w (first ∷ line) [] = (first ∷ line) ∷ []
lines_from w line (Break ∷ atoms) = line ∷ lines_from w [] atoms
lines_from w [] (unit ∷ atoms) = lines_from w (unit ∷ []) atoms
lines_from w (first ∷ line) (unit ∷ atoms) =
    if nat_le (line_width ((first ∷ line) ++ unit ∷ [])) w then lines_from w ((first ∷ line) ++ unit ∷ [])
    atoms else (first ∷ line)
    ∷ lines_from w (unit ∷ []) atoms

-- the lines that are still to come, by the pieces
abbrev pub shown_from : ℕ → List Atom → List (List Atom) → List (List Atom)
shown_from w [] pieces = joined (map (piece_lines w) pieces)
shown_from w (first ∷ line) [] = (first ∷ line) ∷ []
shown_from w (first ∷ line) (piece ∷ pieces) = fill w (first ∷ line) piece ++ joined (map (piece_lines w) pieces)

shown_from-first : (w : ℕ) (unit : Atom) (pieces : List (List Atom)) →
    shown_from w [] (onto_first unit pieces) ≡ shown_from w (unit ∷ []) pieces
shown_from-first w unit [] = refl
shown_from-first w unit (piece ∷ pieces) = refl

append-choice : (b : Bool) (xs : List (List Atom)) (line : List Atom) (ys more : List (List Atom)) →
    (if b then xs else line ∷ ys) ++ more
    ≡ (if b then xs ++ more else line ∷ (ys ++ more))
append-choice true xs line ys more = refl
append-choice false xs line ys more = refl

same-choice : (b : Bool) (xs : List (List Atom)) (line : List Atom) (ys us vs : List (List Atom)) → xs ≡ us → ys ≡ vs →
    (if b then xs else line ∷ ys)
    ≡ (if b then us else line ∷ vs)
same-choice true xs line ys us vs first second = first
same-choice false xs line ys us vs first second = ap (λ rest. line ∷ rest) second

shown_from-unit : (w : ℕ) (first : Atom) (line : List Atom) (unit : Atom) (pieces : List (List Atom))
    → shown_from w (first ∷ line) (onto_first unit pieces)
    ≡ (if nat_le (line_width ((first ∷ line) ++ unit ∷ [])) w then shown_from w ((first ∷ line) ++ unit ∷ [])
    pieces else (first ∷ line)
    ∷ shown_from w (unit ∷ []) pieces)
shown_from-unit w first line unit [] =
    append-choice (nat_le (line_width ((first ∷ line) ++ unit ∷ [])) w) (((first ∷ line) ++ unit ∷ []) ∷ []) (first ∷ line)
    ((unit ∷ []) ∷ []) []
shown_from-unit w first line unit (piece ∷ pieces) =
    append-choice (nat_le (line_width ((first ∷ line) ++ unit ∷ [])) w) (fill w ((first ∷ line) ++ unit ∷ []) piece)
    (first ∷ line)
    (fill w (unit ∷ []) piece) (joined (map (piece_lines w) pieces))

pub lines_from-is : (w : ℕ) (line atoms : List Atom) → lines_from w line atoms ≡ shown_from w line (lined_pieces atoms)
lines_from-is w [] [] = refl
lines_from-is w (first ∷ line) [] = refl
lines_from-is w [] (Break ∷ atoms) = ap (λ lines. [] ∷ lines) (lines_from-is w [] atoms)
lines_from-is w (first ∷ line) (Break ∷ atoms) = ap (λ lines. (first ∷ line) ∷ lines) (lines_from-is w [] atoms)
lines_from-is w [] (unit ∷ atoms) = lines_from-is w (unit ∷ []) atoms ∙ sym (shown_from-first w unit (lined_pieces atoms))
lines_from-is w (first ∷ line) (unit ∷ atoms) =
    same-choice (nat_le (line_width ((first ∷ line) ++ unit ∷ [])) w) _ (first ∷ line) _ _ _
    (lines_from-is w ((first ∷ line) ++ unit ∷ []) atoms)
    (lines_from-is w (unit ∷ []) atoms) ∙ sym (shown_from-unit w first line unit (lined_pieces atoms))

-- ---- one more atom, by what the loop sees of it

if_true : {X : Type 0} (b : Bool) (x y : X) → b ≡ true → (if b then x else y) ≡ x
if_true b x y is = ap (λ c. if c then x else y) is

if_false : {X : Type 0} (b : Bool) (x y : X) → b ≡ false → (if b then x else y) ≡ y
if_false b x y is = ap (λ c. if c then x else y) is

-- how wide the open line is, if a unit stands on it
abbrev pub width_if_any : List Atom → Option ℕ
width_if_any [] = None
width_if_any (first ∷ line) = Some (line_width (first ∷ line))

-- a line with units grows by a unit, or it is ended
module _ (w : ℕ) (first : Atom) (line : List Atom) (unit : Atom) (joining starting : List (List Atom)) where
  abbrev wider : ℕ
  wider = line_width (first ∷ line) + gap_before unit + unit_width unit

  joins_unit : nat_le wider w ≡ true →
      ((if nat_le (line_width ((first ∷ line) ++ unit ∷ [])) w then joining else starting) ≡ joining)
      × ((if nat_le wider w then Some wider else Some (unit_width unit)) ≡ Some (line_width ((first ∷ line) ++ unit ∷ [])))
  joins_unit fits =
      let push = line_width-push first line unit in (
        if_true (nat_le (line_width ((first ∷ line) ++ unit ∷ [])) w) joining starting (ap (λ v. nat_le v w) push ∙ fits),
        if_true (nat_le wider w) (Some wider) (Some (unit_width unit)) fits ∙ ap (λ v. Some v) (sym push),
      )

  starts_unit : nat_le wider w ≡ false →
      ((if nat_le (line_width ((first ∷ line) ++ unit ∷ [])) w then joining else starting) ≡ starting)
      × ((if nat_le wider w then Some wider else Some (unit_width unit)) ≡ Some (line_width (unit ∷ [])))
  starts_unit over =
      let push = line_width-push first line unit in (
        if_false (nat_le (line_width ((first ∷ line) ++ unit ∷ [])) w) joining starting (ap (λ v. nat_le v w) push ∙ over),
        if_false (nat_le wider w) (Some wider) (Some (unit_width unit)) over ∙ ap (λ v. Some v) (sym (line_width-single unit)),
      )

some_choice : (b : Bool) (m n : ℕ) → (if b then Some m else Some n) ≡ None → ⊥
some_choice true m n none = cc
some_choice false m n none = cc

-- only a break leaves no line open
is_break : (w : ℕ) (line : Option ℕ) (atom : Atom) → next_line w line (measure_of atom) ≡ None → atom ≡ Break
is_break w line Break none = refl
is_break w None (Word text) none = cc
is_break w None (Glue text) none = cc
is_break w (Some used) (Word text) none = absurd (some_choice _ _ _ none)
is_break w (Some used) (Glue text) none = absurd (some_choice _ _ _ none)

-- an atom that ends no line is a unit on the open one
joins : (w : ℕ) (units : List Atom) (atom : Atom) (atoms : List Atom) → ends_line w (width_if_any units) (measure_of atom) ≡ false
    → (lines_from w units (atom ∷ atoms) ≡ lines_from w (units ++ atom ∷ []) atoms)
    × (next_line w (width_if_any units) (measure_of atom) ≡ width_if_any (units ++ atom ∷ []))
joins w [] Break atoms stays = cc
joins w (first ∷ line) Break atoms stays = cc
joins w [] (Word text) atoms stays = (refl, ap (λ v. Some v) (sym (line_width-single (Word text))))
joins w [] (Glue text) atoms stays = (refl, ap (λ v. Some v) (sym (line_width-single (Glue text))))
joins w (first ∷ line) (Word text) atoms stays = joins_unit w first line (Word text) _ _ (not-false _ stays)
joins w (first ∷ line) (Glue text) atoms stays = joins_unit w first line (Glue text) _ _ (not-false _ stays)

-- a unit that ends a line, which then has units, begins the next
starts : (w : ℕ) (units : List Atom) (atom : Atom) (atoms : List Atom) → ends_line w (width_if_any units) (measure_of atom) ≡ true
    → (atom ≡ Break → ⊥) → (0 < length units) × (lines_from w units (atom ∷ atoms) ≡ units ∷ lines_from w (atom ∷ []) atoms)
    × (next_line w (width_if_any units) (measure_of atom) ≡ width_if_any (atom ∷ []))
starts w units Break atoms ended unit = absurd (unit refl)
starts w [] (Word text) atoms ended unit = absurd (false≢true ended)
starts w [] (Glue text) atoms ended unit = absurd (false≢true ended)
starts w (first ∷ line) (Word text) atoms ended unit =
    let both = starts_unit w first line (Word text) (lines_from w ((first ∷ line) ++ Word text ∷ []) atoms)
    ((first ∷ line) ∷ lines_from w (Word text ∷ []) atoms) (not-true _ ended) in
    (omega arith, both.0, both.1)
starts w (first ∷ line) (Glue text) atoms ended unit =
    let both = starts_unit w first line (Glue text) (lines_from w ((first ∷ line) ++ Glue text ∷ []) atoms)
    ((first ∷ line) ∷ lines_from w (Glue text ∷ []) atoms) (not-true _ ended) in
    (omega arith, both.0, both.1)

-- ---- ranges

-- one more range after those before it
AreInOrder-push : (from : ℕ) (ranges : List Line) (first past : ℕ) → AreConsecutive from ranges first → first < past
    → AreConsecutive from (ranges ++ record { first = first; past = past } ∷ []) past
AreInOrder-push from [] first past before some = (sym before, some, refl)
AreInOrder-push from (range ∷ ranges) first past before some =
    (before.0, before.1, AreInOrder-push range.past ranges first past before.2 some)

-- the first `n` atoms are in ranges and on an open line, which begins at the atom `first`
pub record IsCutUpTo (w : ℕ) (atoms : List Atom) (n first : ℕ) (line : Option ℕ) (ranges : List Line) : Type 0 where
  pub done : List (List Atom)
  pub units : List Atom
  pub place : first + length units ≡ n
  pub here : drop first atoms ≡ units ++ drop n atoms
  pub width : line ≡ width_if_any units
  pub in_order : AreConsecutive 0 ranges first
  pub shown : AllZip (ShowsLine atoms) ranges done
  pub rest : done ++ lines_from w units (drop n atoms) ≡ joined (greedy_cut w atoms)

-- at the beginning
pub IsCutUpTo-none : (w : ℕ) (atoms : List Atom) → IsCutUpTo w atoms 0 0 None []
IsCutUpTo-none w atoms = record {
  done = [];
  units = [];
  place = refl;
  here = refl;
  width = refl;
  in_order = refl;
  shown = tt;
  rest = lines_from-is w [] atoms;
}

-- the open line is the range up to `n`
slice_is : (w : ℕ) (atoms : List Atom) (n first : ℕ) (line : Option ℕ) (ranges : List Line)
    (cut : IsCutUpTo w atoms n first line ranges)
    → slice_range atoms first n ≡ cut.units
slice_is w atoms n first line ranges cut = ap (λ l. take (n - first) l) cut.here ∙ take_at cut.units (drop n atoms) (n - first)
    (omega (arith, cut.place))

after_break_none : (w : ℕ) (line : Option ℕ) → next_line w line (measure_of Break) ≡ None
after_break_none w None = refl
after_break_none w (Some used) = refl

module _ (w : ℕ) (atoms : List Atom) (n first : ℕ) (line : Option ℕ) (ranges : List Line) (atom : Atom)
    (within : n < length atoms)
    (is : atom ≡ get_or atoms n atom) (cut : IsCutUpTo w atoms n first line ranges) where
  here_more : drop n atoms ≡ atom ∷ drop (n + 1) atoms
  here_more = drop_more atoms n atom within ∙ ap (λ a. a ∷ drop (n + 1) atoms) (sym is)

  -- the atoms from a line's first on
  here_with : drop first atoms ≡ (cut.units ++ atom ∷ []) ++ drop (n + 1) atoms
  here_with = cut.here ∙ ap (λ l. cut.units ++ l) here_more ∙ sym (append_assoc cut.units (atom ∷ []) (drop (n + 1) atoms))

  slice_more : slice_range atoms first (n + 1) ≡ cut.units ++ atom ∷ []
  slice_more = ap (λ l. take (n + 1 - first) l) here_with
      ∙ take_at (cut.units ++ atom ∷ []) (drop (n + 1) atoms) (n + 1 - first)
      (omega (arith, cut.place, length_push cut.units atom))

  -- what is left to do, with the atom first
  rest_with : cut.done ++ lines_from w cut.units (atom ∷ drop (n + 1) atoms) ≡ joined (greedy_cut w atoms)
  rest_with = ap (λ l. cut.done ++ lines_from w cut.units l) (sym here_more) ∙ cut.rest

  -- one more line is done
  done_with : (line : List Atom) (lines : List (List Atom)) → cut.done ++ (line ∷ lines) ≡ (cut.done ++ line ∷ []) ++ lines
  done_with line lines = sym (append_assoc cut.done (line ∷ []) lines)

  -- a break ends the open line
  pub cut_break : next_line w line (measure_of atom) ≡ None →
      IsCutUpTo w atoms (n + 1) (n + 1) None (ranges ++ record { first = first; past = n + 1 } ∷ [])
  cut_break none =
      let break = is_break w line atom none in
      record {
        done = cut.done ++ cut.units ∷ [];
        units = [];
        place = omega arith;
        here = refl;
        width = refl;
        in_order = AreInOrder-push 0 ranges first (n + 1) cut.in_order (omega (arith, cut.place));
        shown = AllZip-push (ShowsLine atoms) ranges cut.done _ cut.units cut.shown
            (inr (slice_more ∙ ap (λ a. cut.units ++ a ∷ []) break));
        rest = sym (done_with cut.units (lines_from w [] (drop (n + 1) atoms)))
            ∙ ap (λ lines. cut.done ++ lines) (sym (after_break cut.units (drop (n + 1) atoms)))
            ∙ ap (λ a. cut.done ++ lines_from w cut.units (a ∷ drop (n + 1) atoms)) (sym break) ∙ rest_with;
      }
    where
      after_break : (units rest : List Atom) → lines_from w units (Break ∷ rest) ≡ units ∷ lines_from w [] rest
      after_break [] rest = refl
      after_break (first ∷ units) rest = refl

  -- a unit joins the open line
  pub cut_join : ends_line w line (measure_of atom) ≡ false →
      IsCutUpTo w atoms (n + 1) first (next_line w line (measure_of atom)) ranges
  cut_join stays =
      let ends : ends_line w (width_if_any cut.units) (measure_of atom) ≡ false =
      ap (λ l. ends_line w l (measure_of atom)) (sym cut.width) ∙ stays in
      let both = joins w cut.units atom (drop (n + 1) atoms) ends in
      record {
        done = cut.done;
        units = cut.units ++ atom ∷ [];
        place = omega (arith, cut.place, length_push cut.units atom);
        here = here_with;
        width = ap (λ l. next_line w l (measure_of atom)) cut.width ∙ both.1;
        in_order = cut.in_order;
        shown = cut.shown;
        rest = ap (λ lines. cut.done ++ lines) (sym both.0) ∙ rest_with;
      }

  -- a unit begins a line
  pub cut_start : ends_line w line (measure_of atom) ≡ true → IsSome (next_line w line (measure_of atom))
      → IsCutUpTo w atoms (n + 1) n (next_line w line (measure_of atom)) (ranges ++ record { first = first; past = n } ∷ [])
  cut_start ended some =
      let ends : ends_line w (width_if_any cut.units) (measure_of atom) ≡ true =
      ap (λ l. ends_line w l (measure_of atom)) (sym cut.width) ∙ ended in
      let both = starts w cut.units atom (drop (n + 1) atoms) ends
      (λ break. false≢true (subst (λ o. IsSome o) (ap (λ a. next_line w line (measure_of a)) break ∙ after_break_none w line)
      some)) in
      record {
        done = cut.done ++ cut.units ∷ [];
        units = atom ∷ [];
        place = omega arith;
        here = here_more;
        width = ap (λ l. next_line w l (measure_of atom)) cut.width ∙ both.2;
        in_order = AreInOrder-push 0 ranges first n cut.in_order (omega (arith, cut.place, both.0));
        shown = AllZip-push (ShowsLine atoms) ranges cut.done _ cut.units cut.shown
            (inl (slice_is w atoms n first line ranges cut));
        rest = sym (done_with cut.units (lines_from w (atom ∷ []) (drop (n + 1) atoms))) ∙ ap (λ lines. cut.done ++ lines)
            (sym both.1) ∙ rest_with;
      }

-- what the counts of ended lines show
ends_true : (ends : Bool) (old new : ℕ) → new ≡ (if ends then old + 1 else old) → old < new → ends ≡ true
ends_true true old new is more = refl
ends_true false old new is more = absurd (omega (arith, is))

ends_false : (ends : Bool) (old new : ℕ) → new ≡ (if ends then old + 1 else old) → new ≤ old → ends ≡ false
ends_false true old new is same = absurd (omega (arith, is))
ends_false false old new is same = refl

pub at_most_one : (ends : Bool) (old new : ℕ) → new ≡ (if ends then old + 1 else old) → new ≤ old + 1
at_most_one true old new is = omega (arith, is)
at_most_one false old new is = omega (arith, is)

pub none_open : (line : Option ℕ) → is_some line ≡ false → line ≡ None
none_open None h = refl
none_open (Some used) h = absurd (false≢true (sym h))

-- the steps of the loop, by what it sees of the lines before and after an atom
module _ (w : ℕ) (atoms : List Atom) (n first : ℕ) (line : Option ℕ) (ranges : List Line) (atom : Atom)
    (within : n < length atoms)
    (is : atom ≡ get_or atoms n atom) (cut : IsCutUpTo w atoms n first line ranges) (next : Option ℕ)
    (is_next : next ≡ next_line w line (measure_of atom)) where
  pub step_break : is_some next ≡ false → IsCutUpTo w atoms (n + 1) (n + 1) next
      (ranges ++ record { first = first; past = n + 1 } ∷ [])
  step_break closed =
      let none = none_open next closed in
      subst (λ l. IsCutUpTo w atoms (n + 1) (n + 1) l (ranges ++ record { first = first; past = n + 1 } ∷ [])) (sym none)
      (cut_break w atoms n first line ranges atom within is cut (sym is_next ∙ none))

  pub step_join : (old new : ℕ) → new ≡ (if ends_line w line (measure_of atom) then old + 1 else old) → new ≤ old →
      IsCutUpTo w atoms (n + 1) first next ranges
  step_join old new ended same =
      subst (λ l. IsCutUpTo w atoms (n + 1) first l ranges) (sym is_next)
      (cut_join w atoms n first line ranges atom within is cut (ends_false _ old new ended same))

  pub step_start : is_some next ≡ true → (old new : ℕ) → new ≡ (if ends_line w line (measure_of atom) then old + 1 else old) →
      old < new
      → IsCutUpTo w atoms (n + 1) n next (ranges ++ record { first = first; past = n } ∷ [])
  step_start some old new ended more =
      subst (λ l. IsCutUpTo w atoms (n + 1) n l (ranges ++ record { first = first; past = n } ∷ [])) (sym is_next)
      (cut_start w atoms n first line ranges atom within is cut (ends_true _ old new ended more)
      (subst (λ o. IsSome o) is_next some))

-- whether a unit stands on a line
no_units : (units : List Atom) → None ≡ width_if_any units → units ≡ []
no_units [] h = refl
no_units (first ∷ units) h = cc

some_units : (w : ℕ) (units : List Atom) → IsSome (width_if_any units) → (0 < length units) × (lines_from w units [] ≡ units ∷ [])
some_units w [] h = absurd (false≢true h)
some_units w (first ∷ units) h = (omega arith, refl)

-- after the last atom the open line, if it has a unit, is the last
module _ (w : ℕ) (atoms : List Atom) (first : ℕ) (line : Option ℕ) (ranges : List Line)
    (cut : IsCutUpTo w atoms (length atoms) first line ranges) where
  none_left : drop (length atoms) atoms ≡ []
  none_left = drop_all (length atoms) atoms (omega arith)

  rest_end : cut.done ++ lines_from w cut.units [] ≡ joined (greedy_cut w atoms)
  rest_end = ap (λ l. cut.done ++ lines_from w cut.units l) (sym none_left) ∙ cut.rest

  pub cut_all : line ≡ None → AreConsecutive 0 ranges (length atoms)
      × AllZip (ShowsLine atoms) ranges (joined (greedy_cut w atoms))
  cut_all none =
      let empty = no_units cut.units (sym none ∙ cut.width) in
      let end : first ≡ length atoms = omega (arith, cut.place, ap length empty) in (
        subst (λ past. AreConsecutive 0 ranges past) end cut.in_order,
        subst (λ lines. AllZip (ShowsLine atoms) ranges lines)
            (sym (append-nil cut.done) ∙ ap (λ units. cut.done ++ lines_from w units []) (sym empty) ∙ rest_end) cut.shown,
      )

  pub cut_last : IsSome line → AreConsecutive 0 (ranges ++ record { first = first; past = length atoms } ∷ []) (length atoms)
      × AllZip (ShowsLine atoms) (ranges ++ record { first = first; past = length atoms } ∷ []) (joined (greedy_cut w atoms))
  cut_last some =
      let both = some_units w cut.units (subst (λ o. IsSome o) cut.width some) in (
        AreInOrder-push 0 ranges first (length atoms) cut.in_order (omega (arith, cut.place, both.0)),
        subst (λ lines. AllZip (ShowsLine atoms) (ranges ++ record { first = first; past = length atoms } ∷ []) lines)
            (ap (λ lines. cut.done ++ lines) (sym both.1) ∙ rest_end)
            (AllZip-push (ShowsLine atoms) ranges cut.done _ cut.units cut.shown
            (inl (slice_is w atoms (length atoms) first line ranges cut))),
      )

-- the cutting that is shown is greedy, and has the least number of lines
pub ShowsGreedyCutting-from : (w : ℕ) (atoms : List Atom) (ranges : List Line) → AllFit w atoms →
    AreConsecutive 0 ranges (length atoms)
    × AllZip (ShowsLine atoms) ranges (joined (greedy_cut w atoms)) → ShowsGreedyCutting w atoms ranges
ShowsGreedyCutting-from w atoms ranges fit shows = record {
  cut = greedy_cut w atoms;
  greedy = greedy_cut-IsGreedyCutting w atoms fit;
  in_order = shows.0;
  shown = shows.1;
}

pub LeastLines-from : (w : ℕ) (atoms : List Atom) (ranges : List Line) → AllFit w atoms → AreConsecutive 0 ranges (length atoms)
    × AllZip (ShowsLine atoms) ranges (joined (greedy_cut w atoms)) → LeastLines w atoms (length ranges)
LeastLines-from w atoms ranges fit shows =
    subst (λ n. LeastLines w atoms n) (AllZip-long (ShowsLine atoms) ranges (joined (greedy_cut w atoms)) shows.1)
    (greedy_cut-least w atoms fit)
