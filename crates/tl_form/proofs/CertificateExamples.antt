-- The definitions of certificates, run on one that is drawn: a table of one cell that holds a table of two columns, on a
-- page of 12 columns in style plain, with two columns between two cells.
--
--   |aaa  bb bb|        |aaa  bb|
--   |aaa       |        |aaa  bb|        the nested table: 10 columns and 2 lines, or 7 columns and 3 lines
--                       |aaa    |
--
--   section 1 12 2 2    the nested table on 12 columns: its placement of 10 has 2 lines, the lowest
--   section 1 9 3 3     on 9, one less than 10: its placement of 7, its least width, has 3 lines
--   section 0 12 2 2    the table itself: its placement of 10 has 2 lines
use Rattle.std.proofs.Common.{◌≡◌, ◌∙◌, ℕ, zero, suc, ◌-◌, ◌==◌, if◌then◌else◌, ◌<◌, ◌≤◌, List, [], ◌∷◌, length, get_or, take}
use Rattle.std.proofs.Common.{Option, None, Some}
use Rattle.std.proofs.Common.{refl, sym, ap, subst, arith}
use Rattle.std.proofs.lemmas.List.Elements.{All-from_recursion}
use Rattle.tl_base.specs.declared.style.Style.TheVariants.{Plain, Frame}
use Rattle.tl_cert.specs.declared.certificate.Claim.TheVariants.{Lowest, Bounded}
use Rattle.tl_cert.specs.declared.section.Section.{Section}
use Rattle.tl_table.specs.declared.cell.Table.{Table, out-Table}
use Rattle.tl_form.specs.Expected.{Document, Due, next_width, placed_width, due_in, next_due, due_from, due_after, IsDue}
use Rattle.tl_form.specs.Expected.{AreExpected}
use Rattle.tl_form.specs.Named.{IsChosen}
use Rattle.tl_form.specs.Nested.{IsAsWide, IsPlacedWithin, IsGreatestLower, IsLeastFound}
use Rattle.tl_form.specs.Valid.{EndsWith}

-- a section by its table, page, height, lower bound and widths
abbrev section : ℕ → ℕ → ℕ → ℕ → List ℕ → Section
section table width height lower widths = record {
  table = table;
  width = width;
  height = height;
  lower = lower;
  widths = widths;
  trace = [];
  log = [];
}

abbrev wide : Section
wide = section 1 12 2 2 (3 ∷ 5 ∷ [])

abbrev narrow : Section
narrow = section 1 9 3 3 (3 ∷ 2 ∷ [])

abbrev own : Section
own = section 0 12 2 2 (10 ∷ [])

abbrev nested : List Section
nested = wide ∷ narrow ∷ []

abbrev all : List Section
all = wide ∷ narrow ∷ own ∷ []

-- ---- placements

wide_takes : placed_width Plain wide ≡ 10
wide_takes = refl

wide_takes_in_a_frame : placed_width Frame wide ≡ 11
wide_takes_in_a_frame = refl

-- one column less than a placement, but not less than the least width; nothing is narrower than no column
next_is_narrower : next_width 7 10 ≡ Some 9
next_is_narrower = refl

none_is_narrower : next_width 7 7 ≡ None
none_is_narrower = refl

none_after_no_column : next_width 0 0 ≡ None
none_after_no_column = refl

-- ---- which sections are due

abbrev a_due : ℕ → ℕ → Option Due
a_due table width = Some (record { table = table; width = width })

abbrev table_of : Option Due → ℕ
table_of None = 0
table_of (Some due) = due.table

module _ (table : Table) (numbered : (out-Table table).number ≡ 0) where
  abbrev document : Document
  document = record { table = table; style = Plain; page = 12; last = 1; least = 7 ∷ 7 ∷ [] }

  first_due_is : due_after document [] ≡ Some (record { table = 1; width = 12 })
  first_due_is = refl

  -- after a section of a table, where the document's own has number 0
  next_of : (number placed : ℕ) → next_due document number placed ≡ if number == 0 then None
      else Some (due_in document number (next_width (get_or (7 ∷ 7 ∷ []) (number - 0) 0) placed))
  next_of number placed = subst (λ own. next_due document number placed ≡ if number == own then None
      else Some (due_in document number (next_width (get_or (7 ∷ 7 ∷ []) (number - own) 0) placed))) numbered refl

  second_due_is : due_after document (wide ∷ []) ≡ Some (record { table = 1; width = 9 })
  second_due_is = next_of 1 10

  own_due_is : due_after document nested ≡ Some (record { table = 0; width = 12 })
  own_due_is = ap (λ due. due_from document due (narrow ∷ [])) second_due_is ∙ next_of 1 7

  none_due : due_after document all ≡ None
  none_due =
      ap (λ due. due_from document due (narrow ∷ own ∷ [])) second_due_is
      ∙ ap (λ due. due_from document due (own ∷ [])) (next_of 1 7)
      ∙ next_of 0 10

  expected : AreExpected document all
  expected = record { due = due; whole = none_due }
    where
      due : (i : ℕ) (d : Section) → i < length all → IsDue document (take i all) (get_or all i d)
      due zero d within = first_due_is
      due (suc zero) d within = second_due_is
      due (suc (suc zero)) d within = own_due_is
      due (suc (suc (suc i))) d within = absurd (omega (arith, within))

  -- without the second section the third is not the one that is due
  not_without_second : IsDue document (wide ∷ []) own → ⊥
  not_without_second is = different (sym second_due_is ∙ is)
    where
      different : a_due 1 9 ≡ a_due 0 12 → ⊥
      different same = absurd (omega (arith, ap (λ (o : Option Due). table_of o) same))

-- ---- what the sections tell of the nested table

-- on 9 columns both bounds hold, and the greater counts
lower_at_9 : IsGreatestLower nested 1 9 3
lower_at_9 = record {
  attained = (1, narrow, omega arith, refl, (record { of = refl; wide = omega arith }, refl));
  never_more = All-from_recursion (λ s. IsAsWide 1 9 s → s.lower ≤ 3) nested
      ((λ counts. omega arith), ((λ counts. omega arith), tt));
}

-- on 10 the second section says nothing
lower_at_10 : IsGreatestLower nested 1 10 2
lower_at_10 = record {
  attained = (0, wide, omega arith, refl, (record { of = refl; wide = omega arith }, refl));
  never_more = All-from_recursion (λ s. IsAsWide 1 10 s → s.lower ≤ 2) nested
      ((λ counts. omega arith), ((λ counts. absurd (omega (arith, counts.wide))), tt));
}

-- in 9 columns only the narrow placement fits, in 10 the lower one as well
found_at_9 : IsLeastFound Plain nested 1 9 3
found_at_9 = record {
  attained = (1, narrow, omega arith, refl, (record { of = refl; narrow = omega arith }, refl));
  never_less = All-from_recursion (λ s. IsPlacedWithin Plain 1 9 s → 3 ≤ s.height) nested
      ((λ counts. absurd (omega (arith, counts.narrow))), ((λ counts. omega arith), tt));
}

found_at_10 : IsLeastFound Plain nested 1 10 2
found_at_10 = record {
  attained = (0, wide, omega arith, refl, (record { of = refl; narrow = omega arith }, refl));
  never_less = All-from_recursion (λ s. IsPlacedWithin Plain 1 10 s →
      2 ≤ s.height) nested ((λ counts. omega arith), ((λ counts. omega arith), tt));
}

-- ---- the claim, and the layout

lowest_2 : EndsWith (Lowest 2) all
lowest_2 = (refl, refl)

not_lowest_1 : EndsWith (Lowest 1) all → ⊥
not_lowest_1 is = omega (arith, is.0)

-- a bound is below the height
not_bounded_2 : EndsWith (Bounded 2 2) all → ⊥
not_bounded_2 is = omega (arith, is.2)

-- in the room of 10 columns the nested table is laid out by its first section
chosen_in_10 : IsChosen Plain all 1 10 0
chosen_in_10 = record {
  there = omega arith;
  within = λ d. record { of = refl; narrow = omega arith };
  least = least;
  first = λ j d before fits. absurd (omega (arith, before));
} where
  least : (j : ℕ) (d : Section) → j < length all → IsPlacedWithin Plain 1 10 (get_or all j d) → 2 ≤ (get_or all j d).height
  least zero d within fits = omega arith
  least (suc zero) d within fits = omega arith
  least (suc (suc zero)) d within fits = omega arith
  least (suc (suc (suc j))) d within fits = absurd (omega (arith, within))
