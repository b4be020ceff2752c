-- The definitions of the specs, computed on small cases counted by hand.
use Rattle.std.proofs.Common.{◌≡◌, List, [], ◌∷◌, Some, None, true, false, refl, arith, ◌≤◌}
use Rattle.tl_base.specs.declared.steps.Config.{Config}
use Rattle.tl_base.specs.declared.limits.TheConstants.{MAX_FILE_BYTES, MAX_HEIGHT}
use Rattle.tl_base.specs.Lists.{is_among}
use Rattle.tl_base.specs.Steps.{height_at, stacked_height}
use Rattle.tl_base.specs.Text.{byte_count}

-- Three words of two columns: three lines from 2 columns on, two from 5, one from 8.
three_words : List Config
three_words = record { width = 2; height = 3 } ∷ record { width = 5; height = 2 } ∷ record { width = 8; height = 1 } ∷ []

-- Two words, of four columns and of one: two lines from 4 columns on, one from 6.
two_words : List Config
two_words = record { width = 4; height = 2 } ∷ record { width = 6; height = 1 } ∷ []

-- In 1 column there is no height, in 2 to 4 it is 3, in 5 to 7 it is 2, from 8 on it is 1.
too_narrow_for_words : height_at three_words 1 ≡ None
unfolding three_words
too_narrow_for_words = refl

at_its_first_width : height_at three_words 2 ≡ Some 3
unfolding three_words
at_its_first_width = refl

between_two_steps : height_at three_words 7 ≡ Some 2
unfolding three_words
between_two_steps = refl

beyond_the_last_step : height_at three_words 500 ≡ Some 1
unfolding three_words
beyond_the_last_step = refl

-- One above the other: none in 3 columns, 3 + 2 in 4, 2 + 2 in 5, 2 + 1 in 6 and 7, 1 + 1 in 8.
--
--     4 columns    5 columns    6 columns    8 columns
--     ab           ab cd        ab cd        ab cd ef
--     cd           ef           ef           wxyz v
--     ef           wxyz         wxyz v
--     wxyz         v
--     v
no_height_of_one : stacked_height three_words two_words 3 ≡ None
unfolding three_words two_words
no_height_of_one = refl

both_at_four : stacked_height three_words two_words 4 ≡ Some 5
unfolding three_words two_words
both_at_four = refl

both_at_five : stacked_height three_words two_words 5 ≡ Some 4
unfolding three_words two_words
both_at_five = refl

both_at_seven : stacked_height three_words two_words 7 ≡ Some 3
unfolding three_words two_words
both_at_seven = refl

both_at_eight : stacked_height three_words two_words 8 ≡ Some 2
unfolding three_words two_words
both_at_eight = refl

-- an `a` takes one byte, an `é` two, a `中` three
three_characters : byte_count (97 ∷ 233 ∷ 20013 ∷ []) ≡ 6
unfolding lib.Utf8.encode
three_characters = refl

seven_is_among : is_among (3 ∷ 7 ∷ 5 ∷ []) 7 ≡ true
seven_is_among = refl

six_is_not : is_among (3 ∷ 7 ∷ 5 ∷ []) 6 ≡ false
six_is_not = refl

-- the limits are numbers that the tactics know
a_file_is_shorter_than_a_page_is_high : MAX_FILE_BYTES ≤ MAX_HEIGHT
a_file_is_shorter_than_a_page_is_high = omega arith
