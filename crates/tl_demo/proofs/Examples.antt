-- The table of 0, as far as it was drawn by hand.
--
--   |aaaaa        |aaaaaaaa|aaa aaa       |..
use Rattle.std.proofs.Common.{◌≡◌, ℕ, zero, suc, List, [], ◌∷◌, take, codes, refl}
use Rattle.tl_demo.specs.Demo.{next_state, drawn_number, cells_from, rows_from, demo_rows, demo_text_of}

-- the states of so many draws
abbrev states : ℕ → ℕ → List ℕ
states zero state = []
states (suc count) state = next_state state ∷ states count (next_state state)

ten_states : states 10 0 ≡
    12345 ∷ 1406932606 ∷ 654583775 ∷ 1449466924 ∷ 229283573 ∷ 1109335178 ∷ 1051550459 ∷ 1293799192 ∷ 794471793
    ∷ 551188310 ∷ []
unfolding next_state
ten_states = refl

three_cells : take 3 (cells_from 6 0).value ≡
    record { colspan = 2; words = 5 ∷ [] } ∷ record { colspan = 1; words = 8 ∷ [] } ∷ record {
      colspan = 2;
      words =
          3 ∷ 3 ∷ [];
    } ∷ []
unfolding next_state drawn_number cells_from
three_cells = refl

beginning : take 63 (demo_text_of 0) ≡ codes "<table><tr><td colspan=2>aaaaa<td>aaaaaaaa<td colspan=2>aaa aaa"
unfolding next_state drawn_number cells_from rows_from demo_rows demo_text_of
beginning = refl
