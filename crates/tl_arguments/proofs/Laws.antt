-- What the order of arguments keeps: the options with values are those of the commands, no option is taken for a name, and
-- `--progress` changes nothing that a command gets.
use Rattle.std.proofs.Common.{◌≡◌, ℕ, true, List, [], ◌∷◌, ◌++◌, length, ap, refl, ◌∙◌}
use Rattle.std.specs.Prelude.{if◌then◌else◌, codes}
use Rattle.std.proofs.lemmas.Bool.{or_left, or_right}
use Rattle.tl_command.specs.declared.options.Choice.{Choice}
use Rattle.tl_command.specs.declared.options.Choice.TheVariants as choices
use Rattle.tl_command.specs.Options.{name_of, values_of}
use Rattle.tl_arguments.specs.declared.order.Side.{Side}
use Rattle.tl_arguments.specs.declared.order.Side.TheVariants.{Names, Options}
use Rattle.tl_arguments.specs.declared.role.Role.{Role}
use Rattle.tl_arguments.specs.declared.role.Role.TheVariants.{Plain, Valued, End, Name}
use Rattle.tl_arguments.specs.Arranged.{takes_value, own_role, role_after, is_option, is_of, side_words, ordered, all_named}
use Rattle.tl_arguments.specs.Arranged.{arranged}
use Rattle.tl_arguments.specs.Progress.{is_progress, has_progress, asks_for_progress}

-- each option of a command is read as one, with as many words as it is spelled by
pub same_options : (choice : Choice) →
    (is_option (own_role (name_of choice)) ≡ true)
    × (length (values_of choice) ≡ (if takes_value (name_of choice) then 1 else 0))
same_options choices.Csv = (refl, refl)
same_options choice = (refl, refl)

-- what the last of the words is for, after one that is for `before`
abbrev pub role_at : Role → List (List ℕ) → Role
role_at before [] = before
role_at before (word ∷ words) = role_at (role_after before word) words

-- options may stand after the words: `--progress` is read as that there
abbrev pub may_follow : Role → List (List ℕ) → Type 0
may_follow before words = is_progress (role_after (role_at before words) (codes "--progress")) ≡ true

-- it is of neither side, and a word after it is for what it would be for without it
left_out_here : (side : Side) (before : Role) (later : List (List ℕ)) → may_follow before [] →
    side_words side before (codes "--progress" ∷ later) ≡ side_words side before later
left_out_here side Valued later may = absurd cc
left_out_here side End later may = absurd cc
left_out_here side Name later may = absurd cc
left_out_here Names before [] may = refl
left_out_here Names before (word ∷ later) may = refl
left_out_here Options before [] may = refl
left_out_here Options before (word ∷ later) may = refl

-- the same after some words
left_out : (side : Side) (before : Role) (earlier later : List (List ℕ)) → may_follow before earlier →
    side_words side before (earlier ++ codes "--progress" ∷ later) ≡ side_words side before (earlier ++ later)
left_out side before [] later may = left_out_here side before later may
left_out side before (word ∷ earlier) later may =
    ap (λ words. if is_of side (role_after before word) then word ∷ words else words)
    (left_out side (role_after before word) earlier later may)

-- it is found there
found : (before : Role) (earlier later : List (List ℕ)) → may_follow before earlier →
    has_progress before (earlier ++ codes "--progress" ∷ later) ≡ true
found before [] later may = or_left (is_progress (role_after before (codes "--progress")))
    (has_progress (role_after before (codes "--progress")) later) may
found before (word ∷ earlier) later may = or_right (is_progress (role_after before word))
    (has_progress (role_after before word) (earlier ++ codes "--progress" ∷ later))
    (found (role_after before word) earlier later may)

-- Where options may stand, `--progress` asks for progress, and the command gets what it gets without it.
pub progress_asks_alone : (earlier later : List (List ℕ)) → may_follow Plain earlier →
    (asks_for_progress (earlier ++ codes "--progress" ∷ later) ≡ true)
    × (arranged (earlier ++ codes "--progress" ∷ later) ≡ arranged (earlier ++ later))
progress_asks_alone earlier later may = (
  found Plain earlier later may,
  ap (λ names. ordered (all_named names) (side_words Options Plain (earlier ++ codes "--progress" ∷ later)))
      (left_out Names Plain earlier later may)
      ∙ ap (ordered (all_named (side_words Names Plain (earlier ++ later)))) (left_out Options Plain earlier later may),
)
