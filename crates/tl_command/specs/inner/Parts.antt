-- No public clause cites this file: it says where the parts of the arguments stand.
use Rattle.std.specs.Prelude.{◌≡◌, ℕ, ◌<◌, List, [], ◌∷◌, ◌++◌, length, drop, decimal}
use Rattle.std.specs.List.{All}
use Rattle.tl_command.specs.declared.command.Command.{Command}
use Rattle.tl_command.specs.Ask.{IsDashed, IsNoOption}
use Rattle.tl_command.specs.Command.{word_of_command, IsNumberOf, IsCountOf, fewest_names, most_names}

-- there is no argument, or the first begins as an option does
abbrev pub IsDashedAtFirst : List (List ℕ) → Type 0
IsDashedAtFirst [] = Unit {0}
IsDashedAtFirst (word ∷ words) = IsDashed word

-- the arguments begin with this command and this number, and these come after them
pub record BeginsWithCommand (words : List (List ℕ)) (command : Command) (number : ℕ) (more : List (List ℕ)) : Type 0 where
  pub spelled : words ≡ word_of_command command ∷ decimal number ∷ more
  pub in_range : IsNumberOf command number

-- the arguments begin with names, as many as there are before one that begins as an option does and as the command takes
pub record IsSplit (command : Command) (more names after : List (List ℕ)) : Type 0 where
  pub spelled : more ≡ names ++ after
  pub counted : IsCountOf command (length names)
  pub plain : All IsNoOption (drop (fewest_names command) names)
  pub dashed : length names < most_names command → IsDashedAtFirst after
