-- Which command lines ask for progress: those with `--progress` where options may stand. As the value of an option, or after
-- `--`, it is a word as any other.
use Rattle.std.specs.Prelude.{ℕ, Bool, true, false, ◌||◌, List, [], ◌∷◌}
use Rattle.tl_arguments.specs.declared.role.Role.{Role}
use Rattle.tl_arguments.specs.declared.role.Role.TheVariants.{Plain, Flag, Valued, Value, Progress, End, Name}
use Rattle.tl_arguments.specs.Arranged.{role_after}

-- it is `--progress`
abbrev pub is_progress : Role → Bool
is_progress Progress = true
is_progress Plain = false
is_progress Flag = false
is_progress Valued = false
is_progress Value = false
is_progress End = false
is_progress Name = false

-- one of the words is, after a word that is for `before`
abbrev pub has_progress : Role → List (List ℕ) → Bool
has_progress before [] = false
has_progress before (word ∷ words) = is_progress (role_after before word) || has_progress (role_after before word) words

-- one of all words that the user writes is
abbrev pub asks_for_progress : List (List ℕ) → Bool
asks_for_progress words = has_progress Plain words
