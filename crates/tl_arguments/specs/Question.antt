-- What is asked of the program itself, by the first word.
use Rattle.std.specs.Prelude.{ℕ, ◌||◌, List, [], ◌∷◌, Option, Some, None, if◌then◌else◌, bytes_eq, codes}
use Rattle.tl_arguments.specs.declared.question.Question.{Question}
use Rattle.tl_arguments.specs.declared.question.Question.TheVariants.{Help, Version}

-- the question that a word is
abbrev pub question_of : List ℕ → Option Question
question_of word =
    if bytes_eq word (codes "-h") || bytes_eq word (codes "--help") then Some Help
    else if bytes_eq word (codes "--version") then Some Version
    else None

-- the question that a command line is
abbrev pub asked : List (List ℕ) → Option Question
asked [] = None
asked (word ∷ words) = question_of word
