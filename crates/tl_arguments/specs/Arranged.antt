-- In which order a command gets the arguments that a user writes: those that are no options, as names are spelled, and then
-- the options. `--progress`, which the program itself takes, is left out. A word is the bytes of an argument. The rules are
-- those of POSIX utilities (Utility Syntax Guidelines 9, 10, 13), but that options may stand anywhere before `--`.
use Rattle.std.specs.Prelude.{ℕ, ◌+◌, Bool, true, false, ◌||◌, nat_eq, nat_lt, List, [], ◌∷◌, ◌++◌, length, get_or, take}
use Rattle.std.specs.Prelude.{if◌then◌else◌, bytes_eq, codes}
use Rattle.tl_arguments.specs.declared.order.Side.{Side}
use Rattle.tl_arguments.specs.declared.order.Side.TheVariants.{Names, Options}
use Rattle.tl_arguments.specs.declared.order.TheConstants.{FEWEST_PLAIN}
use Rattle.tl_arguments.specs.declared.names.TheConstants.{PLACE_OF_INPUT}
use Rattle.tl_arguments.specs.declared.role.Role.{Role}
use Rattle.tl_arguments.specs.declared.role.Role.TheVariants.{Plain, Flag, Valued, Value, Progress, End, Name}

-- ---- what a word is for

-- the word begins as an option does
abbrev pub is_dashed : List ℕ → Bool
is_dashed word = bytes_eq (take 2 word) (codes "--")

-- the option has a value, which is the next word
abbrev pub takes_value : List ℕ → Bool
takes_value word =
    bytes_eq word (codes "--style") || bytes_eq word (codes "--break") || bytes_eq word (codes "--budget")
    || bytes_eq word (codes "--solver") || bytes_eq word (codes "--workers") || bytes_eq word (codes "--least")
    || bytes_eq word (codes "--align")

-- what a word is for where options may stand
abbrev pub own_role : List ℕ → Role
own_role word =
    if bytes_eq word (codes "--") then End
    else if bytes_eq word (codes "--progress") then Progress
    else if takes_value word then Valued
    else if is_dashed word then Flag
    else Plain

-- what a word is for, by what the word before it is for
abbrev pub role_after : Role → List ℕ → Role
role_after Valued word = Value
role_after End word = Name
role_after Name word = Name
role_after Plain word = own_role word
role_after Flag word = own_role word
role_after Value word = own_role word
role_after Progress word = own_role word

-- ---- the two sides

-- it is an option of a command, or the value of one
abbrev pub is_option : Role → Bool
is_option Flag = true
is_option Valued = true
is_option Value = true
is_option Plain = false
is_option Progress = false
is_option End = false
is_option Name = false

-- it is a command, a number or the name of a file: not one of those, nor `--progress`, nor the `--` that ends options
abbrev pub is_name : Role → Bool
is_name Plain = true
is_name Name = true
is_name Flag = false
is_name Valued = false
is_name Value = false
is_name Progress = false
is_name End = false

-- a word for this is of that side
abbrev pub is_of : Side → Role → Bool
is_of Names role = is_name role
is_of Options role = is_option role

-- the words of a side, in their order, after a word that is for `before`
abbrev pub side_words : Side → Role → List (List ℕ) → List (List ℕ)
side_words side before [] = []
side_words side before (word ∷ words) =
    if is_of side (role_after before word) then word ∷ side_words side (role_after before word) words
    else side_words side (role_after before word) words

-- ---- how names are spelled

-- What `-` is, in this place among the words that are no options: IN is read, and so is the certificate of `check`; all
-- others are written.
abbrev pub stream_for : List ℕ → ℕ → List ℕ
stream_for command place =
    if nat_eq place PLACE_OF_INPUT || bytes_eq command (codes "check") then codes "/dev/stdin" else codes "/dev/stdout"

-- the word of a place as the command gets it: a name that begins as an option does is told from one by `./`
abbrev pub named : List ℕ → ℕ → List ℕ → List ℕ
named command place word =
    if nat_lt place PLACE_OF_INPUT then word
    else if bytes_eq word (codes "-") then stream_for command place
    else if is_dashed word then codes "./" ++ word
    else word

-- words from a place on
abbrev pub named_from : List ℕ → ℕ → List (List ℕ) → List (List ℕ)
named_from command place [] = []
named_from command place (word ∷ words) = named command place word ∷ named_from command (place + 1) words

-- all words that are no options: the first is the command
abbrev pub all_named : List (List ℕ) → List (List ℕ)
all_named words = named_from (get_or words 0 []) 0 words

-- ---- the order

-- Names, and then options. With too few names the options come first, where no command takes them: so none is a name.
abbrev pub ordered : List (List ℕ) → List (List ℕ) → List (List ℕ)
ordered names options = if nat_lt (length names) FEWEST_PLAIN then options ++ names else names ++ options

-- what the command gets for the words that the user writes
abbrev pub arranged : List (List ℕ) → List (List ℕ)
arranged words = ordered (all_named (side_words Names Plain words)) (side_words Options Plain words)
