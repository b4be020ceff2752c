-- The options of a command: `--style plain|compact|rule|apart|frame|grid|box`, `--break words|any|fit|N`, `--budget N`,
-- `--solver plain|best|learn|rounds`, `--workers K`, `--csv`, `--head`, `--least LIST`, `--align LIST|auto|cells`, `--trim`
-- and `--html`, in any order, each at most once, its value as the next argument.
use Rattle.std.specs.Prelude.{◌≡◌, ◌≢◌, ◌↔◌, ℕ, ◌≤◌, Bool, true, false, List, [], ◌∷◌, ◌++◌, length, drop, Some, IsTrue, Contains}
use Rattle.std.specs.Prelude.{codes, decimal}
use Rattle.std.specs.List.{All, AllPairs, flat_map}
use Rattle.tl_base.specs.declared.limits.TheConstants.{MAX_BUDGET, MAX_COLUMNS, MAX_PAGE_WIDTH}
use Rattle.tl_base.specs.Style.{style_word}
use Rattle.tl_command.specs.declared.command.Command.{Command}
use Rattle.tl_command.specs.declared.options.BreakRule.{BreakRule}
use Rattle.tl_command.specs.declared.options.BreakRule.TheVariants as rules
use Rattle.tl_command.specs.declared.options.Choice.{Choice}
use Rattle.tl_command.specs.declared.options.Choice.TheVariants as choices
use Rattle.tl_command.specs.declared.options.Options.{Options}
use Rattle.tl_base.specs.declared.search.Search.{Search}
use Rattle.tl_base.specs.declared.search.Search.TheVariants as searches
use Rattle.tl_command.specs.declared.options.TheConstants.{MAX_WORKERS}
use Rattle.tl_sides.specs.declared.align.Align.{Align}
use Rattle.tl_sides.specs.declared.align.Align.TheVariants as aligns
use Rattle.tl_sides.specs.declared.side.Side.{Side}
use Rattle.tl_sides.specs.declared.side.Side.TheVariants as sides
use Rattle.tl_command.specs.Command.{takes}

-- ---- how an option is spelled

-- how it is spelled which words may break: none, each, as few as can be, or those that are wider than so many columns
abbrev pub break_word : BreakRule → List ℕ
break_word rules.Words = codes "words"
break_word rules.Any = codes "any"
break_word (rules.Wider most) = decimal most
break_word rules.Fit = codes "fit"
break_word (rules.Fitted most) = []

-- how a search is spelled
abbrev pub search_word : Search → List ℕ
search_word searches.Plain = codes "plain"
search_word searches.Best = codes "best"
search_word searches.Learn = codes "learn"
search_word searches.Rounds = codes "rounds"

-- numbers with a comma before each
abbrev pub comma_numbers : List ℕ → List ℕ
comma_numbers numbers = flat_map (λ number. codes "," ++ decimal number) numbers

-- how a list of numbers is spelled: with a comma between each two
abbrev pub list_word : List ℕ → List ℕ
list_word numbers = drop 1 (comma_numbers numbers)

-- the letter of a side
abbrev pub side_letter : Side → ℕ
side_letter sides.Left = 0x6C
side_letter sides.Right = 0x72
side_letter sides.Center = 0x63

-- the letters of sides with a comma before each
abbrev pub comma_letters : List Side → List ℕ
comma_letters list = flat_map (λ side. 0x2C ∷ side_letter side ∷ []) list

-- how it is spelled where lines stand: by the letters of the columns, with a comma between each two, by what stands in the
-- columns, or by what the cells ask for besides
abbrev pub align_word : Align → List ℕ
align_word (aligns.Columns list) = drop 1 (comma_letters list)
align_word aligns.Auto = codes "auto"
align_word aligns.Cells = codes "cells"

-- the argument that names an option
abbrev pub name_of : Choice → List ℕ
name_of (choices.Style style) = codes "--style"
name_of (choices.Breaking rule) = codes "--break"
name_of (choices.Budget budget) = codes "--budget"
name_of (choices.Search search) = codes "--solver"
name_of (choices.Workers workers) = codes "--workers"
name_of choices.Csv = codes "--csv"
name_of choices.Head = codes "--head"
name_of (choices.Least floors) = codes "--least"
name_of (choices.Align align) = codes "--align"
name_of choices.Trim = codes "--trim"
name_of choices.Html = codes "--html"

-- the argument of its value, where it has one
abbrev pub values_of : Choice → List (List ℕ)
values_of (choices.Style style) = style_word style ∷ []
values_of (choices.Breaking rule) = break_word rule ∷ []
values_of (choices.Budget budget) = decimal budget ∷ []
values_of (choices.Search search) = search_word search ∷ []
values_of (choices.Workers workers) = decimal workers ∷ []
values_of choices.Csv = []
values_of choices.Head = []
values_of (choices.Least floors) = list_word floors ∷ []
values_of (choices.Align align) = align_word align ∷ []
values_of choices.Trim = []
values_of choices.Html = []

-- the arguments that spell an option
abbrev pub option_words : Choice → List (List ℕ)
option_words choice = name_of choice ∷ values_of choice

-- ---- which options there are

-- words may be wider than a number of columns that a page may have; what is found for a file is not given
abbrev pub IsBreakRule : BreakRule → Type 0
IsBreakRule rules.Words = Unit {0}
IsBreakRule rules.Any = Unit {0}
IsBreakRule (rules.Wider most) = most ≤ MAX_PAGE_WIDTH
IsBreakRule rules.Fit = Unit {0}
IsBreakRule (rules.Fitted most) = ⊥

-- the workers are as many as there may be
pub record AreWorkers (workers : ℕ) : Type 0 where
  pub some : 1 ≤ workers
  pub few : workers ≤ MAX_WORKERS

-- some least widths, for no more columns than a table may have, each of a page
pub record AreFloors (floors : List ℕ) : Type 0 where
  pub some : 1 ≤ length floors
  pub few : length floors ≤ MAX_COLUMNS
  pub narrow : All (λ floor. floor ≤ MAX_PAGE_WIDTH) floors

-- some sides, for no more columns than a table may have; or what stands in the columns and the cells decide
abbrev pub IsAlign : Align → Type 0
IsAlign (aligns.Columns list) = (1 ≤ length list) × (length list ≤ MAX_COLUMNS)
IsAlign aligns.Auto = Unit {0}
IsAlign aligns.Cells = Unit {0}

-- the value is within its limits
abbrev pub IsInRange : Choice → Type 0
IsInRange (choices.Style style) = Unit {0}
IsInRange (choices.Breaking rule) = IsBreakRule rule
IsInRange (choices.Budget budget) = budget ≤ MAX_BUDGET
IsInRange (choices.Search search) = Unit {0}
IsInRange (choices.Workers workers) = AreWorkers workers
IsInRange choices.Csv = Unit {0}
IsInRange choices.Head = Unit {0}
IsInRange (choices.Least floors) = AreFloors floors
IsInRange (choices.Align align) = IsAlign align
IsInRange choices.Trim = Unit {0}
IsInRange choices.Html = Unit {0}

-- the command takes the option, with this value
pub record IsOptionOf (command : Command) (choice : Choice) : Type 0 where
  pub taken : IsTrue (takes command choice)
  pub in_range : IsInRange choice

-- the options say this
abbrev pub IsGiven : Options → Choice → Type 0
IsGiven options (choices.Style style) = options.style ≡ Some style
IsGiven options (choices.Breaking rule) = options.breaking ≡ Some rule
IsGiven options (choices.Budget budget) = options.budget ≡ Some budget
IsGiven options (choices.Search search) = options.search ≡ Some search
IsGiven options (choices.Workers workers) = options.workers ≡ Some workers
IsGiven options choices.Csv = options.csv ≡ true
IsGiven options choices.Head = options.head ≡ true
IsGiven options (choices.Least floors) = options.least ≡ Some floors
IsGiven options (choices.Align align) = options.align ≡ Some align
IsGiven options choices.Trim = options.trim ≡ true
IsGiven options choices.Html = options.html ≡ true

-- ---- which are given together

-- which options speak of a CSV file
abbrev pub speaks_of_csv : Choice → Bool
speaks_of_csv (choices.Style style) = false
speaks_of_csv (choices.Breaking rule) = false
speaks_of_csv (choices.Budget budget) = false
speaks_of_csv (choices.Search search) = false
speaks_of_csv (choices.Workers workers) = false
speaks_of_csv choices.Csv = false
speaks_of_csv choices.Head = true
speaks_of_csv (choices.Least floors) = true
speaks_of_csv (choices.Align align) = false
speaks_of_csv choices.Trim = false
speaks_of_csv choices.Html = false

-- these are given with `--csv` alone
abbrev pub AreOfCsv : Options → Type 0
AreOfCsv options = (choice : Choice) → IsGiven options choice → IsTrue (speaks_of_csv choice) → IsGiven options choices.Csv

-- the arguments spell options of the command one after the other, no two of one name, and nothing else is given
pub record AreOptions (command : Command) (words : List (List ℕ)) (options : Options) : Type 0 where
  pub choices : List Choice
  pub spelled : words ≡ flat_map option_words choices
  pub of_command : All (IsOptionOf command) choices
  pub once : AllPairs (λ one other. name_of one ≢ name_of other) choices
  pub given : (choice : Choice) → IsGiven options choice ↔ Contains choices choice
  pub of_csv : AreOfCsv options
