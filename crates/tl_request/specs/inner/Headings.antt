-- How the line of a request is taken apart: for the functions of this crate alone.
use Rattle.std.specs.Prelude.{◌≡◌, ◌≢◌, ℕ, ◌<◌, ◌^◌, false, List, [], ◌++◌, Option, None, Some, length, map, string_bytes}
use Rattle.std.specs.List.{All}
use Rattle.std.specs.Str.{IsUtf8}
use Rattle.tl_command.specs.declared.command.Command.TheVariants.{Demo}
use Rattle.tl_command.specs.Ask.{Asked, IsAsk}
use Rattle.tl_request.specs.declared.heading.Heading.{Heading}
use Rattle.tl_request.specs.Requests.{IsHeading, command_line, count_of_names, is_check, sizes_for, words_in}

-- the words of a line end with the numbers of bytes of its files, and begin with these
pub record IsSplit (all words : List (List ℕ)) (file text : ℕ) : Type 0 where
  pub spelled : all ≡ words ++ sizes_for (is_check all) file text
  pub file_small : file < 2 ^ 32
  pub text_small : text < 2 ^ 32
  pub alone : is_check all ≡ false → text ≡ 0

-- the line stands for this command line, with so many names, of files with so many bytes
pub record IsSplitAs (line : List ℕ) (command : List (List ℕ)) (names file text : ℕ) : Type 0 where
  pub utf8 : All IsUtf8 (words_in line)
  pub words : List (List ℕ)
  pub split : IsSplit (words_in line) words file text
  pub so : command ≡ command_line words
  pub named : names ≡ count_of_names words

-- it stands for none
abbrev pub IsNotSplit : List ℕ → Type 0
IsNotSplit line = All IsUtf8 (words_in line) → (words : List (List ℕ)) (file text : ℕ) → IsSplit (words_in line) words file text → ⊥

-- a command line asks for something that is done with a file, by so many names
abbrev pub ReadsFile : List (List ℕ) → ℕ → Type 0
ReadsFile command names = (asked : Asked) × IsAsk command asked × (asked.command ≢ Demo) × (length asked.names ≡ names)

-- the line asks for something: its command line does, of files with so many bytes
abbrev pub IsHeadingOf : List ℕ → Heading → Type 0
IsHeadingOf line heading = IsSplitAs line (map string_bytes heading.words.items) heading.names heading.file heading.text
    × ReadsFile (map string_bytes heading.words.items) heading.names

-- it asks for nothing, of files of whatever sizes
abbrev pub AsksNothing : List ℕ → Type 0
AsksNothing line = (asked : Asked) (file text : ℕ) → IsHeading line asked file text → ⊥

-- the words of what is left of a line, or none where nothing is
abbrev pub words_left : Option (List ℕ) → List (List ℕ)
words_left None = []
words_left (Some bytes) = words_in bytes
