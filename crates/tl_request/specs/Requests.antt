-- Requests. One is a line of words, with a space between each two, a line feed, and then the bytes of its files. The words are
-- those of a command without names, and at their end the number of bytes of each file:
--
--     lay 72 --style frame 1234           and then the 1,234 bytes of a file
--     check 72 --style frame 1234 567     and then those of a file, and the 567 bytes of a certificate
--
-- `--cert` among the options stands for the name of a certificate, as no name does: so certificates are sent with the page.
use Rattle.std.specs.Prelude.{◌≡◌, ◌≢◌, ℕ, ◌<◌, ◌^◌, Bool, true, false, not, List, [], ◌∷◌, ◌++◌, length, get_or, ◌==◌, bytes_eq, codes, drop}
use Rattle.std.specs.Prelude.{decimal, filter, if◌then◌else◌}
use Rattle.std.specs.List.{All, list_any, slice_split}
use Rattle.std.specs.Str.{IsUtf8}
use Rattle.tl_command.specs.declared.command.Command.TheVariants.{Demo}
use Rattle.tl_command.specs.Ask.{Asked, IsAsk}
use Rattle.tl_exchange.specs.Taking.{BeginsWith}

-- what is asked for, of a file with these bytes; `text` is the certificate that a check judges, and empty for all others
pub record Request : Type 0 where
  pub asked : Asked
  pub file : List ℕ
  pub text : List ℕ

-- ---- its line

-- the words of a line
abbrev pub words_in : List ℕ → List (List ℕ)
words_in line = slice_split (λ byte. byte == 32) line

-- the word asks for certificates
abbrev pub is_cert : List ℕ → Bool
is_cert word = bytes_eq word (codes "--cert")

-- names in the places of those that a request does not have: of its file, of the page, and of the certificate, if it is wanted
abbrev pub names_for : List (List ℕ) → List (List ℕ)
names_for options = codes "in" ∷ codes "page" ∷ (if list_any is_cert options then codes "cert" ∷ [] else [])

-- how many there are, of the words of a request
abbrev pub count_of_names : List (List ℕ) → ℕ
count_of_names words = length (names_for (drop 2 words))

-- the command line that the words of a request stand for
abbrev pub command_line : List (List ℕ) → List (List ℕ)
command_line [] = []
command_line (command ∷ []) = command ∷ []
command_line (command ∷ number ∷ options) =
    command ∷ number ∷ (names_for options ++ filter (λ word. not (is_cert word)) options)

-- the first word is that of a check, which has two files
abbrev pub is_check : List (List ℕ) → Bool
is_check words = bytes_eq (get_or words 0 []) (codes "check")

-- the words at the end of the line: how many bytes each file has
abbrev pub sizes_for : Bool → ℕ → ℕ → List (List ℕ)
sizes_for true file text = decimal file ∷ decimal text ∷ []
sizes_for false file text = decimal file ∷ []

-- The line asks for this, of files with so many bytes. A demonstration has none; and no word of the line is a name, so that there
-- are no names but those in the places of others
pub record IsHeading (line : List ℕ) (asked : Asked) (file text : ℕ) : Type 0 where
  pub utf8 : All IsUtf8 (words_in line)
  pub words : List (List ℕ)
  pub spelled : words_in line ≡ words ++ sizes_for (is_check (words_in line)) file text
  pub asks : IsAsk (command_line words) asked
  pub reads : asked.command ≢ Demo
  pub unnamed : length asked.names ≡ count_of_names words
  pub file_small : file < 2 ^ 32
  pub text_small : text < 2 ^ 32
  pub alone : is_check (words_in line) ≡ false → text ≡ 0

-- ---- what comes

-- the bytes that come begin with the request, and this is what comes after it
pub record IsNext (came : List ℕ) (request : Request) (rest : List ℕ) : Type 0 where
  pub line : List ℕ
  pub begins : BeginsWith line came (request.file ++ (request.text ++ rest))
  pub heading : IsHeading line request.asked (length request.file) (length request.text)

-- there are some, and they begin with no request
pub record HasNoRequest (came : List ℕ) : Type 0 where
  pub some : came ≢ []
  pub none : (request : Request) (rest : List ℕ) → IsNext came request rest → ⊥

-- they are these requests, one after the other, and what comes after them
abbrev pub AreRequests : List ℕ → List Request → List ℕ → Type 0
AreRequests came [] rest = came ≡ rest
AreRequests came (request ∷ requests) rest = (more : List ℕ) × IsNext came request more × AreRequests more requests rest
