-- What the outside holds, as far as a desk tells it: files by name, and the bytes printed on standard output; and the
-- counts of faults, by which every fault returned is tied to one that was met.
use Rattle.std.specs.Prelude.{◌≡◌, ◌⊎◌, ◌<◌, ◌+◌, ◌-◌, ◌^◌, ℕ, List, ◌++◌, take, min, Option, Some, option_map, bytes_eq}
use Rattle.std.specs.Map.{update}

-- what each name's file holds: its bytes, or none where there is no such file
abbrev pub Files : Type 0
Files = List ℕ → Option (List ℕ)

-- the files once the file of this name holds these bytes, and each other file as before
abbrev pub put : List ℕ → List ℕ → Files → Files
put name bytes files = update bytes_eq files name (Some bytes)

-- the files once the file of this name holds these bytes, of a desk that may not tell its files
abbrev pub stored : Option Files → List ℕ → List ℕ → Option Files
stored files name bytes = option_map (put name bytes) files

-- the bytes printed once these follow, of a desk that may not tell them
abbrev pub longer : Option (List ℕ) → List ℕ → Option (List ℕ)
longer said bytes = option_map (λ before. before ++ bytes) said

-- the file is there, and the bytes are its first `most + 1`, or all where it has fewer
abbrev pub IsReadFrom : Files → List ℕ → ℕ → List ℕ → Type 0
IsReadFrom files name most bytes = option_map (take (most + 1)) (files name) ≡ Some bytes

-- the file of this name was left as it was, or holds the first so many of the bytes; each other file is as before
abbrev pub StoresPrefix : Option Files → Option Files → List ℕ → List ℕ → Type 0
StoresPrefix old new name bytes = (new ≡ old) ⊎ (count : ℕ) × (new ≡ stored old name (take count bytes))

-- the first so many of the bytes were printed
abbrev pub SaysPrefix : Option (List ℕ) → Option (List ℕ) → List ℕ → Type 0
SaysPrefix old new bytes = (count : ℕ) × (new ≡ longer old (take count bytes))

-- a count of faults rose, or stands at its last value
abbrev pub Rose : ℕ → ℕ → Type 0
Rose old new = new < 2 ^ 64 - 1 → old < new

-- a count of faults after one more fault: the next number, or the last one where that is reached
abbrev pub next_up_to : ℕ → ℕ → ℕ
next_up_to last n = min (n + 1) last
