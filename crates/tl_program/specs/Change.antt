-- The outside before and after a run: files, what was printed, and the counts of faults. A desk that shows nothing leaves
-- these parts open.
use Rattle.std.specs.Prelude.{◌≡◌, ℕ, List, [], ◌∷◌, ◌++◌, Option, Some, IfSome}
use Rattle.tl_base.specs.declared.desk.Desk.{Ghosts}
use Rattle.tl_program.specs.declared.output.File.{File}
use Rattle.tl_base.specs.Desk.{Files, stored, StoresPrefix, Rose}

-- the outside before and after, with the counts of faults
pub record Change : Type 0 where
  pub files : Option Files
  pub files_after : Option Files
  pub said : Option (List ℕ)
  pub said_after : Option (List ℕ)
  pub load_faults : ℕ
  pub load_faults_after : ℕ
  pub write_faults : ℕ
  pub write_faults_after : ℕ

-- the change from one desk to another, as far as desks of their kind show it
abbrev pub between : {Desk : Type 0} → Ghosts Desk → Desk → Desk → Change
between shown old new = record {
  files = shown.files old;
  files_after = shown.files new;
  said = shown.said old;
  said_after = shown.said new;
  load_faults = shown.load_faults old;
  load_faults_after = shown.load_faults new;
  write_faults = shown.write_faults old;
  write_faults_after = shown.write_faults new;
}

-- the file of this name holds these bytes, where the desk shows its files
abbrev pub Holds : Option Files → List ℕ → List ℕ → Type 0
Holds files name bytes = IfSome files (λ held. held name ≡ Some bytes)

-- bytes that are stored under a name
pub record Stored : Type 0 where
  pub name : List ℕ
  pub bytes : List ℕ

-- a file that is to be stored, as what is stored
abbrev pub as_stored : File → Stored
as_stored file = record { name = file.name.now; bytes = file.bytes.now }

-- the files once all of these are stored, one after the other
abbrev pub with_all : Option Files → List Stored → Option Files
with_all files [] = files
with_all files (one ∷ more) = with_all (stored files one.name one.bytes) more

-- the first of these are stored, and no more
pub record StoresSome (files files_after : Option Files) (all : List Stored) : Type 0 where
  pub done : List Stored
  pub rest : List Stored
  pub split : all ≡ done ++ rest
  pub stand : files_after ≡ with_all files done

-- the first of these are stored, and the file of the next is as before or holds a prefix of its bytes
pub record FailsToStore (files files_after : Option Files) (all : List Stored) : Type 0 where
  pub done : List Stored
  pub next : Stored
  pub rest : List Stored
  pub split : all ≡ done ++ next ∷ rest
  pub stand : StoresPrefix (with_all files done) files_after next.name next.bytes

-- no call on the desk failed
pub record DoesNotFail (change : Change) : Type 0 where
  pub load : Rose change.load_faults change.load_faults_after → ⊥
  pub write : Rose change.write_faults change.write_faults_after → ⊥
