-- What was loaded of a file, as what the file holds.
use Rattle.std.proofs.Common.{◌≡◌, ℕ, ◌+◌, ◌≤◌, List, length, take, Option, Some, None, refl}
use Rattle.std.specs.Prelude.{IfSome, option_map}
use Rattle.std.proofs.lemmas.List.{take_all}
use Rattle.tl_base.specs.Desk.{Files, IsReadFrom}
use Rattle.tl_program.specs.Change.{Holds}

-- the content of which the bytes are the first, or all
pub content_of : (most : ℕ) (files : Option Files) (name bytes : List ℕ) → length bytes ≤ most + 1 →
    IfSome files (λ held. IsReadFrom held name most bytes) → (content : List ℕ) × Holds files name content
    × (take (most + 1) content ≡ bytes)
content_of most None name bytes short read = (bytes, tt, take_all (most + 1) bytes short)
content_of most (Some held) name bytes short read = found (held name) read where
  found : (there : Option (List ℕ)) → option_map (take (most + 1)) there ≡ Some bytes →
      (content : List ℕ) × (there ≡ Some content) × (take (most + 1) content ≡ bytes)
  found None is = absurd cc
  found (Some content) is = (content, refl, cc)
