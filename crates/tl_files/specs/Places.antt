-- When two names are those of one file: by where each file is.
use Rattle.std.specs.Prelude.{◌≡◌, Option, IsSomeAnd, string_bytes}
use Rattle.tl_files.specs.declared.places.Place.{Place}

-- both have one device and number, and in that folder one name, if they are still to be made
abbrev pub IsSamePlace : Place → Place → Type 0
IsSamePlace one other = (one.device ≡ other.device) × (one.number ≡ other.number)
    × (string_bytes one.name ≡ string_bytes other.name)

-- both are known, and they are the same
abbrev pub AreShared : Option Place → Option Place → Type 0
AreShared one other = IsSomeAnd one (λ first. IsSomeAnd other (λ second. IsSamePlace first second))
