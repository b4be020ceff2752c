-- No public clause cites this file. Where log lines that end by `area` may stand, and where one has to.
use Rattle.std.specs.Prelude.{◌≡◌, ℕ, zero, suc, Bool, true, false}
use Rattle.tl_cert.specs.declared.areas.Areas.{Areas}
use Rattle.tl_cert.specs.declared.areas.Areas.TheVariants.{Never, Free, Owed}

-- what is asked of a part that others follow: what is owed may come with them
abbrev pub before_others : Areas → Areas
before_others Never = Never
before_others Free = Free
before_others Owed = Free

-- what is asked of what follows a part with a line that ends by `area`, or without one
abbrev pub after : Areas → Bool → Areas
after Never has_area = Never
after Free has_area = Free
after Owed true = Free
after Owed false = Owed

-- what is asked of a part that so many others may follow
abbrev pub for_part : ℕ → Areas → Areas
for_part zero areas = areas
for_part (suc others) areas = before_others areas

-- a line that ends by `area` stands there, or does not, as it is asked
abbrev pub Suits : Areas → Bool → Type 0
Suits Never has_area = has_area ≡ false
Suits Free has_area = Unit {0}
Suits Owed has_area = has_area ≡ true
