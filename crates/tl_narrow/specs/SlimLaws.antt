-- What a search for the narrowest page proves of it. Each law is the contract of a function of `slim_laws`.
use Rattle.std.specs.Prelude.{◌≡◌, ◌≢◌, ℕ, ◌≤◌, None}
use Rattle.tl_base.specs.declared.style.Style.{Style}
use Rattle.tl_table.specs.declared.cell.Table.{Table}
use Rattle.tl_table.specs.Sound.{IsSound}
use Rattle.tl_form.specs.Problems.{IsCountAll}
use Rattle.tl_narrow.specs.declared.slim.Slim.{Slim}
use Rattle.tl_narrow.specs.Slimmest.{IsSlimmestWidth}
use Rattle.tl_narrow.specs.Slims.{IsSlim}

-- where `width` is `least` it is the narrowest page
abbrev pub MetIsSlimmest : Type 0
MetIsSlimmest = (table : Table) (style : Style) (height most budget : ℕ)
    (slim : Slim) → IsSound table → IsSlim table style height most budget slim →
    slim.width ≡ slim.least → IsSlimmestWidth table style height most slim.width

-- the narrowest page has at least `least` columns; so there is none where `least` is above `most`
abbrev pub SlimmestIsNoLess : Type 0
SlimmestIsNoLess = (table : Table) (style : Style) (height most budget : ℕ)
    (slim : Slim) → IsSound table → IsSlim table style height most budget slim →
    (width : ℕ) → IsSlimmestWidth table style height most width → slim.least ≤ width

-- where `width` is not 0 there is a narrowest page, and it has at most so many columns
abbrev pub KeptHasSlimmest : Type 0
KeptHasSlimmest = (table : Table) (style : Style) (height most budget : ℕ)
    (slim : Slim) → IsSound table → IsSlim table style height most budget slim →
    slim.width ≢ 0 → (width : ℕ) × IsSlimmestWidth table style height most width × (width ≤ slim.width)

-- a budget of at least the greatest count on the widest page is enough
abbrev pub EnoughIsNotSpent : Type 0
EnoughIsNotSpent = (table : Table) (style : Style) (height most budget count : ℕ)
    (slim : Slim) → IsSlim table style height most budget slim →
    IsCountAll table style most count → count ≤ budget → slim.spent ≡ None
