-- When a section of a document is open, its lower bound below its height: then the budget was spent. The law is the contract
-- of a function of `open_laws`.
use Rattle.std.specs.Prelude.{◌≡◌, ℕ, ◌<◌, ◌≤◌, List, length, get_or, take}
use Rattle.std.specs.List.{Any}
use Rattle.tl_base.specs.declared.style.Style.{Style}
use Rattle.tl_cert.specs.declared.section.Section.{Section}
use Rattle.tl_table.specs.declared.cell.Table.{Table}
use Rattle.tl_form.specs.ClosedLaws.{IsWideDocument}
use Rattle.tl_form.specs.Expected.{Document}
use Rattle.tl_form.specs.Valid.{AreGoodBelow}

-- the section's search made all cuts of the budget
abbrev pub IsSpent : ℕ → Section → Type 0
IsSpent budget section = length section.trace ≡ budget

-- of good sections of which one is open some has made all cuts of the budget: the first that is open, since its nested
-- tables are known
abbrev pub OpenSpends : Type 0
OpenSpends = (table : Table) (style : Style) (page budget n : ℕ) (document : Document) (sections : List Section) →
    IsWideDocument table style page document → n ≤ length sections → AreGoodBelow document budget sections n →
    (i : ℕ) (d : Section) → i < n → (get_or sections i d).lower < (get_or sections i d).height →
    Any (IsSpent budget) (take n sections)
