-- What a valid certificate proves of its table. Each is the contract of a function of `valid_laws`.
use Rattle.std.specs.Prelude.{◌≡◌, ℕ, ◌<◌, ◌≤◌}
use Rattle.tl_base.specs.declared.style.Style.{Style}
use Rattle.tl_cert.specs.declared.certificate.Certificate.{Certificate}
use Rattle.tl_cert.specs.declared.certificate.Claim.{Claim}
use Rattle.tl_cert.specs.declared.certificate.Claim.TheVariants.{Lowest, Bounded, Narrow}
use Rattle.tl_table.specs.declared.cell.Table.{Table}
use Rattle.tl_table.specs.declared.layout.Layout.{Layout}
use Rattle.tl_table.specs.Layouts.{Fits}
use Rattle.tl_table.specs.Least.{IsLeastHeight}
use Rattle.tl_form.specs.Named.{IsNamed}
use Rattle.tl_form.specs.Failures.{Failure, Fails}
use Rattle.tl_table.specs.Same.{AreSame}
use Rattle.tl_table.specs.Sound.{IsSound}
use Rattle.tl_form.specs.Valid.{IsValid}

-- a layout that fits the page has this height, and none is below `lower`
pub record IsBetween (table : Table) (style : Style) (page height lower : ℕ) : Type 0 where
  pub attained : (layout : Layout) × Fits table style page height layout
  pub never_less : (other : ℕ) (layout : Layout) → Fits table style page other layout → lower ≤ other

-- the height that is claimed to be the lowest is the least
abbrev pub LowestIsLeast : Type 0
LowestIsLeast = (table : Table) (style : Style) (page budget : ℕ) (certificate : Certificate) (height : ℕ) →
    IsSound table → IsValid table style page budget certificate → certificate.claim ≡ Lowest height →
    IsLeastHeight table style page height

-- a layout has the height that is claimed, and none is below the bound, which is less
abbrev pub BoundedIsBetween : Type 0
BoundedIsBetween = (table : Table) (style : Style) (page budget : ℕ) (certificate : Certificate) (height lower : ℕ) →
    IsSound table → IsValid table style page budget certificate → certificate.claim ≡ Bounded height lower →
    (lower < height) × IsBetween table style page height lower

-- the page is narrower than the width that is claimed, and no page below that fits a layout
abbrev pub NarrowIsTooWide : Type 0
NarrowIsTooWide = (table : Table) (style : Style) (page budget : ℕ) (certificate : Certificate) (least : ℕ) →
    IsSound table → IsValid table style page budget certificate → certificate.claim ≡ Narrow least →
    (page < least) × ((width height : ℕ) (layout : Layout) → Fits table style width height layout → least ≤ width)

-- a certificate is refused for one reason at most
abbrev pub RefusedForOneReason : Type 0
RefusedForOneReason = (table : Table) (style : Style) (page budget : ℕ) (certificate : Certificate) → IsSound table →
    (one other : Failure) → Fails table style page budget certificate one →
    Fails table style page budget certificate other → one ≡ other

-- a valid certificate is refused for none
abbrev pub ValidIsNotRefused : Type 0
ValidIsNotRefused = (table : Table) (style : Style) (page budget : ℕ) (certificate : Certificate) → IsSound table →
    IsValid table style page budget certificate → (fault : Failure) →
    Fails table style page budget certificate fault → ⊥

-- the height that a claim has
abbrev pub HasHeight : Claim → ℕ → Type 0
HasHeight (Lowest most) height = most ≡ height
HasHeight (Bounded most lower) height = most ≡ height
HasHeight (Narrow least) height = ⊥

-- the layout that a valid certificate names fits the page, with the height that is claimed
abbrev pub NamedLayoutFits : Type 0
NamedLayoutFits = (table : Table) (style : Style) (page budget : ℕ) (certificate : Certificate) (height : ℕ) (layout : Layout) →
    IsSound table → IsValid table style page budget certificate → HasHeight certificate.claim height →
    IsNamed table style certificate layout → Fits table style page height layout

-- a certificate that is valid for one is valid for the other
abbrev pub SameTablesShareCertificates : Type 0
SameTablesShareCertificates = (one other : Table) (style : Style) (page budget : ℕ) (certificate : Certificate) →
    AreSame one other → IsValid one style page budget certificate → IsValid other style page budget certificate
