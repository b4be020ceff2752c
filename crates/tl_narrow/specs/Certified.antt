-- The certificate of sections: it claims what the last of them does, the height found and, where it is less, the lower
-- bound.
use Rattle.std.specs.Prelude.{ℕ, ◌==◌, if◌then◌else◌, List, [], Option, Some, None}
use Rattle.std.specs.List.{last_or}
use Rattle.tl_base.specs.declared.style.Style.{Style}
use Rattle.tl_cert.specs.declared.certificate.Certificate.{Certificate}
use Rattle.tl_cert.specs.declared.certificate.Claim.{Claim}
use Rattle.tl_cert.specs.declared.certificate.Claim.TheVariants.{Lowest, Bounded}
use Rattle.tl_cert.specs.declared.section.Section.{Section}

-- what a section of the document's own table claims
abbrev pub section_claim : Section → Claim
section_claim section = if section.lower == section.height then Lowest section.height else Bounded section.height section.lower

-- what the last section claims, where there is one
abbrev pub claim_of_last : Option Section → Claim
claim_of_last None = Lowest 0
claim_of_last (Some section) = section_claim section

-- what is claimed by the last of the sections
abbrev pub claim_of : List Section → Claim
claim_of sections = claim_of_last (last_or None sections)

-- the certificate of sections, which claims what the last of them does
abbrev pub certificate_of : ℕ → Style → ℕ → List Section → Certificate
certificate_of page style budget sections =
    record { width = page; style = style; budget = budget; claim = claim_of sections; chains = []; sections = sections }
