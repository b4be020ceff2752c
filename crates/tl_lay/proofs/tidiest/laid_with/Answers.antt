-- The last section is taken from the end, and put back with other widths.
use Rattle.std.proofs.Common.{◌≡◌, ◌∙◌, ◌∷◌, [], ◌++◌, List, sym, ap}
use Rattle.tl_cert.specs.declared.certificate.Certificate.{Certificate}
use Rattle.tl_cert.specs.declared.section.Section.{Section}
use Rattle.tl_lay.specs.Tidied.{with_last}
use Rattle.tl_lay.proofs.LastWidths.{last_pushed}
use Rattle.tl_lay.proofs.tidiest.laid_with.Goals as goal

-- the certificate with these sections
abbrev with_sections : Certificate → List Section → Certificate
with_sections certificate sections = record {
  width = certificate.width;
  style = certificate.style;
  budget = certificate.budget;
  claim = certificate.claim;
  chains = certificate.chains;
  sections = sections;
}

pub returns : goal.returns
returns c =
    let last = c.in-Some.last in
    let all : c.pop.new.self.items ++ last ∷ [] ≡ c.args.certificate.sections =
    sym c.in-Some.ensures.items ∙ c.into_vec-sections.ensures ∙ c.replace.ensures.value in
    ap (with_sections c.args.certificate)
    (c.from_vec.ensures ∙ c.in_ok-push.ensures.items ∙ last_pushed c.pop.new.self.items last c.args.widths
    ∙ ap (λ (sections : List Section). with_last sections c.args.widths) all)
