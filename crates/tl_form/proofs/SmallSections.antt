-- The sections of a certificate that has a text: few, and with small numbers.
use Rattle.std.proofs.Common.{◌≡◌, ap, ℕ, zero, suc, ◌<◌, ◌≤◌, List, [], ◌∷◌, ◌++◌, length, get_or, codes, subst, arith}
use Rattle.std.specs.List.{flat_map}
use Rattle.std.proofs.lemmas.List.Elements.{All-from_recursion, All-get_or}
use Rattle.std.proofs.lemmas.List.Concat.{flat_map-cons}
use Rattle.tl_base.specs.declared.limits.TheConstants.{MAX_COLUMNS, MAX_PAGE_WIDTH, MAX_BUDGET}
use Rattle.tl_cert.specs.declared.certificate.Certificate.{Certificate}
use Rattle.tl_cert.specs.declared.certificate.Claim.{Claim}
use Rattle.tl_cert.specs.declared.certificate.Claim.TheVariants.{Lowest, Bounded, Narrow}
use Rattle.tl_cert.specs.declared.limits.TheConstants.{MAX_SECTIONS}
use Rattle.tl_cert.specs.declared.section.Section.{Section}
use Rattle.tl_cert.specs.Pieces.{AllWithin, field, word}
use Rattle.tl_cert.specs.Text.{IsWritable, IsSectionShaped, HasProof, space, line_feed, spaced, cut_pieces, line_pieces}
use Rattle.tl_cert.specs.Text.{section_pieces, section_head}
use Rattle.tl_cert.specs.Text.{chain_pieces, claim_pieces, version_word, style_field, has_area, IsNarrow}
use Rattle.tl_cert.proofs.reading.Spellings.{within-first, within-second}
use Rattle.tl_form.specs.Nested.{IsSectionInRange}

-- ---- pieces one after the other

within_each : (sections : List Section) (i : ℕ) (d : Section) → i < length sections →
    AllWithin (flat_map section_pieces sections) →
    AllWithin (section_pieces (get_or sections i d))
within_each [] i d within all = absurd (omega arith)
within_each (section ∷ sections) zero d within all =
    within-first (section_pieces section) (flat_map section_pieces sections)
    (subst AllWithin (flat_map-cons section_pieces section sections) all)
within_each (section ∷ sections) (suc i) d within all =
    within_each sections i d (omega arith)
    (within-second (section_pieces section) (flat_map section_pieces sections)
    (subst AllWithin (flat_map-cons section_pieces section sections) all))

-- ---- the numbers of a section

small_section : (section : Section) → length section.widths ≤ MAX_COLUMNS → AllWithin (section_pieces section) →
    IsSectionInRange section
small_section section few all =
    let head = within-first (section_head section) (word (codes "widths") ++
    (flat_map (spaced MAX_PAGE_WIDTH) section.widths ++ (word (codes "\n")
    ++ (flat_map cut_pieces section.trace ++ flat_map line_pieces section.log)))) all in
    -- after `section ` come the table, the width, the height, the lower bound, the cuts and the lines, each with a character
    let width = head.1.1.1.1.1.1.1.1.1.1 in
    let cuts = width.1.1.1.1.1.1 in
    let lines = cuts.1.1 in
    record { narrow = width.0.1; cuts = cuts.0.1; lines = omega (arith, lines.0.1, cuts.0.1); few = few }

-- ---- the sections of a certificate

pub small_sections : (certificate : Certificate) → IsWritable certificate → (i : ℕ) (d : Section) →
    i < length certificate.sections →
    IsSectionInRange (get_or certificate.sections i d)
small_sections c written i d within = small_section (get_or c.sections i d) (few_columns c.claim written.0)
    (within_each c.sections i d within sections)
  where
    few_columns : (claim : Claim) → HasProof claim c → length (get_or c.sections i d).widths ≤ MAX_COLUMNS
    few_columns (Lowest height) proof =
        (All-get_or IsSectionShaped c.sections i d within (All-from_recursion IsSectionShaped c.sections proof.sections)).widths
    few_columns (Bounded height lower) proof =
        (All-get_or IsSectionShaped c.sections i d within (All-from_recursion IsSectionShaped c.sections proof.sections)).widths
    few_columns (Narrow least) proof = absurd (let none : length c.sections ≡ 0 = ap length proof.no_section in
        omega (arith, none, within))

    width : AllWithin (word (version_word (has_area c.sections)) ++
        (field 1 MAX_PAGE_WIDTH c.width space ++ (word (style_field c.style)
        ++ (field 0 MAX_BUDGET c.budget line_feed ++ (claim_pieces c.claim ++
        (flat_map chain_pieces c.chains ++ (flat_map section_pieces c.sections
        ++ word (codes "end\n"))))))))
    width = written.1.1.1.1.1.1.1.1.1.1.1.1.1

    budget : AllWithin (field 0 MAX_BUDGET c.budget line_feed ++ (claim_pieces c.claim ++ (flat_map chain_pieces c.chains
        ++ (flat_map section_pieces c.sections ++ word (codes "end\n")))))
    budget = within-second (word (style_field c.style)) (field 0 MAX_BUDGET c.budget line_feed ++
        (claim_pieces c.claim ++ (flat_map chain_pieces c.chains
        ++ (flat_map section_pieces c.sections ++ word (codes "end\n")))))
        (within-second (word (version_word (has_area c.sections)))
        (field 1 MAX_PAGE_WIDTH c.width space ++ (word (style_field c.style)
        ++ (field 0 MAX_BUDGET c.budget line_feed ++ (claim_pieces c.claim ++
        (flat_map chain_pieces c.chains ++ (flat_map section_pieces c.sections
        ++ word (codes "end\n"))))))) width).1.1

    sections : AllWithin (flat_map section_pieces c.sections)
    sections =
        within-first (flat_map section_pieces c.sections) (word (codes "end\n"))
        (within-second (flat_map chain_pieces c.chains) (flat_map section_pieces c.sections ++ word (codes "end\n"))
        (within-second (claim_pieces c.claim) (flat_map chain_pieces c.chains ++
        (flat_map section_pieces c.sections ++ word (codes "end\n")))
        budget.1.1))

pub few_sections : (certificate : Certificate) → IsWritable certificate → (IsNarrow certificate.claim → ⊥) →
    length certificate.sections ≤ MAX_SECTIONS
few_sections c written by_sections = by_claim c.claim written.0 by_sections
  where
    by_claim : (claim : Claim) → HasProof claim c → (IsNarrow claim → ⊥) → length c.sections ≤ MAX_SECTIONS
    by_claim (Lowest height) proof other = proof.most
    by_claim (Bounded height lower) proof other = proof.most
    by_claim (Narrow least) proof other = absurd (other tt)
