-- A valid certificate of a document within the reach is never too long to be read back.
use Rattle.std.proofs.Common.{◌≡◌, ◌∙◌, ℕ, ◌+◌, ◌-◌, ◌*◌, ◌≤◌, length, sym, ap, subst, arith}
use Rattle.tl_base.specs.declared.limits.TheConstants.{MAX_CERTIFICATE_BYTES, MAX_REACH}
use Rattle.tl_base.specs.declared.style.Style.{Style}
use Rattle.tl_cert.specs.declared.certificate.Certificate.{Certificate}
use Rattle.tl_cert.specs.declared.certificate.Claim.{Claim}
use Rattle.tl_cert.specs.declared.certificate.Claim.TheVariants.{Lowest, Bounded, Narrow}
use Rattle.tl_cert.specs.Text.{HasProof, HasSections, IsWritable, cert_text}
use Rattle.tl_cert.proofs.TextSizes.{cuts_in, entries_in, text-size}
use Rattle.tl_table.specs.declared.cell.Table.{Table}
use Rattle.tl_table.specs.Sound.{IsSound, nested_in_table}
use Rattle.tl_form.specs.Expected.{Document, IsDocumentOf, own_number}
use Rattle.tl_form.specs.LengthLaws.{ValidIsShort}
use Rattle.tl_form.specs.Valid.{AreWhole, IsShown}
use Rattle.tl_form.proofs.ChainSizes.{few_chains}
use Rattle.tl_form.proofs.CutSums.{cuts_within}

module _ (table : Table) (style : Style) (page budget : ℕ) (c : Certificate) (sound : IsSound table)
    (within : (1 + nested_in_table table * page) * budget ≤ MAX_REACH) (document : Document)
    (of : IsDocumentOf table style page document) (written : IsWritable c) where
  -- the cuts of all sections are within the reach
  few_cuts : AreWhole document budget c.sections → cuts_in c.sections ≤ MAX_REACH
  few_cuts whole =
      let below = cuts_within document budget c.sections (omega (arith, of.numbers)) whole.good whole.none in
      let last : document.last - own_number document ≡ nested_in_table table =
      ap (λ (n : ℕ). n - own_number document) of.numbers ∙ omega arith ∙ ap nested_in_table of.same in
      let nested = ap (λ (n : ℕ). (1 + n * document.page) * budget) last in
      let wide = ap (λ (n : ℕ). (1 + nested_in_table table * n) * budget) of.wide in
      omega (arith, subst (λ (n : ℕ). cuts_in c.sections ≤ n) (nested ∙ wide) below, within)

  by_sections : HasSections c → AreWhole document budget c.sections → length (cert_text c) ≤ MAX_CERTIFICATE_BYTES
  by_sections has whole =
      let no_chain : length c.chains ≡ 0 = ap length has.no_chain in
      let no_entry : entries_in c.chains ≡ 0 = ap entries_in has.no_chain in
      omega (arith, text-size c written, no_chain, no_entry, has.most, few_cuts whole)

  by_claim : (claim : Claim) → HasProof claim c → IsShown document budget c claim →
      length (cert_text c) ≤ MAX_CERTIFICATE_BYTES
  by_claim (Lowest height) has shown = by_sections has shown.0
  by_claim (Bounded height lower) has shown = by_sections has shown.0
  by_claim (Narrow least) has shown =
      let no_section : length c.sections ≡ 0 = ap length has.no_section in
      let no_cut : cuts_in c.sections ≡ 0 = ap cuts_in has.no_section in
      let own = subst IsSound (sym of.same) sound in
      let few = few_chains shown.weighed.0 document.table document.style c.chains least own shown.weighed.1 in
      omega (arith, text-size c written, no_section, no_cut, few.0, few.1, own.few_tables)

pub short : ValidIsShort
short table style page budget c sound within valid written =
    by_claim table style page budget c sound within valid.0 valid.1 written c.claim written.0 valid.2.shown
