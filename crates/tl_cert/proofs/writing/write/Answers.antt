use Rattle.std.proofs.Common.{◌≡◌, ℕ, List, [], ◌++◌, sym, ap, ◌∙◌}
use Rattle.std.specs.Prelude.{codes}
use Rattle.std.specs.List.{flat_map}
use Rattle.tl_base.specs.declared.chain.Chain.{Chain}
use Rattle.tl_cert.specs.declared.section.Section.{Section}
use Rattle.tl_cert.specs.Pieces.{spell}
use Rattle.tl_cert.specs.Text.{claim_pieces, chain_pieces, section_pieces}
use Rattle.tl_cert.specs.inner.Head.{head_text}
use Rattle.tl_cert.proofs.Appending.{twice, cert_spelled}
use Rattle.tl_cert.proofs.writing.write.Goals as goal

pub returns : goal.returns
returns c =
    let cert = c.args.certificate.now in
    let head : List ℕ = head_text cert in
    let claim : List ℕ = spell (claim_pieces cert.claim) in
    let chains : List ℕ = spell (flat_map chain_pieces cert.chains) in
    let sections : List ℕ = spell (flat_map section_pieces cert.sections) in
    let put_c : c.put_chains.new.out ≡ c.put_claim.new.out ++ chains =
    c.in_ok-put_chains.ensures ∙ ap (λ (list : List Chain). c.put_claim.new.out ++ spell (flat_map chain_pieces list))
    c.as_slice-chains.ensures in
    let put_s : c.put_sections.new.out ≡ c.put_chains.new.out ++ sections =
    c.in_ok-put_sections.ensures ∙ ap (λ (list : List Section). c.put_chains.new.out ++ spell (flat_map section_pieces list))
    c.as_slice-sections.ensures in
    let end = c.extend_from_slice.new.self in
    twice [] c.put_head.new.out end head (claim ++ (chains ++ (sections ++ codes "end\n")))
    (c.in_ok-put_head.ensures ∙ ap (λ (t : List ℕ). t ++ head) c.new-out.ensures)
    (twice c.put_head.new.out c.put_claim.new.out end claim (chains ++ (sections ++ codes "end\n")) c.in_ok-put_claim.ensures
    (twice c.put_claim.new.out c.put_chains.new.out end chains (sections ++ codes "end\n") put_c
    (twice c.put_chains.new.out c.put_sections.new.out end sections (codes "end\n") put_s c.in_ok-extend_from_slice.ensures.ok)))
    ∙ sym (cert_spelled cert)
