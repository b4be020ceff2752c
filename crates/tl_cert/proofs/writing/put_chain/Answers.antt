use Rattle.std.proofs.Common.{◌≡◌, ℕ, List, [], ◌∷◌, ◌++◌, sym, ap, ◌∙◌}
use Rattle.std.specs.Prelude.{codes}
use Rattle.std.specs.List.{flat_map}
use Rattle.tl_base.specs.declared.chain.Entry.{Entry}
use Rattle.tl_cert.specs.Pieces.{character, spell, numeral}
use Rattle.tl_cert.specs.Text.{space, entry_pieces}
use Rattle.tl_cert.proofs.Appending.{twice, chain_spelled}
use Rattle.tl_cert.proofs.writing.put_chain.Goals as goal

pub returns : goal.returns
returns c =
    let out = c.args.out.now in
    let chain = c.args.chain.now in
    let entries : List ℕ = spell (flat_map (λ (entry : Entry). character space ∷ entry_pieces entry) chain.entries) in
    let put : c.put_entries.new.out ≡ c.put_number.new.out ++ entries =
    c.in_ok-put_entries.ensures ∙ ap (λ (list : List Entry). c.put_number.new.out
    ++ spell (flat_map (λ (entry : Entry). character space ∷ entry_pieces entry) list)) c.as_slice-entries.ensures in
    let number : c.put_number.new.out ≡ c.extend_from_slice.new.self ++ numeral chain.table =
    c.in_ok-put_number.ensures ∙ ap (λ (n : ℕ). c.extend_from_slice.new.self ++ numeral n) c.from.ensures in
    twice out c.extend_from_slice.new.self c.push.new.self (codes "chain ") (numeral chain.table ++ (entries ++ (10 ∷ [])))
    c.in_ok-extend_from_slice.ensures.ok
    (twice c.extend_from_slice.new.self c.put_number.new.out c.push.new.self (numeral chain.table) (entries ++ (10 ∷ [])) number
    (twice c.put_number.new.out c.put_entries.new.out c.push.new.self entries (10 ∷ []) put c.in_ok-push.ensures.ok))
    ∙ ap (λ (t : List ℕ). out ++ t) (sym (chain_spelled chain))
