use Rattle.std.proofs.Common.{◌≡◌, ◌∙◌, ◌-◌, ◌<◌, List, None, Some, length, get_or, suc, sym, ap, subst, arith}
use Rattle.std.specs.List.{last_or}
use Rattle.std.specs.Option.{IsSomeAnd}
use Rattle.std.proofs.lemmas.List.{take_all}
use Rattle.tl_base.proofs.Decreasing.{last_or-take}
use Rattle.tl_cert.specs.declared.section.Section.{Section}
use Rattle.tl_form.specs.Valid.{HasNumbers}
use Rattle.tl_verify.proofs.claim.ends_with.Goals as goal

last_is : (sections : List Section) (last : Section) → 0 < length sections → last ≡ get_or sections (length sections - 1) last →
    last_or None sections ≡ Some last
last_is sections last some is =
    ap (last_or None) (sym (take_all (suc (length sections - 1)) sections (omega (arith, some))))
    ∙ last_or-take None sections (length sections - 1) last (omega (arith, some)) ∙ ap Some (sym is)

pub returns-in-Some : goal.returns-in-Some
returns-in-Some c =
    let item = c.in-Some.ensures.item in
    let last = last_is c.args.sections.now c.in-Some.last.now item.3.0 item.1 in (
      λ yes. subst (λ o. IsSomeAnd o (HasNumbers c.args.claim)) (sym last) (c.has_numbers.ensures.0 yes),
      λ ends. c.has_numbers.ensures.1 (subst (λ o. IsSomeAnd o (HasNumbers c.args.claim)) last ends),
    )
