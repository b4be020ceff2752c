-- The sizes are of 32 bits and few, so that their total is far below 64 bits.
use Rattle.std.proofs.Common.{◌≡◌, ◌-◌, ◌<◌, ◌≤◌, length, true, false, eq-eqb, sym, ◌∙◌, inl, inr, arith}
use Rattle.std.proofs.Math.Nat.{mul-le-mul}
use Rattle.std.proofs.lemmas.Bool.{cases_lt}
use Rattle.tl_base.specs.declared.limits.TheConstants.{MAX_ROWS}
use Rattle.tl_base.proofs.SizeLaws.{total-sum}
use Rattle.tl_base.proofs.sizes.total_size.Goals as goal

pub overflow_add-result : goal.overflow_add-result
overflow_add-result c =
    let inner : length c.args.sizes.now - 1 ≤ MAX_ROWS = omega (arith, c.requires.few) in
    let gap : c.from.result ≤ 2 = omega (arith, c.from.ensures, c.requires.gap) in
    let gaps = mul-le-mul gap inner in
    omega (arith, gaps, c.sum_of.ensures.small, c.requires.few)

pub overflow_add-result-2 : goal.overflow_add-result-2
overflow_add-result-2 c =
    let inner : length c.args.sizes.now - 1 ≤ MAX_ROWS = omega (arith, c.requires.few) in
    let gap : c.from.result ≤ 2 = omega (arith, c.from.ensures, c.requires.gap) in
    let gaps = mul-le-mul gap inner in
    omega (arith, gaps, c.sum_of.ensures.small, c.from-2.ensures, c.requires.few, c.requires.edges)

pub returns-clause-total : goal.returns-clause-total
returns-clause-total c =
    let some : 0 < length c.args.sizes.now =
    elim (cases_lt 0 (length c.args.sizes.now)) [
      | inl more ↦ more
      | inr none ↦ absurd (let both : true ≡ false = sym (eq-eqb (length c.args.sizes.now) 0 (omega arith)) ∙ sym
          c.is_empty.ensures ∙
          c.if-is_empty.false in cc)
    ] in
    rw (c.sum_of.ensures.sum, c.from.ensures, c.from-2.ensures) (sym (total-sum c.args.gap c.args.edges c.args.sizes.now some))

pub returns-clause-small : goal.returns-clause-small
returns-clause-small c =
    let inner : length c.args.sizes.now - 1 ≤ MAX_ROWS = omega (arith, c.requires.few) in
    let gap : c.from.result ≤ 2 = omega (arith, c.from.ensures, c.requires.gap) in
    let gaps = mul-le-mul gap inner in
    omega (arith, gaps, c.sum_of.ensures.small, c.from-2.ensures, c.requires.few, c.requires.edges)
