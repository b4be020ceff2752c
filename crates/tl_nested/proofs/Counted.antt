-- How many sections there may be: each that is due leaves fewer.
use Rattle.std.proofs.Common.{◌≡◌, ℕ, ◌+◌, ◌-◌, ◌*◌, ◌<◌, ◌≤◌, Option, None, Some, refl, ap, arith}
use Rattle.tl_base.specs.declared.limits.TheConstants.{MAX_PAGE_WIDTH, MAX_TABLES}
use Rattle.tl_problem.proofs.AreaLaws.{times_le}
use Rattle.tl_cert.specs.declared.limits.TheConstants.{MAX_SECTIONS}
use Rattle.tl_form.specs.Expected.{Document, Due, own_number, least_of, next_width, due_in, next_due}
use Rattle.tl_form.proofs.DueLaws.{MayBeDue, by_next, next_falls, one_before}
use Rattle.tl_nested.specs.inner.SoFar.{sections_left}

-- one table less is a page and one less
one_less : (k m page : ℕ) → k ≡ m + 1 → m * (page + 1) + page + 1 ≤ k * (page + 1)
one_less k m page same =
    let all : k * (page + 1) ≡ (m + 1) * (page + 1) = ap (λ n. n * (page + 1)) same in
    let parts : (m + 1) * (page + 1) ≡ m * (page + 1) + (page + 1) = omega arith in
    omega (arith, all, parts)

module _ (document : Document) (now : Due) (may : MayBeDue document now) (placed : ℕ) (within : placed ≤ now.width) where
  by_width : (now.table ≡ own_number document → ⊥) → (width : Option ℕ) →
      next_width (least_of document now.table) placed ≡ width →
      sections_left document (Some (due_in document now.table width)) < sections_left document (Some now)
  by_width other None is =
      let less = one_less (now.table - own_number document) (now.table - 1 - own_number document) document.page
      (one_before (own_number document) now.table may.from other) in
      omega (arith, less)
  by_width other (Some width) is = omega (arith, next_falls (least_of document now.table) placed width is, within)

  -- what is due next leaves fewer
  pub left_falls : sections_left document (next_due document now.table placed) < sections_left document (Some now)
  left_falls = by_next document now.table placed
      (λ next. sections_left document next < sections_left document (Some now))
      (λ same. omega (arith, may.whole same))
      (λ other. by_width other (next_width (least_of document now.table) placed) refl)

-- ---- no more than a certificate has

pub few_enough : (count tables page : ℕ) → tables < MAX_TABLES → page ≤ MAX_PAGE_WIDTH →
    count + page ≤ tables * (page + 1) + page + 1 →
    count ≤ MAX_SECTIONS
few_enough count tables page few narrow all =
    let most : tables * (page + 1) ≤ (MAX_TABLES - 1) * (page + 1) =
    times_le tables (MAX_TABLES - 1) (page + 1) (omega (arith, few)) in
    omega (arith, most, narrow, all)
