-- What is needed from a width on, and falls, has steps; and so has what a cell needs where its nested tables do.
use Rattle.std.proofs.Common.{◌≡◌, ℕ, zero, suc, ◌+◌, ◌-◌, ◌<◌, ◌≤◌, inl, inr, max, List, [], ◌∷◌, ◌++◌, Contains, sum, refl}
use Rattle.std.proofs.Common.{ap, subst, ◌∙◌, arith}
use Rattle.std.specs.List.{AllByRecursion}
use Rattle.std.proofs.lemmas.Bool.{cases_lt}
use Rattle.std.proofs.lemmas.List.{length_push}
use Rattle.std.proofs.lemmas.List.Elements.{All-contains, Contains-push, Contains-push_cases, Contains-append_left}
use Rattle.tl_base.specs.declared.steps.Config.{Config}
use Rattle.tl_base.proofs.Decreasing.{Falls}
use Rattle.tl_base.proofs.Members.{AllPairs-append, AllPairs-cons, AllPairs-none, Contains-none}
use Rattle.tl_base.proofs.Sums.{sum-cons}
use Rattle.tl_text.specs.declared.paragraph.Atom.{Atom}
use Rattle.tl_text.specs.Cuttings.{LeastLines}
use Rattle.tl_text.proofs.Paragraphs.{LeastLines-falls}
use Rattle.tl_table.specs.declared.cell.Content.{Content, out-Content}
use Rattle.tl_table.specs.declared.cell.Content.TheOpen as open_content
use Rattle.tl_table.specs.declared.cell.Table.{Table}
use Rattle.tl_table.specs.Chains.{widest_unit}
use Rattle.tl_table.specs.Tables.{OpenCell, OpenContent, tables_in, tables_of}
use Rattle.tl_form.specs.Problems.{AreStepsOf, BlockNeeds, CellNeeds}
use Rattle.tl_form.specs.inner.CellSteps.{BlocksNeed, IsStart}
use Rattle.tl_form.proofs.CellNeedLemmas.{blocks-cell, cell-blocks}
use Rattle.tl_form.proofs.NeedSteps.{IsDecreasing, AreStepsOf-from, height-own, step-at}
use Rattle.tl_form.proofs.ParagraphSteps.{fit-from_lines, lines-from_fit}
use Rattle.tl_table.proofs.SoundParts.{each_joined}
use Rattle.tl_table.proofs.OwnWidths.{fit_of_widest, widest_of_fit}

-- ---- steps, width by width

module _ (needs : ℕ → ℕ → Type 0) (start : ℕ) (begins : IsStart needs start)
    (falls : (v w m n : ℕ) → v ≤ w → needs v m → needs w n → n ≤ m) where
  decreasing : (page : ℕ) → IsDecreasing needs page
  decreasing page = record {
    falls = λ v w m n wider within first second. falls v w m n wider first second;
    wider = λ v w m wider within first. begins.has w (omega (arith, begins.from v m first, wider));
  }

  -- at its least width the height is one step
  pub first-steps : (h : ℕ) → needs start h → AreStepsOf needs start (record { width = start; height = h } ∷ [])
  first-steps h here =
      let first : Config = record { width = start; height = h } in
      AreStepsOf-from needs start (first ∷ [])
      (record { has_step = omega arith; decreasing = λ i j d before within. absurd (omega arith) }) (decreasing start)
      (λ step has. elim (Contains-push_cases [] first step has) [
        | inl none ↦ absurd (Contains-none step none)
        | inr is ↦ subst (λ (one : Config). (one.width ≤ start) × needs one.width one.height) is (omega arith, here)
      ])
      (λ w n within need.
      let low = begins.from w n need in
      let same : w ≡ start = omega (arith, low, within) in
      let at = subst (λ v. needs v n) same need in
      let one = falls start start h n (omega arith) here at in
      let other = falls start start n h (omega arith) at here in
      (first, Contains-push [] first, omega (arith, same), omega (arith, one, other)))

  module _ (page m n : ℕ) (here : needs page m) (next : needs (suc page) n) (steps : List Config) (of : AreStepsOf needs page steps)
    where
      step-before : (step : Config) → Contains steps step → (step.width ≤ page) × (m ≤ step.height) × needs step.width step.height
      step-before step has =
          let narrow = All-contains (λ (one : Config). one.width ≤ page) steps step of.within has in
          let need = (of.each step.width step.height narrow).0 (height-own steps of.decreasing step has) in
          (narrow, falls step.width page step.height m narrow need here, need)

      -- where the next height is lower it is one step more
      pub next-lower : n < m → AreStepsOf needs (suc page) (steps ++ record { width = suc page; height = n } ∷ [])
      next-lower lower =
          AreStepsOf-from needs (suc page) (steps ++ last ∷ [])
          (record {
            has_step = omega (arith, length_push steps last);
            decreasing = AllPairs-append Falls steps (last ∷ []) of.decreasing.decreasing
                (AllPairs-cons Falls last [] (λ k d none. absurd (omega (arith, none))) (AllPairs-none Falls))
                (λ one other first second. elim (Contains-push_cases [] last other second) [
                  | inl none ↦ absurd (Contains-none other none)
                  | inr is ↦
                      let before = step-before one first in
                      subst (λ (step : Config). Falls one step) is
                      (omega (arith, before.0), omega (arith, before.1, lower))
                ]);
          })
          (decreasing (suc page))
          (λ step has. elim (Contains-push_cases steps last step has) [
            | inl old ↦ let before = step-before step old in (omega (arith, before.0), before.2)
            | inr is ↦ subst (λ (one : Config). (one.width ≤ suc page) × needs one.width one.height) is
                (omega arith, next)
          ])
          (λ w k narrow need. elim (cases_lt w (suc page)) [
            | inl old ↦
                let at = step-at steps w k ((of.each w k (omega (arith, old))).1 need) in
                (at.0, Contains-append_left steps (last ∷ []) at.0 at.1, at.2, at.3)
            | inr new ↦
                let same : w ≡ suc page = omega (arith, narrow, new) in
                let at = subst (λ v. needs v k) same need in
                let one = falls (suc page) (suc page) n k (omega arith) next at in
                let other = falls (suc page) (suc page) k n (omega arith) at next in
                (last, Contains-push steps last, omega (arith, same), omega (arith, one, other))
          ])
        where
          last : Config
          last = record { width = suc page; height = n }

      -- and where it is not they stay
      pub next-flat : m ≤ n → AreStepsOf needs (suc page) steps
      next-flat flat =
          AreStepsOf-from needs (suc page) steps of.decreasing (decreasing (suc page))
          (λ step has. let before = step-before step has in (omega (arith, before.0), before.2))
          (λ w k narrow need. elim (cases_lt w (suc page)) [
            | inl old ↦ step-at steps w k ((of.each w k (omega (arith, old))).1 need)
            | inr new ↦
                let same : w ≡ suc page = omega (arith, narrow, new) in
                let at = subst (λ v. needs v k) same need in
                let one = falls (suc page) (suc page) n k (omega arith) next at in
                let other = falls (suc page) (suc page) k n (omega arith) at next in
                let fall = falls page (suc page) m n (omega arith) here next in
                let found = step-at steps page m ((of.each page m (omega arith)).1 here) in
                (found.0, found.1, omega (arith, found.2, same), omega (arith, found.3, one, other, fall, flat))
          ])

  -- the steps up to the next width
  next-steps : (page : ℕ) → start ≤ page → (steps : List Config) → AreStepsOf needs page steps →
      (more : List Config) × AreStepsOf needs (suc page) more
  next-steps page within steps of =
      let here = begins.has page within in
      let next = begins.has (suc page) (omega (arith, within)) in
      elim (cases_lt next.0 here.0) [
        | inl lower ↦ (
          steps ++ record { width = suc page; height = next.0 } ∷ [],
          next-lower page here.0 next.0 here.1 next.1 steps of lower,
        )
        | inr flat ↦ (steps, next-flat page here.0 next.0 here.1 next.1 steps of flat)
      ]

  steps-after : (n : ℕ) → (steps : List Config) × AreStepsOf needs (start + n) steps
  steps-after zero =
      let same : start ≡ start + 0 = omega arith in
      let here = begins.has start (omega arith) in
      let first = record { width = start; height = here.0 } ∷ [] in
      (first, subst (λ page. AreStepsOf needs page first) same (first-steps here.0 here.1))
  steps-after (suc n) =
      let before = steps-after n in
      let more = next-steps (start + n) (omega arith) before.0 before.1 in
      let same : suc (start + n) ≡ start + suc n = omega arith in
      (more.0, subst (λ page. AreStepsOf needs page more.0) same more.1)

  -- they have steps up to each page
  pub steps-exist : (page : ℕ) → start ≤ page → (steps : List Config) × AreStepsOf needs page steps
  steps-exist page within =
      let all = steps-after (page - start) in
      let same : start + (page - start) ≡ page = omega (arith, within) in
      (all.0, subst (λ end. AreStepsOf needs end all.0) same all.1)

-- ---- a paragraph begins at its widest unit

pub paragraph-start : (atoms : List Atom) → IsStart (λ w h. LeastLines w atoms h) (widest_unit atoms)
paragraph-start atoms = record {
  from = λ w h least. widest_of_fit w atoms (fit-from_lines w atoms h least);
  has = λ w wide. lines-from_fit w atoms (fit_of_widest w atoms wide);
}

-- ---- a cell begins where each of its blocks does

-- what nested tables need begins somewhere, and falls
pub record HasStart (needs : Table → ℕ → ℕ → Type 0) (nested : Table) : Type 0 where
  pub start : ℕ
  pub begins : IsStart (needs nested) start
  pub falls : (v w m n : ℕ) → v ≤ w → needs nested v m → needs nested w n → n ≤ m

module _ (needs : Table → ℕ → ℕ → Type 0) where
  pub block-start : (block : OpenContent) → AllByRecursion (HasStart needs) (tables_of block) →
      (start : ℕ) × IsStart (BlockNeeds needs block) start
  block-start (open_content.Para paragraph) have = (widest_unit paragraph, paragraph-start paragraph)
  block-start (open_content.Table box) have = (have.0.start, have.0.begins)

  block-falls : (block : OpenContent) → AllByRecursion (HasStart needs) (tables_of block) → (v w m n : ℕ) → v ≤ w →
      BlockNeeds needs block v m →
      BlockNeeds needs block w n → n ≤ m
  block-falls (open_content.Para paragraph) have v w m n wider first second =
      LeastLines-falls v w paragraph m n wider first second
  block-falls (open_content.Table box) have v w m n wider first second = have.0.falls v w m n wider first second

  blocks-start : (floor : ℕ) (blocks : List Content) → AllByRecursion
      (λ block. AllByRecursion (HasStart needs) (tables_of (out-Content block))) blocks →
      (start : ℕ) × IsStart (λ w h. (floor ≤ w) × BlocksNeed needs blocks w h) start
  blocks-start floor [] have = (floor, record { from = λ w h all. all.0; has = λ w wide. (0, (wide, ([], tt, refl))) })
  blocks-start floor (block ∷ blocks) have =
      let first = block-start (out-Content block) have.0 in
      let rest = blocks-start floor blocks have.1 in (
        max first.0 rest.0,
        record {
          from = λ w h all. bounds w h all.0 all.1 first.0 rest.0 (λ n here. first.1.from w n here)
              (λ n there. rest.1.from w n there);
          has = λ w wide.
              let here = first.1.has w (omega (arith, wide)) in
              let there = rest.1.has w (omega (arith, wide)) in (
                here.0 + there.0,
                (
                  there.1.0,
                  (
                    here.0 ∷ there.1.1.0,
                    (here.1, there.1.1.1),
                    sum-cons here.0 there.1.1.0 ∙ ap (λ n. here.0 + n) there.1.1.2,
                  ),
                ),
              );
        },
      )
    where
      bounds : (w h : ℕ) → floor ≤ w → BlocksNeed needs (block ∷ blocks) w h → (one other : ℕ) →
          ((n : ℕ) → BlockNeeds needs (out-Content block) w n → one ≤ w) →
          ((n : ℕ) → (floor ≤ w) × BlocksNeed needs blocks w n → other ≤ w) → max one other ≤ w
      bounds w h wide ([], those, all) one other here there = absurd those
      bounds w h wide (n ∷ ns, those, all) one other here there =
          omega (arith, here n those.0, there (sum ns) (wide, (ns, those.1, refl)))

  blocks-fall : (blocks : List Content) →
      AllByRecursion (λ block. AllByRecursion (HasStart needs) (tables_of (out-Content block))) blocks →
      (v w m n : ℕ) → v ≤ w → BlocksNeed needs blocks v m → BlocksNeed needs blocks w n → n ≤ m
  blocks-fall [] have v w m n wider ([], first, all) ([], second, every) = omega (arith, all, every)
  blocks-fall [] have v w m n wider (k ∷ ks, first, all) second = absurd first
  blocks-fall [] have v w m n wider ([], first, all) (l ∷ ls, second, every) = absurd second
  blocks-fall (block ∷ blocks) have v w m n wider ([], first, all) second = absurd first
  blocks-fall (block ∷ blocks) have v w m n wider (k ∷ ks, first, all) ([], second, every) = absurd second
  blocks-fall (block ∷ blocks) have v w m n wider (k ∷ ks, first, all) (l ∷ ls, second, every) =
      omega (
        arith,
        block-falls (out-Content block) have.0 v w k l wider first.0 second.0,
        blocks-fall blocks have.1 v w (sum ks) (sum ls) wider (ks, first.1, refl) (ls, second.1, refl),
        sum-cons k ks,
        sum-cons l ls,
        all,
        every,
      )

  pub cell-begins : (inside : ℕ) (cell : OpenCell) → AllByRecursion (HasStart needs) (tables_in cell) →
      (start : ℕ) × IsStart (CellNeeds needs inside cell) start
  cell-begins inside cell have =
      let all = blocks-start cell.least cell.blocks (each_joined (HasStart needs) (λ block. tables_of (out-Content block))
      cell.blocks have) in (
        all.0,
        record {
          from = λ w h need. let blocks = cell-blocks needs inside cell w h need in all.1.from w blocks.0 (need.floor, blocks.1);
          has = λ w wide. let some = all.1.has w wide in (some.0 - inside, blocks-cell needs inside cell w some.0 some.1.0 some.1.1);
        },
      )

  pub cell-falls : (inside : ℕ) (cell : OpenCell) → AllByRecursion (HasStart needs) (tables_in cell) → (v w m n : ℕ) → v ≤ w →
      CellNeeds needs inside cell v m →
      CellNeeds needs inside cell w n → n ≤ m
  cell-falls inside cell have v w m n wider first second =
      let high = cell-blocks needs inside cell v m first in
      let low = cell-blocks needs inside cell w n second in
      let fall = blocks-fall cell.blocks (each_joined (HasStart needs) (λ block. tables_of (out-Content block)) cell.blocks have)
      v w high.0 low.0 wider high.1 low.1 in
      omega (arith, fall, high.2, low.2)

  -- a cell that begins within the page has steps
  pub cell-steps : (inside : ℕ) (cell : OpenCell) (have : AllByRecursion (HasStart needs) (tables_in cell)) (page : ℕ) →
      (cell-begins inside cell have).0 ≤ page →
      (steps : List Config) × AreStepsOf (CellNeeds needs inside cell) page steps
  cell-steps inside cell have page within =
      let begin = cell-begins inside cell have in
      steps-exist (CellNeeds needs inside cell) begin.0 begin.1 (cell-falls inside cell have) page within
