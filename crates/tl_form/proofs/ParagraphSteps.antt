-- The minimal configurations of a paragraph are the steps of its least numbers of lines.
use Rattle.std.proofs.Common.{◌≡◌, ℕ, zero, suc, ◌≤◌, ◌⊎◌, inl, inr, List, [], ◌∷◌, length, refl}
use Rattle.std.proofs.Common.{sym, subst, arith}
use Rattle.std.proofs.lemmas.Bool.{cases_lt}
use Rattle.tl_base.specs.declared.steps.Config.{Config}
use Rattle.tl_base.specs.Steps.{AreSteps}
use Rattle.tl_text.specs.declared.paragraph.Atom.{Atom}
use Rattle.tl_text.specs.Cuttings.{HasCutting, LeastLines, joined}
use Rattle.tl_text.specs.Minimal.{IsMinimal, AreMinimal}
use Rattle.tl_text.specs.Paragraph.{unit_width}
use Rattle.tl_text.proofs.Minimals.{AllFit-from_cutting}
use Rattle.tl_text.proofs.Paragraphs.{AllFit, AllFit-wider, LeastLines-falls, greedy_cut, greedy_cut-least}
use Rattle.tl_form.specs.Problems.{AreStepsOf}
use Rattle.tl_form.proofs.NeedSteps.{IsDecreasing, AreStepsOf-from}

-- a paragraph fits a width or does not
pub fits-or-not : (w : ℕ) (atoms : List Atom) → AllFit w atoms ⊎ (AllFit w atoms → ⊥)
fits-or-not w [] = inl tt
fits-or-not w (atom ∷ atoms) =
    elim (cases_lt w (unit_width atom)) [
      | inl wide ↦ inr (λ fit. omega (arith, fit.0, wide))
      | inr narrow ↦ elim (fits-or-not w atoms) [
        | inl fit ↦ inl (narrow, fit)
        | inr not ↦ inr (λ fit. not fit.1)
      ]
    ]

-- where it has a least number of lines it fits, so that it has one at each greater width
pub fit-from_lines : (w : ℕ) (atoms : List Atom) (n : ℕ) → LeastLines w atoms n → AllFit w atoms
fit-from_lines w atoms n least = let cut = least.attained in AllFit-from_cutting w atoms (cut.0, cut.1, cut.2)

pub lines-from_fit : (w : ℕ) (atoms : List Atom) → AllFit w atoms → (n : ℕ) × LeastLines w atoms n
lines-from_fit w atoms fit = (length (joined (greedy_cut w atoms)), greedy_cut-least w atoms fit)

pub lines-decreasing : (atoms : List Atom) (page : ℕ) → IsDecreasing (λ w h. LeastLines w atoms h) page
lines-decreasing atoms page = record {
  falls = λ v w m n wider within first second. LeastLines-falls v w atoms m n wider first second;
  wider = λ v w m wider within least. lines-from_fit w atoms (AllFit-wider v w atoms wider (fit-from_lines v atoms m least));
}

-- a least number of lines begins with a minimal configuration
begins : (atoms : List Atom) (w n : ℕ) → LeastLines w atoms n →
    (config : Config) × IsMinimal atoms config × (config.width ≤ w) × (config.height ≡ n)
begins atoms zero n least = (
  record { width = 0; height = n },
  record { lines = least; narrower = λ v cut next cutting holds. absurd (omega (arith, next)) },
  omega arith,
  refl,
)
begins atoms (suc w) n least =
    elim (fits-or-not w atoms) [
      | inr not ↦ (
        record { width = suc w; height = n },
        record {
          lines = least;
          narrower = λ v cut next cutting holds.
              let same : v ≡ w = omega (arith, next) in
              absurd (not (subst (λ u. AllFit u atoms) same (AllFit-from_cutting v atoms (cut, cutting, holds))));
        },
        omega arith,
        refl,
      )
      | inl fit ↦
          let before = lines-from_fit w atoms fit in
          elim (cases_lt n before.0) [
            | inl fewer ↦ (
              record { width = suc w; height = n },
              record {
                lines = least;
                narrower = λ v cut next cutting holds.
                    let same : v ≡ w = omega (arith, next) in
                    omega (arith, fewer, (subst (λ u. LeastLines u atoms before.0) (sym same) before.1).least cut cutting holds);
              },
              omega arith,
              refl,
            )
            | inr more ↦
                let same : before.0 ≡ n = omega (
                  arith,
                  more,
                  LeastLines-falls w (suc w) atoms before.0 n (omega arith) before.1 least,
                ) in
                let found = begins atoms w n (subst (λ k. LeastLines w atoms k) same before.1) in
                (found.0, found.1, omega (arith, found.2), found.3)
          ]
    ]

-- exactly the minimal configurations are the steps
pub paragraph-steps : (atoms : List Atom) (page : ℕ) (steps : List Config) → AreSteps steps → AreMinimal atoms page steps →
    AreStepsOf (λ w h. LeastLines w atoms h) page steps
paragraph-steps atoms page steps are minimal =
    AreStepsOf-from (λ w h. LeastLines w atoms h) page steps are (lines-decreasing atoms page)
    (λ step has. let is = (minimal step).0 has in (is.1, is.0.lines))
    (λ w n within least.
    let found = begins atoms w n least in
    (found.0, (minimal found.0).1 (found.1, omega (arith, found.2, within)), found.2, found.3))

-- a paragraph that has lines in fewer columns has a cutting in more
pub holds-wider : (atoms : List Atom) (from page h : ℕ) → from ≤ page → LeastLines from atoms h → HasCutting page atoms
holds-wider atoms from page h wider least =
    let lines = lines-from_fit page atoms (AllFit-wider from page atoms wider (fit-from_lines from atoms h least)) in
    let cut = lines.1.attained in
    (cut.0, cut.1, cut.2)
