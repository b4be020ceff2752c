-- The first bytes of a file of which so many are kept.
use Rattle.std.proofs.Common.{◌∙◌, ◌≡◌, ◌+◌, ◌-◌, ℕ, List, [], ◌++◌, sym, ap, arith, inl, inr, length, min, take}
use Rattle.std.proofs.lemmas.Bool.{cases_lt}
use Rattle.std.proofs.lemmas.List.{append-nil, length-append, nil_from_length, take_all}
use Rattle.std.proofs.Math.Seq.{take-append_seam}
use Rattle.tl_exchange.specs.Taking.{seen}

-- as many as there are, or one more than `most`, are those that are seen
pub kept_is_seen : (most size : ℕ) (kept skipped : List ℕ) → length kept ≡ min size (most + 1) →
    length skipped ≡ size - min size (most + 1) → kept ≡ seen most (kept ++ skipped)
kept_is_seen most size kept skipped has left = elim (cases_lt (most + 1) size) [
  | inl longer ↦ let full : length kept ≡ most + 1 = omega (arith, has, longer) in
      sym (take-append_seam kept skipped) ∙ ap (λ n. take n (kept ++ skipped)) full
  | inr short ↦ let none : skipped ≡ [] = nil_from_length skipped (omega (arith, left, short)) in
      sym (append-nil kept) ∙ ap (λ more. kept ++ more) (sym none)
      ∙ sym (take_all (most + 1) (kept ++ skipped) (omega (arith, length-append kept skipped, has, left, short)))
]
