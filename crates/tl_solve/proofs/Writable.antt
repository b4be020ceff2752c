-- The lines of a log that is made for a trace are within the ranges of a certificate's text.
use Rattle.std.proofs.Common.{ℕ, ◌+◌, ◌-◌, ◌*◌, ◌<◌, ◌≤◌, zero, suc, List, [], ◌∷◌, length, get_or, Option, Some, None, codes}
use Rattle.std.proofs.Common.{sym, subst, arith}
use Rattle.std.specs.List.{All, AllByRecursion, flat_map}
use Rattle.std.proofs.lemmas.List.Concat.{flat_map-cons}
use Rattle.std.proofs.lemmas.List.Elements.{recursion_from_All}
use Rattle.tl_base.proofs.Members.{AllByRecursion-append}
use Rattle.tl_cert.specs.declared.limits.TheConstants.{MAX_LINE, MAX_ZONE}
use Rattle.tl_cert.specs.declared.log.End.{End}
use Rattle.tl_cert.specs.declared.log.End.TheVariants.{Fired}
use Rattle.tl_cert.specs.declared.log.LogLine.{LogLine}
use Rattle.tl_cert.specs.declared.log.Nogood.TheVariants.{Zone}
use Rattle.tl_cert.specs.Pieces.{character, number, word, IsPieceInRange, AllWithin}
use Rattle.tl_cert.specs.Text.{space, fire_pieces, end_word, line_pieces, IsLineShaped, IsLogWritable}
use Rattle.tl_cert.proofs.reading.Words.{within-word}
use Rattle.tl_solve.specs.inner.Shapes.{parts_fired, line_by_cut, AreLinesOf}

pub all-flat_map : {X Y : Type 0} (P : Y → Type 0) (f : X → List Y) (xs : List X) → All (λ x. AllByRecursion P (f x)) xs →
    AllByRecursion P (flat_map f xs)
all-flat_map P f [] all = tt
all-flat_map P f (x ∷ xs) all = subst (AllByRecursion P) (sym (flat_map-cons f x xs))
    (AllByRecursion-append P (f x) (flat_map f xs) (all 0 x (omega arith))
    (all-flat_map P f xs (λ i d within. all (suc i) d (omega arith))))

pub fire-within : (f : ℕ) → f ≤ MAX_LINE → AllWithin (fire_pieces f)
fire-within f small =
    AllByRecursion-append IsPieceInRange (word (codes " @")) (number 0 MAX_LINE f ∷ []) (within-word (codes " @"))
    ((omega arith, small), tt)

-- a line of a zone, with at most two fires
line-within : (z : ℕ) (fires : List ℕ) (end : End) → z ≤ MAX_ZONE → All (λ f. f ≤ MAX_LINE) fires →
    AllWithin (line_pieces (record { nogood = Zone z; fires = fires; end = end }))
line-within z fires end small few =
    ((
      tt,
      (
        (omega arith, small),
        AllByRecursion-append IsPieceInRange (flat_map fire_pieces fires) (character space ∷ word (end_word end))
            (all-flat_map IsPieceInRange fire_pieces fires (λ i d within. fire-within (get_or fires i d) (few i d within)))
            (tt, within-word (end_word end)),
      ),
    ))

fired-few : (last cut : ℕ) (upper : Option ℕ) → last ≤ MAX_ZONE → All (λ f. f ≤ MAX_LINE) (parts_fired last cut upper)
fired-few last cut None small zero d within = omega arith
fired-few last cut None small (suc i) d within = absurd (omega arith)
fired-few last cut (Some bound) small zero d within = omega arith
fired-few last cut (Some bound) small (suc zero) d within = omega arith
fired-few last cut (Some bound) small (suc (suc i)) d within = absurd (omega arith)

fired-length : (last cut : ℕ) (upper : Option ℕ) → length (parts_fired last cut upper) ≤ 8
fired-length last cut None = omega arith
fired-length last cut (Some bound) = omega arith

line-writable : (last lower z : ℕ) (bounds : List (Option ℕ)) (found : Option ℕ) → z ≤ last → last ≤ MAX_ZONE →
    IsLineShaped (line_by_cut last bounds lower z found) × AllWithin (line_pieces (line_by_cut last bounds lower z found))
line-writable last lower z bounds None within small = (
  record { nogood = tt; fires = omega arith },
  line-within z [] (line_by_cut last bounds lower z None).end (omega (arith, within, small)) (λ i d inside. absurd (omega arith)),
)
line-writable last lower z bounds (Some cut) within small = (
  record { nogood = tt; fires = fired-length last cut (get_or bounds (2 * cut + 2) None) },
  line-within z (parts_fired last cut (get_or bounds (2 * cut + 2) None)) Fired (omega (arith, within, small))
      (fired-few last cut (get_or bounds (2 * cut + 2) None) small),
)

pub log-writable : (last lower : ℕ) (cuts bounds : List (Option ℕ)) (log : List LogLine) → last ≤ MAX_ZONE →
    AreLinesOf last cuts bounds lower (last + 1) log → IsLogWritable log
log-writable last lower cuts bounds log small lines = (
  recursion_from_All IsLineShaped log (λ k d within. (each k d within).0),
  all-flat_map IsPieceInRange line_pieces log (λ k d within. (each k d within).1),
) where
  each : (k : ℕ) (d : LogLine) → k < length log → IsLineShaped (get_or log k d) × AllWithin (line_pieces (get_or log k d))
  each k d within =
      subst (λ (line : LogLine). IsLineShaped line × AllWithin (line_pieces line))
      (sym (lines.each k d (omega (arith, within, lines.count))))
      (line-writable last lower (last - k) bounds (get_or cuts (last - k) None) (omega arith) small)
