use Rattle.std.proofs.Common.{◌≡◌, ◌<◌, ◌∙◌, ◌+◌, ◌∷◌, if◌then◌else◌, length, ap, subst, arith, tests}
use Rattle.std.specs.List.{AllZip}
use Rattle.std.proofs.lemmas.List.{take_all}
use Rattle.tl_text.specs.Cuttings.{LeastLines, joined}
use Rattle.tl_text.specs.inner.Measure.{measure_of, unit_columns, next_line, ends_line, lines_after}
use Rattle.tl_text.specs.Paragraph.{unit_width}
use Rattle.tl_text.specs.Ranges.{AreConsecutive, ShowsLine, ShowsGreedyCutting, IsFirstTooWide}
use Rattle.tl_text.proofs.Filled.{IsFilled-none, IsFilled-more, IsFirstTooWide-from}
use Rattle.tl_text.proofs.Paragraphs.{AllFit, greedy_cut, columns_of-measure_of}
use Rattle.tl_text.proofs.RangeSteps.{IsCutUpTo, IsCutUpTo-none, step_break, step_join, step_start, at_most_one, none_open}
use Rattle.tl_text.proofs.RangeSteps.{cut_all, cut_last}
use Rattle.tl_text.proofs.RangeSteps.{ShowsGreedyCutting-from, LeastLines-from}
use Rattle.tl_text.proofs.ranges.lines.Goals as goal
use Rattle.tl_text.proofs.ranges.lines.Goals.{then-is_none+in_ok-push, else-is_none+then-filling-ended+in_ok-push-2}
use Rattle.tl_text.proofs.ranges.lines.Goals.{else-is_none+else-filling-ended}
use Rattle.tl_text.proofs.ranges.lines.Goals.{then-is_some+in_ok-push-3, else-is_some}

pub loop-at-init : goal.loop-at-init
loop-at-init c = record {
  filled = IsFilled-none c.args.width c.atoms-atoms.result.now c.new-filling.result c.new-filling.ensures.ended
      c.new-filling.ensures.line (omega arith);
  cut = rw (c.new-filling.ensures.line, c.new-lines.ensures) (IsCutUpTo-none c.args.width c.atoms-atoms.result.now);
}

pub returns-then-too_wide-clause-too_wide : goal.returns-then-too_wide-clause-too_wide
returns-then-too_wide-clause-too_wide c =
    let atoms = c.atoms-atoms.result.now in
    let atom = c.index-atoms-at.result in
    let width : c.width.result ≡ unit_width atom = c.width.ensures ∙ ap unit_columns
    c.measured-measure.ensures.measure ∙ columns_of-measure_of atom in
    subst (λ all. IsFirstTooWide c.args.width all c.loop-at.at) c.atoms-atoms.ensures.atoms
    (IsFirstTooWide-from c.args.width atoms c.loop-at.at atom (omega arith) c.index-atoms-at.is c.loop-at.invariant.filled.fit
    (omega arith))

pub loop-at-preserved : goal.loop-at-preserved
loop-at-preserved c =
    let atoms = c.atoms-atoms.result.now in
    let atom = c.index-atoms-at.result in
    let w = c.args.width in
    let n = c.loop-at.at in
    let within : n < length atoms = omega arith in
    let seen : c.measured-measure.result ≡ measure_of atom = c.measured-measure.ensures.measure in
    let width : c.width.result ≡ unit_width atom = c.width.ensures ∙ ap unit_columns seen ∙ columns_of-measure_of atom in
    let cut = c.loop-at.invariant.cut in
    let next : c.with-filling.result.line ≡ next_line w c.loop-at.filling.line (measure_of atom) =
    c.with-filling.ensures.next_line ∙ ap (λ m. next_line w c.loop-at.filling.line m) seen in
    let ended : c.with-filling.result.ended
    ≡ (if ends_line w c.loop-at.filling.line (measure_of atom) then c.loop-at.filling.ended + 1 else c.loop-at.filling.ended) =
    c.with-filling.ensures.ended ∙ ap (λ m. if ends_line w c.loop-at.filling.line
    m then c.loop-at.filling.ended + 1 else c.loop-at.filling.ended) seen in
    record {
      filled = IsFilled-more w atoms n c.loop-at.filling c.with-filling.result atom within c.index-atoms-at.is (omega arith)
          c.loop-at.invariant.filled
          (λ measures. c.with-filling.ensures.lines w measures (omega arith) c.with-filling.ensures.next.0
          ∙ ap (λ m. c.loop-at.filling.ended + lines_after w c.loop-at.filling.line (m ∷ measures)) seen)
          c.with-filling.ensures.next.0 c.with-filling.ensures.line (at_most_one _ _ _ ended);
      cut = elim c.if-is_none.branch [
        | then-is_none+in_ok-push b ↦
            rw (b.first-is, b.lines-is, b.in_ok-push.ensures.ok)
            (step_break w atoms n c.loop-at.first c.loop-at.filling.line c.loop-at.lines atom within c.index-atoms-at.is cut
            c.with-filling.result.line next (grind (arith, tests)))
        | else-is_none+then-filling-ended+in_ok-push-2 b ↦
            rw (b.first-is, b.lines-is, b.in_ok-push-2.ensures.ok)
            (step_start w atoms n c.loop-at.first c.loop-at.filling.line c.loop-at.lines atom within c.index-atoms-at.is cut
            c.with-filling.result.line next (grind (arith, tests)) c.loop-at.filling.ended c.with-filling.result.ended ended
            (omega arith))
        | else-is_none+else-filling-ended b ↦
            rw (b.first-is, b.lines-is)
            (step_join w atoms n c.loop-at.first c.loop-at.filling.line c.loop-at.lines atom within c.index-atoms-at.is cut
            c.with-filling.result.line
            next c.loop-at.filling.ended c.with-filling.result.ended ended (omega arith))
      ];
    }

-- all atoms are in the ranges, in lines of the greedy cutting
shows : (c : goal.Joined-is_some) → AreConsecutive 0 c.if-is_some.lines (length c.atoms-atoms.result.now)
    × AllZip (ShowsLine c.atoms-atoms.result.now) c.if-is_some.lines (joined (greedy_cut c.args.width c.atoms-atoms.result.now))
shows c =
    let atoms = c.atoms-atoms.result.now in
    let all : c.loop-at.at ≡ length atoms = omega arith in
    let cut : IsCutUpTo c.args.width atoms (length atoms) c.loop-at.first c.loop-at.filling.line c.loop-at.lines =
    subst (λ n. IsCutUpTo c.args.width atoms n c.loop-at.first c.loop-at.filling.line c.loop-at.lines)
    all c.loop-at.invariant.cut in
    elim c.if-is_some.branch [
      | then-is_some+in_ok-push-3 b ↦ rw (b.lines-is, b.in_ok-push-3.ensures.ok)
          (cut_last c.args.width atoms c.loop-at.first c.loop-at.filling.line c.loop-at.lines cut (grind (arith, tests)))
      | else-is_some b ↦ rw b.lines-is
          (cut_all c.args.width atoms c.loop-at.first c.loop-at.filling.line c.loop-at.lines cut
          (none_open c.loop-at.filling.line (grind (arith, tests))))
    ]

all_fit : (c : goal.Joined-is_some) → AllFit c.args.width c.atoms-atoms.result.now
all_fit c = subst (λ first. AllFit c.args.width first) (take_all c.loop-at.at c.atoms-atoms.result.now (omega arith))
    c.loop-at.invariant.filled.fit

pub returns-clause-greedy : goal.returns-clause-greedy
returns-clause-greedy c =
    subst (λ all. ShowsGreedyCutting c.args.width all c.if-is_some.lines) c.atoms-atoms.ensures.atoms
    (ShowsGreedyCutting-from c.args.width c.atoms-atoms.result.now c.if-is_some.lines (all_fit c) (shows c))

pub returns-clause-least : goal.returns-clause-least
returns-clause-least c =
    subst (λ all. LeastLines c.args.width all (length c.if-is_some.lines)) c.atoms-atoms.ensures.atoms
    (LeastLines-from c.args.width c.atoms-atoms.result.now c.if-is_some.lines (all_fit c) (shows c))
