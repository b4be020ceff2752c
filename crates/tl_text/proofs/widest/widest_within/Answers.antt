use Rattle.std.proofs.Common.{◌≡◌, ◌∷◌, ◌++◌, [], max, take, ◌+◌, ap, sym, ◌∙◌, arith}
use Rattle.std.proofs.lemmas.List.{take_all, take_more}
use Rattle.tl_text.specs.inner.Measure.{unit_columns}
use Rattle.tl_text.specs.Paragraph.{unit_width}
use Rattle.tl_text.specs.Widest.{width_up_to, widest_within}
use Rattle.tl_text.proofs.Paragraphs.{columns_of-measure_of}
use Rattle.tl_text.proofs.WidestLemmas.{widest_within-append, up_to-narrow, up_to-wide}
use Rattle.tl_text.proofs.widest.widest_within.Goals.{then-width-most, else-width-most}
use Rattle.tl_text.proofs.widest.widest_within.Goals as goal

pub loop-atom-preserved : goal.loop-atom-preserved
loop-atom-preserved c =
    let atoms = c.atoms-atoms.result.now in
    let n = c.loop-atom.atom-index in
    let unit = c.atom-item.result in
    let width : c.width-width.result ≡ unit_width unit =
    c.width-width.ensures ∙ ap unit_columns c.measured.ensures.measure ∙ columns_of-measure_of unit in
    let more : widest_within c.args.most (take (n + 1) atoms) ≡ max c.loop-atom.widest (width_up_to c.args.most c.width-width.result) =
    ap (widest_within c.args.most) (take_more atoms n unit c.loop-atom-test.true ∙ ap (λ one. take n atoms ++ one ∷ []) (sym c.atom-item.is))
    ∙ omega (arith, widest_within-append c.args.most (take n atoms) (unit ∷ []), c.loop-atom.invariant, ap (width_up_to c.args.most) width) in
    elim c.if-width-most.branch [
      | then-width-most w ↦
          let up_to = up_to-narrow c.args.most c.width-width.result w.if-width-most.true in
          w.widest-is ∙ omega (arith, w.max-widest.ensures, up_to, more)
      | else-width-most w ↦
          let up_to = up_to-wide c.args.most c.width-width.result w.if-width-most.false in
          w.widest-is ∙ omega (arith, up_to, more)
    ]

pub returns : goal.returns
returns c = c.loop-atom.invariant ∙ ap (widest_within c.args.most)
    (take_all c.loop-atom.atom-index c.atoms-atoms.result.now (omega arith) ∙ c.atoms-atoms.ensures.atoms)
