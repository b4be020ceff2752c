-- Cut by cut, up to the whole.
use Rattle.std.proofs.Common.{◌≡◌, List, refl, sym, ap, ◌∙◌, subst, arith}
use Rattle.std.proofs.lemmas.List.Elements.{All-nil}
use Rattle.tl_problem.specs.declared.zone.Range.{Range}
use Rattle.tl_problem.specs.Zones.{InZone}
use Rattle.tl_problem.proofs.ZoneLaws.{whole-all}
use Rattle.tl_cert.specs.Nogoods.{Breaks, Meets}
use Rattle.tl_cert.specs.Traces.{zone_of}
use Rattle.tl_cert.proofs.TraceLaws.{zones-are}
use Rattle.tl_cert.proofs.ZoneBounds.{zone-meets, zone-from_meets}
use Rattle.tl_cert.proofs.CutParts.{no_cut}
use Rattle.tl_check.proofs.ZoneWalks.{parent-there, zone-first}
use Rattle.tl_check.proofs.PartBounds.{cut-span, cut-next, part-inside, part-meets, part-from}
use Rattle.tl_check.proofs.nogoods.keep_zone.Goals as goal

pub part_bound-requires-clause-span : goal.part_bound-requires-clause-span
part_bound-requires-clause-span c = cut-span c.args.problem.now c.requires.page.keeps.sound c.args.trace.now c.requires.trace
    c.cuts.zone c.cuts-test.true
    c.cuts.invariant.there no_cut

pub part_bound-requires-clause-class : goal.part_bound-requires-clause-class
part_bound-requires-clause-class c = cut-next c.args.problem.now c.requires.page.keeps.sound c.args.trace.now c.requires.trace
    c.cuts.zone c.cuts-test.true
    c.cuts.invariant.there no_cut

pub keep_met-requires-clause-span : goal.keep_met-requires-clause-span
keep_met-requires-clause-span c =
    let inside = cut-span c.args.problem.now c.requires.page.keeps.sound c.args.trace.now c.requires.trace c.cuts.zone
    c.cuts-test.true
    c.cuts.invariant.there no_cut in
    omega (arith, inside, c.part_bound.ensures.span)

pub keep_met-requires-clause-keeps : goal.keep_met-requires-clause-keeps
keep_met-requires-clause-keeps c = c.cuts.invariant.leaves.keeps

pub cuts-init : goal.cuts-init
cuts-init c = record {
  there = c.requires.zone;
  leaves = record {
    keeps = c.requires.page.keeps;
    to = λ widths left inside. inside;
    from = λ widths inside. (
      c.requires.page.from widths
          (record {
            page = inside.page;
            meets = All-nil (Meets c.args.problem.now widths);
            breaks =
                All-nil (Breaks c.args.problem.now widths);
          }),
      inside,
    );
  };
  marks = record { marks = refl; held = refl };
}

pub cuts-preserved : goal.cuts-preserved
cuts-preserved c =
    let p = c.args.problem.now in
    let sound = c.requires.page.keeps.sound in
    let trace = c.args.trace.now in
    let zone = c.cuts.zone in
    let old = c.cuts.invariant.leaves in
    let kept = c.keep_met.ensures in
    record {
      there = parent-there p trace c.requires.trace zone c.cuts-test.true c.cuts.invariant.there no_cut;
      leaves = record {
        keeps = kept.keeps;
        to = λ widths left inside. old.to widths (kept.before widths left)
            (part-from p sound trace c.requires.trace zone c.cuts-test.true c.cuts.invariant.there no_cut c.part_bound.result
            c.part_bound.ensures.bound
            widths inside (kept.fact widths left));
        from = λ widths inside. (
          kept.all widths (old.from widths inside).0
              (part-meets p sound trace c.requires.trace zone c.cuts-test.true c.cuts.invariant.there no_cut c.part_bound.result
              c.part_bound.ensures.bound
              widths (old.from widths inside).1),
          part-inside p sound trace c.requires.trace zone c.cuts-test.true c.cuts.invariant.there no_cut widths
              (old.from widths inside).1,
        );
      };
      marks = record {
        marks = kept.marks ∙ c.cuts.invariant.marks.marks;
        held = kept.held ∙ c.cuts.invariant.marks.held;
      };
    }

pub returns-clause-describes : goal.returns-clause-describes
returns-clause-describes c =
    let p = c.args.problem.now in
    let sound = c.requires.page.keeps.sound in
    let trace = c.args.trace.now in
    let z = c.args.z in
    let is = zones-are p sound trace c.requires.trace z c.requires.zone in
    let leaves = c.cuts.invariant.leaves in
    let first : zone_of p trace c.cuts.zone ≡ zone_of p trace 0 = ap (zone_of p trace) (omega (arith, c.cuts-test.false)) in
    let whole = first ∙ zone-first p trace c.requires.trace in
    record {
      keeps = leaves.keeps;
      to = λ widths left.
          let page = leaves.keeps.page.page widths left in
          let inside = leaves.to widths left (subst (λ (ranges : List Range). InZone p ranges widths) (sym whole)
          (whole-all p sound widths page)) in
          record {
            page = page;
            meets = zone-meets p sound (zone_of p trace z) is widths inside;
            breaks = All-nil (Breaks p widths);
          };
      from = λ widths left. (leaves.from widths (zone-from_meets p sound (zone_of p trace z) is widths left.page left.meets)).0;
    }
