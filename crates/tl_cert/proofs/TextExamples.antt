-- The texts of small certificates, written out. Each stands as it is read, a line for a line.
use Rattle.std.proofs.Common.{◌≡◌, ℕ, List, [], ◌∷◌, refl}
use Rattle.std.specs.Prelude.{Some, None, codes}
use Rattle.std.specs.List.{concat}
use Rattle.tl_base.specs.declared.style.Style.{Style}
use Rattle.tl_base.specs.declared.style.Style.TheVariants.{Plain, Compact, Frame, Grid, Box, Rule, Apart}
use Rattle.tl_cert.specs.declared.log.Side.TheVariants.{Most, Least}
use Rattle.tl_cert.specs.declared.log.Nogood.TheVariants as nogoods
use Rattle.tl_cert.specs.declared.log.End.{End}
use Rattle.tl_cert.specs.declared.log.End.TheVariants as ends
use Rattle.tl_cert.specs.declared.log.LogLine.{LogLine}
use Rattle.tl_cert.specs.declared.section.Section.{Section}
use Rattle.tl_cert.specs.declared.certificate.Certificate.{Certificate}
use Rattle.tl_cert.specs.declared.certificate.Claim.TheVariants.{Lowest, Bounded, Narrow}
use Rattle.tl_cert.specs.Pieces.{numeral}
use Rattle.tl_cert.specs.Text.{cert_text}

-- a log line with a nogood of zone 0 that fires nothing
abbrev whole_line : End → LogLine
whole_line end = record { nogood = nogoods.Zone 0; fires = []; end = end }

-- a section that needed no cut
abbrev uncut : (table width height lower : ℕ) → List ℕ → End → Section
uncut table width height lower widths end = record {
  table = table;
  width = width;
  height = height;
  lower = lower;
  widths = widths;
  trace = [];
  log = whole_line end ∷ [];
}

-- two columns of widths 3 and 5, of height 2
lowest_of_two_columns : cert_text
    (record {
      width = 12;
      style = Plain;
      budget = 6;
      claim = Lowest 2;
      chains = [];
      sections =
          uncut 0 12 2 2 (3 ∷ 5 ∷ []) ends.Chain ∷ [];
    })
    ≡ concat (
    codes "tablelayout 1 12 plain 6\n" ∷
    codes "lowest 2\n" ∷
    codes "section 0 12 2 2 0 1\n" ∷
    codes "widths 3 5\n" ∷
    codes "z0 chain\n" ∷
    codes "end\n" ∷ [])
unfolding numeral
lowest_of_two_columns = refl

-- one column between them in place of two
compact_of_two_columns : cert_text
    (record {
      width = 9;
      style = Compact;
      budget = 6;
      claim = Lowest 2;
      chains = [];
      sections =
          uncut 0 9 2 2 (3 ∷ 5 ∷ []) ends.Chain ∷ [];
    })
    ≡ concat (
    codes "tablelayout 1 9 compact 6\n" ∷
    codes "lowest 2\n" ∷
    codes "section 0 9 2 2 0 1\n" ∷
    codes "widths 3 5\n" ∷
    codes "z0 chain\n" ∷
    codes "end\n" ∷ [])
unfolding numeral
compact_of_two_columns = refl

bounded_of_two_columns : cert_text
    (record {
      width = 12;
      style = Plain;
      budget = 0;
      claim = Bounded 3 2;
      chains = [];
      sections =
          uncut 0 12 3 2 (3 ∷ 2 ∷ []) ends.Chain ∷ [];
    })
    ≡ concat (
    codes "tablelayout 1 12 plain 0\n" ∷
    codes "bounded 3 2\n" ∷
    codes "section 0 12 3 2 0 1\n" ∷
    codes "widths 3 2\n" ∷
    codes "z0 chain\n" ∷
    codes "end\n" ∷ [])
unfolding numeral
bounded_of_two_columns = refl

-- a page too narrow for two columns, by the chain of both cells
narrow_by_two_cells : cert_text (record {
  width = 11;
  style = Plain;
  budget = 5000;
  claim = Narrow 12;
  sections = [];
  chains = record { table = 0; entries = record { cell = 0; inner = None } ∷ record { cell = 1; inner = None } ∷ [] } ∷ [];
})
    ≡ concat (
    codes "tablelayout 1 11 plain 5000\n" ∷
    codes "narrow 12\n" ∷
    codes "chain 0 0 1\n" ∷
    codes "end\n" ∷ [])
unfolding numeral
narrow_by_two_cells = refl

-- the chain of a table in a cell, and then that table's own
narrow_by_a_nested_table : cert_text (record {
  width = 6;
  style = Plain;
  budget = 5000;
  claim = Narrow 7;
  sections = [];
  chains = record { table = 0; entries = record { cell = 0; inner = Some 1 } ∷ [] }
      ∷ record { table = 1; entries = record { cell = 0; inner = None } ∷ record { cell = 1; inner = None } ∷ [] } ∷ [];
})
    ≡ concat (
    codes "tablelayout 1 6 plain 5000\n" ∷
    codes "narrow 7\n" ∷
    codes "chain 0 0:1\n" ∷
    codes "chain 1 0 1\n" ∷
    codes "end\n" ∷ [])
unfolding numeral
narrow_by_a_nested_table = refl

-- a nested table at two widths, and then the table round it
lowest_of_a_nested_table : cert_text (record {
  width = 12;
  style = Plain;
  budget = 5000;
  claim = Lowest 2;
  chains = [];
  sections = uncut 1 12 2 2 (3 ∷ 5 ∷ []) ends.Chain ∷ uncut 1 9 3 3 (3 ∷ 2 ∷ []) ends.Chain ∷ uncut 0 12 2 2 (10 ∷ [])
      ends.Chain ∷ [];
})
    ≡ concat (
    codes "tablelayout 1 12 plain 5000\n" ∷
    codes "lowest 2\n" ∷
    codes "section 1 12 2 2 0 1\n" ∷
    codes "widths 3 5\n" ∷
    codes "z0 chain\n" ∷
    codes "section 1 9 3 3 0 1\n" ∷
    codes "widths 3 2\n" ∷
    codes "z0 chain\n" ∷
    codes "section 0 12 2 2 0 1\n" ∷
    codes "widths 10\n" ∷
    codes "z0 chain\n" ∷
    codes "end\n" ∷ [])
unfolding numeral
lowest_of_a_nested_table = refl

-- Three cuts of four columns, two learned bounds, and a last line that fires both.
lowest_by_three_cuts : cert_text (record {
  width = 25;
  style = Plain;
  budget = 3;
  claim = Lowest 4;
  chains = [];
  sections = record {
    table = 0;
    width = 25;
    height = 4;
    lower = 4;
    widths = 1 ∷ 1 ∷ 4 ∷ 4 ∷ [];
    trace = record { zone = 0; span = 0; class = 0 } ∷ record { zone = 1; span = 1; class = 0 } ∷ record {
      zone = 3;
      span =
          2;
      class = 0;
    } ∷ [];
    log = record { nogood = nogoods.Bounds (record { span = 2; side = Most; width = 8 } ∷ []); fires = []; end = ends.Chain }
        ∷ record { nogood = nogoods.Bounds (record { span = 2; side = Least; width = 9 } ∷ []); fires = []; end = ends.Chain }
        ∷ record { nogood = nogoods.Zone 0; fires = 0 ∷ 1 ∷ []; end = ends.Fired } ∷ [];
  } ∷ [];
})
    ≡ concat (
    codes "tablelayout 1 25 plain 3\n" ∷
    codes "lowest 4\n" ∷
    codes "section 0 25 4 4 3 3\n" ∷
    codes "widths 1 1 4 4\n" ∷
    codes "cut 0 0 0\n" ∷
    codes "cut 1 1 0\n" ∷
    codes "cut 3 2 0\n" ∷
    codes "2-8 chain\n" ∷
    codes "2+9 chain\n" ∷
    codes "z0 @0 @1 fired\n" ∷
    codes "end\n" ∷ [])
unfolding numeral
lowest_by_three_cuts = refl

-- a line that ends by `area`: the second version of the text
lowest_by_area : cert_text (record {
  width = 7;
  style = Plain;
  budget = 0;
  claim = Lowest 2;
  chains = [];
  sections =
      uncut 0 7 2 2 (1 ∷ 1 ∷ []) ends.Area ∷ [];
})
    ≡ concat (
    codes "tablelayout 2 7 plain 0\n" ∷
    codes "lowest 2\n" ∷
    codes "section 0 7 2 2 0 1\n" ∷
    codes "widths 1 1\n" ∷
    codes "z0 area\n" ∷
    codes "end\n" ∷ [])
unfolding numeral
lowest_by_area = refl

-- a table without columns, in frame style: no width, two bounds of one span, and an end by `cycle`
bounds_of_one_span : cert_text (record {
  width = 1;
  style = Frame;
  budget = 0;
  claim = Lowest 0;
  chains = [];
  sections = record {
    table = 0;
    width = 1;
    height = 0;
    lower = 0;
    widths = [];
    trace = [];
    log = record {
      nogood = nogoods.Bounds (record { span = 0; side = Most; width = 3 } ∷ record { span = 0; side = Least; width = 4 } ∷ []);
      fires = [];
      end = ends.Cycle;
    } ∷ [];
  } ∷ [];
})
    ≡ concat (
    codes "tablelayout 1 1 frame 0\n" ∷
    codes "lowest 0\n" ∷
    codes "section 0 1 0 0 0 1\n" ∷
    codes "widths\n" ∷
    codes "0-3 0+4 cycle\n" ∷
    codes "end\n" ∷ [])
unfolding numeral
bounds_of_one_span = refl

-- a page that is too narrow for two columns with an edge at each side, in each style that draws the head apart
abbrev edged : Style → Certificate
edged style = record {
  width = 10;
  style = style;
  budget = 0;
  claim = Narrow 11;
  sections = [];
  chains = record { table = 0; entries = record { cell = 0; inner = None } ∷ record { cell = 1; inner = None } ∷ [] } ∷ [];
}

narrow_in_grid : cert_text (edged Grid)
    ≡ concat (
    codes "tablelayout 1 10 grid 0\n" ∷
    codes "narrow 11\n" ∷
    codes "chain 0 0 1\n" ∷
    codes "end\n" ∷ [])
unfolding numeral
narrow_in_grid = refl

narrow_in_box : cert_text (edged Box)
    ≡ concat (
    codes "tablelayout 1 10 box 0\n" ∷
    codes "narrow 11\n" ∷
    codes "chain 0 0 1\n" ∷
    codes "end\n" ∷ [])
unfolding numeral
narrow_in_box = refl

narrow_with_rule : cert_text (edged Rule)
    ≡ concat (
    codes "tablelayout 1 10 rule 0\n" ∷
    codes "narrow 11\n" ∷
    codes "chain 0 0 1\n" ∷
    codes "end\n" ∷ [])
unfolding numeral
narrow_with_rule = refl

narrow_apart : cert_text (edged Apart)
    ≡ concat (
    codes "tablelayout 1 10 apart 0\n" ∷
    codes "narrow 11\n" ∷
    codes "chain 0 0 1\n" ∷
    codes "end\n" ∷ [])
unfolding numeral
narrow_apart = refl
