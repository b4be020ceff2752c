use Rattle.std.proofs.Common.{Bor, List, [], ℕ, ◌∙◌, sym, refl, inl, inr, Some}
use Rattle.csv.specs.Reading.{Reached, default_config, strip_bom}
use Rattle.csv.specs.Records.{fields_of}
use Rattle.csv.specs.declared.parser.State.TheVariants as st
use Rattle.csv.proofs.ReadFacts.{rows-end, rows-more}
use Rattle.tl_columns.proofs.CsvLists.{all_records}
use Rattle.tl_columns.proofs.records.records.Goals as goal

pub loop-row-init : goal.loop-row-init
unfolding Reached
loop-row-init c =
    let made = c.from_reader-reader.ensures in
    let start = c.into_iter-row-iterator.ensures.into_iter_gives ∙ refl in
    let rdr = c.into_byte_records-row-items.ensures.rdr in
    let left = c.into_byte_records-row-items.ensures.left in
    rw (start, rdr, c.new-list.ensures) (
      rw (c.flexible.ensures, c.has_headers.ensures) at made.trim ∙ c.new.ensures.trim,
      inr (inr (rw (c.flexible.ensures, c.has_headers.ensures) at made.has_headers, made.headers)),
      left,
      rw (c.flexible.ensures, c.has_headers.ensures) at made.config ∙ c.new.ensures.config,
      strip_bom c.args.bytes.now,
      made.source,
      (sym made.state, refl),
    )

pub loop-row-preserved : goal.loop-row-preserved
loop-row-preserved c =
    let (trims, ready, left, config, rest, source, reached) = c.loop-row.invariant in
    let step = rw (c.in-Some.is, c.in-Ok.is) at ((c.next.ensures.steps left trims).0 ready) in
    let fields = fields_of c.in-Ok.row in
    let (now, source_now, more) = rows-more (λ (s : Bor (List ℕ)). Some s.now) c.loop-row.row-iterator.rdr c.next.new.self.rdr
    fields default_config st.StartRecord (strip_bom c.args.bytes.now) rest c.loop-row.list config source reached step.0 in
    (step.0.3 ∙ trims, inl step.1, step.2, step.0.2 ∙ config, now, source_now, rw c.in_ok-push-in-Ok.ensures.ok more)

pub returns : goal.returns
returns c =
    let (trims, ready, left, config, rest, source, reached) = c.loop-row.invariant in
    let step = rw c.in-None.is at ((c.next.ensures.steps left trims).0 ready) in
    all_records c.args.bytes.now c.loop-row.list (
      c.loop-row.row-iterator.rdr.state,
      rest,
      reached,
      rows-end (λ (s : Bor (List ℕ)). Some s.now) c.loop-row.row-iterator.rdr c.next.new.self.rdr [] default_config rest config
          source step,
    )
