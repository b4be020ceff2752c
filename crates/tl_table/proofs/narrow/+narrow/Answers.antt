use Rattle.std.proofs.Common.{◌≡◌, ◌∙◌, ◌<◌, ◌∷◌, ℕ, MatchOption, get_or, length, refl, sym, ap, subst, rules, arith}
use Rattle.std.specs.List.{AllByRecursion}
use Rattle.std.proofs.lemmas.List.{take_all}
use Rattle.std.proofs.lemmas.Option.{slice_get_read}
use Rattle.std.proofs.lemmas.Result.{IfOk-weaker}
use Rattle.tl_base.specs.declared.chain.Chain.{Chain}
use Rattle.tl_table.specs.inner.Links.{AreOthers, IsLinkedBy}
use Rattle.tl_table.specs.declared.cell.Content.{out-Content, the_lemmas}
use Rattle.tl_table.specs.declared.cell.Content.TheVariants.{outs-Table}
use Rattle.tl_table.specs.declared.cell.Table.{out-Table}
use Rattle.tl_table.specs.declared.cell.TableCell.{out-TableCell}
use Rattle.tl_table.specs.Chains.{IsHeaviestChain}
use Rattle.tl_table.specs.Least.{IsLeastWidth}
use Rattle.tl_table.specs.inner.LeastRooms.{AreDemandsOf}
use Rattle.tl_table.specs.Sound.{IsSoundBlock, IsSoundCell}
use Rattle.tl_table.proofs.LinkLemmas.{boxed_sound, linked_by_box, others_more, unlinked_by, linked_in, chain_made, as_many}
use Rattle.tl_table.proofs.LinkLemmas.{number_within, room_at}
use Rattle.tl_table.proofs.LinkLemmas.{links_next, all_links}
use Rattle.tl_table.proofs.OwnWidths.{own_or_inner, own_below, column_of_width}
use Rattle.tl_table.proofs.SoundParts.{sound_cells, sound_blocks, at_item}
use Rattle.tl_table.proofs.narrow.+narrow.Goals as goal

pub link_by-narrow_chain-requires : goal.link_by-narrow_chain-requires
link_by-narrow_chain-requires t c =
    let sound = boxed_sound (out-Content c.args.block.now) c.in-Table.table c.deref-in-Table.result.now
    (ap out-Content c.in-Table.is ∙ outs-Table c.in-Table.table) c.deref-in-Table.ensures c.requires.sound in
    let same : c.in_ok-least-in-Table.least ≡ c.args.width = omega arith in
    let least : IsLeastWidth c.deref-in-Table.result.now c.args.style c.in_ok-least-in-Table.least =
    subst (λ table. IsLeastWidth table c.args.style c.in_ok-least-in-Table.least) (c.deref.ensures ∙ sym c.deref-in-Table.ensures)
    c.in_ok-least-in-Table.ensures.least in (
      search (rules, the_lemmas),
      (
        sound,
        column_of_width c.deref-in-Table.result.now c.args.style c.in_ok-least-in-Table.least least
            (omega (arith, c.requires.wide)),
      ),
    )

pub link_by-returns-in_ok-chains-in-Table : goal.link_by-returns-in_ok-chains-in-Table
link_by-returns-in_ok-chains-in-Table t c =
    let same : c.in_ok-least-in-Table.least ≡ c.args.width = omega arith in
    linked_by_box c.args.style (out-Content c.args.block.now)
    c.in-Table.table c.deref-in-Table.result.now c.deref-in-Table-2.result.now
    c.in_ok-chains-in-Table.chains c.in_ok-least-in-Table.least c.args.width c.in_ok-chains-in-Table.ensures.0
    (ap out-Content c.in-Table.is ∙ outs-Table c.in-Table.table) c.deref-in-Table.ensures c.deref-in-Table-2.ensures
    (subst (λ table. IsLeastWidth table c.args.style c.in_ok-least-in-Table.least)
    c.deref.ensures c.in_ok-least-in-Table.ensures.least) same
    c.in_ok-chains-in-Table.ensures.1 c.in_ok-chains-in-Table.ensures.2

pub link_of-link_by-requires : goal.link_of-link_by-requires
link_of-link_by-requires t c = (
  search (rules, the_lemmas),
  (
    at_item (λ block. IsSoundBlock (out-Content block)) (out-TableCell c.args.cell.now).blocks c.loop-block.block-index
        c.block-item.result
        (sound_blocks c.args.cell.now c.requires.sound)
        (subst (λ items. c.loop-block.block-index < length items) c.as_slice-block-items.ensures c.loop-block-test.true)
        (subst (λ items. c.block-item.result ≡ get_or items c.loop-block.block-index c.block-item.result)
        c.as_slice-block-items.ensures
        c.block-item.is),
    omega arith,
  ),
)

pub link_of-loop-block-preserved : goal.link_of-loop-block-preserved
link_of-loop-block-preserved t c =
    others_more c.args.style c.args.width c.as_slice-block-items.result.now c.loop-block.block-index c.block-item.result
    c.loop-block-test.true
    c.block-item.is c.loop-block.invariant
    (subst (λ found. MatchOption found (AreOthers c.args.style c.args.width c.block-item.result)
    (IsLinkedBy c.args.style (out-Content c.block-item.result) c.args.width)) c.in-None.is c.in_ok-linked.ensures)

pub link_of-returns-then-own_width-width : goal.link_of-returns-then-own_width-width
link_of-returns-then-own_width-width t c =
    unlinked_by c.args.style (out-TableCell c.args.cell.now)
    c.args.width c.unlinked.result c.unlinked.ensures.inner c.unlinked.ensures.chains
    (omega (
      arith,
      own_below c.args.style (out-TableCell c.args.cell.now) c.args.width c.requires.least,
      c.own_width.ensures,
      c.if-own_width-width.true,
    ))

pub link_of-returns-in-Some : goal.link_of-returns-in-Some
link_of-returns-in-Some t c =
    let blocks = (out-TableCell c.args.cell.now).blocks in
    linked_in c.args.style (out-TableCell c.args.cell.now) c.args.width c.loop-block.block-index c.block-item.result
    c.in-Some.linked
    (slice_get_read blocks (length blocks) c.loop-block.block-index c.block-item.result refl
    (subst (λ items. c.loop-block.block-index < length items) c.as_slice-block-items.ensures c.loop-block-test.true)
    (subst (λ items. c.block-item.result ≡ get_or items c.loop-block.block-index c.block-item.result)
    c.as_slice-block-items.ensures c.block-item.is))
    (subst (λ found. MatchOption found (AreOthers c.args.style c.args.width c.block-item.result)
    (IsLinkedBy c.args.style (out-Content c.block-item.result) c.args.width)) c.in-Some.is c.in_ok-linked.ensures)

pub link_of-returns : goal.link_of-returns
link_of-returns t c =
    unlinked_by c.args.style (out-TableCell c.args.cell.now)
    c.args.width c.unlinked-2.result c.unlinked-2.ensures.inner c.unlinked-2.ensures.chains
    (own_or_inner c.args.style (out-TableCell c.args.cell.now) c.args.width c.requires.least
    (subst (AllByRecursion (AreOthers c.args.style c.args.width))
    (take_all c.loop-block.block-index c.as_slice-block-items.result.now c.loop-block-test.false ∙ c.as_slice-block-items.ensures)
    c.loop-block.invariant))

pub narrow_chain-bounds-demands-at : goal.narrow_chain-bounds-demands-at
narrow_chain-bounds-demands-at t c =
    number_within c.args.style (out-Table c.args.table.now).cols c.as_slice-demands.result.now c.in_ok-heaviest.heaviest.numbers
    c.as_slice-number-items.result.now c.in_ok-heaviest.heaviest.weight c.loop-number.number-index c.in_ok-heaviest.ensures.chain
    c.as_slice-number-items.ensures c.loop-number-test.true

pub narrow_chain-bounds-cells-at : goal.narrow_chain-bounds-cells-at
narrow_chain-bounds-cells-at t c =
    let at = number_within c.args.style (out-Table c.args.table.now).cols c.as_slice-demands.result.now
    c.in_ok-heaviest.heaviest.numbers
    c.as_slice-number-items.result.now c.in_ok-heaviest.heaviest.weight c.loop-number.number-index c.in_ok-heaviest.ensures.chain
    c.as_slice-number-items.ensures c.loop-number-test.true in
    omega (
      arith,
      at,
      as_many c.args.style (out-Table c.args.table.now).cells c.in_ok-demands.demands.items c.in_ok-demands.ensures.each,
      ap length
          c.as_slice-demands.ensures.value,
      ap length c.as_slice-cells.ensures,
    )

pub narrow_chain-link_of-requires : goal.narrow_chain-link_of-requires
narrow_chain-link_of-requires t c =
    let k = get_or c.as_slice-number-items.result.now c.loop-number.number-index 0 in
    let cells = (out-Table c.args.table.now).cells in
    let at = number_within c.args.style (out-Table c.args.table.now).cols c.as_slice-demands.result.now
    c.in_ok-heaviest.heaviest.numbers
    c.as_slice-number-items.result.now c.in_ok-heaviest.heaviest.weight c.loop-number.number-index c.in_ok-heaviest.ensures.chain
    c.as_slice-number-items.ensures c.loop-number-test.true in
    let each : AreDemandsOf c.args.style cells c.as_slice-demands.result.now =
    subst (AreDemandsOf c.args.style cells) (sym c.as_slice-demands.ensures.value) c.in_ok-demands.ensures.each in
    let is : c.index-cells-at.result ≡ get_or cells k c.index-cells-at.result =
    subst (λ items. c.index-cells-at.result ≡ get_or items k c.index-cells-at.result)
    c.as_slice-cells.ensures c.index-cells-at.is in
    let within : k < length cells = omega (arith, at, as_many c.args.style cells c.as_slice-demands.result.now each) in (
      search (rules, the_lemmas),
      (
        at_item (λ cell. IsSoundCell (out-TableCell cell)) cells k c.index-cells-at.result
            (sound_cells c.args.table.now c.requires.sound) within is,
        (room_at c.args.style cells c.as_slice-demands.result.now k c.index-cells-at.result
            (record { left = 0; right = 0; width = 0 }) each at
            is).room,
      ),
    )

pub narrow_chain-loop-number-preserved : goal.narrow_chain-loop-number-preserved
narrow_chain-loop-number-preserved t c =
    let k = get_or c.as_slice-number-items.result.now c.loop-number.number-index 0 in
    let cells = (out-Table c.args.table.now).cells in
    let at = number_within c.args.style (out-Table c.args.table.now).cols c.as_slice-demands.result.now
    c.in_ok-heaviest.heaviest.numbers
    c.as_slice-number-items.result.now c.in_ok-heaviest.heaviest.weight c.loop-number.number-index c.in_ok-heaviest.ensures.chain
    c.as_slice-number-items.ensures c.loop-number-test.true in
    let each : AreDemandsOf c.args.style cells c.as_slice-demands.result.now =
    subst (AreDemandsOf c.args.style cells) (sym c.as_slice-demands.ensures.value) c.in_ok-demands.ensures.each in
    links_next c.args.style (out-Table c.args.table.now) c.as_slice-demands.result.now c.as_slice-number-items.result.now
    c.loop-number.number-index
    c.loop-number.entries c.push.new.self c.loop-number.inner c.in_ok-inner.inner c.index-cells-at.result
    (record { left = 0; right = 0; width = 0 }) c.in_ok-linked.linked
    each c.loop-number-test.true at
    (subst (λ items. c.index-cells-at.result ≡ get_or items k c.index-cells-at.result)
    c.as_slice-cells.ensures c.index-cells-at.is)
    c.in_ok-linked.ensures c.loop-number.invariant c.in_ok-push.ensures.ok c.in_ok-inner.ensures

pub narrow_chain-returns : goal.narrow_chain-returns
narrow_chain-returns t c =
    let numbers = c.in_ok-heaviest.heaviest.numbers in
    let weight = c.in_ok-heaviest.heaviest.weight in
    let first : Chain = record { table = (out-Table c.args.table.now).number; entries = c.loop-number.entries } in
    IfOk-weaker c.followed.result (λ chains. chains ≡ first ∷ c.loop-number.inner)
    (λ chains. (w : ℕ) × IsLeastWidth c.args.table.now c.args.style w × IsHeaviestChain c.args.table.now c.args.style chains w)
    (λ chains made. (
      weight,
      c.in_ok-heaviest.ensures.least,
      chain_made c.args.style c.args.table.now c.as_slice-demands.result.now numbers weight c.loop-number.entries
          c.loop-number.inner chains
          c.requires.sound c.in_ok-heaviest.ensures.chain
          (all_links c.args.style (out-Table c.args.table.now)
          c.as_slice-demands.result.now numbers c.as_slice-number-items.result.now
          c.loop-number.number-index c.loop-number.entries c.loop-number.inner c.as_slice-number-items.ensures
          c.loop-number.auto.number-index-end c.loop-number-test.false c.loop-number.invariant)
          (take_all (length numbers) numbers (omega arith)) made c.in_ok-heaviest.ensures.least,
    )) c.followed.ensures
