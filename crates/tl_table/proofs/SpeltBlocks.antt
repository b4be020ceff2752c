-- The paragraphs of a table that a sound tree becomes are paragraphs, whether their words are broken or not.
use Rattle.std.proofs.Common.{◌≡◌, ℕ, Option, Some, None, List, [], ◌∷◌, sym, subst}
use Rattle.std.specs.List.{AllByRecursion}
use Rattle.tl_base.specs.declared.breaking.Breaking.{Breaking}
use Rattle.tl_base.specs.declared.breaking.Breaking.TheVariants.{Words, Wider}
use Rattle.tl_text.specs.declared.paragraph.Atom.{Atom}
use Rattle.tl_text.specs.Paragraph.{IsParagraph}
use Rattle.tl_text.proofs.PartLemmas.{broken_paragraph}
use Rattle.tl_tree.specs.Outline.{block_outline, cell_outline, outline}
use Rattle.tl_tree.specs.Sound.{AreSound}
use Rattle.tl_tree.specs.declared.node.Block.{Block, out-Block}
use Rattle.tl_tree.specs.declared.node.Block.TheOpen as open_block
use Rattle.tl_tree.specs.declared.node.CellNode.{CellNode, out-CellNode}
use Rattle.tl_tree.specs.declared.node.TableNode.{TableNode, out-TableNode}
use Rattle.tl_table.specs.declared.cell.Content.{Content, out-Content}
use Rattle.tl_table.specs.declared.cell.Content.TheOpen as open_content
use Rattle.tl_table.specs.declared.cell.Table.{Table}
use Rattle.tl_table.specs.declared.cell.TableCell.{TableCell, out-TableCell}
use Rattle.tl_table.specs.Tables.{OpenContent}
use Rattle.tl_table.specs.Formed.{OpenBlock, BecomesContent, BecomeContents, BecomeCells, BecomeCaption, broken}
use Rattle.tl_table.specs.Sound.{IsSpeltBlock}
use Rattle.tl_table.proofs.SoundNodes.{block_outline-out, cell_flow, open_outline, sound_each, table_caption}

pub broken-paragraph : (breaking : Breaking) (atoms : List Atom) → IsParagraph atoms → IsParagraph (broken breaking atoms)
broken-paragraph Words atoms is = is
broken-paragraph (Wider most) atoms is = broken_paragraph most atoms is

module _ (forms : TableNode → Table → Type 0) (breaking : Breaking) where
  spelt-content : (block : OpenBlock) (content : OpenContent) → BecomesContent forms breaking block content →
      AreSound (open_outline block) → IsSpeltBlock content
  spelt-content (open_block.Para atoms) (open_content.Para units) becomes sound =
      subst IsParagraph (sym becomes) (broken-paragraph breaking atoms sound.in_range.0.is_paragraph)
  spelt-content (open_block.Para atoms) (open_content.Table box) becomes sound = absurd becomes
  spelt-content (open_block.Table node) (open_content.Para units) becomes sound = absurd becomes
  spelt-content (open_block.Table node) (open_content.Table box) becomes sound = tt

  spelt-contents : (flow : List Block) (contents : List Content) → BecomeContents forms breaking flow contents →
      AllByRecursion (λ block. AreSound (block_outline block)) flow →
      AllByRecursion (λ content. IsSpeltBlock (out-Content content)) contents
  spelt-contents [] [] become sound = tt
  spelt-contents [] (content ∷ contents) become sound = absurd become
  spelt-contents (block ∷ flow) [] become sound = absurd become
  spelt-contents (block ∷ flow) (content ∷ contents) become sound = (
    spelt-content (out-Block block) (out-Content content) become.0 (subst AreSound (block_outline-out block) sound.0),
    spelt-contents flow contents become.1 sound.1,
  )

  -- each paragraph of a cell is one
  abbrev pub IsSpeltCell : TableCell → Type 0
  IsSpeltCell one = AllByRecursion (λ block. IsSpeltBlock (out-Content block)) (out-TableCell one).blocks

  pub spelt-cells : (nodes : List CellNode) (cells : List TableCell) →
      AllByRecursion (λ node. AreSound (cell_outline node)) nodes →
      BecomeCells forms breaking nodes cells → AllByRecursion IsSpeltCell cells
  spelt-cells nodes [] sound become = tt
  spelt-cells [] (one ∷ cells) sound become = absurd become
  spelt-cells (node ∷ nodes) (one ∷ cells) sound become = (
    spelt-contents (out-CellNode node).flow (out-TableCell one).blocks become.0.blocks
        (sound_each block_outline (out-CellNode node).flow (cell_flow node sound.0)),
    spelt-cells nodes cells sound.1 become.1,
  )

  pub spelt-caption : (node : TableNode) (cols : ℕ) (flow : Option (List Block)) (cells : List TableCell) →
      (out-TableNode node).caption ≡ flow →
      AreSound (outline node) → BecomeCaption forms breaking cols flow cells → AllByRecursion IsSpeltCell cells
  spelt-caption node cols None cells is sound become = subst (AllByRecursion IsSpeltCell) (sym become) tt
  spelt-caption node cols (Some flow) [] is sound become = absurd become
  spelt-caption node cols (Some flow) (one ∷ cells) is sound become = (
    spelt-contents flow (out-TableCell one).blocks become.0.blocks
        (sound_each block_outline flow (table_caption node flow is sound)),
    subst (AllByRecursion IsSpeltCell) (sym become.1) tt,
  )
