use Rattle.std.proofs.lemmas.Bool.{false≢true}
use Rattle.std.proofs.Common.{◌≡◌, ◌∙◌, ◌<◌, ℕ, Bool, false, List, [], ◌∷◌, IsTrue, length, map, refl, sym, subst, arith}
use Rattle.std.specs.Str.{chars}
use Rattle.tl_base.proofs.Texts.{byte_count-chars}
use Rattle.tl_text.specs.declared.paragraph.Atom.TheVariants.{Word}
use Rattle.tl_text.specs.Paragraph.{IsParagraph}
use Rattle.tl_text.proofs.WordParagraphs.{words_are_paragraph}
use Rattle.tl_columns.proofs.cells.blocks.Goals as goal

some_word : (words : List (List ℕ)) (empty : Bool) → (words ≡ [] → IsTrue empty) → empty ≡ false → 0 < length words
some_word [] empty is never = absurd (false≢true (sym never ∙ is refl))
some_word (word ∷ words) empty is never = omega arith

pub paragraph-requires : goal.paragraph-requires
paragraph-requires c =
    let text = chars c.args.text.now in
    let some = some_word c.in_ok-words.words c.is_empty.result c.is_empty.ensures.1 c.if-is_empty.false in
    subst (λ (words : List (List ℕ)). IsParagraph (map Word words)) (sym c.in_ok-words.ensures)
    (words_are_paragraph text (omega (arith, byte_count-chars c.args.text.now c.utf8.text, c.requires))
    (subst (λ (words : List (List ℕ)). 0 < length words) c.in_ok-words.ensures some))
