-- What the paragraph that is open keeps. No public clause cites this file.
use Rattle.std.specs.Prelude.{Bool, true, false, not, ◌&&◌}
use Rattle.std.specs.List.{list_any}
use Rattle.std.specs.Char.{is_ascii_whitespace}
use Rattle.tl_text.specs.Words.{has_character}
use Rattle.tl_text.specs.declared.paragraph.Atom.{Atom}
use Rattle.tl_text.specs.declared.paragraph.Atom.TheVariants.{Word, Glue, Break}

-- a whole word, or a break
abbrev pub is_whole : Atom → Bool
is_whole (Word text) = has_character text && not (list_any is_ascii_whitespace text)
is_whole (Glue text) = false
is_whole Break = true
