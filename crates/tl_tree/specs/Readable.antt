-- Which tokens `tree` reads: those that `tokens` gives, of a file within the limit.
use Rattle.std.specs.Prelude.{◌≡◌, ◌<◌, ◌≤◌, ℕ, false, List, length, sum_by}
use Rattle.std.specs.List.{AllByRecursion, list_any}
use Rattle.tl_base.specs.declared.limits.TheConstants.{MAX_FILE_BYTES, MAX_COLSPAN}
use Rattle.tl_base.specs.Text.{byte_count}
use Rattle.tl_token.specs.Characters.{is_control}
use Rattle.tl_token.specs.declared.token.Token.{Token}
use Rattle.tl_tree.specs.Tags.{Kind, text, colgroup_start, col, cell_start, kinds}
use Rattle.tl_tree.specs.Sound.{IsCellInRange}

-- a text has a character, and no control character; a span is in its range
abbrev pub IsReadable : Kind → Type 0
IsReadable (text characters) = (0 < length characters) × (list_any is_control characters ≡ false)
IsReadable (colgroup_start span) = span ≤ MAX_COLSPAN
IsReadable (col span) = span ≤ MAX_COLSPAN
IsReadable (cell_start head spans) = IsCellInRange spans.colspan spans.rowspan spans.least
IsReadable _ = Unit {0}

-- the bytes of a text, and 1 for a tag
abbrev pub kind_size : Kind → ℕ
kind_size (text characters) = byte_count characters
kind_size _ = 1

-- the tokens are readable, and their texts and tags are together no more than a file may have
pub record AreReadable (tokens : List Token) : Type 0 where
  pub readable : AllByRecursion IsReadable (kinds tokens)
  pub size : sum_by kind_size (kinds tokens) ≤ MAX_FILE_BYTES
