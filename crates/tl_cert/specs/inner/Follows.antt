-- No public clause cites this file. What may follow a number, by its place in the text.
use Rattle.std.specs.Prelude.{ℕ, Bool, true, ◌&&◌, ◌||◌, ◌==◌}
use Rattle.tl_cert.specs.declared.follow.Follow.{Follow}
use Rattle.tl_cert.specs.declared.follow.Follow.TheVariants.{Byte, Item, Entry, Sign, Count}
use Rattle.tl_cert.specs.inner.CertReading.{may_follow, is_sign, ends_item, may_count}
use Rattle.tl_cert.specs.Text.{line_feed}

-- whether the number may stand in this place
abbrev pub may_be : Follow → ℕ → Bool
may_be (Byte end) n = true
may_be (Item more) n = true
may_be (Entry more) n = true
may_be (Sign before) n = may_follow before n
may_be (Count areas) n = may_count areas n

-- whether the character may end the number in this place
abbrev pub may_end : Follow → ℕ → ℕ → Bool
may_end (Byte end) n c = c == end
may_end (Item more) n c = ends_item more c
may_end (Entry more) n c = c == 58 || ends_item more c
may_end (Sign before) n c = is_sign before n c
may_end (Count areas) n c = c == line_feed && may_count areas n
