use Rattle.std.proofs.Common.{◌≡◌, true, false, refl, arith, string_bytes}
use Rattle.std.specs.Char.{is_ascii_whitespace}
use Rattle.std.proofs.lemmas.Str.{IsUtf8-string_bytes}
use Rattle.std.proofs.Common.{tests}
use Rattle.std.specs.Prelude.{is_ok}
use Rattle.tl_tree.proofs.Lines.{solid_after, reads_letter, reads_white}
use Rattle.tl_tree.proofs.flow.Line.read_character.Goals as goal

pub invariant_of-self : goal.invariant_of-self
invariant_of-self c =
    let letter : is_ascii_whitespace c.args.c ≡ false = grind (arith, tests) in
    record {
      whole = c.args.self.now.whole;
      solid = solid_after (is_ok c.push.result) (string_bytes c.args.self.now.word) (string_bytes c.push.new.self) c.args.c
          (IsUtf8-string_bytes c.args.self.now.word) (IsUtf8-string_bytes c.push.new.self)
          c.push.ensures.bytes letter c.args.self.now.solid;
    }

pub returns-else-is_ascii_whitespace : goal.returns-else-is_ascii_whitespace
returns-else-is_ascii_whitespace c =
    let letter : is_ascii_whitespace c.args.c ≡ false = grind (arith, tests) in
    reads_letter c.push.result c.args.self.now _ c.args.c refl (IsUtf8-string_bytes c.args.self.now.word)
    (IsUtf8-string_bytes c.push.new.self) c.push.ensures.bytes letter

pub returns-then-is_ascii_whitespace : goal.returns-then-is_ascii_whitespace
returns-then-is_ascii_whitespace c =
    let white : is_ascii_whitespace c.args.c ≡ true = grind (arith, tests) in
    reads_white c.end_word.result c.args.self.now c.end_word.new.self c.args.c c.end_word.ensures.atoms c.end_word.ensures.word
    white
