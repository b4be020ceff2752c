use Rattle.std.proofs.Common.{◌≡◌, ◌<◌, [], ◌∷◌, ◌++◌, length, refl, sym, ap, ◌∙◌, arith, string_bytes}
use Rattle.std.proofs.lemmas.Bool.Decides.{nat_tests}
use Rattle.std.specs.Str.{chars}
use Rattle.std.proofs.lemmas.Str.{chars-nil, IsUtf8-string_bytes}
use Rattle.std.proofs.lemmas.List.{append-nil}
use Rattle.tl_token.proofs.Saturating.{chars_none}
use Rattle.tl_text.specs.declared.paragraph.Atom.TheVariants.{Word}
use Rattle.tl_tree.proofs.Lines.{whole_push, whole_text, open_text, open_none}
use Rattle.tl_tree.proofs.flow.Line.end_word.Goals as goal

pub invariant_of-self : goal.invariant_of-self
invariant_of-self c =
    let bytes = string_bytes c.args.self.now.word in
    let counted = c.args.self.now.word.bytes.ok.0 in
    let some : 0 < length bytes = grind (arith, nat_tests) in
    let same : c.from_string.result ≡ chars bytes = c.from_string.ensures ∙ ap (λ w. chars (string_bytes w))
    c.replace-word.ensures.value in
    let whole = whole_text bytes (IsUtf8-string_bytes c.args.self.now.word) some c.args.self.now.solid in
    record {
      whole = whole_push c.put.result c.args.self.now.atoms c.put.new.list (Word c.from_string.result)
          c.put.ensures.ok c.put.ensures.err
          (rw same whole) c.args.self.now.whole;
      solid = rw (c.replace-word.ensures.after, c.new.ensures.bytes, chars-nil) refl;
    }

pub returns-in_ok-put-clause-word : goal.returns-in_ok-put-clause-word
returns-in_ok-put-clause-word c = ap (λ w. chars (string_bytes w))
    c.replace-word.ensures.after ∙ ap chars c.new.ensures.bytes ∙ chars-nil

pub returns-in_ok-put-clause-atoms : goal.returns-in_ok-put-clause-atoms
returns-in_ok-put-clause-atoms c =
    let bytes = string_bytes c.args.self.now.word in
    let counted = c.args.self.now.word.bytes.ok.0 in
    let some : 0 < length bytes = grind (arith, nat_tests) in
    let same : c.from_string.result ≡ chars bytes = c.from_string.ensures ∙ ap (λ w. chars (string_bytes w))
    c.replace-word.ensures.value in
    c.in_ok-put.ensures.ok ∙ ap (λ x. c.args.self.now.atoms ++ Word x ∷ []) same
    ∙ ap (λ x. c.args.self.now.atoms ++ x) (sym (open_text bytes (IsUtf8-string_bytes c.args.self.now.word) some))

pub returns-else-not-is_empty-clause-atoms : goal.returns-else-not-is_empty-clause-atoms
returns-else-not-is_empty-clause-atoms c =
    let bytes = string_bytes c.args.self.now.word in
    let counted = c.args.self.now.word.bytes.ok.0 in
    let none : length bytes ≡ 0 = grind (arith, nat_tests) in
    sym (append-nil c.args.self.now.atoms) ∙ ap (λ x. c.args.self.now.atoms ++ x) (sym (open_none bytes none))

pub returns-else-not-is_empty-clause-word : goal.returns-else-not-is_empty-clause-word
returns-else-not-is_empty-clause-word c =
    let bytes = string_bytes c.args.self.now.word in
    let counted = c.args.self.now.word.bytes.ok.0 in
    chars_none bytes (grind (arith, nat_tests))
