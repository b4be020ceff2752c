use Rattle.std.proofs.Common.{◌≡◌, ◌-◌, ℕ, List, [], ◌∷◌, ◌++◌, length, sym, ap, ◌∙◌, arith, inr, append_assoc, subst}
use Rattle.std.specs.Str.{chars}
use Rattle.std.proofs.lemmas.List.{append-nil}
use Rattle.tl_base.specs.Text.{byte_count}
use Rattle.tl_base.proofs.Texts.{byte_count-chars}
use Rattle.tl_token.specs.Spelling.{part, place_of_rest, Leads, here, tokens_of, characters, without_mark, SpellsNoTokens}
use Rattle.tl_token.specs.inner.Reader.{unread}
use Rattle.tl_token.specs.inner.Found.{piece_of, fault_of}
use Rattle.tl_token.specs.inner.Output.{resumed}
use Rattle.tl_token.specs.declared.token.TokenError.{TokenError}
use Rattle.tl_token.proofs.Endings.{leads_more}
use Rattle.tl_token.proofs.Sizes.{piece_le}
use Rattle.tl_token.proofs.SpellingLemmas.{mark_passed, mark_le, stands_there, fault_there, refused}
use Rattle.tl_token.proofs.file.read.Goals as goal

pub overflow_sub-first : goal.overflow_sub-first
overflow_sub-first c =
    let text = c.args.text.now in
    let passed : characters text ≡ unread c.eat.new.self =
    ap without_mark (sym c.new-reader.ensures) ∙ mark_passed (unread c.new-reader.result) (unread c.eat.new.self)
    c.eat.result c.eat.ensures in
    omega (arith, c.len.ensures, ap byte_count passed, mark_le (chars text), byte_count-chars text c.utf8.text)

pub loop-c-init : goal.loop-c-init
loop-c-init c =
    let text = c.args.text.now in
    let size = length text in
    let passed : characters text ≡ unread c.eat.new.self =
    ap without_mark (sym c.new-reader.ensures) ∙ mark_passed (unread c.new-reader.result) (unread c.eat.new.self)
    c.eat.result c.eat.ensures in
    let P : List ℕ → Type 0 = λ x. Leads size (characters text) [] x in (
      [],
      subst P passed here,
      (λ later. sym (c.new-output.ensures later)),
      ap (λ n. size - n) c.len.ensures,
      omega (arith, ap byte_count passed, mark_le (chars text), byte_count-chars text c.utf8.text),
    )

pub returns-in-Err-clause-err : goal.returns-in-Err-clause-err
returns-in-Err-clause-err c =
    let text = c.args.text.now in
    let (parts, leads, resumes, place, within) = c.loop-c.invariant in
    let fault = fault_there c.in-Some.c (unread c.loop-c.reader) (unread c.next.new.self) (fault_of c.in-Err.fault)
    c.in-Some.ensures c.in-Err.ensures in
    let P : TokenError → Type 0 = λ e. SpellsNoTokens text e in
    inr (subst P (sym c.at.ensures) (refused text c.in-Err.fault c.loop-c.first
    (c.utf8.text, parts, unread c.loop-c.reader, leads, fault, place)))

pub overflow_sub-past : goal.overflow_sub-past
overflow_sub-past c =
    let (parts, leads, resumes, place, within) = c.loop-c.invariant in
    let there = stands_there c.in-Some.c (unread c.loop-c.reader) (unread c.next.new.self) (unread c.piece.new.self)
    (piece_of c.in-Ok.piece) c.in-Some.ensures c.in-Ok.ensures in
    let less = (piece_le (unread c.loop-c.reader) (piece_of c.in-Ok.piece) (unread c.piece.new.self) there).1 in
    omega (arith, c.len-in-Some.ensures, less, within)

pub loop-c-smaller : goal.loop-c-smaller
loop-c-smaller c =
    let there = stands_there c.in-Some.c (unread c.loop-c.reader) (unread c.next.new.self) (unread c.piece.new.self)
    (piece_of c.in-Ok.piece) c.in-Some.ensures c.in-Ok.ensures in
    (piece_le (unread c.loop-c.reader) (piece_of c.in-Ok.piece) (unread c.piece.new.self) there).1

pub loop-c-preserved : goal.loop-c-preserved
loop-c-preserved c =
    let text = c.args.text.now in
    let size = length text in
    let (parts, leads, resumes, place, within) = c.loop-c.invariant in
    let mid = unread c.loop-c.reader in
    let rest = unread c.piece.new.self in
    let piece = piece_of c.in-Ok.piece in
    let there = stands_there c.in-Some.c mid (unread c.next.new.self) rest piece c.in-Some.ensures c.in-Ok.ensures in
    let less = (piece_le mid piece rest there).1 in
    let past : size - c.len-in-Some.result ≡ place_of_rest size rest = ap (λ n. size - n) c.len-in-Some.ensures in
    let same : part piece c.loop-c.first (size - c.len-in-Some.result)
    ≡ part piece (place_of_rest size mid) (place_of_rest size rest) =
    λ i. part piece (place i) (past i) in (
      parts ++ part piece (place_of_rest size mid) (place_of_rest size rest) ∷ [],
      leads_more size (characters text) mid rest parts piece leads there,
      (λ later. ap tokens_of (append_assoc parts (part piece (place_of_rest size mid) (place_of_rest size rest) ∷ []) later)
          ∙ resumes (part piece (place_of_rest size mid) (place_of_rest size rest) ∷ later)
          ∙ ap (λ x. resumed c.loop-c.output (x ∷ later)) (sym same) ∙ sym (c.in_ok-add.ensures later)),
      past,
      omega (arith, less, within),
    )

pub returns-clause-ok : goal.returns-clause-ok
returns-clause-ok c =
    let text = c.args.text.now in
    let (parts, leads, resumes, place, within) = c.loop-c.invariant in
    let P : List ℕ → Type 0 = λ x. Leads (length text) (characters text) parts x in (
      c.utf8.text,
      parts,
      subst P c.in_default.ensures.0 leads,
      c.in_ok-finish.ensures ∙ sym (resumes []) ∙ ap tokens_of (append-nil parts),
    )
