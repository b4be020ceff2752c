-- The words of the line, taken apart.
use Rattle.std.proofs.Common.{◌∙◌, ap, List, ℕ, map, string_bytes, subst}
use Rattle.std.specs.List.{All}
use Rattle.std.specs.Str.{IsUtf8}
use Rattle.tl_request.specs.inner.Headings.{IsSplit}
use Rattle.tl_request.proofs.Words.{texts_are_utf8}
use Rattle.tl_request.proofs.heading.read_heading.Goals as goal

pub returns-clause-some : goal.returns-clause-some
returns-clause-some c =
    let words = c.in-Some.words in
    let is = rw c.in-Some.is at c.in_ok-words.ensures.some in
    let split = c.in-Some-split_sizes.ensures.some in
    record {
      utf8 = subst (All IsUtf8) is (texts_are_utf8 words.items);
      words = map string_bytes c.in-Some-split_sizes.own.now;
      split = subst (λ (all : List (List ℕ)). IsSplit all (map string_bytes c.in-Some-split_sizes.own.now)
          c.in-Some-split_sizes.file c.in-Some-split_sizes.text)
          (ap (map string_bytes) c.as_slice.ensures.value ∙ is) split;
      so = c.in_ok-words-2.ensures;
      named = c.count_of_names-names.ensures;
    }
