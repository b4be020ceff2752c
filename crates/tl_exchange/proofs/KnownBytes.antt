-- Bytes that are taken, or sent, one part after the other.
use Rattle.std.proofs.Common.{◌∙◌, ◌≡◌, ◌≤◌, ◌+◌, ℕ, List, ◌++◌, Option, Some, None, sym, ap, refl, length, take, drop, arith}
use Rattle.std.specs.Io.KnownBytes.{Appends, Consumes, Keeps}
use Rattle.std.proofs.lemmas.List.{append_assoc, length-append, length-take-le, take-append-drop, take-append-le, take_all}
use Rattle.std.proofs.lemmas.Slice.{take-put_mid}
use Rattle.std.proofs.Math.Seq.{take-add, take-append-add}
use borrow.Rule.Slice.PartMut.{post_of, put_mid}

-- what is taken in two parts is taken
pub consumes_both : (first second third : Option (List ℕ)) (one other : List ℕ) → Consumes first second one →
    Consumes second third other → Consumes first third (one ++ other)
consumes_both None second third one other before after = tt
consumes_both (Some first) None third one other before after = elim before [ ]
consumes_both (Some first) (Some second) None one other before after = elim after [ ]
consumes_both (Some first) (Some second) (Some third) one other before after =
    before ∙ ap (λ bytes. one ++ bytes) after ∙ sym (append_assoc one other third)

-- what is sent in two parts is sent
pub appends_both : (first second third : Option (List ℕ)) (one other : List ℕ) → Appends first second one →
    Appends second third other → Appends first third (one ++ other)
appends_both None second third one other before after = tt
appends_both (Some first) None third one other before after = elim before [ ]
appends_both (Some first) (Some second) None one other before after = elim after [ ]
appends_both (Some first) (Some second) (Some third) one other before after =
    after ∙ ap (λ bytes. bytes ++ other) before ∙ append_assoc first one other

-- a buffer that is filled from a place on holds what it held, and then what is read
pub filled_part : (filled count k : ℕ) (buffer part : List ℕ) → filled ≤ length buffer → count ≤ length part →
    take (filled + count) (put_mid filled k buffer part) ≡ take filled buffer ++ take count part
filled_part filled count k buffer part within few =
    let whole = put_mid filled k buffer part in
    let upto = filled + length part in
    let held : take upto whole ≡ take filled buffer ++ part = take-put_mid filled k buffer part upto refl within in
    let long : length (take upto whole) ≡ upto = ap length held ∙ length-append (take filled buffer) part
    ∙ ap (λ n. n + length part) (length-take-le filled buffer within) in
    sym (ap (take (filled + count)) (take-append-drop upto whole))
    ∙ take-append-le (filled + count) (take upto whole) (drop upto whole) (omega (arith, few, long))
    ∙ ap (take (filled + count)) held
    ∙ ap (λ n. take (n + count) (take filled buffer ++ part)) (sym (length-take-le filled buffer within))
    ∙ take-append-add (take filled buffer) part count

-- a buffer that is filled from a place on is as long as what is read there goes
pub filled_within : (filled count k : ℕ) (buffer part : List ℕ) → filled ≤ length buffer → count ≤ length part →
    filled + count ≤ length (put_mid filled k buffer part)
filled_within filled count k buffer part within few =
    let after = post_of filled k buffer in
    omega (
      arith,
      few,
      length-append (take filled buffer) (part ++ after),
      length-append part after,
      length-take-le filled buffer within,
    )

-- nothing is taken after what was taken
pub consumes_kept : (first second third : Option (List ℕ)) (one : List ℕ) → Consumes first second one →
    Keeps second third → Consumes first third one
consumes_kept None second third one before kept = tt
consumes_kept (Some first) None third one before kept = elim before [ ]
consumes_kept (Some first) (Some second) None one before kept = elim kept [ ]
consumes_kept (Some first) (Some second) (Some third) one before kept = before ∙ ap (λ bytes. one ++ bytes) (sym kept)

-- nothing is sent after what was sent
pub appends_kept : (first second third : Option (List ℕ)) (one : List ℕ) → Appends first second one →
    Keeps second third → Appends first third one
appends_kept None second third one before kept = tt
appends_kept (Some first) None third one before kept = elim before [ ]
appends_kept (Some first) (Some second) None one before kept = elim kept [ ]
appends_kept (Some first) (Some second) (Some third) one before kept = kept ∙ before

-- the first bytes from a place on come after those before it
pub sent_part : (written count rest : ℕ) (bytes : List ℕ) → length (drop written bytes) ≤ rest →
    take (written + count) bytes ≡ take written bytes ++ take count (take rest (drop written bytes))
sent_part written count rest bytes all = take-add written count bytes
    ∙ ap (λ more. take written bytes ++ take count more) (sym (take_all rest (drop written bytes) all))
