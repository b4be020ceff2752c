-- Where no line begins bytes.
use Rattle.std.proofs.Common.{◌∙◌, ◌≡◌, ◌≢◌, ◌<◌, ℕ, List, [], ◌∷◌, ◌++◌, Option, Some, None, IfSome, sym, ap, arith, drop, get_or, inl, inr, length, take}
use Rattle.std.specs.List.{All}
use Rattle.std.specs.Io.KnownBytes.{Consumes, IsAtEnd}
use Rattle.std.proofs.lemmas.List.{append-nil, append_cancel_left, get_or_append_left, length-append}
use Rattle.std.proofs.Math.Seq.{get_or-append_seam, take-append_seam}
use Rattle.std.proofs.lemmas.Bool.{cases_lt}
use Rattle.tl_exchange.specs.declared.line.TheConstants.{MAX_LINE_BYTES}
use Rattle.tl_exchange.specs.Taking.{BeginsWith, HasNoLine}

-- bytes that begin with bytes without a line feed begin with no line that is shorter than these
none_shorter : (taken more bytes line rest : List ℕ) → bytes ≡ taken ++ more → All (λ byte. byte ≢ 10) taken →
    bytes ≡ line ++ 10 ∷ rest → length line < length taken → ⊥
none_shorter taken more bytes line rest is unbroken begins shorter =
    unbroken (length line) 0 shorter
    (sym (get_or_append_left taken more 0 (length line) shorter) ∙ ap (λ all. get_or all (length line) 0) (sym is ∙ begins)
    ∙ get_or-append_seam line 10 rest 0)

-- bytes of which some were taken are some
some_of : (taken more bytes : List ℕ) → bytes ≡ taken ++ more → 0 < length taken → bytes ≢ []
some_of taken more bytes is some = λ none. absurd (omega (arith, some, ap length is, ap length none, length-append taken more))

-- more bytes than a line may have were taken, and no line feed among them
pub too_long : (old new : Option (List ℕ)) (taken : List ℕ) → Consumes old new taken →
    All (λ byte. byte ≢ 10) taken → MAX_LINE_BYTES < length taken → IfSome old HasNoLine
too_long None new taken consumed unbroken long = tt
too_long (Some bytes) None taken consumed unbroken long = elim consumed [ ]
too_long (Some bytes) (Some more) taken consumed unbroken long = record {
  some = some_of taken more bytes consumed (omega (arith, long));
  none = λ line rest begins.
      none_shorter taken more bytes line rest consumed unbroken begins.begins (omega (arith, long, begins.is.short));
}

-- all bytes were taken, some of them, and no line feed was among them
pub no_feed : (old middle new : Option (List ℕ)) (taken : List ℕ) → Consumes old middle taken → Consumes middle new [] →
    IsAtEnd new → All (λ byte. byte ≢ 10) taken → 0 < length taken → IfSome old HasNoLine
no_feed None middle new taken before after end unbroken some = tt
no_feed (Some bytes) None new taken before after end unbroken some = elim before [ ]
no_feed (Some bytes) (Some more) None taken before after end unbroken some = elim after [ ]
no_feed (Some bytes) (Some more) (Some last) taken before after end unbroken some = record {
  some = some_of taken more bytes before some;
  none = λ line rest begins.
      let all : bytes ≡ taken = before ∙ ap (λ it. taken ++ it) (after ∙ end) ∙ append-nil taken in
      none_shorter taken more bytes line rest before unbroken begins.begins
      (omega (arith, sym (ap length all) ∙ ap length begins.begins ∙ length-append line (10 ∷ rest)));
}

-- bytes begin with one line alone
pub line_once : (one other bytes rest more : List ℕ) → BeginsWith one bytes rest → BeginsWith other bytes more → one ≡ other
line_once one other bytes rest more first second = elim (cases_lt (length one) (length other)) [
  | inl less ↦ elim (none_shorter other (10 ∷ more) bytes one rest second.begins second.is.unbroken first.begins less) [ ]
  | inr least ↦ elim (cases_lt (length other) (length one)) [
    | inl less ↦ elim (none_shorter one (10 ∷ rest) bytes other more first.begins first.is.unbroken second.begins less) [ ]
    | inr most ↦ sym (take-append_seam one (10 ∷ rest)) ∙ ap (take (length one)) (sym first.begins ∙ second.begins)
        ∙ ap (λ n. take n (other ++ 10 ∷ more)) (omega (arith, least, most)) ∙ take-append_seam other (10 ∷ more)
  ]
]

-- and what follows it is one
pub rest_once : (one other bytes rest more : List ℕ) → BeginsWith one bytes rest → BeginsWith other bytes more → rest ≡ more
rest_once one other bytes rest more first second =
    ap (drop 1) (append_cancel_left one (10 ∷ rest) (10 ∷ more) (sym first.begins ∙ second.begins
    ∙ ap (λ line. line ++ 10 ∷ more) (sym (line_once one other bytes rest more first second))))
