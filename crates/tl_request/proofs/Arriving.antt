-- A request among the bytes that come: its line, and what follows it.
use Rattle.std.proofs.Common.{◌∙◌, ◌≡◌, ◌≢◌, ◌<◌, ◌^◌, List, [], ◌∷◌, ◌++◌, ℕ, Option, Some, None, IfSome, sym, ap, ap₂, refl, subst, arith, length}
use Rattle.std.specs.Io.KnownBytes.{Consumes}
use Rattle.std.proofs.lemmas.List.{append_assoc, length-append}
use Rattle.tl_command.specs.declared.command.Command.TheVariants.{Demo}
use Rattle.tl_command.specs.Ask.{Asked, IsAsk}
use Rattle.tl_base.specs.Desk.{Rose}
use Rattle.tl_exchange.specs.declared.taking.TakeError.{TakeError}
use Rattle.tl_exchange.specs.declared.taking.TakeError.TheVariants.{CutOff, Failed, Memory}
use Rattle.tl_exchange.specs.Exchange.{Change}
use Rattle.tl_exchange.specs.Taking.{BeginsWith, IsCause, IsLine}
use Rattle.tl_exchange.proofs.Lines.{line_once, rest_once}
use Rattle.tl_request.specs.Requests.{HasNoRequest, IsHeading, IsNext, Request, is_check, sizes_for, words_in}
use Rattle.tl_request.specs.inner.Headings.{AsksNothing, IsSplitAs}
use Rattle.tl_request.proofs.Headings.{stands_once}

-- a line and its line feed, and what follows them
taken_line : (line rest : List ℕ) → (line ++ 10 ∷ []) ++ rest ≡ line ++ 10 ∷ rest
taken_line line rest = append_assoc line (10 ∷ []) rest

-- bytes with a line are some
some_bytes : (bytes line rest : List ℕ) → bytes ≡ line ++ 10 ∷ rest → bytes ≢ []
some_bytes bytes line rest is = λ none. absurd (omega (arith, ap length is, ap length none, length-append line (10 ∷ rest)))

module _ (line rest : List ℕ) (is : IsLine line) where
  -- a line that asks for nothing begins no request
  none_asked : (bytes : List ℕ) → bytes ≡ line ++ 10 ∷ rest → AsksNothing line → HasNoRequest bytes
  none_asked bytes begins nothing = record {
    some = some_bytes bytes line rest begins;
    none = λ request more next. nothing request.asked (length request.file) (length request.text)
        (subst (λ (own : List ℕ). IsHeading own request.asked (length request.file) (length request.text))
        (line_once next.line line bytes (request.file ++ (request.text ++ more)) rest next.begins
        (record { is = is; begins = begins })) next.heading);
  }

  module _ (command : List (List ℕ)) (names file text : ℕ) (split : IsSplitAs line command names file text) where
    -- what follows the line of a request has its files
    files_follow : (bytes : List ℕ) (request : Request) (more : List ℕ) → bytes ≡ line ++ 10 ∷ rest → IsNext bytes request more →
        (length request.file ≡ file) × ((length request.text ≡ text) × (rest ≡ request.file ++ (request.text ++ more)))
    files_follow bytes request more begins next =
        let here : BeginsWith line bytes rest = record { is = is; begins = begins } in
        let same : next.line ≡ line = line_once next.line line bytes (request.file ++ (request.text ++ more)) rest next.begins here in
        let heading = subst (λ (own : List ℕ). IsHeading own request.asked (length request.file) (length request.text)) same
        next.heading in
        let once = stands_once line command names file text request.asked (length request.file) (length request.text) split heading in (
          sym once.2,
          (
            sym once.3,
            sym (rest_once next.line line bytes (request.file ++ (request.text ++ more)) rest next.begins here),
          ),
        )

    -- too few bytes follow for the file
    file_cut : (bytes : List ℕ) → bytes ≡ line ++ 10 ∷ rest → length rest < file → HasNoRequest bytes
    file_cut bytes begins few = record {
      some = some_bytes bytes line rest begins;
      none = λ request more next. let follow = files_follow bytes request more begins next in
          absurd (omega (arith, few, follow.0, ap length follow.1.1, length-append request.file (request.text ++ more)));
    }

    -- too few bytes follow for the certificate
    text_cut : (bytes first last : List ℕ) → bytes ≡ line ++ 10 ∷ rest → rest ≡ first ++ last → length first ≡ file →
        length last < text → HasNoRequest bytes
    text_cut bytes first last begins parts long few = record {
      some = some_bytes bytes line rest begins;
      none = λ request more next. let follow = files_follow bytes request more begins next in
          absurd (omega (
            arith,
            few,
            long,
            follow.0,
            follow.1.0,
            ap length follow.1.1,
            ap length parts,
            length-append first last,
            length-append request.file (request.text ++ more),
            length-append request.text more,
          ));
    }

    -- the request that is taken
    next_is : (bytes first second last : List ℕ) (asked : Asked) → bytes ≡ line ++ 10 ∷ rest → rest ≡ first ++ (second ++ last) →
        length first ≡ file → length second ≡ text → IsAsk command asked → asked.command ≢ Demo →
        length asked.names ≡ names → IsNext bytes (record { asked = asked; file = first; text = second }) last
    next_is bytes first second last asked begins parts long wide asks reads named = record {
      line = line;
      begins = record { is = is; begins = begins ∙ ap (λ more. line ++ 10 ∷ more) parts };
      heading = record {
        utf8 = split.utf8;
        words = split.words;
        spelled = split.split.spelled ∙ ap₂ (λ n m. split.words ++ sizes_for (is_check (words_in line)) n m) (sym long) (sym wide);
        reads = reads;
        unnamed = named ∙ split.named;
        asks = subst (λ (all : List (List ℕ)). IsAsk all asked) split.so asks;
        file_small = subst (λ n. n < 2 ^ 32) (sym long) split.split.file_small;
        text_small = subst (λ n. n < 2 ^ 32) (sym wide) split.split.text_small;
        alone = λ other. wide ∙ split.split.alone other;
      };
    }

-- ---- as far as the bytes that come are known

-- a line was taken that asks for nothing
pub nothing_asked : (old new : Option (List ℕ)) (line : List ℕ) → IsLine line → Consumes old new (line ++ 10 ∷ []) →
    AsksNothing line → IfSome old HasNoRequest
nothing_asked None new line is taken nothing = tt
nothing_asked (Some bytes) None line is taken nothing = elim taken [ ]
nothing_asked (Some bytes) (Some rest) line is taken nothing =
    none_asked line rest is bytes (taken ∙ taken_line line rest) nothing

module _ (line : List ℕ) (is : IsLine line) (command : List (List ℕ)) (names file text : ℕ) (split : IsSplitAs line command names file text)
  where
    -- and after too few bytes for the file
    pub file_is_cut : (old middle : Option (List ℕ)) → Consumes old middle (line ++ 10 ∷ []) →
        IfSome middle (λ came. length came < file) → IfSome old HasNoRequest
    file_is_cut None middle taken few = tt
    file_is_cut (Some bytes) None taken few = elim taken [ ]
    file_is_cut (Some bytes) (Some rest) taken few =
        file_cut line rest is command names file text split bytes (taken ∙ taken_line line rest) few

    -- or too few for the certificate
    pub text_is_cut : (old middle new : Option (List ℕ)) (first : List ℕ) → Consumes old middle (line ++ 10 ∷ []) →
        Consumes middle new first → length first ≡ file → IfSome new (λ came. length came < text) → IfSome old HasNoRequest
    text_is_cut None middle new first taken after long few = tt
    text_is_cut (Some bytes) None new first taken after long few = elim taken [ ]
    text_is_cut (Some bytes) (Some rest) None first taken after long few = elim after [ ]
    text_is_cut (Some bytes) (Some rest) (Some last) first taken after long few =
        text_cut line rest is command names file text split bytes first last (taken ∙ taken_line line rest) after long few

    -- or all of a request
    pub request_is_taken : (old middle new end : Option (List ℕ)) (first second : List ℕ) (asked : Asked) →
        Consumes old middle (line ++ 10 ∷ []) → Consumes middle new first → Consumes new end second → length first ≡ file →
        length second ≡ text → IsAsk command asked → asked.command ≢ Demo → length asked.names ≡ names → IfSome old (λ came. (rest : List ℕ) × (end ≡ Some rest)
        × IsNext came (record { asked = asked; file = first; text = second }) rest)
    request_is_taken None middle new end first second asked taken after last long wide asks reads named = tt
    request_is_taken (Some bytes) None new end first second asked taken after last long wide asks reads named = elim taken [ ]
    request_is_taken (Some bytes) (Some rest) None end first second asked taken after last long wide asks reads named = elim after [ ]
    request_is_taken (Some bytes) (Some rest) (Some more) None first second asked taken after last long wide asks reads named = elim last [ ]
    request_is_taken (Some bytes) (Some rest) (Some more) (Some end) first second asked taken after last long wide asks reads named = (
      end,
      refl,
      next_is line rest is command names file text split bytes first second end asked (taken ∙ taken_line line rest)
          (after ∙ ap (λ it. first ++ it) last) long wide asks reads named,
    )

-- what is the cause of a part is the cause of the whole, if no call before it failed
pub cause_by : (Few Cut : List ℕ → Type 0) (whole part : Change) (error : TakeError) →
    (IfSome part.came Few → IfSome whole.came Cut) → part.read_faults ≡ whole.read_faults →
    part.read_faults_after ≡ whole.read_faults_after → IsCause Few part error → IsCause Cut whole error
cause_by Few Cut whole part CutOff cut before after cause = cut cause
cause_by Few Cut whole part Failed cut before after cause =
    subst (λ n. Rose n whole.read_faults_after) before (subst (λ n. Rose part.read_faults n) after cause)
cause_by Few Cut whole part Memory cut before after cause = tt
