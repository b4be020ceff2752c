-- Appending the texts of pieces, one after the other.
use Rattle.std.proofs.Common.{◌≡◌, ℕ, ◌+◌, ◌/◌, ◌%◌, ◌≤◌, ◌<◌, List, [], ◌∷◌, ◌++◌, length, get_or, take, sym, ap, ◌∙◌}
use Rattle.std.proofs.Common.{append_assoc, arith}
use Rattle.std.specs.List.{flat_map}
use Rattle.std.proofs.lemmas.List.{get_or_default}
use Rattle.std.specs.Prelude.{codes}
use Rattle.tl_base.specs.declared.chain.Chain.{Chain}
use Rattle.tl_cert.specs.declared.log.LogLine.{LogLine}
use Rattle.tl_cert.specs.declared.section.Section.{Section}
use Rattle.tl_cert.specs.declared.certificate.Certificate.{Certificate}
use Rattle.tl_base.specs.declared.limits.TheConstants.{MAX_PAGE_WIDTH, MAX_BUDGET}
use Rattle.tl_base.proofs.Taken.{joined_more}
use Rattle.tl_cert.specs.Pieces.{TextPiece, spell, numeral, word, character, field}
use Rattle.tl_cert.specs.Text.{space, line_feed, spaced, chain_pieces, entry_pieces, cut_pieces, nogood_pieces, fire_pieces}
use Rattle.tl_cert.specs.Text.{end_word, line_pieces, section_head, section_pieces, claim_pieces, version_word, style_field}
use Rattle.tl_cert.specs.Text.{has_area, cert_text}
use Rattle.tl_cert.specs.inner.Head.{head_text}
use Rattle.tl_cert.proofs.reading.Numerals.{numeral_small, numeral_step}
use Rattle.tl_cert.proofs.reading.Spellings.{spell-append}
use Rattle.tl_cert.proofs.reading.Words.{spell-word}

-- one item more
pub written_more : {X : Type 0} (f : X → List TextPiece) (xs : List X) (i : ℕ) (x : X) (old out new : List ℕ) → i < length xs →
    x ≡ get_or xs i x
    → out ≡ old ++ spell (flat_map f (take i xs))
    → new ≡ out ++ spell (f x) → new ≡ old ++ spell (flat_map f (take (i + 1) xs))
written_more f xs i x old out new there is so_far more =
    let whole = joined_more f xs i x x there is in
    more ∙ ap (λ (t : List ℕ). t ++ spell (f x)) so_far ∙ append_assoc old (spell (flat_map f (take i xs))) (spell (f x))
    ∙ ap (λ (t : List ℕ). old ++ t) (sym (ap spell whole ∙ spell-append (flat_map f (take i xs)) (f x)))

-- one item more is written after those before it, where it is read at any default
pub written_at : {X : Type 0} (f : X → List TextPiece) (xs : List X) (i : ℕ) (d : X) (old out new : List ℕ) → i < length xs
    → out ≡ old ++ spell (flat_map f (take i xs))
    → new ≡ out ++ spell (f (get_or xs i d)) → new ≡ old ++ spell (flat_map f (take (i + 1) xs))
written_at f xs i d old out new there so_far more =
    written_more f xs i (get_or xs i d) old out new there (get_or_default xs i d (get_or xs i d) there) so_far more

-- appended twice, and more often
pub twice : (a b c s t : List ℕ) → b ≡ a ++ s → c ≡ b ++ t → c ≡ a ++ (s ++ t)
twice a b c s t one two = two ∙ ap (λ (x : List ℕ). x ++ t) one ∙ append_assoc a s t

-- the last digit after the others
pub digit_alone : (n : ℕ) → n < 10 → numeral n ≡ (48 + n % 10) ∷ []
digit_alone n small = numeral_small n small ∙ ap (λ (d : ℕ). (48 + d) ∷ []) (omega arith)

pub digit_last : (n : ℕ) → 10 ≤ n → numeral n ≡ numeral (n / 10) ++ ((48 + n % 10) ∷ [])
digit_last n large = numeral_step n large

pub ruleset digits = (digit_alone, digit_last, append_assoc)

pub ruleset appending = (append_assoc, spell-append, spell-word)

-- ---- the texts of parts that are joined

pub chain_spelled : (chain : Chain) → spell (chain_pieces chain)
    ≡ codes "chain " ++ (numeral chain.table ++ (spell (flat_map (λ entry. character space ∷ entry_pieces entry)
    chain.entries) ++ (10 ∷ [])))
chain_spelled chain =
    ap (λ (t : List ℕ). codes "chain " ++ (numeral chain.table ++ t))
    (spell-append (flat_map (λ entry. character space ∷ entry_pieces entry) chain.entries)
    (word (codes "\n")))

pub line_spelled : (line : LogLine) → spell (line_pieces line) ≡ spell (nogood_pieces line.nogood)
    ++ (spell (flat_map fire_pieces line.fires) ++ ((32 ∷ []) ++ end_word line.end))
line_spelled line =
    spell-append (nogood_pieces line.nogood) (flat_map fire_pieces line.fires ++ (character space ∷ word (end_word line.end)))
    ∙ ap (λ (t : List ℕ). spell (nogood_pieces line.nogood) ++ t)
    (spell-append (flat_map fire_pieces line.fires) (character space ∷ word (end_word line.end))
    ∙ ap (λ (t : List ℕ). spell (flat_map fire_pieces line.fires) ++ (32 ∷ t)) (spell-word (end_word line.end)))

pub section_spelled : (s : Section) → spell (section_pieces s)
    ≡ spell (section_head s) ++ (codes "widths" ++ (spell (flat_map (spaced MAX_PAGE_WIDTH) s.widths)
    ++ ((10 ∷ []) ++ (spell (flat_map cut_pieces s.trace) ++ spell (flat_map line_pieces s.log)))))
section_spelled s =
    let log : List TextPiece = flat_map line_pieces s.log in
    let trace : List TextPiece = flat_map cut_pieces s.trace in
    let widths : List TextPiece = flat_map (spaced MAX_PAGE_WIDTH) s.widths in
    spell-append (section_head s) (word (codes "widths") ++ (widths ++ (word (codes "\n") ++ (trace ++ log))))
    ∙ ap (λ (t : List ℕ). spell (section_head s) ++ (codes "widths" ++ t))
    (spell-append widths (word (codes "\n") ++ (trace ++ log)) ∙ ap (λ (t : List ℕ). spell widths ++ (10 ∷ t))
    (spell-append trace log))

pub cert_spelled : (c : Certificate) → cert_text c
    ≡ head_text c ++ (spell (claim_pieces c.claim) ++ (spell (flat_map chain_pieces c.chains) ++
    (spell (flat_map section_pieces c.sections) ++ codes "end\n")))
cert_spelled c =
    let version : List ℕ = version_word (has_area c.sections) in
    let style : List ℕ = style_field c.style in
    let rest : List TextPiece =
    claim_pieces c.claim ++ (flat_map chain_pieces c.chains ++
    (flat_map section_pieces c.sections ++ word (codes "end\n"))) in
    let later : List TextPiece = word style ++ (field 0 MAX_BUDGET c.budget line_feed ++ rest) in
    let rest_is : spell rest ≡ spell (claim_pieces c.claim) ++ (spell (flat_map chain_pieces c.chains)
    ++ (spell (flat_map section_pieces c.sections) ++ codes "end\n")) =
    spell-append (claim_pieces c.claim) (flat_map chain_pieces c.chains ++
    (flat_map section_pieces c.sections ++ word (codes "end\n")))
    ∙ ap (λ (t : List ℕ). spell (claim_pieces c.claim) ++ t)
    (spell-append (flat_map chain_pieces c.chains) (flat_map section_pieces c.sections ++ word (codes "end\n"))
    ∙ ap (λ (t : List ℕ). spell (flat_map chain_pieces c.chains) ++ t)
    (spell-append (flat_map section_pieces c.sections) (word (codes "end\n")))) in
    let later_is : spell later ≡ style ++ (numeral c.budget ++ (10 ∷ spell rest)) =
    spell-append (word style) (field 0 MAX_BUDGET c.budget line_feed ++ rest) ∙ ap
    (λ (t : List ℕ). t ++ (numeral c.budget ++ (10 ∷ spell rest)))
    (spell-word style) in
    let all_is : cert_text c ≡ codes "tablelayout " ++ (version ++ (numeral c.width ++ (32 ∷ spell later))) =
    ap (λ (t : List ℕ). codes "tablelayout " ++ t)
    (spell-append (word version) (field 1 MAX_PAGE_WIDTH c.width space ++ later)
    ∙ ap (λ (t : List ℕ). t ++ (numeral c.width ++ (32 ∷ spell later))) (spell-word version)) in
    all_is ∙ ap (λ (t : List ℕ). codes "tablelayout " ++ (version ++ (numeral c.width ++ (32 ∷ t))))
    (later_is ∙ ap (λ (t : List ℕ). style ++ (numeral c.budget ++ (10 ∷ t))) rest_is)
    ∙ sym (grouped version (numeral c.width) style (numeral c.budget) (spell (claim_pieces c.claim)
    ++ (spell (flat_map chain_pieces c.chains) ++ (spell (flat_map section_pieces c.sections) ++ codes "end\n"))))
  where
    grouped : (v w s b r : List ℕ) → (codes "tablelayout " ++ (v ++ ((w ++ (32 ∷ [])) ++ (s ++ (b ++ (10 ∷ [])))))) ++ r
        ≡ codes "tablelayout " ++ (v ++ (w ++ (32 ∷ (s ++ (b ++ (10 ∷ r))))))
    grouped v w s b r = simp append_assoc
