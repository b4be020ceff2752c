-- Reading a whole certificate is exact.
use Rattle.std.proofs.Common.{◌≡◌, ℕ, Bool, true, false, eqb, List, [], ◌++◌, ◌⊎◌, inl, inr, refl, sym, ap, subst, ◌∙◌}
use Rattle.std.specs.Prelude.{codes}
use Rattle.std.specs.List.{flat_map}
use Rattle.tl_base.specs.declared.style.Style.{Style}
use Rattle.tl_base.specs.declared.style.Style.TheVariants.{Plain, Compact, Frame, Grid, Box, Rule, Apart}
use Rattle.tl_base.specs.declared.chain.Chain.{Chain}
use Rattle.tl_cert.specs.declared.section.Section.{Section}
use Rattle.tl_cert.specs.declared.certificate.Claim.{Claim}
use Rattle.tl_cert.specs.declared.certificate.Claim.TheVariants.{Lowest, Bounded, Narrow}
use Rattle.tl_cert.specs.declared.certificate.Certificate.{Certificate}
use Rattle.tl_base.specs.declared.limits.TheConstants.{MAX_PAGE_WIDTH, MAX_BUDGET, MAX_HEIGHT}
use Rattle.tl_cert.specs.Pieces.{TextPiece, field, word, spell}
use Rattle.tl_cert.specs.Text.{space, line_feed, version_word, style_field, claim_pieces, chain_pieces, IsNarrow}
use Rattle.tl_cert.specs.Text.{section_pieces, cert_pieces, has_area, HasChains, HasSections, HasProof, IsShaped}
use Rattle.tl_cert.specs.inner.Areas.{Suits}
use Rattle.tl_cert.specs.inner.CertReading.{version_at, no_lines_at, apart_or_none_at, rule_or_none_at, box_or_none_at}
use Rattle.tl_cert.specs.inner.CertReading.{no_frame_at, style_at, lowest_at, bounded_at, narrow_at}
use Rattle.tl_cert.specs.inner.CertReading.{other_claim_at, claim_at, areas_of, sections_at, proof_at, certificate_at}
use Rattle.tl_cert.specs.inner.reading.Readings.{◌>>=◌, give, begins}
use Rattle.tl_cert.specs.inner.reading.Lists.{Listing, listing}
use Rattle.tl_cert.proofs.reading.Exact.{Exact}
use Rattle.tl_cert.proofs.reading.Words.{IsAny}
use Rattle.tl_cert.proofs.reading.Choice.{Chosen, exact_either}
use Rattle.tl_cert.proofs.text.Fields.{exact_after, exact_field, exact_part_then, exact_only, exact_made, exact_sign}
use Rattle.tl_cert.proofs.text.Sections.{exact_sections}
use Rattle.tl_cert.proofs.text.Chains.{exact_chains}

-- ---- version and style

version_separated : (b : Bool) → (b ≡ true) ⊎ (b ≡ false)
version_separated true = inl refl
version_separated false = inr refl

abbrev version_pieces : Bool → List TextPiece
version_pieces b = word (version_word b)

exact_version : Exact version_at IsAny version_pieces
unfolding version_at
exact_version =
    let chosen : Chosen (λ c. eqb c 50) version_pieces (λ (b : Bool). b ≡ true) (λ (b : Bool). b ≡ false) IsAny = record {
      separated = λ b is. version_separated b;
      first = λ b is. tt;
      other = λ b is. tt;
      yes = λ b t is. ap (λ (a : Bool). begins (λ c. eqb c 50) (spell (version_pieces a) ++ t)) is;
      no = λ b t is. ap (λ (a : Bool). begins (λ c. eqb c 50) (spell (version_pieces a) ++ t)) is;
    } in
    exact_either (exact_sign (codes "2 ") true version_pieces refl) (exact_sign (codes "1 ") false version_pieces refl) chosen

abbrev style_pieces : Style → List TextPiece
style_pieces s = word (style_field s)

-- a style of the two that have no lines
abbrev HasNoLines : Style → Type 0
HasNoLines style = (style ≡ Compact) ⊎ (style ≡ Plain)

abbrev IsApartOrNone : Style → Type 0
IsApartOrNone style = (style ≡ Apart) ⊎ HasNoLines style

-- a style without a frame
abbrev IsOpen : Style → Type 0
IsOpen style = (style ≡ Rule) ⊎ IsApartOrNone style

abbrev IsBoxOrNone : Style → Type 0
IsBoxOrNone style = (style ≡ Box) ⊎ IsOpen style

-- a style other than the frame
abbrev IsNoFrame : Style → Type 0
IsNoFrame style = (style ≡ Grid) ⊎ IsBoxOrNone style

style_separated : (s : Style) → (s ≡ Frame) ⊎ IsNoFrame s
style_separated Frame = inl refl
style_separated Grid = inr (inl refl)
style_separated Box = inr (inr (inl refl))
style_separated Rule = inr (inr (inr (inl refl)))
style_separated Apart = inr (inr (inr (inr (inl refl))))
style_separated Compact = inr (inr (inr (inr (inr (inl refl)))))
style_separated Plain = inr (inr (inr (inr (inr (inr refl)))))

-- a style that is this one begins as this one's word does
style_begins : (test : ℕ → Bool) (one s : Style) (t : List ℕ) → s ≡ one →
    begins test (spell (style_pieces s) ++ t) ≡ begins test (spell (style_pieces one) ++ t)
style_begins test one s t is = ap (λ (a : Style). begins test (spell (style_pieces a) ++ t)) is

exact_no_lines : Exact no_lines_at HasNoLines style_pieces
unfolding no_lines_at
exact_no_lines =
    let chosen : Chosen (λ c. eqb c 99) style_pieces (λ (s : Style). s ≡ Compact) (λ (s : Style). s ≡ Plain) HasNoLines = record {
      separated = λ s is. is;
      first = λ s is. inl is;
      other = λ s is. inr is;
      yes = λ s t is. style_begins (λ c. eqb c 99) Compact s t is;
      no = λ s t is. style_begins (λ c. eqb c 99) Plain s t is;
    } in
    exact_either (exact_sign (codes "compact ") Compact style_pieces refl) (exact_sign (codes "plain ") Plain style_pieces refl)
    chosen

no_apart : (s : Style) (t : List ℕ) → HasNoLines s → begins (λ c. eqb c 97) (spell (style_pieces s) ++ t) ≡ false
no_apart s t (inl is) = style_begins (λ c. eqb c 97) Compact s t is
no_apart s t (inr is) = style_begins (λ c. eqb c 97) Plain s t is

exact_apart_or_none : Exact apart_or_none_at IsApartOrNone style_pieces
unfolding apart_or_none_at
exact_apart_or_none =
    let chosen : Chosen (λ c. eqb c 97) style_pieces (λ (s : Style). s ≡ Apart) HasNoLines IsApartOrNone = record {
      separated = λ s is. is;
      first = λ s is. inl is;
      other = λ s is. inr is;
      yes = λ s t is. style_begins (λ c. eqb c 97) Apart s t is;
      no = no_apart;
    } in
    exact_either (exact_sign (codes "apart ") Apart style_pieces refl) exact_no_lines chosen

no_rule : (s : Style) (t : List ℕ) → IsApartOrNone s → begins (λ c. eqb c 114) (spell (style_pieces s) ++ t) ≡ false
no_rule s t (inl is) = style_begins (λ c. eqb c 114) Apart s t is
no_rule s t (inr (inl is)) = style_begins (λ c. eqb c 114) Compact s t is
no_rule s t (inr (inr is)) = style_begins (λ c. eqb c 114) Plain s t is

exact_rule_or_none : Exact rule_or_none_at IsOpen style_pieces
unfolding rule_or_none_at
exact_rule_or_none =
    let chosen : Chosen (λ c. eqb c 114) style_pieces (λ (s : Style). s ≡ Rule) IsApartOrNone IsOpen = record {
      separated = λ s is. is;
      first = λ s is. inl is;
      other = λ s is. inr is;
      yes = λ s t is. style_begins (λ c. eqb c 114) Rule s t is;
      no = no_rule;
    } in
    exact_either (exact_sign (codes "rule ") Rule style_pieces refl) exact_apart_or_none chosen

no_box : (s : Style) (t : List ℕ) → IsOpen s → begins (λ c. eqb c 98) (spell (style_pieces s) ++ t) ≡ false
no_box s t (inl is) = style_begins (λ c. eqb c 98) Rule s t is
no_box s t (inr (inl is)) = style_begins (λ c. eqb c 98) Apart s t is
no_box s t (inr (inr (inl is))) = style_begins (λ c. eqb c 98) Compact s t is
no_box s t (inr (inr (inr is))) = style_begins (λ c. eqb c 98) Plain s t is

exact_box_or_none : Exact box_or_none_at IsBoxOrNone style_pieces
unfolding box_or_none_at
exact_box_or_none =
    let chosen : Chosen (λ c. eqb c 98) style_pieces (λ (s : Style). s ≡ Box) IsOpen IsBoxOrNone = record {
      separated = λ s is. is;
      first = λ s is. inl is;
      other = λ s is. inr is;
      yes = λ s t is. style_begins (λ c. eqb c 98) Box s t is;
      no = no_box;
    } in
    exact_either (exact_sign (codes "box ") Box style_pieces refl) exact_rule_or_none chosen

no_grid : (s : Style) (t : List ℕ) → IsBoxOrNone s → begins (λ c. eqb c 103) (spell (style_pieces s) ++ t) ≡ false
no_grid s t (inl is) = style_begins (λ c. eqb c 103) Box s t is
no_grid s t (inr (inl is)) = style_begins (λ c. eqb c 103) Rule s t is
no_grid s t (inr (inr (inl is))) = style_begins (λ c. eqb c 103) Apart s t is
no_grid s t (inr (inr (inr (inl is)))) = style_begins (λ c. eqb c 103) Compact s t is
no_grid s t (inr (inr (inr (inr is)))) = style_begins (λ c. eqb c 103) Plain s t is

exact_no_frame : Exact no_frame_at IsNoFrame style_pieces
unfolding no_frame_at
exact_no_frame =
    let chosen : Chosen (λ c. eqb c 103) style_pieces (λ (s : Style). s ≡ Grid) IsBoxOrNone IsNoFrame = record {
      separated = λ s is. is;
      first = λ s is. inl is;
      other = λ s is. inr is;
      yes = λ s t is. style_begins (λ c. eqb c 103) Grid s t is;
      no = no_grid;
    } in
    exact_either (exact_sign (codes "grid ") Grid style_pieces refl) exact_box_or_none chosen

no_frame : (s : Style) (t : List ℕ) → IsNoFrame s → begins (λ c. eqb c 102) (spell (style_pieces s) ++ t) ≡ false
no_frame s t (inl is) = style_begins (λ c. eqb c 102) Grid s t is
no_frame s t (inr (inl is)) = style_begins (λ c. eqb c 102) Box s t is
no_frame s t (inr (inr (inl is))) = style_begins (λ c. eqb c 102) Rule s t is
no_frame s t (inr (inr (inr (inl is)))) = style_begins (λ c. eqb c 102) Apart s t is
no_frame s t (inr (inr (inr (inr (inl is))))) = style_begins (λ c. eqb c 102) Compact s t is
no_frame s t (inr (inr (inr (inr (inr is))))) = style_begins (λ c. eqb c 102) Plain s t is

exact_style : Exact style_at IsAny style_pieces
unfolding style_at
exact_style =
    let chosen : Chosen (λ c. eqb c 102) style_pieces (λ (s : Style). s ≡ Frame) IsNoFrame IsAny = record {
      separated = λ s is. style_separated s;
      first = λ s is. tt;
      other = λ s is. tt;
      yes = λ s t is. style_begins (λ c. eqb c 102) Frame s t is;
      no = no_frame;
    } in
    exact_either (exact_sign (codes "frame ") Frame style_pieces refl) exact_no_frame chosen

-- ---- the claim

abbrev IsLowest : Claim → Type 0
IsLowest (Lowest height) = Unit {0}
IsLowest (Bounded height lower) = ⊥
IsLowest (Narrow least) = ⊥

abbrev IsBounded : Claim → Type 0
IsBounded (Lowest height) = ⊥
IsBounded (Bounded height lower) = Unit {0}
IsBounded (Narrow least) = ⊥

abbrev first_of : Claim → ℕ
first_of (Lowest height) = height
first_of (Bounded height lower) = height
first_of (Narrow least) = least

abbrev second_of : Claim → ℕ
second_of (Lowest height) = 0
second_of (Bounded height lower) = lower
second_of (Narrow least) = 0

abbrev last_field : Claim → List TextPiece
last_field claim = field 0 MAX_HEIGHT (first_of claim) line_feed

lowest_again : (claim : Claim) (n : ℕ) → IsLowest claim → first_of claim ≡ n → claim ≡ Lowest n
lowest_again (Lowest height) n is same = ap (λ (k : ℕ). Lowest k) same
lowest_again (Bounded height lower) n is same = absurd is
lowest_again (Narrow least) n is same = absurd is

lowest_text : (claim : Claim) → IsLowest claim → claim_pieces claim ≡ word (codes "lowest ") ++ last_field claim
lowest_text (Lowest height) is = refl
lowest_text (Bounded height lower) is = absurd is
lowest_text (Narrow least) is = absurd is

exact_lowest : Exact lowest_at IsLowest claim_pieces
exact_lowest =
    exact_after (codes "lowest ") last_field claim_pieces
    (exact_part_then first_of IsLowest last_field (λ n claim. []) (exact_field 0 MAX_HEIGHT line_feed refl)
    (λ n any. exact_only (Lowest n) (λ claim. IsLowest claim × (first_of claim ≡ n)) (tt, refl)
    (λ claim is. lowest_again claim n is.0 is.1))
    (λ claim is. (tt, refl)))
    lowest_text

narrow_again : (claim : Claim) (n : ℕ) → IsNarrow claim → first_of claim ≡ n → claim ≡ Narrow n
narrow_again (Lowest height) n is same = absurd is
narrow_again (Bounded height lower) n is same = absurd is
narrow_again (Narrow least) n is same = ap (λ (k : ℕ). Narrow k) same

narrow_text : (claim : Claim) → IsNarrow claim → claim_pieces claim ≡ word (codes "narrow ") ++ last_field claim
narrow_text (Lowest height) is = absurd is
narrow_text (Bounded height lower) is = absurd is
narrow_text (Narrow least) is = refl

exact_narrow : Exact narrow_at IsNarrow claim_pieces
exact_narrow =
    exact_after (codes "narrow ") last_field claim_pieces
    (exact_part_then first_of IsNarrow last_field (λ n claim. []) (exact_field 0 MAX_HEIGHT line_feed refl)
    (λ n any. exact_only (Narrow n) (λ claim. IsNarrow claim × (first_of claim ≡ n)) (tt, refl)
    (λ claim is. narrow_again claim n is.0 is.1))
    (λ claim is. (tt, refl)))
    narrow_text

abbrev lower_field : Claim → List TextPiece
lower_field claim = field 0 MAX_HEIGHT (second_of claim) line_feed

abbrev both_fields : Claim → List TextPiece
both_fields claim = field 0 MAX_HEIGHT (first_of claim) space ++ lower_field claim

bounded_again : (claim : Claim) (n m : ℕ) → IsBounded claim → first_of claim ≡ n → second_of claim ≡ m → claim ≡ Bounded n m
bounded_again (Lowest height) n m is a b = absurd is
bounded_again (Bounded height lower) n m is a b = ap (λ (k : ℕ). Bounded k lower) a ∙ ap (λ (k : ℕ). Bounded n k) b
bounded_again (Narrow least) n m is a b = absurd is

bounded_text : (claim : Claim) → IsBounded claim → claim_pieces claim ≡ word (codes "bounded ") ++ both_fields claim
bounded_text (Lowest height) is = absurd is
bounded_text (Bounded height lower) is = refl
bounded_text (Narrow least) is = absurd is

exact_bounded : Exact bounded_at IsBounded claim_pieces
exact_bounded =
    exact_after (codes "bounded ") both_fields claim_pieces
    (exact_part_then first_of IsBounded both_fields (λ n claim. lower_field claim) (exact_field 0 MAX_HEIGHT space refl)
    (λ n any. exact_part_then second_of (λ claim. IsBounded claim × (first_of claim ≡ n)) lower_field (λ m claim. [])
    (exact_field 0 MAX_HEIGHT line_feed refl)
    (λ m some. exact_only (Bounded n m) (λ claim. (IsBounded claim × (first_of claim ≡ n)) × (second_of claim ≡ m))
    ((tt, refl), refl)
    (λ claim is. bounded_again claim n m is.0.0 is.0.1 is.1))
    (λ claim is. (tt, refl)))
    (λ claim is. (tt, refl)))
    bounded_text

-- no line that ends by `area` stands with `narrow`
abbrev Claims : Bool → Claim → Type 0
Claims true (Narrow least) = ⊥
Claims false (Narrow least) = Unit {0}
Claims has (Lowest height) = Unit {0}
Claims has (Bounded height lower) = Unit {0}

abbrev IsOther : Bool → Claim → Type 0
IsOther true claim = IsBounded claim
IsOther false claim = IsBounded claim ⊎ IsNarrow claim

other_begins : (claim : Claim) (t : List ℕ) → IsNarrow claim → begins (λ c. eqb c 98) (spell (claim_pieces claim) ++ t) ≡ false
other_begins (Lowest height) t is = absurd is
other_begins (Bounded height lower) t is = absurd is
other_begins (Narrow least) t is = refl

bounded_begins : (claim : Claim) (t : List ℕ) → IsBounded claim → begins (λ c. eqb c 98) (spell (claim_pieces claim) ++ t) ≡ true
bounded_begins (Lowest height) t is = absurd is
bounded_begins (Bounded height lower) t is = refl
bounded_begins (Narrow least) t is = absurd is

exact_other : (has : Bool) → Exact (other_claim_at has) (IsOther has) claim_pieces
exact_other true = exact_bounded
exact_other false =
    let chosen : Chosen (λ c. eqb c 98) claim_pieces IsBounded IsNarrow (IsOther false) = record {
      separated = λ claim is. is;
      first = λ claim is. inl is;
      other = λ claim is. inr is;
      yes = bounded_begins;
      no = other_begins;
    } in
    exact_either exact_bounded exact_narrow chosen

claim_separated : (has : Bool) (claim : Claim) → Claims has claim → IsLowest claim ⊎ IsOther has claim
claim_separated true (Lowest height) is = inl tt
claim_separated true (Bounded height lower) is = inr tt
claim_separated true (Narrow least) is = absurd is
claim_separated false (Lowest height) is = inl tt
claim_separated false (Bounded height lower) is = inr (inl tt)
claim_separated false (Narrow least) is = inr (inr tt)

claim_first : (has : Bool) (claim : Claim) → IsLowest claim → Claims has claim
claim_first true (Lowest height) is = tt
claim_first false (Lowest height) is = tt
claim_first has (Bounded height lower) is = absurd is
claim_first has (Narrow least) is = absurd is

claim_other : (has : Bool) (claim : Claim) → IsOther has claim → Claims has claim
claim_other true (Lowest height) is = absurd is
claim_other true (Bounded height lower) is = tt
claim_other true (Narrow least) is = absurd is
claim_other false (Lowest height) is = tt
claim_other false (Bounded height lower) is = tt
claim_other false (Narrow least) is = tt

lowest_begins : (claim : Claim) (t : List ℕ) → IsLowest claim → begins (λ c. eqb c 108) (spell (claim_pieces claim) ++ t) ≡ true
lowest_begins (Lowest height) t is = refl
lowest_begins (Bounded height lower) t is = absurd is
lowest_begins (Narrow least) t is = absurd is

not_lowest_begins : (has : Bool) (claim : Claim) (t : List ℕ) → IsOther has claim →
    begins (λ c. eqb c 108) (spell (claim_pieces claim) ++ t) ≡ false
not_lowest_begins true (Lowest height) t is = absurd is
not_lowest_begins true (Bounded height lower) t is = refl
not_lowest_begins true (Narrow least) t is = refl
not_lowest_begins false (Lowest height) t is = elim is [ inl bounded ↦ absurd bounded | inr narrow ↦ absurd narrow ]
not_lowest_begins false (Bounded height lower) t is = refl
not_lowest_begins false (Narrow least) t is = refl

exact_claim : (has : Bool) → Exact (claim_at has) (Claims has) claim_pieces
unfolding claim_at
exact_claim has =
    let chosen : Chosen (λ c. eqb c 108) claim_pieces IsLowest (IsOther has) (Claims has) = record {
      separated = claim_separated has;
      first = claim_first has;
      other = claim_other has;
      yes = lowest_begins;
      no = not_lowest_begins has;
    } in
    exact_either exact_lowest (exact_other has) chosen

-- ---- what proves the claim

abbrev proof_pieces : Certificate → List TextPiece
proof_pieces c = flat_map chain_pieces c.chains ++ (flat_map section_pieces c.sections ++ word (codes "end\n"))

abbrev made : ℕ → Style → ℕ → Claim → List Chain → List Section → Certificate
made width style budget claim chains sections = record {
  width = width;
  style = style;
  budget = budget;
  claim = claim;
  chains =
      chains;
  sections = sections;
}

module _ (has : Bool) (width : ℕ) (style : Style) (budget : ℕ) where
  abbrev Is4 : Certificate → Type 0
  Is4 c = (((IsShaped c × (has_area c.sections ≡ has)) × (c.width ≡ width)) × (c.style ≡ style)) × (c.budget ≡ budget)

  abbrev Is5 : Claim → Certificate → Type 0
  Is5 claim c = Is4 c × (c.claim ≡ claim)

  -- the numbers of the head and the claim
  head_again : (claim : Claim) (c : Certificate) → Is5 claim c → c ≡ made width style budget claim c.chains c.sections
  head_again claim c is =
      ap (λ (k : ℕ). made k c.style c.budget c.claim c.chains c.sections) is.0.0.0.1
      ∙ ap (λ (s : Style). made width s c.budget c.claim c.chains c.sections) is.0.0.1
      ∙ ap (λ (k : ℕ). made width style k c.claim c.chains c.sections) is.0.1
      ∙ ap (λ (k : Claim). made width style budget k c.chains c.sections) is.1

  asked_for : (b : Bool) → b ≡ has → Suits (areas_of has) b
  asked_for b same = let P : Bool → Type 0 = λ a. Suits (areas_of a) b in subst P same (itself b)
    where
      itself : (b : Bool) → Suits (areas_of b) b
      itself true = refl
      itself false = refl

  asked_back : (h b : Bool) → Suits (areas_of h) b → b ≡ h
  asked_back true b is = is
  asked_back false b is = is

  shaped_as : (claim : Claim) (c : Certificate) → c.claim ≡ claim → IsShaped c → HasProof claim c
  shaped_as claim c same is = let P : Claim → Type 0 = λ k. HasProof k c in subst P same is

  exact_by_sections : (claim : Claim) → ((c : Certificate) → HasProof claim c → HasSections c) →
      ((c : Certificate) → HasSections c → HasProof claim c)
      → Exact (sections_at (areas_of has) >>= λ x. give (made width style budget claim [] (x.0))) (Is5 claim) proof_pieces
  exact_by_sections claim to from =
      exact_made (λ (x : Listing Section (Unit {0})). made width style budget claim [] (x.0))
      (λ (c : Certificate). listing c.sections tt)
      (Is5 claim) proof_pieces (exact_sections (areas_of has))
      (λ c is.
      let p = to c (shaped_as claim c is.1 is.0.0.0.0.0) in (
        record {
          sections = record {
            most = p.most;
            shaped = p.sections;
            asked =
                asked_for (has_area c.sections) is.0.0.0.0.1;
          };
          some = p.some;
        },
        head_again claim c is ∙ ap (λ (chains : List Chain). made width style budget claim chains c.sections) p.no_chain,
      ))
      (λ x is.
      let c : Certificate = made width style budget claim [] (x.0) in (
        (
          (
            (
              (
                (
                  from c (record { some = is.some; most = is.sections.most; sections = is.sections.shaped; no_chain = refl }),
                  asked_back has
                      (has_area (x.0)) is.sections.asked,
                ),
                refl,
              ),
              refl,
            ),
            refl,
          ),
          refl,
        ),
        refl,
      ))

  exact_proof : (claim : Claim) → Claims has claim → Exact (proof_at has width style budget claim) (Is5 claim) proof_pieces
  exact_proof (Lowest height) may = exact_by_sections (Lowest height) (λ c is. is) (λ c is. is)
  exact_proof (Bounded height lower) may = exact_by_sections (Bounded height lower) (λ c is. is) (λ c is. is)
  exact_proof (Narrow least) may =
      exact_made (λ (x : Listing Chain (Unit {0})). made width style budget (Narrow least) (x.0) [])
      (λ (c : Certificate). listing c.chains tt)
      (Is5 (Narrow least)) proof_pieces exact_chains
      (λ c is.
      let p = shaped_as (Narrow least) c is.1 is.0.0.0.0.0 in (
        record { some = p.some; each = p.entries },
        head_again (Narrow least) c is
            ∙ ap (λ (sections : List Section). made width style budget (Narrow least) c.chains sections) p.no_section,
      ))
      (λ x is. (
        (
          ((((record { some = is.some; entries = is.each; no_section = refl }, no_area has may), refl), refl), refl),
          refl,
        ),
        refl,
      ))
    where
      no_area : (has : Bool) → Claims has (Narrow least) → false ≡ has
      no_area true may = absurd may
      no_area false may = refl

-- ---- all of it

abbrev after_style : Certificate → List TextPiece
after_style c = field 0 MAX_BUDGET c.budget line_feed ++ (claim_pieces c.claim ++ proof_pieces c)

abbrev after_width : Certificate → List TextPiece
after_width c = style_pieces c.style ++ after_style c

abbrev after_version : Certificate → List TextPiece
after_version c = field 1 MAX_PAGE_WIDTH c.width space ++ after_width c

abbrev after_name : Certificate → List TextPiece
after_name c = version_pieces (has_area c.sections) ++ after_version c

claims_of : (c : Certificate) (claim : Claim) → c.claim ≡ claim → IsShaped c → Claims (has_area c.sections) claim
claims_of c (Lowest height) same is = claim_first (has_area c.sections) (Lowest height) tt
claims_of c (Bounded height lower) same is = bounded_claims (has_area c.sections)
  where
    bounded_claims : (has : Bool) → Claims has (Bounded height lower)
    bounded_claims true = tt
    bounded_claims false = tt
claims_of c (Narrow least) same is =
    let P : Claim → Type 0 = λ k. HasProof k c in
    let p : HasChains c = subst P same is in
    let Q : List Section → Type 0 = λ sections. Claims (has_area sections) (Narrow least) in
    subst Q (sym p.no_section) tt

pub exact_certificate : Exact certificate_at IsShaped cert_pieces
unfolding certificate_at
exact_certificate =
    exact_after (codes "tablelayout ") after_name cert_pieces
    (exact_part_then (λ (c : Certificate). has_area c.sections) IsShaped after_name (λ has c. after_version c) exact_version
    (λ has _.
    exact_part_then (λ (c : Certificate). c.width) (λ c. IsShaped c × (has_area c.sections ≡ has)) after_version
    (λ width c. after_width c)
    (exact_field 1 MAX_PAGE_WIDTH space refl) (λ width _.
    exact_part_then (λ (c : Certificate). c.style) (λ c. (IsShaped c × (has_area c.sections ≡ has)) × (c.width ≡ width))
    after_width
    (λ style c. after_style c) exact_style (λ style _.
    exact_part_then (λ (c : Certificate). c.budget) (λ c. ((IsShaped c × (has_area c.sections ≡ has)) × (c.width ≡ width)) ×
    (c.style ≡ style)) after_style
    (λ budget c. claim_pieces c.claim ++ proof_pieces c)
    (exact_field 0 MAX_BUDGET line_feed refl) (λ budget _.
    exact_part_then (λ (c : Certificate). c.claim) (Is4 has width style budget) (λ c. claim_pieces c.claim ++ proof_pieces c)
    (λ claim c. proof_pieces c)
    (exact_claim has)
    (λ claim may. exact_proof has width style budget claim may)
    (λ c is. (
      let P : Bool → Type 0 = λ has. Claims has c.claim in
          subst P is.0.0.0.1 (claims_of c c.claim refl is.0.0.0.0),
      refl,
    )))
    (λ c is. (tt, refl)))
    (λ c is. (tt, refl)))
    (λ c is. (tt, refl)))
    (λ c is. (tt, refl)))
    (λ c is. refl)
