-- What sections tell of a table at a width: one lower bound and one height at most, neither of which rises with the width;
-- and that what is collected of the table's sections tells the same.
use Rattle.std.proofs.Common.{◌≡◌, ◌∙◌, ℕ, ◌-◌, ◌^◌, ◌<◌, ◌≤◌, ◌==◌, List, filter, sym, ap, subst, arith}
use Rattle.std.specs.List.{All, Any, Contains}
use Rattle.std.proofs.lemmas.Bool.{eq-eqb, eqb-true}
use Rattle.std.proofs.lemmas.List.Elements.{All-get_or, All-contains}
use Rattle.tl_base.specs.declared.style.Style.{Style}
use Rattle.tl_base.proofs.Members.{All-from_Contains, Contains-filter, filter-Contains, Contains-map, map-Contains}
use Rattle.tl_cert.specs.declared.section.Section.{Section}
use Rattle.tl_form.specs.declared.heights.HeightBound.{HeightBound}
use Rattle.tl_form.specs.declared.heights.HeightBound.TheVariants.{Low, High}
use Rattle.tl_form.specs.declared.nested_steps.Finding.{Finding}
use Rattle.tl_form.specs.Expected.{placed_width}
use Rattle.tl_form.specs.Nested.{IsAsWide, IsPlacedWithin, IsGreatestLower, IsLeastFound}
use Rattle.tl_form.specs.inner.Collecting.{IsMost, IsFewest, IsAsWideAs, IsPlacedIn, TellsHeight, told_of, told_by, capped}

-- an item that is so among items that are all so
pub any_all : {X : Type 0} (P Q : X → Type 0) (xs : List X) → Any P xs → All Q xs → (x : X) × P x × Q x
any_all P Q xs has all = (has.1, has.4, subst Q has.3 (All-get_or Q xs has.0 has.1 has.2 all))

-- an item that is so is contained, and back
pub any_item : {X : Type 0} (P : X → Type 0) (xs : List X) → Any P xs → (x : X) × Contains xs x × P x
any_item P xs has = (has.1, (has.0, has.2, has.3), has.4)

pub item_any : {X : Type 0} (P : X → Type 0) (xs : List X) (x : X) → Contains xs x → P x → Any P xs
item_any P xs x has is = (has.0, x, has.1, has.2, is)

-- ---- at wider pages no more

lower_le : (told : List Finding) (v w a b : ℕ) → v ≤ w → IsMost (IsAsWideAs v) (λ one. one.lower) told a →
    IsMost (IsAsWideAs w) (λ one. one.lower) told b → b ≤ a
lower_le told v w a b wider first second =
    let at = any_all (λ one. IsAsWideAs w one × (one.lower ≡ b)) (λ one. IsAsWideAs v one →
    one.lower ≤ a) told second.attained first.never_more in
    let counts = at.1.0 in
    omega (arith, at.1.1, at.2 (omega (arith, counts, wider)))

found_le : (told : List Finding) (v w a b : ℕ) → v ≤ w → IsFewest (IsPlacedIn v) (λ one. one.height) told a →
    IsFewest (IsPlacedIn w) (λ one. one.height) told b → b ≤ a
found_le told v w a b wider first second =
    let at = any_all (λ one. IsPlacedIn v one × (one.height ≡ a)) (λ one. IsPlacedIn w one →
    b ≤ one.height) told first.attained second.never_less in
    let counts = at.1.0 in
    omega (arith, at.1.1, at.2 (omega (arith, counts, wider)))

pub height_falls : (bound : HeightBound) (told : List Finding) (v w a b : ℕ) → v ≤ w → TellsHeight bound told v a →
    TellsHeight bound told w b → b ≤ a
height_falls Low told v w a b wider first second = lower_le told v w a b wider first second
height_falls High told v w a b wider first second = found_le told v w a b wider first second

pub height_one : (bound : HeightBound) (told : List Finding) (w a b : ℕ) → TellsHeight bound told w a → TellsHeight bound told w b → a ≡ b
height_one bound told w a b is are =
    omega (
      arith,
      height_falls bound told w w a b (omega arith) is are,
      height_falls bound told w w b a (omega arith) are is,
    )

-- ---- what is collected tells the same

module _ (style : Style) (number : ℕ) (sections : List Section) where
  -- what is told is told by a section of the table
  told_section : (one : Finding) → Contains (told_by style number sections) one →
      (section : Section) × Contains sections section × (section.table ≡ number) × (told_of style section ≡ one)
  told_section one has =
      let mapped = map-Contains (told_of style) (filter (λ section. section.table == number) sections) one has in
      let among = filter-Contains (λ section. section.table == number) sections mapped.0 mapped.1 in
      (mapped.0, among.0, eqb-true mapped.0.table number among.1, mapped.2)

  section_told : (section : Section) → Contains sections section → section.table ≡ number →
      Contains (told_by style number sections) (told_of style section)
  section_told section has of =
      Contains-map (told_of style) (filter (λ each. each.table == number) sections) section
      (Contains-filter (λ each. each.table == number) sections section (eq-eqb section.table number of) has)

  pub lower_told : (w h : ℕ) → IsGreatestLower sections number w h →
      IsMost (IsAsWideAs w) (λ one. one.lower) (told_by style number sections) h
  lower_told w h is =
      let at = any_item (λ section. IsAsWide number w section × (section.lower ≡ h)) sections is.attained in record {
        attained = item_any (λ one. IsAsWideAs w one × (one.lower ≡ h)) (told_by style number sections) (told_of style at.0)
            (section_told at.0 at.1 at.2.0.of) (at.2.0.wide, at.2.1);
        never_more = All-from_Contains (λ one. IsAsWideAs w one →
            one.lower ≤ h) (told_by style number sections) (λ one has counts.
            let by = told_section one has in
            let wide : IsAsWideAs w (told_of style by.0) = subst (IsAsWideAs w) (sym by.3) counts in
            subst (λ each. each.lower ≤ h) by.3
            (All-contains (λ section. IsAsWide number w section →
            section.lower ≤ h) sections by.0 is.never_more by.1 (record { of = by.2; wide = wide })));
      }

  pub told_lower : (w h : ℕ) → IsMost (IsAsWideAs w) (λ one. one.lower) (told_by style number sections) h →
      IsGreatestLower sections number w h
  told_lower w h is =
      let at = any_item (λ one. IsAsWideAs w one × (one.lower ≡ h)) (told_by style number sections) is.attained in
      let by = told_section at.0 at.1 in record {
        attained = item_any (λ section. IsAsWide number w section × (section.lower ≡ h)) sections by.0 by.1
            (record { of = by.2; wide = subst (IsAsWideAs w) (sym by.3) at.2.0 }, ap (λ (each : Finding). each.lower) by.3 ∙ at.2.1);
        never_more = All-from_Contains (λ section. IsAsWide number w section → section.lower ≤ h) sections (λ section has counts.
            All-contains (λ one. IsAsWideAs w one → one.lower ≤ h) (told_by style number sections) (told_of style section)
            is.never_more
            (section_told section has counts.of) counts.wide);
      }

  uncapped : (w : ℕ) (section : Section) → w < 2 ^ 64 - 1 → capped (placed_width style section) ≤ w →
      placed_width style section ≤ w
  uncapped w section small narrow = omega (arith, small, narrow)

  pub found_told : (w h : ℕ) → w < 2 ^ 64 - 1 → IsLeastFound style sections number w h →
      IsFewest (IsPlacedIn w) (λ one. one.height) (told_by style number sections) h
  found_told w h small is =
      let at = any_item (λ section. IsPlacedWithin style number w section × (section.height ≡ h)) sections is.attained in record {
        attained = item_any (λ one. IsPlacedIn w one × (one.height ≡ h)) (told_by style number sections) (told_of style at.0)
            (section_told at.0 at.1 at.2.0.of) (under at.0 at.2.0.narrow, at.2.1);
        never_less = All-from_Contains (λ one. IsPlacedIn w one →
            h ≤ one.height) (told_by style number sections) (λ one has counts.
            let by = told_section one has in
            let narrow : IsPlacedIn w (told_of style by.0) = subst (IsPlacedIn w) (sym by.3) counts in
            subst (λ each. h ≤ each.height) by.3
            (All-contains (λ section. IsPlacedWithin style number w section → h ≤ section.height) sections by.0 is.never_less by.1
            (record { of = by.2; narrow = uncapped w by.0 small narrow })));
      }
    where
      under : (section : Section) → placed_width style section ≤ w → capped (placed_width style section) ≤ w
      under section narrow = omega (arith, narrow)

  pub told_found : (w h : ℕ) → w < 2 ^ 64 - 1 → IsFewest (IsPlacedIn w) (λ one. one.height) (told_by style number sections) h →
      IsLeastFound style sections number w h
  told_found w h small is =
      let at = any_item (λ one. IsPlacedIn w one × (one.height ≡ h)) (told_by style number sections) is.attained in
      let by = told_section at.0 at.1 in record {
        attained = item_any (λ section. IsPlacedWithin style number w section × (section.height ≡ h)) sections by.0 by.1 (
          record { of = by.2; narrow = uncapped w by.0 small (subst (IsPlacedIn w) (sym by.3) at.2.0) },
          ap (λ (each : Finding). each.height) by.3 ∙ at.2.1,
        );
        never_less = All-from_Contains (λ section. IsPlacedWithin style number w section →
            h ≤ section.height) sections (λ section has counts.
            All-contains (λ one. IsPlacedIn w one → h ≤ one.height) (told_by style number sections) (told_of style section)
            is.never_less
            (section_told section has counts.of) (let narrow = counts.narrow in omega (arith, narrow)));
      }
