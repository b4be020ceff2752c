-- Widths at which a paragraph needs fewer lines, found from the narrowest on.
use Rattle.std.proofs.Common.{◌≡◌, ℕ, ◌+◌, ◌-◌, ◌<◌, ◌≤◌, ◌↔◌, List, [], ◌∷◌, ◌++◌, ◌⊎◌, inl, inr, length, get_or, map, Option}
use Rattle.std.proofs.Common.{Some, None, Contains}
use Rattle.std.proofs.Common.{refl, sym, ap, ◌∙◌, subst, arith}
use Rattle.std.specs.List.{AllPairs, All, AllByRecursion}
use Rattle.std.proofs.lemmas.Bool.{cases_lt}
use Rattle.std.proofs.lemmas.List.{length_push, length-map}
use Rattle.std.proofs.lemmas.List.Elements.{Contains-push, Contains-push_cases, Contains-append_left, Contains-get_or}
use Rattle.std.proofs.lemmas.List.Quantifiers.{all_pairs_push}
use Rattle.tl_base.specs.declared.steps.Config.{Config}
use Rattle.tl_base.specs.Steps.{AreSteps}
use Rattle.tl_text.specs.declared.paragraph.Atom.{Atom}
use Rattle.tl_text.specs.Cuttings.{HasCutting, LeastLines, joined}
use Rattle.tl_text.specs.Minimal.{IsMinimal}
use Rattle.std.proofs.lemmas.List.Elements.{All-from_recursion}
use Rattle.tl_text.specs.inner.Measure.{measure_of, lines_after, unit_columns}
use Rattle.tl_text.specs.declared.filling.Filling.{Filling}
use Rattle.tl_text.specs.declared.measure.Measure.{Measure}
use Rattle.tl_text.proofs.Paragraphs.{AllFit, AllFit-wider, LeastLines-falls, greedy_cut, greedy_cut-least, columns_of-measure_of}
use Rattle.tl_text.proofs.Paragraphs.{atoms-of-cut-fit}
use Rattle.tl_text.proofs.Rest.{lines_after-start}

-- from a width on, up to another, the paragraph takes `h` lines
abbrev pub IsFlat : List Atom → ℕ → ℕ → ℕ → Type 0
IsFlat atoms from past h = (w : ℕ) → from ≤ w → w < past → LeastLines w atoms h

-- the steps are exactly the minimal configurations of width below `past`
pub record AreMinimalBelow (atoms : List Atom) (past : ℕ) (steps : List Config) : Type 0 where
  pub exact : (config : Config) → Contains steps config ↔ (IsMinimal atoms config × (config.width < past))
  pub are : AreSteps steps

-- what the search has found so far: the steps below `past`, and how high the paragraph is there
pub record IsSearchedBelow (atoms : List Atom) (past h : ℕ) (steps : List Config) : Type 0 where
  pub width : ℕ
  pub some : width < past
  pub flat : IsFlat atoms width past h
  pub found : AreMinimalBelow atoms past steps

-- two least numbers of lines are one
same_lines : (w : ℕ) (atoms : List Atom) (m n : ℕ) → LeastLines w atoms m → LeastLines w atoms n → m ≡ n
same_lines w atoms m n first second =
    omega (
      arith,
      LeastLines-falls w w atoms m n (omega arith) first second,
      LeastLines-falls w w atoms n m (omega arith) second first,
    )

-- where one column less takes no more lines, a width is not minimal
not_minimal : (atoms : List Atom) (w : ℕ) (config : Config) → w + 1 ≡ config.width → LeastLines w atoms config.height →
    IsMinimal atoms config → ⊥
not_minimal atoms w config next least minimal =
    let cut = least.attained in
    omega (arith, minimal.narrower w cut.0 next cut.1 cut.2, cut.3)

-- a minimal configuration in a flat range stands at its beginning
at_beginning : (atoms : List Atom) (from past h : ℕ) → IsFlat atoms from past h → (config : Config) → IsMinimal atoms config →
    from ≤ config.width
    → config.width < past → (config.width ≡ from) × (config.height ≡ h)
at_beginning atoms from past h flat config minimal low high =
    let same : config.height ≡ h = same_lines config.width atoms config.height h minimal.lines (flat config.width low high) in (
      begins (cases_lt from config.width),
      same,
    )
  where
    begins : (from < config.width) ⊎ (config.width ≤ from) → config.width ≡ from
    begins (inl above) =
        let h-here : config.height ≡ h = same_lines config.width atoms config.height h minimal.lines
        (flat config.width low high) in
        let before : LeastLines (config.width - 1) atoms config.height =
        subst (λ n. LeastLines (config.width - 1) atoms n) (sym h-here) (flat (config.width - 1) (omega arith) (omega arith)) in
        absurd (not_minimal atoms (config.width - 1) config (omega arith) before minimal)
    begins (inr at) = omega arith

-- a step is wider and lower than all before it
falls-push : (steps : List Config) (step : Config) → AllPairs (λ a b. (a.width < b.width) × (b.height < a.height)) steps
    → ((c : Config) → Contains steps c → (c.width < step.width) × (step.height < c.height))
    → AllPairs (λ a b. (a.width < b.width) × (b.height < a.height)) (steps ++ step ∷ [])
falls-push steps step before last =
    all_pairs_push (λ a b. (a.width < b.width) × (b.height < a.height)) steps step before
    (λ k d within. last (get_or steps k d) (Contains-get_or steps k d within))

-- a configuration by its parts
same_config : {w h : ℕ} (config : Config) → (config.width ≡ w) × (config.height ≡ h) → record { width = w; height = h } ≡ config
same_config {w} {h} config is =
    ap (λ width. record { width = width; height = h }) (sym is.0) ∙ ap
    (λ height. record { width = config.width; height = height }) (sym is.1)

-- at a minimal width a cutting holds
has_cutting : {atoms : List Atom} (config : Config) → IsMinimal atoms config → HasCutting config.width atoms
has_cutting config minimal = let cut = minimal.lines.attained in (cut.0, cut.1, cut.2)

-- the first step is minimal where no cutting holds in less
first_is : (atoms : List Atom) (w past h : ℕ) → w < past → IsFlat atoms w past h → ((v : ℕ) → HasCutting v atoms → w ≤ v) →
    (config : Config)
    → Contains [] config ⊎ (record { width = w; height = h } ≡ config) → IsMinimal atoms config × (config.width < past)
first_is atoms w past h some flat least config (inl has) = absurd (omega (arith, has.1))
first_is atoms w past h some flat least config (inr is) =
    subst (λ c. IsMinimal atoms c × (c.width < past)) is (
      record {
        lines = flat w (omega arith) some;
        narrower = λ v cut next cutting holds. absurd
            (omega (arith, least v (cut, cutting, holds), next));
      },
      some,
    )

-- at the least width
pub IsSearchedBelow-first : (atoms : List Atom) (w past h : ℕ) → w < past → IsFlat atoms w past h →
    ((v : ℕ) → HasCutting v atoms → w ≤ v)
    → IsSearchedBelow atoms past h (record { width = w; height = h } ∷ [])
IsSearchedBelow-first atoms w past h some flat least = record {
  width = w;
  some = some;
  flat = flat;
  found = record {
    exact = λ config. (
      λ has. first_is atoms w past h some flat least config (Contains-push_cases [] (record { width = w; height = h })
          config has),
      λ is. subst (λ c. Contains (record { width = w; height = h } ∷ []) c)
          (same_config config (at_beginning atoms w past h flat config is.0 (least config.width (has_cutting config is.0)) is.1))
          (Contains-push [] (record { width = w; height = h })),
    );
    are = record { has_step = omega arith; decreasing = λ i j d before within. absurd (omega arith) };
  };
}

-- at the next width worth trying there are fewer lines
pub IsSearchedBelow-fewer : (atoms : List Atom) (past next h lower : ℕ) (steps : List Config) →
    IsSearchedBelow atoms past h steps → past < next
    → IsFlat atoms past next lower → lower < h → IsSearchedBelow atoms next lower
    (steps ++ record { width = past; height = lower } ∷ [])
IsSearchedBelow-fewer atoms past next h lower steps searched some flat fewer = record {
  width = past;
  some = some;
  flat = flat;
  found = record {
    exact = λ config. (
      λ has. step_is config (Contains-push_cases steps (record { width = past; height = lower }) config has),
      λ is. step_has config is (cases_lt config.width past),
    );
    are = record {
      has_step = omega (arith, length_push steps (record { width = past; height = lower }));
      decreasing = falls-push steps (record { width = past; height = lower }) searched.found.are.decreasing before;
    };
  };
}
  where
    lines_before : LeastLines (past - 1) atoms h
    lines_before = searched.flat (past - 1) (omega (arith, searched.some)) (omega (arith, searched.some))

    before : (c : Config) → Contains steps c → (c.width < past) × (lower < c.height)
    before c has =
        let is = (searched.found.exact c).0 has in
        (is.1, omega (arith, LeastLines-falls c.width (past - 1) atoms c.height h (omega (arith, is.1)) is.0.lines lines_before))

    minimal : IsMinimal atoms (record { width = past; height = lower })
    minimal = record {
      lines = flat past (omega arith) some;
      narrower = λ v cut next' cutting holds. omega
          (arith, (searched.flat v (omega (arith, next', searched.some)) (omega (arith, next'))).least cut cutting holds);
    }

    step_is : (config : Config) → Contains steps config ⊎ (record { width = past; height = lower } ≡ config) →
        IsMinimal atoms config × (config.width < next)
    step_is config (inl has) = let is = (searched.found.exact config).0 has in (is.0, omega (arith, is.1))
    step_is config (inr is) = subst (λ c. IsMinimal atoms c × (c.width < next)) is (minimal, some)

    step_has : (config : Config) → IsMinimal atoms config × (config.width < next) → (config.width < past) ⊎ (past ≤ config.width)
        → Contains (steps ++ record { width = past; height = lower } ∷ []) config
    step_has config is (inl old) =
        Contains-append_left steps (record { width = past; height = lower } ∷ []) config
        ((searched.found.exact config).1 (is.0, old))
    step_has config is (inr new) =
        subst (λ c. Contains (steps ++ record { width = past; height = lower } ∷ []) c)
        (same_config config (at_beginning atoms past next lower flat config is.0 new is.1))
        (Contains-push steps (record { width = past; height = lower }))

-- at the next width worth trying there are as many
pub IsSearchedBelow-same : (atoms : List Atom) (past next h same : ℕ) (steps : List Config) →
    IsSearchedBelow atoms past h steps → past < next
    → IsFlat atoms past next same → h ≤ same → IsSearchedBelow atoms next same steps
IsSearchedBelow-same atoms past next h same steps searched some flat more = record {
  width = past;
  some = some;
  flat = flat;
  found = record {
    exact = λ config. (
      λ has. let is = (searched.found.exact config).0 has in (is.0, omega (arith, is.1)),
      λ is. old config is (cases_lt config.width past),
    );
    are = searched.found.are;
  };
}
  where
    lines_before : LeastLines (past - 1) atoms h
    lines_before = searched.flat (past - 1) (omega (arith, searched.some)) (omega (arith, searched.some))

    as_many : h ≡ same
    as_many = omega (
      arith,
      LeastLines-falls (past - 1) past atoms h same (omega arith) lines_before
          (flat past (omega arith) some),
    )

    old : (config : Config) → IsMinimal atoms config × (config.width < next) → (config.width < past) ⊎ (past ≤ config.width) →
        Contains steps config
    old config is (inl below) = (searched.found.exact config).1 (is.0, below)
    old config is (inr new) =
        let at = at_beginning atoms past next same flat config is.0 new is.1 in
        absurd (not_minimal atoms (past - 1) config (omega (arith, at.0, searched.some))
        (subst (λ n. LeastLines (past - 1) atoms n) (as_many ∙ sym at.1) lines_before) is.0)

-- ---- what filling lines once tells of a range of widths

-- how many lines a filled open line makes does not depend on the width
lines_after-nil : (v w : ℕ) (line : Option ℕ) → lines_after v line [] ≡ lines_after w line []
lines_after-nil v w None = refl
lines_after-nil v w (Some used) = refl

-- the lines of a filling, its open one included
abbrev pub lines_of : Filling → ℕ
lines_of filling = filling.ended + lines_after 0 filling.line []

pub IsFlat-from : (atoms : List Atom) (units : List Measure) (width : ℕ) (filling : Filling) → units ≡ map measure_of atoms →
    AllFit width atoms
    → ((w : ℕ) → width ≤ w → w < filling.next → filling.ended + lines_after w filling.line [] ≡ lines_after w None units)
    → IsFlat atoms width filling.next (lines_of filling)
IsFlat-from atoms units width filling measured fit lines = λ w low high.
    let same : lines_of filling ≡ length (joined (greedy_cut w atoms)) =
    ap (λ n. filling.ended + n) (lines_after-nil 0 w filling.line) ∙ lines w low high ∙ ap (λ us. lines_after w None us)
    measured ∙ lines_after-start w atoms in
    subst (λ n. LeastLines w atoms n) (sym same) (greedy_cut-least w atoms (AllFit-wider width w atoms low fit))

measures-fit : (w : ℕ) (atoms : List Atom) → AllFit w atoms →
    AllByRecursion (λ unit. unit_columns unit ≤ w) (map measure_of atoms)
measures-fit w [] fit = tt
measures-fit w (atom ∷ atoms) fit = (omega (arith, columns_of-measure_of atom, fit.0), measures-fit w atoms fit.1)

-- the units fit where the atoms do
pub units-fit : (w : ℕ) (atoms : List Atom) (units : List Measure) → units ≡ map measure_of atoms → AllFit w atoms →
    All (λ unit. unit_columns unit ≤ w) units
units-fit w atoms units measured fit =
    subst (λ us. All (λ unit. unit_columns unit ≤ w) us) (sym measured)
    (All-from_recursion (λ unit. unit_columns unit ≤ w) (map measure_of atoms) (measures-fit w atoms fit))

pub length-units : (atoms : List Atom) (units : List Measure) → units ≡ map measure_of atoms → length units ≡ length atoms
length-units atoms units measured = ap length measured ∙ length-map atoms measure_of

-- where a cutting holds the atoms fit
pub AllFit-from_cutting : (w : ℕ) (atoms : List Atom) → HasCutting w atoms → AllFit w atoms
AllFit-from_cutting w atoms has = atoms-of-cut-fit w atoms has.0 has.1 has.2

-- and so they do at the next width
pub AllFit-searched : (atoms : List Atom) (past h : ℕ) (steps : List Config) → IsSearchedBelow atoms past h steps →
    AllFit past atoms
AllFit-searched atoms past h steps searched =
    let cut = (searched.flat searched.width (omega arith) searched.some).attained in
    AllFit-wider searched.width past atoms (omega (arith, searched.some))
    (atoms-of-cut-fit searched.width atoms cut.0 cut.1 cut.2)
