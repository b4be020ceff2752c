-- Lines that are filled with the first atoms of a paragraph.
use Rattle.std.proofs.Common.{◌≡◌, ℕ, ◌+◌, ◌≤◌, ◌<◌, List, [], ◌∷◌, length, drop, take, get_or, map, Option, Some, None, IfSome}
use Rattle.std.proofs.Common.{refl, sym, ap, ◌∙◌}
use Rattle.std.proofs.Common.{subst, arith}
use Rattle.std.specs.Option.{ForSome, IsSomeAnd}
use Rattle.std.proofs.lemmas.Option.{slice_get_read}
use Rattle.std.proofs.lemmas.List.{at_drop_all, at_drop_more, take_all}
use Rattle.tl_text.specs.declared.filling.Filling.{Filling}
use Rattle.tl_text.specs.declared.paragraph.Atom.{Atom}
use Rattle.tl_text.specs.Cuttings.{LeastLines}
use Rattle.tl_text.specs.inner.Measure.{measure_of, lines_after}
use Rattle.tl_text.specs.Paragraph.{unit_width}
use Rattle.tl_text.specs.Ranges.{IsFirstTooWide}
use Rattle.tl_text.specs.declared.measure.Measure.{Measure}
use Rattle.std.proofs.lemmas.List.Elements.{All-from_recursion}
use Rattle.tl_text.proofs.Paragraphs.{AllFit, AllFit-more, greedy_cut-least}
use Rattle.tl_text.proofs.Rest.{lines_after-start}

-- the lines hold the first `n` atoms: with what comes they are those of the whole
pub record IsFilled (w : ℕ) (atoms : List Atom) (n : ℕ) (filling : Filling) : Type 0 where
  pub lines : filling.ended + lines_after w filling.line (map measure_of (drop n atoms)) ≡ lines_after w None
      (map measure_of atoms)
  pub fit : AllFit w (take n atoms)
  pub line : ForSome filling.line (λ used. used ≤ w)
  pub next : w < filling.next
  pub ended : filling.ended ≤ n

-- no lines yet
pub IsFilled-none : (w : ℕ) (atoms : List Atom) (filling : Filling) → filling.ended ≡ 0 → filling.line ≡ None →
    w < filling.next → IsFilled w atoms 0 filling
IsFilled-none w atoms filling ended line next = record {
  lines = omega (arith, ended, ap (λ l. lines_after w l (map measure_of atoms)) line);
  fit = tt;
  line = λ used is. absurd (none_some (sym line ∙ is));
  next = next;
  ended = omega (arith, ended);
}
  where
    none_some : {used : ℕ} → None ≡ Some used → ⊥
    none_some h = cc

-- the first unit that is too wide
pub IsFirstTooWide-from : (w : ℕ) (atoms : List Atom) (n : ℕ) (atom : Atom) → n < length atoms → atom ≡ get_or atoms n atom →
    AllFit w (take n atoms)
    → w < unit_width atom → IsFirstTooWide w atoms n
IsFirstTooWide-from w atoms n atom within is before wider = record {
  wider = subst (λ o. IsSomeAnd o (λ a. w < unit_width a)) (sym (slice_get_read atoms (length atoms) n atom refl within is))
      wider;
  before = All-from_recursion (λ a. unit_width a ≤ w) (take n atoms) before;
}

-- the lines that hold all atoms are as few as can be
pub all_filled : (w : ℕ) (atoms : List Atom) (n : ℕ) (filling : Filling) (lines : ℕ) → IsFilled w atoms n filling →
    length atoms ≤ n → lines
    ≡ filling.ended + lines_after w filling.line [] → LeastLines w atoms lines
all_filled w atoms n filling lines filled all counted =
    let fit = subst (λ first. AllFit w first) (take_all n atoms all) filled.fit in
    let none = at_drop_all (λ rest. filling.ended + lines_after w filling.line (map measure_of rest)) atoms n all in
    let same = counted ∙ sym none ∙ filled.lines ∙ lines_after-start w atoms in
    subst (λ k. LeastLines w atoms k) (sym same) (greedy_cut-least w atoms fit)

for_some : (line : Option ℕ) (w : ℕ) → IfSome line (λ used. used ≤ w) → ForSome line (λ used. used ≤ w)
for_some None w h = λ used is. cc
for_some (Some used) w h = λ found is. let same : used ≡ found = cc in omega (arith, h)

-- one more atom, by what putting it on the lines ensures
pub IsFilled-more : (w : ℕ) (atoms : List Atom) (n : ℕ) (old new : Filling) (atom : Atom) → n < length atoms →
    atom ≡ get_or atoms n atom
    → unit_width atom ≤ w → IsFilled w atoms n old
    → ((measures : List Measure) → new.ended + lines_after w new.line measures ≡ old.ended + lines_after w old.line
    (measure_of atom ∷ measures))
    → w < new.next → IfSome new.line (λ used. used ≤ w) → new.ended ≤ old.ended + 1 → IsFilled w atoms (n + 1) new
IsFilled-more w atoms n old new atom within is fits filled lines next line ended = record {
  lines = lines (map measure_of (drop (n + 1) atoms)) ∙ ap (λ a. old.ended + lines_after w old.line
      (map measure_of (a ∷ drop (n + 1) atoms))) is
      ∙ sym (at_drop_more (λ rest. old.ended + lines_after w old.line (map measure_of rest)) atoms n atom within) ∙ filled.lines;
  fit = AllFit-more w atoms n atom within is filled.fit fits;
  line = for_some new.line w line;
  next = next;
  ended = omega (arith, filled.ended);
}
