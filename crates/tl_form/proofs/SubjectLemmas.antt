-- The document that a subject is: each number has its table, and its least width.
use Rattle.std.proofs.Common.{◌≡◌, ◌∙◌, ℕ, ◌+◌, ◌-◌, ◌<◌, List, ◌∷◌, [], ◌++◌, length, take, get_or}
use Rattle.std.proofs.Common.{Option, Some, MatchOption, refl, sym, subst, arith}
use Rattle.std.specs.List.{All, AllZip}
use Rattle.tl_base.proofs.Zips.{AllZip-get_or, AllZip-length}
use Rattle.tl_base.specs.declared.style.Style.{Style}
use Rattle.tl_base.proofs.Taken.{AllZip-taken}
use denote.Ref.{Bor}
use Rattle.tl_form.specs.Expected.{IsDocumentOf}
use Rattle.tl_table.specs.declared.cell.Table.{Table, out-Table}
use Rattle.tl_table.specs.Least.{IsLeastWidth}
use Rattle.tl_table.specs.Numbered.{AreByNumber}
use Rattle.tl_table.specs.Sound.{IsSound, nested_in_table}
use Rattle.tl_table.specs.Tables.{IsAmong}
use Rattle.tl_table.proofs.TableNumbers.{number_within, one_of_number, sound_among}

pub it_is : {X : Type 0} (L : Type 0) (o : Option X) (x : X) (P : X → Type 0) → o ≡ Some x → MatchOption o L P → P x
it_is {X = X} L o x P is has = subst (λ (one : Option X). MatchOption one L P) is has

-- ---- the tables by number

-- each of them is sound
pub all_sound : (table : Table) (tables : List (Bor Table)) → IsSound table → AreByNumber table tables →
    All (λ one. IsSound one.now) tables
all_sound table tables sound each = λ k d within. sound_among table (get_or tables k d).now sound (each.each k d within).among

-- ---- their least widths

-- one more of them
pub widths_more : (style : Style) (tables : List (Bor Table)) (k n : ℕ) (one : Bor Table) (least more : List ℕ) →
    k < length tables → one ≡ get_or tables k one → AllZip (λ t width. IsLeastWidth t.now style width) (take k tables) least →
    more ≡ least ++ n ∷ [] → IsLeastWidth one.now style n →
    AllZip (λ t width. IsLeastWidth t.now style width) (take (k + 1) tables) more
widths_more style tables k n one least more within is old push next =
    let Is : Bor Table → ℕ → Type 0 = λ t width. IsLeastWidth t.now style width in
    subst (AllZip Is (take (k + 1) tables)) (sym push) (AllZip-taken Is tables least k one one n within is old next)

-- ---- the document

pub document_made : (table : Table) (style : Style) (page last : ℕ) (tables : List (Bor Table)) (least : List ℕ) → IsSound table →
    AreByNumber table tables → AllZip (λ t width. IsLeastWidth t.now style width) tables least →
    last ≡ (out-Table table).number + nested_in_table table →
    IsDocumentOf table style page (record { table = table; style = style; page = page; last = last; least = least })
document_made table style page last tables least sound numbered each end = record {
  same = refl;
  drawn = refl;
  wide = refl;
  numbers = end;
  each = sym (AllZip-length Is tables least each) ∙ numbered.count;
  least = least_of;
} where
  Is : Bor Table → ℕ → Type 0
  Is t width = IsLeastWidth t.now style width

  least_of : (one : Table) → IsAmong table one →
      IsLeastWidth one style (get_or least ((out-Table one).number - (out-Table table).number) 0)
  least_of one among =
      let within = number_within table one sound among in
      let k : ℕ = (out-Table one).number - (out-Table table).number in
      let there : k < length tables = omega (arith, within.1, numbered.count) in
      let found = numbered.each k nowhere there in
      subst (λ t. IsLeastWidth t style (get_or least k 0))
      (one_of_number table (get_or tables k nowhere).now one sound found.among among
      (omega (arith, found.numbered, within.0)))
      (AllZip-get_or Is tables least k nowhere 0 each there)
    where
      nowhere : Bor Table
      nowhere = record { ref_ptr = (0, 0); now = one }
