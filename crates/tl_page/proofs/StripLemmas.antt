-- Where the strips of a page begin.
use Rattle.std.proofs.Common.{◌≡◌, ℕ, ◌+◌, ◌-◌, ◌*◌, ◌<◌, ◌≤◌, zero, suc, List, [], ◌∷◌, length, get_or, take, drop, sum, refl}
use Rattle.std.proofs.Common.{◌∙◌, inl, inr, Bool, true, false, nat_le, if◌then◌else◌, ap, arith, tests}
use Rattle.std.proofs.lemmas.Bool.{cases_lt}
use Rattle.std.proofs.lemmas.List.{at_drop_more, at_drop_all}
use Rattle.std.proofs.lemmas.List.Sums.{sum_by-cons}
use Rattle.tl_base.specs.Sizes.{position, room, total}
use Rattle.tl_base.proofs.SizeLaws.{room-position, total-position}
use Rattle.tl_page.specs.declared.strip.Gaps.{Gaps}
use Rattle.tl_page.specs.declared.strip.Lined.{Lined}
use Rattle.tl_page.specs.declared.strip.Lined.TheVariants.{No, After, From}
use Rattle.tl_page.specs.declared.strip.Strip.{Strip}
use Rattle.tl_page.specs.Strips.{begin_in, even, following, gap_after, is_lined, lines_after, strips_from, strips}

-- ---- one more size

pub following-last : (gaps : Gaps) (edge slot : ℕ) (sizes : List ℕ) (n : ℕ) → length sizes ≤ n →
    following gaps edge slot (drop n sizes) ≡ edge
following-last gaps edge slot sizes n all = at_drop_all (following gaps edge slot) sizes n all

pub following-more : (gaps : Gaps) (edge slot : ℕ) (sizes : List ℕ) (n : ℕ) → n < length sizes →
    following gaps edge slot (drop n sizes) ≡ gap_after gaps slot
following-more gaps edge slot sizes n more = at_drop_more (following gaps edge slot) sizes n 0 more

pub sum-drop : (sizes : List ℕ) (n : ℕ) → n < length sizes → sum (drop n sizes) ≡ get_or sizes n 0 + sum (drop (n + 1) sizes)
sum-drop sizes n more = at_drop_more sum sizes n 0 more ∙ sum_by-cons (λ x. x) (get_or sizes n 0) (drop (n + 1) sizes)

-- ---- the lines among the gaps

-- the lines of their own after the slot: one, or none
abbrev line_after : Lined → ℕ → ℕ
line_after lined slot = if is_lined lined slot then 1 else 0

-- the lines of their own after `count` slots, of which the first is `slot`
abbrev pub lines_from : Lined → ℕ → ℕ → ℕ
lines_from lined slot zero = 0
lines_from lined slot (suc count) = line_after lined slot + lines_from lined (slot + 1) count

-- one more slot, and the gap after it
pub lines-next : (gaps : Gaps) (slot count : ℕ) →
    gaps.between + lines_from gaps.lined slot (suc count) ≡ gap_after gaps slot + lines_from gaps.lined (slot + 1) count
lines-next gaps slot count = next (is_lined gaps.lined slot) where
  next : (line : Bool) → gaps.between + ((if line then 1 else 0) + lines_from gaps.lined (slot + 1) count)
      ≡ (if line then gaps.between + 1 else gaps.between) + lines_from gaps.lined (slot + 1) count
  next true = omega arith
  next false = omega arith

-- one more slot at the end
lines-last : (lined : Lined) (slot count : ℕ) →
    lines_from lined slot (suc count) ≡ lines_from lined slot count + line_after lined (slot + count)
lines-last lined slot zero = let here : slot ≡ slot + zero = omega arith in omega (arith, ap (line_after lined) here)
lines-last lined slot (suc count) =
    let next : slot + 1 + count ≡ slot + suc count = omega arith in
    omega (arith, lines-last lined (slot + 1) count, ap (line_after lined) next)

-- those after the first slots
pub lines-first : (lined : Lined) (count : ℕ) → lines_from lined 1 count ≡ lines_after lined count
lines-first lined zero = refl
lines-first lined (suc count) =
    let next : 1 + count ≡ suc count = omega arith in
    omega (arith, lines-last lined 1 count, lines-first lined count, ap (line_after lined) next)

-- more slots have no fewer
pub lines-more : (lined : Lined) (from past : ℕ) → from ≤ past → lines_after lined from ≤ lines_after lined past
lines-more lined from zero within =
    let none : from ≡ zero = omega (arith, within) in
    omega (arith, ap (lines_after lined) none)
lines-more lined from (suc past) within = elim (cases_lt from (suc past)) [
  | inl less ↦ omega (arith, lines-more lined from past (omega (arith, less)))
  | inr more ↦
      let same : from ≡ suc past = omega (arith, within, more) in
      omega (arith, ap (lines_after lined) same)
]

-- none stand after any slot
pub lines-no : (count : ℕ) → lines_after No count ≡ 0
lines-no zero = refl
lines-no (suc count) = omega (arith, lines-no count)

-- one stands after this slot alone
pub lines-one : (one count : ℕ) → 0 < one → lines_after (After one) count ≡ (if nat_le one count then 1 else 0)
lines-one one zero some = grind (arith, tests)
lines-one one (suc count) some = grind (arith, tests, lines-one one count some)

-- one stands after each slot from this one on
pub lines-each : (first count : ℕ) → 0 < first → lines_after (From first) count ≡ count + 1 - first
lines-each first zero some = omega (arith, some)
lines-each first (suc count) some = grind (arith, tests, lines-each first count some)

-- ---- where slots begin, and where they end

-- one more size in front
pub position-cons : (gap size : ℕ) (sizes : List ℕ) (k : ℕ) → position gap (size ∷ sizes) (suc k) ≡ size + gap + position gap sizes k
position-cons gap size sizes k =
    let head = sum_by-cons (λ x. x) size (take k sizes) in
    let product : gap * suc k ≡ gap * k + gap = grind arith in
    omega (arith, head, product)

from-begins : (gaps : Gaps) (edge slot from : ℕ) (sizes : List ℕ) (k : ℕ) (none : Strip) → k < length sizes →
    (get_or (strips_from gaps edge slot from sizes) (2 * k) none).from
    ≡ from + position gaps.between sizes k + lines_from gaps.lined slot k
from-begins gaps edge slot from [] k none within = absurd (omega arith)
from-begins gaps edge slot from (size ∷ sizes) zero none within = omega arith
from-begins gaps edge slot from (size ∷ sizes) (suc k) none within =
    let twice : 2 * suc k ≡ suc (suc (2 * k)) = omega arith in
    let rest = from-begins gaps edge (slot + 1) (from + size + gap_after gaps slot) sizes k none (omega arith) in
    rw twice (omega (arith, rest, position-cons gaps.between size sizes k, lines-next gaps slot k))

from-ends : (gap edge slot from : ℕ) (sizes : List ℕ) (k : ℕ) (none : Strip) → k < length sizes →
    (get_or (strips_from (even gap) edge slot from sizes) (2 * k + 1) none).from + gap ≡ from + position gap sizes (suc k)
from-ends gap edge slot from [] k none within = absurd (omega arith)
from-ends gap edge slot from (size ∷ sizes) zero none within = let head = sum_by-cons (λ x. x) size [] in omega (arith, head)
from-ends gap edge slot from (size ∷ sizes) (suc k) none within =
    let twice : 2 * suc k + 1 ≡ suc (suc (2 * k + 1)) = omega arith in
    let rest = from-ends gap edge (slot + 1) (from + size + gap) sizes k none (omega arith) in
    rw twice (omega (arith, rest, position-cons gap size sizes (suc k)))

pub begins : (gaps : Gaps) (edge : ℕ) (sizes : List ℕ) (place : ℕ) (none : Strip) → place < length sizes →
    (get_or (strips gaps edge sizes) (2 * place + 1) none).from ≡ edge + begin_in gaps sizes place
begins gaps edge [] place none within = absurd (omega arith)
begins gaps edge (size ∷ sizes) place none within =
    let next : 2 * place + 1 ≡ suc (2 * place) = omega arith in
    let first = from-begins gaps edge 1 edge (size ∷ sizes) place none within in
    rw next (omega (arith, first, lines-first gaps.lined place))

-- where all gaps are the same
begins-even : (gap edge : ℕ) (sizes : List ℕ) (place : ℕ) (none : Strip) → place < length sizes →
    (get_or (strips (even gap) edge sizes) (2 * place + 1) none).from ≡ edge + position gap sizes place
begins-even gap edge sizes place none within = omega (arith, begins (even gap) edge sizes place none within, lines-no place)

pub ends : (gap edge : ℕ) (sizes : List ℕ) (past : ℕ) (none : Strip) → 0 < past → past ≤ length sizes →
    (get_or (strips (even gap) edge sizes) (2 * past) none).from + gap ≡ edge + position gap sizes past
ends gap edge sizes zero none some within = absurd (omega arith)
ends gap edge [] (suc k) none some within = absurd (omega arith)
ends gap edge (size ∷ sizes) (suc k) none some within =
    let next : 2 * suc k ≡ suc (2 * k + 1) = omega arith in
    rw next (from-ends gap edge 1 edge (size ∷ sizes) k none (omega arith))

-- a room reaches from the begin of its first slot to the end of its last
pub rooms : (gap edge : ℕ) (sizes : List ℕ) (from past : ℕ) (none : Strip) → from < past → past ≤ length sizes →
    (get_or (strips (even gap) edge sizes) (2 * past) none).from - (get_or (strips (even gap) edge sizes) (2 * from + 1) none).from
    ≡ room gap sizes from past
rooms gap edge sizes from past none ahead within =
    omega (
      arith,
      begins-even gap edge sizes from none (omega arith),
      ends gap edge sizes past none (omega arith) within,
      room-position gap sizes from past ahead,
    )

-- ---- how many there are, and where the last one ends

length-from : (gaps : Gaps) (edge slot from : ℕ) (sizes : List ℕ) → length (strips_from gaps edge slot from sizes) ≡ 2 * length sizes
length-from gaps edge slot from [] = refl
length-from gaps edge slot from (size ∷ sizes) =
    omega (arith, length-from gaps edge (slot + 1) (from + size + gap_after gaps slot) sizes)

-- no strip, no size
pub total-none : (gap edge : ℕ) (sizes : List ℕ) → length (strips (even gap) edge sizes) ≡ 0 → 0 ≡ total gap (2 * edge) sizes
total-none gap edge [] none = refl
total-none gap edge (size ∷ sizes) none = absurd (omega arith)

pub total-last : (gap edge : ℕ) (sizes : List ℕ) (none : Strip) → 0 < length (strips (even gap) edge sizes) →
    (get_or (strips (even gap) edge sizes) (length (strips (even gap) edge sizes) - 1) none).from + edge ≡ total gap (2 * edge) sizes
total-last gap edge [] none some = absurd (omega arith)
total-last gap edge (size ∷ sizes) none some =
    let last : length (strips (even gap) edge (size ∷ sizes)) - 1 ≡ 2 * length (size ∷ sizes) =
    omega (arith, length-from (even gap) edge 1 edge (size ∷ sizes)) in
    let end = ends gap edge (size ∷ sizes) (length (size ∷ sizes)) none (omega arith) (omega arith) in
    let whole = total-position gap (2 * edge) (size ∷ sizes) (omega arith) in
    ap (λ place. (get_or (strips (even gap) edge (size ∷ sizes)) place none).from + edge) last ∙ omega (arith, end, whole)
