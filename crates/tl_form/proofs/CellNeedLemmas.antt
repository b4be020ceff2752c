-- What a cell needs, block by block: its heights are determined, where they begin, and their steps.
use Rattle.std.proofs.Common.{◌≡◌, ℕ, zero, suc, ◌+◌, ◌-◌, ◌<◌, ◌≤◌, max, List, [], ◌∷◌, ◌++◌, length, take, get_or, Option, Some}
use Rattle.std.proofs.Common.{None}
use Rattle.std.proofs.Common.{refl, sym, ap, subst, ◌∙◌, arith, sum}
use Rattle.std.specs.List.{All, AllZip, AllByRecursion}
use Rattle.std.specs.Option.{IsSomeAnd, option_map}
use Rattle.std.specs.declared.alloc.Global.{Global}
use Rattle.std.specs.declared.boxed.Box.{Box}
use Rattle.tl_base.specs.declared.limits.TheConstants.{MAX_HEIGHT}
use Rattle.tl_base.specs.declared.steps.Config.{Config}
use Rattle.tl_base.specs.Steps.{AreSteps, both_heights, first_height, first_width, height_at, stacked_height}
use Rattle.tl_base.proofs.Sums.{sum-cons, sum-one}
use Rattle.tl_base.proofs.Zips.{AllZip-push}
use Rattle.tl_base.proofs.Taken.{taken_more}
use Rattle.tl_problem.proofs.Heights.{height-from_first}
use Rattle.tl_text.specs.declared.paragraph.Atom.{Atom}
use Rattle.tl_text.specs.Cuttings.{HasCutting, LeastLines}
use Rattle.tl_text.proofs.Minimals.{AllFit-from_cutting}
use Rattle.tl_text.proofs.Paragraphs.{LeastLines-falls}
use Rattle.tl_table.specs.declared.cell.Content.{Content, out-Content}
use Rattle.tl_table.specs.declared.cell.Content.TheOpen as open_content
use Rattle.tl_table.specs.declared.cell.Table.{Table, out-Table}
use Rattle.tl_form.specs.declared.heights.InnerSteps.{InnerSteps}
use Rattle.tl_table.specs.Tables.{OpenCell, OpenContent, tables_of}
use Rattle.tl_form.specs.Problems.{AreStepsOf, BlockNeeds, CellNeeds, InnerNeeds, steps_for}
use Rattle.tl_form.specs.inner.CellSteps.{AreLowered, From, BlocksNeed, IsLowCell, IsPlainBlock, IsStart}
use Rattle.tl_form.proofs.LoweredSteps.{lowered-from}
use Rattle.tl_form.proofs.NeedSteps.{AreStepsOf-same, AreStepsOf-stacked, BothNeed, height-falls, height-first, first-least}
use Rattle.tl_form.proofs.ParagraphSteps.{lines-from_fit}

-- ---- what is needed is one height

-- no nested table needs two heights at one width
abbrev pub IsFunctional : (Table → ℕ → ℕ → Type 0) → Type 0
IsFunctional needs = (nested : Table) (w m n : ℕ) → needs nested w m → needs nested w n → m ≡ n

pub inner-functional : (bound : InnerSteps → List Config) (inner : List InnerSteps) → IsFunctional (InnerNeeds bound inner)
inner-functional bound inner nested w m n first second = by_steps (steps_for inner (out-Table nested).number) first second
  where
    by_steps : (o : Option InnerSteps) → IsSomeAnd o (λ one. height_at (bound one) w ≡ Some m) →
        IsSomeAnd o (λ one. height_at (bound one) w ≡ Some n) → m ≡ n
    by_steps None first second = absurd first
    by_steps (Some one) first second = let same : Some m ≡ Some n = sym first ∙ second in cc

module _ (needs : Table → ℕ → ℕ → Type 0) (functional : IsFunctional needs) where
  pub block-functional : (block : OpenContent) (w m n : ℕ) → BlockNeeds needs block w m → BlockNeeds needs block w n → m ≡ n
  block-functional (open_content.Para paragraph) w m n first second =
      omega (
        arith,
        LeastLines-falls w w paragraph m n (omega arith) first second,
        LeastLines-falls w w paragraph n m (omega arith) second first,
      )
  block-functional (open_content.Table box) w m n first second = functional box.value w m n first second

  heights-functional : (blocks : List Content) (w : ℕ) (one other : List ℕ) →
      AllZip (λ block height. BlockNeeds needs (out-Content block) w height) blocks one →
      AllZip (λ block height. BlockNeeds needs (out-Content block) w height) blocks other → one ≡ other
  heights-functional [] w [] [] first second = refl
  heights-functional [] w [] (n ∷ other) first second = absurd second
  heights-functional [] w (m ∷ one) other first second = absurd first
  heights-functional (block ∷ blocks) w [] other first second = absurd first
  heights-functional (block ∷ blocks) w (m ∷ one) [] first second = absurd second
  heights-functional (block ∷ blocks) w (m ∷ one) (n ∷ other) first second =
      let head = block-functional (out-Content block) w m n first.0 second.0 in
      let rest = heights-functional blocks w one other first.1 second.1 in
      cc

  pub blocks-functional : (blocks : List Content) (w m n : ℕ) → BlocksNeed needs blocks w m → BlocksNeed needs blocks w n → m ≡ n
  blocks-functional blocks w m n first second =
      sym first.2 ∙ ap sum (heights-functional blocks w first.0 second.0 first.1 second.1) ∙ second.2

  pub cell-functional : (inside : ℕ) (cell : OpenCell) (w m n : ℕ) → CellNeeds needs inside cell w m → CellNeeds needs inside cell w n →
      m ≡ n
  cell-functional inside cell w m n first second =
      sym first.all ∙ ap (λ heights. sum heights - inside) (heights-functional cell.blocks w first.heights second.heights first.blocks
      second.blocks) ∙ second.all

-- ---- block by block

sum-push : (ns : List ℕ) (n : ℕ) → sum (ns ++ n ∷ []) ≡ sum ns + n
sum-push [] n = omega (arith, sum-one n)
sum-push (m ∷ ns) n = omega (arith, sum-cons m (ns ++ n ∷ []), sum-cons m ns, sum-push ns n)

module _ (needs : Table → ℕ → ℕ → Type 0) where
  pub none-needed : (w : ℕ) → BlocksNeed needs [] w 0
  none-needed w = ([], tt, refl)

  none-is : (w h : ℕ) → BlocksNeed needs [] w h → h ≡ 0
  none-is w h ([], those, all) = sym all
  none-is w h (n ∷ ns, those, all) = absurd those

  pub one-more : (blocks : List Content) (block : Content) (w m n : ℕ) → BlocksNeed needs blocks w m →
      BlockNeeds needs (out-Content block) w n →
      BlocksNeed needs (blocks ++ block ∷ []) w (m + n)
  one-more blocks block w m n before here = (
    before.0 ++ n ∷ [],
    AllZip-push (λ one height. BlockNeeds needs (out-Content one) w height) blocks before.0 block n before.1 here,
    sum-push before.0 n ∙ ap (λ k. k + n) before.2,
  )

  pub one-less : (blocks : List Content) (block : Content) (w h : ℕ) → BlocksNeed needs (blocks ++ block ∷ []) w h →
      (m n : ℕ) × BlocksNeed needs blocks w m × BlockNeeds needs (out-Content block) w n × (m + n ≡ h)
  one-less [] block w h ([], those, all) = absurd those
  one-less [] block w h (n ∷ [], those, all) = (0, n, none-needed w, those.0, omega (arith, sum-one n, all))
  one-less [] block w h (n ∷ k ∷ ns, those, all) = absurd those.1
  one-less (one ∷ blocks) block w h ([], those, all) = absurd those
  one-less (one ∷ blocks) block w h (n ∷ ns, those, all) =
      let rest = one-less blocks block w (sum ns) (ns, those.1, refl) in (
        n + rest.0,
        rest.1,
        (n ∷ rest.2.0, (those.0, rest.2.1), sum-cons n rest.2.0 ∙ ap (λ k. n + k) rest.2.2),
        rest.3,
        omega (arith, rest.4, sum-cons n ns, all),
      )

  -- the first blocks need no more than all
  pub first-blocks : (k : ℕ) (blocks : List Content) (w h : ℕ) → BlocksNeed needs blocks w h →
      (m : ℕ) × BlocksNeed needs (take k blocks) w m × (m ≤ h)
  first-blocks zero blocks w h all = (0, none-needed w, omega arith)
  first-blocks (suc k) [] w h all = (h, all, omega arith)
  first-blocks (suc k) (block ∷ blocks) w h ([], those, all) = absurd those
  first-blocks (suc k) (block ∷ blocks) w h (n ∷ ns, those, all) =
      let rest = first-blocks k blocks w (sum ns) (ns, those.1, refl) in (
        sum (n ∷ rest.1.0),
        (n ∷ rest.1.0, (those.0, rest.1.1), refl),
        omega (arith, sum-cons n rest.1.0, sum-cons n ns, rest.2, rest.1.2, all),
      )

  -- each block needs some height
  pub block-at : (blocks : List Content) (w h k : ℕ) (block : Content) → BlocksNeed needs blocks w h → k < length blocks →
      block ≡ get_or blocks k block → (n : ℕ) × BlockNeeds needs (out-Content block) w n
  block-at [] w h k block all within is = absurd (omega (arith, within))
  block-at (one ∷ blocks) w h k block ([], those, all) within is = absurd those
  block-at (one ∷ blocks) w h zero block (n ∷ ns, those, all) within is =
      (n, subst (λ (b : Content). BlockNeeds needs (out-Content b) w n) (sym is) those.0)
  block-at (one ∷ blocks) w h (suc k) block (n ∷ ns, those, all) within is =
      block-at blocks w (sum ns) k block (ns, those.1, refl) (omega arith) is

  -- a cell needs so many lines less than its blocks as lie inside it
  pub cell-blocks : (inside : ℕ) (cell : OpenCell) (w h : ℕ) → CellNeeds needs inside cell w h →
      (n : ℕ) × BlocksNeed needs cell.blocks w n × (n - inside ≡ h)
  cell-blocks inside cell w h need = (sum need.heights, (need.heights, need.blocks, refl), need.all)

  pub blocks-cell : (inside : ℕ) (cell : OpenCell) (w n : ℕ) → cell.least ≤ w → BlocksNeed needs cell.blocks w n →
      CellNeeds needs inside cell w (n - inside)
  blocks-cell inside cell w n floor all =
      record { floor = floor; heights = all.0; blocks = all.1; all = ap (λ k. k - inside) all.2 }

  -- ---- where a cell begins

  -- the blocks so far have a height from `start` columns on
  abbrev pub StartSoFar : ℕ → List Content → ℕ → Type 0
  StartSoFar floor blocks start = IsStart (λ w h. (floor ≤ w) × BlocksNeed needs blocks w h) start

  pub start-none : (floor : ℕ) → StartSoFar floor [] floor
  start-none floor = record { from = λ w h all. all.0; has = λ w wide. (0, (wide, none-needed w)) }

  pub start-more : (floor : ℕ) (blocks : List Content) (block : Content) (start more : ℕ) → StartSoFar floor blocks start →
      IsStart (BlockNeeds needs (out-Content block)) more → StartSoFar floor (blocks ++ block ∷ []) (max start more)
  start-more floor blocks block start more before here = record {
    from = λ w h all.
        let less = one-less blocks block w h all.1 in
        omega (arith, before.from w less.0 (all.0, less.2), here.from w less.1 less.3);
    has = λ w wide.
        let first = before.has w (omega (arith, wide)) in
        let last = here.has w (omega (arith, wide)) in
        (first.0 + last.0, (first.1.0, one-more blocks block w first.0 last.0 first.1.1 last.1));
  }

  pub start-all : (inside : ℕ) (cell : OpenCell) (start : ℕ) → StartSoFar cell.least cell.blocks start →
      IsStart (CellNeeds needs inside cell) start
  start-all inside cell start so_far = record {
    from = λ w h need. let all = cell-blocks inside cell w h need in so_far.from w all.0 (need.floor, all.1);
    has = λ w wide. let some = so_far.has w wide in (some.0 - inside, blocks-cell inside cell w some.0 some.1.0 some.1.1);
  }

  -- ---- steps of the blocks so far

  abbrev pub StepsSoFar : ℕ → ℕ → List Content → List Config → Type 0
  StepsSoFar start page blocks steps = AreStepsOf (From start (BlocksNeed needs blocks)) page steps

  pub steps-none : (start page : ℕ) (steps : List Config) → AreStepsOf (From start (λ w h. h ≡ 0)) page steps →
      StepsSoFar start page [] steps
  steps-none start page steps of =
      AreStepsOf-same (From start (λ w h. h ≡ 0)) (From start (BlocksNeed needs [])) page steps
      (λ w h within need. (need.0, subst (λ n. BlocksNeed needs [] w n) (sym need.1) (none-needed w)))
      (λ w h within need. (need.0, none-is w h need.1)) of

  pub steps-more : (start page : ℕ) (blocks : List Content) (block : Content) (before here steps : List Config) →
      StepsSoFar start page blocks before →
      AreStepsOf (From start (BlockNeeds needs (out-Content block))) page here → AreSteps steps →
      ((w : ℕ) → height_at steps w ≡ stacked_height before here w) → StepsSoFar start page (blocks ++ block ∷ []) steps
  steps-more start page blocks block before here steps of_before of_here are heights =
      AreStepsOf-same (BothNeed (From start (BlocksNeed needs blocks)) (From start (BlockNeeds needs (out-Content block))))
      (From start (BlocksNeed needs (blocks ++ block ∷ []))) page steps
      (λ w h within need. (
        need.2.0,
        subst (λ n. BlocksNeed needs (blocks ++ block ∷ []) w n) need.4 (one-more blocks block w need.0 need.1 need.2.1 need.3.1),
      ))
      (λ w h within need.
      let less = one-less blocks block w h need.1 in
      (less.0, less.1, (need.0, less.2), (need.0, less.3), less.4))
      (AreStepsOf-stacked (From start (BlocksNeed needs blocks)) (From start (BlockNeeds needs (out-Content block)))
      page before here steps of_before
      of_here are heights)

  -- so many lines lower they are those of the cell
  pub steps-all : (page inside : ℕ) (cell : OpenCell) (start : ℕ) (steps low : List Config) →
      IsStart (CellNeeds needs inside cell) start → StepsSoFar start page cell.blocks steps → AreLowered inside steps low →
      AreStepsOf (CellNeeds needs inside cell) page low
  steps-all page inside cell start steps low begins of lower = record {
    decreasing = lower.decreasing;
    within = lower.within page of.within;
    each = λ w h within. (there w h within, back w h within);
  } where
    there : (w h : ℕ) → w ≤ page → height_at low w ≡ Some h → CellNeeds needs inside cell w h
    there w h within is =
        let high = lowered-from inside (height_at steps w) h (sym (lower.heights w) ∙ is) in
        let need = (of.each w high.0 within).0 high.1 in
        let some = begins.has w need.0 in
        subst (λ k. CellNeeds needs inside cell w k) high.2 (blocks-cell inside cell w high.0 some.1.floor need.1)

    back : (w h : ℕ) → w ≤ page → CellNeeds needs inside cell w h → height_at low w ≡ Some h
    back w h within need =
        let all = cell-blocks inside cell w h need in
        lower.heights w ∙ ap (option_map (λ k. k - inside)) ((of.each w all.0 within).1 (begins.from w h need, all.1)) ∙ ap Some all.2

-- ---- where steps begin

-- steps of what is needed from a width on begin there
pub from-first : (needs : ℕ → ℕ → Type 0) (start page h : ℕ) (steps : List Config) → start ≤ page →
    AreStepsOf (From start needs) page steps →
    needs start h → (first_width steps ≡ start) × needs start (first_height steps)
from-first needs start page h steps within of need =
    let here = (of.each start h within).1 (omega arith, need) in
    let least = first-least steps of.decreasing start h here in
    let first = (of.each (first_width steps) (first_height steps) (omega (arith, least, within))).0
    (height-first steps of.decreasing) in
    let same : first_width steps ≡ start = omega (arith, least, first.0) in
    (same, subst (λ w. needs w (first_height steps)) same first.1)

-- the first height of the blocks so far and of the next are together no more than that of the cell
pub low-together : (needs : Table → ℕ → ℕ → Type 0) → IsFunctional needs → (lines : ℕ) (cell : OpenCell) (page start k : ℕ)
    (block : Content) (before here : List Config) → IsLowCell needs page lines cell → IsStart (CellNeeds needs lines cell) start →
    k < length cell.blocks → block ≡ get_or cell.blocks k block → StepsSoFar needs start page (take k cell.blocks) before →
    AreStepsOf (From start (BlockNeeds needs (out-Content block))) page here →
    first_height before + first_height here ≤ MAX_HEIGHT + lines
low-together needs functional lines cell page start k block before here low begins inside is of_before of_here =
    let within : start ≤ page = begins.from page low.some.0 low.some.1 in
    let whole = begins.has start (omega arith) in
    let small = low.low start whole.0 begins whole.1 in
    let all = cell-blocks needs lines cell start whole.0 whole.1 in
    let first = first-blocks needs (k + 1) cell.blocks start all.0 all.1 in
    let less = one-less needs (take k cell.blocks) block start first.0
    (subst (λ (blocks : List Content). BlocksNeed needs blocks start first.0) (taken_more cell.blocks k block block inside is) first.1) in
    let one = from-first (BlocksNeed needs (take k cell.blocks)) start page less.0 before within of_before less.2 in
    let other = from-first (BlockNeeds needs (out-Content block)) start page less.1 here within of_here less.3 in
    let same_one = blocks-functional needs functional (take k cell.blocks) start (first_height before) less.0 one.1 less.2 in
    let same_other = block-functional needs functional (out-Content block) start (first_height here) less.1 other.1 less.3 in
    omega (arith, same_one, same_other, less.4, first.2, all.2, small)

-- below what needs no line nothing is added
both-none : (o : Option ℕ) → both_heights o None ≡ None
both-none None = refl
both-none (Some m) = refl

pub stacked-below : (above below : List Config) → AreSteps above → AreSteps below → first_height above ≡ 0 →
    first_width above ≤ first_width below → (w : ℕ) → height_at below w ≡ stacked_height above below w
stacked-below above below is_above is_below flat narrow w = by_height (height_at below w) refl
  where
    by_height : (o : Option ℕ) → height_at below w ≡ o → height_at below w ≡ stacked_height above below w
    by_height None at = at ∙ sym (both-none (height_at above w)) ∙ ap (both_heights (height_at above w)) (sym at)
    by_height (Some h) at =
        let wide = first-least below is_below w h at in
        let some = height-from_first above is_above.has_step w (omega (arith, wide, narrow)) in
        let fall = height-falls above is_above (first_width above) w (first_height above) some.0 (omega (arith, wide, narrow))
        (height-first above is_above) some.1 in
        let none : some.0 ≡ 0 = omega (arith, fall, flat) in
        let same : h ≡ 0 + h = omega arith in
        at ∙ ap Some same ∙ sym (ap (λ o. both_heights o (Some h)) (some.1 ∙ ap Some none)) ∙ ap (both_heights (height_at above w)) (sym at)

-- steps begin at their first width
pub steps-begin : (steps : List Config) → AreSteps steps → IsStart (λ w h. height_at steps w ≡ Some h) (first_width steps)
steps-begin steps are = record {
  from = λ w h is. first-least steps are w h is;
  has = λ w wide. height-from_first steps are.has_step w wide;
}

-- ---- where no table is nested

module _ (needs others : Table → ℕ → ℕ → Type 0) where
  plain-block : (block : OpenContent) (w h : ℕ) → tables_of block ≡ [] → BlockNeeds needs block w h → BlockNeeds others block w h
  plain-block (open_content.Para paragraph) w h none need = need
  plain-block (open_content.Table box) w h none need = absurd cc

  plain-blocks : (blocks : List Content) (w : ℕ) (heights : List ℕ) → AllByRecursion IsPlainBlock blocks →
      AllZip (λ block height. BlockNeeds needs (out-Content block) w height) blocks heights →
      AllZip (λ block height. BlockNeeds others (out-Content block) w height) blocks heights
  plain-blocks [] w [] plain need = tt
  plain-blocks [] w (h ∷ heights) plain need = absurd need
  plain-blocks (block ∷ blocks) w [] plain need = absurd need
  plain-blocks (block ∷ blocks) w (h ∷ heights) plain need = (
    plain-block (out-Content block) w h plain.0 need.0,
    plain-blocks blocks w heights plain.1 need.1,
  )

  -- the cell needs the same, whatever nested tables need
  pub plain-cell : (inside : ℕ) (cell : OpenCell) (w h : ℕ) → AllByRecursion IsPlainBlock cell.blocks →
      CellNeeds needs inside cell w h → CellNeeds others inside cell w h
  plain-cell inside cell w h plain need = record {
    floor = need.floor;
    heights = need.heights;
    blocks = plain-blocks cell.blocks w need.heights plain need.blocks;
    all = need.all;
  }

pub plain-steps : (needs others : Table → ℕ → ℕ → Type 0) (page inside : ℕ) (cell : OpenCell) (steps : List Config) →
    AllByRecursion IsPlainBlock cell.blocks → AreStepsOf (CellNeeds needs inside cell) page steps →
    AreStepsOf (CellNeeds others inside cell) page steps
plain-steps needs others page inside cell steps plain of =
    AreStepsOf-same (CellNeeds needs inside cell) (CellNeeds others inside cell) page steps
    (λ w h within need. plain-cell needs others inside cell w h plain need)
    (λ w h within need. plain-cell others needs inside cell w h plain need) of

-- ---- a block by its kind

pub paragraph-begins : (needs : Table → ℕ → ℕ → Type 0) (block : OpenContent) (paragraph : List Atom) (start : ℕ) →
    block ≡ open_content.Para paragraph → ((w : ℕ) → start ≤ w → HasCutting w paragraph) →
    ((w : ℕ) → HasCutting w paragraph → start ≤ w) →
    IsStart (BlockNeeds needs block) start
paragraph-begins needs block paragraph start is holds least =
    subst (λ (any : OpenContent). IsStart (BlockNeeds needs any) start) (sym is) (record {
      from = λ w h lines. let cut = lines.attained in least w (cut.0, cut.1, cut.2);
      has = λ w wide. lines-from_fit w paragraph (AllFit-from_cutting w paragraph (holds w wide));
    })

-- a nested table has the steps that are found for it
module _ (bound : InnerSteps → List Config) (inner : List InnerSteps) (nested : Table) (steps : List Config) where
  pub needs-from_steps : IsSomeAnd (steps_for inner (out-Table nested).number) (λ one. steps ≡ bound one) → (w h : ℕ) →
      height_at steps w ≡ Some h →
      InnerNeeds bound inner nested w h
  needs-from_steps found w h is = by_steps (steps_for inner (out-Table nested).number) found
    where
      by_steps : (o : Option InnerSteps) → IsSomeAnd o (λ one. steps ≡ bound one) →
          IsSomeAnd o (λ one. height_at (bound one) w ≡ Some h)
      by_steps None found = absurd found
      by_steps (Some one) found = subst (λ any. height_at any w ≡ Some h) found is

  pub steps-from_needs : IsSomeAnd (steps_for inner (out-Table nested).number) (λ one. steps ≡ bound one) → (w h : ℕ) →
      InnerNeeds bound inner nested w h → height_at steps w ≡ Some h
  steps-from_needs found w h is = by_steps (steps_for inner (out-Table nested).number) found is
    where
      by_steps : (o : Option InnerSteps) → IsSomeAnd o (λ one. steps ≡ bound one) →
          IsSomeAnd o (λ one. height_at (bound one) w ≡ Some h) →
          height_at steps w ≡ Some h
      by_steps None found is = absurd found
      by_steps (Some one) found is = subst (λ any. height_at any w ≡ Some h) (sym found) is

pub table-begins : (bound : InnerSteps → List Config) (inner : List InnerSteps) (block : OpenContent) (box : Box Table Global)
    (nested : Table)
    (steps : List Config) (start : ℕ) → block ≡ open_content.Table box → nested ≡ box.value →
    IsSomeAnd (steps_for inner (out-Table nested).number) (λ one. steps ≡ bound one) →
    IsStart (λ w h. height_at steps w ≡ Some h) start →
    IsStart (BlockNeeds (InnerNeeds bound inner) block) start
table-begins bound inner block box nested steps start is same found begins =
    subst (λ (any : OpenContent). IsStart (BlockNeeds (InnerNeeds bound inner) any) start) (sym is)
    (subst (λ (any : Table). IsStart (InnerNeeds bound inner any) start) same (record {
      from = λ w h need. begins.from w h (steps-from_needs bound inner nested steps found w h need);
      has = λ w wide. let some = begins.has w wide in (some.0, needs-from_steps bound inner nested steps found w some.0 some.1);
    }))

-- a block's height and steps, by its kind
pub paragraph-height : (needs : Table → ℕ → ℕ → Type 0) (block : OpenContent) (paragraph : List Atom) (w h : ℕ) →
    block ≡ open_content.Para paragraph →
    LeastLines w paragraph h → BlockNeeds needs block w h
paragraph-height needs block paragraph w h is least = subst (λ (any : OpenContent). BlockNeeds needs any w h) (sym is) least

pub height-paragraph : (needs : Table → ℕ → ℕ → Type 0) (block : OpenContent) (paragraph : List Atom) (w h : ℕ) →
    block ≡ open_content.Para paragraph →
    BlockNeeds needs block w h → LeastLines w paragraph h
height-paragraph needs block paragraph w h is need = subst (λ (any : OpenContent). BlockNeeds needs any w h) is need

module _ (bound : InnerSteps → List Config) (inner : List InnerSteps) (block : OpenContent) (box : Box Table Global)
    (nested : Table)
    (steps : List Config) (is : block ≡ open_content.Table box) (same : nested ≡ box.value)
    (found : IsSomeAnd (steps_for inner (out-Table nested).number) (λ one. steps ≡ bound one)) where
  pub table-height : (w h : ℕ) → height_at steps w ≡ Some h → BlockNeeds (InnerNeeds bound inner) block w h
  table-height w h at =
      subst (λ (any : OpenContent). BlockNeeds (InnerNeeds bound inner) any w h) (sym is)
      (subst (λ (any : Table). InnerNeeds bound inner any w h) same (needs-from_steps bound inner nested steps found w h at))

  pub height-table : (w h : ℕ) → BlockNeeds (InnerNeeds bound inner) block w h → height_at steps w ≡ Some h
  height-table w h need =
      steps-from_needs bound inner nested steps found w h
      (subst (λ (any : Table). InnerNeeds bound inner any w h) (sym same)
      (subst (λ (any : OpenContent). BlockNeeds (InnerNeeds bound inner) any w h) is need))

-- steps that begin at a width are their own from there on
pub own-between : (from page : ℕ) (steps : List Config) → AreSteps steps → All (λ step. step.width ≤ page) steps →
    first_width steps ≡ from → AreStepsOf (From from (λ w h. height_at steps w ≡ Some h)) page steps
own-between from page steps are within begins = record {
  decreasing = are;
  within = within;
  each = λ w h narrow. (λ is. (omega (arith, first-least steps are w h is, begins), is), λ both. both.1);
}

-- the steps between two widths of a block's steps are those of the block
pub block-between : (needs : Table → ℕ → ℕ → Type 0) (block : OpenContent) (from page : ℕ) (steps cut : List Config) →
    ((w h : ℕ) → w ≤ page → height_at steps w ≡ Some h → BlockNeeds needs block w h) →
    ((w h : ℕ) → w ≤ page → BlockNeeds needs block w h → height_at steps w ≡ Some h) →
    AreStepsOf (From from (λ w h. height_at steps w ≡ Some h)) page cut → AreStepsOf (From from (BlockNeeds needs block)) page cut
block-between needs block from page steps cut there back of =
    AreStepsOf-same (From from (λ w h. height_at steps w ≡ Some h)) (From from (BlockNeeds needs block)) page cut
    (λ w h within both. (both.0, there w h within both.1)) (λ w h within both. (both.0, back w h within both.1)) of
