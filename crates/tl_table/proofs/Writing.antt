-- Cells that are written one after another, each at the place of its number.
use Rattle.std.proofs.Common.{◌≡◌, ◌∙◌, ℕ, ◌+◌, ◌<◌, ◌≤◌, Bool, List, [], ◌∷◌, ◌++◌, length, map, get_or, take, drop, refl, sym, ap, subst}
use Rattle.std.proofs.Common.{Option, Some, None, Vec, append_assoc}
use Rattle.std.proofs.Common.{length-append, arith}
use Rattle.std.specs.Iterator.{Yields}
use Rattle.std.specs.List.{flat_map}
use Rattle.std.specs.Vec.{vec_len}
use Rattle.std.specs.Vec.Iter.{into_iter_items, into_iter_len, into_iter_steps}
use Rattle.std.specs.declared.vec.IntoIter.{IntoIter}
use Rattle.std.proofs.lemmas.Grind.{flat_map-append}
use Rattle.std.proofs.lemmas.Iterator.Adapters.{YieldsList-from_vec}
use Rattle.std.proofs.lemmas.Iterator.Consumers.{YieldsList-end, YieldsList-so_far, YieldsList-turn}
use Rattle.std.proofs.lemmas.List.{append-nil, map-append, map-id, take_more, take-append-drop}
use Rattle.tl_base.specs.declared.breaking.Breaking.{Breaking}
use Rattle.tl_base.proofs.Zips.{AllZip-push, AllZip-append, AllZip-length}
use Rattle.tl_base.proofs.Taken.{joined_more}
use Rattle.tl_grid.specs.declared.shape.Place.{Place}
use Rattle.tl_tree.specs.declared.node.CellNode.{CellNode, out-CellNode}
use Rattle.tl_table.specs.declared.cell.TableCell.{TableCell, out-TableCell}
use Rattle.tl_table.specs.Formed.{Becomes, BecomesCell, Writes}
use Rattle.tl_table.specs.Tables.{is_in_head, place_of}

pub Writes-none : (breaking : Breaking) (places : List Place) (before : List TableCell) →
    map place_of before ≡ take (length before) places →
    Writes breaking [] [] places before before
Writes-none breaking places before placed =
    record { more = []; joined = sym (append-nil before); cells = tt; marked = refl; placed = placed }

pub Writes-length : (breaking : Breaking) (nodes : List CellNode) {marks : List Bool} (places : List Place)
    (before after : List TableCell) → Writes breaking nodes marks places before after → length after ≡ length before + length nodes
Writes-length breaking nodes {marks} places before after writes =
    let both = AllZip-length (λ node cell. BecomesCell (Becomes breaking) breaking (out-CellNode node) (out-TableCell cell))
    nodes writes.more writes.cells in
    omega (arith, ap length writes.joined, length-append before writes.more)

pub Writes-cell : (breaking : Breaking) (nodes : List CellNode) (node : CellNode) (mark : CellNode → Bool) (places : List Place)
    (before mid after : List TableCell) (cell : TableCell)
    (n : ℕ) (d : Place) → Writes breaking nodes (map mark nodes) places before mid →
    BecomesCell (Becomes breaking) breaking (out-CellNode node) (out-TableCell cell) → is_in_head cell ≡ mark node →
    n ≡ length mid → place_of cell ≡ get_or places n d → n < length places → after ≡ mid ++ cell ∷ [] →
    Writes breaking (nodes ++ node ∷ []) (map mark (nodes ++ node ∷ [])) places before after
Writes-cell breaking nodes node mark places before mid after cell n d writes becomes marked long at within pushed = record {
  more = writes.more ++ cell ∷ [];
  joined = pushed ∙ ap (λ (cells : List TableCell). cells ++ cell ∷ []) writes.joined ∙ append_assoc before writes.more
      (cell ∷ []);
  cells = AllZip-push (λ one made. BecomesCell (Becomes breaking) breaking (out-CellNode one) (out-TableCell made))
      nodes writes.more node cell
      writes.cells becomes;
  marked =
      map-append is_in_head writes.more (cell ∷ [])
      ∙ ap (λ (marks : List Bool). marks ++ is_in_head cell ∷ []) writes.marked
      ∙ ap (λ (last : Bool). map mark nodes ++ last ∷ []) marked
      ∙ sym (map-append mark nodes (node ∷ []));
  placed =
      ap (map place_of) pushed
      ∙ map-append place_of mid (cell ∷ [])
      ∙ ap (λ (rest : List Place). rest ++ place_of cell ∷ []) writes.placed
      ∙ ap (λ (p : Place). take (length mid) places ++ p ∷ []) (at ∙ ap (λ k. get_or places k d) long)
      ∙ sym (take_more places (length mid) d (omega arith))
      ∙ ap (λ k. take k places) (omega (arith, ap length pushed, length-append mid (cell ∷ [])));
}

pub Writes-more : (breaking : Breaking) (nodes others : List CellNode) (marks later : List Bool) (places : List Place)
    (before mid after : List TableCell) →
    Writes breaking nodes marks places before mid → Writes breaking others later places mid after →
    Writes breaking (nodes ++ others) (marks ++ later) places before after
Writes-more breaking nodes others marks later places before mid after first second = record {
  more = first.more ++ second.more;
  joined = second.joined ∙ ap (λ (cells : List TableCell). cells ++ second.more)
      first.joined ∙ append_assoc before first.more second.more;
  cells = AllZip-append (λ one made. BecomesCell (Becomes breaking) breaking (out-CellNode one) (out-TableCell made))
      nodes others first.more second.more
      first.cells second.cells;
  marked =
      map-append is_in_head first.more second.more
      ∙ ap (λ (begins : List Bool). begins ++ map is_in_head second.more) first.marked
      ∙ ap (λ (ends : List Bool). marks ++ ends) second.marked;
  placed = second.placed;
}

-- ---- items that a loop has come to

-- a loop over items has come to this one, after those that it yielded
pub record ComesTo {X : Type 0} (items yielded : List X) (x : X) : Type 0 where
  pub so_far : yielded ≡ take (length yielded) items
  pub within : length yielded < length items
  pub is : x ≡ get_or items (length yielded) x

pub comes_to : {X Z : Type 0} (from now next : IntoIter X Z) (vector : Vec X Z) {found : Option X} (items yielded : List X)
    (x : X) → vector.items ≡ items → into_iter_items from ≡ vector.items → into_iter_len from ≡ vec_len vector →
    Yields (into_iter_steps {X = X} {Z = Z}) from yielded now → found ≡ Some x → into_iter_steps now found next →
    ComesTo items yielded x
comes_to from now next vector {found = found} items yielded x all given long ran is step =
    let road = YieldsList-from_vec {s = from} items (given ∙ all) (long ∙ vector.ok.0 ∙ ap length all) in
    let turn = YieldsList-turn road yielded now ran found next x is step in record {
      so_far = sym (map-id yielded) ∙ YieldsList-so_far road yielded now ran;
      within = turn.0;
      is = turn.1;
    }

-- at its end it has yielded all
pub yielded_all : {X Z : Type 0} (from now next : IntoIter X Z) (vector : Vec X Z) {found : Option X} (items yielded : List X) →
    vector.items ≡ items → into_iter_items from ≡ vector.items → into_iter_len from ≡ vec_len vector →
    Yields (into_iter_steps {X = X} {Z = Z}) from yielded now → found ≡ None → into_iter_steps now found next →
    yielded ≡ items
yielded_all from now next vector {found = found} items yielded all given long ran is step =
    let road = YieldsList-from_vec {s = from} items (given ∙ all) (long ∙ vector.ok.0 ∙ ap length all) in
    sym (map-id yielded) ∙ (YieldsList-end road yielded now ran found next is step).0

-- the lists of the items so far, joined, and that of the next one are no longer than all
pub joined_room : {X Y : Type 0} (f : X → List Y) (xs : List X) (i : ℕ) (x : X) → i < length xs → x ≡ get_or xs i x →
    length (flat_map f (take i xs)) + length (f x) ≤ length (flat_map f xs)
joined_room {X = X} f xs i x within is =
    let whole = ap length (ap (flat_map f) (sym (take-append-drop (i + 1) xs)) ∙ flat_map-append f (take (i + 1) xs)
    (drop (i + 1) xs)) in
    let parts = length-append (flat_map f (take (i + 1) xs)) (flat_map f (drop (i + 1) xs)) in
    let more = ap length (joined_more f xs i x x within is) in
    let both = length-append (flat_map f (take i xs)) (f x) in
    omega arith

-- the cells of one more item
pub Writes-last : {X : Type 0} (breaking : Breaking) (f : X → List CellNode) (g : X → List Bool) (xs : List X) (x : X)
    (places : List Place) (before mid after : List TableCell) →
    Writes breaking (flat_map f xs) (flat_map g xs) places before mid → Writes breaking (f x) (g x) places mid after →
    Writes breaking (flat_map f (xs ++ x ∷ [])) (flat_map g (xs ++ x ∷ [])) places before after
Writes-last breaking f g xs x places before mid after first second =
    subst (λ (nodes : List CellNode). Writes breaking nodes (flat_map g (xs ++ x ∷ [])) places before after)
    (sym (flat_map-append f xs (x ∷ []) ∙ ap (λ (rest : List CellNode). flat_map f xs ++ rest) (append-nil (f x))))
    (subst (λ (marks : List Bool). Writes breaking (flat_map f xs ++ f x) marks places before after)
    (sym (flat_map-append g xs (x ∷ []) ∙ ap (λ (rest : List Bool). flat_map g xs ++ rest) (append-nil (g x))))
    (Writes-more breaking (flat_map f xs) (f x) (flat_map g xs) (g x) places before mid after first second))

-- cells so far leave room for those of one more item
pub Writes-room : {X : Type 0} (breaking : Breaking) (f : X → List CellNode) (xs : List X) (i : ℕ) (x : X)
    {marks : List Bool} (places : List Place) (before mid : List TableCell) → i < length xs → x ≡ get_or xs i x →
    Writes breaking (flat_map f (take i xs)) marks places before mid →
    length before + length (flat_map f xs) ≤ length places → length mid + length (f x) ≤ length places
Writes-room breaking f xs i x {marks} places before mid within is writes room =
    omega (arith, Writes-length breaking (flat_map f (take i xs)) places before mid writes, joined_room f xs i x within is)
