-- A bound that is implied changes nothing, one that closes a way round below 0 ends all positions, any other improves
-- every pair.
use Rattle.std.proofs.Common.{negsuc, ◌-ℤ◌, arith, refl}
use Rattle.std.specs.Int.{w32}
use Rattle.std.proofs.lemmas.Int.{ints, to_z-of_z}
use Rattle.tl_diff.specs.Bounds.{bounds_of, bound_at}
use Rattle.tl_diff.specs.inner.Closed.{AtMost}
use Rattle.tl_diff.proofs.AtMostLemmas.{AtMost-more}
use Rattle.tl_diff.proofs.InsertionLemmas.{IsRowSmall-sound, AddsBound-implied, AddsBound-refused, IsSound-refused, no_cycle}
use Rattle.tl_diff.proofs.InsertionLemmas.{AddsBound-sound, IsSound-improved}
use Rattle.tl_diff.proofs.insertion.add.Goals as goal

pub returns-then-is_at_most-clause-adds : goal.returns-then-is_at_most-clause-adds
returns-then-is_at_most-clause-adds c =
    let same = to_z-of_z w32 c.args.most c.ranges.most in
    AddsBound-implied c.args.variables c.args.rows.now c.args.a c.args.b c.args.most c.requires.begins c.requires.ends
    (rw same at (c.if-is_at_most.ensures.0 refl))

pub returns-then-is_at_most-2-clause-adds : goal.returns-then-is_at_most-2-clause-adds
returns-then-is_at_most-2-clause-adds c =
    let same = to_z-of_z w32 c.args.most c.ranges.most in
    let back = AtMost-more (bound_at (bounds_of c.args.variables c.args.rows.now) c.args.b c.args.a) _ (negsuc 0 -ℤ c.args.most)
    (c.if-is_at_most-2.ensures.0 refl) (omega (arith, ints)) in
    rw same
    (AddsBound-refused c.args.variables c.args.rows.now c.args.a c.args.b c.args.most c.requires.begins c.requires.ends
    c.requires.sound.pairs
    (c.requires.sound.exact refl) back)

pub returns-then-is_at_most-2-clause-sound : goal.returns-then-is_at_most-2-clause-sound
returns-then-is_at_most-2-clause-sound c =
    let same = to_z-of_z w32 c.args.most c.ranges.most in
    let back = AtMost-more (bound_at (bounds_of c.args.variables c.args.rows.now) c.args.b c.args.a) _ (negsuc 0 -ℤ c.args.most)
    (c.if-is_at_most-2.ensures.0 refl) (omega (arith, ints)) in
    rw same
    (IsSound-refused c.args.variables c.args.rows.now c.args.a c.args.b c.args.most c.requires.begins c.requires.ends
    c.requires.sound.pairs
    (c.requires.sound.exact refl) back c.requires.sound.some c.requires.sound.few)

pub improve-requires-clause-no_cycle : goal.improve-requires-clause-no_cycle
improve-requires-clause-no_cycle c =
    let same = to_z-of_z w32 c.args.most c.ranges.most in
    let closes = λ (k : AtMost (bound_at (bounds_of c.args.variables c.args.rows.now) c.args.b c.args.a)
    (negsuc 0 -ℤ c.args.most)).
    c.if-is_at_most-2.ensures.1 (AtMost-more (bound_at (bounds_of c.args.variables c.args.rows.now) c.args.b c.args.a)
    (negsuc 0 -ℤ c.args.most) _ k
    (omega (arith, ints))) in
    rw same (no_cycle c.args.variables c.args.rows.now c.args.a c.args.b c.args.most c.requires.begins c.requires.ends
    (λ k. let e = closes k in cc))

pub improve-requires-clause-small : goal.improve-requires-clause-small
improve-requires-clause-small c = λ p there.
    IsRowSmall-sound (bounds_of c.args.variables c.args.rows.now) p c.requires.sound.few (c.requires.sound.exact refl).small there

pub returns-clause-adds : goal.returns-clause-adds
returns-clause-adds c =
    let same = to_z-of_z w32 c.args.most c.ranges.most in
    AddsBound-sound c.args.variables c.args.rows.now c.args.a c.args.b c.args.most c.requires.begins c.requires.ends
    c.improve.new.rows
    (rw same at c.improve.ensures) (c.requires.sound.exact refl)

pub returns-clause-sound : goal.returns-clause-sound
returns-clause-sound c =
    let same = to_z-of_z w32 c.args.most c.ranges.most in
    let closes = λ (k : AtMost (bound_at (bounds_of c.args.variables c.args.rows.now) c.args.b c.args.a)
    (negsuc 0 -ℤ c.args.most)).
    c.if-is_at_most-2.ensures.1 (AtMost-more (bound_at (bounds_of c.args.variables c.args.rows.now) c.args.b c.args.a)
    (negsuc 0 -ℤ c.args.most) _ k
    (omega (arith, ints))) in
    let round = no_cycle c.args.variables c.args.rows.now c.args.a c.args.b c.args.most c.requires.begins c.requires.ends
    (λ k. let e = closes k in cc) in
    IsSound-improved c.args.variables c.args.rows.now c.args.a c.args.b c.args.most c.requires.begins c.requires.ends
    c.improve.new.rows
    (rw same at c.improve.ensures) (c.requires.sound.exact refl)
    c.requires.sound.some c.requires.sound.few c.requires.low c.requires.high round
