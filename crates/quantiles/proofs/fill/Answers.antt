use Prim.Native.Nat.{◌+◌}
use native.Mathlib.Omega.{arith}
use native.Mathlib.Nat.{le_antisymm}
use Rattle.quantiles.proofs.Tally.{filling_entry, filling_none, filling_done, filling_samples, filling_length, filling_small, filling_next}
use Rattle.quantiles.proofs.fill.Goals as goal

pub loop-i-init : goal.loop-i-init
loop-i-init c =
    let e = c.args.room.now in
    let s = c.args.signed in
    let h = c.requires in
    let l = c.clear_counts in
    let n = filling_length s e l.new.room 0 h (filling_entry s e l.new.room h l.ensures) in
    (omega arith, n, n, filling_none s e l.new.room h l.ensures)

pub count_in-requires : goal.count_in-requires
count_in-requires c =
    let l = c.loop-i in
    let s = c.args.signed in
    let f = filling_small s c.clear_counts.new.room l.room l.i l.invariant.1 l.invariant.3 c.bucket_of-place.result l.invariant.0 in
    (l.invariant.2, c.bucket_of-place.ensures.1, f)

pub loop-i-preserved : goal.loop-i-preserved
loop-i-preserved c =
    let l = c.loop-i in
    let b = c.bucket_of-place in
    let s = c.args.signed in
    let r = c.clear_counts.new.room in
    let e = filling_next s r l.room l.i l.invariant.1 l.invariant.3 b.result c.count_in.new.room c.loop-i-test.true b.ensures.0 c.count_in.ensures in (
      omega (arith, c.loop-i-test.true),
      l.invariant.1,
      filling_length s r c.count_in.new.room (l.i + 1) l.invariant.1 e,
      e,
    )

pub returns : goal.returns
returns c =
    let l = c.loop-i in
    let k = c.clear_counts in
    let a = c.args in
    let h = c.requires in
    filling_done a.signed a.room.now k.new.room l.room l.i (le_antisymm l.invariant.0 c.loop-i-test.false)
    (filling_samples a.signed a.room.now k.new.room 0 h (filling_entry a.signed a.room.now k.new.room h k.ensures)) l.invariant.3
