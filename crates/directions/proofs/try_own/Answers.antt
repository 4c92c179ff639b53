use mathlib.Core.Path.{◌≡◌}
use Prim.Native.Nat.{ℕ, ◌+◌, ◌-◌, ◌*◌, ◌^◌, ◌≤◌, ◌<◌}
use native.Mathlib.Omega.{arith}
use Rattle.directions.specs.Directions.{part_size}
use Rattle.directions.proofs.Steps.{length_of, start_small, part-fits, tried_own}
use Rattle.directions.proofs.try_own.Goals as goal

ends : (start size : ℕ) → start ≤ part_size → size ≡ part_size → start + size < 2 ^ 64
ends start size h e = omega arith

begins : (start : ℕ) → start ≤ part_size → start * 8 < 2 ^ 64
begins start h = omega arith

pub overflow_add-end : goal.overflow_add-end
overflow_add-end c = record { fits = ends c.start_of-start.result c.room_size-size.result (start_small c.args.reverse _ c.start_of-start.ensures) c.room_size-size.ensures }

pub offset_bounds-slice-start : goal.offset_bounds-slice-start
offset_bounds-slice-start c = record { fits = begins c.start_of-start.result (start_small c.args.reverse _ c.start_of-start.ensures) }

pub slice_bounds-record_between-end : goal.slice_bounds-record_between-end
slice_bounds-record_between-end c = omega (arith, part-fits c.args.reverse _ _ _ c.room_size-size.ensures c.start_of-start.ensures c.if-slice-size.false, c.room_size-size.ensures)

pub returns : goal.returns
returns c =
    let a = c.args in
    let size = c.room_size-size in
    let start = c.start_of-start in
    let k : (start.result + size.result) - start.result ≡ part_size = length_of start.result size.ensures in
    tried_own a.own a.slice.now a.reverse a.value size.result start.result _ c.record_between.new.room c.requires size.ensures start.ensures c.if-slice-size.false k c.record_between.auto.room c.record_between.result c.record_between.ensures
