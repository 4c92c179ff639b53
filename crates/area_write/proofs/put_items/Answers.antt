use mathlib.Core.Path.{◌≡◌, refl, ap, ◌∙◌}
use Prim.Native.Nat.{◌+◌}
use native.Mathlib.Omega.{arith}
use lib.ListN.{get_or}
use lib.Seq.{paste, paste-zero}
use Rattle.area_write.specs.Write.{size_of, needed, row_of}
use Rattle.area_write.proofs.Laws.{this_good, needed-step, needed-none, row_length, row_on, put_on}
use Rattle.area_write.proofs.put_items.Goals as goal

pub loop-word-init : goal.loop-word-init
loop-word-init c = (omega arith, c.requires.0, refl, refl, paste-zero c.args.room.now 0 (row_of c.args.values.now c.args.items.now))

pub put_item-requires : goal.put_item-requires
put_item-requires c =
    let l = c.loop-word in
    let step = needed-step c.args.items.now l.word-index (omega arith) in
    ((this_good c.args.values.now c.args.items.now l.word-index (omega arith) l.invariant.1).0, omega (arith, step, l.invariant.0, l.invariant.3, c.requires.1))

pub overflow_add-at-in-loop-word : goal.overflow_add-at-in-loop-word
overflow_add-at-in-loop-word c =
    let l = c.loop-word in
    let step = needed-step c.args.items.now l.word-index (omega arith) in
    record { fits = omega (arith, c.length_of.ensures.0, step, l.invariant.0, c.requires.1) }

pub loop-word-preserved : goal.loop-word-preserved
loop-word-preserved c =
    let l = c.loop-word in
    let k = l.word-index in
    let values = c.args.values.now in
    let items = c.args.items.now in
    let step = needed-step items k (omega arith) in
    let size : c.length_of.result + 4 ≡ size_of (get_or items k 0) = omega (arith, c.length_of.ensures.0) in
    let room = put_on values items k l.at (c.length_of.result + 4) (omega arith) l.invariant.1 l.invariant.2 size c.args.room.now l.room _
    (omega (arith, size, step, l.invariant.0, c.requires.1)) (omega (arith, size, step, l.invariant.0, row_length values items c.requires.0)) l.invariant.4 c.put_item.ensures in (
      omega (arith, size, step, l.invariant.0),
      (this_good values items k (omega arith) l.invariant.1).1,
      row_on values items k l.at (c.length_of.result + 4) (omega arith) l.invariant.1 l.invariant.2 size,
      c.put_item.auto.room ∙ l.invariant.3,
      room,
    )

pub returns : goal.returns
returns c =
    let l = c.loop-word in
    let a = c.args in
    let none = needed-none a.items.now l.word-index (omega arith) (omega arith) in
    let all : l.at ≡ needed a.items.now = omega (arith, none, l.invariant.0) in
    l.invariant.4 ∙ ap (paste a.room.now 0 (row_of a.values.now a.items.now)) all
