use mathlib.Core.Path.{◌≡◌, refl, ap, ◌∙◌}
use Prim.Native.Nat.{◌+◌}
use native.Mathlib.Omega.{arith}
use lib.ListN.{length-set}
use lib.Seq.{paste, paste-zero}
use Rattle.area_write.specs.Write.{size_of}
use Rattle.area_write.proofs.Laws.{wire, put_more}
use Rattle.area_write.proofs.put_item.Goals as goal

pub loop-index-init : goal.loop-index-init
loop-index-init c = let a = c.args in (refl, paste-zero a.room.now a.at (wire a.values.now a.word))

pub byte_of-requires : goal.byte_of-requires
byte_of-requires c = (c.requires.0, omega (arith, c.length_of-size.ensures.0))

pub overflow_add-room : goal.overflow_add-room
overflow_add-room c = record { fits = omega (arith, c.length_of-size.ensures.0, c.requires.1) }

pub bounds-room-at : goal.bounds-room-at
bounds-room-at c = omega (arith, c.loop-index.invariant.0, c.length_of-size.ensures.0, c.requires.1)

pub loop-index-preserved : goal.loop-index-preserved
loop-index-preserved c =
    let l = c.loop-index in (
      length-set l.room (c.args.at + l.index) c.byte_of.result ∙ l.invariant.0,
      put_more c.args.values.now c.args.word c.requires.0 c.args.room.now l.room c.args.at l.index _ (omega (arith, c.length_of-size.ensures.0)) c.requires.1 l.invariant.1 c.byte_of.ensures,
    )

pub returns : goal.returns
returns c =
    let l = c.loop-index in
    let a = c.args in
    let e : l.index ≡ size_of a.word = omega (arith, c.length_of-size.ensures.0) in
    l.invariant.1 ∙ ap (paste a.room.now a.at (wire a.values.now a.word)) e
