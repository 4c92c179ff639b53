use mathlib.Core.Path.{refl, ◌∙◌}
use Prim.Native.Nat.{◌+◌, ◌*◌}
use native.Mathlib.Omega.{arith}
use lib.ListN.{length-set}
use lib.Seq.{paste-zero}
use Rattle.bit_pattern.specs.Pattern.{bytes_of}
use Rattle.bit_pattern.proofs.Laws.{digit_at, put_more, all_put}
use Rattle.bit_pattern.proofs.put_bytes.Goals as goal

pub loop-at-init : goal.loop-at-init
loop-at-init c = (refl, paste-zero c.args.room.now 0 (bytes_of c.args.digits.now))

pub byte_of-requires : goal.byte_of-requires
byte_of-requires c =
    let l = c.loop-at in
    let d = c.args.digits.now in
    (digit_at d (2 * l.at) c.requires.0 (omega arith), digit_at d (2 * l.at + 1) c.requires.0 (omega arith))

pub loop-at-preserved : goal.loop-at-preserved
loop-at-preserved c =
    let l = c.loop-at in (
      length-set l.room l.at c.byte_of.result ∙ l.invariant.0,
      put_more c.args.room.now c.args.digits.now l.room l.at c.byte_of.result (omega arith) c.requires.2 l.invariant.1 c.byte_of.ensures,
    )

pub returns : goal.returns
returns c =
    let a = c.args in
    let l = c.loop-at in
    all_put a.room.now a.digits.now l.room l.at (omega arith) l.invariant.1
