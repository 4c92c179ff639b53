use mathlib.Core.Path.{sym, ap, ◌∙◌, subst}
use mathlib.Core.List.{List}
use Prim.Native.Nat.{ℕ}
use native.Mathlib.Omega.{arith}
use lib.Bits.{bit_xor}
use lib.ListN.{length, get_or}
use lib.Seq.{take_all}
use Rattle.bit_runs.specs.Bits.{all_bits, bits_of}
use Rattle.bit_runs.specs.Tally.{after, Room}
use Rattle.bit_errors.specs.Parts.{differing}
use Rattle.bit_errors.proofs.Parts.{up_to-none, up_to_more, up_to_room, word_bits, differing-length}
use Rattle.bit_errors.proofs.after_bytes.Goals as goal

pub loop-at-init : goal.loop-at-init
loop-at-init c = up_to-none (differing c.args.padding.now c.args.pattern.now) c.args.t c.requires.1.run

pub after_byte-u-requires : goal.after_byte-u-requires
after_byte-u-requires c =
    let l = c.loop-at in
    subst (Room 8) (sym l.invariant) (up_to_room (differing c.args.padding.now c.args.pattern.now) c.args.t l.at 1 (length c.args.padding.now) (omega arith) c.requires.1)

pub loop-at-preserved : goal.loop-at-preserved
loop-at-preserved c =
    let l = c.loop-at in
    c.after_byte-u.ensures
    ∙ ap (after (bits_of 8 (bit_xor (get_or c.args.padding.now l.at 0) (get_or c.args.pattern.now l.at 0)))) l.invariant
    ∙ up_to_more (differing c.args.padding.now c.args.pattern.now) c.args.t l.at 1 _
    (word_bits c.args.padding.now c.args.pattern.now c.requires.0
    (λ i. omega (arith, c.type_inv.padding i))
    (λ i. omega (arith, c.type_inv.pattern i))
    0 l.at (omega arith))

pub returns : goal.returns
returns c =
    let d = differing c.args.padding.now c.args.pattern.now in
    c.loop-at.invariant
    ∙ ap (λ (s : List ℕ). after (all_bits s) c.args.t)
    (take_all c.loop-at.at d (omega (arith, differing-length c.args.padding.now c.args.pattern.now c.requires.0)))
