use mathlib.Core.Path.{◌≡◌, refl, sym, ap, ap₂, ◌∙◌, subst}
use Prim.Native.Nat.{ℕ}
use native.Mathlib.Omega.{arith}
use lib.Bits.{bit_xor}
use Rattle.bit_runs.specs.Bits.{bits_of}
use Rattle.bit_runs.specs.Tally.{after, Room}
use Rattle.bit_errors.specs.Parts.{differing}
use Rattle.bit_errors.proofs.Parts.{up_to, up_to-none, up_to_more, up_to_room, word_bits}
use Rattle.bit_errors.proofs.after_words.Goals as goal

pub loop-at-init : goal.loop-at-init
loop-at-init c = (omega arith, refl, up_to-none (differing c.args.padding.now c.args.pattern.now) c.args.t c.requires.3.run)

pub after_word-u-requires : goal.after_word-u-requires
after_word-u-requires c =
    let l = c.loop-at in
    subst (Room 64) (sym l.invariant.2) (up_to_room (differing c.args.padding.now c.args.pattern.now) c.args.t l.at 8 c.args.end (omega arith) c.requires.3)

pub loop-at-preserved : goal.loop-at-preserved
loop-at-preserved c =
    let l = c.loop-at in (
      omega arith,
      omega arith,
      c.after_word-u.ensures
          ∙ ap₂ (λ (x : ℕ) (t : _). after (bits_of 64 x) t)
          (ap₂ bit_xor c.word_at.ensures c.word_at-in-loop-at.ensures)
          l.invariant.2
          ∙ up_to_more (differing c.args.padding.now c.args.pattern.now) c.args.t l.at 8 _
          (word_bits c.args.padding.now c.args.pattern.now c.requires.2
          (λ i. omega (arith, c.shared_slice_known-1.given i))
          (λ i. omega (arith, c.shared_slice_known-2-1.given i))
          3 l.at (omega arith)),
    )

pub returns : goal.returns
returns c =
    let e : c.loop-at.at ≡ c.args.end = omega arith in
    c.loop-at.invariant.2 ∙ ap (up_to (differing c.args.padding.now c.args.pattern.now) c.args.t) e
