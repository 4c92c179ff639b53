use Rattle.std.proofs.Common.{◌≡◌, ◌^◌, replicate, refl, arith, length-set, pow_pos, rules}
use lib.ListN.{get_or-replicate}
use Rattle.sample_passes.specs.Keys.{shifted}
use Rattle.sample_passes.proofs.DigitCounts.{counted_none, digit-small, digit-counted, digit_skipped, digit-most}
use Rattle.sample_passes.proofs.digits.Goals as goal
use Rattle.sample_passes.proofs.digits.Goals.{then-d-span, else-d-span}

pub loop-i-init : goal.loop-i-init
loop-i-init c = (
  omega arith,
  omega arith,
  refl,
  counted_none (shifted c.args.bias) c.args.samples.now c.args.low c.args.high
      (2 ^ c.args.shift) (replicate 256 0) (λ d l. get_or-replicate 256 d 0 0 l),
)

pub offset_bounds-counts-digit : goal.offset_bounds-counts-digit
offset_bounds-counts-digit c = omega (arith, digit-small c.past-d.result c.args.shift (omega arith))

pub bounds-counts-digit : goal.bounds-counts-digit
bounds-counts-digit c = digit-small c.past-d.result c.args.shift (omega arith)

pub overflow_add-counts : goal.overflow_add-counts
overflow_add-counts c =
    omega (
      arith,
      digit-most (shifted c.args.bias) c.args.samples.now c.loop-i.i c.args.low c.args.high
          (2 ^ c.args.shift) c.loop-i.counts c.loop-i.invariant.3 _ (digit-small c.past-d.result c.args.shift (omega arith)),
    )

pub bounds-counts-digit-then-d-span : goal.bounds-counts-digit-then-d-span
bounds-counts-digit-then-d-span c = digit-small c.past-d.result c.args.shift (omega arith)

pub loop-i-preserved : goal.loop-i-preserved
loop-i-preserved c = (
  omega arith,
  omega arith,
  elim c.if-d-span.branch [
    | then-d-span w ↦ rw (w.counts-is, length-set) c.loop-i.invariant.2
    | else-d-span w ↦ rw w.counts-is c.loop-i.invariant.2
  ],
  elim c.if-d-span.branch [
    | then-d-span w ↦ rw w.counts-is (digit-counted c.args.bias c.args.samples.now c.args.low c.args.high (2 ^ c.args.shift)
        (search rules) (search rules) c.loop-i.i (omega arith) c.past-d.result (search rules)
        c.past-d.ensures c.loop-i.counts c.loop-i.invariant.3 (omega arith) (pow_pos c.args.shift) (omega (arith, digit-small c.past-d.result c.args.shift (omega arith))))
    | else-d-span w ↦ rw w.counts-is (digit_skipped c.args.bias c.args.samples.now c.args.low c.args.high (2 ^ c.args.shift)
        (search rules) (search rules) c.loop-i.i (omega arith) c.past-d.result (search rules)
        c.past-d.ensures c.loop-i.counts c.loop-i.invariant.3 w.if-d-span.false)
  ],
)

pub returns : goal.returns
returns c =
    let e : c.loop-i.i ≡ c.args.count = omega arith in
    rw e at c.loop-i.invariant.3
