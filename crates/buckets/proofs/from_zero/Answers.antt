use Rattle.std.proofs.Common.{◌≡◌, ℕ, ◌+◌, ◌-◌, ◌^◌, ◌<◌, sym, ◌∙◌, arith}
use Rattle.buckets.proofs.SignedFacts.{pick-below, pick-above}
use Rattle.buckets.proofs.from_zero.Goals as goal

-- the magnitude, as the code has it
negated : (w : ℕ) → w < 2 ^ 64 → 2 ^ 64 - 1 - w + 1 ≡ 2 ^ 64 - w
negated w h = omega arith

pub returns-then-word-lt-HALF : goal.returns-then-word-lt-HALF
returns-then-word-lt-HALF c = sym (pick-below c.args.word (2 ^ 63) c.args.word (2 ^ 64 - c.args.word) c.if-word-lt-HALF.true)

pub returns-else-word-lt-HALF : goal.returns-else-word-lt-HALF
returns-else-word-lt-HALF c =
    negated c.args.word c.ranges.word.fits
    ∙ sym (pick-above c.args.word (2 ^ 63) c.args.word (2 ^ 64 - c.args.word) c.if-word-lt-HALF.false)
