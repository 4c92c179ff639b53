use Rattle.std.proofs.Common.{◌+◌, ◌^◌, sym}
use Rattle.buckets.proofs.SignedFacts.{pick-below, pick-above}
use Rattle.buckets.proofs.twice_below_zero.Goals as goal

pub returns-then-word-lt-HALF : goal.returns-then-word-lt-HALF
returns-then-word-lt-HALF c = sym (pick-below c.args.word (2 ^ 63) 0 (c.args.place + c.args.place) c.if-word-lt-HALF.true)

pub returns-else-word-lt-HALF : goal.returns-else-word-lt-HALF
returns-else-word-lt-HALF c = sym (pick-above c.args.word (2 ^ 63) 0 (c.args.place + c.args.place) c.if-word-lt-HALF.false)
