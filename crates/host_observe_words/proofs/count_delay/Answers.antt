use mathlib.Core.Path.{ap, ◌∙◌}
use lib.IntN.{ℤ}
use lib.Seq.{sets}
use Rattle.delays.specs.Delays.{recorded_of}
use Rattle.delays.specs.Sums.{nanoseconds_of}
use Rattle.follow_ups.proofs.Delayed.{delay-read}
use Rattle.host_ledger.specs.Parts.{delays_at, delays_words}
use Rattle.host_observe_words.proofs.count_delay.Goals as goal

pub returns : goal.returns
returns c =
    let s = c in
    let ns = delay-read s.args.times.t4 s.args.times.t3 s.args.offset (record { sfits = c.struct_told-1.given.0.1 }) (record { sfits = c.struct_told-2-1.given.1.0.1 }) s.ranges.offset s.requires.1.0 s.requires.1.1 s.requires.2 c.delay-ns.result c.delay-ns.ensures in
    c.count.ensures ∙ ap (λ (z : ℤ). sets s.args.ledger.now 50 (delays_words (recorded_of (delays_at 50 s.args.ledger.now) (nanoseconds_of z)))) ns
