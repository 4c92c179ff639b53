use Rattle.std.specs.Prelude.{Ok}
use mathlib.Core.Path.{sym, ap, ◌∙◌}
use borrow.Author.Tests.{lt-ltb, le-ltb}
use Rattle.request_limits.specs.Refusals.{most_padding}
use Rattle.bit_observation.specs.Observation.{ending, observed}
use Rattle.bit_observation.proofs.observation.Goals as goal

pub returns-then-size-gt-MOST_PADDING : goal.returns-then-size-gt-MOST_PADDING
unfolding observed
returns-then-size-gt-MOST_PADDING c = rw (lt-ltb most_padding c.args.size c.if-size-gt-MOST_PADDING.true)

pub returns-then-any_failed : goal.returns-then-any_failed
unfolding observed
returns-then-any_failed c = rw (le-ltb most_padding c.args.size c.if-size-gt-MOST_PADDING.false, c.if-intact.true, sym c.any_failed.ensures ∙ c.if-any_failed.true)

pub returns-then-intact : goal.returns-then-intact
unfolding observed
returns-then-intact c =
    let a = c.args in
    rw (le-ltb most_padding a.size c.if-size-gt-MOST_PADDING.false, c.if-intact.true, sym c.any_failed.ensures ∙ c.if-any_failed.false) (ap Ok (c.finish.ensures ∙ ap (ending a.bytes.now a.pattern.now a.size a.wanted) c.read_all-reading.ensures))

pub returns : goal.returns
unfolding observed
returns c = rw (le-ltb most_padding c.args.size c.if-size-gt-MOST_PADDING.false, c.if-intact.false)
