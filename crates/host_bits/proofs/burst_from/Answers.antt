use Rattle.host_bits.proofs.Answers.{no_burst, a_burst}
use Rattle.host_bits.proofs.burst_from.Goals as goal

pub returns-then-known-eq0 : goal.returns-then-known-eq0
returns-then-known-eq0 c = no_burst c.args.known c.args.bits c.if-known-eq0.true

pub returns : goal.returns
returns c = a_burst c.args.known c.args.bits c.if-known-eq0.false
