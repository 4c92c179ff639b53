use Rattle.series.proofs.Spans.{span_low, span_high, span_plain}
use Rattle.std.proofs.Common.{rules}
use Rattle.series.proofs.span_of.Goals as goal

pub returns-then-word-lt9223372036854775808 : goal.returns-then-word-lt9223372036854775808
returns-then-word-lt9223372036854775808 c = span_low c.args.signed c.args.word c.if-signed.true c.if-word-lt9223372036854775808.true

pub returns-then-signed : goal.returns-then-signed
returns-then-signed c = span_high c.args.signed c.args.word c.if-signed.true (search rules) c.if-word-lt9223372036854775808.false

pub returns : goal.returns
returns c = span_plain c.args.signed c.args.word c.if-signed.false
