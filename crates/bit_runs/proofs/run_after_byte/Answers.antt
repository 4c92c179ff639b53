use borrow.Author.Rules.{rules}
use Rattle.bit_runs.proofs.Steps.{byte_through, byte-ending}
use Rattle.bit_runs.proofs.run_after_byte.Goals as goal

pub returns-then-byte-eq255 : goal.returns-then-byte-eq255
returns-then-byte-eq255 c = byte_through c.args.run c.args.byte c.if-byte-eq255.true

pub returns : goal.returns
returns c = byte-ending c.args.run c.args.byte (search rules) c.if-byte-eq255.false
