use mathlib.Core.Bool.{true, false}
use Rattle.log_record.proofs.Answers.{read_room, read-by}
use Rattle.log_record.proofs.read.Goals as goal

pub returns-then-bytes-ne96 : goal.returns-then-bytes-ne96
returns-then-bytes-ne96 c = read_room c.args.bytes.now c.if-bytes-ne96.true

pub returns-then-is_record : goal.returns-then-is_record
returns-then-is_record c = read-by c.args.bytes.now c.said-said.result c.is_record.result true c.if-bytes-ne96.false c.said-said.ensures c.is_record.ensures c.if-is_record.true

pub returns : goal.returns
returns c = read-by c.args.bytes.now c.said-said.result c.is_record.result false c.if-bytes-ne96.false c.said-said.ensures c.is_record.ensures c.if-is_record.false
