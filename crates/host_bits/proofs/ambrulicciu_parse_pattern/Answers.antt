use Rattle.host_bits.proofs.Answers.{parse-refused, parse-served}
use Rattle.host_bits.proofs.ambrulicciu_parse_pattern.Goals as goal

pub returns-in-Err : goal.returns-in-Err
returns-in-Err c = let a = c.args in parse-refused a.text.now a.room.now _ a.length.now _ _ c.in-Err.ensures c.from.ensures

pub returns-in-Ok : goal.returns-in-Ok
returns-in-Ok c = let a = c.args in parse-served a.text.now a.room.now _ a.length.now _ c.in-Ok.ensures
