use mathlib.Core.Path.{sym, ◌∙◌}
use native.Mathlib.Omega.{arith}
use Rattle.bit_observation.proofs.Laws.{read_more, read_none}
use Rattle.bit_observation.proofs.read_all.Goals as goal

pub loop-word-preserved : goal.loop-word-preserved
loop-word-preserved c =
    let l = c.loop-word in
    let a = c.args in
    l.invariant ∙ read_more a.bytes.now a.pattern.now l.reading a.items.now l.word-index (omega arith) c.turn-reading.ensures

pub returns : goal.returns
returns c =
    let l = c.loop-word in
    let a = c.args in
    sym (l.invariant ∙ read_none a.bytes.now a.pattern.now l.reading a.items.now l.word-index (omega arith))
