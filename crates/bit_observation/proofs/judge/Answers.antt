use native.Mathlib.Omega.{arith}
use Rattle.bit_observation.proofs.Laws.{part_length, no_padding, other_size, no_pattern, right_size}
use Rattle.bit_observation.proofs.judge.Goals as goal

pub returns-then-pattern-eq0 : goal.returns-then-pattern-eq0
returns-then-pattern-eq0 c =
    let a = c.args in
    no_pattern a.bytes.now a.pattern.now a.size a.wanted a.seen _ c.in-Some.is _ c.place-part.ensures c.if-end-from.true c.if-pattern-eq0.true

pub judge_count-requires : goal.judge_count-requires
judge_count-requires c =
    let a = c.args in
    let p = c.place-part in
    omega (arith, part_length a.bytes.now p.result.from p.result.end p.ensures.order p.ensures.inside, c.if-end-from.true, c.requires)

pub returns-then-end-from : goal.returns-then-end-from
returns-then-end-from c =
    let a = c.args in
    right_size a.bytes.now a.pattern.now a.size a.wanted a.seen _ c.in-Some.is _ c.place-part.ensures c.if-end-from.true c.if-pattern-eq0.false c.judge_count.ensures

pub returns-else-end-from : goal.returns-else-end-from
returns-else-end-from c =
    let a = c.args in
    other_size a.bytes.now a.pattern.now a.size a.wanted a.seen _ c.in-Some.is _ c.place-part.ensures c.if-end-from.false

pub returns-in-None : goal.returns-in-None
returns-in-None c =
    let a = c.args in
    no_padding a.bytes.now a.pattern.now a.size a.wanted a.seen c.in-None.is
