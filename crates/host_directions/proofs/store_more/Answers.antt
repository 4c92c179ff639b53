use Rattle.host_directions.proofs.Answers.{store_negative, store-plain}
use Rattle.host_directions.proofs.store_more.Goals as goal

pub returns-then-negative : goal.returns-then-negative
returns-then-negative c =
    let a = c.args in
    store_negative a.words.now a.reverse c.words_start-at.result a.count a.negative a.high a.low c.words_start-at.ensures.0 c.if-negative.true

pub returns : goal.returns
returns c =
    let a = c.args in
    store-plain a.words.now a.reverse c.words_start-at.result a.count a.negative a.high a.low c.words_start-at.ensures.0 c.if-negative.false c.requires
