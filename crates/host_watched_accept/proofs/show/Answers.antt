use mathlib.Core.Path.{refl}
use Rattle.host_watched_accept.proofs.Ended.{stored_is, kept_is}
use Rattle.host_watched_accept.proofs.show.Goals as goal

pub returns-then-given-eq0 : goal.returns-then-given-eq0
returns-then-given-eq0 c =
    let a = c.args in
    (refl, stored_is a.given.number a.given.words a.answer.now _ c.if-given-eq0.true refl)

pub returns-else-given-eq0 : goal.returns-else-given-eq0
returns-else-given-eq0 c =
    let a = c.args in
    (refl, kept_is a.given.number a.given.words a.answer.now c.if-given-eq0.false)
