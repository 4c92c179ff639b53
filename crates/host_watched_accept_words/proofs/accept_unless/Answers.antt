use mathlib.Core.Path.{◌∙◌}
use Rattle.host_watched_accept_words.proofs.Steps.{sound, refused_is, served_is}
use Rattle.host_watched_accept_words.proofs.accept_unless.Goals as goal

pub served-requires : goal.served-requires
served-requires c =
    let a = c.args in
    sound a.other a.ledger.now a.keys.now a.slots.now a.probes.now a.links.now _ _ (c.number-own.ensures ∙ c.refusal.ensures) c.first_of-number.ensures c.if-number-eq0.true

pub returns-then-number-eq0 : goal.returns-then-number-eq0
returns-then-number-eq0 c =
    let a = c.args in
    served_is a.other a.ledger.now a.keys.now a.slots.now a.probes.now a.links.now _ _ (c.number-own.ensures ∙ c.refusal.ensures) c.first_of-number.ensures a.reply _ _ _ _ _ _
    c.if-number-eq0.true c.served.ensures

pub returns-else-number-eq0 : goal.returns-else-number-eq0
returns-else-number-eq0 c =
    let a = c.args in
    refused_is a.other a.ledger.now a.keys.now a.slots.now a.probes.now a.links.now _ _ (c.number-own.ensures ∙ c.refusal.ensures) c.first_of-number.ensures a.reply c.if-number-eq0.false
