use mathlib.Core.Path.{refl, sym, ◌∙◌}
use Rattle.limits.proofs.Numbers.{in_some, in_none}
use Rattle.host_accept_burst.proofs.Serving.{entry_sound, entry-served, entry-refused}
use Rattle.host_accept_burst.proofs.serve_entry.Goals as goal

pub served-requires : goal.served-requires
served-requires c =
    let a = c.args in
    entry_sound a.ledger.now a.keys.now a.slots.now a.probes.now a.links.now a.entries.now a.i a.answers.now 0 (sym (in_none _ _ c.refusal_unless.ensures c.in-None.is)) refl

pub returns-in-None : goal.returns-in-None
returns-in-None c =
    let a = c.args in
    entry-served a.ledger.now a.keys.now a.slots.now a.probes.now a.links.now a.entries.now a.i a.answers.now 0 (sym (in_none _ _ c.refusal_unless.ensures c.in-None.is)) _ _ _ _ _ _ _ _ refl
    c.reply_at-reply.ensures c.served.ensures c.put_served.ensures

pub returns-in-Some : goal.returns-in-Some
returns-in-Some c =
    let a = c.args in
    let told = in_some _ _ _ c.refusal_unless.ensures c.in-Some.is in
    entry-refused a.ledger.now a.keys.now a.slots.now a.probes.now a.links.now a.entries.now a.i a.answers.now _ (c.from.ensures ∙ told.0) _ (λ z. told.1 (sym told.0 ∙ sym c.from.ensures ∙ z)) c.put_refused.ensures
