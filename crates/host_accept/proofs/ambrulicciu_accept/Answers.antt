use mathlib.Core.Path.{refl, sym, ap, ◌∙◌}
use Prim.Native.Nat.{ℕ}
use Rattle.limits.proofs.Numbers.{in_some, in_none}
use Rattle.host_accept_words.specs.Accept.{accept_left}
use Rattle.host_accept_words.proofs.Steps.{sound, refused_is, served_is}
use Rattle.host_accept.proofs.ambrulicciu_accept.Goals as goal

pub served-requires : goal.served-requires
served-requires c =
    let a = c.args in
    sound a.ledger.now a.keys.now a.slots.now a.probes.now a.links.now 0 (sym (in_none _ _ c.refusal.ensures c.in-None.is)) refl

pub returns-in-None : goal.returns-in-None
returns-in-None c =
    let a = c.args in
    served_is a.ledger.now a.keys.now a.slots.now a.probes.now a.links.now 0 (sym (in_none _ _ c.refusal.ensures c.in-None.is)) a.answer.now _ _ _ _ _ _ _ _
    refl c.reply_of-reply.ensures c.served.ensures

pub returns-in-Some : goal.returns-in-Some
returns-in-Some c =
    let a = c.args in
    let told = in_some _ _ _ c.refusal.ensures c.in-Some.is in
    ap (λ (n : ℕ). accept_left n a.ledger.now a.keys.now a.slots.now a.probes.now a.links.now a.answer.now) c.from.ensures
    ∙ refused_is a.ledger.now a.keys.now a.slots.now a.probes.now a.links.now _ told.0 a.answer.now _ (λ z. told.1 (sym told.0 ∙ z))
