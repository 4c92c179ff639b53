use mathlib.Core.Path.{refl, sym, ap, ◌∙◌}
use Prim.Native.Nat.{ℕ}
use Rattle.limits.proofs.Numbers.{in_some, in_none}
use Rattle.ledger_checks.proofs.Order.{earlier_alone}
use Rattle.host_sent_words.specs.Sent.{sent_left}
use Rattle.host_sent_words.proofs.Steps.{sound, refused_is, served_is}
use Rattle.host_sent.specs.Sent.{sent_of}
use Rattle.host_sent.proofs.ambrulicciu_sent.Goals as goal

pub served-requires : goal.served-requires
served-requires c =
    let a = c.args in
    sound 0 a.ledger.now a.probes.now a.links.now 0 0 (sym (in_none _ _ c.refusal.ensures c.in-None.is)) (earlier_alone 0) refl

pub returns-in-None : goal.returns-in-None
unfolding sent_of
returns-in-None c =
    let a = c.args in
    served_is 0 a.ledger.now a.probes.now a.links.now 0 0 (sym (in_none _ _ c.refusal.ensures c.in-None.is)) (earlier_alone 0) _ _ _ _ _
    refl c.probe_of-probe.ensures c.served.ensures

pub returns-in-Some : goal.returns-in-Some
unfolding sent_of
returns-in-Some c =
    let a = c.args in
    let told = in_some _ _ _ c.refusal.ensures c.in-Some.is in
    ap (λ (n : ℕ). sent_left n a.ledger.now a.probes.now a.links.now) c.from.ensures
    ∙ refused_is 0 a.ledger.now a.probes.now a.links.now _ _ told.0 (earlier_alone _) _ (λ z. told.1 (sym told.0 ∙ z))
