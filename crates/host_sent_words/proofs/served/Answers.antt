use mathlib.Core.Path.{sym, subst}
use lib.ListN.{length}
use Rattle.ledger_checks.specs.Sound.{SoundSent}
use Rattle.ledger_state.specs.declared.Ledger.{Ledger}
use Rattle.host_sent_words.proofs.Steps.{served-left}
use Rattle.host_sent_words.proofs.served.Goals as goal

pub served-next-requires : goal.served-next-requires
served-next-requires c =
    let r = c.before.before in
    let a = r.args in
    subst (λ (l : Ledger). SoundSent l (length a.probes.now) (length a.links.now)) (sym r.load-state.ensures) r.requires

pub returns : goal.returns
returns c =
    let r = c.before.before.before.before.before.before.before in
    let a = r.args in
    served-left a.ledger.now a.probes.now a.links.now a.probe _ _ _ _ _ r.load-state.ensures c.served-next.ensures c.store_sent.ensures
